-- The frame control field of IEEE 802.15.4 (IEEE 802.15.4-2020, section 7.2.2).
use Rattle.protocols.specs.declared.mac_frame_control.MacFrameControl.{MacFrameControl}
use Rattle.protocols.specs.declared.mac_frame_control.FrameKind.{FrameKind}
use Rattle.protocols.specs.declared.mac_frame_control.FrameKind.TheVariants.{Beacon, Data, Ack, Command, Unused, Multipurpose, Fragment, Further}
use Rattle.protocols.specs.declared.mac_frame_control.AddressMode.{AddressMode}
use Rattle.protocols.specs.declared.mac_frame_control.AddressMode.TheVariants.{Absent, Reserved, Short, Extended}
use Rattle.std.proofs.Common.{refl, true}
use Rattle.bitstream_format.specs.Format.{◌>>=◌, Plain as PlainFormat, Parts as FormatParts, format, renamed, field, done}
use Rattle.bitstream_format.specs.Cases.{cases}
use Rattle.std.specs.Prelude.{◌≡◌, ◌^◌, ◌<◌, ◌++◌, ◌∷◌, [], ◌==◌, if◌then◌else◌, ℕ, Bool, List, take, drop, nat_lt}
use Rattle.bitstream_io.specs.Callers.{Decoder, Encoder, pure, Order, Low, number, and_then, first_bit, unsigned_decoder, align, write_sequence}
use Rattle.bitstream_format.specs.Atoms as atom

-- Made by `./format` from formats/mac_frame_control.fields: edit that file and make this one anew.

-- n bits after the first k
abbrev pub bits_at : ℕ → ℕ → List Bool → List Bool
bits_at k n bits = take n (drop k bits)

-- the case of a number
abbrev pub frame_kind_of : ℕ → FrameKind
frame_kind_of n = if n == 0 then Beacon else if n == 1 then Data else if n == 2 then Ack else if n == 3 then Command
    else if n == 4 then Unused else if n == 5 then Multipurpose else if n == 6 then Fragment else Further

-- the number of a case
abbrev pub frame_kind_number : FrameKind → ℕ
frame_kind_number Beacon = 0
frame_kind_number Data = 1
frame_kind_number Ack = 2
frame_kind_number Command = 3
frame_kind_number Unused = 4
frame_kind_number Multipurpose = 5
frame_kind_number Fragment = 6
frame_kind_number Further = 7

-- the read of a case
abbrev pub frame_kind_read : Order → Decoder FrameKind
frame_kind_read o = and_then (unsigned_decoder o 8 3) (λ v. pure (frame_kind_of v))

-- the number of each case fits its bits, and decodes to that case
pub frame_kind_small : (it : FrameKind) → nat_lt (frame_kind_number it) (2 ^ 3) ≡ true
frame_kind_small Beacon = refl
frame_kind_small Data = refl
frame_kind_small Ack = refl
frame_kind_small Command = refl
frame_kind_small Unused = refl
frame_kind_small Multipurpose = refl
frame_kind_small Fragment = refl
frame_kind_small Further = refl

pub frame_kind_again : (it : FrameKind) → frame_kind_of (frame_kind_number it) ≡ it
frame_kind_again Beacon = refl
frame_kind_again Data = refl
frame_kind_again Ack = refl
frame_kind_again Command = refl
frame_kind_again Unused = refl
frame_kind_again Multipurpose = refl
frame_kind_again Fragment = refl
frame_kind_again Further = refl

-- the cases, by their numbers
abbrev pub frame_kind_cases : PlainFormat FrameKind
frame_kind_cases = cases 8 3 refl frame_kind_of frame_kind_number frame_kind_small frame_kind_again

-- the case of a number
abbrev pub address_mode_of : ℕ → AddressMode
address_mode_of n = if n == 0 then Absent else if n == 1 then Reserved else if n == 2 then Short else Extended

-- the number of a case
abbrev pub address_mode_number : AddressMode → ℕ
address_mode_number Absent = 0
address_mode_number Reserved = 1
address_mode_number Short = 2
address_mode_number Extended = 3

-- the read of a case
abbrev pub address_mode_read : Order → Decoder AddressMode
address_mode_read o = and_then (unsigned_decoder o 8 2) (λ v. pure (address_mode_of v))

-- the number of each case fits its bits, and decodes to that case
pub address_mode_small : (it : AddressMode) → nat_lt (address_mode_number it) (2 ^ 2) ≡ true
address_mode_small Absent = refl
address_mode_small Reserved = refl
address_mode_small Short = refl
address_mode_small Extended = refl

pub address_mode_again : (it : AddressMode) → address_mode_of (address_mode_number it) ≡ it
address_mode_again Absent = refl
address_mode_again Reserved = refl
address_mode_again Short = refl
address_mode_again Extended = refl

-- the cases, by their numbers
abbrev pub address_mode_cases : PlainFormat AddressMode
address_mode_cases = cases 8 2 refl address_mode_of address_mode_number address_mode_small address_mode_again

-- the lines, in order
abbrev pub mac_frame_control_lines : FormatParts MacFrameControl MacFrameControl (λ s. s)
mac_frame_control_lines = do
  kind ← field frame_kind_cases (λ s. s.kind)
  secured ← field atom.bool (λ s. s.secured)
  pending ← field atom.bool (λ s. s.pending)
  wants_ack ← field atom.bool (λ s. s.wants_ack)
  compressed ← field atom.bool (λ s. s.compressed)
  skipped_5 ← field (atom.pad 1) (λ s. tt)
  no_sequence ← field atom.bool (λ s. s.no_sequence)
  elements ← field atom.bool (λ s. s.elements)
  target_mode ← field address_mode_cases (λ s. s.target_mode)
  version ← field (atom.unsigned 8 2 refl) (λ s. s.version)
  source_mode ← field address_mode_cases (λ s. s.source_mode)
  done (record {
    kind = kind;
    secured = secured;
    pending = pending;
    wants_ack = wants_ack;
    compressed = compressed;
    no_sequence = no_sequence;
    elements = elements;
    target_mode = target_mode;
    version = version;
    source_mode =
        source_mode;
  })

-- the reads, in order
abbrev pub mac_frame_control_decoder : Order → Decoder MacFrameControl
mac_frame_control_decoder o = mac_frame_control_lines.read o

-- the writes, in order
abbrev pub mac_frame_control_writes : Order → MacFrameControl → List Encoder
mac_frame_control_writes o value = mac_frame_control_lines.write o value

-- each field fits its bits
pub record Fits (value : MacFrameControl) : Type 0 where
  pub version : value.version < 2 ^ 2

-- the number of bits
abbrev pub mac_frame_control_size : Order → MacFrameControl → ℕ
mac_frame_control_size o value = 16

-- the format, with the facts that must fit by name
abbrev pub mac_frame_control_format : PlainFormat MacFrameControl
mac_frame_control_format = renamed Fits (format mac_frame_control_lines (λ s. refl {a = s}))
    (λ s fits. fits.version)
    (λ s facts. record { version = facts })

-- the bits of all fields, up to a whole byte
unfoldable pub mac_frame_control_bits : MacFrameControl → List Bool
mac_frame_control_bits value = write_sequence (mac_frame_control_writes Low value ++ align ∷ []) 0

-- the fields in bits, each by its place
abbrev pub mac_frame_control_at : List Bool → MacFrameControl
mac_frame_control_at bits = record {
  kind = frame_kind_of (number Low (bits_at 0 3 bits));
  secured = first_bit (bits_at 3 1 bits);
  pending = first_bit (bits_at 4 1 bits);
  wants_ack = first_bit (bits_at 5 1 bits);
  compressed = first_bit (bits_at 6 1 bits);
  no_sequence = first_bit (bits_at 8 1 bits);
  elements = first_bit (bits_at 9 1 bits);
  target_mode = address_mode_of (number Low (bits_at 10 2 bits));
  version = number Low (bits_at 12 2 bits);
  source_mode = address_mode_of (number Low (bits_at 14 2 bits));
}

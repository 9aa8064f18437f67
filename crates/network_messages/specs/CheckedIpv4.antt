-- An IPv4 header without options, with its checksum (RFC 791, section 3.1).
use Rattle.network_messages.specs.declared.checked_ipv4.CheckedIpv4.{CheckedIpv4}
use Rattle.network_messages.specs.declared.checked_ipv4.CheckedIpv4Error.{CheckedIpv4Error}
use Rattle.network_messages.specs.declared.checked_ipv4.CheckedIpv4Error.TheVariants.{Reader, NoStart, WrongSum}
use Rattle.network_messages.specs.declared.checked_ipv4.Start.{Start}
use Rattle.network_messages.specs.declared.checked_ipv4.Start.TheVariants.{NoOptions}
use Rattle.std.proofs.Common.{refl, true}
use Rattle.bitstream_format.specs.Format.{Own as OwnFormat}
use Rattle.bitstream_format.specs.Cases.{cases}
use Rattle.std.specs.Prelude.{◌≡◌, ◌^◌, ◌<◌, ◌++◌, ◌∷◌, [], ◌==◌, if◌then◌else◌, ℕ, Bool, List, Result, Ok, Err, length, nat_lt}
use Rattle.bitstream_io.specs.Callers.{◌>>=◌, Decoder, Encoder, pure, Error, Order, High, and_then, unsigned_decoder, unsigned, align, write_sequence, part_then}
use Rattle.bitstream_format.specs.Checks.{bytes1, bytes2, bytes4, sum16}

-- Made by `./format` from formats/checked_ipv4.fields: edit that file and make this one anew.

-- an error of the reader is one of the type's
abbrev pub becomes_checked_ipv4 : Error → CheckedIpv4Error → Type 0
becomes_checked_ipv4 error own = own ≡ Reader error

-- the case of a number
abbrev pub start_of : ℕ → (Result Start CheckedIpv4Error)
start_of n = if n == 69 then Ok NoOptions else Err NoStart

-- the number of a case
abbrev pub start_number : Start → ℕ
start_number NoOptions = 69

-- the read of a case
abbrev pub start_read : Order → Decoder (Result Start CheckedIpv4Error)
start_read o = and_then (unsigned_decoder o 8 8) (λ v. pure (start_of v))

-- the number of each case fits its bits, and decodes to that case
pub start_small : (it : Start) → nat_lt (start_number it) (2 ^ 8) ≡ true
start_small NoOptions = refl

pub start_again : (it : Start) → start_of (start_number it) ≡ Ok it
start_again NoOptions = refl

-- the cases, by their numbers
abbrev pub start_cases : OwnFormat CheckedIpv4Error Start
start_cases = cases 8 8 refl start_of start_number start_small start_again

-- the reads, in order, after 2 that may be refused
abbrev pub checked_ipv4_decoder_2 : Order → Start → ℕ → ℕ → ℕ → ℕ → ℕ → ℕ → ℕ → ℕ → ℕ → Decoder (Result CheckedIpv4
    CheckedIpv4Error)
checked_ipv4_decoder_2 o start service length identification fragment time protocol stored_sum16 source target = pure
    (Ok (record {
      start = start;
      service = service;
      length = length;
      identification = identification;
      fragment =
          fragment;
      time = time;
      protocol = protocol;
      source = source;
      target = target;
    }))

-- the reads, in order, after 1 that may be refused
abbrev pub checked_ipv4_decoder_1 : Order → Start → Decoder (Result CheckedIpv4 CheckedIpv4Error)
checked_ipv4_decoder_1 o start = do
  service ← unsigned_decoder o 8 8
  length ← unsigned_decoder o 16 16
  identification ← unsigned_decoder o 16 16
  fragment ← unsigned_decoder o 16 16
  time ← unsigned_decoder o 8 8
  protocol ← unsigned_decoder o 8 8
  stored_sum16 ← unsigned_decoder o 16 16
  source ← unsigned_decoder o 32 32
  target ← unsigned_decoder o 32 32
  if stored_sum16 == sum16 (bytes1 (start_number start) ++ bytes1 service ++ bytes2 length ++ bytes2 identification ++
      bytes2 fragment ++ bytes1 time ++ bytes1 protocol ++ bytes4 source ++ bytes4 target) then checked_ipv4_decoder_2 o
      start service length identification fragment time protocol stored_sum16 source target else pure (Err WrongSum)

-- the reads, in order
abbrev pub checked_ipv4_decoder : Order → Decoder (Result CheckedIpv4 CheckedIpv4Error)
checked_ipv4_decoder o = and_then (start_read o) (part_then (λ start. checked_ipv4_decoder_1 o start))

-- the writes, in order
abbrev pub checked_ipv4_writes : Order → CheckedIpv4 → List Encoder
checked_ipv4_writes o value =
    unsigned o 8 8 (start_number value.start)
    ∷ unsigned o 8 8 value.service
    ∷ unsigned o 16 16 value.length
    ∷ unsigned o 16 16 value.identification
    ∷ unsigned o 16 16 value.fragment
    ∷ unsigned o 8 8 value.time
    ∷ unsigned o 8 8 value.protocol
    ∷ unsigned o 16 16 (sum16 (bytes1 (start_number value.start) ++ bytes1 value.service ++ bytes2 value.length ++
    bytes2 value.identification ++ bytes2 value.fragment ++ bytes1 value.time ++ bytes1 value.protocol ++ bytes4
    value.source ++ bytes4 value.target))
    ∷ unsigned o 32 32 value.source
    ∷ unsigned o 32 32 value.target
    ∷ []

-- each field fits its bits
pub record Fits (value : CheckedIpv4) : Type 0 where
  pub service : value.service < 2 ^ 8
  pub length : value.length < 2 ^ 16
  pub identification : value.identification < 2 ^ 16
  pub fragment : value.fragment < 2 ^ 16
  pub time : value.time < 2 ^ 8
  pub protocol : value.protocol < 2 ^ 8
  pub source : value.source < 2 ^ 32
  pub target : value.target < 2 ^ 32

-- the number of bits
abbrev pub checked_ipv4_size : Order → CheckedIpv4 → ℕ
checked_ipv4_size o value = 160

-- the bits of all fields, up to a whole byte
unfoldable pub checked_ipv4_bits : CheckedIpv4 → List Bool
checked_ipv4_bits value = write_sequence (checked_ipv4_writes High value ++ align ∷ []) 0

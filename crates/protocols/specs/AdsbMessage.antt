-- The fixed part of an ADS-B message (ICAO Annex 10, volume IV, section 3.1.2.8.6).
use Rattle.protocols.specs.declared.adsb_message.AdsbMessage.{AdsbMessage}
use Rattle.protocols.specs.declared.adsb_message.AdsbError.{AdsbError}
use Rattle.protocols.specs.declared.adsb_message.AdsbError.TheVariants.{Reader, OtherFormat}
use Rattle.std.proofs.Common.{refl}
use Rattle.bitstream_format.specs.Format.{◌>>=◌, Own as OwnFormat, Parts as FormatParts, format, renamed, field, const, ◌&◌, own_done}
use Rattle.std.specs.Prelude.{◌≡◌, ◌^◌, ◌<◌, ◌++◌, ◌∷◌, [], ℕ, Bool, List, Result, Ok, take, drop}
use Rattle.bitstream_io.specs.Callers.{Decoder, Encoder, Error, Order, High, number, align, write_sequence}
use Rattle.bitstream_format.specs.Atoms as atom

-- Made by `./format` from formats/adsb_message.fields: edit that file and make this one anew.

-- an error of the reader is one of the type's
abbrev pub becomes_adsb_message : Error → AdsbError → Type 0
becomes_adsb_message error own = own ≡ Reader error

-- n bits after the first k
abbrev pub bits_at : ℕ → ℕ → List Bool → List Bool
bits_at k n bits = take n (drop k bits)

-- the 5 bits at 0, which are 17
abbrev pub const_at_0 : List Bool → ℕ
const_at_0 bits = number High (bits_at 0 5 bits)

-- the lines, in order
abbrev pub adsb_message_lines : FormatParts AdsbMessage (Result AdsbMessage AdsbError) (λ s. Ok s)
adsb_message_lines = do
  constant_0 ← const 5 17 refl OtherFormat
  capability ← field (atom.unsigned 8 3 refl) (λ s. s.capability)
  aircraft ← field (atom.unsigned 32 24 refl) (λ s. s.aircraft)
  kind ← field (atom.unsigned 8 5 refl) (λ s. s.kind)
  message ← field (atom.unsigned 64 51 refl) (λ s. s.message)
  parity ← field (atom.unsigned 32 24 refl) (λ s. s.parity)
  own_done (record { capability = capability; aircraft = aircraft; kind = kind; message = message; parity = parity })

-- the reads, in order
abbrev pub adsb_message_decoder : Order → Decoder (Result AdsbMessage AdsbError)
adsb_message_decoder o = adsb_message_lines.read o

-- the writes, in order
abbrev pub adsb_message_writes : Order → AdsbMessage → List Encoder
adsb_message_writes o value = adsb_message_lines.write o value

-- each field fits its bits
pub record Fits (value : AdsbMessage) : Type 0 where
  pub capability : value.capability < 2 ^ 3
  pub aircraft : value.aircraft < 2 ^ 24
  pub kind : value.kind < 2 ^ 5
  pub message : value.message < 2 ^ 51
  pub parity : value.parity < 2 ^ 24

-- the number of bits
abbrev pub adsb_message_size : Order → AdsbMessage → ℕ
adsb_message_size o value = 112

-- the format, with the facts that must fit by name
abbrev pub adsb_message_format : OwnFormat AdsbError AdsbMessage
adsb_message_format = renamed Fits (format adsb_message_lines (λ s. refl {a = s}))
    (λ s fits. fits.capability & fits.aircraft & fits.kind & fits.message & fits.parity)
    (λ s facts. record {
      capability = facts.0;
      aircraft = facts.1.0;
      kind = facts.1.1.0;
      message = facts.1.1.1.0;
      parity
          = facts.1.1.1.1;
    })

-- the bits of all fields, up to a whole byte
unfoldable pub adsb_message_bits : AdsbMessage → List Bool
adsb_message_bits value = write_sequence (adsb_message_writes High value ++ align ∷ []) 0

-- the fields in bits, each by its place
abbrev pub adsb_message_at : List Bool → AdsbMessage
adsb_message_at bits = record {
  capability = number High (bits_at 5 3 bits);
  aircraft = number High (bits_at 8 24 bits);
  kind = number High (bits_at 32 5 bits);
  message = number High (bits_at 37 51 bits);
  parity = number High (bits_at 88 24 bits);
}

-- The header of GRE: parts that are there if a flag says so (RFC 2784, RFC 2890).
use Rattle.std.proofs.Common.{refl}
use Rattle.std.specs.Prelude.{◌<◌, ◌^◌, ℕ, Option, is_some}
use Rattle.std.specs.Option.{ForSome}
use Rattle.bitstream_io.specs.Callers.{Error}
use Rattle.bitstream_format.specs.Format.{◌>>=◌, Plain, Own, format, named, field, const, done, own_done}
use Rattle.bitstream_format.specs.Atoms as atom
use Rattle.bitstream_format.specs.Lists.{optional}

-- the errors of reading a header
pub data GreError : Type 0 where
  Reader : Error → GreError
  OtherVersion : GreError

-- a header: its protocol, and three numbers that may be missing
pub record Gre : Type 0 where
  pub protocol : ℕ
  pub checksum : Option ℕ
  pub key : Option ℕ
  pub sequence : Option ℕ

-- a checksum, and 16 bits without a meaning after it
abbrev pub checksum : Plain ℕ
checksum = format (do
  sum ← field (atom.unsigned 16 16 refl) (λ s. s)
  reserved ← field (atom.pad 16) (λ s. tt)
  done sum) (λ s. refl {a = s})

-- each number fits its bits
pub record GreFits (s : Gre) : Type 0 where
  pub protocol : s.protocol < 2 ^ 16
  pub checksum : ForSome s.checksum (λ x. x < 2 ^ 16)
  pub key : ForSome s.key (λ x. x < 2 ^ 32)
  pub sequence : ForSome s.sequence (λ x. x < 2 ^ 32)

-- the header, of which three flags state what is there
abbrev pub gre : Own GreError Gre
gre = named GreFits (format (do
  has_checksum ← field atom.bool (λ s. is_some s.checksum)
  routing ← field (atom.pad 1) (λ s. tt)
  has_key ← field atom.bool (λ s. is_some s.key)
  has_sequence ← field atom.bool (λ s. is_some s.sequence)
  reserved ← field (atom.pad 9) (λ s. tt)
  version ← const 3 0 refl OtherVersion
  protocol ← field (atom.unsigned 16 16 refl) (λ s. s.protocol)
  sum ← optional has_checksum checksum (λ s. s.checksum)
  key ← optional has_key (atom.unsigned 32 32 refl) (λ s. s.key)
  sequence ← optional has_sequence (atom.unsigned 32 32 refl) (λ s. s.sequence)
  own_done (record { protocol = protocol; checksum = sum; key = key; sequence = sequence }))
    (λ s. (refl, (refl, (refl, refl {a = s})))))
    (λ s fits. (fits.protocol, (fits.checksum, (fits.key, fits.sequence))))

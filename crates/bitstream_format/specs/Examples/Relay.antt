-- What a relay agent adds to a DHCP message: a list of parts of a stated size each, which fill a stated size (RFC 3046).
use Rattle.std.proofs.Common.{ℕ, List, length, refl}
use Rattle.bitstream_io.specs.Callers.{Error}
use Rattle.bitstream_io.specs.Loop.{parts_size}
use Rattle.bitstream_format.specs.Format.{◌>>=◌, Own, format, field, own_field, const, own_done}
use Rattle.bitstream_format.specs.Atoms as atom
use Rattle.bitstream_format.specs.Lists.{byte_list}
use Rattle.bitstream_format.specs.Sizes.{fill}
use Rattle.std.specs.Prelude.{◌/◌}

-- the errors of reading the option
pub data RelayError : Type 0 where
  Reader : Error → RelayError
  OtherOption : RelayError
  WrongSize : RelayError

-- a code, and bytes
pub record SubOption : Type 0 where
  pub code : ℕ
  pub value : List ℕ

-- what a relay adds
pub record Relay : Type 0 where
  pub options : List SubOption

-- a code, a size, and as many bytes
abbrev pub sub_option : Own RelayError SubOption
sub_option = format (do
  code ← field (atom.unsigned 8 8 refl) (λ s. s.code)
  count ← field (atom.unsigned 64 8 refl) (λ s. length s.value)
  value ← byte_list count (λ s. s.value)
  own_done (record { code = code; value = value })) (λ s. (refl, refl {a = s}))

-- the option, whose size states how many bytes its sub-options fill
abbrev pub relay : Own RelayError Relay
relay = format (do
  code ← const 8 82 refl OtherOption
  size ← field (atom.unsigned 64 8 refl) (λ s. parts_size sub_option.size s.options / 8)
  options ← own_field (fill size sub_option WrongSize Reader) (λ s. s.options)
  own_done (record { options = options })) (λ s. refl {a = s})

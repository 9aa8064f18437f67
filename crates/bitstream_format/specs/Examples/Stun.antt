-- The attribute XOR-MAPPED-ADDRESS of STUN: an address of one of two families, in a part of a stated size (RFC 5389, 15.2).
-- The port and the address are the numbers as they are in the message.
use Rattle.std.proofs.Common.{ℕ, ◌/◌, ◌==◌, Option, Some, None, Result, Ok, refl}
use Rattle.bitstream_io.specs.Callers.{Error}
use Rattle.bitstream_format.specs.Format.{◌>>=◌, Own, Parts, AllOf, format, field, own_field, const, own_done}
use Rattle.bitstream_format.specs.Atoms as atom
use Rattle.bitstream_format.specs.Choices.{plain_case, choose, refused}
use Rattle.bitstream_format.specs.Sizes.{sized}

-- the errors of reading an attribute
pub data StunError : Type 0 where
  Reader : Error → StunError
  OtherAttribute : StunError
  UnknownFamily : StunError
  WrongSize : StunError

-- a port and an address
pub data Mapped : Type 0 where
  V4 : ℕ → ℕ → Mapped
  V6 : ℕ → ℕ → Mapped

-- the number of a family
abbrev pub family_of : Mapped → ℕ
family_of (V4 port address) = 1
family_of (V6 port address) = 2

-- the port of either family
abbrev pub port_of : Mapped → ℕ
port_of (V4 port address) = port
port_of (V6 port address) = port

-- the address, if it is of 32 bits
abbrev pub v4_in : Mapped → Option ℕ
v4_in (V4 port address) = Some address
v4_in (V6 port address) = None

-- the address, if it is of 128 bits
abbrev pub v6_in : Mapped → Option ℕ
v6_in (V4 port address) = None
v6_in (V6 port address) = Some address

-- a family, a port, and an address of that family
abbrev pub mapped_parts : Parts Mapped (Result Mapped StunError) (λ s. Ok s)
mapped_parts = do
  reserved ← field (atom.pad 8) (λ s. tt)
  family ← field (atom.unsigned 8 8 refl) family_of
  port ← field (atom.unsigned 16 16 refl) port_of
  choose (family == 1) (plain_case (atom.unsigned 32 32 refl) (V4 port) v4_in)
      (choose (family == 2) (plain_case (atom.unsigned 128 128 refl) (V6 port) v6_in) (refused UnknownFamily))

-- a case is what its family and its numbers make
pub mapped_made : (s : Mapped) → AllOf (mapped_parts.made s)
mapped_made (V4 port address) = refl
mapped_made (V6 port address) = refl

-- the same, as a format
abbrev pub mapped_address : Own StunError Mapped
mapped_address = format mapped_parts mapped_made

-- the attribute: a type, a size in bytes, and an address that fills them
abbrev pub xor_mapped_address : Own StunError Mapped
xor_mapped_address = format (do
  type ← const 16 32 refl OtherAttribute
  size ← field (atom.unsigned 64 16 refl) (λ s. mapped_address.size s / 8)
  inside ← own_field (sized size mapped_address WrongSize Reader) (λ s. s)
  own_done inside) (λ s. refl {a = s})

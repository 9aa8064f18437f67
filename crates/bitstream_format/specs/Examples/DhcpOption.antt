-- An option of DHCP: a choice by a code, in a part of a stated size (RFC 2132).
use Rattle.std.proofs.Common.{◌≡◌, ℕ, ◌==◌, Option, Some, None, Result, Ok, refl, arith}
use Rattle.std.specs.Prelude.{◌<◌, ◌^◌}
use Rattle.bitstream_io.specs.Callers.{Error}
use Rattle.bitstream_format.specs.declared.examples.dhcp_option.DhcpOption.{DhcpOption}
use Rattle.bitstream_format.specs.declared.examples.dhcp_option.DhcpOption.TheVariants.{MessageType, LeaseTime}
use Rattle.bitstream_format.specs.declared.examples.dhcp_option.DhcpError.{DhcpError}
use Rattle.bitstream_format.specs.declared.examples.dhcp_option.DhcpError.TheVariants.{Reader, UnknownOption, WrongSize}
use Rattle.bitstream_format.specs.Format.{◌>>=◌, Own, Parts, Fits, format, format_if_made, named, field, own_field, own_done}
use Rattle.bitstream_format.specs.Atoms as atom
use Rattle.bitstream_format.specs.Choices.{plain_case, choose, refused}
use Rattle.bitstream_format.specs.Sizes.{sized}

-- an error of the reader becomes one of the type
abbrev pub becomes_dhcp : Error → DhcpError → Type 0
becomes_dhcp error own = own ≡ Reader error

-- the code of an option
abbrev pub code_of : DhcpOption → ℕ
code_of (MessageType kind) = 53
code_of (LeaseTime seconds) = 51

-- the bytes after the size
abbrev pub count_of : DhcpOption → ℕ
count_of (MessageType kind) = 1
count_of (LeaseTime seconds) = 4

-- the kind of a message, if the option states one
abbrev pub kind_in : DhcpOption → Option ℕ
kind_in (MessageType kind) = Some kind
kind_in (LeaseTime seconds) = None

-- the time of a lease, if the option states one
abbrev pub seconds_in : DhcpOption → Option ℕ
seconds_in (MessageType kind) = None
seconds_in (LeaseTime seconds) = Some seconds

-- the value of an option, by the code before it
abbrev pub inside : ℕ → Parts DhcpOption (Result DhcpOption DhcpError) (λ s. Ok s)
inside code =
    choose (code == 53) (plain_case (atom.unsigned 8 8 refl) (λ kind. MessageType kind) kind_in)
    (choose (code == 51) (plain_case (atom.unsigned 32 32 refl) (λ seconds. LeaseTime seconds) seconds_in)
    (refused UnknownOption))

-- each number fits its bits
abbrev pub DhcpFits : DhcpOption → Type 0
DhcpFits (MessageType kind) = kind < 2 ^ 8
DhcpFits (LeaseTime seconds) = seconds < 2 ^ 32

-- an option: a code, the size of the value in bytes, and the value
abbrev pub dhcp_option_parts : Own DhcpError DhcpOption
dhcp_option_parts = format (do
  code ← field (atom.unsigned 8 8 refl) code_of
  size ← field (atom.unsigned 8 8 refl) count_of
  found ← own_field (sized size (format_if_made (inside code)) WrongSize Reader) (λ s. s)
  own_done found) (λ s. refl {a = s})

pub dhcp_facts : (s : DhcpOption) → DhcpFits s → Fits dhcp_option_parts s
dhcp_facts (MessageType kind) fits = (omega arith, (omega arith, (refl, (fits, refl))))
dhcp_facts (LeaseTime seconds) fits = (omega arith, (omega arith, (refl, (fits, refl))))

-- an option, with the facts that must fit by name
abbrev pub dhcp_option : Own DhcpError DhcpOption
dhcp_option = named DhcpFits dhcp_option_parts dhcp_facts

use Rattle.std.proofs.Common.{ℕ, false, subst, rules}
use Rattle.bitstream_io.specs.Callers.{High, ReadsOwn, memory_source}
use Rattle.bitstream_format.specs.Format.{format_if_made}
use Rattle.bitstream_format.specs.Sizes.{limited, only}
use Rattle.bitstream_format.specs.Examples.DhcpOption.{inside, becomes_dhcp}
use Rattle.bitstream_format.specs.declared.examples.dhcp_option.DhcpError.TheVariants.{Reader, WrongSize}
use Rattle.bitstream_io.proofs.CallerLemmas.{next_own_read as next, exit_own_read as exit}
use Rattle.bitstream_format.proofs.DhcpLemmas.{last_part}
use Rattle.bitstream_format.proofs.examples.dhcp_option.DhcpOption.read.Goals as goal

pub returns-in_err-code : goal.returns-in_err-code
returns-in_err-code c = exit _ c.from_residual.ensures.1 c.in_err-code.ensures.reads

pub returns-in_err-size : goal.returns-in_err-size
returns-in_err-size c =
    next _ c.in_ok-code.ensures.reads (exit _ c.from_residual-in_err-size.ensures.1 c.in_err-size.ensures.reads)

pub returns : goal.returns
returns c = next _ c.in_ok-code.ensures.reads (next _ c.in_ok-size.ensures.reads
    (last_part (subst (λ (n : ℕ). ReadsOwn (memory_source High) becomes_dhcp (limited false n (only (format_if_made (inside c.in_ok-code.code)) WrongSize (λ x. Reader x) High) High) c.read-2.new.self c.read_filling.result c.read_filling.new.reader) (search rules) c.read_filling.ensures)))

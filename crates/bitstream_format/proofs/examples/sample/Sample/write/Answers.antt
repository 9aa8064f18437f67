-- Made by `./answers` from src/examples/sample.rt: when that changes make this one anew.
use borrow.Author.Rules.{sfits_of}
use Rattle.std.proofs.Common.{w16}
use Rattle.bitstream_io.proofs.WriteParts.{all_none}
use Rattle.bitstream_io.proofs.WriteSteps.{next_call, next_write, next_signed, stop_call, stop_write, stop_signed}
use Rattle.bitstream_format.proofs.examples.sample.Sample.write.Goals as goal

pub returns-in_err-write : goal.returns-in_err-write
returns-in_err-write g c = stop_write _ _ _ _ _ _ _ c.from_residual.ensures.1 c.in_err-write.ensures.writes

pub returns-in_err-write_bit : goal.returns-in_err-write_bit
returns-in_err-write_bit g c = next_write _ _ _ _ _ _ _ c.in_ok-write.ensures.writes (stop_call _ _ _ _ _ _ _
    c.from_residual-in_err-write_bit.ensures.1 c.in_err-write_bit.ensures.writes)

pub returns-in_err-write-2 : goal.returns-in_err-write-2
returns-in_err-write-2 g c = next_write _ _ _ _ _ _ _ c.in_ok-write.ensures.writes (next_call _ _ _ _ _ _ _
    c.in_ok-write_bit.ensures.writes (stop_signed _ _ _ _ _ _ _ w16 _ _ _ c.from_residual-in_err-write-2.ensures.1
    c.in_err-write-2.ensures.writes (search sfits_of)))

pub returns-in_err-write-3 : goal.returns-in_err-write-3
returns-in_err-write-3 g c = next_write _ _ _ _ _ _ _ c.in_ok-write.ensures.writes (next_call _ _ _ _ _ _ _
    c.in_ok-write_bit.ensures.writes (next_signed _ _ _ _ _ _ _ w16 _ _ _ c.in_ok-write-2.ensures.writes (search
    sfits_of) (stop_write _ _ _ _ _ _ _ c.from_residual-in_err-write-3.ensures.1 c.in_err-write-3.ensures.writes)))

pub returns : goal.returns
returns g c = next_write _ _ _ _ _ _ _ c.in_ok-write.ensures.writes (next_call _ _ _ _ _ _ _
    c.in_ok-write_bit.ensures.writes (next_signed _ _ _ _ _ _ _ w16 _ _ _ c.in_ok-write-2.ensures.writes (search
    sfits_of) (next_write _ _ _ _ _ _ _ c.in_ok-write-3.ensures.writes (all_none _ _))))

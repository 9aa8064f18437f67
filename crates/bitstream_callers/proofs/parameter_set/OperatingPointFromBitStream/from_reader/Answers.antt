-- Made by `./answers` from src/parameter_set.rt: when that changes make this one anew.
use Rattle.bitstream_io.proofs.CallerLemmas.{next_own_read as next, exit_own_read as exit}
use Rattle.bitstream_io.proofs.OwnSteps.{own_end}
use Rattle.bitstream_callers.proofs.parameter_set.OperatingPointFromBitStream.from_reader.Goals as goal

pub returns-in_err-read : goal.returns-in_err-read
returns-in_err-read g c = record { reads = exit _ c.from_residual.ensures.1 c.in_err-read.ensures.reads }

pub returns-in_err-read-2 : goal.returns-in_err-read-2
returns-in_err-read-2 g c = record {
  reads = next _ c.in_ok-read.ensures.reads (exit _ c.from_residual-in_err-read-2.ensures.1
      c.in_err-read-2.ensures.reads);
}

pub returns : goal.returns
returns g c = record { reads = next _ c.in_ok-read.ensures.reads (next _ c.in_ok-read-2.ensures.reads (own_end _ _)) }

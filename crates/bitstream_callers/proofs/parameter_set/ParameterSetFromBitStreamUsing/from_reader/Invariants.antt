use Rattle.bitstream_io.specs.Callers.{same_error}
use Rattle.bitstream_io.specs.Grows.{PartsRead}
use Rattle.bitstream_callers.specs.ParameterSet.{point_reads}
use Rattle.bitstream_callers.proofs.parameter_set.ParameterSetFromBitStreamUsing.from_reader.Given as goal

-- the points so far were read
abbrev pub invariant-loop : goal.invariant-loop
invariant-loop g l =
    let K = g.R.BitRead.source in
    PartsRead K same_error (point_reads K.order) l.counter l.initial.reader l.points.items l.reader

use Rattle.std.specs.IoError.{error_kind}
use Rattle.bitstream_order.specs.Refusal.{refused_write}
use Rattle.bitstream_order.proofs.port.Port.flush.Given as goal

abbrev pub ghost-record_refused_write : goal.ghost-record_refused_write
ghost-record_refused_write g a =
    refused_write g.S.Target.stream a._before.now.value a._wanted (error_kind a._error.now) a._after.now

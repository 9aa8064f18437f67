use Rattle.std.specs.IoError.{error_kind}
use Rattle.bitstream_order.specs.Refusal.{refused_read}
use Rattle.bitstream_order.proofs.port.Port.fetch_prefix.Given as goal

abbrev pub ghost-record_refused_read : goal.ghost-record_refused_read
ghost-record_refused_read g a =
    refused_read g.S.Source.stream a._before.now.value a._wanted (error_kind a._error.now) a._after.now

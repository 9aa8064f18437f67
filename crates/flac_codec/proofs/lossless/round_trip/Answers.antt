use Rattle.std.proofs.Common.{ap}
use Rattle.bitstream_io.specs.Callers.{OutOfMemory}
use Rattle.flac_codec.specs.declared.error.FlacError.TheVariants.{Reader}
use Rattle.flac_codec.proofs.LosslessLemmas.{matched_error}
use Rattle.flac_codec.proofs.lossless.round_trip.Goals as goal

pub returns-in_err-bytes : goal.returns-in_err-bytes
returns-in_err-bytes c = matched_error _ _ (Reader OutOfMemory) _ c.from_residual.ensures.1 (ap Reader c.in_err-bytes.ensures)

pub returns-in_err-found : goal.returns-in_err-found
returns-in_err-found c =
    let coded = rw (← c.as_slice.ensures.value) at c.in_ok-bytes.ensures in
    matched_error _ _ (Reader OutOfMemory) _ c.from_residual-in_err-found.ensures.1
    (c.in_err-found.ensures.back c.args.samples.now coded)

pub returns : goal.returns
returns c =
    let coded = rw (← c.as_slice.ensures.value) at c.in_ok-bytes.ensures in
    c.in_ok-found.ensures.back c.args.samples.now coded

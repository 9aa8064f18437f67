use Rattle.std.proofs.Common.{ap, length, refl, rules}
use Rattle.bitstream_io.specs.Callers.{High, OutOfMemory}
use Rattle.bitstream_io.specs.Growing.{growing_stream}
use Rattle.bitstream_io.specs.Writer.{writer_sink}
use Rattle.bitstream_io.proofs.WriteSteps.{packed_stream}
use Rattle.flac_codec.specs.Subframe.{subframe_decoder}
use Rattle.flac_codec.proofs.LosslessLemmas.{aligned_error, decodes, encode_error, encoded, growth, matched_error}
use Rattle.flac_codec.proofs.lossless.encode.Goals as goal

pub returns-in_err-write_subframe : goal.returns-in_err-write_subframe
returns-in_err-write_subframe c =
    matched_error _ _ OutOfMemory _ c.from_residual.ensures.1
    (encode_error (writer_sink growing_stream High) refl growth c.new-writer.result (ap (λ s. s.failed) c.new-writer.ensures)
    (subframe_decoder High c.args.width (length c.args.samples.now)) c.args.samples.now _ _ c.in_err-write_subframe.ensures)

pub returns-in_err-byte_align : goal.returns-in_err-byte_align
returns-in_err-byte_align c =
    matched_error _ _ OutOfMemory _ c.from_residual-in_err-byte_align.ensures.1
    (aligned_error (writer_sink growing_stream High) refl growth c.new-writer.result (ap (λ s. s.failed) c.new-writer.ensures)
    (subframe_decoder High c.args.width (length c.args.samples.now)) c.args.samples.now _ _ _ c.in_ok-write_subframe.ensures
    c.in_err-byte_align.ensures.writes)

pub returns : goal.returns
returns c =
    let found = encoded (writer_sink growing_stream High) (subframe_decoder High c.args.width (length c.args.samples.now))
    c.args.samples.now _ _ c.in_ok-write_subframe.ensures in
    let packed = packed_stream _ _ found.calls c.new-writer.result (cc) c.new-writer.ensures found.written
    c.in_ok-byte_align.ensures.writes in
    let whole = decodes found.calls _ c.args.width (length c.args.samples.now) c.args.samples.now (packed.whole refl) found.read in
    search (rules, whole)

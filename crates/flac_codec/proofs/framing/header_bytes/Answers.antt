use Rattle.std.proofs.Common.{◌∙◌, ap, refl, subst, sym}
use Rattle.bitstream_io.specs.Callers.{High, OutOfMemory}
use Rattle.bitstream_io.specs.Growing.{growing_bytes, growing_stream}
use Rattle.bitstream_io.specs.Writer.{writer_sink}
use Rattle.bitstream_io.proofs.WriteSteps.{packed_stream}
use Rattle.flac_codec.specs.Frame.{found, IsFoundIn}
use Rattle.flac_codec.specs.Header.{header_decoder}
use Rattle.flac_codec.proofs.FoundLemmas.{found-written}
use Rattle.flac_codec.proofs.LosslessLemmas.{growth, matched_error}
use Rattle.flac_codec.proofs.WrittenLemmas.{align_refused, calls_error, value_calls}
use Rattle.flac_codec.proofs.framing.header_bytes.Goals as goal

pub returns-in_err-write_header : goal.returns-in_err-write_header
returns-in_err-write_header c =
    matched_error _ _ OutOfMemory _ c.from_residual.ensures.1
    (calls_error (writer_sink growing_stream High) refl growth c.new-writer.result (ap (λ s. s.failed) c.new-writer.ensures)
    _ _ (value_calls c.in_err-write_header.ensures))

pub returns-in_err-byte_align : goal.returns-in_err-byte_align
returns-in_err-byte_align c =
    matched_error _ _ OutOfMemory _ c.from_residual-in_err-byte_align.ensures.1
    (align_refused (writer_sink growing_stream High) refl growth c.new-writer.result (ap (λ s. s.failed) c.new-writer.ensures)
    _ _ (value_calls c.in_ok-write_header.ensures) c.in_err-byte_align.ensures.writes)

pub returns : goal.returns
returns c =
    let written = c.in_ok-write_header.ensures in
    let packed = packed_stream _ _ written.calls c.new-writer.result (cc) c.new-writer.ensures written.written
    c.in_ok-byte_align.ensures.writes in
    let whole = found-written written.calls _ (header_decoder High) c.args.header.now (packed.whole refl) written.read in
    subst (λ bytes. IsFoundIn (found (header_decoder High)) bytes c.args.header.now)
    (sym (c.into_vec.ensures ∙ ap growing_bytes c.into_writer.ensures)) whole

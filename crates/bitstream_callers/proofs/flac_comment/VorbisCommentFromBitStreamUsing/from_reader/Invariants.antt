use Rattle.std.specs.Prelude.{map}
use Rattle.std.specs.String.{string_bytes}
use Rattle.bitstream_io.specs.Callers.{PartsRead}
use Rattle.bitstream_callers.specs.FlacComment.{text_reads}
use Rattle.bitstream_callers.specs.VorbisComment.{becomes_reader}
use Rattle.bitstream_callers.proofs.flac_comment.VorbisCommentFromBitStreamUsing.from_reader.Given as goal

-- the texts so far were read
abbrev pub invariant-loop : goal.invariant-loop
invariant-loop g l =
    let K = g.R.BitRead.source in
    PartsRead K becomes_reader (text_reads K.order) l.counter l.initial.reader (map string_bytes l.comment.items) l.reader

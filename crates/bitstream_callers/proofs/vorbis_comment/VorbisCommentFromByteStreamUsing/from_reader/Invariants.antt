use Rattle.bitstream_io.specs.ByteGrows.{BytePartsRead}
use Rattle.bitstream_callers.specs.VorbisComment.{becomes_reader, text_reads}
use Rattle.bitstream_callers.proofs.vorbis_comment.VorbisCommentFromByteStreamUsing.from_reader.Given as goal

-- the texts so far were read
abbrev pub invariant-loop : goal.invariant-loop
invariant-loop g l =
    BytePartsRead g.R.ByteRead.source becomes_reader text_reads l.counter l.initial.reader l.comments.items l.reader

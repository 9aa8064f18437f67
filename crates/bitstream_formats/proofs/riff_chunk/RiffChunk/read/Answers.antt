-- Made by `./format` from formats/riff_chunk.fields: edit that file and make this one anew.
use Rattle.bitstream_io.proofs.ReadsLemmas.{Reads-and_then-ok as next, Reads-pure, exit}
use Rattle.bitstream_formats.proofs.riff_chunk.RiffChunk.read.Goals as goal

pub returns-in_err-id : goal.returns-in_err-id
returns-in_err-id g c = exit _ _ c.from_residual.ensures.1 c.in_err-id.ensures.reads

pub returns-in_err-size : goal.returns-in_err-size
returns-in_err-size g c = next _ _ c.in_ok-id.ensures.reads (exit _ _ c.from_residual-in_err-size.ensures.1
    c.in_err-size.ensures.reads)

pub returns : goal.returns
returns g c = next _ _ c.in_ok-id.ensures.reads (next _ _ c.in_ok-size.ensures.reads (Reads-pure _ _))

use Rattle.flac_codec.proofs.EncodingLemmas.{wrote-more, wrote-none}
use Rattle.flac_codec.proofs.output.send.Goals as goal
use Rattle.flac_codec.proofs.output.send.Goals.{in-Ok, in-Err+else-ne}

pub loop-preserved : goal.loop-preserved
loop-preserved g c =
    let before = g.W.Write.contents c.args.writer.now in
    let old = g.W.Write.contents c.loop.writer in
    let new = g.W.Write.contents c.write.new.self in
    let bytes = c.args.bytes.now in
    let so_far = c.loop.invariant in
    elim c.match-write.branch [
      | in-Ok w ↦ wrote-more before old new bytes c.loop.sent w.in-Ok.count c.match-write.sent so_far.0 so_far.1
          w.in-Ok.ensures.bound w.in-Ok.ensures.bytes w.sent-is
      | in-Err+else-ne w ↦ wrote-none before old new bytes c.loop.sent c.match-write.sent so_far.0 so_far.1
          w.in-Err.ensures.bytes w.sent-is
    ]

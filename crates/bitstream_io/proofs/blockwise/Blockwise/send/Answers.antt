use Rattle.std.proofs.Common.{take, drop, sym, ap, ◌∙◌}
use Rattle.std.proofs.Math.Seq.{take-length}
use Rattle.std.proofs.lemmas.List.{length-drop}
use Rattle.bitstream_io.proofs.BlockwiseLemmas.{held-moved}
use Rattle.bitstream_io.proofs.blockwise.Blockwise.send.Goals as goal

pub returns-in_err-result-clause-bytes : goal.returns-in_err-result-clause-bytes
returns-in_err-result-clause-bytes g c =
    let s = c.args.self.now in
    let bytes = c.as_slice.result.now in
    let left = drop s.sent bytes in
    let all = ap (λ k. take k left) (sym (length-drop s.sent bytes)) ∙ take-length left in
    held-moved _ _ s.sent c.send_all-sent.result.0 s.held.bytes.items _
    (all ∙ ap (drop s.sent) c.as_slice.ensures) c.send_all-sent.ensures.bytes

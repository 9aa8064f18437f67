-- Made by `./format` from formats/rtp_packet.fields: edit that file and make this one anew.
use Rattle.std.proofs.Common.{◌∷◌, [], refl}
use Rattle.bitstream_io.proofs.CallerLemmas.{written-begin, written-more, written-stop}
use Rattle.bitstream_io.specs.Callers.{unsigned}
use Rattle.network_messages.proofs.rtp_packet.write_csrc.Goals as goal

pub loop-item-init : goal.loop-item-init
loop-item-init g c = let K = g.W.BitWrite.sink in
    written-begin K (λ x. unsigned K.order 32 32 x ∷ []) c.args.items.now _

pub returns-in_err-write : goal.returns-in_err-write
returns-in_err-write g c =
    let K = g.W.BitWrite.sink in
    written-stop K (λ x. unsigned K.order 32 32 x ∷ []) c.args.items.now _ _ _ _ _ _ _ _
    c.loop-item-test.true refl c.loop-item.invariant c.in_err-write.ensures.writes c.from_residual.ensures.1

pub loop-item-preserved : goal.loop-item-preserved
loop-item-preserved g c =
    let K = g.W.BitWrite.sink in
    written-more K (λ x. unsigned K.order 32 32 x ∷ []) c.args.items.now _ _ _ _ _ _
    c.loop-item-test.true refl c.loop-item.invariant c.in_ok-write.ensures.writes

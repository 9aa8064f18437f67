use Rattle.std.proofs.KnownBytes.{Keeps-refl}
use Rattle.bitstream_io.proofs.BlockwiseLemmas.{held-grown}
use Rattle.bitstream_io.proofs.blockwise.BlockwiseTarget.write_all.Goals as goal

pub returns-clause-bytes : goal.returns-clause-bytes
returns-clause-bytes g c =
    let s = c.args.self.now in
    held-grown c.write_all.result _ _ s.sent s.held.bytes.items _ _ (Keeps-refl _) s.few c.write_all.ensures.bytes

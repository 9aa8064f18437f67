use Rattle.std.proofs.Common.{arith}
use Rattle.flac_codec.proofs.EncodingLemmas.{head-back}
use Rattle.flac_codec.proofs.metadata.Metadata.to_bytes.Goals as goal

pub returns-clause-back : goal.returns-clause-back
returns-clause-back c =
    λ more. head-back c.args.self.now _ _ _ _ more c.first_byte-first.ensures.last c.first_byte-first.ensures.kind (omega (arith))

use Rattle.std.proofs.Common.{arith, rules}
use Rattle.std.proofs.lemmas.Bool.{lt-ltb, ltb-true}
use Rattle.flac_codec.specs.StreamInfo.{Fits}
use Rattle.flac_codec.proofs.starting.fits.Goals as goal

pub returns : goal.returns
returns c = (
  λ yes. record {
    minimum_block_size = c.size_fits.ensures;
    maximum_block_size = c.size_fits-2.ensures;
    minimum_frame_size = omega (arith, c.if-info-ge16777216.false);
    maximum_frame_size = omega (arith, c.if-info-ge16777216-2.false);
    sample_rate = omega (arith, c.if-info-ge1048576.false);
    channels = let is = c.get.ensures.value in let some = c.get.ensures.nonzero in omega (arith, is, some, c.if-get-gt8.false);
    bits_per_sample = let is = c.get-2.ensures.value in let some = c.get-2.ensures.nonzero in omega (arith, is, some, c.if-get-gt32.false);
    total_samples = ltb-true _ _ yes;
    checksum_count = search rules;
    checksum = c.bytes_fit.ensures;
  },
  λ fits. lt-ltb _ _ fits.total_samples,
)

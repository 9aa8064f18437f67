use Rattle.std.proofs.Common.{arith, rules}
use Rattle.flac_codec.proofs.filing.stream_info_of.Goals as goal

pub returns-clause-fits : goal.returns-clause-fits
returns-clause-fits c = record {
  minimum_block_size = omega (arith, c.ranges.block_size);
  maximum_block_size = omega (arith, c.ranges.block_size);
  minimum_frame_size = omega arith;
  maximum_frame_size = omega arith;
  sample_rate = c.requires.slow;
  channels = let is = c.non_zero.ensures in let few = c.requires.eight in omega (arith, is, few);
  bits_per_sample = let is = c.non_zero-2.ensures in let few = c.requires.within in omega (arith, is, few);
  total_samples = let is = c.sample_count.ensures in let few = c.requires.short in omega (arith, is, few);
  checksum_count = search rules;
  checksum = c.bytes_fit.ensures;
}

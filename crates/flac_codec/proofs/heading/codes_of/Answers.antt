use Rattle.std.proofs.Common.{refl}
use Rattle.flac_codec.proofs.heading.codes_of.Goals as goal

pub returns : goal.returns
returns c = record {
  variable = refl;
  block_size = c.block_size_code.ensures;
  sample_rate = c.sample_rate_code.ensures;
  channels = c.channels_code.ensures.code;
  sample_size = c.sample_size_code.ensures.code;
  few = c.channels_code.ensures.few;
  small = c.sample_size_code.ensures.small;
}

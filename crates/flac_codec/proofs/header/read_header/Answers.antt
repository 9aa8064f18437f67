use Rattle.bitstream_io.proofs.CallerLemmas.{is_error}
use Rattle.flac_codec.proofs.ResultLemmas.{own_part_go, own_part_stop, own_value_go, own_value_stop}
use Rattle.flac_codec.proofs.header.read_header.Goals as goal

pub returns-in_err-codes : goal.returns-in_err-codes
returns-in_err-codes g c =
    own_part_stop _ (is_error _ _ c.from_residual.ensures.1) c.in_err-codes.ensures.reads

pub returns-in_err-channels : goal.returns-in_err-channels
returns-in_err-channels g c =
    own_part_go _ c.in_ok-codes.ensures.reads (own_value_stop _ c.in_err-channels.ensures (is_error _ _ c.from_residual-in_err-channels.ensures.1))

pub returns-in_err-sample_size : goal.returns-in_err-sample_size
returns-in_err-sample_size g c =
    own_part_go _ c.in_ok-codes.ensures.reads (own_value_go _ c.in_ok-channels.ensures (own_value_stop _ c.in_err-sample_size.ensures (is_error _ _ c.from_residual-in_err-sample_size.ensures.1)))

pub returns : goal.returns
returns g c =
    own_part_go _ c.in_ok-codes.ensures.reads (own_value_go _ c.in_ok-channels.ensures (own_value_go _ c.in_ok-sample_size.ensures (c.read_numbers.ensures)))

use Rattle.bitstream_io.proofs.CallerLemmas.{is_error}
use Rattle.bitstream_io.proofs.OwnSteps.{own_end}
use Rattle.flac_codec.proofs.ResultLemmas.{own_part_go, own_part_stop}
use Rattle.flac_codec.proofs.header.read_numbers.Goals as goal

pub returns-in_err-number : goal.returns-in_err-number
returns-in_err-number g c =
    own_part_stop _ (is_error _ _ c.from_residual.ensures.1) c.in_err-number.ensures

pub returns-in_err-block_size : goal.returns-in_err-block_size
returns-in_err-block_size g c =
    own_part_go _ c.in_ok-number.ensures (own_part_stop _ (is_error _ _ c.from_residual-in_err-block_size.ensures.1) c.in_err-block_size.ensures)

pub returns-in_err-sample_rate : goal.returns-in_err-sample_rate
returns-in_err-sample_rate g c =
    own_part_go _ c.in_ok-number.ensures (own_part_go _ c.in_ok-block_size.ensures (own_part_stop _ (is_error _ _ c.from_residual-in_err-sample_rate.ensures.1) c.in_err-sample_rate.ensures))

pub returns : goal.returns
returns g c =
    own_part_go _ c.in_ok-number.ensures (own_part_go _ c.in_ok-block_size.ensures (own_part_go _ c.in_ok-sample_rate.ensures (own_end _ _)))

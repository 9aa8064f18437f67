-- Made by `./format` from formats/flac_info.fields: edit that file and make this one anew.
use Rattle.bitstream_io.proofs.ReadsLemmas.{Reads-and_then-ok as next, Reads-pure, exit}
use Rattle.media_messages.proofs.flac_info.FlacInfo.read.Goals as goal

pub returns-in_err-minimum_block_size : goal.returns-in_err-minimum_block_size
returns-in_err-minimum_block_size g c = exit _ _ c.from_residual.ensures.1 c.in_err-minimum_block_size.ensures.reads

pub returns-in_err-maximum_block_size : goal.returns-in_err-maximum_block_size
returns-in_err-maximum_block_size g c = next _ _ c.in_ok-minimum_block_size.ensures.reads (exit _ _
    c.from_residual-in_err-maximum_block_size.ensures.1 c.in_err-maximum_block_size.ensures.reads)

pub returns-in_err-minimum_frame_size : goal.returns-in_err-minimum_frame_size
returns-in_err-minimum_frame_size g c = next _ _ c.in_ok-minimum_block_size.ensures.reads (next _ _
    c.in_ok-maximum_block_size.ensures.reads (exit _ _ c.from_residual-in_err-minimum_frame_size.ensures.1
    c.in_err-minimum_frame_size.ensures.reads))

pub returns-in_err-maximum_frame_size : goal.returns-in_err-maximum_frame_size
returns-in_err-maximum_frame_size g c = next _ _ c.in_ok-minimum_block_size.ensures.reads (next _ _
    c.in_ok-maximum_block_size.ensures.reads (next _ _ c.in_ok-minimum_frame_size.ensures.reads (exit _ _
    c.from_residual-in_err-maximum_frame_size.ensures.1 c.in_err-maximum_frame_size.ensures.reads)))

pub returns-in_err-sample_rate : goal.returns-in_err-sample_rate
returns-in_err-sample_rate g c = next _ _ c.in_ok-minimum_block_size.ensures.reads (next _ _
    c.in_ok-maximum_block_size.ensures.reads (next _ _ c.in_ok-minimum_frame_size.ensures.reads (next _ _
    c.in_ok-maximum_frame_size.ensures.reads (exit _ _ c.from_residual-in_err-sample_rate.ensures.1
    c.in_err-sample_rate.ensures.reads))))

pub returns-in_err-channels : goal.returns-in_err-channels
returns-in_err-channels g c = next _ _ c.in_ok-minimum_block_size.ensures.reads (next _ _
    c.in_ok-maximum_block_size.ensures.reads (next _ _ c.in_ok-minimum_frame_size.ensures.reads (next _ _
    c.in_ok-maximum_frame_size.ensures.reads (next _ _ c.in_ok-sample_rate.ensures.reads (exit _ _
    c.from_residual-in_err-channels.ensures.1 c.in_err-channels.ensures.reads)))))

pub returns-in_err-bits_per_sample : goal.returns-in_err-bits_per_sample
returns-in_err-bits_per_sample g c = next _ _ c.in_ok-minimum_block_size.ensures.reads (next _ _
    c.in_ok-maximum_block_size.ensures.reads (next _ _ c.in_ok-minimum_frame_size.ensures.reads (next _ _
    c.in_ok-maximum_frame_size.ensures.reads (next _ _ c.in_ok-sample_rate.ensures.reads (next _ _
    c.in_ok-channels.ensures.reads (exit _ _ c.from_residual-in_err-bits_per_sample.ensures.1
    c.in_err-bits_per_sample.ensures.reads))))))

pub returns-in_err-total_samples : goal.returns-in_err-total_samples
returns-in_err-total_samples g c = next _ _ c.in_ok-minimum_block_size.ensures.reads (next _ _
    c.in_ok-maximum_block_size.ensures.reads (next _ _ c.in_ok-minimum_frame_size.ensures.reads (next _ _
    c.in_ok-maximum_frame_size.ensures.reads (next _ _ c.in_ok-sample_rate.ensures.reads (next _ _
    c.in_ok-channels.ensures.reads (next _ _ c.in_ok-bits_per_sample.ensures.reads (exit _ _
    c.from_residual-in_err-total_samples.ensures.1 c.in_err-total_samples.ensures.reads)))))))

pub returns-in_err-checksum : goal.returns-in_err-checksum
returns-in_err-checksum g c = next _ _ c.in_ok-minimum_block_size.ensures.reads (next _ _
    c.in_ok-maximum_block_size.ensures.reads (next _ _ c.in_ok-minimum_frame_size.ensures.reads (next _ _
    c.in_ok-maximum_frame_size.ensures.reads (next _ _ c.in_ok-sample_rate.ensures.reads (next _ _
    c.in_ok-channels.ensures.reads (next _ _ c.in_ok-bits_per_sample.ensures.reads (next _ _
    c.in_ok-total_samples.ensures.reads (exit _ _ c.from_residual-in_err-checksum.ensures.1
    c.in_err-checksum.ensures.reads))))))))

pub returns : goal.returns
returns g c = next _ _ c.in_ok-minimum_block_size.ensures.reads (next _ _ c.in_ok-maximum_block_size.ensures.reads (next
    _ _ c.in_ok-minimum_frame_size.ensures.reads (next _ _ c.in_ok-maximum_frame_size.ensures.reads (next _ _
    c.in_ok-sample_rate.ensures.reads (next _ _ c.in_ok-channels.ensures.reads (next _ _
    c.in_ok-bits_per_sample.ensures.reads (next _ _ c.in_ok-total_samples.ensures.reads (next _ _
    c.in_ok-checksum.ensures.reads (Reads-pure _ _)))))))))

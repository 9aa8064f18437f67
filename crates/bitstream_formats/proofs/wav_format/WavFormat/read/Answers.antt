-- Made by `./format` from formats/wav_format.fields: edit that file and make this one anew.
use Rattle.bitstream_io.proofs.ReadsLemmas.{Reads-and_then-ok as next, Reads-pure, exit}
use Rattle.bitstream_formats.proofs.wav_format.WavFormat.read.Goals as goal

pub returns-in_err-coding : goal.returns-in_err-coding
returns-in_err-coding g c = exit _ _ c.from_residual.ensures.1 c.in_err-coding.ensures

pub returns-in_err-channels : goal.returns-in_err-channels
returns-in_err-channels g c = next _ _ c.in_ok-coding.ensures (exit _ _ c.from_residual-in_err-channels.ensures.1
    c.in_err-channels.ensures.reads)

pub returns-in_err-sample_rate : goal.returns-in_err-sample_rate
returns-in_err-sample_rate g c = next _ _ c.in_ok-coding.ensures (next _ _ c.in_ok-channels.ensures.reads (exit _ _
    c.from_residual-in_err-sample_rate.ensures.1 c.in_err-sample_rate.ensures.reads))

pub returns-in_err-byte_rate : goal.returns-in_err-byte_rate
returns-in_err-byte_rate g c = next _ _ c.in_ok-coding.ensures (next _ _ c.in_ok-channels.ensures.reads (next _ _
    c.in_ok-sample_rate.ensures.reads (exit _ _ c.from_residual-in_err-byte_rate.ensures.1
    c.in_err-byte_rate.ensures.reads)))

pub returns-in_err-block_size : goal.returns-in_err-block_size
returns-in_err-block_size g c = next _ _ c.in_ok-coding.ensures (next _ _ c.in_ok-channels.ensures.reads (next _ _
    c.in_ok-sample_rate.ensures.reads (next _ _ c.in_ok-byte_rate.ensures.reads (exit _ _
    c.from_residual-in_err-block_size.ensures.1 c.in_err-block_size.ensures.reads))))

pub returns-in_err-bits_per_sample : goal.returns-in_err-bits_per_sample
returns-in_err-bits_per_sample g c = next _ _ c.in_ok-coding.ensures (next _ _ c.in_ok-channels.ensures.reads (next _ _
    c.in_ok-sample_rate.ensures.reads (next _ _ c.in_ok-byte_rate.ensures.reads (next _ _
    c.in_ok-block_size.ensures.reads (exit _ _ c.from_residual-in_err-bits_per_sample.ensures.1
    c.in_err-bits_per_sample.ensures.reads)))))

pub returns : goal.returns
returns g c = next _ _ c.in_ok-coding.ensures (next _ _ c.in_ok-channels.ensures.reads (next _ _
    c.in_ok-sample_rate.ensures.reads (next _ _ c.in_ok-byte_rate.ensures.reads (next _ _
    c.in_ok-block_size.ensures.reads (next _ _ c.in_ok-bits_per_sample.ensures.reads (Reads-pure _ _))))))

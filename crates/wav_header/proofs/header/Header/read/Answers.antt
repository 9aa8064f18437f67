-- Made by `./format` from formats/header.fields: edit that file and make this one anew.
use Rattle.std.proofs.Common.{refl}
use Rattle.bitstream_io.proofs.CallerLemmas.{next_own_read as next, next_own_const as next_const, exit_own_read as exit, exit_own_const as exit_const}
use Rattle.bitstream_io.proofs.OwnSteps.{own_end}
use Rattle.wav_header.proofs.header.Header.read.Goals as goal

pub returns-in_err-read_const : goal.returns-in_err-read_const
returns-in_err-read_const g c = exit_const _ _ c.from_residual.ensures.1 c.in_err-read_const.ensures.reads refl

pub returns-in_err-size : goal.returns-in_err-size
returns-in_err-size g c = next_const _ _ c.in_ok-read_const.ensures.reads (exit _ c.from_residual-in_err-size.ensures.1
    c.in_err-size.ensures.reads)

pub returns-in_err-read_const-2 : goal.returns-in_err-read_const-2
returns-in_err-read_const-2 g c = next_const _ _ c.in_ok-read_const.ensures.reads (next _ c.in_ok-size.ensures.reads
    (exit_const _ _ c.from_residual-in_err-read_const-2.ensures.1 c.in_err-read_const-2.ensures.reads refl))

pub returns-in_err-read_const-3 : goal.returns-in_err-read_const-3
returns-in_err-read_const-3 g c = next_const _ _ c.in_ok-read_const.ensures.reads (next _ c.in_ok-size.ensures.reads
    (next_const _ _ c.in_ok-read_const-2.ensures.reads (exit_const _ _ c.from_residual-in_err-read_const-3.ensures.1
    c.in_err-read_const-3.ensures.reads refl)))

pub returns-in_err-read_const-4 : goal.returns-in_err-read_const-4
returns-in_err-read_const-4 g c = next_const _ _ c.in_ok-read_const.ensures.reads (next _ c.in_ok-size.ensures.reads
    (next_const _ _ c.in_ok-read_const-2.ensures.reads (next_const _ _ c.in_ok-read_const-3.ensures.reads (exit_const _
    _ c.from_residual-in_err-read_const-4.ensures.1 c.in_err-read_const-4.ensures.reads refl))))

pub returns-in_err-coding : goal.returns-in_err-coding
returns-in_err-coding g c = next_const _ _ c.in_ok-read_const.ensures.reads (next _ c.in_ok-size.ensures.reads
    (next_const _ _ c.in_ok-read_const-2.ensures.reads (next_const _ _ c.in_ok-read_const-3.ensures.reads (next_const _
    _ c.in_ok-read_const-4.ensures.reads (exit _ c.from_residual-in_err-coding.ensures.1 c.in_err-coding.ensures)))))

pub returns-in_err-channels : goal.returns-in_err-channels
returns-in_err-channels g c = next_const _ _ c.in_ok-read_const.ensures.reads (next _ c.in_ok-size.ensures.reads
    (next_const _ _ c.in_ok-read_const-2.ensures.reads (next_const _ _ c.in_ok-read_const-3.ensures.reads (next_const _
    _ c.in_ok-read_const-4.ensures.reads (next _ c.in_ok-coding.ensures (exit _
    c.from_residual-in_err-channels.ensures.1 c.in_err-channels.ensures.reads))))))

pub returns-in_err-sample_rate : goal.returns-in_err-sample_rate
returns-in_err-sample_rate g c = next_const _ _ c.in_ok-read_const.ensures.reads (next _ c.in_ok-size.ensures.reads
    (next_const _ _ c.in_ok-read_const-2.ensures.reads (next_const _ _ c.in_ok-read_const-3.ensures.reads (next_const _
    _ c.in_ok-read_const-4.ensures.reads (next _ c.in_ok-coding.ensures (next _ c.in_ok-channels.ensures.reads (exit _
    c.from_residual-in_err-sample_rate.ensures.1 c.in_err-sample_rate.ensures.reads)))))))

pub returns-in_err-byte_rate : goal.returns-in_err-byte_rate
returns-in_err-byte_rate g c = next_const _ _ c.in_ok-read_const.ensures.reads (next _ c.in_ok-size.ensures.reads
    (next_const _ _ c.in_ok-read_const-2.ensures.reads (next_const _ _ c.in_ok-read_const-3.ensures.reads (next_const _
    _ c.in_ok-read_const-4.ensures.reads (next _ c.in_ok-coding.ensures (next _ c.in_ok-channels.ensures.reads (next _
    c.in_ok-sample_rate.ensures.reads (exit _ c.from_residual-in_err-byte_rate.ensures.1
    c.in_err-byte_rate.ensures.reads))))))))

pub returns-in_err-block_size : goal.returns-in_err-block_size
returns-in_err-block_size g c = next_const _ _ c.in_ok-read_const.ensures.reads (next _ c.in_ok-size.ensures.reads
    (next_const _ _ c.in_ok-read_const-2.ensures.reads (next_const _ _ c.in_ok-read_const-3.ensures.reads (next_const _
    _ c.in_ok-read_const-4.ensures.reads (next _ c.in_ok-coding.ensures (next _ c.in_ok-channels.ensures.reads (next _
    c.in_ok-sample_rate.ensures.reads (next _ c.in_ok-byte_rate.ensures.reads (exit _
    c.from_residual-in_err-block_size.ensures.1 c.in_err-block_size.ensures.reads)))))))))

pub returns-in_err-bits_per_sample : goal.returns-in_err-bits_per_sample
returns-in_err-bits_per_sample g c = next_const _ _ c.in_ok-read_const.ensures.reads (next _ c.in_ok-size.ensures.reads
    (next_const _ _ c.in_ok-read_const-2.ensures.reads (next_const _ _ c.in_ok-read_const-3.ensures.reads (next_const _
    _ c.in_ok-read_const-4.ensures.reads (next _ c.in_ok-coding.ensures (next _ c.in_ok-channels.ensures.reads (next _
    c.in_ok-sample_rate.ensures.reads (next _ c.in_ok-byte_rate.ensures.reads (next _ c.in_ok-block_size.ensures.reads
    (exit _ c.from_residual-in_err-bits_per_sample.ensures.1 c.in_err-bits_per_sample.ensures.reads))))))))))

pub returns-in_err-read_const-5 : goal.returns-in_err-read_const-5
returns-in_err-read_const-5 g c = next_const _ _ c.in_ok-read_const.ensures.reads (next _ c.in_ok-size.ensures.reads
    (next_const _ _ c.in_ok-read_const-2.ensures.reads (next_const _ _ c.in_ok-read_const-3.ensures.reads (next_const _
    _ c.in_ok-read_const-4.ensures.reads (next _ c.in_ok-coding.ensures (next _ c.in_ok-channels.ensures.reads (next _
    c.in_ok-sample_rate.ensures.reads (next _ c.in_ok-byte_rate.ensures.reads (next _ c.in_ok-block_size.ensures.reads
    (next _ c.in_ok-bits_per_sample.ensures.reads (exit_const _ _ c.from_residual-in_err-read_const-5.ensures.1
    c.in_err-read_const-5.ensures.reads refl)))))))))))

pub returns-in_err-data_size : goal.returns-in_err-data_size
returns-in_err-data_size g c = next_const _ _ c.in_ok-read_const.ensures.reads (next _ c.in_ok-size.ensures.reads
    (next_const _ _ c.in_ok-read_const-2.ensures.reads (next_const _ _ c.in_ok-read_const-3.ensures.reads (next_const _
    _ c.in_ok-read_const-4.ensures.reads (next _ c.in_ok-coding.ensures (next _ c.in_ok-channels.ensures.reads (next _
    c.in_ok-sample_rate.ensures.reads (next _ c.in_ok-byte_rate.ensures.reads (next _ c.in_ok-block_size.ensures.reads
    (next _ c.in_ok-bits_per_sample.ensures.reads (next_const _ _ c.in_ok-read_const-5.ensures.reads (exit _
    c.from_residual-in_err-data_size.ensures.1 c.in_err-data_size.ensures.reads))))))))))))

pub returns : goal.returns
returns g c = next_const _ _ c.in_ok-read_const.ensures.reads (next _ c.in_ok-size.ensures.reads (next_const _ _
    c.in_ok-read_const-2.ensures.reads (next_const _ _ c.in_ok-read_const-3.ensures.reads (next_const _ _
    c.in_ok-read_const-4.ensures.reads (next _ c.in_ok-coding.ensures (next _ c.in_ok-channels.ensures.reads (next _
    c.in_ok-sample_rate.ensures.reads (next _ c.in_ok-byte_rate.ensures.reads (next _ c.in_ok-block_size.ensures.reads
    (next _ c.in_ok-bits_per_sample.ensures.reads (next_const _ _ c.in_ok-read_const-5.ensures.reads (next _
    c.in_ok-data_size.ensures.reads (own_end _ _)))))))))))))

-- Made by `./format` from formats/ogg_header.fields: edit that file and make this one anew.
use Rattle.std.proofs.Common.{refl}
use Rattle.bitstream_io.proofs.CallerLemmas.{next_own_read as next, next_own_const as next_const, exit_own_read as exit, exit_own_const as exit_const}
use Rattle.bitstream_io.proofs.OwnSteps.{own_end}
use Rattle.bitstream_formats.proofs.ogg_header.OggHeader.read.Goals as goal

pub returns-in_err-read_const : goal.returns-in_err-read_const
returns-in_err-read_const g c = exit_const _ _ c.from_residual.ensures.1 c.in_err-read_const.ensures.reads refl

pub returns-in_err-read_const-2 : goal.returns-in_err-read_const-2
returns-in_err-read_const-2 g c = next_const _ _ c.in_ok-read_const.ensures.reads (exit_const _ _
    c.from_residual-in_err-read_const-2.ensures.1 c.in_err-read_const-2.ensures.reads refl)

pub returns-in_err-continued : goal.returns-in_err-continued
returns-in_err-continued g c = next_const _ _ c.in_ok-read_const.ensures.reads (next_const _ _
    c.in_ok-read_const-2.ensures.reads (exit _ c.from_residual-in_err-continued.ensures.1
    c.in_err-continued.ensures.reads))

pub returns-in_err-first : goal.returns-in_err-first
returns-in_err-first g c = next_const _ _ c.in_ok-read_const.ensures.reads (next_const _ _
    c.in_ok-read_const-2.ensures.reads (next _ c.in_ok-continued.ensures.reads (exit _
    c.from_residual-in_err-first.ensures.1 c.in_err-first.ensures.reads)))

pub returns-in_err-last : goal.returns-in_err-last
returns-in_err-last g c = next_const _ _ c.in_ok-read_const.ensures.reads (next_const _ _
    c.in_ok-read_const-2.ensures.reads (next _ c.in_ok-continued.ensures.reads (next _ c.in_ok-first.ensures.reads (exit
    _ c.from_residual-in_err-last.ensures.1 c.in_err-last.ensures.reads))))

pub returns-in_err-unused : goal.returns-in_err-unused
returns-in_err-unused g c = next_const _ _ c.in_ok-read_const.ensures.reads (next_const _ _
    c.in_ok-read_const-2.ensures.reads (next _ c.in_ok-continued.ensures.reads (next _ c.in_ok-first.ensures.reads (next
    _ c.in_ok-last.ensures.reads (exit _ c.from_residual-in_err-unused.ensures.1 c.in_err-unused.ensures.reads)))))

pub returns-in_err-granule : goal.returns-in_err-granule
returns-in_err-granule g c = next_const _ _ c.in_ok-read_const.ensures.reads (next_const _ _
    c.in_ok-read_const-2.ensures.reads (next _ c.in_ok-continued.ensures.reads (next _ c.in_ok-first.ensures.reads (next
    _ c.in_ok-last.ensures.reads (next _ c.in_ok-unused.ensures.reads (exit _ c.from_residual-in_err-granule.ensures.1
    c.in_err-granule.ensures.reads))))))

pub returns-in_err-serial : goal.returns-in_err-serial
returns-in_err-serial g c = next_const _ _ c.in_ok-read_const.ensures.reads (next_const _ _
    c.in_ok-read_const-2.ensures.reads (next _ c.in_ok-continued.ensures.reads (next _ c.in_ok-first.ensures.reads (next
    _ c.in_ok-last.ensures.reads (next _ c.in_ok-unused.ensures.reads (next _ c.in_ok-granule.ensures.reads (exit _
    c.from_residual-in_err-serial.ensures.1 c.in_err-serial.ensures.reads)))))))

pub returns-in_err-sequence : goal.returns-in_err-sequence
returns-in_err-sequence g c = next_const _ _ c.in_ok-read_const.ensures.reads (next_const _ _
    c.in_ok-read_const-2.ensures.reads (next _ c.in_ok-continued.ensures.reads (next _ c.in_ok-first.ensures.reads (next
    _ c.in_ok-last.ensures.reads (next _ c.in_ok-unused.ensures.reads (next _ c.in_ok-granule.ensures.reads (next _
    c.in_ok-serial.ensures.reads (exit _ c.from_residual-in_err-sequence.ensures.1
    c.in_err-sequence.ensures.reads))))))))

pub returns-in_err-checksum : goal.returns-in_err-checksum
returns-in_err-checksum g c = next_const _ _ c.in_ok-read_const.ensures.reads (next_const _ _
    c.in_ok-read_const-2.ensures.reads (next _ c.in_ok-continued.ensures.reads (next _ c.in_ok-first.ensures.reads (next
    _ c.in_ok-last.ensures.reads (next _ c.in_ok-unused.ensures.reads (next _ c.in_ok-granule.ensures.reads (next _
    c.in_ok-serial.ensures.reads (next _ c.in_ok-sequence.ensures.reads (exit _
    c.from_residual-in_err-checksum.ensures.1 c.in_err-checksum.ensures.reads)))))))))

pub returns-in_err-segments : goal.returns-in_err-segments
returns-in_err-segments g c = next_const _ _ c.in_ok-read_const.ensures.reads (next_const _ _
    c.in_ok-read_const-2.ensures.reads (next _ c.in_ok-continued.ensures.reads (next _ c.in_ok-first.ensures.reads (next
    _ c.in_ok-last.ensures.reads (next _ c.in_ok-unused.ensures.reads (next _ c.in_ok-granule.ensures.reads (next _
    c.in_ok-serial.ensures.reads (next _ c.in_ok-sequence.ensures.reads (next _ c.in_ok-checksum.ensures.reads (exit _
    c.from_residual-in_err-segments.ensures.1 c.in_err-segments.ensures.reads))))))))))

pub returns : goal.returns
returns g c = next_const _ _ c.in_ok-read_const.ensures.reads (next_const _ _ c.in_ok-read_const-2.ensures.reads (next _
    c.in_ok-continued.ensures.reads (next _ c.in_ok-first.ensures.reads (next _ c.in_ok-last.ensures.reads (next _
    c.in_ok-unused.ensures.reads (next _ c.in_ok-granule.ensures.reads (next _ c.in_ok-serial.ensures.reads (next _
    c.in_ok-sequence.ensures.reads (next _ c.in_ok-checksum.ensures.reads (next _ c.in_ok-segments.ensures.reads
    (own_end _ _)))))))))))

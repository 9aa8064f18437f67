-- Made by `./format` from formats/tcp_header.fields: edit that file and make this one anew.
use Rattle.bitstream_io.proofs.ReadsLemmas.{Reads-and_then-ok as next, exit}
use Rattle.protocols.proofs.tcp_header.TcpHeader.read.Goals as goal

pub returns-in_err-source : goal.returns-in_err-source
returns-in_err-source g c = exit _ _ c.from_residual.ensures.1 c.in_err-source.ensures.reads

pub returns-in_err-target : goal.returns-in_err-target
returns-in_err-target g c = next _ _ c.in_ok-source.ensures.reads (exit _ _ c.from_residual-in_err-target.ensures.1
    c.in_err-target.ensures.reads)

pub returns-in_err-sequence : goal.returns-in_err-sequence
returns-in_err-sequence g c = next _ _ c.in_ok-source.ensures.reads (next _ _ c.in_ok-target.ensures.reads (exit _ _
    c.from_residual-in_err-sequence.ensures.1 c.in_err-sequence.ensures.reads))

pub returns-in_err-acknowledged : goal.returns-in_err-acknowledged
returns-in_err-acknowledged g c = next _ _ c.in_ok-source.ensures.reads (next _ _ c.in_ok-target.ensures.reads (next _ _
    c.in_ok-sequence.ensures.reads (exit _ _ c.from_residual-in_err-acknowledged.ensures.1
    c.in_err-acknowledged.ensures.reads)))

pub returns-in_err-data_offset : goal.returns-in_err-data_offset
returns-in_err-data_offset g c = next _ _ c.in_ok-source.ensures.reads (next _ _ c.in_ok-target.ensures.reads (next _ _
    c.in_ok-sequence.ensures.reads (next _ _ c.in_ok-acknowledged.ensures.reads (exit _ _
    c.from_residual-in_err-data_offset.ensures.1 c.in_err-data_offset.ensures.reads))))

pub returns-in_err-skip : goal.returns-in_err-skip
returns-in_err-skip g c = next _ _ c.in_ok-source.ensures.reads (next _ _ c.in_ok-target.ensures.reads (next _ _
    c.in_ok-sequence.ensures.reads (next _ _ c.in_ok-acknowledged.ensures.reads (next _ _
    c.in_ok-data_offset.ensures.reads (exit _ _ c.from_residual-in_err-skip.ensures.1 c.in_err-skip.ensures.reads)))))

pub returns-in_err-cwr : goal.returns-in_err-cwr
returns-in_err-cwr g c = next _ _ c.in_ok-source.ensures.reads (next _ _ c.in_ok-target.ensures.reads (next _ _
    c.in_ok-sequence.ensures.reads (next _ _ c.in_ok-acknowledged.ensures.reads (next _ _
    c.in_ok-data_offset.ensures.reads (next _ _ c.in_ok-skip.ensures.reads (exit _ _
    c.from_residual-in_err-cwr.ensures.1 c.in_err-cwr.ensures.reads))))))

pub returns-in_err-ece : goal.returns-in_err-ece
returns-in_err-ece g c = next _ _ c.in_ok-source.ensures.reads (next _ _ c.in_ok-target.ensures.reads (next _ _
    c.in_ok-sequence.ensures.reads (next _ _ c.in_ok-acknowledged.ensures.reads (next _ _
    c.in_ok-data_offset.ensures.reads (next _ _ c.in_ok-skip.ensures.reads (next _ _ c.in_ok-cwr.ensures.reads (exit _ _
    c.from_residual-in_err-ece.ensures.1 c.in_err-ece.ensures.reads)))))))

pub returns : goal.returns
returns g c = next _ _ c.in_ok-source.ensures.reads (next _ _ c.in_ok-target.ensures.reads (next _ _
    c.in_ok-sequence.ensures.reads (next _ _ c.in_ok-acknowledged.ensures.reads (next _ _
    c.in_ok-data_offset.ensures.reads (next _ _ c.in_ok-skip.ensures.reads (next _ _ c.in_ok-cwr.ensures.reads (next _ _
    c.in_ok-ece.ensures.reads c.read_2.ensures)))))))

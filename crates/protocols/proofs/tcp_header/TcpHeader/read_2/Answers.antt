-- Made by `./format` from formats/tcp_header.fields: edit that file and make this one anew.
use Rattle.bitstream_io.proofs.ReadsLemmas.{Reads-and_then-ok as next, exit}
use Rattle.protocols.proofs.tcp_header.TcpHeader.read_2.Goals as goal

pub returns-in_err-urg : goal.returns-in_err-urg
returns-in_err-urg g c = exit _ _ c.from_residual.ensures.1 c.in_err-urg.ensures.reads

pub returns-in_err-ack : goal.returns-in_err-ack
returns-in_err-ack g c = next _ _ c.in_ok-urg.ensures.reads (exit _ _ c.from_residual-in_err-ack.ensures.1
    c.in_err-ack.ensures.reads)

pub returns-in_err-psh : goal.returns-in_err-psh
returns-in_err-psh g c = next _ _ c.in_ok-urg.ensures.reads (next _ _ c.in_ok-ack.ensures.reads (exit _ _
    c.from_residual-in_err-psh.ensures.1 c.in_err-psh.ensures.reads))

pub returns-in_err-rst : goal.returns-in_err-rst
returns-in_err-rst g c = next _ _ c.in_ok-urg.ensures.reads (next _ _ c.in_ok-ack.ensures.reads (next _ _
    c.in_ok-psh.ensures.reads (exit _ _ c.from_residual-in_err-rst.ensures.1 c.in_err-rst.ensures.reads)))

pub returns-in_err-syn : goal.returns-in_err-syn
returns-in_err-syn g c = next _ _ c.in_ok-urg.ensures.reads (next _ _ c.in_ok-ack.ensures.reads (next _ _
    c.in_ok-psh.ensures.reads (next _ _ c.in_ok-rst.ensures.reads (exit _ _ c.from_residual-in_err-syn.ensures.1
    c.in_err-syn.ensures.reads))))

pub returns-in_err-fin : goal.returns-in_err-fin
returns-in_err-fin g c = next _ _ c.in_ok-urg.ensures.reads (next _ _ c.in_ok-ack.ensures.reads (next _ _
    c.in_ok-psh.ensures.reads (next _ _ c.in_ok-rst.ensures.reads (next _ _ c.in_ok-syn.ensures.reads (exit _ _
    c.from_residual-in_err-fin.ensures.1 c.in_err-fin.ensures.reads)))))

pub returns-in_err-window : goal.returns-in_err-window
returns-in_err-window g c = next _ _ c.in_ok-urg.ensures.reads (next _ _ c.in_ok-ack.ensures.reads (next _ _
    c.in_ok-psh.ensures.reads (next _ _ c.in_ok-rst.ensures.reads (next _ _ c.in_ok-syn.ensures.reads (next _ _
    c.in_ok-fin.ensures.reads (exit _ _ c.from_residual-in_err-window.ensures.1 c.in_err-window.ensures.reads))))))

pub returns-in_err-checksum : goal.returns-in_err-checksum
returns-in_err-checksum g c = next _ _ c.in_ok-urg.ensures.reads (next _ _ c.in_ok-ack.ensures.reads (next _ _
    c.in_ok-psh.ensures.reads (next _ _ c.in_ok-rst.ensures.reads (next _ _ c.in_ok-syn.ensures.reads (next _ _
    c.in_ok-fin.ensures.reads (next _ _ c.in_ok-window.ensures.reads (exit _ _ c.from_residual-in_err-checksum.ensures.1
    c.in_err-checksum.ensures.reads)))))))

pub returns : goal.returns
returns g c = next _ _ c.in_ok-urg.ensures.reads (next _ _ c.in_ok-ack.ensures.reads (next _ _ c.in_ok-psh.ensures.reads
    (next _ _ c.in_ok-rst.ensures.reads (next _ _ c.in_ok-syn.ensures.reads (next _ _ c.in_ok-fin.ensures.reads (next _
    _ c.in_ok-window.ensures.reads (next _ _ c.in_ok-checksum.ensures.reads c.read_3.ensures)))))))

-- Made by `./format` from formats/mac_frame_control.fields: edit that file and make this one anew.
use Rattle.bitstream_io.proofs.ReadsLemmas.{Reads-and_then-ok as next, Reads-pure, exit}
use Rattle.protocols.proofs.mac_frame_control.MacFrameControl.read.Goals as goal

pub returns-in_err-kind : goal.returns-in_err-kind
returns-in_err-kind g c = exit _ _ c.from_residual.ensures.1 c.in_err-kind.ensures

pub returns-in_err-secured : goal.returns-in_err-secured
returns-in_err-secured g c = next _ _ c.in_ok-kind.ensures (exit _ _ c.from_residual-in_err-secured.ensures.1
    c.in_err-secured.ensures.reads)

pub returns-in_err-pending : goal.returns-in_err-pending
returns-in_err-pending g c = next _ _ c.in_ok-kind.ensures (next _ _ c.in_ok-secured.ensures.reads (exit _ _
    c.from_residual-in_err-pending.ensures.1 c.in_err-pending.ensures.reads))

pub returns-in_err-wants_ack : goal.returns-in_err-wants_ack
returns-in_err-wants_ack g c = next _ _ c.in_ok-kind.ensures (next _ _ c.in_ok-secured.ensures.reads (next _ _
    c.in_ok-pending.ensures.reads (exit _ _ c.from_residual-in_err-wants_ack.ensures.1
    c.in_err-wants_ack.ensures.reads)))

pub returns-in_err-compressed : goal.returns-in_err-compressed
returns-in_err-compressed g c = next _ _ c.in_ok-kind.ensures (next _ _ c.in_ok-secured.ensures.reads (next _ _
    c.in_ok-pending.ensures.reads (next _ _ c.in_ok-wants_ack.ensures.reads (exit _ _
    c.from_residual-in_err-compressed.ensures.1 c.in_err-compressed.ensures.reads))))

pub returns-in_err-skip : goal.returns-in_err-skip
returns-in_err-skip g c = next _ _ c.in_ok-kind.ensures (next _ _ c.in_ok-secured.ensures.reads (next _ _
    c.in_ok-pending.ensures.reads (next _ _ c.in_ok-wants_ack.ensures.reads (next _ _ c.in_ok-compressed.ensures.reads
    (exit _ _ c.from_residual-in_err-skip.ensures.1 c.in_err-skip.ensures.reads)))))

pub returns-in_err-no_sequence : goal.returns-in_err-no_sequence
returns-in_err-no_sequence g c = next _ _ c.in_ok-kind.ensures (next _ _ c.in_ok-secured.ensures.reads (next _ _
    c.in_ok-pending.ensures.reads (next _ _ c.in_ok-wants_ack.ensures.reads (next _ _ c.in_ok-compressed.ensures.reads
    (next _ _ c.in_ok-skip.ensures.reads (exit _ _ c.from_residual-in_err-no_sequence.ensures.1
    c.in_err-no_sequence.ensures.reads))))))

pub returns-in_err-elements : goal.returns-in_err-elements
returns-in_err-elements g c = next _ _ c.in_ok-kind.ensures (next _ _ c.in_ok-secured.ensures.reads (next _ _
    c.in_ok-pending.ensures.reads (next _ _ c.in_ok-wants_ack.ensures.reads (next _ _ c.in_ok-compressed.ensures.reads
    (next _ _ c.in_ok-skip.ensures.reads (next _ _ c.in_ok-no_sequence.ensures.reads (exit _ _
    c.from_residual-in_err-elements.ensures.1 c.in_err-elements.ensures.reads)))))))

pub returns-in_err-target_mode : goal.returns-in_err-target_mode
returns-in_err-target_mode g c = next _ _ c.in_ok-kind.ensures (next _ _ c.in_ok-secured.ensures.reads (next _ _
    c.in_ok-pending.ensures.reads (next _ _ c.in_ok-wants_ack.ensures.reads (next _ _ c.in_ok-compressed.ensures.reads
    (next _ _ c.in_ok-skip.ensures.reads (next _ _ c.in_ok-no_sequence.ensures.reads (next _ _
    c.in_ok-elements.ensures.reads (exit _ _ c.from_residual-in_err-target_mode.ensures.1
    c.in_err-target_mode.ensures))))))))

pub returns-in_err-version : goal.returns-in_err-version
returns-in_err-version g c = next _ _ c.in_ok-kind.ensures (next _ _ c.in_ok-secured.ensures.reads (next _ _
    c.in_ok-pending.ensures.reads (next _ _ c.in_ok-wants_ack.ensures.reads (next _ _ c.in_ok-compressed.ensures.reads
    (next _ _ c.in_ok-skip.ensures.reads (next _ _ c.in_ok-no_sequence.ensures.reads (next _ _
    c.in_ok-elements.ensures.reads (next _ _ c.in_ok-target_mode.ensures (exit _ _
    c.from_residual-in_err-version.ensures.1 c.in_err-version.ensures.reads)))))))))

pub returns-in_err-source_mode : goal.returns-in_err-source_mode
returns-in_err-source_mode g c = next _ _ c.in_ok-kind.ensures (next _ _ c.in_ok-secured.ensures.reads (next _ _
    c.in_ok-pending.ensures.reads (next _ _ c.in_ok-wants_ack.ensures.reads (next _ _ c.in_ok-compressed.ensures.reads
    (next _ _ c.in_ok-skip.ensures.reads (next _ _ c.in_ok-no_sequence.ensures.reads (next _ _
    c.in_ok-elements.ensures.reads (next _ _ c.in_ok-target_mode.ensures (next _ _ c.in_ok-version.ensures.reads (exit _
    _ c.from_residual-in_err-source_mode.ensures.1 c.in_err-source_mode.ensures))))))))))

pub returns : goal.returns
returns g c = next _ _ c.in_ok-kind.ensures (next _ _ c.in_ok-secured.ensures.reads (next _ _
    c.in_ok-pending.ensures.reads (next _ _ c.in_ok-wants_ack.ensures.reads (next _ _ c.in_ok-compressed.ensures.reads
    (next _ _ c.in_ok-skip.ensures.reads (next _ _ c.in_ok-no_sequence.ensures.reads (next _ _
    c.in_ok-elements.ensures.reads (next _ _ c.in_ok-target_mode.ensures (next _ _ c.in_ok-version.ensures.reads (next _
    _ c.in_ok-source_mode.ensures (Reads-pure _ _)))))))))))

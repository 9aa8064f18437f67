-- Made by `./format` from formats/tftp_request.fields: edit that file and make this one anew.
use Rattle.std.proofs.Common.{false}
use Rattle.bitstream_io.proofs.GrowsLemmas.{go_grown, stop_grown, if_grown, part_go, part_stop, grown_end}
use Rattle.bitstream_io.proofs.OwnLemmas.{is_error}
use Rattle.network_messages.proofs.tftp_request.TftpRequest.read.Goals as goal

pub returns-in_err-opcode : goal.returns-in_err-opcode
returns-in_err-opcode g c = part_stop _ (if_grown false c.in_err-opcode.ensures) (is_error _ _
    c.from_residual.ensures.1)

pub returns-in_err-name : goal.returns-in_err-name
returns-in_err-name g c = part_go _ (if_grown false c.in_ok-opcode.ensures) (stop_grown _ c.in_err-name.ensures
    c.from_residual-in_err-name.ensures.1)

pub returns-in_err-mode : goal.returns-in_err-mode
returns-in_err-mode g c = part_go _ (if_grown false c.in_ok-opcode.ensures) (go_grown _ c.in_ok-name.ensures (stop_grown
    _ c.in_err-mode.ensures c.from_residual-in_err-mode.ensures.1))

pub returns : goal.returns
returns g c = part_go _ (if_grown false c.in_ok-opcode.ensures) (go_grown _ c.in_ok-name.ensures (go_grown _
    c.in_ok-mode.ensures (grown_end _ _)))

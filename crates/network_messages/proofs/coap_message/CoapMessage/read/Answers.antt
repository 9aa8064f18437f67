-- Made by `./format` from formats/coap_message.fields: edit that file and make this one anew.
use Rattle.std.proofs.Common.{refl}
use Rattle.std.proofs.lemmas.Bool.{le-leb}
use Rattle.bitstream_io.proofs.CallerLemmas.{next_grown_const, exit_grown_const, if_growing, else_growing}
use Rattle.bitstream_io.proofs.GrowsLemmas.{go_grown, stop_grown, grown, vec-grown, grown_end}
use Rattle.bitstream_format.proofs.InGroupsLemmas.{above-leb}
use Rattle.network_messages.proofs.coap_message.CoapMessage.read.Goals as goal

pub returns-in_err-read_const : goal.returns-in_err-read_const
returns-in_err-read_const g c = exit_grown_const _ _ c.from_residual.ensures.1 c.in_err-read_const.ensures.reads refl

pub returns-in_err-kind : goal.returns-in_err-kind
returns-in_err-kind g c = next_grown_const _ _ c.in_ok-read_const.ensures.reads (stop_grown _ (grown
    c.in_err-kind.ensures) c.from_residual-in_err-kind.ensures.1)

pub returns-in_err-token_count : goal.returns-in_err-token_count
returns-in_err-token_count g c = next_grown_const _ _ c.in_ok-read_const.ensures.reads (go_grown _ (grown
    c.in_ok-kind.ensures) (stop_grown _ (grown c.in_err-token_count.ensures.reads)
    c.from_residual-in_err-token_count.ensures.1))

pub returns-then-not-is_token_count : goal.returns-then-not-is_token_count
returns-then-not-is_token_count g c = next_grown_const _ _ c.in_ok-read_const.ensures.reads (go_grown _ (grown
    c.in_ok-kind.ensures) (go_grown _ (grown c.in_ok-token_count.ensures.reads) (else_growing _ _ _ (above-leb _ _
    c.if-not-is_token_count.true) (grown_end _ _))))

pub returns-in_err-class : goal.returns-in_err-class
returns-in_err-class g c = next_grown_const _ _ c.in_ok-read_const.ensures.reads (go_grown _ (grown
    c.in_ok-kind.ensures) (go_grown _ (grown c.in_ok-token_count.ensures.reads) (if_growing _ _ _ (le-leb _ _
    c.if-not-is_token_count.false) (stop_grown _ (grown c.in_err-class.ensures.reads)
    c.from_residual-in_err-class.ensures.1))))

pub returns-in_err-detail : goal.returns-in_err-detail
returns-in_err-detail g c = next_grown_const _ _ c.in_ok-read_const.ensures.reads (go_grown _ (grown
    c.in_ok-kind.ensures) (go_grown _ (grown c.in_ok-token_count.ensures.reads) (if_growing _ _ _ (le-leb _ _
    c.if-not-is_token_count.false) (go_grown _ (grown c.in_ok-class.ensures.reads) (stop_grown _ (grown
    c.in_err-detail.ensures.reads) c.from_residual-in_err-detail.ensures.1)))))

pub returns-in_err-id : goal.returns-in_err-id
returns-in_err-id g c = next_grown_const _ _ c.in_ok-read_const.ensures.reads (go_grown _ (grown c.in_ok-kind.ensures)
    (go_grown _ (grown c.in_ok-token_count.ensures.reads) (if_growing _ _ _ (le-leb _ _ c.if-not-is_token_count.false)
    (go_grown _ (grown c.in_ok-class.ensures.reads) (go_grown _ (grown c.in_ok-detail.ensures.reads) (stop_grown _
    (grown c.in_err-id.ensures.reads) c.from_residual-in_err-id.ensures.1))))))

pub returns-in_err-token : goal.returns-in_err-token
returns-in_err-token g c = next_grown_const _ _ c.in_ok-read_const.ensures.reads (go_grown _ (grown
    c.in_ok-kind.ensures) (go_grown _ (grown c.in_ok-token_count.ensures.reads) (if_growing _ _ _ (le-leb _ _
    c.if-not-is_token_count.false) (go_grown _ (grown c.in_ok-class.ensures.reads) (go_grown _ (grown
    c.in_ok-detail.ensures.reads) (go_grown _ (grown c.in_ok-id.ensures.reads) (stop_grown _ (vec-grown _ _
    c.in_err-token.ensures.reads) c.from_residual-in_err-token.ensures.1)))))))

pub returns-in_err-options : goal.returns-in_err-options
returns-in_err-options g c = next_grown_const _ _ c.in_ok-read_const.ensures.reads (go_grown _ (grown
    c.in_ok-kind.ensures) (go_grown _ (grown c.in_ok-token_count.ensures.reads) (if_growing _ _ _ (le-leb _ _
    c.if-not-is_token_count.false) (go_grown _ (grown c.in_ok-class.ensures.reads) (go_grown _ (grown
    c.in_ok-detail.ensures.reads) (go_grown _ (grown c.in_ok-id.ensures.reads) (go_grown _ (vec-grown _ _
    c.in_ok-token.ensures.reads) (stop_grown _ (vec-grown _ _ (rw c.deref.ensures.value at (rw c.rest_after.ensures at
    c.in_err-options.ensures.reads))) c.from_residual-in_err-options.ensures.1))))))))

pub returns : goal.returns
returns g c = next_grown_const _ _ c.in_ok-read_const.ensures.reads (go_grown _ (grown c.in_ok-kind.ensures) (go_grown _
    (grown c.in_ok-token_count.ensures.reads) (if_growing _ _ _ (le-leb _ _ c.if-not-is_token_count.false) (go_grown _
    (grown c.in_ok-class.ensures.reads) (go_grown _ (grown c.in_ok-detail.ensures.reads) (go_grown _ (grown
    c.in_ok-id.ensures.reads) (go_grown _ (vec-grown _ _ c.in_ok-token.ensures.reads) (go_grown _ (vec-grown _ _ (rw
    c.deref.ensures.value at (rw c.rest_after.ensures at c.in_ok-options.ensures.reads))) (grown_end _ _)))))))))

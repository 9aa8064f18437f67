-- Made by `./format` from formats/dns_message.fields: edit that file and make this one anew.
use Rattle.bitstream_io.proofs.GrowsLemmas.{go_grown, stop_grown, grown, part_go, part_stop}
use Rattle.bitstream_io.proofs.OwnLemmas.{is_error}
use Rattle.bitstream_messages.proofs.dns_message.DnsMessage.read_2.Goals as goal

pub returns-in_err-authentic : goal.returns-in_err-authentic
returns-in_err-authentic g c = stop_grown _ (grown c.in_err-authentic.ensures.reads) c.from_residual.ensures.1

pub returns-in_err-unchecked : goal.returns-in_err-unchecked
returns-in_err-unchecked g c = go_grown _ (grown c.in_ok-authentic.ensures.reads) (stop_grown _ (grown
    c.in_err-unchecked.ensures.reads) c.from_residual-in_err-unchecked.ensures.1)

pub returns-in_err-code : goal.returns-in_err-code
returns-in_err-code g c = go_grown _ (grown c.in_ok-authentic.ensures.reads) (go_grown _ (grown
    c.in_ok-unchecked.ensures.reads) (stop_grown _ (grown c.in_err-code.ensures.reads)
    c.from_residual-in_err-code.ensures.1))

pub returns-in_err-questions_count : goal.returns-in_err-questions_count
returns-in_err-questions_count g c = go_grown _ (grown c.in_ok-authentic.ensures.reads) (go_grown _ (grown
    c.in_ok-unchecked.ensures.reads) (go_grown _ (grown c.in_ok-code.ensures.reads) (stop_grown _ (grown
    c.in_err-questions_count.ensures.reads) c.from_residual-in_err-questions_count.ensures.1)))

pub returns-in_err-answers_count : goal.returns-in_err-answers_count
returns-in_err-answers_count g c = go_grown _ (grown c.in_ok-authentic.ensures.reads) (go_grown _ (grown
    c.in_ok-unchecked.ensures.reads) (go_grown _ (grown c.in_ok-code.ensures.reads) (go_grown _ (grown
    c.in_ok-questions_count.ensures.reads) (stop_grown _ (grown c.in_err-answers_count.ensures.reads)
    c.from_residual-in_err-answers_count.ensures.1))))

pub returns-in_err-authorities_count : goal.returns-in_err-authorities_count
returns-in_err-authorities_count g c = go_grown _ (grown c.in_ok-authentic.ensures.reads) (go_grown _ (grown
    c.in_ok-unchecked.ensures.reads) (go_grown _ (grown c.in_ok-code.ensures.reads) (go_grown _ (grown
    c.in_ok-questions_count.ensures.reads) (go_grown _ (grown c.in_ok-answers_count.ensures.reads) (stop_grown _ (grown
    c.in_err-authorities_count.ensures.reads) c.from_residual-in_err-authorities_count.ensures.1)))))

pub returns-in_err-additional_count : goal.returns-in_err-additional_count
returns-in_err-additional_count g c = go_grown _ (grown c.in_ok-authentic.ensures.reads) (go_grown _ (grown
    c.in_ok-unchecked.ensures.reads) (go_grown _ (grown c.in_ok-code.ensures.reads) (go_grown _ (grown
    c.in_ok-questions_count.ensures.reads) (go_grown _ (grown c.in_ok-answers_count.ensures.reads) (go_grown _ (grown
    c.in_ok-authorities_count.ensures.reads) (stop_grown _ (grown c.in_err-additional_count.ensures.reads)
    c.from_residual-in_err-additional_count.ensures.1))))))

pub returns-in_err-questions : goal.returns-in_err-questions
returns-in_err-questions g c = go_grown _ (grown c.in_ok-authentic.ensures.reads) (go_grown _ (grown
    c.in_ok-unchecked.ensures.reads) (go_grown _ (grown c.in_ok-code.ensures.reads) (go_grown _ (grown
    c.in_ok-questions_count.ensures.reads) (go_grown _ (grown c.in_ok-answers_count.ensures.reads) (go_grown _ (grown
    c.in_ok-authorities_count.ensures.reads) (go_grown _ (grown c.in_ok-additional_count.ensures.reads) (part_stop _
    c.in_err-questions.ensures (is_error _ _ c.from_residual-in_err-questions.ensures.1))))))))

pub returns : goal.returns
returns g c = go_grown _ (grown c.in_ok-authentic.ensures.reads) (go_grown _ (grown c.in_ok-unchecked.ensures.reads)
    (go_grown _ (grown c.in_ok-code.ensures.reads) (go_grown _ (grown c.in_ok-questions_count.ensures.reads) (go_grown _
    (grown c.in_ok-answers_count.ensures.reads) (go_grown _ (grown c.in_ok-authorities_count.ensures.reads) (go_grown _
    (grown c.in_ok-additional_count.ensures.reads) (part_go _ c.in_ok-questions.ensures c.read_3.ensures)))))))

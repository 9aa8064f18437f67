-- Made by `./format` from formats/dns_record.fields: edit that file and make this one anew.
use Rattle.std.proofs.Common.{refl, Ok, Err}
use Rattle.bitstream_io.proofs.EachLemmas.{grown_made}
use Rattle.bitstream_io.proofs.GrowsLemmas.{go_grown, stop_grown, grown, vec-grown, part_go, part_stop, grown_end}
use Rattle.bitstream_io.proofs.OwnLemmas.{is_error}
use Rattle.bitstream_messages.proofs.dns_record.DnsRecord.read.Goals as goal

pub returns-in_err-name : goal.returns-in_err-name
returns-in_err-name g c = part_stop _ (grown_made _ (Err _) c.in_err-name.ensures (λ error is. rw is refl)) (is_error _
    _ c.from_residual.ensures.1)

pub returns-in_err-kind : goal.returns-in_err-kind
returns-in_err-kind g c = part_go _ (grown_made _ (Ok _) c.in_ok-name.ensures (λ error is. absurd is)) (stop_grown _
    (grown c.in_err-kind.ensures.reads) c.from_residual-in_err-kind.ensures.1)

pub returns-in_err-class : goal.returns-in_err-class
returns-in_err-class g c = part_go _ (grown_made _ (Ok _) c.in_ok-name.ensures (λ error is. absurd is)) (go_grown _
    (grown c.in_ok-kind.ensures.reads) (stop_grown _ (grown c.in_err-class.ensures.reads)
    c.from_residual-in_err-class.ensures.1))

pub returns-in_err-ttl : goal.returns-in_err-ttl
returns-in_err-ttl g c = part_go _ (grown_made _ (Ok _) c.in_ok-name.ensures (λ error is. absurd is)) (go_grown _ (grown
    c.in_ok-kind.ensures.reads) (go_grown _ (grown c.in_ok-class.ensures.reads) (stop_grown _ (grown
    c.in_err-ttl.ensures.reads) c.from_residual-in_err-ttl.ensures.1)))

pub returns-in_err-data_bytes : goal.returns-in_err-data_bytes
returns-in_err-data_bytes g c = part_go _ (grown_made _ (Ok _) c.in_ok-name.ensures (λ error is. absurd is)) (go_grown _
    (grown c.in_ok-kind.ensures.reads) (go_grown _ (grown c.in_ok-class.ensures.reads) (go_grown _ (grown
    c.in_ok-ttl.ensures.reads) (stop_grown _ (grown c.in_err-data_bytes.ensures.reads)
    c.from_residual-in_err-data_bytes.ensures.1))))

pub returns-in_err-data_ : goal.returns-in_err-data_
returns-in_err-data_ g c = part_go _ (grown_made _ (Ok _) c.in_ok-name.ensures (λ error is. absurd is)) (go_grown _
    (grown c.in_ok-kind.ensures.reads) (go_grown _ (grown c.in_ok-class.ensures.reads) (go_grown _ (grown
    c.in_ok-ttl.ensures.reads) (go_grown _ (grown c.in_ok-data_bytes.ensures.reads) (stop_grown _ (vec-grown _ _
    c.in_err-data_.ensures.reads) c.from_residual-in_err-data_.ensures.1)))))

pub returns : goal.returns
returns g c = part_go _ (grown_made _ (Ok _) c.in_ok-name.ensures (λ error is. absurd is)) (go_grown _ (grown
    c.in_ok-kind.ensures.reads) (go_grown _ (grown c.in_ok-class.ensures.reads) (go_grown _ (grown
    c.in_ok-ttl.ensures.reads) (go_grown _ (grown c.in_ok-data_bytes.ensures.reads) (go_grown _ (vec-grown _ _
    c.in_ok-data_.ensures.reads) (grown_end _ _))))))

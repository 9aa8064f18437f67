-- Made by `./format` from formats/hello.fields: edit that file and make this one anew.
use Rattle.std.proofs.Common.{refl, Ok, Err}
use Rattle.bitstream_io.proofs.CallerLemmas.{next_grown_const, exit_grown_const}
use Rattle.bitstream_io.proofs.EachLemmas.{grown_made}
use Rattle.bitstream_io.proofs.GrowsLemmas.{go_grown, stop_grown, grown, vec-grown, part_go, part_stop, grown_end}
use Rattle.bitstream_io.proofs.OwnLemmas.{is_error}
use Rattle.bitstream_messages.proofs.hello.Hello.read.Goals as goal

pub returns-in_err-read_const : goal.returns-in_err-read_const
returns-in_err-read_const g c = exit_grown_const _ _ c.from_residual.ensures.1 c.in_err-read_const.ensures.reads refl

pub returns-in_err-length_ : goal.returns-in_err-length_
returns-in_err-length_ g c = next_grown_const _ _ c.in_ok-read_const.ensures.reads (stop_grown _ (grown
    c.in_err-length_.ensures.reads) c.from_residual-in_err-length_.ensures.1)

pub returns-in_err-version : goal.returns-in_err-version
returns-in_err-version g c = next_grown_const _ _ c.in_ok-read_const.ensures.reads (go_grown _ (grown
    c.in_ok-length_.ensures.reads) (stop_grown _ (grown c.in_err-version.ensures.reads)
    c.from_residual-in_err-version.ensures.1))

pub returns-in_err-random : goal.returns-in_err-random
returns-in_err-random g c = next_grown_const _ _ c.in_ok-read_const.ensures.reads (go_grown _ (grown
    c.in_ok-length_.ensures.reads) (go_grown _ (grown c.in_ok-version.ensures.reads) (stop_grown _ (grown
    c.in_err-random.ensures.reads) c.from_residual-in_err-random.ensures.1)))

pub returns-in_err-session_count : goal.returns-in_err-session_count
returns-in_err-session_count g c = next_grown_const _ _ c.in_ok-read_const.ensures.reads (go_grown _ (grown
    c.in_ok-length_.ensures.reads) (go_grown _ (grown c.in_ok-version.ensures.reads) (go_grown _ (grown
    c.in_ok-random.ensures.reads) (stop_grown _ (grown c.in_err-session_count.ensures.reads)
    c.from_residual-in_err-session_count.ensures.1))))

pub returns-in_err-session : goal.returns-in_err-session
returns-in_err-session g c = next_grown_const _ _ c.in_ok-read_const.ensures.reads (go_grown _ (grown
    c.in_ok-length_.ensures.reads) (go_grown _ (grown c.in_ok-version.ensures.reads) (go_grown _ (grown
    c.in_ok-random.ensures.reads) (go_grown _ (grown c.in_ok-session_count.ensures.reads) (stop_grown _ (vec-grown _ _
    c.in_err-session.ensures.reads) c.from_residual-in_err-session.ensures.1)))))

pub returns-in_err-suites_count : goal.returns-in_err-suites_count
returns-in_err-suites_count g c = next_grown_const _ _ c.in_ok-read_const.ensures.reads (go_grown _ (grown
    c.in_ok-length_.ensures.reads) (go_grown _ (grown c.in_ok-version.ensures.reads) (go_grown _ (grown
    c.in_ok-random.ensures.reads) (go_grown _ (grown c.in_ok-session_count.ensures.reads) (go_grown _ (vec-grown _ _
    c.in_ok-session.ensures.reads) (stop_grown _ (grown c.in_err-suites_count.ensures.reads)
    c.from_residual-in_err-suites_count.ensures.1))))))

pub returns-in_err-suites : goal.returns-in_err-suites
returns-in_err-suites g c = next_grown_const _ _ c.in_ok-read_const.ensures.reads (go_grown _ (grown
    c.in_ok-length_.ensures.reads) (go_grown _ (grown c.in_ok-version.ensures.reads) (go_grown _ (grown
    c.in_ok-random.ensures.reads) (go_grown _ (grown c.in_ok-session_count.ensures.reads) (go_grown _ (vec-grown _ _
    c.in_ok-session.ensures.reads) (go_grown _ (grown c.in_ok-suites_count.ensures.reads) (stop_grown _ (vec-grown _ _
    c.in_err-suites.ensures.reads) c.from_residual-in_err-suites.ensures.1)))))))

pub returns-in_err-compressions_count : goal.returns-in_err-compressions_count
returns-in_err-compressions_count g c = next_grown_const _ _ c.in_ok-read_const.ensures.reads (go_grown _ (grown
    c.in_ok-length_.ensures.reads) (go_grown _ (grown c.in_ok-version.ensures.reads) (go_grown _ (grown
    c.in_ok-random.ensures.reads) (go_grown _ (grown c.in_ok-session_count.ensures.reads) (go_grown _ (vec-grown _ _
    c.in_ok-session.ensures.reads) (go_grown _ (grown c.in_ok-suites_count.ensures.reads) (go_grown _ (vec-grown _ _
    c.in_ok-suites.ensures.reads) (stop_grown _ (grown c.in_err-compressions_count.ensures.reads)
    c.from_residual-in_err-compressions_count.ensures.1))))))))

pub returns-in_err-compressions : goal.returns-in_err-compressions
returns-in_err-compressions g c = next_grown_const _ _ c.in_ok-read_const.ensures.reads (go_grown _ (grown
    c.in_ok-length_.ensures.reads) (go_grown _ (grown c.in_ok-version.ensures.reads) (go_grown _ (grown
    c.in_ok-random.ensures.reads) (go_grown _ (grown c.in_ok-session_count.ensures.reads) (go_grown _ (vec-grown _ _
    c.in_ok-session.ensures.reads) (go_grown _ (grown c.in_ok-suites_count.ensures.reads) (go_grown _ (vec-grown _ _
    c.in_ok-suites.ensures.reads) (go_grown _ (grown c.in_ok-compressions_count.ensures.reads) (stop_grown _ (vec-grown
    _ _ c.in_err-compressions.ensures.reads) c.from_residual-in_err-compressions.ensures.1)))))))))

pub returns-in_err-extensions : goal.returns-in_err-extensions
returns-in_err-extensions g c = next_grown_const _ _ c.in_ok-read_const.ensures.reads (go_grown _ (grown
    c.in_ok-length_.ensures.reads) (go_grown _ (grown c.in_ok-version.ensures.reads) (go_grown _ (grown
    c.in_ok-random.ensures.reads) (go_grown _ (grown c.in_ok-session_count.ensures.reads) (go_grown _ (vec-grown _ _
    c.in_ok-session.ensures.reads) (go_grown _ (grown c.in_ok-suites_count.ensures.reads) (go_grown _ (vec-grown _ _
    c.in_ok-suites.ensures.reads) (go_grown _ (grown c.in_ok-compressions_count.ensures.reads) (go_grown _ (vec-grown _
    _ c.in_ok-compressions.ensures.reads) (part_stop _ (grown_made _ (Err _) c.in_err-extensions.ensures (λ error is. rw
    is refl)) (is_error _ _ c.from_residual-in_err-extensions.ensures.1)))))))))))

pub returns : goal.returns
returns g c = next_grown_const _ _ c.in_ok-read_const.ensures.reads (go_grown _ (grown c.in_ok-length_.ensures.reads)
    (go_grown _ (grown c.in_ok-version.ensures.reads) (go_grown _ (grown c.in_ok-random.ensures.reads) (go_grown _
    (grown c.in_ok-session_count.ensures.reads) (go_grown _ (vec-grown _ _ c.in_ok-session.ensures.reads) (go_grown _
    (grown c.in_ok-suites_count.ensures.reads) (go_grown _ (vec-grown _ _ c.in_ok-suites.ensures.reads) (go_grown _
    (grown c.in_ok-compressions_count.ensures.reads) (go_grown _ (vec-grown _ _ c.in_ok-compressions.ensures.reads)
    (part_go _ (grown_made _ (Ok _) c.in_ok-extensions.ensures (λ error is. absurd is)) (grown_end _ _)))))))))))

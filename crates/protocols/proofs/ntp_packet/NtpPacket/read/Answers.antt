-- Made by `./format` from formats/ntp_packet.fields: edit that file and make this one anew.
use borrow.Author.Rules.{sfits_of}
use Rattle.bitstream_io.proofs.ReadSteps.{next_signed_read}
use Rattle.bitstream_io.proofs.ReadsLemmas.{Reads-and_then-ok as next, Reads-pure, exit}
use Rattle.protocols.proofs.ntp_packet.NtpPacket.read.Goals as goal

pub returns-in_err-leap : goal.returns-in_err-leap
returns-in_err-leap g c = exit _ _ c.from_residual.ensures.1 c.in_err-leap.ensures

pub returns-in_err-version : goal.returns-in_err-version
returns-in_err-version g c = next _ _ c.in_ok-leap.ensures (exit _ _ c.from_residual-in_err-version.ensures.1
    c.in_err-version.ensures.reads)

pub returns-in_err-mode : goal.returns-in_err-mode
returns-in_err-mode g c = next _ _ c.in_ok-leap.ensures (next _ _ c.in_ok-version.ensures.reads (exit _ _
    c.from_residual-in_err-mode.ensures.1 c.in_err-mode.ensures))

pub returns-in_err-stratum : goal.returns-in_err-stratum
returns-in_err-stratum g c = next _ _ c.in_ok-leap.ensures (next _ _ c.in_ok-version.ensures.reads (next _ _
    c.in_ok-mode.ensures (exit _ _ c.from_residual-in_err-stratum.ensures.1 c.in_err-stratum.ensures.reads)))

pub returns-in_err-poll : goal.returns-in_err-poll
returns-in_err-poll g c = next _ _ c.in_ok-leap.ensures (next _ _ c.in_ok-version.ensures.reads (next _ _
    c.in_ok-mode.ensures (next _ _ c.in_ok-stratum.ensures.reads (exit _ _ c.from_residual-in_err-poll.ensures.1
    c.in_err-poll.ensures.reads))))

pub returns-in_err-precision : goal.returns-in_err-precision
returns-in_err-precision g c = next _ _ c.in_ok-leap.ensures (next _ _ c.in_ok-version.ensures.reads (next _ _
    c.in_ok-mode.ensures (next _ _ c.in_ok-stratum.ensures.reads (next_signed_read _ _ _ _ c.in_ok-poll.ensures.reads
    (search (sfits_of, c.in_ok-poll)) (exit _ _ c.from_residual-in_err-precision.ensures.1
    c.in_err-precision.ensures.reads)))))

pub returns-in_err-root_delay : goal.returns-in_err-root_delay
returns-in_err-root_delay g c = next _ _ c.in_ok-leap.ensures (next _ _ c.in_ok-version.ensures.reads (next _ _
    c.in_ok-mode.ensures (next _ _ c.in_ok-stratum.ensures.reads (next_signed_read _ _ _ _ c.in_ok-poll.ensures.reads
    (search (sfits_of, c.in_ok-poll)) (next_signed_read _ _ _ _ c.in_ok-precision.ensures.reads (search
    (sfits_of, c.in_ok-precision)) (exit _ _ c.from_residual-in_err-root_delay.ensures.1
    c.in_err-root_delay.ensures.reads))))))

pub returns-in_err-root_dispersion : goal.returns-in_err-root_dispersion
returns-in_err-root_dispersion g c = next _ _ c.in_ok-leap.ensures (next _ _ c.in_ok-version.ensures.reads (next _ _
    c.in_ok-mode.ensures (next _ _ c.in_ok-stratum.ensures.reads (next_signed_read _ _ _ _ c.in_ok-poll.ensures.reads
    (search (sfits_of, c.in_ok-poll)) (next_signed_read _ _ _ _ c.in_ok-precision.ensures.reads (search
    (sfits_of, c.in_ok-precision)) (next _ _ c.in_ok-root_delay.ensures.reads (exit _ _
    c.from_residual-in_err-root_dispersion.ensures.1 c.in_err-root_dispersion.ensures.reads)))))))

pub returns-in_err-reference : goal.returns-in_err-reference
returns-in_err-reference g c = next _ _ c.in_ok-leap.ensures (next _ _ c.in_ok-version.ensures.reads (next _ _
    c.in_ok-mode.ensures (next _ _ c.in_ok-stratum.ensures.reads (next_signed_read _ _ _ _ c.in_ok-poll.ensures.reads
    (search (sfits_of, c.in_ok-poll)) (next_signed_read _ _ _ _ c.in_ok-precision.ensures.reads (search
    (sfits_of, c.in_ok-precision)) (next _ _ c.in_ok-root_delay.ensures.reads (next _ _
    c.in_ok-root_dispersion.ensures.reads (exit _ _ c.from_residual-in_err-reference.ensures.1
    c.in_err-reference.ensures.reads))))))))

pub returns-in_err-updated : goal.returns-in_err-updated
returns-in_err-updated g c = next _ _ c.in_ok-leap.ensures (next _ _ c.in_ok-version.ensures.reads (next _ _
    c.in_ok-mode.ensures (next _ _ c.in_ok-stratum.ensures.reads (next_signed_read _ _ _ _ c.in_ok-poll.ensures.reads
    (search (sfits_of, c.in_ok-poll)) (next_signed_read _ _ _ _ c.in_ok-precision.ensures.reads (search
    (sfits_of, c.in_ok-precision)) (next _ _ c.in_ok-root_delay.ensures.reads (next _ _
    c.in_ok-root_dispersion.ensures.reads (next _ _ c.in_ok-reference.ensures.reads (exit _ _
    c.from_residual-in_err-updated.ensures.1 c.in_err-updated.ensures)))))))))

pub returns-in_err-origin : goal.returns-in_err-origin
returns-in_err-origin g c = next _ _ c.in_ok-leap.ensures (next _ _ c.in_ok-version.ensures.reads (next _ _
    c.in_ok-mode.ensures (next _ _ c.in_ok-stratum.ensures.reads (next_signed_read _ _ _ _ c.in_ok-poll.ensures.reads
    (search (sfits_of, c.in_ok-poll)) (next_signed_read _ _ _ _ c.in_ok-precision.ensures.reads (search
    (sfits_of, c.in_ok-precision)) (next _ _ c.in_ok-root_delay.ensures.reads (next _ _
    c.in_ok-root_dispersion.ensures.reads (next _ _ c.in_ok-reference.ensures.reads (next _ _ c.in_ok-updated.ensures
    (exit _ _ c.from_residual-in_err-origin.ensures.1 c.in_err-origin.ensures))))))))))

pub returns-in_err-received : goal.returns-in_err-received
returns-in_err-received g c = next _ _ c.in_ok-leap.ensures (next _ _ c.in_ok-version.ensures.reads (next _ _
    c.in_ok-mode.ensures (next _ _ c.in_ok-stratum.ensures.reads (next_signed_read _ _ _ _ c.in_ok-poll.ensures.reads
    (search (sfits_of, c.in_ok-poll)) (next_signed_read _ _ _ _ c.in_ok-precision.ensures.reads (search
    (sfits_of, c.in_ok-precision)) (next _ _ c.in_ok-root_delay.ensures.reads (next _ _
    c.in_ok-root_dispersion.ensures.reads (next _ _ c.in_ok-reference.ensures.reads (next _ _ c.in_ok-updated.ensures
    (next _ _ c.in_ok-origin.ensures (exit _ _ c.from_residual-in_err-received.ensures.1
    c.in_err-received.ensures)))))))))))

pub returns-in_err-sent : goal.returns-in_err-sent
returns-in_err-sent g c = next _ _ c.in_ok-leap.ensures (next _ _ c.in_ok-version.ensures.reads (next _ _
    c.in_ok-mode.ensures (next _ _ c.in_ok-stratum.ensures.reads (next_signed_read _ _ _ _ c.in_ok-poll.ensures.reads
    (search (sfits_of, c.in_ok-poll)) (next_signed_read _ _ _ _ c.in_ok-precision.ensures.reads (search
    (sfits_of, c.in_ok-precision)) (next _ _ c.in_ok-root_delay.ensures.reads (next _ _
    c.in_ok-root_dispersion.ensures.reads (next _ _ c.in_ok-reference.ensures.reads (next _ _ c.in_ok-updated.ensures
    (next _ _ c.in_ok-origin.ensures (next _ _ c.in_ok-received.ensures (exit _ _ c.from_residual-in_err-sent.ensures.1
    c.in_err-sent.ensures))))))))))))

pub returns : goal.returns
returns g c = next _ _ c.in_ok-leap.ensures (next _ _ c.in_ok-version.ensures.reads (next _ _ c.in_ok-mode.ensures (next
    _ _ c.in_ok-stratum.ensures.reads (next_signed_read _ _ _ _ c.in_ok-poll.ensures.reads (search
    (sfits_of, c.in_ok-poll)) (next_signed_read _ _ _ _ c.in_ok-precision.ensures.reads (search
    (sfits_of, c.in_ok-precision)) (next _ _ c.in_ok-root_delay.ensures.reads (next _ _
    c.in_ok-root_dispersion.ensures.reads (next _ _ c.in_ok-reference.ensures.reads (next _ _ c.in_ok-updated.ensures
    (next _ _ c.in_ok-origin.ensures (next _ _ c.in_ok-received.ensures (next _ _ c.in_ok-sent.ensures (Reads-pure _
    _)))))))))))))

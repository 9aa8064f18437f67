-- Made by `./format` from formats/ts_pat.fields: edit that file and make this one anew.
use Rattle.bitstream_io.proofs.LengthLemmas.{count_done, count_stopped}
use Rattle.std.proofs.Common.{refl}
use Rattle.bitstream_io.proofs.CallerLemmas.{plainly_written}
use Rattle.media_messages.proofs.ts_pat.count_programs.Goals as goal

pub returns-in_err-write_programs : goal.returns-in_err-write_programs
returns-in_err-write_programs c = count_stopped _ 18446744073709551615 (λ x. x) _ _ _ _ _ refl (λ _. refl) (λ _ x. x)
    c.new-counter.ensures _ _ c.from_residual.ensures.1 (plainly_written _ _ _ _ _ c.in_err-write_programs.ensures)

pub returns : goal.returns
returns c = count_done _ 18446744073709551615 (λ x. x) _ _ _ _ _ refl (λ _. refl) (λ _ x. x) c.new-counter.ensures _
    c.into_written.ensures (plainly_written _ _ _ _ _ c.in_ok-write_programs.ensures)

-- Made by `./format` from formats/ts_pat.fields: edit that file and make this one anew.
use Rattle.media_messages.specs.TsPat.{programs_ended, ts_program_here}
use Rattle.bitstream_format.proofs.FilledLemmas.{so_far-begin, so_far-end, so_far-more, so_far-push, so_far-stop}
use Rattle.media_messages.specs.declared.ts_pat.TsPatError.TheVariants.{Reader, Overlong}
use Rattle.std.proofs.Common.{false, Ok, Err, refl, arith}
use Rattle.bitstream_io.proofs.CallerLemmas.{inl, slice_ends, if_grown, own_made}
use Rattle.bitstream_io.specs.Callers.{High, bits}
use Rattle.media_messages.proofs.ts_pat.programs_in.Goals as goal

pub loop-init : goal.loop-init
loop-init c = so_far-begin (ts_program_here High) Overlong (λ error. Reader error) programs_ended (bits High
    c.args.bytes.now) c.args.size 0 c.over-inside.ensures.state refl c.new-found.ensures.items refl

pub returns-then-is_at_end : goal.returns-then-is_at_end
returns-then-is_at_end c = inl (so_far-end (ts_program_here High) Overlong (λ error. Reader error) programs_ended (bits
    High c.args.bytes.now) c.args.size c.loop.counter c.loop.invariant c.if-is_at_end.ensures.left)

pub loop-preserved : goal.loop-preserved
loop-preserved c = so_far-push (ts_program_here High) Overlong (λ error. Reader error) programs_ended (bits High
    c.args.bytes.now) c.args.size c.loop.counter c.loop.invariant c.loop-test.true c.if-is_at_end.ensures.left _ _ _
    c.in_ok-push-in-Ok.ensures.items (if_grown false (own_made _ (Ok _) c.in-Ok.ensures (λ error is. absurd is)))

pub returns-in-Err : goal.returns-in-Err
returns-in-Err c = rw (c.programs_ended.ensures, c.from.ensures) (so_far-stop (ts_program_here High) Overlong (λ error.
    Reader error) programs_ended (bits High c.args.bytes.now) c.args.size c.loop.counter c.loop.invariant
    c.loop-test.true c.if-is_at_end.ensures.left _ _ slice_ends refl refl (if_grown false (own_made _ (Err _)
    c.in-Err.ensures (λ error is. rw is refl))))

pub returns-then-is_at_end-2 : goal.returns-then-is_at_end-2
returns-then-is_at_end-2 c = inl (so_far-end (ts_program_here High) Overlong (λ error. Reader error) programs_ended
    (bits High c.args.bytes.now) c.args.size c.loop.counter c.loop.invariant c.if-is_at_end-2.ensures.left)

pub returns : goal.returns
returns c = inl (so_far-more (ts_program_here High) Overlong (λ error. Reader error) programs_ended (bits High
    c.args.bytes.now) c.args.size c.loop.counter c.loop.invariant (omega (arith, c.loop-test.false))
    c.if-is_at_end-2.ensures.left)

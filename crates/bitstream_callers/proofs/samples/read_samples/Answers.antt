use Rattle.bitstream_io.proofs.CallerLemmas.{◌+◌, [], ◌∷◌, ◌++◌, arith, inl, inr, is_error, items-begin, items-push, items-stop, refl}
use Rattle.bitstream_callers.proofs.samples.read_samples.Goals as goal

pub loop-init : goal.loop-init
loop-init g c = items-begin _ c.new-samples.ensures.items

pub returns-in_err-read : goal.returns-in_err-read
returns-in_err-read g c =
    inl (items-stop _ _ _ _ c.from_residual.result c.loop-test.true c.loop.invariant c.in_err-read.ensures.reads
    c.from_residual.ensures.1)

pub returns-in_err-push : goal.returns-in_err-push
returns-in_err-push g c =
    inr (
      is_error _ _ c.from_residual-in_err-push.ensures.1,
      record {
        taken = c.loop.counter + 1;
        within = omega arith;
        samples = c.loop.samples.items ++ c.in_ok-read.field-0 ∷ [];
        reads = items-push _ _ refl c.loop.invariant c.in_ok-read.ensures.reads;
      },
    )

pub loop-preserved : goal.loop-preserved
loop-preserved g c = items-push _ _ c.in_ok-push.ensures.items c.loop.invariant c.in_ok-read.ensures.reads

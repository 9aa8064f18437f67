-- What the lemmas of reads and those of writes both use.
use Rattle.std.specs.Result.{IsErrAnd}
use Rattle.std.proofs.Common.{◌≡◌, ℕ, ◌+◌, Bool, [], ◌∷◌, ◌++◌, replicate, Result, Ok, Err, sym, ap}
use Rattle.std.proofs.lemmas.List.{replicate-append-replicate}
use Rattle.bitstream_count.specs.declared.error.Error.{Error}

-- what the exit of a `?` returns
pub exit_is : {V : Type 0} {d : Error} (r : Result V Error) → IsErrAnd r (λ y. y ≡ d) → r ≡ Err d
exit_is (Ok v) h = absurd h
exit_is (Err y) h = ap Err h

-- one more of the same
pub replicate-more : (n : ℕ) (b : Bool) → replicate (n + 1) b ≡ replicate n b ++ b ∷ []
replicate-more n b = sym (replicate-append-replicate n 1 b)

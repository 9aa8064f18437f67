-- What holds of a reader whose queue was dropped.
use Rattle.std.proofs.Common.{◌≡◌, ℕ, ◌+◌, ◌*◌, ◌/◌, ◌<◌, Bool, true, false, refl, arith}

pub none_few : 0 < 8
none_few = omega arith

pub dropped_whole : (failed : Bool) (fetched taken queued : ℕ) → fetched ≡ (taken + 7) / 8
    → (failed ≡ false → taken + queued ≡ 8 * fetched) → (failed ≡ true → queued ≡ 0) → fetched
    ≡ (taken + queued + 7) / 8
dropped_whole true fetched taken queued whole back empty = let none = empty refl in omega arith
dropped_whole false fetched taken queued whole back empty = let all = back refl in omega arith

pub dropped_back : (failed : Bool) (fetched taken queued : ℕ) → (failed ≡ false → taken + queued ≡ 8 * fetched) → failed
    ≡ false → taken + queued + 0 ≡ 8 * fetched
dropped_back failed fetched taken queued back fine = let all = back fine in omega arith

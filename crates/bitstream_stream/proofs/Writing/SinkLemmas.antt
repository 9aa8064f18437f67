-- Write calls, seen another way.
use Rattle.std.proofs.Common.{◌≡◌, ℕ, ◌+◌, ◌*◌, ◌%◌, ◌<◌, ◌≤◌, ◌≢◌, Bool, IsTrue, true, false, List, [], ◌∷◌, ◌++◌, length, Option, Some, None, Result, Ok, Err, refl, sym, ◌∙◌, ap, ap₂, inl, inr, arith, map}
use Rattle.std.proofs.lemmas.Bool.{cases_lt}
use Rattle.std.specs.Borrow.{GName, MutBor}
use Rattle.bitstream_order.specs.Reference.{Reference, by_name, capacity_of}
use Rattle.bitstream_count.specs.Codec.{Encoder}
use Rattle.bitstream_count.specs.declared.error.Error.{Error}
use Rattle.bitstream_count.specs.declared.error.Error.TheVariants.{Failed}
use Rattle.bitstream_stream.specs.Alignment.{to_boundary}
use Rattle.bitstream_stream.specs.Writing.Sink.{Sink, Writes, Kept, IsWithin, IsPastLimit, IsFullLimit, seen_sink, inner_sink, lent_sink, had_failed, was_rejected, past_limit, was_refused, was_done}

-- ---- limits

-- a length past the limit is not within it, nor is any that is greater
pub not_past_limit : (limit : Option ℕ) (a b : ℕ) → IsWithin limit b → a ≤ b → IsPastLimit limit a → ⊥
not_past_limit None a b w le h = h
not_past_limit (Some most) a b w le h = omega arith

-- what is within a limit is so with fewer bits
pub within_less : (limit : Option ℕ) (a b : ℕ) → a ≤ b → IsWithin limit b → IsWithin limit a
within_less None a b le w = tt
within_less (Some most) a b le w = omega arith

-- where 7 bits have no room, the zeros up to a multiple of 8 have none
last_byte : (most n len : ℕ) → most + 1 ≡ 8 * n → len ≤ most → most < len + 7 → len % 8 ≢ 0
    → most < len + to_boundary len
last_byte most n len full le past off = omega arith

-- a length that is not within the limit is past it
pub past_if_not_within : (limit : Option ℕ) (n : ℕ) → (IsWithin limit n → ⊥) → IsPastLimit limit n
past_if_not_within None n past = past tt
past_if_not_within (Some most) n past = elim (cases_lt most n) [ inl h ↦ h | inr h ↦ absurd (past h) ]

-- what a test that failed would have told
pub untold : (A : Type 0) (r : Bool) → r ≡ false → (A → IsTrue r) → A → ⊥
untold A true h f a = cc
untold A false h f a = let t = f a in cc

pub no_zeros : (limit : Option ℕ) → IsFullLimit limit → (len : ℕ) → IsWithin limit len → (IsWithin limit (len + 7) → ⊥)
    → len % 8 ≢ 0 → IsPastLimit limit (len + to_boundary len)
no_zeros None full len within past off = past tt
no_zeros (Some most) full len within past off = last_byte most full.0 len full.1 within
    (past_if_not_within (Some most) (len + 7) past) off

-- ---- a call on a sink that is seen another way

-- references that only have names hold nothing
same_capacity : (names : List GName) (others : List Reference) → capacity_of (map by_name names ++ others)
    ≡ capacity_of others
same_capacity [] others = refl
same_capacity (name ∷ names) others = same_capacity names others

module _ {R S : Type 0} (f : R → S) (names : R → List GName) (K : Sink S) where
  kept_seen : (a b : R) → names b ≡ names a → Kept K (f a) (f b) → Kept (seen_sink f names K) a b
  kept_seen a b same k = record {
    grown = k.grown;
    failed = k.failed;
    refusals = k.refusals;
    references =
        ap₂ (λ (x : List GName) y. map by_name x ++ y) same k.references;
  }

  -- a call on a state that is seen as a state of the sink
  pub seen : {T : Type 0} (e : Encoder) (a : R) (r : Result T Error) (b : R) → names b ≡ names a
      → Writes K e (f a) r (f b) → Writes (seen_sink f names K) e a r b
  seen e a r b same (had_failed p re k) = had_failed p re (kept_seen a b same k)
  seen e a r b same (was_rejected d p en re k) = was_rejected d p en re (kept_seen a b same k)
  seen e a r b same (past_limit x p en be re k) = past_limit x p en be re (kept_seen a b same k)
  seen e a r b same (was_refused x d p en wi re k) = was_refused x d p en wi re (record {
    refusal = k.refusal;
    allowed = k.allowed;
    answer = k.answer;
    full = k.full;
    prefix = k.prefix;
    back = k.back;
    parts = k.parts;
    before = k.before;
    after = k.after;
    whole = k.whole;
    least = k.least;
    most = k.most;
    asked = k.asked;
    capacity = k.capacity ∙ sym (same_capacity (names a) (K.references (f a)));
    refusals = k.refusals;
    failed = k.failed;
    references = ap₂ (λ (x : List GName) y. map by_name x ++ y) same k.references;
  })
  seen e a r b same (was_done x t p en wi re k) =
      was_done x t p en wi re (record {
        grown = k.grown;
        sound = k.sound;
        refusals = k.refusals;
        references =
            ap₂ (λ (x : List GName) y. map by_name x ++ y) same k.references;
      })

-- a call on a sink inside a state
pub inner : {R S T : Type 0} (f : R → S) (K : Sink S) (e : Encoder) (a : R) (r : Result T Error) (b : R)
    → Writes K e (f a) r (f b) → Writes (inner_sink f K) e a r b
inner f K e a r b h = seen f (λ _. []) K e a r b refl h

-- a call through a `&mut`
pub lent : {S T : Type 0} (K : Sink S) (e : Encoder) (a : MutBor S) (r : Result T Error) (b : MutBor S)
    → b.ghost_name ≡ a.ghost_name → Writes K e a.now r b.now → Writes (lent_sink K) e a r b
lent {S} K e a r b same h = seen (λ (x : MutBor S). x.now) (λ (x : MutBor S). x.ghost_name ∷ []) K e a r b
    (ap (λ (n : GName). n ∷ []) same) h

module _ {S : Type 0} (K : Sink S) where
  -- the encoder may be replaced by one that says the same of this length
  pub restate : {T : Type 0} (e f : Encoder) (old : S) (r : Result T Error) (new : S) → e (K.len old) ≡ f (K.len old)
      → Writes K e old r new → Writes K f old r new
  restate e f old r new same (had_failed p re k) = had_failed p re k
  restate e f old r new same (was_rejected d p en re k) = was_rejected d p (sym same ∙ en) re k
  restate e f old r new same (past_limit y p en b re k) = past_limit y p (sym same ∙ en) b re k
  restate e f old r new same (was_refused y d p en wi re k) = was_refused y d p (sym same ∙ en) wi re k
  restate e f old r new same (was_done y w p en wi re a) = was_done y w p (sym same ∙ en) wi re a

  -- an encoding of no bits fails only on a sink that has failed
  pub empty : {T : Type 0} (e : Encoder) (old : S) (r : Result T Error) (new : S) (d : Error) → Writes K e old r new
      → r ≡ Err d → e (K.len old) ≡ Ok [] → (K.failed old ≡ true) × (r ≡ Err Failed) × Kept K old new
  empty e old r new d (had_failed p re k) q h = (p, re, k)
  empty e old r new d (was_rejected d' p en re k) q h = cc
  empty e old r new d (past_limit y p en b re k) q h =
      absurd (let same : y ≡ [] = cc in not_past_limit K.limit _ (K.len old) (K.within old)
      (omega (arith, ap length same)) b)
  empty e old r new d (was_refused y d' p en wi re k) q h =
      absurd (let same : y ≡ [] = cc in let full = k.full in omega (arith, ap length same))
  empty e old r new d (was_done y w p en wi re a) q h = cc

  -- a state as it was
  pub kept : (s : S) → Kept K s s
  kept s = record { grown = K.appends_nil s; failed = refl; refusals = refl; references = refl }

  -- a call on a sink that has failed, and one that fails at once
  pub fails : {T : Type 0} (e : Encoder) (s : S) (r : Result T Error) → K.failed s ≡ true → r ≡ Err Failed
      → Writes K e s r s
  fails e s r broken q = had_failed broken q (kept s)

  pub refuses : {T : Type 0} (e : Encoder) (s : S) (r : Result T Error) (d : Error) → K.failed s ≡ false
      → e (K.len s) ≡ Err d → r ≡ Err d → Writes K e s r s
  refuses e s r d sound is q = was_rejected d sound is q (kept s)

-- Write calls in order.
use Rattle.std.proofs.Common.{◌≡◌, ℕ, ◌+◌, inl, inr, List, [], ◌∷◌, ◌++◌, length, take, drop, get_or, Result, Ok, Err, refl, sym, ap, ap₂, ◌∙◌, subst, append-nil, append_assoc, take-append-drop, ◌<◌}
use Rattle.std.specs.Prelude.{flat_map}
use Rattle.std.proofs.lemmas.List.{take_more}
use Rattle.std.proofs.lemmas.List.Concat.{flat_map-append}
use Rattle.bitstream_count.specs.Codec.{Encoder}
use Rattle.bitstream_count.specs.declared.error.Error.{Error}
use Rattle.std.specs.Borrow.{GName, MutBor}
use Rattle.bitstream_stream.specs.Writing.Sink.{Sink, Writes, WritesAll, lent_sink}
use Rattle.bitstream_stream.proofs.Writing.SinkLemmas.{lent}

module _ {S : Type 0} (K : Sink S) where
  pub all_none : (s : S) → WritesAll K [] s (Ok tt) s
  unfolding WritesAll
  all_none s = (refl, refl)

  -- a first call that returns an error
  pub all_err : (e : Encoder) (es : List Encoder) (old : S) (r : Result (Unit {0}) Error) (d : Error) (new : S)
      → r ≡ Err d → Writes {T = Unit {0}} K e old (Err d) new → WritesAll K (e ∷ es) old r new
  unfolding WritesAll
  all_err e es old r d new h w = inl (rw h refl, rw h w)

  -- a first call that returns `Ok`, and more
  pub all_more : (e : Encoder) (es : List Encoder) (old mid : S) (r : Result (Unit {0}) Error) (new : S)
      → Writes {T = Unit {0}} K e old (Ok tt) mid → WritesAll K es mid r new → WritesAll K (e ∷ es) old r new
  unfolding WritesAll
  all_more e es old mid r new w a = inr (mid, w, a)

  pub all_one : (e : Encoder) (old : S) (r : Result (Unit {0}) Error) (new : S) → Writes K e old r new
      → WritesAll K (e ∷ []) old r new
  all_one e old (Ok tt) new w = all_more e [] old new (Ok tt) new w (all_none new)
  all_one e old (Err d) new w = all_err e [] old (Err d) d new refl w

  -- and the other way
  pub one_of_all : (e : Encoder) (old : S) (r : Result (Unit {0}) Error) (new : S) → WritesAll K (e ∷ []) old r new
      → Writes K e old r new
  unfolding WritesAll
  one_of_all e old r new (inl p) = p.1
  one_of_all e old r new (inr p) = rw (p.2.0, p.2.1) p.1

  pub all_append : (es fs : List Encoder) (old mid : S) (r : Result (Unit {0}) Error) (new : S)
      → WritesAll K es old (Ok tt) mid → WritesAll K fs mid r new → WritesAll K (es ++ fs) old r new
  unfolding WritesAll
  all_append [] fs old mid r new p q = subst (λ (s : S). WritesAll K fs s r new) p.1 q
  all_append (e ∷ es) fs old mid r new (inl p) q = let z = p.0 in cc
  all_append (e ∷ es) fs old mid r new (inr p) q = inr (p.0, p.1, all_append es fs p.0 mid r new p.2 q)

  -- calls of which one returns an error, before others that are not made
  pub all_stop : (es fs : List Encoder) (old : S) (d : Error) (r : Result (Unit {0}) Error) (new : S) → r ≡ Err d
      → WritesAll K es old (Err d) new → WritesAll K (es ++ fs) old r new
  unfolding WritesAll
  all_stop [] fs old d r new h p = let z = p.0 in cc
  all_stop (e ∷ es) fs old d r new h (inl p) = inl (rw h refl, rw h p.1)
  all_stop (e ∷ es) fs old d r new h (inr p) = inr (p.0, p.1, all_stop es fs p.0 d r new h p.2)

-- what the items of a list make, up to one more, and from it on
pub flat_map-take : {X A : Type 0} (f : X → List A) (xs : List X) (k : ℕ) (d : X) → k < length xs
    → flat_map f (take (k + 1) xs) ≡ flat_map f (take k xs) ++ f (get_or xs k d)
flat_map-take f xs k d h =
    ap (flat_map f) (take_more xs k d h) ∙ flat_map-append f (take k xs) (get_or xs k d ∷ [])
    ∙ ap (λ l. flat_map f (take k xs) ++ l) (append-nil (f (get_or xs k d)))

pub flat_map-split : {X A : Type 0} (f : X → List A) (xs : List X) (k : ℕ) (d : X) → k < length xs → flat_map f xs
    ≡ flat_map f (take k xs) ++ (f (get_or xs k d) ++ flat_map f (drop (k + 1) xs))
flat_map-split f xs k d h =
    ap (flat_map f) (sym (take-append-drop (k + 1) xs)) ∙ flat_map-append f (take (k + 1) xs) (drop (k + 1) xs)
    ∙ ap (λ l. l ++ flat_map f (drop (k + 1) xs)) (flat_map-take f xs k d h)
    ∙ append_assoc (flat_map f (take k xs)) (f (get_or xs k d)) (flat_map f (drop (k + 1) xs))

-- calls through a `&mut`, in order
module _ {S : Type 0} (K : Sink S) where
  lent_at : (es : List Encoder) (a : MutBor S) (r : Result (Unit {0}) Error) (b : MutBor S)
      → b ≡ record a { now = b.now } → WritesAll K es a.now r b.now → WritesAll (lent_sink K) es a r b
  unfolding WritesAll
  lent_at [] a r b same h = (h.0, same ∙ ap (λ (s : S). record a { now = s }) h.1)
  lent_at (e ∷ es) a r b same (inl p) = inl (p.0, lent K e a r b (ap (λ (c : MutBor S). c.ghost_name) same) p.1)
  lent_at (e ∷ es) a r b same (inr p) =
      let mid : MutBor S = record a { now = p.0 } in
      inr (mid, lent K e a (Ok tt) mid refl p.1, lent_at es mid r b same p.2)

  pub lent_all : (es : List Encoder) (a : MutBor S) (r : Result (Unit {0}) Error) (b : MutBor S)
      → b.ref_ptr ≡ a.ref_ptr → b.ghost_name ≡ a.ghost_name → WritesAll K es a.now r b.now
      → WritesAll (lent_sink K) es a r b
  lent_all es a r b place name h =
      lent_at es a r b (ap₂ (λ (p : ℕ × ℕ) (n : GName). record { ref_ptr = p; ghost_name = n; now = b.now }) place name) h

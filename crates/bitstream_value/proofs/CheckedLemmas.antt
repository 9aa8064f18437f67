-- Checked values.
use Rattle.std.specs.Prelude.{ℤ, pos, Bool, IfOk}
use Rattle.std.proofs.Common.{◌≡◌, ℕ, ◌-◌, ◌^◌, ◌<◌, ◌≤◌, List, [], ◌++◌, length, Result, Ok, Err, refl, sym, ap, ◌∙◌, subst, arith, inl, inr}
use Rattle.std.proofs.lemmas.Bool.{cases_lt, lt-ltb, le-ltb, lt-leb, ne_eqb}
use Rattle.bitstream_count.specs.Checks.{HoldsUnsigned, HoldsSigned}
use Rattle.bitstream_count.specs.declared.error.Error.{Error}
use Rattle.bitstream_count.specs.declared.error.Error.TheVariants.{Failed, NoSignBit, ReadBits}
use Rattle.bitstream_count.specs.Codec.{Decoder, Done, and_then, word_prefix, pure}
use Rattle.bitstream_number.specs.Word.{Order, word, number, signed_word, signed_number, signed_from, FitsSignedBits}
use Rattle.bitstream_number.proofs.WordLemmas.{number-lt, half}
use Rattle.bitstream_stream.specs.Reading.ReadTable.{unsigned_decoder, signed_decoder}
use Rattle.bitstream_order.specs.Moving.Gather.{result_map}
use Rattle.bitstream_stream.specs.Reading.Reads.{BitSource, Reads, ReadDone}
use Rattle.bitstream_stream.specs.Writing.Sink.{Sink, Writes}
use Rattle.bitstream_stream.specs.Writing.WriteTable.{plain, unsigned, signed}
use Rattle.bitstream_stream.proofs.Reading.CodecLemmas.{split, word_prefix-some, word_prefix-none}
use Rattle.bitstream_stream.proofs.Reading.ReadsLemmas.{Reads-and_then-ok, Reads-pure, exit, ok_prefix}
use Rattle.bitstream_stream.proofs.Reading.SignedLemmas.{unsigned-within, unsigned-below}
use Rattle.bitstream_stream.proofs.Writing.SinkLemmas.{restate}
use Rattle.bitstream_stream.proofs.Reading.TableLemmas.{signed-none}
use Rattle.bitstream_stream.proofs.Writing.WriteLemmas.{unsigned-fits, signed-accepts}
use Rattle.bitstream_value.specs.Checked.{checked_decoder, signed_checked_decoder, KeptWith}
use Rattle.bitstream_value.proofs.BackLemmas.{signed-word}

-- ---- a number that was read fits its width

pub signed_from-fits : (n k : ℕ) → 0 < n → k < 2 ^ n → FitsSignedBits n (signed_from n k)
signed_from-fits n k some below = elim (cases_lt k (2 ^ (n - 1))) [
  | inl less ↦ rw (lt-ltb k (2 ^ (n - 1)) less) less
  | inr more ↦ rw (le-ltb k (2 ^ (n - 1)) more) (omega (arith, half n some, below, more))
]

-- an encoding of n bits that was read, as a two's complement
prefix-fits : (o : Order) (n k : ℕ) (w : List Bool) (x : ℤ) → 0 < n → word_prefix n (λ v. Ok (signed_number o v)) w
    ≡ Done k (Ok x) → FitsSignedBits n x
prefix-fits o n k w x some is = elim (split n w) [
  | inl short ↦ let none = word_prefix-none n (λ v. Ok (signed_number o v)) w short in cc
  | inr cut ↦
      let found : Done n (Ok (signed_number o cut.word)) ≡ Done k (Ok x) =
      sym (word_prefix-some n (λ v. Ok (signed_number o v)) cut.word cut.rest cut.len)
      ∙ ap (word_prefix n (λ v. Ok (signed_number o v))) (sym cut.parts) ∙ is in
      let same : signed_number o cut.word ≡ x = cc in
      let below : number o cut.word < 2 ^ n = subst (λ m. number o cut.word < 2 ^ m) cut.len (number-lt o cut.word) in
      subst (FitsSignedBits n) (ap (λ m. signed_from m (number o cut.word)) (sym cut.len)
      ∙ same) (signed_from-fits n (number o cut.word) some below)
]

signed-wide : (o : Order) (size n p : ℕ) (w : List Bool) → size < n → (signed_decoder o size n).reads p w
    ≡ Done 0 (Err ReadBits)
unfolding signed_decoder
signed-wide o size n p w wide = rw (ne_eqb n 0 (λ e. omega (arith, e, wide)), lt-leb n size wide) refl

pub signed-on_failed : (o : Order) (size n : ℕ) → (signed_decoder o size n).on_failed ≡ Err Failed
unfolding signed_decoder
signed-on_failed o size n = refl

module _ {R : Type 0} {K : BitSource R} (o : Order) (size n : ℕ) {s t : R} where
  pub unsigned-holds : {v : ℕ} → Reads K (unsigned_decoder o size n) s (Ok v) t → HoldsUnsigned size n v
  unsigned-holds {v} h = (unsigned-within o size n v h, unsigned-below o size n v h)

  prefix : {x : ℤ} → Reads K (signed_decoder o size n) s (Ok x) t
      → ReadDone K.order (signed_decoder o size n) (K.state s) (Ok x) (K.state t)
  prefix h = ok_prefix (signed-on_failed o size n) h

  signed-some : {x : ℤ} → Reads K (signed_decoder o size n) s (Ok x) t → 0 < n
  signed-some {x} h = elim (cases_lt 0 n) [
    | inl some ↦ some
    | inr none ↦
        let d = prefix h in
        let e : 0 ≡ n = omega arith in
        let bare : Done 0 (Err NoSignBit) ≡ (signed_decoder o size n).reads (K.state s).taken (d.word ++ []) =
        subst (λ m. Done 0 (Err NoSignBit) ≡ (signed_decoder o size m).reads (K.state s).taken (d.word ++ [])) e
        ((signed-none o size).reads (K.state s).taken (d.word ++ [])) in
        let found = d.decides [] in
        cc
  ]

  signed-within : {x : ℤ} → Reads K (signed_decoder o size n) s (Ok x) t → n ≤ size
  signed-within {x} h = elim (cases_lt size n) [
    | inl wide ↦ let d = prefix h in let refused = signed-wide o size n (K.state s).taken (d.word ++ []) wide in
        let found = d.decides [] in cc
    | inr le ↦ le
  ]

  pub signed-holds : {x : ℤ} → Reads K (signed_decoder o size n) s (Ok x) t → HoldsSigned size n x
  signed-holds {x} h =
      let some = signed-some h in
      let le = signed-within h in
      let d = prefix h in (
        le,
        prefix-fits o n (length d.word) (d.word ++ []) x some
            (sym ((signed-word o size n some le).reads (K.state s).taken (d.word ++ [])) ∙ d.decides []),
      )

  -- so the count holds whatever a call returned
  pub unsigned-held : {B : Type 0} (view : B → ℕ) (r : Result B Error)
      → Reads K (unsigned_decoder o size n) s (result_map view r) t → IfOk r (λ v. HoldsUnsigned size n (view v))
  unsigned-held view (Ok v) h = unsigned-holds h
  unsigned-held view (Err x) h = tt

  pub signed-held : {B : Type 0} (view : B → ℤ) (r : Result B Error)
      → Reads K (signed_decoder o size n) s (result_map view r) t → IfOk r (λ v. HoldsSigned size n (view v))
  signed-held view (Ok v) h = signed-holds h
  signed-held view (Err x) h = tt

-- ---- reads

-- a result that is kept with a count, by the number that is seen of it
module _ {B C N : Type 0} (view : B → N) (to_int : N → ℤ) (count : C) (e : Decoder N) {R : Type 0} {K : BitSource R}
    {s t : R} where
  kept-ok : {a : N} {d : C} {z : ℤ} → d ≡ count → z ≡ to_int a → Reads K e s (Ok a) t
      → Reads {A = C × ℤ} K (and_then e (λ v. pure (count, to_int v))) s (Ok (d, z)) t
  kept-ok same is h = rw (same, is) (Reads-and_then-ok e (λ v. pure (count, to_int v)) h (Reads-pure _ t))

  kept : (r : Result B Error) (q : Result (C × B) Error) → KeptWith count r q → Reads K e s (result_map view r) t
      → Reads {A = C × ℤ} K (and_then e (λ v. pure (count, to_int v))) s (result_map (λ (c : C × B). (c.0, to_int (view c.1))) q) t
  kept (Ok b) (Ok c) is h = kept-ok is.0 (ap (λ (x : B). to_int (view x)) is.1) h
  kept (Ok b) (Err x) is h = absurd is
  kept (Err x) q is h = rw is (exit (λ v. pure (count, to_int v)) (Err x) refl h)

module _ {B C : Type 0} (count : C) {R : Type 0} {K : BitSource R} (o : Order) (size n : ℕ) {s t : R}
    (r : Result B Error) (q : Result (C × B) Error) where
  pub checked-kept : (view : B → ℕ) → KeptWith count r q → Reads K (unsigned_decoder o size n) s (result_map view r) t
      → Reads {A = C × ℤ} K (checked_decoder count o size n) s (result_map (λ (c : C × B). (c.0, pos (view c.1))) q) t
  unfolding checked_decoder
  checked-kept view is h = kept view pos count (unsigned_decoder o size n) r q is h

  pub signed_checked-kept : (view : B → ℤ) → KeptWith count r q → Reads K (signed_decoder o size n) s (result_map view r) t
      → Reads {A = C × ℤ} K (signed_checked_decoder count o size n) s (result_map (λ (c : C × B). (c.0, view c.1)) q) t
  unfolding signed_checked_decoder
  signed_checked-kept view is h = kept view (λ (x : ℤ). x) count (signed_decoder o size n) r q is h

-- ---- writes

-- a value that its count holds is its encoding
module _ {S T : Type 0} (K : Sink S) (o : Order) (size : ℕ) {m k n : ℕ} {r : Result T Error} {s t : S} where
  pub writes-held : {u v : ℕ} → m ≡ k → k ≡ n → u ≡ v → HoldsUnsigned size k u → Writes K (unsigned o size m u) s r t
      → Writes K (plain (word o n v)) s r t
  writes-held {u} p q is holds h = rw (← q, ← is) (restate K _ _ _ _ _
      (unsigned-fits o size k u (K.len s) holds.0 holds.1) (rw p at h))

  pub writes-held_signed : {x y : ℤ} → 1 ≤ m → m ≡ k → k ≡ n → x ≡ y → HoldsSigned size k x
      → Writes K (signed o size m x) s r t → Writes K (plain (signed_word o n y)) s r t
  writes-held_signed {x} some p q is holds h = rw (
    ← q,
    ← is,
  ) (restate K _ _ _ _ _ (signed-accepts o size k x (K.len s) (omega (arith, some, p)) holds) (rw p at h))

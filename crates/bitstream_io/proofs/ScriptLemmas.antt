-- What script calls mean, in either order and with a limit.
use Rattle.std.proofs.Common.{◌≡◌, ℤ, SFits, to_z, of_z, ◌||◌, ◌==◌, ℕ, ◌+◌, ◌%◌, ◌^◌, nat_lt, cond, Bool, true, false, List, [], ◌∷◌, ◌++◌, length, replicate, Option, Some, None, Result, Ok, Err, refl, sym, ap, ap₂, ◌∙◌, subst, length-append, arith}
use Rattle.std.specs.Int.{Width}
use Rattle.std.proofs.lemmas.Int.{to_z-of_z}
use Rattle.std.proofs.lemmas.Bool.Decides.{nat_tests}
use Rattle.bitstream_number.specs.Word.{Order, word, residue, zig}
use Rattle.bitstream_number.proofs.WordLemmas.{length-word, length-bits}
use Rattle.bitstream_count.specs.Codec.{Encoder}
use Rattle.bitstream_count.specs.Vbr.{vbr_word}
use Rattle.bitstream_count.proofs.VbrLemmas.{length-vbr_word}
use Rattle.bitstream_count.specs.declared.error.Error.{Error}
use Rattle.bitstream_stream.specs.Alignment.{to_boundary}
use Rattle.bitstream_stream.specs.Sequence.{accepted_bits, refusal_if_any, write_sequence, write_refusals}
use Rattle.bitstream_stream.specs.Writing.Sink.{Sink, Writes, IsWithin}
use Rattle.bitstream_stream.specs.Writing.WriteTable.{unsigned, signed, fits_signed}
use Rattle.bitstream_stream.proofs.Writing.SinkLemmas.{within_less}
use Rattle.bitstream_io.specs.Script.{write_encoder, word_size, within_limit, limit_encoder, write_encoders, AlignsNowhere, WritesSequence, Counts, had_failed, was_refused, was_done}
use Rattle.bitstream_io.specs.declared.script.write_call.WriteCall.{WriteCall}
use Rattle.bitstream_io.specs.declared.script.write_call.WriteCall.TheVariants.{Bit, U8, U16, U32, U64, U128, I8, I16, I32, I64, I128, Unary0, Unary1, Vbr4, Vbr8, SignedVbr4, SignedVbr8, Bytes, Pad, Align}

-- ---- signed numbers

-- a call for a number that is within its type
pub of_value : {S T : Type 0} (K : Sink S) (e : ℤ → Encoder) (s : S) (r : Result T Error) (t : S) (w : Width) (x : ℤ)
    → Writes K (e (to_z w (of_z w x))) s r t → SFits w x → Writes K (e x) s r t
of_value K e s r t w x h fits = subst (λ (y : ℤ). Writes K (e y) s r t) (to_z-of_z w x fits) h

-- ---- one length in both orders

-- a choice has one size if both sides have
size-choice : (b : Bool) (x y u v : Result (List Bool) Error) → word_size x ≡ word_size u → word_size y ≡ word_size v
    → word_size (cond b x y) ≡ word_size (cond b u v)
size-choice true x y u v p q = p
size-choice false x y u v p q = q

module _ (o p : Order) (len : ℕ) where
  size-word : (n v : ℕ) → word_size (Ok (word o n v)) ≡ word_size (Ok (word p n v))
  size-word n v = ap Ok (length-word o n v ∙ sym (length-word p n v))

  size-unsigned : (size n v : ℕ) → word_size (unsigned o size n v len) ≡ word_size (unsigned p size n v len)
  unfolding unsigned
  size-unsigned size n v = size-choice (nat_lt size n) _ _ _ _ refl
      (size-choice ((n == 0) || nat_lt v (2 ^ n)) _ _ _ _ (size-word n v) refl)

  size-signed : (size n : ℕ) (x : ℤ) → word_size (signed o size n x len) ≡ word_size (signed p size n x len)
  unfolding signed
  size-signed size n x = size-choice (n == 0) _ _ _ _ refl
      (size-choice (nat_lt size n) _ _ _ _ refl (size-choice (fits_signed n x) _ _ _ _ (size-word n (residue n x))
      refl))

  size-vbr : (field v : ℕ) → word_size (Ok (vbr_word o field v)) ≡ word_size (Ok (vbr_word p field v))
  size-vbr field v = ap Ok (length-vbr_word o p field v)

  pub size-call : (c : WriteCall) → word_size (write_encoder o c len) ≡ word_size (write_encoder p c len)
  size-call (Bit b) = refl
  size-call (U8 n v) = size-unsigned 8 n v
  size-call (U16 n v) = size-unsigned 16 n v
  size-call (U32 n v) = size-unsigned 32 n v
  size-call (U64 n v) = size-unsigned 64 n v
  size-call (U128 n v) = size-unsigned 128 n v
  size-call (I8 n x) = size-signed 8 n x
  size-call (I16 n x) = size-signed 16 n x
  size-call (I32 n x) = size-signed 32 n x
  size-call (I64 n x) = size-signed 64 n x
  size-call (I128 n x) = size-signed 128 n x
  size-call (Unary0 k) = refl
  size-call (Unary1 k) = refl
  size-call (Vbr4 v) = size-vbr 4 v
  size-call (Vbr8 v) = size-vbr 8 v
  size-call (SignedVbr4 x) = size-vbr 4 (zig x)
  size-call (SignedVbr8 x) = size-vbr 8 (zig x)
  size-call (Bytes bytes) = ap Ok (length-bits o bytes ∙ sym (length-bits p bytes))
  size-call (Pad n) = refl
  size-call Align = refl

-- what is made of a result's size alone
length-accepted : (x y : Result (List Bool) Error) → word_size x ≡ word_size y → length (accepted_bits x)
    ≡ length (accepted_bits y)
length-accepted (Ok u) (Ok v) h = cc
length-accepted (Ok u) (Err d) h = cc
length-accepted (Err d) (Ok v) h = cc
length-accepted (Err d) (Err e) h = refl

same_refusal : (x y : Result (List Bool) Error) → word_size x ≡ word_size y → refusal_if_any x ≡ refusal_if_any y
same_refusal (Ok u) (Ok v) h = refl
same_refusal (Ok u) (Err d) h = cc
same_refusal (Err d) (Ok v) h = cc
same_refusal (Err d) (Err e) h = cc

-- ---- a limit that holds the sum

within-none : (limit : Option ℕ) (len : ℕ) (x : Result (List Bool) Error) → IsWithin limit (len + length (accepted_bits x))
    → within_limit limit len x ≡ x
within-none None len x h = refl
within-none (Some most) len (Err d) h = refl
within-none (Some most) len (Ok w) h = grind (arith, nat_tests)

module _ (limit : Option ℕ) (o p : Order) where
  run-size : (calls : List WriteCall) (len : ℕ) → IsWithin limit
      (len + length (write_sequence (write_encoders None o calls) len))
      → (write_refusals (write_encoders limit p calls) len ≡ write_refusals (write_encoders None o calls) len)
      × (length (write_sequence (write_encoders limit p calls) len) ≡ length (write_sequence (write_encoders None o calls) len))
  run-size [] len h = (refl, refl)
  run-size (c ∷ calls) len h =
      let x = write_encoder o c len in
      let y = write_encoder p c len in
      let one : word_size y ≡ word_size x = size-call p o len c in
      let near : length (accepted_bits y) ≡ length (accepted_bits x) = length-accepted y x one in
      let rest = write_sequence (write_encoders None o calls) (len + length (accepted_bits x)) in
      let sum : len + length (accepted_bits x) + length rest ≡ len + length (accepted_bits x ++ rest) =
      omega (arith, length-append (accepted_bits x) rest) in
      let room : within_limit limit len y ≡ y = within-none limit len y
      (within_less limit (len + length (accepted_bits y)) (len + length (accepted_bits x ++ rest))
      (omega (arith, near, length-append (accepted_bits x) rest)) h) in
      let others = run-size calls (len + length (accepted_bits x)) (subst (IsWithin limit) (sym sum) h) in
      let at : len + length (accepted_bits (within_limit limit len y)) ≡ len + length (accepted_bits x) =
      ap (λ (r : Result (List Bool) Error). len + length (accepted_bits r)) room ∙ ap (λ (n : ℕ). len + n) near in (
        ap₂ (λ (a : Option Error) (others : List (Option Error)). a ∷ others) (ap refusal_if_any room
            ∙ same_refusal y x one) (ap (write_refusals (write_encoders limit p calls)) at ∙ others.0),
        length-append (accepted_bits (within_limit limit len y))
            (write_sequence (write_encoders limit p calls) (len + length (accepted_bits (within_limit limit len y))))
            ∙ ap₂ (λ (m n : ℕ). m + n) (ap (λ (r : Result (List Bool) Error). length (accepted_bits r)) room
            ∙ near) (ap (λ (n : ℕ). length (write_sequence (write_encoders limit p calls) n)) at ∙ others.1)
            ∙ sym (length-append (accepted_bits x) rest),
      )

module _ {S : Type 0} (K : Sink S) (o : Order) (calls : List WriteCall) (old : S) (answers : List (Option Error))
    (new : S) where
  pub counts : WritesSequence K (write_encoders K.limit K.order calls) old answers new
      → Counts K (write_encoders None o calls) old answers new
  counts (had_failed f all k) sound still room = cc
  counts (was_refused before encoder behind mid stopped word error f parts a en k l all) sound still room = let z :
      K.failed new ≡ true = l.failed ∙ k.failed in cc
  counts (was_done f same a) sound still room =
      let one = run-size K.limit o K.order calls (K.len old) room in (
        same ∙ one.0,
        K.appends_len old new (write_sequence (write_encoders K.limit K.order calls) (K.len old)) a.grown
            ∙ ap (λ (n : ℕ). K.len old + n) one.1,
      )

-- ---- after other bits

-- two places, at which the call appends the same
abbrev Meets : WriteCall → ℕ → ℕ → Type 0
Meets Align m n = m % 8 ≡ n % 8
Meets _ m n = Unit {0}

meets : (c : WriteCall) (m n : ℕ) → m % 8 ≡ n % 8 → Meets c m n
meets Align m n h = h
meets _ m n h = tt

meets_nowhere : (c : WriteCall) (calls : List WriteCall) (m n : ℕ) → AlignsNowhere (c ∷ calls) → Meets c m n
    × AlignsNowhere calls
meets_nowhere Align calls m n h = absurd h
meets_nowhere _ calls m n h = (tt, h)

module _ (o : Order) where
  same_decoder : (c : WriteCall) (m n : ℕ) → Meets c m n → write_encoder o c m ≡ write_encoder o c n
  unfolding unsigned signed
  same_decoder Align m n h = ap (λ (k : ℕ). Ok (replicate k false)) (let e : to_boundary m ≡ to_boundary n =
      omega arith in e)
  same_decoder _ m n h = refl

  -- a call, and others after it
  one_more : (c : WriteCall) (calls : List WriteCall) (m n : ℕ) → write_encoder o c m ≡ write_encoder o c n
      → (let k = length (accepted_bits (write_encoder o c n)) in write_sequence (write_encoders None o calls) (m + k)
      ≡ write_sequence (write_encoders None o calls) (n + k))
      → write_sequence (write_encoders None o (c ∷ calls)) m ≡ write_sequence (write_encoders None o (c ∷ calls)) n
  one_more c calls m n same more =
      ap (λ (r : Result (List Bool) Error). accepted_bits r
      ++ write_sequence (write_encoders None o calls) (m + length (accepted_bits r))) same
      ∙ ap (λ (u : List Bool). accepted_bits (write_encoder o c n) ++ u) more

  pub run_at_same_place : (calls : List WriteCall) (m n : ℕ) → m % 8 ≡ n % 8 → write_sequence (write_encoders None o calls) m
      ≡ write_sequence (write_encoders None o calls) n
  run_at_same_place [] m n h = refl
  run_at_same_place (c ∷ calls) m n h =
      let k = length (accepted_bits (write_encoder o c n)) in
      one_more c calls m n (same_decoder c m n (meets c m n h)) (run_at_same_place calls (m + k) (n + k) (omega arith))

  pub run_anywhere : (calls : List WriteCall) (m n : ℕ) → AlignsNowhere calls → write_sequence (write_encoders None o calls) m
      ≡ write_sequence (write_encoders None o calls) n
  run_anywhere [] m n h = refl
  run_anywhere (c ∷ calls) m n h =
      let k = length (accepted_bits (write_encoder o c n)) in
      let free = meets_nowhere c calls m n h in
      one_more c calls m n (same_decoder c m n free.0) (run_anywhere calls (m + k) (n + k) free.1)

pub encoders-append : (limit : Option ℕ) (o : Order) (first second : List WriteCall)
    → write_encoders limit o (first ++ second) ≡ write_encoders limit o first ++ write_encoders limit o second
encoders-append limit o [] second = refl
encoders-append limit o (c ∷ first) second = ap (λ (es : List Encoder). limit_encoder limit (write_encoder o c) ∷ es)
    (encoders-append limit o first second)

-- Lists of write calls, by what they mean.
use Rattle.std.proofs.Common.{◌≡◌, ◌⊎◌, inl, inr, ℕ, ◌+◌, Bool, true, false, List, [], ◌∷◌, ◌++◌, length, replicate, Option, Some, None, Result, Ok, Err, refl, sym, ap, ap₂, ◌∙◌, subst, append-nil, append_assoc, length-append, zero-add, arith}
use Rattle.std.specs.Result.{result_err}
use Rattle.std.proofs.lemmas.Bool.Decides.{nat_tests}
use Rattle.std.proofs.lemmas.List.{replicate-append-replicate}
use Rattle.bitstream_count.specs.Codec.{Encoder}
use Rattle.bitstream_count.specs.declared.error.Error.{Error}
use Rattle.bitstream_count.specs.declared.error.Error.TheVariants.{Failed, CounterOverflow}
use Rattle.bitstream_stream.specs.Sequence.{accepted_bits, refusal_if_any, write_sequence, write_refusals}
use Rattle.bitstream_stream.specs.Writing.Sink.{Sink, Writes, WritesAll, Appended, Kept, IsWithin, IsPastLimit, had_failed, was_rejected, past_limit, was_refused, was_done}
use Rattle.bitstream_stream.proofs.Writing.SinkLemmas.{kept}
use Rattle.bitstream_stream.proofs.Writing.SinkParts.{appended_none, appended_more}
use Rattle.bitstream_value.proofs.WriteSteps.{sequence_appended}
use Rattle.bitstream_io.specs.Script.{within_limit, limit_encoder, WritesSequence}
use Rattle.bitstream_io.specs.Script as script

-- ---- write runs

pub write_sequence-append : (es fs : List Encoder) (len : ℕ) → write_sequence (es ++ fs) len ≡ write_sequence es len
    ++ write_sequence fs (len + length (write_sequence es len))
write_sequence-append [] fs len = let none : len ≡ len + 0 = omega arith in ap (write_sequence fs) none
write_sequence-append (e ∷ es) fs len =
    let w = accepted_bits (e len) in
    let x = write_sequence es (len + length w) in
    let place : len + length w + length x ≡ len + length (w ++ x) = omega (arith, length-append w x) in
    ap (λ (u : List Bool). w ++ u) (write_sequence-append es fs (len + length w))
    ∙ sym (append_assoc w x (write_sequence fs (len + length w + length x)))
    ∙ ap (λ (p : ℕ). (w ++ x) ++ write_sequence fs p) place

pub write_refusals-append : (es fs : List Encoder) (len : ℕ) → write_refusals (es ++ fs) len ≡ write_refusals es len
    ++ write_refusals fs (len + length (write_sequence es len))
write_refusals-append [] fs len = let none : len ≡ len + 0 = omega arith in ap (write_refusals fs) none
write_refusals-append (e ∷ es) fs len =
    let w = accepted_bits (e len) in
    let x = write_sequence es (len + length w) in
    let place : len + length w + length x ≡ len + length (w ++ x) = omega (arith, length-append w x) in
    ap (λ (u : List (Option Error)). refusal_if_any (e len) ∷ u) (write_refusals-append es fs (len + length w)
    ∙ ap (λ (p : ℕ). write_refusals es (len + length w) ++ write_refusals fs p) place)

-- the last call's encoding, and its result
pub write_sequence-last : (es : List Encoder) (e : Encoder) (len n : ℕ) → n ≡ len + length (write_sequence es len)
    → write_sequence (es ++ e ∷ []) len ≡ write_sequence es len ++ accepted_bits (e n)
write_sequence-last es e len n at =
    write_sequence-append es (e ∷ []) len ∙ ap (λ (p : ℕ). write_sequence es len ++ (accepted_bits (e p) ++ [])) (sym at)
    ∙ ap (λ (u : List Bool). write_sequence es len ++ u) (append-nil (accepted_bits (e n)))

pub write_refusals-last : (es : List Encoder) (e : Encoder) (len n : ℕ) → n ≡ len + length (write_sequence es len)
    → write_refusals (es ++ e ∷ []) len ≡ write_refusals es len ++ refusal_if_any (e n) ∷ []
write_refusals-last es e len n at = write_refusals-append es (e ∷ []) len
    ∙ ap (λ (p : ℕ). write_refusals es len ++ refusal_if_any (e p) ∷ []) (sym at)

-- ---- limits

pub limited-err : (limit : Option ℕ) (e : Encoder) (len : ℕ) (error : Error) → e len ≡ Err error
    → limit_encoder limit e len ≡ Err error
limited-err None e len error is = is
limited-err (Some most) e len error is = ap (within_limit (Some most) len) is

pub limited-past : (limit : Option ℕ) (e : Encoder) (len : ℕ) (word : List Bool) → e len ≡ Ok word
    → IsPastLimit limit (len + length word) → limit_encoder limit e len ≡ Err CounterOverflow
limited-past None e len word is past = absurd past
limited-past (Some most) e len word is past = ap (within_limit (Some most) len) is ∙ grind (arith, nat_tests)

pub limited-ok : (limit : Option ℕ) (e : Encoder) (len : ℕ) (word : List Bool) → e len ≡ Ok word
    → IsWithin limit (len + length word) → limit_encoder limit e len ≡ Ok word
limited-ok None e len word is within = is
limited-ok (Some most) e len word is within = ap (within_limit (Some most) len) is ∙ grind (arith, nat_tests)

-- ---- calls in order

pub failed_or_not : (b : Bool) → (b ≡ true) ⊎ (b ≡ false)
failed_or_not true = inl refl
failed_or_not false = inr refl

-- as many results and one more
answers_more : (n m : ℕ) (answer : Option Error) → m ≡ n + 1 → replicate n answer ++ answer ∷ [] ≡ replicate m answer
answers_more n m answer is = replicate-append-replicate n 1 answer ∙ ap (λ (k : ℕ). replicate k answer) (sym is)

module _ {S : Type 0} (K : Sink S) where
  kept_more : (s t u : S) → Kept K s t → Kept K t u → Kept K s u
  kept_more s t u h k =
      record {
        grown = K.appends_trans s t u [] [] h.grown k.grown;
        failed = k.failed ∙ h.failed;
        refusals = k.refusals
            ∙ h.refusals;
        references = k.references ∙ h.references;
      }

  -- a call on a sink that has failed
  call_failed : {T : Type 0} (e : Encoder) (s : S) (r : Result T Error) (t : S) → Writes K e s r t → K.failed s
      ≡ true → (r ≡ Err Failed) × Kept K s t
  call_failed e s r t (had_failed p re k) f = (re, k)
  call_failed e s r t (was_rejected d p en re k) f = cc
  call_failed e s r t (past_limit x p en be re k) f = cc
  call_failed e s r t (was_refused x d p en wi re k) f = cc
  call_failed e s r t (was_done x d p en wi re k) f = cc

  pub run_none : (s : S) → WritesSequence K [] s [] s
  run_none s = elim (failed_or_not (K.failed s)) [
    | inl f ↦ script.had_failed f refl (kept K s)
    | inr f ↦
        script.was_done f refl (appended_none K s f)
  ]

  module _ (es : List Encoder) (e : Encoder) (old mid new : S) (answers : List (Option Error))
      (answer : Option Error) where
    -- a call after others that were done, whose encoding was appended or which was not accepted
    done_more : (x : Result (List Bool) Error) → K.failed old ≡ false → answers ≡ write_refusals es (K.len old)
        → Appended K old (write_sequence es (K.len old)) mid
        → limit_encoder K.limit e (K.len mid) ≡ x → answer ≡ refusal_if_any x → Appended K mid (accepted_bits x) new
        → WritesSequence K (es ++ limit_encoder K.limit e ∷ []) old (answers ++ answer ∷ []) new
    done_more x f same a is answered more =
        let f' = limit_encoder K.limit e in
        let at = K.appends_len old mid (write_sequence es (K.len old)) a.grown in
        let all = appended_more K old mid new (write_sequence es (K.len old)) (accepted_bits x) a more in
        script.was_done f
        (ap₂ (λ (u : List (Option Error)) (v : Option Error). u ++ v ∷ []) same (answered ∙ ap refusal_if_any (sym is))
        ∙ sym (write_refusals-last es f' (K.len old) (K.len mid) at))
        (subst (λ (u : List Bool). Appended K old u new) (ap (λ (y : Result (List Bool) Error). write_sequence es (K.len old)
        ++ accepted_bits y) (sym is) ∙ sym (write_sequence-last es f' (K.len old) (K.len mid) at)) all)

    -- a call that appended nothing
    nothing_more : (x : Error) → K.failed old ≡ false → answers ≡ write_refusals es (K.len old)
        → Appended K old (write_sequence es (K.len old)) mid
        → limit_encoder K.limit e (K.len mid) ≡ Err x → answer ≡ Some x → Kept K mid new
        → WritesSequence K (es ++ limit_encoder K.limit e ∷ []) old (answers ++ answer ∷ []) new
    nothing_more x f same a is answered k =
        done_more (Err x) f same a is answered (record {
          grown = k.grown;
          sound = k.failed ∙ a.sound;
          refusals =
              k.refusals;
          references = k.references;
        })

    -- a call after others that were done
    more_done : {T : Type 0} (r : Result T Error) → K.failed old ≡ false → answers ≡ write_refusals es (K.len old)
        → Appended K old (write_sequence es (K.len old)) mid
        → Writes K e mid r new → answer ≡ result_err r
        → WritesSequence K (es ++ limit_encoder K.limit e ∷ []) old (answers ++ answer ∷ []) new
    more_done r f same a (had_failed p re k) is = let z = a.sound in cc
    more_done r f same a (was_rejected d p en re k) is =
        nothing_more d f same a (limited-err K.limit e (K.len mid) d en) (is ∙ ap result_err re) k
    more_done r f same a (past_limit x p en be re k) is =
        nothing_more CounterOverflow f same a (limited-past K.limit e (K.len mid) x en be) (is ∙ ap result_err re) k
    more_done r f same a (was_refused x d p en wi re k) is =
        script.was_refused es (limit_encoder K.limit e) [] mid new x d f refl a (limited-ok K.limit e (K.len mid) x en wi) k
        (kept K new)
        (ap₂ (λ (u : List (Option Error)) (v : Option Error). u ++ v ∷ []) same (is ∙ ap result_err re))
    more_done r f same a (was_done x d p en wi re k) is =
        done_more (Ok x) f same a (limited-ok K.limit e (K.len mid) x en wi) (is ∙ ap result_err re) k

    -- a call after others
    pub run_more : {T : Type 0} (r : Result T Error) → WritesSequence K es old answers mid → Writes K e mid r new → answer
        ≡ result_err r → WritesSequence K (es ++ limit_encoder K.limit e ∷ []) old (answers ++ answer ∷ []) new
    run_more r (script.had_failed f all k) w is =
        let z = call_failed e mid r new w (k.failed ∙ f) in
        script.had_failed f
        (ap₂ (λ (u : List (Option Error)) (v : Option Error). u ++ v ∷ []) all (is ∙ ap result_err z.0)
        ∙ answers_more (length es) (length (es ++ limit_encoder K.limit e ∷ [])) (Some Failed)
        (length-append es (limit_encoder K.limit e ∷ [])))
        (kept_more old mid new k z.1)
    run_more r (script.was_refused before encoder behind at stopped word error f parts a en k l all) w is =
        let z = call_failed e mid r new w (l.failed ∙ k.failed) in
        script.was_refused before encoder (behind ++ limit_encoder K.limit e ∷ []) at stopped word error f
        (ap (λ (u : List Encoder). u ++ limit_encoder K.limit e ∷ []) parts
        ∙ append_assoc before (encoder ∷ behind) (limit_encoder K.limit e ∷ []))
        a en k (kept_more stopped mid new l z.1)
        (ap₂ (λ (u : List (Option Error)) (v : Option Error). u ++ v ∷ []) all (is ∙ ap result_err z.0)
        ∙ append_assoc (write_refusals before (K.len old)) (Some error ∷ replicate (length behind) (Some Failed))
        (Some Failed ∷ [])
        ∙ ap (λ (u : List (Option Error)). write_refusals before (K.len old) ++ Some error ∷ u)
        (answers_more (length behind) (length (behind ++ limit_encoder K.limit e ∷ [])) (Some Failed)
        (length-append behind (limit_encoder K.limit e ∷ []))))
    run_more r (script.was_done f same a) w is = more_done r f same a w is

-- ---- lengths

-- writes to a new sink that all returned `Ok` have as many bits as it then counts
pub counted : {S : Type 0} (K : Sink S) (es : List Encoder) (old new : S) → K.failed old ≡ false → K.len old ≡ 0
    → WritesAll K es old (Ok tt) new → K.len new ≡ length (write_sequence es 0)
counted K es old new sound none all =
    K.appends_len old new (write_sequence es (K.len old)) (sequence_appended K es old new sound all).grown
    ∙ ap (λ (n : ℕ). n + length (write_sequence es n)) none ∙ zero-add (length (write_sequence es 0))

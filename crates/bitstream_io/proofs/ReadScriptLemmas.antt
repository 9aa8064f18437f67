-- Lists of read calls, by what they mean.
use Rattle.std.proofs.Common.{◌≡◌, ◌⊎◌, inl, inr, ℕ, suc, ◌+◌, Bool, true, false, cond, List, [], ◌∷◌, ◌++◌, length, drop, Option, Some, Result, Ok, Err, refl, sym, ap, ap₂, ◌∙◌, subst, append_assoc, arith}
use Rattle.std.specs.Prelude.{IsOkAnd, MatchResult}
use Rattle.std.specs.Result.{IsErrAnd}
use Rattle.std.proofs.Math.Seq.{drop-append_seam}
use Rattle.bitstream_count.specs.Codec.{Decoder, Prefix, Incomplete, Done, pure}
use Rattle.bitstream_count.specs.declared.error.Error.{Error}
use Rattle.bitstream_count.specs.declared.error.Error.TheVariants.{RunTooLong}
use Rattle.bitstream_number.specs.Word.{bits}
use Rattle.bitstream_number.proofs.WordLemmas.{bits-append}
use Rattle.bitstream_order.specs.Fault.{read_refusal_of}
use Rattle.bitstream_order.specs.Moving.Gather.{result_map}
use Rattle.bitstream_order.specs.Refusal.{Refusal, TrueEnds}
use Rattle.bitstream_stream.specs.Reading.Reads.{ReaderState, BitSource, HadFailed, ReadDone, ReadRefused, MemoryRefused, ReadOutcome, had_failed, was_done, was_refused, memory_refused, is_run_too_long}
use Rattle.bitstream_stream.specs.Sequence.{answer_and, read_sequence}
use Rattle.bitstream_stream.proofs.Reading.ReadsLemmas.{Consumes-known, Reads-and_then-ok, Reads-pure, exit}
use Rattle.bitstream_io.specs.ReadScript.{map_answer, read_decoder, asks_memory, read_decoders, ReadsEach, sequence_answers, place_behind, failed_answers, ReadsSequence, sure_answers, AsksNoMemory}
use Rattle.bitstream_io.specs.ReadScript as lists
use Rattle.bitstream_io.specs.declared.script.answers.Answer.{Answer}
use Rattle.bitstream_io.specs.declared.script.read_call.ReadCall.{ReadCall}
use Rattle.bitstream_io.specs.declared.script.read_call.ReadCall.TheVariants.{Bytes}
use Rattle.bitstream_io.proofs.SequenceLemmas.{failed_or_not}

-- ---- read runs

-- what a call's prefix makes of the run
prefix-few : (prefix : Prefix Answer) (p : ℕ) (others : ℕ → List (Result Answer Error × ℕ)) → prefix ≡ Incomplete
    → answer_and prefix p others ≡ []
prefix-few prefix p others h = ap (λ (f : Prefix Answer). answer_and f p others) h

prefix-long : (prefix : Prefix Answer) (n p : ℕ) (others : ℕ → List (Result Answer Error × ℕ)) → prefix
    ≡ Done n (Err RunTooLong) → answer_and prefix p others ≡ (Err RunTooLong, p + n) ∷ []
prefix-long prefix n p others h = ap (λ (f : Prefix Answer). answer_and f p others) h

goes_on : (n p : ℕ) (answer : Result Answer Error) (others : ℕ → List (Result Answer Error × ℕ))
    → is_run_too_long answer ≡ false → answer_and (Done n answer) p others ≡ (answer, p + n) ∷ others n
goes_on n p (Err RunTooLong) others h = cc
goes_on n p _ others h = refl

prefix-done : (prefix : Prefix Answer) (n p : ℕ) (answer : Result Answer Error) (others : ℕ
    → List (Result Answer Error × ℕ)) → prefix ≡ Done n answer → is_run_too_long answer ≡ false
    → answer_and prefix p others ≡ (answer, p + n) ∷ others n
prefix-done prefix n p answer others h sound = ap (λ (f : Prefix Answer). answer_and f p others) h
    ∙ goes_on n p answer others sound

too_long-is : (answer : Result Answer Error) → is_run_too_long answer ≡ true → answer ≡ Err RunTooLong
too_long-is (Err RunTooLong) h = refl
too_long-is _ h = cc

-- a call of those that ask for no memory
pub free_call : (call : ReadCall) (calls : List ReadCall) → AsksNoMemory (call ∷ calls) → (asks_memory call ≡ false)
    × AsksNoMemory calls
free_call (Bytes n) calls h = absurd h
free_call _ calls h = (refl, h)

-- ---- one call

module _ {R A : Type 0} {K : BitSource R} {grows : Bool} (make : A → Answer) {e : Decoder A} {s t : R} where
  pub answered_ok : {a : A} → ReadOutcome K grows e s (Ok a) t → ReadOutcome K grows (map_answer make e) s (Ok (make a)) t
  answered_ok {a = a} h = Reads-and_then-ok e (λ (v : A). pure (make v)) h (Reads-pure (make a) t)

  pub answered_stops : {x : Error} (r : Result Answer Error) → IsErrAnd r (λ y. y ≡ x)
      → ReadOutcome K grows e s (Err x) t → ReadOutcome K grows (map_answer make e) s r t
  answered_stops r h k = exit (λ (v : A). pure (make v)) r h k

  -- what is made of the result
  pub answered_as : {r : Result A Error} (q : Result Answer Error) → MatchResult r (λ x. IsOkAnd q (λ y. y ≡ make x))
      (λ x. q ≡ Err x) → ReadOutcome K grows e s r t → ReadOutcome K grows (map_answer make e) s q t
  answered_as {r = Ok _} (Ok _) is h =
      subst (λ (z : Answer). ReadOutcome K grows (map_answer make e) s (Ok z) t) (sym is) (answered_ok h)
  answered_as {r = Ok _} (Err _) is h = absurd is
  answered_as {r = Err x} q is h =
      answered_stops q (subst (λ (z : Result Answer Error). IsErrAnd z (λ y. y ≡ x)) (sym is) refl) h

  -- what is made of a number
  pub answered_map : {B : Type 0} (number : B → A) (r : Result B Error) (q : Result Answer Error)
      → MatchResult r (λ x. IsOkAnd q (λ y. y ≡ make (number x))) (λ x. q ≡ Err x)
      → ReadOutcome K grows e s (result_map number r) t → ReadOutcome K grows (map_answer make e) s q t
  answered_map number (Ok _) q is h = answered_as q is h
  answered_map number (Err _) q is h = answered_as q is h

module _ {R : Type 0} (K : BitSource R) where
  pub each_none : (s : R) → ReadsEach K [] s [] s
  unfolding ReadsEach
  each_none s = refl

  -- a call from a state that tells the same
  same_start : {grows : Bool} {e : Decoder Answer} {s t : R} {r : Result Answer Error} {u : R}
      → ReadOutcome K grows e s r u → K.state s ≡ K.state t → ReadOutcome K grows e t r u
  same_start {e = e} {r = r} {u = u} (had_failed h) q =
      had_failed (subst (λ (z : ReaderState). HadFailed e z r (K.state u)) q h)
  same_start {e = e} {r = r} {u = u} (was_done h) q = was_done
      (subst (λ (z : ReaderState). ReadDone K.order e z r (K.state u)) q h)
  same_start {e = e} {r = r} {u = u} (was_refused h) q =
      was_refused (subst (λ (z : ReaderState). ReadRefused K.order K.may e z r (K.state u)) q h)
  same_start {e = e} {r = r} {u = u} (memory_refused g h) q =
      memory_refused g (subst (λ (z : ReaderState). MemoryRefused K.order e z r (K.state u)) q h)

  -- one call more
  pub each_more : (calls : List ReadCall) (places : List (Option (Result Answer Error))) (old mid : R)
      (call : ReadCall) (answer : Result Answer Error) (place : Option (Result Answer Error)) (new : R)
      → ReadsEach K calls old places mid → place ≡ Some answer
      → ReadOutcome K (asks_memory call) (read_decoder K.order call) mid answer new
      → ReadsEach K (calls ++ call ∷ []) old (places ++ place ∷ []) new
  unfolding ReadsEach
  each_more [] [] old mid call answer place new h is k = (answer, new, is, same_start k h, refl)
  each_more [] (q ∷ places) old mid call answer place new h is k = absurd h
  each_more (c ∷ calls) [] old mid call answer place new h is k = absurd h
  each_more (c ∷ calls) (q ∷ places) old mid call answer place new h is k =
      (h.0, h.1, h.2, h.3, each_more calls places h.1 mid call answer place new h.4 is k)

  -- a call on a reader that has failed
  call_failed : {grows : Bool} {e : Decoder Answer} {s : R} {r : Result Answer Error} {t : R}
      → ReadOutcome K grows e s r t → (K.state s).failed ≡ true → (r ≡ e.on_failed) × (K.state t ≡ K.state s)
  call_failed (had_failed h) f = (h.answer, h.same)
  call_failed (was_done h) f = let z = h.fine in cc
  call_failed (was_refused h) f = let z = h.fine in cc
  call_failed (memory_refused g h) f = let z = h.fine in cc

  -- calls on a reader that has failed
  all_failed : (calls : List ReadCall) (old : R) (places : List (Option (Result Answer Error))) (new : R)
      → ReadsEach K calls old places new → (K.state old).failed ≡ true → (places ≡ failed_answers K.order calls)
      × (K.state new ≡ K.state old)
  unfolding ReadsEach
  all_failed [] old [] new h f = (refl, h)
  all_failed [] old (q ∷ places) new h f = absurd h
  all_failed (c ∷ calls) old [] new h f = absurd h
  all_failed (c ∷ calls) old (q ∷ places) new h f =
      let one = call_failed h.3 f in
      let others = all_failed calls h.1 places new h.4 (ap (λ (s : ReaderState). s.failed) one.1 ∙ f) in (
        ap₂ (λ (x : Option (Result Answer Error)) (xs : List (Option (Result Answer Error))). x ∷ xs) (h.2
            ∙ ap Some one.0) others.0,
        others.1 ∙ one.1,
      )

  -- ---- known bits

  -- the bits left after a call that returned
  module _ {e : Decoder Answer} {answer : Result Answer Error} {old mid : R}
      (h : ReadDone K.order e (K.state old) answer (K.state mid)) (sound : is_run_too_long answer ≡ false)
      (xs : List ℕ) (known : (K.state old).bytes ≡ Some xs) where
    left : (ys : List ℕ) × ((K.state mid).bytes ≡ Some ys)
        × ((K.state old).queue ++ bits K.order xs ≡ h.word ++ ((K.state mid).queue ++ bits K.order ys))
    left =
        let k = Consumes-known (K.state old).bytes (K.state mid).bytes h.gone xs h.loses known in
        let ys = k.0 in
        let rest : (K.state mid).queue ≡ h.rest = h.queue ∙ ap (λ (b : Bool). cond b [] h.rest) sound in (
          ys,
          k.1,
          ap (λ (l : List ℕ). (K.state old).queue ++ bits K.order l) k.2
              ∙ ap (λ (l : List Bool). (K.state old).queue ++ l) (bits-append K.order h.gone ys)
              ∙ sym (append_assoc (K.state old).queue (bits K.order h.gone) (bits K.order ys))
              ∙ ap (λ (l : List Bool). l ++ bits K.order ys) h.parts
              ∙ append_assoc h.word h.rest (bits K.order ys)
              ∙ ap (λ (l : List Bool). h.word ++ (l ++ bits K.order ys)) (sym rest),
        )

  -- the prefix of a call that returned, on the bits left
  prefix_is : {e : Decoder Answer} {answer : Result Answer Error} {old mid : R}
      (h : ReadDone K.order e (K.state old) answer (K.state mid)) (xs : List ℕ) → (K.state old).bytes ≡ Some xs
      → e.reads (K.state old).taken ((K.state old).queue ++ bits K.order xs) ≡ Done (length h.word) answer
  prefix_is {e = e} {old = old} {mid = mid} h xs known =
      let k = Consumes-known (K.state old).bytes (K.state mid).bytes h.gone xs h.loses known in
      let whole : (K.state old).queue ++ bits K.order xs ≡ h.word ++ (h.rest ++ bits K.order k.0) =
      ap (λ (l : List ℕ). (K.state old).queue ++ bits K.order l) k.2
      ∙ ap (λ (l : List Bool). (K.state old).queue ++ l) (bits-append K.order h.gone k.0)
      ∙ sym (append_assoc (K.state old).queue (bits K.order h.gone) (bits K.order k.0))
      ∙ ap (λ (l : List Bool). l ++ bits K.order k.0) h.parts
      ∙ append_assoc h.word h.rest (bits K.order k.0) in
      ap (e.reads (K.state old).taken) whole ∙ h.decides (h.rest ++ bits K.order k.0)

  module _ (call : ReadCall) (calls : List ReadCall) (bits_old bits_mid : List Bool) (old mid new : R)
      (answer : Result Answer Error) (places : List (Option (Result Answer Error)))
      (fine : (K.state old).failed ≡ false) (still : (K.state mid).failed ≡ false) (refusals : (K.state mid).refusals
      ≡ (K.state old).refusals)
      (step : read_sequence (read_decoders K.order (call ∷ calls)) (K.state old).taken bits_old
      ≡ (answer, (K.state mid).taken) ∷ read_sequence (read_decoders K.order calls) (K.state mid).taken bits_mid) where
    -- after a call that returned, what the others do
    behind_one : ReadsSequence K calls bits_mid mid places new
        → ReadsSequence K (call ∷ calls) bits_old old (Some answer ∷ places) new
    behind_one (lists.had_failed f same state) = cc
    behind_one (lists.was_done f g all same taken) =
        lists.was_done fine g (ap length step ∙ ap suc all)
        (ap (λ (l : List (Option (Result Answer Error))). Some answer ∷ l) same ∙ ap sequence_answers (sym step)) (taken
        ∙ ap (place_behind (K.state old).taken) (sym step))
    behind_one (lists.too_long before behind first place f g parts size run same taken) =
        lists.too_long (call ∷ before) behind ((answer, (K.state mid).taken) ∷ first) place fine g
        (ap (λ (l : List ReadCall). call ∷ l) parts) (omega (arith, size)) (step
        ∙ ap (λ (l : List (Result Answer Error × ℕ)). (answer, (K.state mid).taken) ∷ l) run)
        (ap (λ (l : List (Option (Result Answer Error))). Some answer ∷ l) same) taken
    behind_one (lists.was_refused before one behind first others refusal f g parts size run may more ended same) =
        lists.was_refused (call ∷ before) one behind ((answer, (K.state mid).taken) ∷ first) others refusal fine g
        (ap (λ (l : List ReadCall). call ∷ l) parts) (omega (arith, size)) (step
        ∙ ap (λ (l : List (Result Answer Error × ℕ)). (answer, (K.state mid).taken) ∷ l) run) may (more
        ∙ ap (λ (l : List Refusal). refusal ∷ l) refusals) ended
        (ap (λ (l : List (Option (Result Answer Error))). Some answer ∷ l) same)
    behind_one (lists.memory_refused before one behind first others f g parts size grows run more same) =
        lists.memory_refused (call ∷ before) one behind ((answer, (K.state mid).taken) ∷ first) others fine g
        (ap (λ (l : List ReadCall). call ∷ l) parts) (omega (arith, size)) grows (step
        ∙ ap (λ (l : List (Result Answer Error × ℕ)). (answer, (K.state mid).taken) ∷ l) run) (more
        ∙ refusals) (ap (λ (l : List (Option (Result Answer Error))). Some answer ∷ l) same)

  one_and : (call : ReadCall) (calls : List ReadCall) (old mid new : R) (answer : Result Answer Error)
      (places : List (Option (Result Answer Error))) (xs : List ℕ) → (K.state old).bytes ≡ Some xs
      → ReadOutcome K (asks_memory call) (read_decoder K.order call) old answer mid → ReadsEach K calls mid places new
      → ((ys : List ℕ) → (K.state mid).bytes ≡ Some ys
      → ReadsSequence K calls ((K.state mid).queue ++ bits K.order ys) mid places new)
      → ReadsSequence K (call ∷ calls) ((K.state old).queue ++ bits K.order xs) old (Some answer ∷ places) new
  one_and call calls old mid new answer places xs known (had_failed h) others ih =
      let z = all_failed calls mid places new others (ap (λ (s : ReaderState). s.failed) h.same ∙ h.failed) in
      lists.had_failed h.failed (ap₂ (λ (x : Option (Result Answer Error)) (l : List (Option (Result Answer Error))). x
      ∷ l) (ap Some h.answer) z.0) (z.1 ∙ h.same)
  one_and call calls old mid new answer places xs known (was_done h) others ih =
      let o = K.order in
      let p = (K.state old).taken in
      let b = (K.state old).queue ++ bits o xs in
      let prefix = prefix_is {old = old} {mid = mid} h xs known in
      elim (failed_or_not (is_run_too_long answer)) [
        | inl long ↦
            let z = all_failed calls mid places new others (h.failed ∙ long) in
            let is = too_long-is answer long in
            lists.too_long (call ∷ []) calls [] (p + length h.word) h.fine (ap (λ (s : ReaderState). s.failed) z.1
            ∙ h.failed ∙ long) refl refl
            (prefix-long ((read_decoder o call).reads p b) (length h.word) p
            (λ n. read_sequence (read_decoders o calls) (p + n) (drop n b)) (prefix ∙ ap (Done (length h.word)) is))
            (ap₂ (λ (x : Result Answer Error) (l : List (Option (Result Answer Error))). Some x ∷ l) is z.0)
            (ap (λ (s : ReaderState). s.taken) z.1 ∙ h.taken)
        | inr sound ↦
            let k = left {old = old} {mid = mid} h sound xs known in
            let behind : drop (length h.word) b ≡ (K.state mid).queue ++ bits o k.0 = ap (drop (length h.word)) k.2
            ∙ drop-append_seam h.word ((K.state mid).queue ++ bits o k.0) in
            let step = prefix-done ((read_decoder o call).reads p b) (length h.word) p answer
            (λ n. read_sequence (read_decoders o calls) (p + n) (drop n b)) prefix sound in
            let at : p + length h.word ≡ (K.state mid).taken = sym h.taken in
            behind_one call calls b ((K.state mid).queue ++ bits o k.0) old mid new answer places h.fine (h.failed
            ∙ sound) h.refusals
            (step ∙ ap₂ (λ (n : ℕ) (l : List Bool). (answer, n) ∷ read_sequence (read_decoders o calls) n l) at behind)
            (ih k.0 k.1)
      ]
  one_and call calls old mid new answer places xs known (was_refused h) others ih =
      let o = K.order in
      let p = (K.state old).taken in
      let b = (K.state old).queue ++ bits o xs in
      let z = all_failed calls mid places new others h.failed in
      lists.was_refused [] call calls [] (read_sequence (read_decoders o (call ∷ calls)) p b) h.refusal h.fine
      (ap (λ (s : ReaderState). s.failed) z.1 ∙ h.failed) refl refl refl h.allowed
      (ap (λ (s : ReaderState). s.refusals) z.1 ∙ h.refusals)
      (λ true_end. prefix-few ((read_decoder o call).reads p b) p (λ n. read_sequence (read_decoders o calls) (p + n) (drop n b))
      (h.ended true_end xs known))
      (ap₂ (λ (x : Result Answer Error) (l : List (Option (Result Answer Error))). Some x ∷ l) h.answer z.0)
  one_and call calls old mid new answer places xs known (memory_refused g h) others ih =
      let o = K.order in
      let z = all_failed calls mid places new others h.failed in
      lists.memory_refused [] call calls [] (read_sequence (read_decoders o (call ∷ calls)) (K.state old).taken
      ((K.state old).queue ++ bits o xs)) h.fine (ap (λ (s : ReaderState). s.failed) z.1
      ∙ h.failed) refl refl g refl
      (ap (λ (s : ReaderState). s.refusals) z.1 ∙ h.refusals)
      (ap₂ (λ (x : Result Answer Error) (l : List (Option (Result Answer Error))). Some x ∷ l) h.answer z.0)

  -- the results on the bits left
  pub run_of : (calls : List ReadCall) (old : R) (places : List (Option (Result Answer Error))) (new : R)
      → ReadsEach K calls old places new → (xs : List ℕ) → (K.state old).bytes ≡ Some xs
      → ReadsSequence K calls ((K.state old).queue ++ bits K.order xs) old places new
  unfolding ReadsEach
  run_of [] old [] new h xs known = elim (failed_or_not (K.state old).failed) [
    | inl f ↦ lists.had_failed f refl h
    | inr f ↦ lists.was_done f (ap (λ (s : ReaderState). s.failed) h
        ∙ f) refl refl (ap (λ (s : ReaderState). s.taken) h)
  ]
  run_of [] old (q ∷ places) new h xs known = absurd h
  run_of (c ∷ calls) old [] new h xs known = absurd h
  run_of (c ∷ calls) old (q ∷ places) new h xs known =
      subst (λ (place : Option (Result Answer Error)). ReadsSequence K (c ∷ calls) ((K.state old).queue
      ++ bits K.order xs) old (place ∷ places) new) (sym h.2)
      (one_and c calls old h.1 new h.0 places xs known h.3 h.4 (λ ys is. run_of calls h.1 places new h.4 ys is))

  -- ---- all bits known

  module _ (ends : TrueEnds K.may) where
    one_sure : (call : ReadCall) (calls : List ReadCall) (old mid new : R) (answer : Result Answer Error) (places :
        List (Option (Result Answer Error))) (xs : List ℕ) → (K.state old).failed ≡ false → (K.state old).bytes
        ≡ Some xs
        → asks_memory call ≡ false → ReadOutcome K (asks_memory call) (read_decoder K.order call) old answer mid
        → ReadsEach K calls mid places new
        → ((ys : List ℕ) → (K.state mid).failed ≡ false → (K.state mid).bytes ≡ Some ys → places
        ≡ sure_answers K.order calls (read_sequence (read_decoders K.order calls) (K.state mid).taken ((K.state mid).queue
        ++ bits K.order ys)))
        → Some answer ∷ places ≡ sure_answers K.order (call ∷ calls)
        (read_sequence (read_decoders K.order (call ∷ calls)) (K.state old).taken ((K.state old).queue
        ++ bits K.order xs))
    one_sure call calls old mid new answer places xs fine known free (had_failed h) others ih = let z = h.failed in cc
    one_sure call calls old mid new answer places xs fine known free (was_done h) others ih =
        let o = K.order in
        let p = (K.state old).taken in
        let b = (K.state old).queue ++ bits o xs in
        let prefix = prefix_is {old = old} {mid = mid} h xs known in
        elim (failed_or_not (is_run_too_long answer)) [
          | inl long ↦
              let z = all_failed calls mid places new others (h.failed ∙ long) in
              let is = too_long-is answer long in
              ap₂ (λ (x : Result Answer Error) (l : List (Option (Result Answer Error))). Some x ∷ l) is z.0
              ∙ ap (sure_answers o (call ∷ calls)) (sym (prefix-long ((read_decoder o call).reads p b) (length h.word) p
              (λ n. read_sequence (read_decoders o calls) (p + n) (drop n b)) (prefix ∙ ap (Done (length h.word)) is)))
          | inr sound ↦
              let k = left {old = old} {mid = mid} h sound xs known in
              let behind : drop (length h.word) b ≡ (K.state mid).queue ++ bits o k.0 = ap (drop (length h.word)) k.2
              ∙ drop-append_seam h.word ((K.state mid).queue ++ bits o k.0) in
              let step = prefix-done ((read_decoder o call).reads p b) (length h.word) p answer
              (λ n. read_sequence (read_decoders o calls) (p + n) (drop n b)) prefix sound in
              let at : p + length h.word ≡ (K.state mid).taken = sym h.taken in
              let rest = read_sequence (read_decoders o calls) (K.state mid).taken ((K.state mid).queue ++ bits o k.0) in
              ap (λ (l : List (Option (Result Answer Error))). Some answer ∷ l) (ih k.0 (h.failed ∙ sound) k.1
              ∙ ap (λ (c : Bool). cond c (failed_answers o calls) (sure_answers o calls rest)) (sym sound))
              ∙ ap (sure_answers o (call ∷ calls)) (sym (step
              ∙ ap₂ (λ (n : ℕ) (l : List Bool). (answer, n) ∷ read_sequence (read_decoders o calls) n l) at behind))
        ]
    one_sure call calls old mid new answer places xs fine known free (was_refused h) others ih =
        let o = K.order in
        let p = (K.state old).taken in
        let b = (K.state old).queue ++ bits o xs in
        let z = all_failed calls mid places new others h.failed in
        let end = ends h.refusal h.allowed in
        ap₂ (λ (x : Result Answer Error) (l : List (Option (Result Answer Error))). Some x ∷ l) (h.answer
        ∙ ap (λ k. Err (read_refusal_of k)) end.kind) z.0
        ∙ ap (sure_answers o (call ∷ calls)) (sym (prefix-few ((read_decoder o call).reads p b) p
        (λ n. read_sequence (read_decoders o calls) (p + n) (drop n b)) (h.ended end xs known)))
    one_sure call calls old mid new answer places xs fine known free (memory_refused g h) others ih = cc

    pub sure_of : (calls : List ReadCall) (old : R) (places : List (Option (Result Answer Error))) (new : R)
        → ReadsEach K calls old places new → (xs : List ℕ) → (K.state old).failed ≡ false → (K.state old).bytes
        ≡ Some xs → AsksNoMemory calls
        → places ≡ sure_answers K.order calls (read_sequence (read_decoders K.order calls) (K.state old).taken
        ((K.state old).queue ++ bits K.order xs))
    unfolding ReadsEach
    sure_of [] old [] new h xs fine known free = refl
    sure_of [] old (q ∷ places) new h xs fine known free = absurd h
    sure_of (c ∷ calls) old [] new h xs fine known free = absurd h
    sure_of (c ∷ calls) old (q ∷ places) new h xs fine known free =
        let one = free_call c calls free in
        ap (λ (place : Option (Result Answer Error)). place ∷ places) h.2
        ∙ one_sure c calls old h.1 new h.0 places xs fine known one.0 h.3 h.4
        (λ ys sound is. sure_of calls h.1 places new h.4 ys sound is one.1)

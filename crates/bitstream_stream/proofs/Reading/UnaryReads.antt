-- A run that is read bit by bit.
use Rattle.std.proofs.Common.{◌*◌, ◌≤◌, Result, length-append, ◌≡◌, ℕ, ◌+◌, ◌^◌, ◌<◌, Bool, true, false, not, List, [], ◌∷◌, ◌++◌, length, replicate, Ok, Err, refl, sym, ap, ◌∙◌, subst, arith, append-nil}
use mathlib.Core.Bool.{beq}
use Rattle.std.proofs.lemmas.List.{length-replicate, nil_from_length}
use Rattle.bitstream_count.specs.declared.error.Error.{Error}
use Rattle.bitstream_count.specs.declared.error.Error.TheVariants.{Failed, RunTooLong}
use Rattle.bitstream_count.specs.Codec.{Incomplete, Done}
use Rattle.bitstream_count.specs.Unary.{unary, lead, read_unary}
use Rattle.bitstream_count.proofs.UnaryLemmas.{begins_unary, length-unary, lead-others, short_prefix, begins_others, others_short, others_long, read_unary-unary}
use Rattle.std.specs.Io.KnownBytes.{Consumes}
use Rattle.bitstream_number.specs.Word.{Order, word, bits}
use Rattle.bitstream_number.proofs.WordLemmas.{length-bits, length-word}
use Rattle.bitstream_order.specs.Port.{PortState}
use Rattle.bitstream_order.specs.Refusal.{Refusal}
use Rattle.bitstream_order.specs.Moving.TakeUnary.{TakesBetween, TakesLongUnary, RefusesUnary}
use Rattle.bitstream_order.proofs.Moving.TakeLemmas.{word-none}
use Rattle.bitstream_order.proofs.Streaming.FaultLemmas.{end_few}
use Rattle.bitstream_stream.specs.Reading.Reader.{reader_state}
use Rattle.bitstream_stream.specs.Reading.Reads.{ReadDone, ReadRefused, BitSource, Reads, had_failed, was_done, failed_reader}
use Rattle.bitstream_stream.specs.Reading.ReadTable.{first_bit, bit_decoder, unary_decoder}
use Rattle.bitstream_stream.proofs.Reading.CodecLemmas.{word_prefix-some}
use Rattle.bitstream_stream.proofs.Reading.ReadsLemmas.{Consumes-known, Behind, Begun, Begun-more, Begun-word, Reads-behind, Took-too_long}
use Rattle.bitstream_stream.proofs.Shared.{replicate-more}

-- ---- one bit

pub bit_prefix : (p : ℕ) (b : Bool) (more : List Bool) → bit_decoder.reads p (b ∷ more) ≡ Done 1 (Ok b)
bit_prefix p b more = word_prefix-some 1 (λ w. Ok (first_bit w)) (b ∷ []) more refl

bit_word : (p : ℕ) (b : Bool) (v : List Bool) → ((more : List Bool) → bit_decoder.reads p (v ++ more)
    ≡ Done (length v) (Ok b)) → v ≡ b ∷ []
bit_word p b [] h = let none = h [] in cc
bit_word p b (c ∷ []) h = let same = h [] in let is : c ≡ b = cc in ap (λ x. x ∷ []) is
bit_word p b (c ∷ d ∷ v) h =
    let same : Done 1 (Ok c) ≡ Done (length (c ∷ d ∷ v)) (Ok b) = sym (bit_prefix p c ((d ∷ v) ++ [])) ∙ h [] in
    let size : 1 ≡ length (c ∷ d ∷ v) = cc same in
    absurd (omega (arith, size))

bit_answers : (p : ℕ) (x : Error) (v : List Bool) → ((more : List Bool) → bit_decoder.reads p (v ++ more)
    ≡ Done (length v) (Err x)) → ⊥
bit_answers p x [] h = let none = h [] in cc
bit_answers p x (c ∷ v) h = let some : Done 1 (Ok c) ≡ Done (length (c ∷ v)) (Err x) = sym (bit_prefix p c (v ++ []))
    ∙ h [] in cc

bit_short : (p : ℕ) (more : List Bool) → bit_decoder.reads p more ≡ Incomplete → more ≡ []
bit_short p [] h = refl
bit_short p (b ∷ more) h = let some : Done 1 (Ok b) ≡ Incomplete = sym (bit_prefix p b more) ∙ h in cc

pub same_bit : (b stop : Bool) → beq b stop ≡ true → b ≡ stop
same_bit true true h = refl
same_bit true false h = cc
same_bit false true h = cc
same_bit false false h = refl

pub other_bit : (b stop : Bool) → beq b stop ≡ false → b ≡ not stop
other_bit true true h = cc
other_bit true false h = refl
other_bit false true h = refl
other_bit false false h = cc

-- ---- n bits that are not the stop bit, and what follows

unary_behind : (stop : Bool) (n p q : ℕ) → n < 2 ^ 32 → Behind (unary_decoder stop) p (replicate n (not stop)) bit_decoder q
unfolding unary_decoder
unary_behind stop n p q few = record {
  needs = λ prefix b back is. begins_others stop n prefix b back (omega arith) is;
  short = λ more h.
      ap (λ l. read_unary stop (replicate n (not stop) ++ l)) (bit_short q more h)
      ∙ ap (read_unary stop) (append-nil (replicate n (not stop))) ∙ others_short stop n few;
}

module _ {R : Type 0} {K : BitSource R} where
  pub unary-failed : (stop : Bool) (s : R) → (K.state s).failed ≡ true → Reads K (unary_decoder stop) s (Err Failed) s
  unfolding unary_decoder
  unary-failed stop s h = had_failed (record { failed = h; answer = refl; same = refl })

  pub unary-as : {r : Result ℕ Error} {s t : R} (stop e : Bool) → stop ≡ e → Reads K (unary_decoder stop) s r t
      → Reads K (unary_decoder e) s r t
  unary-as {r = r} {s = s} {t = t} stop e same h = subst (λ b. Reads K (unary_decoder b) s r t) same h

  -- the read of a bit failed
  pub unary-stops : (stop : Bool) (n : ℕ) (x : Error) (s t z : R) → n < 2 ^ 32 → Begun K s (replicate n (not stop)) t
      → Reads K bit_decoder t (Err x) z → Reads K (unary_decoder stop) s (Err x) z
  unfolding unary_decoder
  unary-stops stop n x s t z few b h =
      Reads-behind (unary_decoder stop) bit_decoder (replicate n (not stop)) (Err x) (Err x) s t z b
      (unary_behind stop n (K.state s).taken (K.state t).taken few) (λ broken e. let same : x ≡ Failed = cc in
      ap Err same)
      (λ y e. let same : x ≡ y = cc in ap Err same) refl (λ v d. absurd (bit_answers (K.state t).taken x v d)) h

  -- the stop bit
  pub unary-ends : (stop : Bool) (n : ℕ) (b : Bool) (s t z : R) → n < 2 ^ 32 → beq b stop ≡ true
      → Begun K s (replicate n (not stop)) t → Reads K bit_decoder t (Ok b) z → Reads K (unary_decoder stop) s (Ok n) z
  unfolding unary_decoder
  unary-ends stop n b s t z few same begun h =
      Reads-behind (unary_decoder stop) bit_decoder (replicate n (not stop)) (Ok n) (Ok b) s t z begun
      (unary_behind stop n (K.state s).taken (K.state t).taken few) (λ broken e. cc)
      (λ y e. cc) refl
      (λ v d more.
      let word : unary stop n ≡ replicate n (not stop) ++ v =
      ap (λ l. replicate n (not stop) ++ l) (ap (λ c. c ∷ []) (sym (same_bit b stop same))
      ∙ sym (bit_word (K.state t).taken b v d)) in
      subst (λ w. read_unary stop (w ++ more) ≡ Done (length w) (Ok n)) word (read_unary-unary stop n more few)) h

  -- another bit
  pub unary-more : (stop : Bool) (n m : ℕ) (b : Bool) (s t z : R) → m ≡ n + 1 → beq b stop ≡ false
      → Begun K s (replicate n (not stop)) t → Reads K bit_decoder t (Ok b) z → Begun K s (replicate m (not stop)) z
  unary-more stop n m b s t z next other begun h =
      let more = Begun-more bit_decoder b s (replicate n (not stop)) t z begun refl h in
      let is : b ∷ [] ≡ not stop ∷ [] = ap (λ c. c ∷ []) (other_bit b stop other) in
      let word : replicate n (not stop) ++ more.0 ≡ replicate m (not stop) =
      ap (λ l. replicate n (not stop) ++ l) (bit_word (K.state t).taken b more.0 more.1 ∙ is)
      ∙ sym (replicate-more n (not stop)) ∙ ap (λ k. replicate k (not stop)) (sym next) in
      subst (λ w. Begun K s w z) word more.2

  -- too many of them: the reader was made to fail
  pub unary-too_long : (stop : Bool) (n : ℕ) (s t z : R) → n ≡ 2 ^ 32 → Begun K s (replicate n (not stop)) t → K.state z
      ≡ failed_reader (K.state t) → Reads K (unary_decoder stop) s (Err RunTooLong) z
  unfolding unary_decoder
  unary-too_long stop n s t z long begun broken =
      let some : 0 < length (replicate n (not stop)) = omega (arith, length-replicate n (not stop), long) in
      was_done (Took-too_long K.order (unary_decoder stop) (replicate n (not stop)) (K.state s) (K.state t) (K.state z)
      (Begun-word K s (replicate n (not stop)) t begun some) broken
      (λ more. others_long stop n more long) (λ prefix b back is. begins_others stop n prefix b back (omega (arith, long))
      is))

-- ---- a run that was taken from a port

module _ (o : Order) (stop : Bool) (old new : PortState) (queue queued before_taken after_taken : ℕ)
    (before : Bool) where
  -- its number was returned
  pub lead_answered : (count q l : ℕ) (after : Bool) → before ≡ false → after ≡ false → count < 2 ^ 32 → after_taken
      ≡ before_taken + (count + 1)
      → TakesBetween o (word o queued queue) old (unary stop count) (word o l q) new
      → ReadDone o (unary_decoder stop) (reader_state o old queue queued before_taken before) (Ok count)
      (reader_state o new q l after_taken after)
  unfolding unary_decoder
  lead_answered count q l after fine still few more h = record {
    fine = fine;
    word = unary stop count;
    decides = λ more. read_unary-unary stop count more few;
    needs = λ prefix b back is. begins_unary stop count prefix b back few is;
    gone = h.bytes;
    loses = h.loses;
    rest = word o l q;
    parts = h.word;
    queue = refl;
    fetched = h.fetched;
    taken = more ∙ ap (λ n. before_taken + n) (sym (length-unary stop count));
    refusals = h.refusals;
    references = h.references;
    failed = still;
  }

  -- it was too long
  pub lead_too_long : (q : ℕ) → before ≡ false → after_taken ≡ before_taken + 2 ^ 32
      → TakesLongUnary o stop (word o queued queue) old new
      → ReadDone o (unary_decoder stop) (reader_state o old queue queued before_taken before) (Err RunTooLong)
      (reader_state o new q 0 after_taken true)
  unfolding unary_decoder
  lead_too_long q fine more h = record {
    fine = fine;
    word = replicate h.count (not stop);
    decides = λ more. others_long stop h.count more h.long;
    needs = λ prefix b back is. begins_others stop h.count prefix b back (omega (arith, h.long)) is;
    gone = h.takes.bytes;
    loses = h.takes.loses;
    rest = h.left;
    parts = h.takes.word;
    queue = word-none o q;
    fetched = h.takes.fetched;
    taken = more ∙ ap (λ n. before_taken + n) (sym h.long ∙ sym (length-replicate h.count (not stop)));
    refusals = h.takes.refusals;
    references = h.takes.references;
    failed = refl;
  }

  -- the read of a byte failed
  pub lead_stopped : (may : Refusal → Type 0) (q : ℕ) (error : Error) → before ≡ false → before_taken ≤ after_taken
      → RefusesUnary may o stop (word o queued queue) old error new
      → ReadRefused o may (unary_decoder stop) (reader_state o old queue queued before_taken before) (Err error)
      (reader_state o new q 0 after_taken true)
  unfolding unary_decoder
  lead_stopped may q error fine least h =
      let t = h.takes in
      let r = h.refused in
      let x = word o queued queue in
      let others = replicate h.count (not stop) in
      let all : x ++ bits o t.bytes ≡ others = t.word ∙ append-nil others in
      let lead_is : lead stop (x ++ bits o t.bytes) ≡ h.count = ap (lead stop) t.word ∙ lead-others stop h.count []
      ∙ omega arith in
      let size : length x + length (bits o t.bytes) ≡ h.count = sym (length-append x (bits o t.bytes)) ∙ ap length all
      ∙ length-replicate h.count (not stop) in
      let few : read_unary stop (x ++ bits o t.bytes) ≡ Incomplete = ap (read_unary stop) all
      ∙ others_short stop h.count h.few in
      record {
        fine = fine;
        refusal = r.refusal;
        allowed = r.allowed;
        answer = ap Err r.answer;
        short = short_prefix stop x (bits o t.bytes) (omega (arith, lead_is, size)) (omega (arith, size, h.few));
        gone = t.bytes;
        loses = subst (λ b. Consumes old.bytes b t.bytes) (sym r.before) t.loses;
        after = r.after;
        fetched = r.fetched ∙ t.fetched;
        least = least;
        few = few;
        ended = λ end xs known.
            let lost = Consumes-known old.bytes h.mid.bytes t.bytes xs t.loses known in
            let none : length lost.0 < 1 = end_few may error h.mid new 1 lost.0 r end lost.1 in
            let same : xs ≡ t.bytes = lost.2 ∙ ap (λ l. t.bytes ++ l) (nil_from_length lost.0 (omega (arith, none)))
            ∙ append-nil t.bytes in
            ap (λ l. read_unary stop (x ++ bits o l)) same ∙ few;
        refusals = r.refusals ∙ ap (λ l. r.refusal ∷ l) t.refusals;
        references = r.references ∙ t.references;
        failed = refl;
      }

-- how many bytes were fetched for bits
between_fetched : (o : Order) (x w y : List Bool) (old new : PortState) → TakesBetween o x old w y new
    → length x + 8 * new.fetched ≡ length w + length y + 8 * old.fetched
between_fetched o x w y old new h =
    let sum : length x + 8 * length h.bytes ≡ length w + length y =
    ap (λ n. length x + n) (sym (length-bits o h.bytes)) ∙ sym (length-append x (bits o h.bytes)) ∙ ap length h.word
    ∙ length-append w y in
    let f = h.fetched in
    omega (arith, sum, f)

-- for a run
pub lead_fetched : (o : Order) (queued queue : ℕ) (stop : Bool) (count l q : ℕ) (old new : PortState)
    → TakesBetween o (word o queued queue) old (unary stop count) (word o l q) new → queued + 8 * new.fetched
    ≡ count + 1 + l + 8 * old.fetched
lead_fetched o queued queue stop count l q old new h =
    omega (
      arith,
      between_fetched o (word o queued queue) (unary stop count) (word o l q) old new h,
      length-word o queued queue,
      length-word o l q,
      length-unary stop count,
    )

-- and for one that was too long
pub long_fetched : (o : Order) (queued queue : ℕ) (stop : Bool) (old new : PortState)
    → TakesLongUnary o stop (word o queued queue) old new → (2 ^ 32 + 8 * old.fetched ≤ queued + 8 * new.fetched)
    × (queued + 8 * new.fetched < 2 ^ 32 + 8 * old.fetched + 8)
long_fetched o queued queue stop old new h =
    let all = between_fetched o (word o queued queue) (replicate h.count (not stop)) h.left old new h.takes in
    let size = length-word o queued queue in
    let lead = length-replicate h.count (not stop) in
    let long = h.long in
    let few = h.few in
    (omega arith, omega arith)

-- What a reader's calls come to.
use Rattle.std.proofs.Common.{◌≡◌, ℕ, ◌+◌, ◌*◌, ◌<◌, ◌≤◌, Bool, true, false, List, [], ◌∷◌, ◌++◌, length, Option, Ok, Err, refl, sym, ap, ap₂, ◌∙◌, subst, arith, length-append}
use Rattle.std.proofs.KnownBytes.{Consumes-nil}
use Rattle.bitstream_order.specs.Reference.{Reference}
use Rattle.std.specs.Io.KnownBytes.{Consumes}
use Rattle.std.proofs.Math.Nat.{mod-eq_of_lt}
use Rattle.std.proofs.lemmas.Bool.{lt-leb}
use Rattle.bitstream_count.specs.declared.error.Error.{Error}
use Rattle.bitstream_count.specs.declared.error.Error.TheVariants.{ReadBits, Failed}
use Rattle.bitstream_count.specs.Codec.{Done}
use Rattle.bitstream_number.specs.Word.{Order, word, bits, number}
use Rattle.bitstream_number.proofs.WordLemmas.{length-word, length-bits, number-word}
use Rattle.bitstream_order.specs.Moving.Gather.{TakesWord}
use Rattle.bitstream_order.specs.Port.{PortState, FetchRefused}
use Rattle.bitstream_order.specs.Refusal.{Refusal}
use Rattle.bitstream_order.proofs.Moving.TakeLemmas.{word-none, takes_lengths}
use Rattle.bitstream_order.proofs.Streaming.FaultLemmas.{end_few}
use Rattle.bitstream_stream.specs.Reading.Reads.{BitSource, Reads, ReadDone, ReadRefused, had_failed}
use Rattle.bitstream_stream.specs.Reading.Reader.{reader_state, new_reader_state}
use Rattle.bitstream_stream.specs.Alignment.{to_boundary}
use Rattle.bitstream_stream.specs.Reading.ReadTable.{unsigned_decoder, align_decoder}
use Rattle.bitstream_stream.proofs.Reading.CodecLemmas.{word_prefix-some, word_prefix-none, word_needs}
use Rattle.bitstream_stream.proofs.Reading.ReadsLemmas.{Reads-nothing, Consumes-known}
use Rattle.bitstream_stream.proofs.Reading.TableLemmas.{unsigned-takes}

-- ---- reading

pub unsigned-failed : {R : Type 0} {K : BitSource R} (o : Order) (size n : ℕ) (s : R) → (K.state s).failed ≡ true
    → Reads K (unsigned_decoder o size n) s (Err Failed) s
unfolding unsigned_decoder
unsigned-failed o size n s h = had_failed (record { failed = h; answer = refl; same = refl })

pub unsigned-refused : {R : Type 0} {K : BitSource R} (o : Order) (size n : ℕ) (s : R) → (K.state s).failed ≡ false
    → size < n → Reads K (unsigned_decoder o size n) s (Err ReadBits) s
unfolding unsigned_decoder
unsigned-refused o size n s h wide = Reads-nothing (unsigned_decoder o size n) (Err ReadBits) s h refl
    (λ more. rw (lt-leb n size wide) refl)

pub answered : (o : Order) (size queued queue n v l q before_taken after_taken : ℕ) (before after : Bool)
    (old new : PortState) → before ≡ false → after ≡ false → n ≤ size → after_taken ≡ before_taken + n
    → TakesWord o queued queue old n v l q new
    → ReadDone o (unsigned_decoder o size n) (reader_state o old queue queued before_taken before) (Ok v)
    (reader_state o new q l after_taken after)
answered o size queued queue n v l q before_taken after_taken before after old new fine still le more h =
    rw (unsigned-takes o size n le) (record {
      fine = fine;
      word = word o n v;
      decides = λ more.
          let len = length-word o n v in
          let value : number o (word o n v) ≡ v = number-word o n v ∙ mod-eq_of_lt h.below in
          word_prefix-some n (λ w. Ok (number o w)) (word o n v) more len ∙ ap₂ (λ k x. Done k (Ok x)) (sym len) value;
      needs = word_needs n (λ w. Ok (number o w)) (word o n v) (length-word o n v);
      gone = h.bytes;
      loses = h.loses;
      rest = word o l q;
      parts = h.word;
      queue = refl;
      fetched = h.fetched;
      taken = more ∙ ap (λ k. before_taken + k) (sym (length-word o n v));
      refusals = h.refusals;
      references = h.references;
      failed = still;
    })

-- how many bits are held, with those of some bytes
bits_ahead : (o : Order) (queued queue : ℕ) (xs : List ℕ) → length (word o queued queue ++ bits o xs)
    ≡ queued + 8 * length xs
bits_ahead o queued queue xs = length-append (word o queued queue) (bits o xs)
    ∙ ap₂ (λ i j. i + j) (length-word o queued queue) (length-bits o xs)

pub stopped : (o : Order) (may : Refusal → Type 0) (size queued queue n m v k q l before_taken after_taken :
    ℕ) (failed : Bool) (x : Error) (old mid new : PortState) → failed ≡ false → n ≤ size → queued < n → m < n
    → m + 8 * k < n + 8 → before_taken ≤ after_taken
    → TakesWord o queued queue old m v 0 0 mid → FetchRefused may x mid k new
    → ReadRefused o may (unsigned_decoder o size n) (reader_state o old queue queued before_taken failed) (Err x)
    (reader_state o new q l after_taken true)
stopped o may size queued queue n m v k q l before_taken after_taken failed x old mid new fine le short part more least h r =
    rw (unsigned-takes o size n le) (record {
      fine = fine;
      refusal = r.refusal;
      allowed = r.allowed;
      answer = ap Err r.answer;
      short = word_prefix-none n (λ w. Ok (number o w)) (word o queued queue)
          (subst (λ j. j < n) (sym (length-word o queued queue)) short);
      gone = h.bytes;
      loses = subst (λ b. Consumes old.bytes b h.bytes) (sym r.before) h.loses;
      after = r.after;
      fetched = r.fetched ∙ h.fetched;
      least = least;
      few =
          let sum : queued + 8 * length h.bytes ≡ m + 0 = takes_lengths o queued queue m v 0 0 h.bytes h.word in
          word_prefix-none n (λ w. Ok (number o w)) (word o queued queue
          ++ bits o h.bytes) (omega (arith, bits_ahead o queued queue h.bytes));
      ended = λ end xs known.
          let lost = Consumes-known old.bytes mid.bytes h.bytes xs h.loses known in
          let few : length lost.0 < k = end_few may x mid new k lost.0 r end lost.1 in
          let sum : queued + 8 * length h.bytes ≡ m + 0 = takes_lengths o queued queue m v 0 0 h.bytes h.word in
          let size : length xs ≡ length h.bytes + length lost.0 = ap (λ l. length l) lost.2
          ∙ length-append h.bytes lost.0 in
          word_prefix-none n (λ w. Ok (number o w)) (word o queued queue
          ++ bits o xs) (omega (arith, bits_ahead o queued queue xs));
      refusals = r.refusals ∙ ap (λ l. r.refusal ∷ l) h.refusals;
      references = r.references ∙ h.references;
      failed = refl;
    })

-- the number of bytes that were fetched for an encoding
pub takes_fetched : (o : Order) (queued queue n v l q : ℕ) (old new : PortState)
    → TakesWord o queued queue old n v l q new → queued + 8 * new.fetched ≡ n + l + 8 * old.fetched
takes_fetched o queued queue n v l q old new h = omega (
  arith,
  takes_lengths o queued queue n v l q h.bytes h.word,
  h.fetched,
)

-- ---- alignment

pub aligned : (o : Order) (port : PortState) (queue queued before_taken after_taken none : ℕ) (failed : Bool) → failed
    ≡ false → queued < 8 → before_taken + queued ≡ 8 * port.fetched → after_taken ≡ before_taken + queued
    → ReadDone o align_decoder (reader_state o port queue queued before_taken failed) (Ok tt)
    (reader_state o port none 0 after_taken failed)
unfolding align_decoder
aligned o port queue queued before_taken after_taken none failed fine small whole more =
    let len = length-word o queued queue in
    let gap : to_boundary before_taken ≡ queued = omega (arith, small, whole) in
    record {
      fine = fine;
      word = word o queued queue;
      decides = λ more. word_prefix-some (to_boundary before_taken) (λ _. Ok tt) (word o queued queue) more (len
          ∙ sym gap) ∙ rw (gap, len) refl;
      needs = word_needs (to_boundary before_taken) (λ _. Ok tt) (word o queued queue) (len ∙ sym gap);
      gone = [];
      loses = Consumes-nil port.bytes;
      rest = [];
      parts = refl;
      queue = word-none o none;
      fetched = omega arith;
      taken = more ∙ ap (λ k. before_taken + k) (sym len);
      refusals = refl;
      references = refl;
      failed = fine;
    }

-- ---- a new reader

pub start_state : (o : Order) (port : PortState) (taken queue : ℕ) (remaining : Option (List ℕ)) (references :
    List Reference) → port.bytes ≡ remaining → port.references ≡ references → port.fetched ≡ 0 → port.refusals
    ≡ [] → taken ≡ 0
    → reader_state o port queue 0 taken false ≡ new_reader_state remaining references
start_state o port taken queue remaining references bytes same fetched refusals none =
    rw (bytes, same, fetched, refusals, none, word-none o queue) refl

-- A reader of bytes in memory goes on by some bits.
use Rattle.std.specs.Prelude.{option_map, IfSome, IsTrue, ◌↔◌, ◌==◌}
use Rattle.std.proofs.Common.{◌≡◌, ℕ, suc, not, replicate, ◌+◌, ◌-◌, ◌*◌, ◌/◌, ◌%◌, ◌^◌, ◌<◌, ◌≤◌, Bool, true, false, List, [], ◌++◌, length, take, drop, Some, Result, Ok, Err, refl, sym, ap, ap₂, ◌∙◌, subst, arith, append-nil, length-append, take-append-drop, inl, inr}
use Rattle.std.proofs.lemmas.Bool.Decides.{eqb_tells}
use Rattle.std.proofs.Math.Nat.{mod-eq_of_lt}
use Rattle.std.proofs.lemmas.List.{length-take-le, length-drop, drop-take, drop-drop, drop-append-le, take-append-le}
use Rattle.std.proofs.Math.Seq.{take-add}
use Rattle.bitstream_count.specs.declared.error.Error.TheVariants.{EndOfInput, Failed, RunTooLong}
use Rattle.bitstream_count.specs.declared.error.Error.{Error}
use Rattle.bitstream_count.specs.Unary.{unary, lead}
use Rattle.bitstream_count.proofs.UnaryLemmas.{begins_unary, begins_others, others_long, short_prefix, read_unary-unary, prefix_is_unary, take_others, lead_le}
use Rattle.bitstream_count.specs.Codec.{Decoder, Incomplete, Done, consume, word_prefix}
use Rattle.bitstream_number.specs.Word.{Order, word, bits, number}
use Rattle.bitstream_number.proofs.WordLemmas.{length-bits, bits-append, length-word, number-word}
use Rattle.bitstream_order.specs.Refusal.{Refusal, TrueEnds}
use Rattle.bitstream_order.specs.Streaming.Tail.{IsTail}
use Rattle.bitstream_stream.specs.Reading.Reads.{ReaderState, Reads, ReadDone, Took, had_failed, was_done, was_refused, bits_left, failed_reader}
use Rattle.bitstream_stream.specs.Reading.ReadTable.{unsigned_decoder, unary_decoder, skip_decoder, align_decoder, whole_bytes_decoder}
use Rattle.bitstream_stream.specs.Alignment.{to_boundary}
use Rattle.bitstream_stream.specs.Reading.Reader.{new_reader_state}
use Rattle.bitstream_stream.proofs.Reading.CodecLemmas.{word_prefix-some, word_prefix-none, word_needs}
use Rattle.bitstream_stream.proofs.Reading.ReadsLemmas.{Took-too_long, Reads-and_then-ok}
use Rattle.bitstream_stream.proofs.Reading.TableLemmas.{unsigned-takes}
use Rattle.bitstream_stream.specs.Reading.Memory.{held, rest_bits, taken_bits, memory_state, EndsInMemory}
use Rattle.bitstream_stream.specs.Reading.MemoryState.{held_there, none_or_some}
use Rattle.bitstream_stream.specs.Reading.MemorySource.{memory_source}
use Rattle.bitstream_stream.specs.Reading.MemoryTakes.{GoesOn, TakesNumber, FailsAtEnd}
use Rattle.bitstream_stream.specs.declared.read.slice_reader.SliceReader.{SliceReader}
use Rattle.bitstream_stream.proofs.Reading.MemoryWindows.{bits-drop}

-- What is queued, with the bytes fetched, is what is taken and what is queued then. `last` bytes hold the bits taken
-- and the bits queued then; `done` bytes are taken whole.
parted : (o : Order) (bytes : List ℕ) (bit n h g done bit2 h2 : ℕ) → bit ≤ 8 * h → h + g ≤ length bytes → bit + n
    ≡ 8 * done + bit2 → done + h2 ≡ h + g → bit + n ≤ 8 * (h + g)
    → rest_bits o (take h bytes) bit ++ bits o (take g (drop h bytes))
    ≡ take n (rest_bits o bytes bit) ++ rest_bits o (take h2 (drop done bytes)) bit2
parted o bytes bit n h g done bit2 h2 few there place last within =
    let c = take (h + g) bytes in
    let whole = bits o c in
    let long : length whole ≡ 8 * (h + g) = length-bits o c ∙ ap (λ j. 8 * j) (length-take-le (h + g) bytes there) in
    let first : length (bits o (take h bytes)) ≡ 8 * h =
    length-bits o (take h bytes) ∙ ap (λ j. 8 * j) (length-take-le h bytes (omega arith)) in
    let left : rest_bits o (take h bytes) bit ++ bits o (take g (drop h bytes)) ≡ drop bit whole =
    sym (drop-append-le bit (bits o (take h bytes)) (bits o (take g (drop h bytes))) (omega (arith, few, first)))
    ∙ ap (drop bit) (sym (bits-append o (take h bytes) (take g (drop h bytes))) ∙ ap (bits o) (sym (take-add h g bytes)))
    in
    let parts : bits o bytes ≡ whole ++ bits o (drop (h + g) bytes) =
    ap (bits o) (sym (take-append-drop (h + g) bytes)) ∙ bits-append o c (drop (h + g) bytes) in
    let rest : rest_bits o bytes bit ≡ drop bit whole ++ bits o (drop (h + g) bytes) =
    ap (drop bit) parts ∙ drop-append-le bit whole (bits o (drop (h + g) bytes)) (omega (arith, long)) in
    let prefix : take n (rest_bits o bytes bit) ≡ take n (drop bit whole) =
    ap (take n) rest ∙ take-append-le n (drop bit whole) (bits o (drop (h + g) bytes))
    (omega (arith, long, length-drop bit whole)) in
    let back : rest_bits o (take h2 (drop done bytes)) bit2 ≡ drop n (drop bit whole) =
    ap (λ l. drop bit2 (bits o l)) (sym (drop-take done h2 bytes) ∙ ap (λ k. drop done (take k bytes)) last)
    ∙ ap (drop bit2) (bits-drop o done c (omega (arith, length-take-le (h + g) bytes there)))
    ∙ drop-drop bit2 (8 * done) whole ∙ ap (λ k. drop k whole) (sym place) ∙ sym (drop-drop n bit whole) in
    left ∙ sym (take-append-drop n (drop bit whole)) ∙ ap₂ (λ x y. x ++ y) (sym prefix) (sym back)

-- n bits are taken
pub moved : (o : Order) (all bytes back : List ℕ) (bit n : ℕ) (failed : Bool) (refusals : List Refusal) → failed ≡ false
    → bit < 8 → (0 < bit → 1 ≤ length bytes) → bit + n ≤ 8 * length bytes → length bytes ≤ length all
    → back ≡ drop ((bit + n) / 8) bytes
    → Took o (memory_state o all bytes bit failed refusals) (take n (rest_bits o bytes bit))
    (memory_state o all back ((bit + n) % 8) failed refusals)
moved o all bytes back bit n false refusals fine few some enough within is =
    let h = held bit in
    let h2 = held ((bit + n) % 8) in
    let done = (bit + n) / 8 in
    let g = (bit + n + 7) / 8 - h in
    let there : h ≤ length bytes = held_there bytes bit few some in
    let size : length (bits o bytes) ≡ 8 * length bytes = length-bits o bytes in
    let word_size : length (take n (rest_bits o bytes bit)) ≡ n =
    length-take-le n (rest_bits o bytes bit) (omega (arith, length-drop bit (bits o bytes), size)) in
    let gone = take g (drop h bytes) in
    let gone_size : length gone ≡ g = length-take-le g (drop h bytes) (omega (arith, length-drop h bytes)) in
    let back_size : length back ≡ length bytes - done = ap (λ l. length l) is ∙ length-drop done bytes in
    let sum : h + g ≡ done + h2 = omega arith in
    record {
      fine = refl;
      gone = gone;
      loses = sym (take-append-drop g (drop h bytes)) ∙ ap (λ l. gone ++ l) (drop-drop g h bytes
          ∙ ap (λ k. drop k bytes) sum ∙ sym (drop-drop h2 done bytes) ∙ ap (drop h2) (sym is));
      parts = parted o bytes bit n h g done ((bit + n) % 8) h2 (omega arith) (omega arith) (omega arith) (sym sum)
          (omega arith) ∙ ap (λ l. take n (rest_bits o bytes bit) ++ rest_bits o (take h2 l) ((bit + n) % 8)) (sym is);
      fetched = omega (arith, gone_size, back_size);
      taken = omega (arith, word_size, back_size);
      refusals = refl;
      references = refl;
      failed = refl;
    }
moved o all bytes back bit n true refusals fine few some enough within is = cc

tail_le : (bytes all : List ℕ) → IsTail bytes all → length bytes ≤ length all
tail_le bytes all tail =
    let size = ap (λ l. length l) tail ∙ length-append (take (length all - length bytes) all) bytes in
    omega (arith, size)

-- a reader that goes on takes the first bits
pub went_on : {E : Type 0} (o : Order) (n : ℕ) (old new : SliceReader E) → old.failed ≡ false → GoesOn n old new
    → Took o ((memory_source o).state old) (take n (rest_bits o old.bytes.now old.bit)) ((memory_source o).state new)
went_on o n old new fine h =
    rw (h.all, h.bit, h.failed, h.refusals)
    (moved o old.all.now old.bytes.now new.bytes.now old.bit n old.failed old.refusals.list fine old.few old.some
    h.enough (tail_le old.bytes.now old.all.now old.tail) h.bytes)

-- an encoding that was taken is a number that was read
pub number_done : (o : Order) (size n v : ℕ) (s t : ReaderState) → n ≤ size → v < 2 ^ n → Took o s (word o n v) t
    → ReadDone o (unsigned_decoder o size n) s (Ok v) t
number_done o size n v s t le below h =
    rw (unsigned-takes o size n le) (record {
      fine = h.fine;
      word = word o n v;
      decides = λ more.
          let len = length-word o n v in
          let value : number o (word o n v) ≡ v = number-word o n v ∙ mod-eq_of_lt below in
          word_prefix-some n (λ w. Ok (number o w)) (word o n v) more len ∙ ap₂ (λ k x. Done k (Ok x)) (sym len) value;
      needs = word_needs n (λ w. Ok (number o w)) (word o n v) (length-word o n v);
      gone = h.gone;
      loses = h.loses;
      rest = t.queue;
      parts = h.parts;
      queue = refl;
      fetched = h.fetched;
      taken = h.taken;
      refusals = h.refusals;
      references = h.references;
      failed = h.failed;
    })

pub number_read : {E : Type 0} (o : Order) (size n v : ℕ) (old new : SliceReader E) → old.failed ≡ false → n ≤ size
    → TakesNumber o n v old new → Reads (memory_source o) (unsigned_decoder o size n) old (Ok v) new
number_read o size n v old new fine le h =
    let k = memory_source o in
    was_done (number_done o size n v (k.state old) (k.state new) le h.below
    (subst (λ w. Took o (k.state old) w (k.state new)) h.word (went_on o n old new fine h.goes)))

-- ---- the end

-- the bits left are those queued and those of the bytes left
pub bits_ahead : (o : Order) (bytes : List ℕ) (bit : ℕ) → bit < 8 → (0 < bit → 1 ≤ length bytes)
    → rest_bits o (take (held bit) bytes) bit ++ bits o (drop (held bit) bytes) ≡ rest_bits o bytes bit
bits_ahead o bytes bit few some =
    let h = held bit in
    let there = held_there bytes bit few some in
    let first : length (bits o (take h bytes)) ≡ 8 * h =
    length-bits o (take h bytes) ∙ ap (λ j. 8 * j) (length-take-le h bytes there) in
    sym (drop-append-le bit (bits o (take h bytes)) (bits o (drop h bytes)) (omega (arith, first)))
    ∙ ap (drop bit) (sym (bits-append o (take h bytes) (drop h bytes)) ∙ ap (bits o) (take-append-drop h bytes))

some_is : {A : Type 0} {x y : A} → Some x ≡ Some y → x ≡ y
some_is e = cc

pub rest_size : {E : Type 0} (o : Order) (r : SliceReader E)
    → length (rest_bits o r.bytes.now r.bit) ≡ 8 * length r.bytes.now - r.bit
rest_size o r = length-drop r.bit (bits o r.bytes.now) ∙ ap (λ k. k - r.bit) (length-bits o r.bytes.now)

-- it fails only at the end of input
pub memory_ends : TrueEnds EndsInMemory
memory_ends refusal h = record { left = h.left; kind = h.kind; told = h.before; few = h.few }

-- a call that has no prefix of the bits left fails
pub refused : {E A : Type 0} (o : Order) (decoder : Decoder A) (old new : SliceReader E) → old.failed ≡ false
    → ((prefix back : List Bool) → prefix ++ back ≡ rest_bits o old.bytes.now old.bit
    → decoder.reads (taken_bits old.all.now old.bytes.now old.bit) prefix ≡ Incomplete)
    → FailsAtEnd old new → Reads (memory_source o) decoder old (Err EndOfInput) new
refused {E = E} o decoder old new fine none h =
    let s = (memory_source {E = E} o).state old in
    let ahead = bits_ahead o old.bytes.now old.bit old.few old.some in
    let queue = rest_bits o (take (held old.bit) old.bytes.now) old.bit in
    let is : s.queue ≡ queue = rw fine refl in
    let first : decoder.reads s.taken s.queue ≡ Incomplete = rw is (none queue (bits o (drop (held old.bit) old.bytes.now)) ahead) in
    was_refused (record {
      fine = fine;
      refusal = h.refusal;
      allowed = h.allowed;
      answer = rw h.allowed.kind refl;
      short = first;
      gone = [];
      loses = rw h.before refl;
      after = rw (h.bit, h.bytes) (sym h.before ∙ h.allowed.before ∙ sym h.allowed.after);
      fetched = rw (h.all, h.bytes, h.bit) (omega arith);
      least = rw (h.all, h.bytes, h.bit) (omega arith);
      few = rw (append-nil s.queue) first;
      ended = λ end xs known.
          let same : xs ≡ drop (held old.bit) old.bytes.now = sym (some_is known) in
          rw (is, same, ahead) (none (rest_bits o old.bytes.now old.bit) [] (append-nil (rest_bits o old.bytes.now old.bit)));
      refusals = h.refusals;
      references = refl;
      failed = h.failed;
    })

-- a reader that has too few bits for an encoding
pub takes_refused : {E A : Type 0} (o : Order) (n : ℕ) (g : List Bool → Result A Error) (old new : SliceReader E)
    → old.failed ≡ false → 8 * length old.bytes.now < old.bit + n → FailsAtEnd old new
    → Reads (memory_source o) (consume n g) old (Err EndOfInput) new
takes_refused o n g old new fine short h =
    let there = held_there old.bytes.now old.bit old.few old.some in
    let within : old.bit ≤ 8 * length old.bytes.now = omega (arith, there, old.few) in
    refused o (consume n g) old new fine
    (λ prefix back parts.
    let few = length-append prefix back in
    let same = ap (λ l. length l) parts in
    word_prefix-none n g prefix (omega (arith, short, few, same, within, rest_size o old))) h

pub word_refused : {E : Type 0} (o : Order) (size n : ℕ) (old new : SliceReader E) → old.failed ≡ false → n ≤ size
    → 8 * length old.bytes.now < old.bit + n → FailsAtEnd old new
    → Reads (memory_source o) (unsigned_decoder o size n) old (Err EndOfInput) new
word_refused o size n old new fine le short h =
    rw (unsigned-takes o size n le) (takes_refused o n (λ w. Ok (number o w)) old new fine short h)

-- ---- bits, whatever they are

-- an encoding that was taken is the prefix of a call
pub prefix_done : {A : Type 0} (o : Order) (decoder : Decoder A) (n : ℕ) (g : List Bool → Result A Error) (a : A)
    (w : List Bool) (s t : ReaderState) → ((bits : List Bool) → decoder.reads s.taken bits ≡ word_prefix n g bits)
    → length w ≡ n → g w ≡ Ok a → Took o s w t → ReadDone o decoder s (Ok a) t
prefix_done o decoder n g a w s t is len answer h = record {
  fine = h.fine;
  word = w;
  decides = λ more.
      is (w ++ more) ∙ word_prefix-some n g w more len ∙ ap₂ (λ k x. Done k x) (sym len) answer;
  needs = λ prefix b back parts. is prefix ∙ word_needs n g w len prefix b back parts;
  gone = h.gone;
  loses = h.loses;
  rest = t.queue;
  parts = h.parts;
  queue = refl;
  fetched = h.fetched;
  taken = h.taken;
  refusals = h.refusals;
  references = h.references;
  failed = h.failed;
}

word_length : {E : Type 0} (o : Order) (n : ℕ) (r : SliceReader E) → r.bit + n ≤ 8 * length r.bytes.now
    → length (take n (rest_bits o r.bytes.now r.bit)) ≡ n
word_length o n r there = length-take-le n (rest_bits o r.bytes.now r.bit) (omega (arith, rest_size o r))

pub skipped : {E : Type 0} (o : Order) (n : ℕ) (old new : SliceReader E) → old.failed ≡ false → GoesOn n old new
    → Reads (memory_source o) (skip_decoder n) old (Ok tt) new
unfolding skip_decoder
skipped o n old new fine h =
    was_done (prefix_done o (skip_decoder n) n (λ _. Ok tt) tt (take n (rest_bits o old.bytes.now old.bit))
    ((memory_source o).state old) ((memory_source o).state new) (λ bits. refl) (word_length o n old h.enough) refl
    (went_on o n old new fine h))

pub skip_refused : {E : Type 0} (o : Order) (n : ℕ) (old new : SliceReader E) → old.failed ≡ false
    → 8 * length old.bytes.now < old.bit + n → FailsAtEnd old new
    → Reads (memory_source o) (skip_decoder n) old (Err EndOfInput) new
unfolding skip_decoder
skip_refused o n old new fine short h = takes_refused o n (λ _. Ok tt) old new fine short h

pub skip_failed : {E : Type 0} (o : Order) (n : ℕ) (r : SliceReader E) → r.failed ≡ true
    → Reads (memory_source o) (skip_decoder n) r (Err Failed) r
unfolding skip_decoder
skip_failed o n r failed = had_failed (record { failed = failed; answer = refl; same = refl })

pub aligned : {E : Type 0} (o : Order) (n : ℕ) (old new : SliceReader E) → old.failed ≡ false → n ≡ (8 - old.bit) % 8
    → GoesOn n old new → Reads (memory_source o) align_decoder old (Ok tt) new
unfolding align_decoder
aligned {E = E} o n old new fine is h =
    let p = ((memory_source {E = E} o).state old).taken in
    let gap : to_boundary p ≡ n = omega (arith, is, old.few) in
    was_done (prefix_done o align_decoder n (λ _. Ok tt) tt (take n (rest_bits o old.bytes.now old.bit))
    ((memory_source o).state old) ((memory_source o).state new)
    (λ bits. ap (λ k. word_prefix k (λ _. Ok tt) bits) gap) (word_length o n old h.enough) refl
    (went_on o n old new fine h))

pub align_failed : {E : Type 0} (o : Order) (r : SliceReader E) → r.failed ≡ true
    → Reads (memory_source o) align_decoder r (Ok tt) r
unfolding align_decoder
align_failed o r failed = had_failed (record { failed = failed; answer = refl; same = refl })

-- how many bits are left
pub left_size : {E : Type 0} (o : Order) (r : SliceReader E) → r.failed ≡ false
    → option_map (λ w. length w) (bits_left o ((memory_source o).state r)) ≡ Some (8 * length r.bytes.now - r.bit)
left_size o r fine = ap Some (rw fine (ap (λ w. length w) (bits_ahead o r.bytes.now r.bit r.few r.some)
    ∙ rest_size o r))

-- what is known of the number of bits left
pub left_known : {E : Type 0} (o : Order) (r : SliceReader E) (P : ℕ → Type 0) → r.failed ≡ false
    → P (8 * length r.bytes.now - r.bit) → IfSome (bits_left o ((memory_source o).state r)) (λ left. P (length left))
left_known o r P fine h = subst P (sym (some_is (left_size o r fine))) h

-- the bits of all bytes that were not taken, whether the reader has failed or not
pub left_of_all : (all bytes : List ℕ) (bit : ℕ) → IsTail bytes all
    → 8 * length all - taken_bits all bytes bit ≡ 8 * length bytes - bit
left_of_all all bytes bit tail = let le = tail_le bytes all tail in omega (arith, le)

-- all bits were taken of bytes of which none is left
pub end_of_all : (all bytes : List ℕ) (bit : ℕ) (empty : Bool) → IsTail bytes all → (0 < bit → 1 ≤ length bytes)
    → bit < 8 → empty ≡ (length bytes == 0) → IsTrue empty ↔ (taken_bits all bytes bit ≡ 8 * length all)
end_of_all all bytes bit empty tail some few is =
    let le = tail_le bytes all tail in
    elim (eqb_tells (length bytes) 0) [
      | inl same ↦
          let none : length bytes ≡ 0 = same.1 in
          let yes : empty ≡ true = is ∙ same.0 in
          let first : bit ≡ 0 = elim (none_or_some bit) [
            | inl zero ↦ zero
            | inr more ↦ let there = some more in absurd (omega (arith, there, none))
          ] in
          ((λ _. omega (arith, none, first, le)), (λ _. yes))
      | inr other ↦
          let more = other.1 in
          let no : empty ≡ false = is ∙ other.0 in
          ((λ h. cc), (λ h. absurd (omega (arith, more, few, le, h))))
    ]

-- a call that fails at the end takes no bit
pub stays_at_end : {E : Type 0} (o : Order) (old new : SliceReader E) → FailsAtEnd old new
    → ((memory_source o).state new).taken ≡ ((memory_source o).state old).taken
stays_at_end o old new h = rw (h.all, h.bytes, h.bit) refl

-- no bits are left of no bytes
pub end_known : (len bit : ℕ) (empty : Bool) → bit < 8 → empty ≡ (len == 0) → IsTrue empty ↔ (8 * len - bit ≡ 0)
end_known len bit empty few is = elim (eqb_tells len 0) [
  | inl same ↦
      let none = same.1 in
      let yes : empty ≡ true = is ∙ same.0 in
      ((λ _. omega (arith, none)), (λ _. yes))
  | inr other ↦
      let some = other.1 in
      let no : empty ≡ false = is ∙ other.0 in
      ((λ h. cc), (λ none. absurd (omega (arith, none, some, few))))
]

-- a new reader
pub new_state : (o : Order) (bytes : List ℕ) → memory_state o bytes bytes 0 false [] ≡ new_reader_state (Some bytes) []
new_state o bytes =
    let none : 8 * (length bytes - length bytes) + 0 ≡ 0 = omega arith in
    ap (λ n. record (new_reader_state (Some bytes) []) { taken = n; fetched = (n + 7) / 8 }) none

-- ---- unary numbers

-- a run that ends is taken, with its stop bit
pub run_read : {E : Type 0} (o : Order) (stop : Bool) (k : ℕ) (old new : SliceReader E) → old.failed ≡ false
    → k ≡ lead stop (rest_bits o old.bytes.now old.bit) → k < 2 ^ 32 → GoesOn (k + 1) old new
    → Reads (memory_source o) (unary_decoder stop) old (Ok k) new
unfolding unary_decoder
run_read {E = E} o stop k old new fine is small h =
    let b = rest_bits o old.bytes.now old.bit in
    let s = memory_source {E = E} o in
    let enough = h.enough in
    let found : lead stop b < length b = omega (arith, is, rest_size o old) in
    let next : k + 1 ≡ suc (lead stop b) = omega (arith, is) in
    let word : take (k + 1) b ≡ unary stop k =
    ap (λ n. take n b) next ∙ prefix_is_unary stop b found ∙ ap (unary stop) (sym is) in
    let t = subst (λ w. Took o (s.state old) w (s.state new)) word (went_on o (k + 1) old new fine h) in
    was_done (record {
      fine = fine;
      word = unary stop k;
      decides = λ more. read_unary-unary stop k more small;
      needs = λ prefix c back parts. begins_unary stop k prefix c back small parts;
      gone = t.gone;
      loses = t.loses;
      rest = (s.state new).queue;
      parts = t.parts;
      queue = refl;
      fetched = t.fetched;
      taken = t.taken;
      refusals = t.refusals;
      references = t.references;
      failed = t.failed;
    })

-- a read of a run that does not end fails
pub run_refused : {E : Type 0} (o : Order) (stop : Bool) (k : ℕ) (old new : SliceReader E) → old.failed ≡ false
    → k ≡ lead stop (rest_bits o old.bytes.now old.bit) → k < 2 ^ 32 → 8 * length old.bytes.now ≤ old.bit + k
    → FailsAtEnd old new → Reads (memory_source o) (unary_decoder stop) old (Err EndOfInput) new
unfolding unary_decoder
run_refused o stop k old new fine is small none h =
    refused o (unary_decoder stop) old new fine
    (λ prefix back parts.
    let few = length-append prefix back in
    let same = ap (λ l. length l) parts in
    let run = ap (lead stop) parts in
    let size = rest_size o old in
    let all : length prefix ≤ lead stop (prefix ++ back) = omega (arith, is, none, few, same, run, size) in
    let most : lead stop (prefix ++ back) ≤ length (prefix ++ back) = lead_le stop (prefix ++ back) in
    short_prefix stop prefix back all (omega (arith, is, small, all, run))) h

pub run_failed : {E : Type 0} (o : Order) (stop : Bool) (r : SliceReader E) → r.failed ≡ true
    → Reads (memory_source o) (unary_decoder stop) r (Err Failed) r
unfolding unary_decoder
run_failed o stop r failed = had_failed (record { failed = failed; answer = refl; same = refl })

-- a run that is too long
pub run_long : {E : Type 0} (o : Order) (stop : Bool) (old mid new : SliceReader E) → old.failed ≡ false
    → 2 ^ 32 ≤ lead stop (rest_bits o old.bytes.now old.bit) → GoesOn (2 ^ 32) old mid
    → (memory_source o).state new ≡ failed_reader ((memory_source o).state mid)
    → Reads (memory_source o) (unary_decoder stop) old (Err RunTooLong) new
unfolding unary_decoder
run_long {E = E} o stop old mid new fine long h broken =
    let b = rest_bits o old.bytes.now old.bit in
    let s = memory_source {E = E} o in
    let n = 2 ^ 32 in
    let word : take n b ≡ replicate n (not stop) = take_others stop n b long in
    let t = subst (λ w. Took o (s.state old) w (s.state mid)) word (went_on o n old mid fine h) in
    was_done (Took-too_long o (unary_decoder stop) (replicate n (not stop)) (s.state old) (s.state mid) (s.state new) t
    broken (λ more. others_long stop n more refl)
    (λ prefix c back parts. begins_others stop n prefix c back (omega arith) parts))

-- whole bytes that are taken after the end of a byte
pub whole_failed : {E : Type 0} (o : Order) (n : ℕ) (r : SliceReader E) → r.failed ≡ true
    → Reads (memory_source o) (whole_bytes_decoder n) r (Err Failed) r
whole_failed o n r failed =
    Reads-and_then-ok align_decoder (λ _. skip_decoder (8 * n)) (align_failed o r failed) (skip_failed o (8 * n) r failed)

pub whole_read : {E : Type 0} (o : Order) (n : ℕ) (old mid new : SliceReader E) → old.failed ≡ false
    → GoesOn ((8 - old.bit) % 8) old mid → GoesOn (8 * n) mid new
    → Reads (memory_source o) (whole_bytes_decoder n) old (Ok tt) new
whole_read o n old mid new fine h k =
    Reads-and_then-ok align_decoder (λ _. skip_decoder (8 * n)) (aligned o ((8 - old.bit) % 8) old mid fine refl h)
    (skipped o (8 * n) mid new (h.failed ∙ fine) k)

pub whole_refused : {E : Type 0} (o : Order) (n : ℕ) (old mid new : SliceReader E) → old.failed ≡ false
    → GoesOn ((8 - old.bit) % 8) old mid → length mid.bytes.now < n → FailsAtEnd mid new
    → Reads (memory_source o) (whole_bytes_decoder n) old (Err EndOfInput) new
whole_refused o n old mid new fine h short k =
    let whole : mid.bit ≡ 0 = omega (arith, h.bit, old.few) in
    Reads-and_then-ok align_decoder (λ _. skip_decoder (8 * n)) (aligned o ((8 - old.bit) % 8) old mid fine refl h)
    (skip_refused o (8 * n) mid new (h.failed ∙ fine) (omega (arith, whole, short)) k)

-- the bytes after the end of a byte are the bytes of which no bit is taken
pub behind_byte : {E : Type 0} (bytes : List ℕ) (old mid : SliceReader E) → GoesOn ((8 - old.bit) % 8) old mid
    → Some (drop (held old.bit) old.bytes.now) ≡ Some bytes → mid.bytes.now ≡ bytes
behind_byte bytes old mid h told =
    let same : (old.bit + (8 - old.bit) % 8) / 8 ≡ held old.bit = omega (arith, old.few) in
    h.bytes ∙ ap (λ k. drop k old.bytes.now) same ∙ some_is told

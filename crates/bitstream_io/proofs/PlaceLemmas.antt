-- Symbols that are found at places in bytes, and readers that are at these places.
use Rattle.std.proofs.Common.{◌≡◌, ℕ, ◌+◌, ◌-◌, ◌*◌, ◌/◌, ◌%◌, ◌≤◌, Bool, false, List, [], ◌∷◌, ◌++◌, length, take, drop, Option, None, Some, Result, Ok, Err, refl, sym, ap, ◌∙◌, subst, arith, append-nil, length-append, inl, inr}
use Rattle.std.specs.Prelude.{IfSome}
use Rattle.std.specs.Result.{IsErrAnd}
use Rattle.std.proofs.Math.Seq.{drop-append_seam}
use Rattle.std.proofs.lemmas.List.{length-take-le, length-drop, drop-drop, drop-take, take-take}
use Rattle.bitstream_count.specs.Codec.{Decoder}
use Rattle.bitstream_count.specs.declared.error.Error.{Error}
use Rattle.bitstream_number.specs.Word.{Order, word, bits}
use Rattle.bitstream_order.specs.Parts.{piece}
use Rattle.bitstream_order.specs.Refusal.{Refusal}
use Rattle.bitstream_order.specs.Streaming.Tail.{IsTail}
use Rattle.bitstream_order.proofs.Moving.SendLemmas.{piece_below}
use Rattle.bitstream_order.specs.Moving.Gather.{result_map}
use Rattle.bitstream_stream.specs.Reading.Memory.{memory_state, rest_bits, taken_bits}
use Rattle.bitstream_stream.specs.Reading.MemorySource.{memory_source}
use Rattle.bitstream_stream.specs.Reading.MemoryState.{none_or_some}
use Rattle.bitstream_stream.specs.Reading.Reads.{ReaderState, BitSource, Reads, HadFailed, ReadDone, ReadRefused, Took, had_failed, was_done, was_refused, memory_refused}
use Rattle.bitstream_stream.specs.declared.read.slice_reader.SliceReader.{SliceReader}
use Rattle.bitstream_stream.proofs.Reading.MemoryLemmas.{moved}
use Rattle.bitstream_stream.proofs.Reading.ReadsLemmas.{map_err}
use Rattle.bitstream_stream.proofs.Reading.MemoryWindows.{bits-drop, eight_agree, middle_word, prefix_window}
use Rattle.bitstream_value.specs.Tree.{Tree, IsPath, path_decoder}
use Rattle.bitstream_value.proofs.TreeLemmas.{path-reads}
use Rattle.bitstream_io.specs.PlaceLaws.{within_byte, byte_there}
use Rattle.bitstream_io.specs.Places.{place_source, state_at}
use Rattle.bitstream_io.specs.Windows.{IsEight, IsWindow}
use Rattle.bitstream_io.proofs.WindowLemmas.{path-short}

-- ---- windows

-- the bits from a place on
bits_from : (o : Order) (bytes : List ℕ) (p : ℕ) → p ≤ 8 * length bytes
    → rest_bits o (drop (p / 8) bytes) (p % 8) ≡ drop p (bits o bytes)
bits_from o bytes p here =
    let sum : 8 * (p / 8) + p % 8 ≡ p = omega arith in
    ap (drop (p % 8)) (bits-drop o (p / 8) bytes (omega (arith, here)))
    ∙ drop-drop (p % 8) (8 * (p / 8)) (bits o bytes) ∙ ap (λ k. drop k (bits o bytes)) sum

pub seen_in : (o : Order) (bytes : List ℕ) (first bit p w v : ℕ) → p ≡ 8 * first + bit → bit + 10 ≤ 64
    → IsEight o bytes first w → v ≡ piece o 64 w bit 10 → IsWindow o bytes p v
seen_in o bytes first bit p w v place few eight is =
    let rest = drop first bytes in
    let there = eight.within in
    let size : length rest ≡ length bytes - first = length-drop first bytes in
    let prefix : take (8 * length (take 8 rest)) (word o 64 w) ≡ bits o (take 8 rest) =
    prefix_window o (take 8 rest) (take 8 rest) [] w eight.word (sym (append-nil (take 8 rest))) in
    let agree : take (bit + 10) (word o 64 w) ≡ take (bit + 10) (bits o rest) =
    eight_agree o rest (bit + 10) w few (omega (arith, size, there, few)) prefix in
    let here : drop p (bits o bytes) ≡ drop bit (bits o rest) =
    ap (λ k. drop k (bits o bytes)) place ∙ sym (drop-drop bit (8 * first) (bits o bytes))
    ∙ ap (drop bit) (sym (bits-drop o first bytes (omega (arith, there)))) in
    record {
      below = rw is (piece_below o 64 w bit 10);
      within = omega (arith, there, place, few);
      word = ap (take 10) here ∙ sym (drop-take bit 10 (bits o rest)) ∙ ap (drop bit) (sym agree)
          ∙ middle_word o 64 w bit 10 few ∙ ap (word o 10) (sym is);
    }

-- ---- one encoding

-- a place goes on by n bits
goes_on : (o : Order) (bytes : List ℕ) (p n : ℕ) (refusals : List Refusal) → p + n ≤ 8 * length bytes
    → Took o (state_at o bytes p refusals) (take n (drop p (bits o bytes))) (state_at o bytes (p + n) refusals)
goes_on o bytes p n refusals there =
    let rest = drop (p / 8) bytes in
    let size : length rest ≡ length bytes - p / 8 = length-drop (p / 8) bytes in
    let sum : p / 8 + (p % 8 + n) / 8 ≡ (p + n) / 8 = omega arith in
    let back : drop ((p + n) / 8) bytes ≡ drop ((p % 8 + n) / 8) rest =
    ap (λ k. drop k bytes) (sym sum) ∙ sym (drop-drop ((p % 8 + n) / 8) (p / 8) bytes) in
    let bit : (p % 8 + n) % 8 ≡ (p + n) % 8 = omega arith in
    let took = moved o bytes rest (drop ((p + n) / 8) bytes) (p % 8) n false refusals refl (within_byte p)
    (byte_there bytes p (omega (arith, there))) (omega (arith, size, there)) (omega (arith, size)) back in
    subst (λ w. Took o (state_at o bytes p refusals) (take n w) (state_at o bytes (p + n) refusals))
    (bits_from o bytes p (omega (arith, there)))
    (subst (λ k. Took o (state_at o bytes p refusals) (take n (rest_bits o rest (p % 8)))
    (memory_state o bytes (drop ((p + n) / 8) bytes) k false refusals)) bit took)

pub found_reads : {S : Type 0} (o : Order) (t : Tree S) (bytes : List ℕ) (p v n : ℕ) (symbol : S)
    (refusals : List Refusal) (here : p ≤ 8 * length bytes) (there : p + n ≤ 8 * length bytes) → n ≤ 10
    → IsWindow o bytes p v → IsPath t (take n (word o 10 v)) symbol
    → Reads (place_source o) (path_decoder t)
    (record { bytes = bytes; bit = p; within = here; refusals = refusals }) (Ok symbol)
    (record { bytes = bytes; bit = p + n; within = there; refusals = refusals })
found_reads o t bytes p v n symbol refusals here there few window path =
    let left = drop p (bits o bytes) in
    let w = take n left in
    let is : take n (word o 10 v) ≡ w = ap (take n) (sym window.word) ∙ take-take n 10 left few in
    let taken = subst (λ (u : List Bool). IsPath t u symbol) is path in
    let h = goes_on o bytes p n refusals there in
    let s = state_at o bytes p refusals in
    was_done (record {
      fine = refl;
      word = w;
      decides = λ more. path-reads t w symbol s.taken more taken;
      needs = λ prefix b back parts.
          let size = ap (λ (u : List Bool). length u) parts ∙ length-append prefix (b ∷ back) in
          path-short t w symbol s.taken prefix (b ∷ back) taken parts (omega (arith, size));
      gone = h.gone;
      loses = h.loses;
      rest = (state_at o bytes (p + n) refusals).queue;
      parts = h.parts;
      queue = refl;
      fetched = h.fetched;
      taken = h.taken;
      refusals = refl;
      references = refl;
      failed = refl;
    })

-- ---- readers that are at places

tail_is : (bytes all : List ℕ) → IsTail bytes all → drop (length all - length bytes) all ≡ bytes
tail_is bytes all tail =
    let prefix = take (length all - length bytes) all in
    let size : length prefix ≡ length all - length bytes = length-take-le (length all - length bytes) all (omega arith) in
    ap (drop (length all - length bytes)) tail ∙ ap (λ n. drop n (prefix ++ bytes)) (sym size) ∙ drop-append_seam prefix bytes

pub tail_le : (bytes all : List ℕ) → IsTail bytes all → length bytes ≤ length all
tail_le bytes all tail =
    let size = ap (λ l. length l) tail ∙ length-append (take (length all - length bytes) all) bytes in
    omega (arith, size)

-- a reader that has not failed is at its place
pub is_at : {E : Type 0} (o : Order) (r : SliceReader E) (all : List ℕ) (p : ℕ) (refusals : List Refusal)
    → r.failed ≡ false → r.all.now ≡ all → taken_bits r.all.now r.bytes.now r.bit ≡ p → r.refusals.list ≡ refusals
    → (memory_source o).state r ≡ state_at o all p refusals
is_at o r all p refusals fine same taken held =
    let few = r.few in
    let whole : length r.all.now - length r.bytes.now ≡ p / 8 = omega (arith, taken, few) in
    let bit : r.bit ≡ p % 8 = omega (arith, taken, few) in
    let bytes : r.bytes.now ≡ drop (p / 8) r.all.now =
    sym (tail_is r.bytes.now r.all.now r.tail) ∙ ap (λ k. drop k r.all.now) whole in
    ap (λ f. memory_state o r.all.now r.bytes.now r.bit f r.refusals.list) fine
    ∙ ap (λ b. memory_state o r.all.now b r.bit false r.refusals.list) bytes
    ∙ ap (λ k. memory_state o r.all.now (drop (p / 8) r.all.now) k false r.refusals.list) bit
    ∙ ap (λ l. memory_state o l (drop (p / 8) l) (p % 8) false r.refusals.list) same
    ∙ ap (λ x. memory_state o all (drop (p / 8) all) (p % 8) false x) held

-- its place is within its bytes
pub at_within : {E : Type 0} (r : SliceReader E) → taken_bits r.all.now r.bytes.now r.bit ≤ 8 * length r.all.now
at_within r =
    let le = tail_le r.bytes.now r.all.now r.tail in
    let few = r.few in
    elim (none_or_some r.bit) [
      | inl none ↦ omega (arith, le, none)
      | inr more ↦ let there = r.some more in omega (arith, le, few, there)
    ]

-- readers in the same states read the same
pub carried : {R Q A : Type 0} {K : BitSource R} {L : BitSource Q} {e : Decoder A} {a : A} {s t : R} (x y : Q)
    → K.order ≡ L.order → K.state s ≡ L.state x → K.state t ≡ L.state y → Reads K e s (Ok a) t → Reads L e x (Ok a) y
carried {K = K} {L = L} {e = e} {a = a} {s = s} {t = t} x y order from to (had_failed h) =
    had_failed (subst (λ v. HadFailed e (L.state x) (Ok a) v) to (subst (λ u. HadFailed e u (Ok a) (K.state t)) from h))
carried {K = K} {L = L} {e = e} {a = a} {s = s} {t = t} x y order from to (was_done h) =
    was_done (subst (λ o. ReadDone o e (L.state x) (Ok a) (L.state y)) order
    (subst (λ v. ReadDone K.order e (L.state x) (Ok a) v) to
    (subst (λ u. ReadDone K.order e u (Ok a) (K.state t)) from h)))
carried x y order from to (was_refused h) = let answer = h.answer in absurd (cc answer)
carried x y order from to (memory_refused g h) = absurd (cc g)

-- from a reader in the same state the same is read
pub from_same : {R A : Type 0} {K : BitSource R} {e : Decoder A} {r : Result A Error} {s t : R} (x : R)
    → K.state s ≡ K.state x → Reads K e s r t → Reads K e x r t
from_same {K = K} {e = e} {r = r} {t = t} x same (had_failed h) =
    had_failed (subst (λ u. HadFailed e u r (K.state t)) same h)
from_same {K = K} {e = e} {r = r} {t = t} x same (was_done h) =
    was_done (subst (λ u. ReadDone K.order e u r (K.state t)) same h)
from_same {K = K} {e = e} {r = r} {t = t} x same (was_refused h) =
    was_refused (subst (λ u. ReadRefused K.order K.may e u r (K.state t)) same h)
from_same x same (memory_refused g h) = absurd (cc g)

-- a reader from which values were read still has its failures
pub same_refusals : {R A : Type 0} {K : BitSource R} {e : Decoder A} {a : A} {s t : R} → (K.state t).failed ≡ false
    → Reads K e s (Ok a) t → ((K.state s).failed ≡ false) × ((K.state t).refusals ≡ (K.state s).refusals)
same_refusals fine (had_failed h) =
    let failed = h.failed in
    let same = ap (λ (x : ReaderState). x.failed) h.same in
    absurd (cc (failed, same, fine))
same_refusals fine (was_done h) = (h.fine, h.refusals)
same_refusals fine (was_refused h) = let answer = h.answer in absurd (cc answer)
same_refusals fine (memory_refused g h) = absurd (cc g)

-- what the exit of a `?` returns
pub stopped : {R A B : Type 0} {K : BitSource R} {e : Decoder B} {x : Error} {s t : R} (view : A → B)
    (r : Result A Error) → IsErrAnd r (λ y. y ≡ x) → Reads K e s (Err x) t → Reads K e s (result_map view r) t
stopped {K = K} {e = e} {s = s} {t = t} view r h k = subst (λ u. Reads K e s u t) (sym (map_err view r h)) k

-- what follows for a value, if there is one
pub some_weaker : {A : Type 0} {P Q : A → Type 0} (o : Option A) → ((x : A) → P x → Q x) → IfSome o P → IfSome o Q
some_weaker None f h = h
some_weaker (Some x) f h = f x h

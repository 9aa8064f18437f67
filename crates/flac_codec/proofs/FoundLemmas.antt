-- What a reader of bytes in memory finds at their start, and in how many of them.
use Rattle.std.proofs.Common.{arith, inl, inr, ◌⊎◌, ◌≡◌, ◌∙◌, ◌++◌, ◌+◌, ◌-◌, ◌*◌, ◌/◌, ◌%◌, ◌<◌, ◌≤◌, ◌^◌, ℕ, ℤ, suc, true, false, List, [], ◌∷◌, Some, Result, Ok, Err, length, take, drop, refl, sym, ap, subst, add-zero, add_assoc, append_assoc, get_or, length-append, zero-add}
use Rattle.std.specs.Prelude.{MatchResult, bit_and, nat_lt, replicate}
use Rattle.std.proofs.lemmas.Nat.{and_mask}
use Rattle.std.proofs.lemmas.Bool.{cases_lt, eq-eqb, le-ltb, lt-ltb}
use Rattle.std.proofs.Math.Seq.{drop-append_seam, take-append_seam}
use Rattle.std.proofs.Math.ListN.{get_or-append as get_or-before}
use Rattle.std.proofs.lemmas.List.{drop-append-le, length-drop, length-replicate, take-append-le, take_all}
use Rattle.bitstream_io.specs.Alignment.{to_boundary}
use Rattle.bitstream_io.specs.Callers.{align, bits, sure_answer, write_sequence, BitSource, Decoder, Encoder, Error, EndOfInput, GrowsOwn, High, OutOfMemory, OwnAnswer, ReadsOwn}
use Rattle.bitstream_io.specs.Codec.{Prefix, Incomplete, Done}
use Rattle.bitstream_io.specs.Grows.{GrowingOutcome, by_reads, in_a_read, between_reads}
use Rattle.bitstream_io.specs.Reads.{ReadDone, ReaderState, had_failed, was_done, was_refused, memory_refused}
use Rattle.bitstream_io.specs.Reader.{new_reader_state}
use Rattle.bitstream_io.specs.ReadBack.{IsReadAs}
use Rattle.bitstream_io.specs.Refusal.{TrueEnds}
use Rattle.bitstream_io.specs.Fault.{read_refusal_of}
use Rattle.bitstream_io.proofs.CallerLemmas.{own_answered, own_grown_answered, write_sequence-append}
use Rattle.bitstream_io.proofs.ReadsLemmas.{Consumes-known}
use Rattle.bitstream_io.proofs.WordLemmas.{bits-append, length-bits}
use Rattle.flac_codec.specs.Errors.{becomes_flac}
use Rattle.flac_codec.specs.Frame.{after, channels_at, crc16_holds, crc8_holds, found, frame_at, header_at, width_of, in_bytes, IsFoundIn}
use Rattle.flac_codec.specs.Channels.{channels_decoder}
use Rattle.flac_codec.specs.Checksum.{crc16, crc8}
use Rattle.flac_codec.specs.Header.{header_decoder}
use Rattle.flac_codec.specs.declared.header.FrameHeader.{FrameHeader}
use Rattle.flac_codec.specs.declared.error.FlacError.{FlacError}
use Rattle.flac_codec.specs.declared.error.FlacError.TheVariants.{Reader}

-- an answer that is an error is that of the whole bytes
same-error : {A : Type 0} (x : FlacError) (p : Prefix (Result A FlacError)) → OwnAnswer becomes_flac (λ y. y) (sure_answer p) (Err x)
    → in_bytes p ≡ Err x
same-error x Incomplete is = ap Err (sym is)
same-error x (Done n (Ok (Ok v))) is = cc
same-error x (Done n (Ok (Err y))) is = let same : y ≡ x = cc in ap Err same
same-error x (Done n (Err e)) is = ap Err (sym is)

module _ {R A : Type 0} (K : BitSource R) (high : K.order ≡ High) {e : Decoder (Result A FlacError)} {s t : R} (bytes : List ℕ)
    (start : K.state s ≡ new_reader_state (Some bytes) []) where
  taken : (value : A) (rest : List ℕ) → (K.state t).bytes ≡ Some rest → ReadDone K.order e (K.state s) (Ok (Ok value)) (K.state t)
      → found e bytes ≡ Ok (value, length bytes - length rest)
  taken value rest left h =
      let known : (K.state s).bytes ≡ Some bytes = ap (λ (z : ReaderState). z.bytes) start in
      let lost = Consumes-known (K.state s).bytes (K.state t).bytes h.gone bytes h.loses known in
      let same : lost.0 ≡ rest = let both = sym lost.1 ∙ left in cc in
      let all : bytes ≡ h.gone ++ rest = lost.2 ∙ ap (λ xs. h.gone ++ xs) same in
      let place : (K.state s).taken ≡ 0 = ap (λ (z : ReaderState). z.taken) start in
      let queue : (K.state s).queue ≡ [] = ap (λ (z : ReaderState). z.queue) start in
      let none : (K.state s).fetched ≡ 0 = ap (λ (z : ReaderState). z.fetched) start in
      let gone : bits High h.gone ≡ h.word ++ h.rest =
      subst (λ q. q ++ bits High h.gone ≡ h.word ++ h.rest) queue
      (subst (λ o. (K.state s).queue ++ bits o h.gone ≡ h.word ++ h.rest) high h.parts) in
      let whole : bits High bytes ≡ h.word ++ (h.rest ++ bits High rest) =
      ap (bits High) all ∙ bits-append High h.gone rest ∙ ap (λ w. w ++ bits High rest) gone
      ∙ append_assoc h.word h.rest (bits High rest) in
      let read : e.reads 0 (bits High bytes) ≡ Done (length h.word) (Ok (Ok value)) =
      ap (e.reads 0) whole ∙ subst (λ p. e.reads p (h.word ++ (h.rest ++ bits High rest)) ≡ Done (length h.word) (Ok (Ok value))) place
      (h.decides (h.rest ++ bits High rest)) in
      let size : length bytes ≡ length h.gone + length rest = ap length all ∙ length-append h.gone rest in
      let whole_bytes = K.demands t in
      let count : (length h.word + 7) / 8 ≡ length bytes - length rest =
      omega (arith, size, whole_bytes, h.fetched, h.taken, none, place) in
      ap in_bytes read ∙ ap (λ n. Ok (value, n)) count

  within : (value : A) (rest : List ℕ) → (K.state t).bytes ≡ Some rest → ReadDone K.order e (K.state s) (Ok (Ok value)) (K.state t)
      → length rest ≤ length bytes
  within value rest left h =
      let known : (K.state s).bytes ≡ Some bytes = ap (λ (z : ReaderState). z.bytes) start in
      let lost = Consumes-known (K.state s).bytes (K.state t).bytes h.gone bytes h.loses known in
      let same : lost.0 ≡ rest = let both = sym lost.1 ∙ left in cc in
      let size : length bytes ≡ length h.gone + length rest =
      ap length (lost.2 ∙ ap (λ xs. h.gone ++ xs) same) ∙ length-append h.gone rest in
      omega (arith, size)

  done : (value : A) (plain : Result (Result A FlacError) Error) → GrowingOutcome K e s plain t
      → OwnAnswer becomes_flac (λ y. y) plain (Ok value) → ReadDone K.order e (K.state s) (Ok (Ok value)) (K.state t)
  done value (Err x) h is = absurd is
  done value (Ok x) (by_reads (had_failed h)) is =
      let fine : (K.state s).failed ≡ false = ap (λ (z : ReaderState). z.failed) start in
      let failed = h.failed in cc
  done value (Ok x) (by_reads (was_done h)) is = subst (λ y. ReadDone K.order e (K.state s) (Ok y) (K.state t)) (sym is) h
  done value (Ok x) (by_reads (was_refused h)) is = let p = h.answer in cc
  done value (Ok x) (by_reads (memory_refused grows h)) is = let p = h.answer in cc
  done value (Ok x) (in_a_read h) is = let p = h.refused.answer in cc
  done value (Ok x) (between_reads h) is = let p = h.answer in cc

  pub found-grown : (value : A) (rest : List ℕ) → (K.state t).bytes ≡ Some rest → GrowsOwn K becomes_flac e s (Ok value) t
      → found e bytes ≡ Ok (value, length bytes - length rest)
  found-grown value rest left h = taken value rest left (done value h.plain h.called h.answer)

  pub rest-within : (value : A) (rest : List ℕ) → (K.state t).bytes ≡ Some rest → GrowsOwn K becomes_flac e s (Ok value) t
      → length rest ≤ length bytes
  rest-within value rest left h = within value rest left (done value h.plain h.called h.answer)

  pub found-err : (x : FlacError) → TrueEnds K.may → GrowsOwn K becomes_flac e s (Err x) t
      → (found e bytes ≡ Err x) ⊎ (x ≡ Reader OutOfMemory)
  found-err x ends h = elim (own_grown_answered ends start refl h) [
    | inl own ↦ inl (same-error x (e.reads 0 (bits High bytes))
        (subst (λ o. OwnAnswer becomes_flac (λ y. y) (sure_answer (e.reads 0 (bits o bytes))) (Err x)) high own))
    | inr refused ↦ inr refused.0
  ]

  pub found-own_err : (x : FlacError) → TrueEnds K.may → ReadsOwn K becomes_flac e s (Err x) t → found e bytes ≡ Err x
  found-own_err x ends h =
      same-error x (e.reads 0 (bits High bytes))
      (subst (λ o. OwnAnswer becomes_flac (λ y. y) (sure_answer (e.reads 0 (bits o bytes))) (Err x)) high
      (own_answered ends start refl h))

-- ---- what is found whatever bytes follow

-- an error of the decoder, as it is found
in_bytes-own : {A : Type 0} (n : ℕ) (x : FlacError) (answer : Result (Result A FlacError) Error)
    → OwnAnswer becomes_flac (λ y. y) answer (Err x) → in_bytes (Done n answer) ≡ Err x
in_bytes-own n x (Ok (Ok v)) is = cc
in_bytes-own n x (Ok (Err y)) is = let same : y ≡ x = cc in ap Err same
in_bytes-own n x (Err e) is = ap Err (sym is)

-- an error of the reader that is this one
own-outside : {A : Type 0} (x : FlacError) (e : Error) (answer : Result (Result A FlacError) Error) → answer ≡ Err e
    → OwnAnswer becomes_flac (λ y. y) answer (Err x) → x ≡ Reader e
own-outside x e (Ok v) same is = absurd (let P : Result (Result _ FlacError) Error → Type 0 = λ r. MatchResult r (λ _. Unit {0}) (λ _. ⊥) in subst P same tt)
own-outside x e (Err y) same is = let equal : y ≡ e = cc in is ∙ ap Reader equal

module _ {R A : Type 0} (K : BitSource R) (high : K.order ≡ High) {e : Decoder A} {s t : R} (bytes : List ℕ)
    (start : K.state s ≡ new_reader_state (Some bytes) []) where
  -- a call that was done is done with more bytes too
  pub reads-further : (answer : Result A Error) (h : ReadDone K.order e (K.state s) answer (K.state t)) (more : List ℕ)
      → e.reads 0 (bits High (bytes ++ more)) ≡ Done (length h.word) answer
  reads-further answer h more =
      let known : (K.state s).bytes ≡ Some bytes = ap (λ (z : ReaderState). z.bytes) start in
      let lost = Consumes-known (K.state s).bytes (K.state t).bytes h.gone bytes h.loses known in
      let rest = lost.0 ++ more in
      let all : bytes ++ more ≡ h.gone ++ rest = ap (λ xs. xs ++ more) lost.2 ∙ append_assoc h.gone lost.0 more in
      let place : (K.state s).taken ≡ 0 = ap (λ (z : ReaderState). z.taken) start in
      let queue : (K.state s).queue ≡ [] = ap (λ (z : ReaderState). z.queue) start in
      let gone : bits High h.gone ≡ h.word ++ h.rest =
      subst (λ q. q ++ bits High h.gone ≡ h.word ++ h.rest) queue
      (subst (λ o. (K.state s).queue ++ bits o h.gone ≡ h.word ++ h.rest) high h.parts) in
      let whole : bits High (bytes ++ more) ≡ h.word ++ (h.rest ++ bits High rest) =
      ap (bits High) all ∙ bits-append High h.gone rest ∙ ap (λ w. w ++ bits High rest) gone
      ∙ append_assoc h.word h.rest (bits High rest) in
      ap (e.reads 0) whole
      ∙ subst (λ p. e.reads p (h.word ++ (h.rest ++ bits High rest)) ≡ Done (length h.word) answer) place
      (h.decides (h.rest ++ bits High rest))

module _ {R A : Type 0} (K : BitSource R) (high : K.order ≡ High) {e : Decoder (Result A FlacError)} {s t : R} (bytes : List ℕ)
    (start : K.state s ≡ new_reader_state (Some bytes) []) where
  taken-further : (value : A) (rest : List ℕ) → (K.state t).bytes ≡ Some rest
      → ReadDone K.order e (K.state s) (Ok (Ok value)) (K.state t) → (more : List ℕ)
      → Ok (value, length bytes - length rest) ≡ found e (bytes ++ more)
  taken-further value rest left h more =
      let known : (K.state s).bytes ≡ Some bytes = ap (λ (z : ReaderState). z.bytes) start in
      let lost = Consumes-known (K.state s).bytes (K.state t).bytes h.gone bytes h.loses known in
      let same : lost.0 ≡ rest = let both = sym lost.1 ∙ left in cc in
      let all : bytes ≡ h.gone ++ rest = lost.2 ∙ ap (λ xs. h.gone ++ xs) same in
      let place : (K.state s).taken ≡ 0 = ap (λ (z : ReaderState). z.taken) start in
      let none : (K.state s).fetched ≡ 0 = ap (λ (z : ReaderState). z.fetched) start in
      let size : length bytes ≡ length h.gone + length rest = ap length all ∙ length-append h.gone rest in
      let whole_bytes = K.demands t in
      let count : (length h.word + 7) / 8 ≡ length bytes - length rest =
      omega (arith, size, whole_bytes, h.fetched, h.taken, none, place) in
      sym (ap in_bytes (reads-further K high bytes start (Ok (Ok value)) h more) ∙ ap (λ n. Ok (value, n)) count)

  pub grown-further : (value : A) (rest : List ℕ) → (K.state t).bytes ≡ Some rest → GrowsOwn K becomes_flac e s (Ok value) t
      → (more : List ℕ) → Ok (value, length bytes - length rest) ≡ found e (bytes ++ more)
  grown-further value rest left h = taken-further value rest left (done K high bytes start value h.plain h.called h.answer)

  -- an error, whatever follows, unless the bytes end or memory is refused
  stops : (x : FlacError) (plain : Result (Result A FlacError) Error) → TrueEnds K.may → GrowingOutcome K e s plain t
      → OwnAnswer becomes_flac (λ y. y) plain (Err x)
      → ((more : List ℕ) → Err x ≡ found e (bytes ++ more)) ⊎ ((x ≡ Reader EndOfInput) ⊎ (x ≡ Reader OutOfMemory))
  stops x plain ends (by_reads (had_failed h)) is =
      let fine : (K.state s).failed ≡ false = ap (λ (z : ReaderState). z.failed) start in
      let failed = h.failed in cc
  stops x plain ends (by_reads (was_done h)) is =
      inl (λ more. sym (ap in_bytes (reads-further K high bytes start plain h more) ∙ in_bytes-own (length h.word) x plain is))
  stops x plain ends (by_reads (was_refused h)) is =
      let end = ends h.refusal h.allowed in
      inr (inl (own-outside x EndOfInput plain (h.answer ∙ ap (λ k. Err (read_refusal_of k)) end.kind) is))
  stops x plain ends (by_reads (memory_refused grows h)) is = inr (inr (own-outside x OutOfMemory plain h.answer is))
  stops x plain ends (in_a_read h) is = inr (inr (own-outside x OutOfMemory plain h.refused.answer is))
  stops x plain ends (between_reads h) is = inr (inr (own-outside x OutOfMemory plain h.answer is))

  pub stops-further : (x : FlacError) → TrueEnds K.may → GrowsOwn K becomes_flac e s (Err x) t
      → ((more : List ℕ) → Err x ≡ found e (bytes ++ more)) ⊎ ((x ≡ Reader EndOfInput) ⊎ (x ≡ Reader OutOfMemory))
  stops-further x ends h = stops x h.plain ends h.called h.answer

-- ---- bytes that hold the words of calls, up to a whole byte

aligned-size : (n m : ℕ) → 8 * m ≡ n + to_boundary n → (n + 7) / 8 ≡ m
aligned-size n m is = omega arith

pub found-written : {A : Type 0} (ws : List Encoder) (bytes : List ℕ) (e : Decoder (Result A FlacError)) (value : A)
    → bits High bytes ≡ write_sequence (ws ++ align ∷ []) 0 → IsReadAs ws e (Ok value) → IsFoundIn (found e) bytes value
found-written ws bytes e value is back more =
    let word = write_sequence ws 0 in
    let n = length word in
    let pad = write_sequence (align ∷ []) (0 + n) in
    let all : bits High (bytes ++ more) ≡ word ++ (pad ++ bits High more) =
    bits-append High bytes more ∙ ap (λ w. w ++ bits High more) (is ∙ write_sequence-append ws (align ∷ []) 0)
    ∙ append_assoc word pad (bits High more) in
    let zeros : length pad ≡ to_boundary n =
    rw (zero-add n) (length-append (replicate (to_boundary n) false) []
    ∙ ap (λ k. k + 0) (length-replicate (to_boundary n) false) ∙ add-zero (to_boundary n)) in
    let size : 8 * length bytes ≡ n + to_boundary n =
    sym (length-bits High bytes) ∙ ap length (is ∙ write_sequence-append ws (align ∷ []) 0) ∙ length-append word pad
    ∙ ap (λ k. n + k) zeros in
    ap (λ b. in_bytes (e.reads 0 b)) all ∙ ap in_bytes (back 0 0 (pad ++ bits High more))
    ∙ ap (λ k. Ok (value, k)) (aligned-size n (length bytes) size)

-- ---- one result after another

module _ {A B : Type 0} (f : A → Result B FlacError) where
  pub after-err : {x : FlacError} {p : Result A FlacError} → Err x ≡ p → Err x ≡ after p f
  after-err is = ap (λ p. after p f) is

  pub after-ok : {v : A} {p : Result A FlacError} {r : Result B FlacError} → Ok v ≡ p → r ≡ f v → r ≡ after p f
  after-ok is same = same ∙ ap (λ p. after p f) is

-- an error, as one of another type
pub refused-as : {A : Type 0} {x y : FlacError} {r : Result A FlacError} → Err x ≡ r → r ≡ Err y → x ≡ y
refused-as is same = cc

pub not-refused : {A : Type 0} {v : A} {x : FlacError} → Ok v ≡ Err x → ⊥
not-refused is = cc

-- a value does not say that the bytes ended, or that memory was refused
pub not-cut : {A : Type 0} {v : A} → (◌≡◌ {A = Result A FlacError} (Ok v) (Err (Reader EndOfInput)))
    ⊎ (◌≡◌ {A = Result A FlacError} (Ok v) (Err (Reader OutOfMemory))) → ⊥
not-cut (inl is) = not-refused is
not-cut (inr is) = not-refused is

-- an error of this kind, as a result
pub stopped_by : {A : Type 0} {x : FlacError} {r : Result A FlacError} → r ≡ Err x → (x ≡ Reader EndOfInput) ⊎ (x ≡ Reader OutOfMemory)
    → (r ≡ Err (Reader EndOfInput)) ⊎ (r ≡ Err (Reader OutOfMemory))
stopped_by is (inl cut) = inl (is ∙ ap Err cut)
stopped_by is (inr cut) = inr (is ∙ ap Err cut)

-- and as a result of another type
pub stopped : {A B : Type 0} {x : FlacError} {r : Result A FlacError} → r ≡ Err x
    → (◌≡◌ {A = Result B FlacError} (Err x) (Err (Reader EndOfInput))) ⊎ (◌≡◌ {A = Result B FlacError} (Err x) (Err (Reader OutOfMemory)))
    → (r ≡ Err (Reader EndOfInput)) ⊎ (r ≡ Err (Reader OutOfMemory))
stopped is (inl cut) = inl (is ∙ ap Err (refused-as refl cut))
stopped is (inr cut) = inr (is ∙ ap Err (refused-as refl cut))

pub first-same : {A : Type 0} {x y : A} {n m : ℕ} → ◌≡◌ {A = Result (A × ℕ) FlacError} (Ok (x, n)) (Ok (y, m)) → x ≡ y
first-same {A = A} {x = x} {y = y} {n = n} {m = m} is =
    let P : Result (A × ℕ) FlacError → Type 0 = λ r. MatchResult r (λ p. x ≡ p.0) (λ e. ⊥) in
    subst P is refl

-- a header and the channels behind it
pub frame-parts : (sample_size : ℕ) (bytes : List ℕ) {header : FrameHeader} {n m : ℕ} {channels : List (List ℤ)}
    → Ok (header, n) ≡ header_at bytes
    → Ok (channels, m) ≡ found (channels_decoder High header.channels (width_of sample_size header) header.block_size) (drop n bytes)
    → Ok ((header, channels), n + m) ≡ after (header_at bytes) (channels_at sample_size bytes)
frame-parts sample_size bytes {header = header} {n = n} {m = m} {channels = channels} start body =
    after-ok (channels_at sample_size bytes) start
    (after-ok {B = (FrameHeader × List (List ℤ)) × ℕ} (λ (found, k). Ok ((header, found), n + k)) body refl)

pub frame-parts_err : (sample_size : ℕ) (bytes : List ℕ) {header : FrameHeader} {n : ℕ} {x : FlacError}
    → Ok (header, n) ≡ header_at bytes
    → Err x ≡ found (channels_decoder High header.channels (width_of sample_size header) header.block_size) (drop n bytes)
    → Err x ≡ after (header_at bytes) (channels_at sample_size bytes)
frame-parts_err sample_size bytes {header = header} {n = n} start body =
    after-ok (channels_at sample_size bytes) start
    (after-err {B = (FrameHeader × List (List ℤ)) × ℕ} (λ (found, k). Ok ((header, found), n + k)) body)

-- the bytes from a place on, as a slice
pub rest-all : (xs : List ℕ) (n : ℕ) → take (length xs - n) (drop n xs) ≡ drop n xs
rest-all xs n = let size = length-drop n xs in take_all (length xs - n) (drop n xs) (omega (arith, size))

-- ---- a checksum that holds lies within the bytes

pub crc8-within : {u : Unit {0}} (bytes : List ℕ) (n : ℕ) → Ok u ≡ crc8_holds bytes n → n < length bytes
crc8-within bytes n is = elim (cases_lt n (length bytes)) [
  | inl less ↦ less
  | inr most ↦ let none : Ok _ ≡ Err (Reader EndOfInput) = rw (le-ltb n (length bytes) most) at is in absurd (not-refused none)
]

-- a checksum is the same whatever bytes follow it
pub crc8-further : (bytes more : List ℕ) (n : ℕ) → n < length bytes → crc8_holds (bytes ++ more) n ≡ crc8_holds bytes n
crc8-further bytes more n less =
    let size = length-append bytes more in
    let inner : nat_lt n (length bytes) ≡ true = lt-ltb _ _ less in
    let outer : nat_lt n (length (bytes ++ more)) ≡ true = lt-ltb _ _ (omega (arith, size)) in
    rw (inner, outer, take-append-le n bytes more (omega arith), get_or-before bytes more 0 n less) refl

pub crc16-further : (bytes more : List ℕ) (n : ℕ) → n + 1 < length bytes → crc16_holds (bytes ++ more) n ≡ crc16_holds bytes n
crc16-further bytes more n less =
    let size = length-append bytes more in
    let inner : nat_lt (n + 1) (length bytes) ≡ true = lt-ltb _ _ less in
    let outer : nat_lt (n + 1) (length (bytes ++ more)) ≡ true = lt-ltb _ _ (omega (arith, size)) in
    rw (
      inner,
      outer,
      take-append-le n bytes more (omega arith),
      get_or-before bytes more 0 n (omega arith),
      get_or-before bytes more 0 (n + 1) less,
    ) refl

-- a checksum that fails does so whatever bytes follow, or the bytes end before it
pub crc8-stops : (bytes : List ℕ) (n : ℕ) {x : FlacError} → Err x ≡ crc8_holds bytes n
    → ((more : List ℕ) → Err x ≡ crc8_holds (bytes ++ more) n) ⊎ (x ≡ Reader EndOfInput)
crc8-stops bytes n is = elim (cases_lt n (length bytes)) [
  | inl less ↦ inl (λ more. is ∙ sym (crc8-further bytes more n less))
  | inr most ↦ inr (refused-as is (rw (le-ltb n (length bytes) most) refl))
]

pub crc16-stops : (bytes : List ℕ) (n : ℕ) {x : FlacError} → Err x ≡ crc16_holds bytes n
    → ((more : List ℕ) → Err x ≡ crc16_holds (bytes ++ more) n) ⊎ (x ≡ Reader EndOfInput)
crc16-stops bytes n is = elim (cases_lt (n + 1) (length bytes)) [
  | inl less ↦ inl (λ more. is ∙ sym (crc16-further bytes more n less))
  | inr most ↦ inr (refused-as is (rw (le-ltb (n + 1) (length bytes) most) refl))
]

pub crc16-within : {u : Unit {0}} (bytes : List ℕ) (n : ℕ) → Ok u ≡ crc16_holds bytes n → n + 1 < length bytes
crc16-within bytes n is = elim (cases_lt (n + 1) (length bytes)) [
  | inl less ↦ less
  | inr most ↦
      let none : Ok _ ≡ Err (Reader EndOfInput) = rw (le-ltb (n + 1) (length bytes) most) at is in absurd (not-refused none)
]

-- what is found at a place, with more bytes after those that follow it
pub body-further : {A : Type 0} (e : Decoder (Result A FlacError)) (bytes more : List ℕ) (n : ℕ) {r : Result (A × ℕ) FlacError}
    → n ≤ length bytes → r ≡ found e (drop n bytes ++ more) → r ≡ found e (drop n (bytes ++ more))
body-further e bytes more n within is = is ∙ ap (found e) (sym (drop-append-le n bytes more within))

-- ---- checksums that were appended

get_or-append : (xs : List ℕ) (x : ℕ) (ys : List ℕ) → get_or (xs ++ (x ∷ ys)) (length xs) 0 ≡ x
get_or-append [] x ys = refl
get_or-append (z ∷ xs) x ys = get_or-append xs x ys

get_or-append_next : (xs : List ℕ) (x y : ℕ) (ys : List ℕ) → get_or (xs ++ (x ∷ y ∷ ys)) (length xs + 1) 0 ≡ y
get_or-append_next [] x y ys = refl
get_or-append_next (z ∷ xs) x y ys =
    let next : suc (length xs) + 1 ≡ suc (length xs + 1) = omega arith in
    rw next (get_or-append_next xs x y ys)

pub header-found : (h : List ℕ) (header : FrameHeader) (c : ℕ) → IsFoundIn (found (header_decoder High)) h header → c ≡ crc8 h
    → IsFoundIn header_at (h ++ c ∷ []) header
header-found h header c inside is more =
    let all : (h ++ c ∷ []) ++ more ≡ h ++ (c ∷ more) = append_assoc h (c ∷ []) more in
    let size : length (h ++ (c ∷ more)) ≡ length h + length (c ∷ more) = length-append h (c ∷ more) in
    let long : length (h ++ c ∷ []) ≡ length h + 1 = length-append h (c ∷ []) in
    let inner : nat_lt (length h) (length (h ++ (c ∷ more))) ≡ true = lt-ltb _ _ (omega (arith, size)) in
    let held : crc8_holds (h ++ (c ∷ more)) (length h) ≡ Ok tt =
    rw (inner, take-append_seam h (c ∷ more), get_or-append h c more, eq-eqb (crc8 h) c (sym is)) refl in
    rw (all, long) (sym (after-ok (λ (v, n). after (crc8_holds (h ++ (c ∷ more)) n) (λ _. Ok (v, n + 1))) (sym (inside (c ∷ more)))
    (after-ok {A = Unit {0}} (λ _. Ok (header, length h + 1)) (sym held) refl)))

pub frame-found : (sample_size : ℕ) (h body : List ℕ) (header : FrameHeader) (channels : List (List ℤ)) (high low : ℕ)
    → IsFoundIn header_at h header
    → IsFoundIn (found (channels_decoder High header.channels (width_of sample_size header) header.block_size)) body channels
    → crc16 (h ++ body) ≡ 256 * high + low
    → IsFoundIn (frame_at sample_size) (((h ++ body) ++ high ∷ []) ++ low ∷ []) (header, channels)
frame-found sample_size h body header channels high low start inside is more =
    let rest = high ∷ low ∷ more in
    let b = h ++ body in
    let n = length h + length body in
    let joined : ((b ++ high ∷ []) ++ low ∷ []) ++ more ≡ b ++ rest =
    append_assoc (b ++ high ∷ []) (low ∷ []) more ∙ append_assoc b (high ∷ []) (low ∷ more) in
    let apart : b ++ rest ≡ h ++ (body ++ rest) = append_assoc h body rest in
    let size : length b ≡ n = length-append h body in
    let whole : length (b ++ rest) ≡ length b + length rest = length-append b rest in
    let long : length ((b ++ high ∷ []) ++ low ∷ []) ≡ n + 2 =
    length-append (b ++ high ∷ []) (low ∷ []) ∙ ap (λ k. k + 1) (length-append b (high ∷ []) ∙ ap (λ k. k + 1) size) ∙ add_assoc n 1 1 in
    let first : Ok (header, length h) ≡ header_at (b ++ rest) = sym (ap header_at apart ∙ start (body ++ rest)) in
    let second : Ok (channels, length body)
    ≡ found (channels_decoder High header.channels (width_of sample_size header) header.block_size) (drop (length h) (b ++ rest)) =
    sym (ap (λ xs. found (channels_decoder High header.channels (width_of sample_size header) header.block_size) xs)
    (ap (drop (length h)) apart ∙ drop-append_seam h (body ++ rest)) ∙ inside rest) in
    let inner : nat_lt (n + 1) (length (b ++ rest)) ≡ true = lt-ltb _ _ (omega (arith, size, whole)) in
    let taken_all : take n (b ++ rest) ≡ b = ap (λ k. take k (b ++ rest)) (sym size) ∙ take-append_seam b rest in
    let one : get_or (b ++ rest) n 0 ≡ high = ap (λ k. get_or (b ++ rest) k 0) (sym size) ∙ get_or-append b high (low ∷ more) in
    let two : get_or (b ++ rest) (n + 1) 0 ≡ low =
    ap (λ k. get_or (b ++ rest) (k + 1) 0) (sym size) ∙ get_or-append_next b high low more in
    let held : crc16_holds (b ++ rest) n ≡ Ok tt =
    rw (inner, taken_all, one, two, eq-eqb (crc16 b) (256 * high + low) is) refl in
    rw (joined, long) (sym (after-ok (λ (v, k). after (crc16_holds (b ++ rest) k) (λ _. Ok (v, k + 2)))
    (frame-parts sample_size (b ++ rest) first second)
    (after-ok {A = Unit {0}} (λ _. Ok ((header, channels), n + 2)) (sym held) refl)))

pub two_bytes : (n : ℕ) → n ≡ 256 * (n / 2 ^ 8) + bit_and n 255
two_bytes n = let mask : bit_and n 255 ≡ n % 2 ^ 8 = and_mask n 8 in rw mask (omega arith)

-- Made by `./format --c`, which prints the same for each crate: edit tools/describing/c/shared.py.
-- What a read of bytes in memory says, the bits before others, and a counter that is too small.
use Rattle.std.proofs.Common.{◌≡◌, ◌∙◌, ◌+◌, ◌-◌, ◌/◌, ◌<◌, ◌≤◌, ◌++◌, ◌∷◌, [], ℕ, Bool, true, false, List, Some, Result, Ok, Err, length, refl, sym, ap, subst, arith, append_assoc, length-append}
use Rattle.std.specs.Prelude.{take, drop, pos}
use Rattle.std.proofs.lemmas.List.{take-append-drop}
use Rattle.std.proofs.lemmas.Bool.{cases_lt}
use Rattle.std.proofs.Common.{suc, zero, Option, None, ◌*◌, ◌^◌}
use Rattle.std.specs.Option.{ForSome}
use Rattle.bitstream_io.specs.Callers.{word, optional_size, Decoder, Encoder, Error, EndOfInput, Order, BitSource, Reads, Sink, WritesAll, AllAccepted, align, bits, sequence_length, write_sequence}
use Rattle.bitstream_io.specs.Codec.{Prefix, Incomplete, Done}
use Rattle.bitstream_io.specs.Fault.{read_refusal_of}
use Rattle.bitstream_io.specs.Reads.{ReaderState, had_failed, was_done, was_refused, memory_refused}
use Rattle.bitstream_io.specs.Reader.{new_reader_state}
use Rattle.bitstream_io.specs.Reference.{Reference}
use Rattle.bitstream_io.specs.Refusal.{Refusal, TrueEnds}
use Rattle.bitstream_io.specs.Sink.{IsPastLimit}
use Rattle.bitstream_io.specs.Vbr.{IsGroups, vbr_word}
use Rattle.bitstream_io.proofs.VbrLemmas.{vbr_word_accepted}
use Rattle.bitstream_io.proofs.CallerLemmas.{inl, inr}
use Rattle.bitstream_io.proofs.PackIntoLemmas.{IsRoomy, accepted-run, error_within}
use Rattle.bitstream_io.proofs.ReadsLemmas.{Consumes-known, parts_left}
use Rattle.bitstream_io.proofs.SequenceLemmas.{write_sequence-append}
use Rattle.bitstream_io.proofs.WordLemmas.{bits-append, length-bits, length-word}
use Rattle.bitstream_io.specs.Alignment.{to_boundary}
use Rattle.bitstream_io.proofs.CallerLemmas.{Packs}
use Rattle.std.proofs.lemmas.List.{length-replicate}
use Rattle.std.proofs.Common.{replicate}
use Rattle.network_messages_c.specs.Varied.{IsDecided}

some_is : {x y : List ℕ} → Some x ≡ Some y → x ≡ y
some_is e = cc

-- the bytes left tell how many were taken
module _ {R A : Type 0} {K : BitSource R} {e : Decoder A} {r : Result A Error} {s t : R} {xs rest : List ℕ}
    {references : List Reference} {taken : ℕ} where
  pub read_decided : TrueEnds K.may → K.state s ≡ new_reader_state (Some xs) references
      → (K.state t).bytes ≡ Some rest → taken ≡ length xs - length rest → Reads K e s r t
      → IsDecided (e.reads 0 (bits K.order xs)) taken r
  read_decided ends new left count (had_failed h) =
      let p = h.failed in
      let fine = ap (λ (x : ReaderState). x.failed) new in cc
  read_decided ends new left count (was_done h) =
      let known = ap (λ (x : ReaderState). x.bytes) new in
      let lost = Consumes-known (K.state s).bytes (K.state t).bytes h.gone xs h.loses known in
      let all : (K.state s).queue ++ bits K.order xs ≡ h.word ++ (h.rest ++ bits K.order lost.0) =
      ap (λ l. (K.state s).queue ++ bits K.order l) lost.2
      ∙ parts_left K.order (K.state s).queue h.rest h.word h.gone lost.0 h.parts in
      let begun = ap (λ (x : ReaderState). e.reads x.taken (x.queue ++ bits K.order xs)) new in
      let done : e.reads 0 (bits K.order xs) ≡ Done (length h.word) r = sym begun
      ∙ ap (λ l. e.reads (K.state s).taken l) all ∙ h.decides (h.rest ++ bits K.order lost.0) in
      let size = ap length lost.2 ∙ length-append h.gone lost.0 in
      let same : length rest ≡ length lost.0 = ap length (some_is (sym left ∙ lost.1)) in
      let none = ap (λ (x : ReaderState). x.taken) new in
      let started = ap (λ (x : ReaderState). x.fetched) new in
      let demands = K.demands t in
      let fetched = h.fetched in
      let after = h.taken in
      let whole : taken ≡ (length h.word + 7) / 8 =
      omega (arith, size, same, none, started, demands, fetched, after, count) in
      subst (λ p. IsDecided p taken r) (sym done) (refl, whole)
  read_decided ends new left count (was_refused h) =
      let known = ap (λ (x : ReaderState). x.bytes) new in
      let end = ends h.refusal h.allowed in
      let begun = ap (λ (x : ReaderState). e.reads x.taken (x.queue ++ bits K.order xs)) new in
      let few : e.reads 0 (bits K.order xs) ≡ Incomplete = sym begun ∙ h.ended end xs known in
      subst (λ p. IsDecided p taken r) (sym few) (h.answer ∙ ap (λ k. Err (read_refusal_of k)) end.kind)
  read_decided ends new left count (memory_refused g h) = cc

-- bits that were packed, and those of other bytes
pub padded : (o : Order) (es : List Encoder) (n : ℕ) (bytes : List ℕ) (x : List Bool)
    → write_sequence (es ++ align ∷ []) 0 ≡ x → bits o (take n bytes) ≡ x
    → bits o bytes ≡ write_sequence es 0
    ++ (write_sequence (align ∷ []) (0 + length (write_sequence es 0)) ++ bits o (drop n bytes))
padded o es n bytes x told is =
    ap (bits o) (sym (take-append-drop n bytes)) ∙ bits-append o (take n bytes) (drop n bytes)
    ∙ ap (λ first. first ++ bits o (drop n bytes)) (is ∙ sym told ∙ write_sequence-append es (align ∷ []) 0)
    ∙ append_assoc (write_sequence es 0) (write_sequence (align ∷ []) (0 + length (write_sequence es 0)))
    (bits o (drop n bytes))

-- a word of groups has as many bits as they have
groups_length : (strict : Bool) (o : Order) (field more : ℕ) (w : List Bool) (v : ℕ) → IsGroups strict o field more w v
    → length w ≡ field * (more + 1)
groups_length strict o field zero w v is = ap length is.1 ∙ length-word o field v ∙ omega arith
groups_length strict o field (suc more) w v is =
    let rest = groups_length strict o field more is.2 is.1 is.7 in
    let first = length-word o field (2 ^ (field - 1) + is.0) in
    let all = ap length is.5 ∙ length-append (word o field (2 ^ (field - 1) + is.0)) is.2 in
    all ∙ omega (arith, rest, first)

-- the groups of a number of so many bits
pub groups_most : (o : Order) (field width v : ℕ) → 2 ≤ field → 0 < width → v < 2 ^ width
    → (more : ℕ) × (length (vbr_word o field v) ≡ field * (more + 1)) × (more * (field - 1) < width)
groups_most o field width v wide some small =
    let is = vbr_word_accepted o field (omega arith) false width (2 ^ width) v wide some (omega arith) small in
    (is.0, groups_length false o field is.0 (vbr_word o field v) v is.1, is.2)

-- a part that is there or not
pub optional_most : {A : Type 0} (size : A → ℕ) (n : ℕ) (P : A → Type 0) (x : Option A) → ForSome x P
    → ((a : A) → P a → size a ≤ n) → optional_size size x ≤ n
optional_most size n P None fits most = omega arith
optional_most size n P (Some a) fits most = most a (fits a refl)

-- accepted calls whose bits a counter cannot count
pub counted_past : {S : Type 0} (K : Sink S) (most : ℕ) → K.limit ≡ Some most → ((x : Refusal) → K.may x → ⊥)
    → (es : List Encoder) (s : S) (x : Error) (t : S) → K.len s ≡ 0 → K.failed s ≡ false → AllAccepted es 0
    → WritesAll K es s (Err x) t → most < length (write_sequence es 0)
counted_past K most is never es s x t start sound all h =
    elim (cases_lt most (length (write_sequence es 0))) [
      | inl past ↦ past
      | inr few ↦
          let here = ap (λ (n : ℕ). length (write_sequence es n)) start in
          let room : IsRoomy K (K.len s + length (write_sequence es (K.len s))) = λ m le past.
          let over : most < m = subst (λ l. IsPastLimit l m) is past in
          absurd (omega (arith, le, over, here, start, few)) in
          elim (error_within K es s x t sound room h) [
            | inl own ↦ let run = sym own ∙ ap (sequence_length es) start ∙ accepted-run es 0 all in cc
            | inr fault ↦ absurd (never fault.0 fault.1)
          ]
    ]

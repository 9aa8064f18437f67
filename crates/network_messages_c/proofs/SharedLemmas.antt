-- Made by `./format --c`, which prints the same for each crate: edit tools/describing/c/shared.py.
-- Statuses, the result of a pack that succeeds, and the first bytes of a buffer.
use Rattle.std.proofs.Common.{◌≡◌, ◌∙◌, ◌<◌, ◌≤◌, ◌+◌, ◌*◌, ◌/◌, ◌++◌, ◌∷◌, [], ℕ, ℤ, Bool, false, List, length, refl, sym, ap, arith, length-append}
use Rattle.std.specs.Prelude.{pos, take, drop, unsigned_abs, replicate}
use Rattle.std.proofs.lemmas.List.{length-replicate, take_at, drop_at}
use Rattle.bitstream_io.specs.Alignment.{to_boundary}
use Rattle.bitstream_io.specs.Callers.{Encoder, Order, align, bits, write_sequence}
use Rattle.bitstream_io.proofs.CallerLemmas.{Packs, write_sequence-append}
use Rattle.bitstream_io.proofs.WordLemmas.{length-bits}
use Rattle.network_messages_c.specs.Shared.{BeginsWith, PacksInto, packed_bytes}

same_number : {n k : ℕ} → pos n ≡ pos k → n ≡ k
same_number is = ap unsigned_abs is

-- a status that is not 0
pub failed : {s : ℤ} (n : ℕ) → 0 < n → s ≡ pos n → s ≡ pos 0 → ⊥
failed n some is ok = omega (arith, some, same_number (sym is ∙ ok))

-- the number of bits of calls and an alignment
aligned : (es : List Encoder) → length (write_sequence (es ++ align ∷ []) 0) ≡ 8 * packed_bytes es
aligned es =
    let k = length (write_sequence es 0) in
    let last : length (write_sequence (align ∷ []) k) ≡ to_boundary k = length-append (replicate (to_boundary k) false) []
    ∙ (let long = length-replicate (to_boundary k) false in omega (arith, long)) in
    let here : 0 + k ≡ k = omega arith in
    let more : length (write_sequence (align ∷ []) (0 + k)) ≡ to_boundary k = rw here last in
    let sum = length-append (write_sequence es 0) (write_sequence (align ∷ []) (0 + k)) in
    let split = ap length (write_sequence-append es (align ∷ []) 0) in
    omega (arith, split, sum, more)

-- they fit bytes that have room for them
pub has_room : (es : List Encoder) (n : ℕ) → packed_bytes es ≤ n
    → length (write_sequence (es ++ align ∷ []) 0) ≤ 8 * n
has_room es n enough = omega (arith, aligned es, enough)

-- a buffer that holds them, and the bytes after them as before
pub begins : {es : List Encoder} (o : Order) (held was : List ℕ) {new : List ℕ}
    → bits o held ≡ write_sequence (es ++ align ∷ []) 0 → new ≡ held ++ drop (length held) was
    → BeginsWith o es was new
begins {es = es} o held was packed is =
    let size = ap length packed in
    let count : length held ≡ packed_bytes es = omega (arith, length-bits o held, size, aligned es) in
    record {
      bytes = rw is (ap (bits o) (take_at held _ (packed_bytes es) count) ∙ packed);
      after = rw is (drop_at held _ (packed_bytes es) count ∙ ap (λ n. drop n was) count);
    }

-- all is written
packs-done : {fits : Type 0} {o : Order} {size : ℕ} {held : List Bool} {old new : List ℕ} → fits
    → size ≤ length old → bits o (take size new) ≡ held → drop size new ≡ drop size old
    → PacksInto fits o size held old (record { status = pos 0; written = size }) new
packs-done fit room is kept = record {
  ok = (λ same. (fit, room), λ all. refl);
  no_room = (λ same. absurd (omega (arith, same_number same)), λ all. absurd (omega (arith, room, all.1)));
  misfit = (λ same. absurd (omega (arith, same_number same)), λ other. absurd (other fit));
  written = λ same. refl;
  bytes = λ same. is;
  after = λ same. kept;
  unchanged = λ other. absurd (other refl);
}

-- the number of bytes of calls of so many bits
pub bytes_of : {es : List Encoder} {k : ℕ} → Packs es k → packed_bytes es ≡ (k + 7) / 8
bytes_of all = ap (λ n. (n + 7) / 8) (all.size 0)

-- the same of a buffer that begins with the bits
pub packs-begun : {fits : Type 0} {o : Order} {es : List Encoder} {k size : ℕ} {held : List Bool} {old new : List ℕ}
    → fits → Packs es k → (k + 7) / 8 ≡ size → size ≤ length old → write_sequence (es ++ align ∷ []) 0 ≡ held
    → BeginsWith o es old new → PacksInto fits o size held old (record { status = pos 0; written = size }) new
packs-begun {o = o} {old = old} {new = new} fit all size room told begun =
    let count = bytes_of all ∙ size in
    packs-done fit room (ap (λ n. bits o (take n new)) (sym count) ∙ begun.bytes ∙ told)
    (ap (λ n. drop n new) (sym count) ∙ begun.after ∙ ap (λ n. drop n old) count)

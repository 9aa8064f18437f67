-- Bytes that are taken from bytes in memory.
use Rattle.std.proofs.Common.{◌≡◌, ℕ, ◌+◌, ◌-◌, ◌*◌, ◌<◌, ◌≤◌, false, List, ◌++◌, length, take, drop, Ok, Err, refl, sym, ap, ap₂, ◌∙◌, arith, append_assoc, take-append-drop, take_all, get_or}
use Rattle.std.proofs.lemmas.List.{take-append-le}
use Rattle.bitstream_count.specs.declared.error.Error.TheVariants.{EndOfInput}
use Rattle.bitstream_number.specs.Word.{Order, word, bits, bytes_of}
use Rattle.bitstream_number.proofs.Bytes.{AreBytes}
use Rattle.bitstream_number.proofs.ByteLemmas.{bytes_of-bits}
use Rattle.bitstream_number.proofs.WordLemmas.{length-bits, bits-append}
use Rattle.bitstream_order.specs.Parts.{first_part, piece}
use Rattle.bitstream_order.specs.Moving.Shift.{Shifts}
use Rattle.bitstream_order.proofs.Moving.PieceLemmas.{first_bits}
use Rattle.bitstream_stream.specs.Reading.Reads.{Reads, was_done}
use Rattle.bitstream_stream.specs.Reading.ReadTable.{bytes_decoder}
use Rattle.bitstream_stream.specs.Reading.Memory.{rest_bits}
use Rattle.bitstream_stream.specs.Reading.MemorySource.{memory_source}
use Rattle.bitstream_stream.specs.Reading.MemoryTakes.{GoesOn, FailsAtEnd}
use Rattle.bitstream_stream.specs.declared.read.slice_reader.SliceReader.{SliceReader}
use Rattle.bitstream_stream.proofs.Reading.MemoryWindows.{bits-take}
use Rattle.bitstream_stream.proofs.Reading.MemoryLemmas.{prefix_done, went_on, takes_refused}
use Rattle.bitstream_stream.proofs.Reading.MemoryRuns.{first_parts}

pub bytes_read : {E : Type 0} (o : Order) (n : ℕ) (made : List ℕ) (old new : SliceReader E) → old.failed ≡ false
    → AreBytes made → length made ≡ n → bits o made ≡ take (8 * n) (rest_bits o old.bytes.now old.bit)
    → GoesOn (8 * n) old new → Reads (memory_source o) (bytes_decoder o n) old (Ok made) new
unfolding bytes_decoder
bytes_read {E = E} o n made old new fine are len is h =
    let s = memory_source {E = E} o in
    let w = take (8 * n) (rest_bits o old.bytes.now old.bit) in
    let size : length w ≡ 8 * n = ap (λ l. length l) (sym is) ∙ length-bits o made ∙ ap (λ k. 8 * k) len in
    let back : bytes_of o n w ≡ made =
    ap₂ (λ k l. bytes_of o k l) (sym len) (sym is) ∙ bytes_of-bits o made are in
    was_done (prefix_done o (bytes_decoder o n) (8 * n) (λ l. Ok (bytes_of o n l)) made w (s.state old) (s.state new)
    (λ l. refl) size (ap Ok back) (went_on o (8 * n) old new fine h))

pub bytes_refused : {E : Type 0} (o : Order) (n : ℕ) (old new : SliceReader E) → old.failed ≡ false
    → 8 * length old.bytes.now < old.bit + 8 * n → FailsAtEnd old new
    → Reads (memory_source o) (bytes_decoder o n) old (Err EndOfInput) new
unfolding bytes_decoder
bytes_refused o n old new fine short h = takes_refused o (8 * n) (λ l. Ok (bytes_of o n l)) old new fine short h

-- bytes at a boundary
pub aligned_bits : (o : Order) (bytes made : List ℕ) (bit n : ℕ) → bit ≡ 0 → n ≤ length bytes → made ≡ take n bytes
    → bits o made ≡ take (8 * n) (rest_bits o bytes bit)
aligned_bits o bytes made bit n none there is =
    ap (bits o) is ∙ bits-take o n bytes there ∙ ap (λ k. take (8 * n) (drop k (bits o bytes))) (sym none)

-- bytes after the bits that are left of one
pub shifted_bits : (o : Order) (bytes part made : List ℕ) (bit n r q left : ℕ) → 1 ≤ bit → bit < 8 → n < length bytes
    → ((k : ℕ) → bit + k ≤ 8 → first_part o r 8 k ≡ piece o 8 (get_or bytes 0 0) bit k)
    → q ≡ first_part o r 8 (8 - bit) → part ≡ take n (drop 1 bytes) → length made ≡ n
    → Shifts o (8 - bit) q (bits o part) (bits o made) left
    → bits o made ≡ take (8 * n) (rest_bits o bytes bit)
shifted_bits o bytes part made bit n r q left some few there law first is len shifts =
    let k = 8 - bit in
    let rest = drop n (drop 1 bytes) in
    let queue : take k (word o 8 r) ≡ word o k q = first_bits o r 8 k (omega arith) ∙ ap (word o k) (sym first) in
    let behind : bits o (drop 1 bytes) ≡ bits o part ++ bits o rest =
    ap (bits o) (sym (take-append-drop n (drop 1 bytes))) ∙ bits-append o (take n (drop 1 bytes)) rest
    ∙ ap (λ xs. bits o xs ++ bits o rest) (sym is) in
    let all : rest_bits o bytes bit ≡ bits o made ++ (word o k left ++ bits o rest) =
    first_parts o bytes bit r few (omega (arith, there)) law ∙ ap₂ (λ x y. x ++ y) queue behind
    ∙ sym (append_assoc (word o k q) (bits o part) (bits o rest)) ∙ ap (λ x. x ++ bits o rest) shifts
    ∙ append_assoc (bits o made) (word o k left) (bits o rest) in
    let size : length (bits o made) ≡ 8 * n = length-bits o made ∙ ap (λ j. 8 * j) len in
    sym (ap (take (8 * n)) all ∙ take-append-le (8 * n) (bits o made) (word o k left ++ bits o rest) (omega (arith, size))
    ∙ take_all (8 * n) (bits o made) (omega (arith, size)))

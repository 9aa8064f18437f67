-- One write after another.
use Rattle.std.proofs.Common.{◌≡◌, ◌∙◌, ◌+◌, ◌*◌, ◌<◌, ◌≤◌, ◌++◌, [], ℕ, pos, Bool, true, false, List, length, take, drop, get_or, refl, sym, ap, subst, arith, length-append}
use Rattle.std.specs.Prelude.{IsTrue, ◌↔◌}
use Rattle.std.proofs.lemmas.List.{length-drop, length-take-le}
use Rattle.bitstream_io.proofs.WordLemmas.{length-bits}
use Rattle.bitstream_io.proofs.WriteParts.{flat_map-take}
use Rattle.bitstream_io.specs.Callers.{Order, bits, word}
use Rattle.bits_c.specs.Writer.{HasRoom, Wrote, WritesBits, replaced}
use Rattle.bits_c.proofs.PutLemmas.{replaced-none, replaced-twice}
use Rattle.bits_c.specs.declared.writer.BitsWriter.{BitsWriter}

-- nothing was written
pub wrote-none : (o : Order) (a : BitsWriter) → Wrote o [] a a
wrote-none o a = record {
  buffer = refl;
  bytes = sym (replaced-none a.at (bits o a.bytes.now));
  at = omega arith;
}

-- one word was written and then another
pub wrote-more : (o : Order) (v w : List Bool) (a b c : BitsWriter) → HasRoom a (length v) → Wrote o v a b → Wrote o w b c
    → Wrote o (v ++ w) a c
wrote-more o v w a b c room first second =
    let within : a.at + length v ≤ length (bits o a.bytes.now) =
    let l = length-bits o a.bytes.now in
    let r = room.0 in
    omega (arith, l, r) in
    let l = length-append v w in
    let f = first.at in
    let s = second.at in
    record {
      buffer = second.buffer ∙ first.buffer;
      bytes = second.bytes ∙ ap (λ (k : ℕ). replaced k w (bits o b.bytes.now)) f
          ∙ ap (replaced (a.at + length v) w) first.bytes ∙ replaced-twice a.at v w (bits o a.bytes.now) within;
      at = omega (arith, l, f, s);
    }

-- a buffer has the same bytes after a write
pub wrote-long : (o : Order) (v : List Bool) (a b : BitsWriter) → HasRoom a (length v) → Wrote o v a b
    → length b.bytes.now ≡ length a.bytes.now
wrote-long o v a b room first =
    let x = take a.at (bits o a.bytes.now) in
    let z = drop (a.at + length v) (bits o a.bytes.now) in
    let l = length-bits o a.bytes.now in
    let m = length-bits o b.bytes.now in
    let r = room.0 in
    let size : length (replaced a.at v (bits o a.bytes.now)) ≡ length (bits o a.bytes.now) =
    let i = length-append x (v ++ z) in
    let j = length-append v z in
    let p = length-take-le a.at (bits o a.bytes.now) (omega (arith, l, r)) in
    let q = length-drop (a.at + length v) (bits o a.bytes.now) in
    omega (arith, i, j, p, q, l, r) in
    let same = ap length first.bytes in
    omega (arith, l, m, size, same)

-- room for what follows a write
pub room-after : (o : Order) (v : List Bool) (a b : BitsWriter) (m : ℕ) → HasRoom a (length v + m) → Wrote o v a b
    → HasRoom b m
room-after o v a b m room first =
    let r = room.0 in
    let t = room.1 in
    let f = first.at in
    let some : HasRoom a (length v) = (omega (arith, r), omega (arith, t)) in
    let l = wrote-long o v a b some first in
    (omega (arith, r, f, l), omega (arith, t, f))

-- what a write of a word does if the buffer has no room for it, and if it has
pub no-room : (o : Order) (w : List Bool) (a : BitsWriter) (r : Bool) (count : ℕ) → (IsTrue r ↔ HasRoom a count) → r ≡ false
    → length w ≡ count → WritesBits o w a (pos 4) a
no-room o w a r count tells is size = record {
  there = λ room.
      absurd (let yes : r ≡ true = tells.1 (subst (λ (k : ℕ). HasRoom a k) size room) in cc);
  short = λ none. (refl, record { buffer = refl; bytes = refl; at = refl });
}

pub did-write : (o : Order) (w : List Bool) (a b : BitsWriter) (r : Bool) (count : ℕ) → (IsTrue r ↔ HasRoom a count)
    → r ≡ true → length w ≡ count → Wrote o w a b → WritesBits o w a (pos 0) b
did-write o w a b r count tells is size wrote = record {
  there = λ room. (refl, wrote);
  short = λ none. absurd (none (subst (λ (k : ℕ). HasRoom a k) (sym size) (tells.0 is)));
}

-- bytes that are written one after another
pub bytes-room : (o : Order) (xs : List ℕ) (i : ℕ) (a b : BitsWriter) → i < length xs → HasRoom a (8 * length xs)
    → Wrote o (bits o (take i xs)) a b → HasRoom b 8
bytes-room o xs i a b less room first =
    let l = length-bits o (take i xs) in
    let m = length-take-le i xs (omega (arith, less)) in
    let r = room.0 in
    let t = room.1 in
    let there : HasRoom a (length (bits o (take i xs)) + 8) = (omega (arith, l, m, r, less), omega (arith, l, m, t, less)) in
    room-after o (bits o (take i xs)) a b 8 there first

pub bytes-more : (o : Order) (xs : List ℕ) (i v : ℕ) (a b c : BitsWriter) → i < length xs → HasRoom a (8 * length xs)
    → v ≡ get_or xs i 0 → Wrote o (bits o (take i xs)) a b → Wrote o (word o 8 v) b c
    → Wrote o (bits o (take (i + 1) xs)) a c
bytes-more o xs i v a b c less room is first second =
    let l = length-bits o (take i xs) in
    let m = length-take-le i xs (omega (arith, less)) in
    let r = room.0 in
    let t = room.1 in
    let there : HasRoom a (length (bits o (take i xs))) = (omega (arith, l, m, r, less), omega (arith, l, m, t, less)) in
    let whole : bits o (take i xs) ++ word o 8 v ≡ bits o (take (i + 1) xs) =
    ap (λ (u : ℕ). bits o (take i xs) ++ word o 8 u) is ∙ sym (flat_map-take (word o 8) xs i 0 less) in
    subst (λ (it : List Bool). Wrote o it a c) whole (wrote-more o (bits o (take i xs)) (word o 8 v) a b c there first second)

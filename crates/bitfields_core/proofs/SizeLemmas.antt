-- How many bits the words of fields have.
use Rattle.std.specs.Prelude.{Bool, drop, replicate, false}
use Rattle.std.specs.List.{AllByRecursion}
use Rattle.std.proofs.Common.{◌≡◌, ℕ, ◌+◌, ◌*◌, ◌<◌, ◌≤◌, ◌^◌, true, List, [], ◌∷◌, ◌++◌, length, Option, None, Result, Ok, Err, refl, sym, ap, subst, ◌∙◌, arith, length-append, append-nil, lit<, zero-add, ◌⊎◌, inl, inr}
use Rattle.std.proofs.lemmas.List.{length-replicate}
use Rattle.std.proofs.lemmas.List.Elements.{recursion_from_All}
use Rattle.bitstream_io.specs.Alignment.{to_boundary}
use Rattle.bitstream_io.specs.Error.{Error}
use Rattle.bitstream_io.specs.Refusal.{Refusal}
use Rattle.bitstream_io.specs.Sequence.{write_sequence, write_refusals}
use Rattle.bitstream_io.specs.Sink.{Sink, IsWithin, WritesAll}
use Rattle.bitstream_io.specs.Vbr.{vbr_word}
use Rattle.bitstream_io.specs.Word.{Order, High, bits, zig}
use Rattle.bitstream_io.specs.WriteTable.{align}
use Rattle.bitstream_io.proofs.UnaryLemmas.{length-unary}
use Rattle.bitstream_io.proofs.VbrLemmas.{IsGroups-length, vbr_word_accepted, length-vbr_word, zig-lt}
use Rattle.bitstream_io.proofs.WordLemmas.{length-word, length-bits}
use Rattle.bitfields_core.specs.declared.fault.Fault.{Fault}
use Rattle.bitfields_core.specs.declared.fault.Reason.TheVariants.{OutOfMemory}
use Rattle.bitfields_core.specs.declared.field.Field.{Field}
use Rattle.bitfields_core.specs.declared.field.Field.TheVariants.{Unsigned, Signed, Unary, Variable, Lenient, SignedVariable, Bytes, Constant, Padding, Align}
use Rattle.bitfields_core.specs.declared.field.GroupSize.{GroupSize}
use Rattle.bitfields_core.specs.declared.field.GroupSize.TheVariants.{Four, Eight}
use Rattle.bitfields_core.specs.declared.field_value.FieldValue.{FieldValue}
use Rattle.bitfields_core.specs.Fault.{fault}
use Rattle.bitfields_core.specs.Layout.{IsField, IsLayout, group_bits}
use Rattle.bitfields_core.specs.Packing.{field_word, field_write, field_writes, packed_bits, WritesBits}
use Rattle.bitfields_core.specs.Size.{size_of, spelt_size, Sizes}
use Rattle.bitfields_core.specs.Value.{value_count, first_unsigned, first_signed, first_bytes, Fit, FitsField}
use Rattle.bitfields_core.proofs.FieldCalls.{unsigned_first, signed_first, bytes_first, field_word-written, run-more, refusals-more}
use Rattle.bitfields_core.proofs.PackingLemmas.{WritesBits-all}
use Rattle.bitstream_io.proofs.SequenceLemmas.{write_sequence-append}

-- ---- a field's word

-- two words have one length, at most this
pub record HaveOneLength (most : ℕ) (x y : List Bool) : Type 0 where
  pub same : length x ≡ length y
  pub few : length x ≤ most

-- a word of v in groups, v below 2^64
few_groups : (o : Order) (size : GroupSize) (v : ℕ) → v < 2 ^ 64 → length (vbr_word o (group_bits size) v) ≤ 2 ^ 32
few_groups o Four v h =
    let a = vbr_word_accepted o 4 (omega arith) true 64 (2 ^ 64) v (omega arith) (lit< tt) (omega arith) h in
    omega (arith, IsGroups-length o 4 (omega arith) true a.0 (vbr_word o 4 v) v a.1, a.2)
few_groups o Eight v h =
    let a = vbr_word_accepted o 8 (omega arith) true 64 (2 ^ 64) v (omega arith) (lit< tt) (omega arith) h in
    omega (arith, IsGroups-length o 8 (omega arith) true a.0 (vbr_word o 8 v) v a.1, a.2)

-- the word of a field's value in the two orders of bits
word-length : (o p : Order) (f : Field) (vs : List FieldValue) (at : ℕ) → IsField f → FitsField f vs
    → HaveOneLength (2 ^ 32) (field_word o f vs at) (field_word p f vs at)
word-length o p (Unsigned n) vs at i h = record {
  same = length-word o n _ ∙ sym (length-word p n _);
  few = omega (arith, length-word o n (first_unsigned vs), i.1);
}
word-length o p (Signed n) vs at i h = record {
  same = length-word o n _ ∙ sym (length-word p n _);
  few = subst (λ (m : ℕ). m ≤ 2 ^ 32) (sym (length-word o n _)) (omega (arith, i.1));
}
word-length o p (Unary stop) vs at i h = record {
  same = refl;
  few = omega (arith, length-unary stop (first_unsigned vs), (unsigned_first 32 vs h).0);
}
word-length o p (Variable size) vs at i h = record {
  same = length-vbr_word o p (group_bits size) (first_unsigned vs);
  few = few_groups o size (first_unsigned vs) (unsigned_first 64 vs h).0;
}
word-length o p (Lenient size) vs at i h = record {
  same = length-vbr_word o p (group_bits size) (first_unsigned vs);
  few = few_groups o size (first_unsigned vs) (unsigned_first 64 vs h).0;
}
word-length o p (SignedVariable size) vs at i h = record {
  same = length-vbr_word o p (group_bits size) (zig (first_signed vs));
  few = few_groups o size (zig (first_signed vs)) (zig-lt 64 (first_signed vs) (lit< tt) (signed_first 64 vs h).0);
}
word-length o p (Bytes n) vs at i h = record {
  same = length-bits o (first_bytes vs) ∙ sym (length-bits p (first_bytes vs));
  few = omega (arith, length-bits o (first_bytes vs), (bytes_first n vs h).0, i.1);
}
word-length o p (Constant n v) vs at i h = record {
  same = length-word o n v ∙ sym (length-word p n v);
  few = omega (arith, length-word o n v, i.1);
}
word-length o p (Padding n) vs at i h = record { same = refl; few = omega (arith, length-replicate n false, i.1) }
word-length o p Align vs at i h = record {
  same = refl;
  few = omega (arith, length-replicate (to_boundary at) false);
}

-- ---- the words of fields, one behind the other

-- those of values that fit, in the two orders of bits
pub run-length : (o p : Order) (fields : List Field) (vs : List FieldValue) (at : ℕ) → AllByRecursion IsField fields
    → Fit fields vs → HaveOneLength (length fields * 2 ^ 32) (write_sequence (field_writes o fields vs) at)
    (write_sequence (field_writes p fields vs) at)
run-length o p [] vs at i h = record { same = refl; few = omega arith }
run-length o p (f ∷ fs) vs at i h =
    let us = drop (value_count f) vs in
    let w = field_word o f vs at in
    let v = field_word p f vs at in
    let x = write_sequence (field_writes o fs us) (at + length w) in
    let y = write_sequence (field_writes p fs us) (at + length v) in
    let first = word-length o p f vs at i.0 h.0 in
    let others = run-length o p fs us (at + length w) i.1 h.1 in
    let same : length x ≡ length y = others.same
    ∙ ap (λ (n : ℕ). length (write_sequence (field_writes p fs us) (at + n))) first.same in
    let in_o = ap length (run-more (field_write o f vs) (field_writes o fs us) w at
    (field_word-written o f vs at i.0 h.0)) ∙ length-append w x in
    let in_p = ap length (run-more (field_write p f vs) (field_writes p fs us) v at
    (field_word-written p f vs at i.0 h.0)) ∙ length-append v y in
    record {
      same = omega (arith, in_o, in_p, first.same, same);
      few = omega (arith, in_o, first.few, others.few);
    }

-- values that fit have one size in both orders of bits
pub size_of-order : (o p : Order) (fields : List Field) (vs : List FieldValue) → IsLayout fields → Fit fields vs
    → size_of o fields vs ≡ size_of p fields vs
size_of-order o p fields vs layout fit =
    (run-length o p fields vs 0 (recursion_from_All IsField fields layout.in_range) fit).same

-- and at most 2^40 bits
pub size_of-le : (o : Order) (fields : List Field) (vs : List FieldValue) → IsLayout fields → Fit fields vs
    → size_of o fields vs ≤ 2 ^ 40
size_of-le o fields vs layout fit =
    let most = (run-length o o fields vs 0 (recursion_from_All IsField fields layout.in_range) fit).few in
    omega (arith, most, layout.few)

-- ---- on a counter

-- no call for a value that fits is rejected
writes-accepted : (o : Order) (fields : List Field) (vs : List FieldValue) (at : ℕ) → AllByRecursion IsField fields
    → Fit fields vs → AllByRecursion (λ r. r ≡ None) (write_refusals (field_writes o fields vs) at)
writes-accepted o [] vs at i h = tt
writes-accepted o (f ∷ fs) vs at i h =
    let us = drop (value_count f) vs in
    let w = field_word o f vs at in
    subst (λ (rs : List (Option Error)). AllByRecursion (λ r. r ≡ None) rs)
    (sym (refusals-more (field_write o f vs) (field_writes o fs us) w at (field_word-written o f vs at i.0 h.0)))
    (refl, writes-accepted o fs us (at + length w) i.1 h.1)

-- what was written to a sink whose stream refuses nothing
done : {S : Type 0} (K : Sink S) (x : List Bool) (old : S) (r : Result (Unit {0}) Error) (new : S) → ((y : Refusal)
    → K.may y → ⊥) → WritesBits K x old r new → (r ≡ Ok tt) × (K.len new ≡ K.len old + length x)
done K x old (Ok v) new never h = (refl, K.appends_len old new x h.grown)
done K x old (Err e) new never h = absurd (never h.refusal h.allowed)

-- a new counter that holds 2^40 and refuses nothing counts the size of values that fit
pub counts-size : {S : Type 0} (K : Sink S) (fields : List Field) (vs : List FieldValue) (old : S)
    (r : Result (Unit {0}) Error) (new : S) → WritesAll K (field_writes K.order fields vs) old r new → IsLayout fields
    → Fit fields vs → K.failed old ≡ false → K.len old ≡ 0 → ((y : Refusal) → K.may y → ⊥)
    → ((n : ℕ) → n ≤ 2 ^ 40 → IsWithin K.limit n) → (r ≡ Ok tt) × (K.len new ≡ size_of K.order fields vs)
counts-size K fields vs old r new w layout fit sound none never room =
    let es = field_writes K.order fields vs in
    let each = recursion_from_All IsField fields layout.in_range in
    let small = size_of-le K.order fields vs layout fit in
    let size = ap (λ (n : ℕ). n + length (write_sequence es n)) none ∙ zero-add (size_of K.order fields vs) in
    let all = WritesBits-all K es old r new sound (room _ (omega (arith, size, small)))
    (writes-accepted K.order fields vs (K.len old) each fit) w in
    let answer = done K (write_sequence es (K.len old)) old r new never all in
    (answer.0, answer.1 ∙ size)

-- ---- the packed bits

-- the words, and zeros up to a whole byte
pub packed-size : (o : Order) (fields : List Field) (vs : List FieldValue) → packed_bits o fields vs 0
    ≡ write_sequence (field_writes o fields vs) 0 ++ replicate (to_boundary (size_of o fields vs)) false
packed-size o fields vs =
    let n = size_of o fields vs in
    write_sequence-append (field_writes o fields vs) (align ∷ []) 0
    ∙ ap (λ (p : ℕ). write_sequence (field_writes o fields vs) 0 ++ write_sequence (align ∷ []) p) (zero-add n)
    ∙ ap (λ (w : List Bool). write_sequence (field_writes o fields vs) 0 ++ w)
    (append-nil (replicate (to_boundary n) false))

pub packed-bytes : (o : Order) (fields : List Field) (vs : List FieldValue) (bytes : List ℕ)
    → bits o bytes ≡ packed_bits o fields vs 0
    → 8 * length bytes ≡ size_of o fields vs + to_boundary (size_of o fields vs)
packed-bytes o fields vs bytes is =
    let n = size_of o fields vs in
    let words = write_sequence (field_writes o fields vs) 0 in
    let zeros = replicate (to_boundary n) false in
    omega (
      arith,
      length-bits o bytes,
      ap length (is ∙ packed-size o fields vs),
      length-append words zeros,
      length-replicate (to_boundary n) false,
    )

-- ---- what is answered

-- a fault of the values is one of their size
pub size-fault : (fields : List Field) (spelt : Result (List FieldValue) Fault) (r : Result ℕ Fault) (f : Fault)
    → r ≡ Err f → (f ≡ fault 0 OutOfMemory) ⊎ (spelt ≡ Err f) → Sizes fields spelt r
size-fault fields spelt r f is (inl memory) = λ o. inl (is ∙ ap Err memory)
size-fault fields spelt r f is (inr same) = λ o. inr (is ∙ sym (ap (spelt_size o fields) same))

-- the size in one order is the size in the other
pub size-done : (fields : List Field) (spelt : Result (List FieldValue) Fault) (vs : List FieldValue) (n : ℕ)
    → IsLayout fields → Fit fields vs → spelt ≡ Ok vs → n ≡ size_of High fields vs → Sizes fields spelt (Ok n)
size-done fields spelt vs n layout fit same is = λ o. inr (ap Ok (is ∙ size_of-order High o fields vs layout fit)
    ∙ sym (ap (spelt_size o fields) same))

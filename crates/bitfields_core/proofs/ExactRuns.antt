-- What packed bits say for fields fits them, and packing writes these bits again.
use Rattle.std.specs.Prelude.{Bool, ◌*◌, ◌%◌, drop, take}
use Rattle.std.specs.List.{AllByRecursion}
use Rattle.std.proofs.Common.{◌≡◌, ℕ, ◌+◌, ◌<◌, ◌≤◌, List, [], ◌∷◌, ◌++◌, length, Option, Result, Ok, Err, refl, sym, ap, subst, ◌∙◌, arith, append-nil, append_assoc, length-append, length-drop, length-take-le, take-append-drop, All}
use Rattle.std.proofs.lemmas.List.{nil_from_length}
use Rattle.std.proofs.lemmas.List.Elements.{All-append, All-cons, All-nil, recursion_from_All}
use Rattle.bitstream_io.specs.Alignment.{to_boundary}
use Rattle.bitstream_io.specs.Codec.{Prefix, Incomplete, Done, Encoder}
use Rattle.bitstream_io.specs.ReadTable.{bytes_decoder}
use Rattle.bitstream_io.specs.Sequence.{write_sequence}
use Rattle.bitstream_io.specs.Word.{Order, bits}
use Rattle.bitstream_io.specs.WriteTable.{align}
use Rattle.bitstream_io.proofs.CallsBack.{bytes-read}
use Rattle.bitstream_io.proofs.WordLemmas.{length-bits}
use Rattle.bitfields_core.specs.declared.fault.Reason.{Reason}
use Rattle.bitfields_core.specs.declared.field.Field.{Field}
use Rattle.bitfields_core.specs.declared.field.Field.TheVariants.{Align}
use Rattle.bitfields_core.specs.declared.field_value.FieldValue.{FieldValue}
use Rattle.bitfields_core.specs.Layout.{IsField, IsLayout}
use Rattle.bitfields_core.specs.Packing.{field_write, field_writes, packed_bits}
use Rattle.bitfields_core.specs.Repacking.{HasOneWord, exact_read, unpack_aligned, without_last_field, with_alignment}
use Rattle.bitfields_core.specs.Unpacking.{FieldCalls, Unpacked, Unpacks, Stops, says_by, values_and}
use Rattle.bitfields_core.specs.Value.{value_count, value_list, Fit}
use Rattle.bitfields_core.proofs.FieldCalls.{run-more, says-refused, says-short, says-takes, says-told, says-written}
use Rattle.bitfields_core.proofs.OneWord.{align_size, exact_trips, told}

-- ---- the first field and the others

-- the first field's call answered a value, or that there is none, and the bits behind it say the other values
pub record First (calls : FieldCalls) (o : Order) (k : ℕ) (f : Field) (fs : List Field) (at : ℕ) (b : List Bool)
    (vs : List FieldValue) (end : ℕ) : Type 0 where
  pub n : ℕ
  pub value : Option FieldValue
  pub rest : List FieldValue
  pub reads : (calls o f).reads at b ≡ Done n (Ok (Ok value))
  pub others : says_by calls o (k + 1) fs (at + n) (drop n b) ≡ Unpacks rest end
  pub parts : vs ≡ value_list value ++ rest

values_behind : (us : List FieldValue) (r : Unpacked) (vs : List FieldValue) (end : ℕ)
    → values_and us r ≡ Unpacks vs end → (ws : List FieldValue) × (r ≡ Unpacks ws end) × (vs ≡ us ++ ws)
values_behind us (Unpacks ws at) vs end h =
    let place : at ≡ end = cc in
    let whole : us ++ ws ≡ vs = cc in
    (ws, ap (Unpacks ws) place, sym whole)
values_behind us (Stops f) vs end h = absurd (cc)

module _ (calls : FieldCalls) (o : Order) (k : ℕ) (f : Field) (fs : List Field) (at : ℕ) (b : List Bool)
    (vs : List FieldValue) (end : ℕ) where
  first_by : (x : Prefix (Result (Option FieldValue) Reason)) → (calls o f).reads at b ≡ x
      → says_by calls o k (f ∷ fs) at b ≡ Unpacks vs end → First calls o k f fs at b vs end
  first_by Incomplete is h =
      let stop : Stops _ ≡ Unpacks vs end = sym (says-short calls o k f fs at b is) ∙ h in
      absurd (cc)
  first_by (Done n (Ok (Ok v))) is h =
      let p = values_behind (value_list v) (says_by calls o (k + 1) fs (at + n) (drop n b)) vs end
      (sym (says-takes calls o k f fs at n b v is) ∙ h) in
      record { n = n; value = v; rest = p.0; reads = is; others = p.1; parts = p.2 }
  first_by (Done n (Ok (Err why))) is h =
      let stop : Stops _ ≡ Unpacks vs end = sym (says-told calls o k f fs at n b why is) ∙ h in
      absurd (cc)
  first_by (Done n (Err x)) is h =
      let stop : Stops _ ≡ Unpacks vs end = sym (says-refused calls o k f fs at n b x is) ∙ h in
      absurd (cc)

  pub first : says_by calls o k (f ∷ fs) at b ≡ Unpacks vs end → First calls o k f fs at b vs end
  first h = first_by ((calls o f).reads at b) refl h

-- no fields have no values, and end where they begin
none : (vs : List FieldValue) (at end : ℕ) → Unpacks [] at ≡ Unpacks vs end → (vs ≡ []) × (at ≡ end)
none vs at end h = (let same : [] ≡ vs = cc in sym same, cc)

-- ---- the last alignment

-- behind a last alignment there is a byte boundary
pub ends_at_a_byte : (o : Order) (k : ℕ) (fields : List Field) (at : ℕ) (b : List Bool) (vs : List FieldValue) (end : ℕ)
    → says_by exact_read o k (with_alignment fields) at b ≡ Unpacks vs end → end % 8 ≡ 0
ends_at_a_byte o k [] at b vs end h =
    let p = first exact_read o k Align [] at b vs end h in
    let size : p.n ≡ to_boundary at = align_size o at p.n b p.value p.reads in
    let place : at + p.n ≡ end = (none p.rest (at + p.n) end p.others).1 in
    omega (arith, size, place)
ends_at_a_byte o k (f ∷ fs) at b vs end h =
    let p = first exact_read o k f (with_alignment fs) at b vs end h in
    ends_at_a_byte o (k + 1) fs (at + p.n) (drop p.n b) p.rest end p.others

-- it has no values, and its number is in range
pub Fit-aligned : (fields : List Field) (vs : List FieldValue) → Fit fields vs → Fit (with_alignment fields) vs
Fit-aligned [] vs h = (tt, h)
Fit-aligned (f ∷ fs) vs h = (h.0, Fit-aligned fs (drop (value_count f) vs) h.1)

pub Fit-unaligned : (fields : List Field) (vs : List FieldValue) → Fit (with_alignment fields) vs → Fit fields vs
Fit-unaligned [] vs h = h.1
Fit-unaligned (f ∷ fs) vs h = (h.0, Fit-unaligned fs (drop (value_count f) vs) h.1)

pub each_aligned : (P : Field → Type 0) (fields : List Field) → P Align → All P fields
    → AllByRecursion P (with_alignment fields)
each_aligned P fields last each =
    recursion_from_All P (with_alignment fields)
    (All-append P fields (Align ∷ []) each (All-cons P Align [] last (All-nil P)))

-- packing makes its write call behind those of the fields
pub field_writes-aligned : (o : Order) (fields : List Field) (vs : List FieldValue)
    → field_writes o (with_alignment fields) vs ≡ field_writes o fields vs ++ align ∷ []
field_writes-aligned o [] vs = refl
field_writes-aligned o (f ∷ fs) vs =
    ap (λ (es : List Encoder). field_write o f vs ∷ es) (field_writes-aligned o fs (drop (value_count f) vs))

pub packed-aligned : (o : Order) (fields : List Field) (vs : List FieldValue) (at : ℕ)
    → packed_bits o fields vs at ≡ write_sequence (field_writes o (with_alignment fields) vs) at
packed-aligned o fields vs at =
    ap (λ (es : List Encoder). write_sequence es at) (sym (field_writes-aligned o fields vs))

-- ---- what is said

-- the values fit the fields
pub says_fit : (o : Order) (k : ℕ) (fields : List Field) (at : ℕ) (b : List Bool) (vs : List FieldValue) (end : ℕ)
    → AllByRecursion IsField fields → says_by exact_read o k fields at b ≡ Unpacks vs end → Fit fields vs
says_fit o k [] at b vs end i h = (none vs at end h).0
says_fit o k (f ∷ fs) at b vs end i h =
    let p = first exact_read o k f fs at b vs end h in
    let t = told o f at p.n b p.value i.0 p.reads in
    let others = says_fit o (k + 1) fs (at + p.n) (drop p.n b) p.rest end i.1 p.others in
    subst (λ (us : List FieldValue). Fit (f ∷ fs) us) (sym p.parts)
    (t.fits p.rest, subst (λ (us : List FieldValue). Fit fs us) (sym (t.others p.rest)) others)

-- the place behind the last field is within the bits
pub says_within : (o : Order) (k : ℕ) (fields : List Field) (at : ℕ) (b : List Bool) (vs : List FieldValue) (end : ℕ)
    → AllByRecursion IsField fields → says_by exact_read o k fields at b ≡ Unpacks vs end
    → (at ≤ end) × (end ≤ at + length b)
says_within o k [] at b vs end i h =
    let place : at ≡ end = (none vs at end h).1 in
    (omega (arith, place), omega (arith, place))
says_within o k (f ∷ fs) at b vs end i h =
    let p = first exact_read o k f fs at b vs end h in
    let there = (told o f at p.n b p.value i.0 p.reads).there in
    let less = length-drop p.n b in
    let others = says_within o (k + 1) fs (at + p.n) (drop p.n b) p.rest end i.1 p.others in
    (omega (arith, others.0), omega (arith, there, less, others.1))

-- bits begin with what the fields' write calls write of values from a place on, and this ends at another place
pub record Written (o : Order) (fields : List Field) (vs : List FieldValue) (at : ℕ) (b : List Bool) (end : ℕ) :
    Type 0 where
  pub rest : List Bool
  pub parts : b ≡ write_sequence (field_writes o fields vs) at ++ rest
  pub place : end ≡ at + length (write_sequence (field_writes o fields vs) at)

-- if each value of the fields has one word, the bits are what is written of the values
pub says_written : (o : Order) (k : ℕ) (fields : List Field) (at : ℕ) (b : List Bool) (vs : List FieldValue) (end : ℕ)
    → AllByRecursion IsField fields → AllByRecursion HasOneWord fields
    → says_by exact_read o k fields at b ≡ Unpacks vs end → Written o fields vs at b end
says_written o k [] at b vs end i one h =
    let place : at ≡ end = (none vs at end h).1 in
    record { rest = b; parts = refl; place = omega (arith, place) }
says_written o k (f ∷ fs) at b vs end i one h =
    let p = first exact_read o k f fs at b vs end h in
    let t = told o f at p.n b p.value i.0 p.reads in
    let us = p.rest in
    let q = says_written o (k + 1) fs (at + p.n) (drop p.n b) us end i.1 one.1 p.others in
    let w = take p.n b in
    let size : length w ≡ p.n = length-take-le p.n b t.there in
    let x = write_sequence (field_writes o fs us) (at + p.n) in
    let run : write_sequence (field_writes o (f ∷ fs) vs) at ≡ w ++ x =
    ap (λ (ws : List FieldValue). write_sequence (field_writes o (f ∷ fs) ws) at) p.parts
    ∙ run-more (field_write o f (value_list p.value ++ us)) (field_writes o fs (drop (value_count f)
    (value_list p.value ++ us))) w at (t.written one.0 us)
    ∙ ap (λ (ws : List FieldValue). w ++ write_sequence (field_writes o fs ws) (at + length w)) (t.others us)
    ∙ ap (λ (n : ℕ). w ++ write_sequence (field_writes o fs us) (at + n)) size in
    record {
      rest = q.rest;
      parts = sym (take-append-drop p.n b) ∙ ap (λ (u : List Bool). w ++ u) q.parts ∙ sym (append_assoc w x q.rest)
          ∙ ap (λ (u : List Bool). u ++ q.rest) (sym run);
      place = omega (arith, q.place, ap length run, length-append w x, size);
    }

-- what is written of values that fit says these values, whatever follows
pub exact-written : (o : Order) (k : ℕ) (fields : List Field) (vs : List FieldValue) (at : ℕ) (rest : List Bool)
    → AllByRecursion IsField fields → Fit fields vs
    → says_by exact_read o k fields at (write_sequence (field_writes o fields vs) at ++ rest)
    ≡ Unpacks vs (at + length (write_sequence (field_writes o fields vs) at))
exact-written = says-written exact_read exact_trips

-- ---- the bytes of a layout

pub values_fit : (o : Order) (fields : List Field) (b : List Bool) (vs : List FieldValue) (n : ℕ) → IsLayout fields
    → says_by exact_read o 1 (with_alignment fields) 0 b ≡ Unpacks vs n → Fit fields vs
values_fit o fields b vs n layout h =
    Fit-unaligned fields vs
    (says_fit o 1 (with_alignment fields) 0 b vs n (each_aligned IsField fields tt layout.in_range) h)

-- values are said whatever name a fault would have
pub named : (n : ℕ) (r : Unpacked) (vs : List FieldValue) (end : ℕ) → without_last_field n r ≡ Unpacks vs end
    → r ≡ Unpacks vs end
named n (Unpacks ws at) vs end h = h
named n (Stops f) vs end h = absurd (cc)

-- bytes that say values of one word each are what is packed of these values
pub same_bytes : (o : Order) (fields : List Field) (xs : List ℕ) (vs : List FieldValue) → IsLayout fields
    → All HasOneWord fields → unpack_aligned o fields (bits o xs) ≡ Unpacks vs (8 * length xs)
    → bits o xs ≡ packed_bits o fields vs 0
same_bytes o fields xs vs layout one h =
    let all = with_alignment fields in
    let says = named (length fields) (says_by exact_read o 1 all 0 (bits o xs)) vs (8 * length xs) h in
    let q = says_written o 1 all 0 (bits o xs) vs (8 * length xs) (each_aligned IsField fields tt layout.in_range)
    (each_aligned HasOneWord fields tt one) says in
    let x = write_sequence (field_writes o all vs) 0 in
    let none_left : length q.rest ≡ 0 = omega (
      arith,
      q.place,
      length-bits o xs,
      ap length q.parts,
      length-append x q.rest,
    )
    in
    q.parts ∙ ap (λ (u : List Bool). x ++ u) (nil_from_length q.rest none_left) ∙ append-nil x
    ∙ sym (packed-aligned o fields vs 0)

-- what is packed of values that fit says these values, and no byte is left over
pub packed_says : (o : Order) (fields : List Field) (xs : List ℕ) (vs : List FieldValue) → IsLayout fields
    → Fit fields vs → bits o xs ≡ packed_bits o fields vs 0 → unpack_aligned o fields (bits o xs) ≡ Unpacks vs (8 * length xs)
packed_says o fields xs vs layout fit h =
    let all = with_alignment fields in
    let x = write_sequence (field_writes o all vs) 0 in
    let whole : bits o xs ≡ x ++ [] = h ∙ packed-aligned o fields vs 0 ∙ sym (append-nil x) in
    let size : 0 + length x ≡ 8 * length xs = omega (
      arith,
      length-bits o xs,
      ap length (h ∙ packed-aligned o fields vs 0),
    )
    in
    ap (without_last_field (length fields))
    (ap (says_by exact_read o 1 all 0) whole
    ∙ exact-written o 1 all vs 0 [] (each_aligned IsField fields tt layout.in_range) (Fit-aligned fields vs fit)
    ∙ ap (Unpacks vs) size)

-- ---- bytes with the same bits

bytes_back : (o : Order) (xs : List ℕ) → All (λ x. x < 256) xs
    → (bytes_decoder o (length xs)).reads 0 (bits o xs ++ []) ≡ Done (length (bits o xs)) (Ok xs)
bytes_back o xs fit =
    subst (λ (w : List Bool). (bytes_decoder o (length xs)).reads 0 (w ++ []) ≡ Done (length w) (Ok xs))
    (append-nil (bits o xs)) (bytes-read o xs fit 0 0 [])

-- numbers below 256 with the same bits are the same
pub same_from_bits : (o : Order) (xs ys : List ℕ) → All (λ x. x < 256) xs → All (λ y. y < 256) ys
    → bits o xs ≡ bits o ys → xs ≡ ys
same_from_bits o xs ys fit also h =
    let size : length xs ≡ length ys = omega (arith, length-bits o xs, length-bits o ys, ap length h) in
    let first : Done (length (bits o xs)) (Ok xs) ≡ Done (length (bits o ys)) (Ok ys) =
    sym (bytes_back o xs fit)
    ∙ ap (λ (w : List Bool). (bytes_decoder o (length xs)).reads 0 (w ++ [])) h
    ∙ ap (λ (n : ℕ). (bytes_decoder o n).reads 0 (bits o ys ++ [])) size
    ∙ bytes_back o ys also in
    cc first

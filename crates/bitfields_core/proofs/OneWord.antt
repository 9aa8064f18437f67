-- What the read call of a packed field takes is the one word of the field's value.
use Rattle.std.specs.Prelude.{ℤ, Bool, true, ◌==◌, ◌*◌, ◌/◌, ◌%◌, ◌-◌, if◌then◌else◌, take, drop, replicate, false}
use Rattle.std.specs.List.{AllByRecursion}
use Rattle.std.proofs.Common.{◌≡◌, ℕ, zero, suc, ◌+◌, ◌<◌, ◌≤◌, ◌^◌, List, ◌++◌, length, Option, Some, None, Result, Ok, Err, refl, sym, ap, subst, ◌∙◌, arith, inl, inr, add-zero, length-take-le, length-drop}
use Rattle.std.proofs.Math.Nat.{mod-eq_of_lt}
use Rattle.std.proofs.lemmas.Bool.{cases_eq, cases_lt, eqb-true, eq-eqb, ne_eqb, lt-ltb, le-ltb}
use Rattle.std.proofs.lemmas.Bool.Decides.{leb_tells}
use Rattle.std.proofs.lemmas.List.{length-replicate}
use Rattle.std.proofs.lemmas.List.Elements.{All-from_recursion}
use Rattle.bitstream_io.specs.Alignment.{to_boundary}
use Rattle.bitstream_io.specs.Codec.{Prefix, Decoder, Incomplete, Done, and_then, prefix_then, pure, word_prefix}
use Rattle.bitstream_io.specs.Error.{Error}
use Rattle.bitstream_io.specs.ReadTable.{unsigned_decoder, signed_decoder, unary_decoder, groups_decoder, vbr_decoder, any_vbr_decoder, signed_groups_decoder, signed_vbr_decoder, bytes_decoder}
use Rattle.bitstream_io.specs.Vbr.{IsGroups, vbr_word}
use Rattle.bitstream_io.specs.Word.{Order, FitsSignedBits, bytes_of, number, residue, signed_from, signed_number, signed_word, word, zag}
use Rattle.bitstream_io.proofs.BackLemmas.{signed-word}
use Rattle.bitstream_io.proofs.ByteLemmas.{bits-bytes_of, length-bytes_of}
use Rattle.bitstream_io.proofs.CodecLemmas.{and_then-ok, word_prefix-some}
use Rattle.bitstream_io.proofs.SignedLemmas.{zig-zag}
use Rattle.bitstream_io.proofs.TableLemmas.{unsigned-takes}
use Rattle.bitstream_io.proofs.UnaryLemmas.{unary_read}
use Rattle.bitstream_io.proofs.VbrLemmas.{read_vbr_only, vbr_word_only}
use Rattle.bitstream_io.proofs.WordLemmas.{half, number-lt, word-number}
use Rattle.bitstream_io.proofs.WriteLemmas.{unsigned-fits, signed-accepts}
use Rattle.bitfields_core.specs.declared.fault.Reason.{Reason}
use Rattle.bitfields_core.specs.declared.fault.Reason.TheVariants.{ConstantDiffers, PaddingNotZero}
use Rattle.bitfields_core.specs.declared.field.Field.{Field}
use Rattle.bitfields_core.specs.declared.field.Field.TheVariants.{Unsigned, Signed, Unary, Variable, Lenient, SignedVariable, Bytes, Constant, Padding, Align}
use Rattle.bitfields_core.specs.declared.field.GroupSize.{GroupSize}
use Rattle.bitfields_core.specs.declared.field.GroupSize.TheVariants.{Four, Eight}
use Rattle.bitfields_core.specs.declared.field_value.FieldValue.{FieldValue}
use Rattle.bitfields_core.specs.declared.field_value.FieldValue.TheVariants as Value
use Rattle.bitfields_core.specs.Layout.{IsField, group_bits}
use Rattle.bitfields_core.specs.Packing.{field_write}
use Rattle.bitfields_core.specs.Repacking.{HasOneWord, are_zeros, boundary_decoder, exact_read, if_zeros, zeros_decoder}
use Rattle.bitfields_core.specs.Value.{value_count, value_list, FitsField}
use Rattle.bitfields_core.proofs.FieldCalls.{Trips, trips, two_bits}
use Rattle.bitfields_core.proofs.ZeroLemmas.{are_zeros-only, are_zeros-replicate}
use Rattle.bitstream_io.proofs.CheckedLemmas.{signed_from-fits}

-- ---- what an answer tells of a call

-- an answer that is made of a call's answer
made_of : {A B : Type 0} (x : Prefix A) (f : A → B) (n : ℕ) (r : B)
    → prefix_then x (λ m a. Done 0 (Ok (f a))) ≡ Done n (Ok r) → (a : A) × (x ≡ Done n (Ok a)) × (f a ≡ r)
made_of Incomplete f n r h = absurd (cc)
made_of (Done m (Ok a)) f n r h =
    let size : m + 0 ≡ n = cc in
    (a, ap (λ (k : ℕ). Done k (Ok a)) (omega (arith, size)), cc)
made_of (Done m (Err e)) f n r h = absurd (cc)

made_from : {A B : Type 0} (e : Decoder A) (f : A → B) (p n : ℕ) (b : List Bool) (r : B)
    → (and_then e (λ v. pure (f v))).reads p b ≡ Done n (Ok r)
    → (a : A) × (e.reads p b ≡ Done n (Ok a)) × (f a ≡ r)
unfolding and_then
made_from e f p n b r h = made_of (e.reads p b) f n r h

-- the word of n bits that a call took
word_taken : {A : Type 0} (n m : ℕ) (g : List Bool → Result A Error) (a : A) (b : List Bool)
    → word_prefix n g b ≡ Done m (Ok a)
    → (m ≤ length b) × (length (take m b) ≡ n) × (g (take m b) ≡ Ok a)
word_taken n m g a b prefix = elim (leb_tells n (length b)) [
  | inl some ↦
      let same : Done n (g (take n b)) ≡ Done m (Ok a) = rw some.0 at prefix in
      let size : n ≡ m = cc in
      let there : n ≤ length b = some.1 in
      let answer : g (take n b) ≡ Ok a = cc in (
        omega (arith, size),
        ap (λ (k : ℕ). length (take k b)) (sym size) ∙ length-take-le n b there,
        ap (λ (k : ℕ). g (take k b)) (sym size) ∙ answer,
      )
  | inr none ↦ let same : Incomplete ≡ Done m (Ok a) = rw none.0 at prefix in absurd (cc)
]

-- ---- the word of a field

-- What a call tells of a field whose value it answered: the bits that it took were there, and the value fits the field,
-- whatever values stand behind it. If each value of the field has one word, these bits are its word.
pub record Told (o : Order) (f : Field) (at n : ℕ) (b : List Bool) (value : Option FieldValue) : Type 0 where
  pub there : n ≤ length b
  pub fits : (us : List FieldValue) → FitsField f (value_list value ++ us)
  pub others : (us : List FieldValue) → drop (value_count f) (value_list value ++ us) ≡ us
  pub written : HasOneWord f → (us : List FieldValue) → field_write o f (value_list value ++ us) at ≡ Ok (take n b)

-- the word that was taken for an unsigned number
number_prefix : (o : Order) (size n at m : ℕ) (b : List Bool) (u : ℕ) → n ≤ size
    → (unsigned_decoder o size n).reads at b ≡ Done m (Ok u)
    → word_prefix n (λ w. Ok (number o w)) b ≡ Done m (Ok u)
number_prefix o size n at m b u le h = rw (unsigned-takes o size n le) at h

-- a number of n bits has one word
one_number : (o : Order) (n : ℕ) (w : List Bool) → length w ≡ n
    → (number o w < 2 ^ n) × (word o n (number o w) ≡ w)
one_number o n w size = (
  subst (λ (k : ℕ). number o w < 2 ^ k) size (number-lt o w),
  ap (λ (k : ℕ). word o k (number o w)) (sym size) ∙ word-number o w,
)

residue-signed_from : (n k : ℕ) → k < 2 ^ n → residue n (signed_from n k) ≡ k
residue-signed_from n k small = elim (cases_lt k (2 ^ (n - 1))) [
  | inl low ↦ rw (lt-ltb k (2 ^ (n - 1)) low) (mod-eq_of_lt small)
  | inr high ↦
      let less : 2 ^ n - 1 - k < 2 ^ n = omega arith in
      rw (le-ltb k (2 ^ (n - 1)) high, mod-eq_of_lt less) (omega arith)
]

one_signed : (o : Order) (n : ℕ) (w : List Bool) → 1 ≤ n → length w ≡ n
    → FitsSignedBits n (signed_number o w) × (signed_word o n (signed_number o w) ≡ w)
one_signed o n w some size =
    let one = one_number o n w size in
    subst (λ (k : ℕ). FitsSignedBits n (signed_from k (number o w))
    × (signed_word o n (signed_from k (number o w)) ≡ w)) (sym size)
    (signed_from-fits n (number o w) some one.0, ap (word o n) (residue-signed_from n (number o w) one.0) ∙ one.1)

-- a number of 64 bits, as a signed one
zag-fits : (u : ℕ) → u < 2 ^ 64 → FitsSignedBits 64 (zag u)
zag-fits u small =
    let whole : 2 ^ 64 ≡ 2 * 2 ^ 63 = refl in
    let low : u / 2 < 2 ^ 63 = omega (arith, whole) in
    elim (cases_eq (u % 2) 0) [
      | inl even ↦ rw (eq-eqb (u % 2) 0 even) low
      | inr odd ↦ rw (ne_eqb (u % 2) 0 odd) low
    ]

-- bytes are below 256
are_bytes : (o : Order) (n : ℕ) (w : List Bool) → length w ≡ 8 * n → AllByRecursion (λ x. x < 256) (bytes_of o n w)
unfolding bytes_of
are_bytes o zero w size = tt
are_bytes o (suc n) w size =
    let first : length (take 8 w) ≡ 8 = length-take-le 8 w (omega arith) in (
      (one_number o 8 (take 8 w) first).0,
      are_bytes o n (drop 8 w) (omega (arith, length-drop 8 w)),
    )

-- a test held, if its answer is no value and not a reason
if_none : (yes : Bool) (why : Reason) (v : Option FieldValue)
    → (let r : Result (Option FieldValue) Reason = if yes then Ok None else Err why in r) ≡ Ok v
    → (yes ≡ true) × (None ≡ v)
if_none true why v h = (refl, cc)
if_none false why v h = absurd (cc)

module _ (o : Order) (at m : ℕ) (b : List Bool) (v : Option FieldValue) where
  -- a value that fits the field and whose word the bits are
  tells : (f : Field) {y : Option FieldValue} → y ≡ v → m ≤ length b
      → ((us : List FieldValue) → FitsField f (value_list y ++ us) × (drop (value_count f) (value_list y ++ us) ≡ us))
      → (HasOneWord f → (us : List FieldValue) → field_write o f (value_list y ++ us) at ≡ Ok (take m b))
      → Told o f at m b v
  tells f is there first writes =
      subst (Told o f at m b) is (record {
        there = there;
        fits = λ us. (first us).0;
        others = λ us. (first us).1;
        written = writes;
      })

  told_unsigned : (n : ℕ) → IsField (Unsigned n) → (exact_read o (Unsigned n)).reads at b ≡ Done m (Ok (Ok v))
      → Told o (Unsigned n) at m b v
  told_unsigned n i h =
      let made = made_from (unsigned_decoder o 128 n) (λ u. Ok (Some (Value.Unsigned u))) at m b (Ok v) h in
      let u = made.0 in
      let prefix = number_prefix o 128 n at m b u i.1 made.1 in
      let t = word_taken n m (λ w. Ok (number o w)) u b prefix in
      let is : number o (take m b) ≡ u = (let answer = t.2 in cc) in
      let same : Some (Value.Unsigned u) ≡ v = (let answer = made.2 in cc) in
      let one = subst (λ (k : ℕ). (k < 2 ^ n) × (word o n k ≡ take m b)) is (one_number o n (take m b) t.1) in
      tells (Unsigned n) same t.0 (λ us. (one.0, refl)) (λ _ us. unsigned-fits o 128 n u at i.1 one.0 ∙ ap Ok one.1)

  told_signed : (n : ℕ) → IsField (Signed n) → (exact_read o (Signed n)).reads at b ≡ Done m (Ok (Ok v))
      → Told o (Signed n) at m b v
  told_signed n i h =
      let made = made_from (signed_decoder o 128 n) (λ x. Ok (Some (Value.Signed x))) at m b (Ok v) h in
      let x = made.0 in
      let prefix : word_prefix n (λ w. Ok (signed_number o w)) b ≡ Done m (Ok x) =
      sym ((signed-word o 128 n i.0 i.1).reads at b) ∙ made.1 in
      let t = word_taken n m (λ w. Ok (signed_number o w)) x b prefix in
      let is : signed_number o (take m b) ≡ x = (let answer = t.2 in cc) in
      let same : Some (Value.Signed x) ≡ v = (let answer = made.2 in cc) in
      let one = subst (λ (y : ℤ). FitsSignedBits n y × (signed_word o n y ≡ take m b)) is
      (one_signed o n (take m b) i.0 t.1) in
      tells (Signed n) same t.0 (λ us. (one.0, refl))
      (λ _ us. signed-accepts o 128 n x at i.0 (i.1, one.0) ∙ ap Ok one.1)

  told_unary : (stop : Bool) → (exact_read o (Unary stop)).reads at b ≡ Done m (Ok (Ok v))
      → Told o (Unary stop) at m b v
  unfolding unary_decoder
  told_unary stop h =
      let made = made_from (unary_decoder stop) (λ u. Ok (Some (Value.Unsigned u))) at m b (Ok v) h in
      let t = unary_read stop b m made.0 made.1 in
      let same : Some (Value.Unsigned made.0) ≡ v = (let answer = made.2 in cc) in
      tells (Unary stop) same t.1 (λ us. (t.0, refl)) (λ _ us. ap Ok (sym t.2))

  -- a number in groups: it fits 64 bits, and has one word if two groups or more do not end in 0
  told_groups : (strict : Bool) (size : GroupSize) (u : ℕ)
      → (groups_decoder strict o (group_bits size) 64 (2 ^ 64)).reads at b ≡ Done m (Ok u)
      → (m ≤ length b) × (u < 2 ^ 64) × (strict ≡ true → vbr_word o (group_bits size) u ≡ take m b)
  unfolding groups_decoder
  told_groups strict size u h =
      let field = group_bits size in
      let wide = two_bits size in
      let some : 0 < field = omega (arith, wide) in
      let t = read_vbr_only o field some strict 64 (2 ^ 64) b m u wide h in (
        t.1,
        t.0.3,
        λ is. sym (vbr_word_only o field some t.0.0 (take m b) u wide
            (subst (λ (s : Bool). IsGroups s o field t.0.0 (take m b) u) is t.0.1)),
      )

  told_variable : (size : GroupSize) → (exact_read o (Variable size)).reads at b ≡ Done m (Ok (Ok v))
      → Told o (Variable size) at m b v
  told_variable size h =
      let made = made_from (vbr_decoder o (group_bits size) 64 (2 ^ 64)) (λ u. Ok (Some (Value.Unsigned u))) at m b
      (Ok v) h in
      let t = told_groups true size made.0 made.1 in
      let same : Some (Value.Unsigned made.0) ≡ v = (let answer = made.2 in cc) in
      tells (Variable size) same t.0 (λ us. (t.1, refl)) (λ _ us. ap Ok (t.2 refl))

  told_lenient : (size : GroupSize) → (exact_read o (Lenient size)).reads at b ≡ Done m (Ok (Ok v))
      → Told o (Lenient size) at m b v
  told_lenient size h =
      let made = made_from (any_vbr_decoder o (group_bits size) 64 (2 ^ 64)) (λ u. Ok (Some (Value.Unsigned u))) at m b
      (Ok v) h in
      let t = told_groups false size made.0 made.1 in
      let same : Some (Value.Unsigned made.0) ≡ v = (let answer = made.2 in cc) in
      tells (Lenient size) same t.0 (λ us. (t.1, refl)) (λ one us. absurd one)

  told_signed_variable : (size : GroupSize) → (exact_read o (SignedVariable size)).reads at b ≡ Done m (Ok (Ok v))
      → Told o (SignedVariable size) at m b v
  unfolding signed_groups_decoder
  told_signed_variable size h =
      let field = group_bits size in
      let made = made_from (signed_vbr_decoder o field 64) (λ x. Ok (Some (Value.Signed x))) at m b (Ok v) h in
      let zigzag = made_from (vbr_decoder o field 64 (2 ^ 64)) zag at m b made.0 made.1 in
      let t = told_groups true size zigzag.0 zigzag.1 in
      let same : Some (Value.Signed (zag zigzag.0)) ≡ v = (let answer = made.2 in let is = zigzag.2 in cc) in
      tells (SignedVariable size) same t.0 (λ us. (zag-fits zigzag.0 t.1, refl))
      (λ _ us. ap (λ (u : ℕ). Ok (vbr_word o field u)) (zig-zag zigzag.0) ∙ ap Ok (t.2 refl))

  told_bytes : (n : ℕ) → (exact_read o (Bytes n)).reads at b ≡ Done m (Ok (Ok v)) → Told o (Bytes n) at m b v
  unfolding bytes_decoder
  told_bytes n h =
      let made = made_from (bytes_decoder o n) (λ xs. Ok (Some (Value.Bytes xs))) at m b (Ok v) h in
      let t = word_taken (8 * n) m (λ w. Ok (bytes_of o n w)) made.0 b made.1 in
      let w = take m b in
      let same : Some (Value.Bytes (bytes_of o n w)) ≡ v = (let answer = made.2 in let is = t.2 in cc) in
      let small = All-from_recursion (λ x. x < 256) (bytes_of o n w) (are_bytes o n w t.1) in
      tells (Bytes n) same t.0 (λ us. ((length-bytes_of o n w, small), refl))
      (λ _ us. ap Ok (bits-bytes_of o n w t.1))

  told_constant : (n c : ℕ) → IsField (Constant n c) → (exact_read o (Constant n c)).reads at b ≡ Done m (Ok (Ok v))
      → Told o (Constant n c) at m b v
  told_constant n c i h =
      let made = made_from (unsigned_decoder o 32 n) (λ u. if u == c then Ok None else Err ConstantDiffers) at m b (Ok v)
      h in
      let u = made.0 in
      let prefix = number_prefix o 32 n at m b u i.1 made.1 in
      let t = word_taken n m (λ w. Ok (number o w)) u b prefix in
      let is : number o (take m b) ≡ u = (let answer = t.2 in cc) in
      let none = if_none (u == c) ConstantDiffers v made.2 in
      let one : word o n c ≡ take m b =
      ap (word o n) (sym (is ∙ eqb-true u c none.0)) ∙ (one_number o n (take m b) t.1).1 in
      tells (Constant n c) none.1 t.0 (λ us. (tt, refl)) (λ _ us. unsigned-fits o 32 n c at i.1 i.2 ∙ ap Ok one)

  -- n bits that are all 0
  told_zeros : (n : ℕ) (all : Bool) → word_prefix n (λ w. Ok (are_zeros w)) b ≡ Done m (Ok all)
      → if_zeros all ≡ Ok v
      → (m ≤ length b) × (m ≡ n) × (None ≡ v) × (replicate n false ≡ take m b)
  told_zeros n all prefix is =
      let t = word_taken n m (λ w. Ok (are_zeros w)) all b prefix in
      let none = if_none all PaddingNotZero v is in
      let zeros : are_zeros (take m b) ≡ true = (let answer = t.2 in let yes = none.0 in cc) in (
        t.0,
        sym (length-take-le m b t.0) ∙ t.1,
        none.1,
        sym (are_zeros-only (take m b) zeros ∙ ap (λ (k : ℕ). replicate k false) t.1),
      )

  told_padding : (n : ℕ) → (exact_read o (Padding n)).reads at b ≡ Done m (Ok (Ok v)) → Told o (Padding n) at m b v
  unfolding zeros_decoder
  told_padding n h =
      let made = made_from (zeros_decoder n) if_zeros at m b (Ok v) h in
      let t = told_zeros n made.0 made.1 made.2 in
      tells (Padding n) t.2 t.0 (λ us. (tt, refl)) (λ _ us. ap Ok t.3)

  align_taken : (exact_read o Align).reads at b ≡ Done m (Ok (Ok v))
      → (m ≤ length b) × (m ≡ to_boundary at) × (None ≡ v) × (replicate (to_boundary at) false ≡ take m b)
  unfolding boundary_decoder
  align_taken h =
      let made = made_from boundary_decoder if_zeros at m b (Ok v) h in
      told_zeros (to_boundary at) made.0 made.1 made.2

  -- the bits up to a boundary are as many as there are to it
  pub align_size : (exact_read o Align).reads at b ≡ Done m (Ok (Ok v)) → m ≡ to_boundary at
  align_size h = (align_taken h).1

  told_align : (exact_read o Align).reads at b ≡ Done m (Ok (Ok v)) → Told o Align at m b v
  told_align h =
      let t = align_taken h in
      tells Align t.2 t.0 (λ us. (tt, refl)) (λ _ us. ap Ok t.3)

-- what a field's call tells if it answers a value, or that there is none
pub told : (o : Order) (f : Field) (at n : ℕ) (b : List Bool) (v : Option FieldValue) → IsField f
    → (exact_read o f).reads at b ≡ Done n (Ok (Ok v)) → Told o f at n b v
told o (Unsigned n) at m b v i h = told_unsigned o at m b v n i h
told o (Signed n) at m b v i h = told_signed o at m b v n i h
told o (Unary stop) at m b v i h = told_unary o at m b v stop h
told o (Variable size) at m b v i h = told_variable o at m b v size h
told o (Lenient size) at m b v i h = told_lenient o at m b v size h
told o (SignedVariable size) at m b v i h = told_signed_variable o at m b v size h
told o (Bytes n) at m b v i h = told_bytes o at m b v n h
told o (Constant n c) at m b v i h = told_constant o at m b v n c i h
told o (Padding n) at m b v i h = told_padding o at m b v n h
told o Align at m b v i h = told_align o at m b v h

-- ---- a field's word, as it is read

-- zeros, as padding is read
zeros_back : (e : Decoder Bool) (at n : ℕ) (more : List Bool)
    → ((b : List Bool) → e.reads at b ≡ word_prefix n (λ w. Ok (are_zeros w)) b)
    → (and_then e (λ all. pure (if_zeros all))).reads at (replicate n false ++ more)
    ≡ Done (length (replicate n false)) (Ok (Ok None))
zeros_back e at n more reads =
    let w = replicate n false in
    let size : length w ≡ n = length-replicate n false in
    let first : e.reads at (w ++ more) ≡ Done (length w) (Ok true) =
    reads (w ++ more) ∙ word_prefix-some n (λ u. Ok (are_zeros u)) w more size
    ∙ ap (λ (z : Bool). Done n (Ok z)) (are_zeros-replicate n) ∙ ap (λ (k : ℕ). Done k (Ok true)) (sym size) in
    and_then-ok e (λ all. pure (if_zeros all)) at (w ++ more) (length w) true first
    ∙ ap (λ (k : ℕ). Done k (Ok (Ok None))) (add-zero (length w))

padding_back : (o : Order) (n at : ℕ) (more : List Bool)
    → (exact_read o (Padding n)).reads at (replicate n false ++ more)
    ≡ Done (length (replicate n false)) (Ok (Ok None))
unfolding zeros_decoder
padding_back o n at more = zeros_back (zeros_decoder n) at n more (λ b. refl)

align_back : (o : Order) (at : ℕ) (more : List Bool)
    → (exact_read o Align).reads at (replicate (to_boundary at) false ++ more)
    ≡ Done (length (replicate (to_boundary at) false)) (Ok (Ok None))
unfolding boundary_decoder
align_back o at more = zeros_back boundary_decoder at (to_boundary at) more (λ b. refl)

-- the word that a field writes of a value that fits is read as this value
pub exact_trips : (o : Order) (f : Field) (vs : List FieldValue) (at : ℕ) → IsField f → FitsField f vs
    → Trips (exact_read o f) o f vs at
exact_trips o (Padding n) vs at i h = record {
  word = replicate n false;
  value = None;
  writes = refl;
  reads = λ more. padding_back o n at more;
  first = refl;
}
exact_trips o Align vs at i h = record {
  word = replicate (to_boundary at) false;
  value = None;
  writes = refl;
  reads = λ more. align_back o at more;
  first = refl;
}
exact_trips o f vs at i h = trips o f vs at i h

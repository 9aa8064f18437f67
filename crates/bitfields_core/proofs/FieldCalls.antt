-- The calls of fields, one behind the other.
use Rattle.std.specs.Prelude.{ℤ, Bool, ◌==◌, ◌≢◌, if◌then◌else◌, take, drop, replicate, false}
use Rattle.std.specs.List.{AllByRecursion}
use Rattle.std.proofs.Common.{◌≡◌, ℕ, true, ◌+◌, ◌<◌, ◌≤◌, ◌^◌, List, [], ◌∷◌, ◌++◌, length, Option, Some, None, Result, Ok, Err, refl, sym, ap, subst, ◌∙◌, arith, inl, inr, append_assoc, length-append, append-nil, add-zero, eq-eqb, lit<, All}
use Rattle.std.proofs.Math.Nat.{mod-eq_of_lt}
use Rattle.std.proofs.Math.Seq.{drop-append_seam, take-append_seam}
use Rattle.std.proofs.lemmas.Bool.{cases_lt, le-leb, ne_eqb}
use Rattle.std.proofs.lemmas.List.{length-replicate, length-drop}
use Rattle.bitstream_io.proofs.UnaryLemmas.{read_unary-unary}
use Rattle.bitstream_io.proofs.VbrLemmas.{read_vbr-IsAccepted, vbr_word_accepted, zig-lt}
use Rattle.bitstream_io.specs.Unary.{unary}
use Rattle.bitstream_io.specs.Vbr.{vbr_word}
use Rattle.bitstream_io.specs.Word.{Order, word, number, signed_word, signed_number, FitsSignedBits, bits, zig, zag}
use Rattle.bitstream_io.proofs.BackLemmas.{signed-word}
use Rattle.bitstream_io.proofs.CallsBack.{bytes-read}
use Rattle.bitstream_io.proofs.SignedLemmas.{signed_number-signed_word, zag-zig}
use Rattle.bitstream_io.proofs.WordLemmas.{length-word, number-word}
use Rattle.bitstream_io.specs.Error.{Error}
use Rattle.bitstream_io.specs.Error.TheVariants as errors
use Rattle.bitstream_io.specs.Codec.{Decoder, Encoder, Incomplete, Done, and_then, pure, word_prefix}
use Rattle.bitstream_io.specs.Alignment.{to_boundary}
use Rattle.bitstream_io.specs.ReadTable.{unsigned_decoder, signed_decoder, unary_decoder, groups_decoder, vbr_decoder, any_vbr_decoder, signed_groups_decoder, signed_vbr_decoder, bytes_decoder, skip_decoder, align_decoder}
use Rattle.bitstream_io.specs.Sequence.{accepted_bits, write_sequence, write_refusals}
use Rattle.bitstream_io.specs.WriteTable.{align}
use Rattle.bitstream_io.proofs.CodecLemmas.{map_takes, and_then-ok, and_then-none, word_prefix-some, word_prefix-none}
use Rattle.bitstream_io.proofs.TableLemmas.{unsigned-takes}
use Rattle.bitstream_io.proofs.WriteLemmas.{unsigned-fits, signed-accepts}
use Rattle.bitfields_core.specs.declared.fault.Reason.{Reason}
use Rattle.bitfields_core.specs.declared.fault.Reason.TheVariants.{BitsEnded, ConstantDiffers}
use Rattle.bitfields_core.specs.declared.field.Field.{Field}
use Rattle.bitfields_core.specs.declared.field.Field.TheVariants.{Unsigned, Signed, Unary, Variable, Lenient, SignedVariable, Bytes, Constant, Padding, Align}
use Rattle.bitfields_core.specs.declared.field.GroupSize.{GroupSize}
use Rattle.bitfields_core.specs.declared.field.GroupSize.TheVariants.{Four, Eight}
use Rattle.bitfields_core.specs.declared.field_value.FieldValue.{FieldValue}
use Rattle.bitfields_core.specs.declared.field_value.FieldValue.TheVariants as Value
use Rattle.bitfields_core.specs.declared.field_value.ValueKind.{ValueKind}
use Rattle.bitfields_core.specs.declared.field_value.ValueKind.TheVariants as Kind
use Rattle.bitfields_core.specs.Fault.{fault}
use Rattle.bitfields_core.specs.Layout.{IsField, group_bits}
use Rattle.bitfields_core.specs.Packing.{field_word, field_write, field_writes, packed_bits}
use Rattle.bitfields_core.specs.Unpacking.{FieldCalls, Unpacked, Unpacks, Stops, field_read, read_reason, says_by, unpack_bits, values_and}
use Rattle.bitfields_core.specs.Value.{kind_count, value_count, value_kind, value_list, first_unsigned, first_signed, first_bytes, Fit, FitsField, FitsKind}

-- ---- a field's read call

pub unsigned-reads : (o : Order) (n p : ℕ) (b : List Bool) → n ≤ 128 → (field_read o (Unsigned n)).reads p b
    ≡ word_prefix n (λ w. Ok (Ok (Some (Value.Unsigned (number o w))))) b
unsigned-reads o n p b i =
    rw (unsigned-takes o 128 n i) ((map_takes n (number o) (λ v. Ok (Some (Value.Unsigned v)))
    (λ w. Ok (Ok (Some (Value.Unsigned (number o w))))) (λ w len. refl)).reads p b)

pub align-reads : (o : Order) (p : ℕ) (b : List Bool) → (field_read o Align).reads p b
    ≡ word_prefix (to_boundary p) (λ _. Ok (Ok None)) b
unfolding align_decoder
align-reads o p b = elim (cases_lt (length b) (to_boundary p)) [
  | inl few ↦ and_then-none align_decoder (λ _. pure (Ok None)) p b (word_prefix-none (to_boundary p) (λ _. Ok tt) b few)
      ∙ sym (word_prefix-none (to_boundary p) (λ _. Ok (Ok None)) b few)
  | inr enough ↦
      let yes = le-leb (to_boundary p) (length b) enough in
      let first : align_decoder.reads p b ≡ Done (to_boundary p) (Ok tt) = rw yes refl in
      let same : Done (to_boundary p + 0) (Ok (Ok None)) ≡ word_prefix (to_boundary p) (λ _. Ok (Ok None)) b =
      rw (yes, add-zero) refl in
      and_then-ok align_decoder (λ _. pure (Ok None)) p b (to_boundary p) tt first ∙ same
]

-- what a constant answers of its word
abbrev constant_of : Order → ℕ → List Bool → Result (Result (Option FieldValue) Reason) Error
constant_of o v w = Ok (if number o w == v then Ok None else Err ConstantDiffers)

constant-reads : (o : Order) (n v p : ℕ) (b : List Bool) → n ≤ 32 → (field_read o (Constant n v)).reads p b
    ≡ word_prefix n (constant_of o v) b
constant-reads o n v p b i =
    rw (unsigned-takes o 32 n i) ((map_takes n (number o) (λ u. if u == v then Ok None else Err ConstantDiffers)
    (constant_of o v) (λ w len. refl)).reads p b)

-- ---- the first field of some, by its read call

module _ (calls : FieldCalls) (o : Order) (k : ℕ) (f : Field) (fs : List Field) (at : ℕ) where
  pub says-takes : (n : ℕ) (b : List Bool) (v : Option FieldValue) → (calls o f).reads at b ≡ Done n (Ok (Ok v))
      → says_by calls o k (f ∷ fs) at b ≡ values_and (value_list v) (says_by calls o (k + 1) fs (at + n) (drop n b))
  says-takes n b v e = rw e refl

  pub says-told : (n : ℕ) (b : List Bool) (why : Reason) → (calls o f).reads at b ≡ Done n (Ok (Err why))
      → says_by calls o k (f ∷ fs) at b ≡ Stops (fault k why)
  says-told n b why e = rw e refl

  pub says-refused : (n : ℕ) (b : List Bool) (x : Error) → (calls o f).reads at b ≡ Done n (Err x)
      → says_by calls o k (f ∷ fs) at b ≡ Stops (fault k (read_reason x))
  says-refused n b errors.RunTooLong e = rw e refl
  says-refused n b x e = rw e refl

  pub says-short : (b : List Bool) → (calls o f).reads at b ≡ Incomplete
      → says_by calls o k (f ∷ fs) at b ≡ Stops (fault k BitsEnded)
  says-short b e = rw e refl

  -- a word that the first field takes, and what follows it
  pub says-first : (w rest : List Bool) (v : Option FieldValue)
      → (calls o f).reads at (w ++ rest) ≡ Done (length w) (Ok (Ok v))
      → says_by calls o k (f ∷ fs) at (w ++ rest)
      ≡ values_and (value_list v) (says_by calls o (k + 1) fs (at + length w) rest)
  says-first w rest v e =
      says-takes (length w) (w ++ rest) v e
      ∙ ap (λ (b : List Bool). values_and (value_list v) (says_by calls o (k + 1) fs (at + length w) b))
      (drop-append_seam w rest)

-- ---- what a field writes, as it is read

-- the word that a field writes of the first of some values, and that a read call reads as this value
pub record Trips (call : Decoder (Result (Option FieldValue) Reason)) (o : Order) (f : Field) (vs : List FieldValue)
    (at : ℕ) : Type 0 where
  pub word : List Bool
  pub value : Option FieldValue
  pub writes : field_write o f vs at ≡ Ok word
  pub reads : (more : List Bool) → call.reads at (word ++ more) ≡ Done (length word) (Ok (Ok value))
  pub first : vs ≡ value_list value ++ drop (value_count f) vs

-- the number that stands first fits, and stands first
pub unsigned_first : (n : ℕ) (vs : List FieldValue) → FitsKind (Kind.Unsigned n) vs → (first_unsigned vs < 2 ^ n)
    × (vs ≡ Value.Unsigned (first_unsigned vs) ∷ drop 1 vs)
unsigned_first n [] h = absurd h
unsigned_first n (Value.Unsigned v ∷ vs) h = (h, refl)
unsigned_first n (Value.Signed x ∷ vs) h = absurd h
unsigned_first n (Value.Bytes bytes ∷ vs) h = absurd h

pub signed_first : (n : ℕ) (vs : List FieldValue) → FitsKind (Kind.Signed n) vs → FitsSignedBits n (first_signed vs)
    × (vs ≡ Value.Signed (first_signed vs) ∷ drop 1 vs)
signed_first n [] h = absurd h
signed_first n (Value.Unsigned v ∷ vs) h = absurd h
signed_first n (Value.Signed x ∷ vs) h = (h, refl)
signed_first n (Value.Bytes bytes ∷ vs) h = absurd h

pub bytes_first : (n : ℕ) (vs : List FieldValue) → FitsKind (Kind.Bytes n) vs → (length (first_bytes vs) ≡ n)
    × All (λ b. b < 256) (first_bytes vs) × (vs ≡ Value.Bytes (first_bytes vs) ∷ drop 1 vs)
bytes_first n [] h = absurd h
bytes_first n (Value.Unsigned v ∷ vs) h = absurd h
bytes_first n (Value.Signed x ∷ vs) h = absurd h
bytes_first n (Value.Bytes bytes ∷ vs) h = (h.0, h.1, refl)

-- a call and what is made of its answer
made : {A B : Type 0} (e : Decoder A) (f : A → B) (p n : ℕ) (b : List Bool) (a : A) → e.reads p b ≡ Done n (Ok a)
    → (and_then e (λ v. pure (f v))).reads p b ≡ Done n (Ok (f a))
made e f p n b a h = and_then-ok e (λ v. pure (f v)) p b n a h ∙ ap (λ (m : ℕ). Done m (Ok (f a))) (add-zero n)

-- the word of a field's call, which is read as the field's value
trip : {A : Type 0} (o : Order) (f : Field) (vs : List FieldValue) (at : ℕ) (e : Decoder A) (make : A
    → FieldValue) (a : A) (w : List Bool)
    → field_read o f ≡ and_then e (λ v. pure (Ok (Some (make v)))) → field_write o f vs at ≡ Ok w
    → ((more : List Bool) → e.reads at (w ++ more) ≡ Done (length w) (Ok a))
    → vs ≡ make a ∷ drop (value_count f) vs → Trips (field_read o f) o f vs at
trip o f vs at e make a w is writes reads first = record {
  word = w;
  value = Some (make a);
  writes = writes;
  reads = λ more. rw is (made e (λ v. Ok (Some (make v))) at (length w) (w ++ more) a (reads more));
  first = first;
}

unsigned-answers : (o : Order) (size n v p : ℕ) (more : List Bool) → n ≤ size → v < 2 ^ n
    → (unsigned_decoder o size n).reads p (word o n v ++ more) ≡ Done (length (word o n v)) (Ok v)
unsigned-answers o size n v p more le h =
    rw (unsigned-takes o size n le) (word_prefix-some n (λ w. Ok (number o w)) (word o n v) more (length-word o n v))
    ∙ ap (λ (u : ℕ). Done n (Ok u)) (number-word o n v ∙ mod-eq_of_lt h)
    ∙ ap (λ (m : ℕ). Done m (Ok v)) (sym (length-word o n v))

signed-answers : (o : Order) (n : ℕ) (x : ℤ) (p : ℕ) (more : List Bool) → 1 ≤ n → n ≤ 128 → FitsSignedBits n x
    → (signed_decoder o 128 n).reads p (signed_word o n x ++ more) ≡ Done (length (signed_word o n x)) (Ok x)
signed-answers o n x p more some le h =
    (signed-word o 128 n some le).reads p (signed_word o n x ++ more)
    ∙ word_prefix-some n (λ w. Ok (signed_number o w)) (signed_word o n x) more (length-word o n _)
    ∙ ap (λ (y : ℤ). Done n (Ok y)) (signed_number-signed_word o n x some h)
    ∙ ap (λ (m : ℕ). Done m (Ok x)) (sym (length-word o n _))

unary-answers : (stop : Bool) (v p : ℕ) (more : List Bool) → v < 2 ^ 32
    → (unary_decoder stop).reads p (unary stop v ++ more) ≡ Done (length (unary stop v)) (Ok v)
unfolding unary_decoder
unary-answers stop v p more h = read_unary-unary stop v more h

bytes-answers : (o : Order) (n : ℕ) (bytes : List ℕ) (p : ℕ) (more : List Bool) → length bytes ≡ n
    → All (λ b. b < 256) bytes
    → (bytes_decoder o n).reads p (bits o bytes ++ more) ≡ Done (length (bits o bytes)) (Ok bytes)
bytes-answers o n bytes p more size fit =
    subst (λ (m : ℕ). (bytes_decoder o m).reads p (bits o bytes ++ more) ≡ Done (length (bits o bytes)) (Ok bytes)) size
    (subst (λ (w : List Bool). (bytes_decoder o (length bytes)).reads p (w ++ more) ≡ Done (length w) (Ok bytes))
    (append-nil (bits o bytes)) (bytes-read o bytes fit 0 p more))

skip-answers : (n p : ℕ) (more : List Bool) → (skip_decoder n).reads p (replicate n false ++ more)
    ≡ Done (length (replicate n false)) (Ok tt)
unfolding skip_decoder
skip-answers n p more =
    word_prefix-some n (λ _. Ok tt) (replicate n false) more (length-replicate n false)
    ∙ ap (λ (m : ℕ). Done m (Ok tt)) (sym (length-replicate n false))

pub two_bits : (size : GroupSize) → 2 ≤ group_bits size
two_bits Four = omega arith
two_bits Eight = omega arith

groups-answers : (strict : Bool) (o : Order) (field v p : ℕ) (more : List Bool) → 2 ≤ field → v < 2 ^ 64
    → (groups_decoder strict o field 64 (2 ^ 64)).reads p (vbr_word o field v ++ more)
    ≡ Done (length (vbr_word o field v)) (Ok v)
unfolding groups_decoder
groups-answers strict o field v p more wide h =
    read_vbr-IsAccepted o field (omega arith) strict 64 (2 ^ 64) (vbr_word o field v) v more wide
    (vbr_word_accepted o field (omega arith) strict 64 (2 ^ 64) v wide (lit< tt) (omega arith) h)

signed_vbr-answers : (o : Order) (field : ℕ) (x : ℤ) (p : ℕ) (more : List Bool) → 2 ≤ field → FitsSignedBits 64 x
    → (signed_vbr_decoder o field 64).reads p (vbr_word o field (zig x) ++ more)
    ≡ Done (length (vbr_word o field (zig x))) (Ok x)
unfolding signed_groups_decoder
signed_vbr-answers o field x p more wide h =
    let w = vbr_word o field (zig x) in
    made (vbr_decoder o field 64 (2 ^ 64)) zag p (length w) (w
    ++ more) (zig x) (groups-answers true o field (zig x) p more wide (zig-lt 64 x (lit< tt) h))
    ∙ ap (λ (y : ℤ). Done (length w) (Ok y)) (zag-zig x)

pub trips : (o : Order) (f : Field) (vs : List FieldValue) (at : ℕ) → IsField f → FitsField f vs
    → Trips (field_read o f) o f vs at
trips o (Unsigned n) vs at i h =
    let v = first_unsigned vs in
    let p = unsigned_first n vs h in
    trip o (Unsigned n) vs at (unsigned_decoder o 128 n) Value.Unsigned v (word o n v) refl
    (unsigned-fits o 128 n v at i.1 p.0) (λ more. unsigned-answers o 128 n v at more i.1 p.0) p.1
trips o (Signed n) vs at i h =
    let x = first_signed vs in
    let p = signed_first n vs h in
    trip o (Signed n) vs at (signed_decoder o 128 n) Value.Signed x (signed_word o n x) refl
    (signed-accepts o 128 n x at i.0 (i.1, p.0)) (λ more. signed-answers o n x at more i.0 i.1 p.0) p.1
trips o (Unary stop) vs at i h =
    let v = first_unsigned vs in
    let p = unsigned_first 32 vs h in
    trip o (Unary stop) vs at (unary_decoder stop) Value.Unsigned v (unary stop v) refl refl
    (λ more. unary-answers stop v at more p.0) p.1
trips o (Variable size) vs at i h =
    let v = first_unsigned vs in
    let p = unsigned_first 64 vs h in
    trip o (Variable size) vs at (vbr_decoder o (group_bits size) 64 (2 ^ 64)) Value.Unsigned v
    (vbr_word o (group_bits size) v) refl refl (λ more. groups-answers true o (group_bits size) v at more
    (two_bits size) p.0) p.1
trips o (Lenient size) vs at i h =
    let v = first_unsigned vs in
    let p = unsigned_first 64 vs h in
    trip o (Lenient size) vs at (any_vbr_decoder o (group_bits size) 64 (2 ^ 64)) Value.Unsigned v
    (vbr_word o (group_bits size) v) refl refl (λ more. groups-answers false o (group_bits size) v at more
    (two_bits size) p.0) p.1
trips o (SignedVariable size) vs at i h =
    let x = first_signed vs in
    let p = signed_first 64 vs h in
    trip o (SignedVariable size) vs at (signed_vbr_decoder o (group_bits size) 64) Value.Signed x
    (vbr_word o (group_bits size) (zig x)) refl refl
    (λ more. signed_vbr-answers o (group_bits size) x at more (two_bits size) p.0) p.1
trips o (Bytes n) vs at i h =
    let bytes = first_bytes vs in
    let p = bytes_first n vs h in
    trip o (Bytes n) vs at (bytes_decoder o n) Value.Bytes bytes (bits o bytes) refl refl
    (λ more. bytes-answers o n bytes at more p.0 p.1) p.2
trips o (Constant n v) vs at i h =
    let w = word o n v in
    let none : Result (Option FieldValue) Reason = Ok None in
    let same : (if v == v then none else Err ConstantDiffers) ≡ none = rw (eq-eqb v v refl) refl in
    record {
      word = w;
      value = None;
      writes = unsigned-fits o 32 n v at i.1 i.2;
      reads = λ more. made (unsigned_decoder o 32 n) (λ u. if u == v then Ok None else Err ConstantDiffers) at
          (length w) (w ++ more) v (unsigned-answers o 32 n v at more i.1 i.2)
          ∙ ap (λ (r : Result (Option FieldValue) Reason). Done (length w) (Ok r)) same;
      first = refl;
    }
trips o (Padding n) vs at i h =
    let w = replicate n false in
    record {
      word = w;
      value = None;
      writes = refl;
      reads = λ more. made (skip_decoder n) (λ _. Ok None) at (length w) (w ++ more) tt (skip-answers n at more);
      first = refl;
    }
trips o Align vs at i h =
    let w = replicate (to_boundary at) false in
    let size : to_boundary at ≡ length w = sym (length-replicate (to_boundary at) false) in
    record {
      word = w;
      value = None;
      writes = refl;
      reads = λ more. align-reads o at (w ++ more) ∙ word_prefix-some (to_boundary at) (λ _. Ok (Ok None)) w more
          (sym size) ∙ ap (λ (m : ℕ). Done m (Ok (Ok None))) size;
      first = refl;
    }

-- an accepted call, and those that follow it
pub run-more : (encoder : Encoder) (encoders : List Encoder) (w : List Bool) (len : ℕ) → encoder len ≡ Ok w
    → write_sequence (encoder ∷ encoders) len ≡ w ++ write_sequence encoders (len + length w)
run-more encoder encoders w len e = rw e refl

pub refusals-more : (encoder : Encoder) (encoders : List Encoder) (w : List Bool) (len : ℕ) → encoder len ≡ Ok w
    → write_refusals (encoder ∷ encoders) len ≡ None ∷ write_refusals encoders (len + length w)
refusals-more encoder encoders w len e = rw e refl

-- values that fit are written without a refusal
pub refusals-none : (o : Order) (fields : List Field) (vs : List FieldValue) (at : ℕ) → AllByRecursion IsField fields
    → Fit fields vs
    → AllByRecursion (λ r. r ≡ None) (write_refusals (field_writes o fields vs ++ align ∷ []) at)
refusals-none o [] vs at i h = (refl, tt)
refusals-none o (f ∷ fs) vs at i h =
    let t = trips o f vs at i.0 h.0 in
    subst (λ rs. AllByRecursion (λ r. r ≡ None) rs) (sym
    (refusals-more (field_write o f vs) (field_writes o fs (drop (value_count f) vs)
    ++ align ∷ []) t.word at t.writes))
    (refl, refusals-none o fs (drop (value_count f) vs) (at + length t.word) i.1 h.1)

-- the values of the first field and those of the others
values_first : (vs ws : List FieldValue) (us : List FieldValue) (at : ℕ) → vs ≡ ws ++ us → values_and ws (Unpacks us at)
    ≡ Unpacks vs at
values_first vs ws us at e = ap (λ (xs : List FieldValue). Unpacks xs at) (sym e)

module _ (calls : FieldCalls) (back : (o : Order) (f : Field) (vs : List FieldValue) (at : ℕ) → IsField f
    → FitsField f vs → Trips (calls o f) o f vs at) where
  -- what is written of values that fit says these values, whatever follows
  pub says-written : (o : Order) (k : ℕ) (fields : List Field) (vs : List FieldValue) (at : ℕ) (rest : List Bool)
      → AllByRecursion IsField fields → Fit fields vs
      → says_by calls o k fields at (write_sequence (field_writes o fields vs) at ++ rest)
      ≡ Unpacks vs (at + length (write_sequence (field_writes o fields vs) at))
  says-written o k [] vs at rest i h =
      let place : at ≡ at + 0 = omega arith in
      ap (λ (p : ℕ). Unpacks [] p) place ∙ ap (λ (us : List FieldValue). Unpacks us (at + 0)) (sym h)
  says-written o k (f ∷ fs) vs at rest i h =
      let t = back o f vs at i.0 h.0 in
      let us = drop (value_count f) vs in
      let x = write_sequence (field_writes o fs us) (at + length t.word) in
      let written : write_sequence (field_writes o (f ∷ fs) vs) at ≡ t.word ++ x =
      run-more (field_write o f vs) (field_writes o fs us) t.word at t.writes in
      let place : at + length t.word + length x ≡ at + length (t.word ++ x) = rw length-append (omega arith) in
      let whole : says_by calls o k (f ∷ fs) at ((t.word ++ x) ++ rest) ≡ Unpacks vs (at + length (t.word ++ x)) =
      ap (λ (b : List Bool). says_by calls o k (f ∷ fs) at b) (append_assoc t.word x rest)
      ∙ says-first calls o k f fs at t.word (x ++ rest) t.value (t.reads (x ++ rest))
      ∙ ap (values_and (value_list t.value)) (says-written o (k + 1) fs us (at + length t.word) rest i.1 h.1)
      ∙ values_first vs (value_list t.value) us (at + length t.word + length x) t.first
      ∙ ap (λ (p : ℕ). Unpacks vs p) place in
      subst (λ (w : List Bool). says_by calls o k (f ∷ fs) at (w ++ rest) ≡ Unpacks vs (at + length w)) (sym written)
      whole

-- what is written of values that fit is unpacked as these values, whatever follows
pub unpacked-written : (o : Order) (k : ℕ) (fields : List Field) (vs : List FieldValue) (at : ℕ) (rest : List Bool)
    → AllByRecursion IsField fields → Fit fields vs
    → unpack_bits o k fields at (write_sequence (field_writes o fields vs) at ++ rest)
    ≡ Unpacks vs (at + length (write_sequence (field_writes o fields vs) at))
unpacked-written = says-written field_read trips

-- ---- packing, field by field

pub packed-first : (o : Order) (f : Field) (fields : List Field) (vs : List FieldValue) (at : ℕ) (w : List Bool)
    → field_write o f vs at ≡ Ok w
    → packed_bits o (f ∷ fields) vs at ≡ w ++ packed_bits o fields (drop (value_count f) vs) (at + length w)
packed-first o f fields vs at w e = run-more (field_write o f vs) (field_writes o fields (drop (value_count f) vs)
    ++ align ∷ []) w at e

-- a value that fits is accepted, and its word is written
pub field_word-written : (o : Order) (f : Field) (vs : List FieldValue) (at : ℕ) → IsField f → FitsField f vs
    → field_write o f vs at ≡ Ok (field_word o f vs at)
field_word-written o (Unsigned n) vs at i h = unsigned-fits o 128 n (first_unsigned vs) at i.1 (unsigned_first n vs h).0
field_word-written o (Signed n) vs at i h = signed-accepts o 128 n (first_signed vs) at i.0 (
  i.1,
  (signed_first n vs h).0,
)
field_word-written o (Unary stop) vs at i h = refl
field_word-written o (Variable size) vs at i h = refl
field_word-written o (Lenient size) vs at i h = refl
field_word-written o (SignedVariable size) vs at i h = refl
field_word-written o (Bytes n) vs at i h = refl
field_word-written o (Constant n v) vs at i h = unsigned-fits o 32 n v at i.1 i.2
field_word-written o (Padding n) vs at i h = refl
field_word-written o Align vs at i h = refl

pub packed-word : (o : Order) (f : Field) (fields : List Field) (vs : List FieldValue) (at : ℕ) → IsField f
    → FitsField f vs
    → packed_bits o (f ∷ fields) vs at ≡ field_word o f vs at ++ packed_bits o fields (drop (value_count f) vs)
    (at + length (field_word o f vs at))
packed-word o f fields vs at i h = packed-first o f fields vs at (field_word o f vs at)
    (field_word-written o f vs at i h)

pub packed-number : (o : Order) (n v : ℕ) (fields : List Field) (vs : List FieldValue) (at : ℕ) → n ≤ 128 → v < 2 ^ n
    → packed_bits o (Unsigned n ∷ fields) (Value.Unsigned v ∷ vs) at ≡ word o n v ++ packed_bits o fields vs (at + n)
packed-number o n v fields vs at i h =
    packed-first o (Unsigned n) fields (Value.Unsigned v ∷ vs) at (word o n v) (unsigned-fits o 128 n v at i h)
    ∙ ap (λ (m : ℕ). word o n v ++ packed_bits o fields vs (at + m)) (length-word o n v)

pub packed-align : (o : Order) (fields : List Field) (vs : List FieldValue) (at : ℕ)
    → packed_bits o (Align ∷ fields) vs at ≡ replicate (to_boundary at) false ++ packed_bits o fields vs (at + to_boundary at)
packed-align o fields vs at =
    packed-first o Align fields vs at (replicate (to_boundary at) false) refl
    ∙ ap (λ (m : ℕ). replicate (to_boundary at) false ++ packed_bits o fields vs (at + m))
    (length-replicate (to_boundary at) false)

-- ---- unpacking, field by field

-- the first field takes n bits, where they are there
first_word : (o : Order) (k : ℕ) (f : Field) (fs : List Field) (at n : ℕ) (w rest : List Bool) (g : List Bool
    → Result (Result (Option FieldValue) Reason) Error) (v : Option FieldValue)
    → ((b : List Bool) → (field_read o f).reads at b ≡ word_prefix n g b) → g w ≡ Ok (Ok v) → length w ≡ n
    → unpack_bits o k (f ∷ fs) at (w ++ rest) ≡ values_and (value_list v) (unpack_bits o (k + 1) fs (at + n) rest)
first_word o k f fs at n w rest g v reads is size =
    says-first field_read o k f fs at w rest v (reads (w ++ rest) ∙ word_prefix-some n g w rest size ∙ ap (Done n) is
    ∙ ap (λ (m : ℕ). Done m (Ok (Ok v))) (sym size))
    ∙ ap (λ (m : ℕ). values_and (value_list v) (unpack_bits o (k + 1) fs (at + m) rest)) size

pub values_and-nil : (r : Unpacked) → values_and [] r ≡ r
values_and-nil (Unpacks ws at) = refl
values_and-nil (Stops f) = refl

pub unpacked-number : (o : Order) (k n : ℕ) (fields : List Field) (at : ℕ) (w rest : List Bool) → n ≤ 128 → length w ≡ n
    → unpack_bits o k (Unsigned n ∷ fields) at (w ++ rest)
    ≡ values_and (Value.Unsigned (number o w) ∷ []) (unpack_bits o (k + 1) fields (at + n) rest)
unpacked-number o k n fields at w rest i size =
    first_word o k (Unsigned n) fields at n w rest (λ w. Ok (Ok (Some (Value.Unsigned (number o w)))))
    (Some (Value.Unsigned (number o w))) (λ b. unsigned-reads o n at b i) refl size

pub unpacked-align : (o : Order) (k : ℕ) (fields : List Field) (at : ℕ) (w rest : List Bool) → length w ≡ to_boundary at
    → unpack_bits o k (Align ∷ fields) at (w ++ rest) ≡ unpack_bits o (k + 1) fields (at + to_boundary at) rest
unpacked-align o k fields at w rest size =
    first_word o k Align fields at (to_boundary at) w rest (λ _. Ok (Ok None)) None (align-reads o at) refl size
    ∙ values_and-nil (unpack_bits o (k + 1) fields (at + to_boundary at) rest)

pub unpacked-few : (o : Order) (k n : ℕ) (fields : List Field) (at : ℕ) (b : List Bool) → n ≤ 128 → length b < n
    → unpack_bits o k (Unsigned n ∷ fields) at b ≡ Stops (fault k BitsEnded)
unpacked-few o k n fields at b i few =
    says-short field_read o k (Unsigned n) fields at b (unsigned-reads o n at b i
    ∙ word_prefix-none n (λ w. Ok (Ok (Some (Value.Unsigned (number o w))))) b few)

pub unpacked-few_to_align : (o : Order) (k : ℕ) (fields : List Field) (at : ℕ) (b : List Bool)
    → length b < to_boundary at → unpack_bits o k (Align ∷ fields) at b ≡ Stops (fault k BitsEnded)
unpacked-few_to_align o k fields at b few = says-short field_read o k Align fields at b (align-reads o at b
    ∙ word_prefix-none (to_boundary at) (λ _. Ok (Ok None)) b few)

pub unpacked-constant : (o : Order) (k n v : ℕ) (fields : List Field) (at : ℕ) (w rest : List Bool) → n ≤ 32
    → length w ≡ n → number o w ≡ v
    → unpack_bits o k (Constant n v ∷ fields) at (w ++ rest) ≡ unpack_bits o (k + 1) fields (at + n) rest
unpacked-constant o k n v fields at w rest i size is =
    let same : constant_of o v w ≡ Ok (Ok None) = rw (eq-eqb (number o w) v is) refl in
    first_word o k (Constant n v) fields at n w rest (constant_of o v) None (λ b. constant-reads o n v at b i) same size
    ∙ values_and-nil (unpack_bits o (k + 1) fields (at + n) rest)

pub unpacked-differs : (o : Order) (k n v : ℕ) (fields : List Field) (at : ℕ) (w rest : List Bool) → n ≤ 32
    → length w ≡ n → number o w ≢ v
    → unpack_bits o k (Constant n v ∷ fields) at (w ++ rest) ≡ Stops (fault k ConstantDiffers)
unpacked-differs o k n v fields at w rest i size other =
    let same : constant_of o v w ≡ Ok (Err ConstantDiffers) = rw (ne_eqb (number o w) v other) refl in
    says-told field_read o k (Constant n v) fields at n (w ++ rest) ConstantDiffers
    (constant-reads o n v at (w ++ rest) i ∙ word_prefix-some n (constant_of o v) w rest size ∙ ap (Done n) same)

pub unpacked-few_for_constant : (o : Order) (k n v : ℕ) (fields : List Field) (at : ℕ) (b : List Bool) → n ≤ 32
    → length b < n → unpack_bits o k (Constant n v ∷ fields) at b ≡ Stops (fault k BitsEnded)
unpacked-few_for_constant o k n v fields at b i few =
    says-short field_read o k (Constant n v) fields at b (constant-reads o n v at b i
    ∙ word_prefix-none n (constant_of o v) b few)

-- values that fit are not fewer than the field has
fits-count : (kind : ValueKind) (vs : List FieldValue) → FitsKind kind vs → kind_count kind ≤ length vs
fits-count Kind.Absent vs h = omega arith
fits-count (Kind.Unsigned n) [] h = absurd h
fits-count (Kind.Unsigned n) (v ∷ vs) h = omega arith
fits-count (Kind.Signed n) [] h = absurd h
fits-count (Kind.Signed n) (v ∷ vs) h = omega arith
fits-count (Kind.Bytes n) [] h = absurd h
fits-count (Kind.Bytes n) (v ∷ vs) h = omega arith

-- the values of the first field are the first values
first_values : (f : Field) (vs : List FieldValue) (v : Option FieldValue) → FitsField f vs
    → vs ≡ value_list v ++ drop (value_count f) vs → value_list v ≡ take (value_count f) vs
first_values f vs v fit first =
    let n = value_count f in
    let others = drop n vs in
    let some = fits-count (value_kind f) vs fit in
    let size : length (value_list v) ≡ n = omega (
      arith,
      some,
      ap length first,
      length-append (value_list v) others,
      length-drop n vs,
    )
    in
    sym (take-append_seam (value_list v) others) ∙ ap (λ (m : ℕ). take m (value_list v ++ others)) size
    ∙ ap (λ (us : List FieldValue). take n us) (sym first)

pub unpacked-word : (o : Order) (k : ℕ) (f : Field) (fields : List Field) (vs : List FieldValue) (at : ℕ)
    (rest : List Bool) → IsField f → FitsField f vs
    → unpack_bits o k (f ∷ fields) at (field_word o f vs at ++ rest)
    ≡ values_and (take (value_count f) vs) (unpack_bits o (k + 1) fields (at + length (field_word o f vs at)) rest)
unpacked-word o k f fields vs at rest i h =
    let t = trips o f vs at i h in
    let same : field_word o f vs at ≡ t.word = (let a = field_word-written o f vs at i h in let b = t.writes in cc) in
    subst (λ (w : List Bool). unpack_bits o k (f ∷ fields) at (w ++ rest)
    ≡ values_and (take (value_count f) vs) (unpack_bits o (k + 1) fields (at + length w) rest)) (sym same)
    (says-first field_read o k f fields at t.word rest t.value (t.reads rest)
    ∙ ap (λ (us : List FieldValue). values_and us (unpack_bits o (k + 1) fields (at + length t.word) rest))
    (first_values f vs t.value h t.first))

-- Repacking: what is read of packed fields, and what becomes of it.
use Rattle.std.proofs.Common.{◌≡◌, ℕ, ◌+◌, ◌<◌, ◌≤◌, List, [], ◌∷◌, ◌++◌, length, drop, get_or, None, Ok, Err, refl, sym, ap, ◌∙◌, subst, arith, length-append, append-nil, eq-eqb}
use Rattle.std.proofs.Math.Seq.{get_or-append_seam}
use Rattle.std.proofs.lemmas.Bool.{ne_eqb}
use Rattle.std.proofs.lemmas.List.{get_or_append_left}
use Rattle.bitstream_io.specs.Reads.{BitSource}
use Rattle.bitfields_core.specs.declared.fault.Fault.{Fault}
use Rattle.bitfields_core.specs.declared.fault.Reason.{Reason}
use Rattle.bitfields_core.specs.declared.field.Field.{Field}
use Rattle.bitfields_core.specs.declared.field.Field.TheVariants.{Align}
use Rattle.bitfields_core.specs.declared.field_value.FieldValue.{FieldValue}
use Rattle.bitfields_core.specs.Fault.{fault}
use Rattle.bitfields_core.specs.Repacking.{exact_read, without_field, with_alignment, ReadsPacked}
use Rattle.bitfields_core.specs.Unpacking.{ReadsField, ReadsFields}
use Rattle.bitfields_core.proofs.UnpackingLemmas.{next_field, Remaining, Remaining-end, Remaining-err, Remaining-more}

-- ---- the fields, and the alignment behind them

-- a field at a place, and those behind it up to the alignment
pub field_at : (fields : List Field) (i : ℕ) (d : Field) → i < length fields
    → drop i (with_alignment fields) ≡ get_or fields i d ∷ drop (i + 1) (with_alignment fields)
field_at fields i d h =
    let more : i < length (with_alignment fields) = omega (arith, h, length-append fields (Align ∷ [])) in
    next_field (with_alignment fields) i d more
    ∙ ap (λ (f : Field). f ∷ drop (i + 1) (with_alignment fields)) (get_or_append_left fields (Align ∷ []) d i h)

-- the alignment behind them
pub alignment_at : (fields : List Field) → drop (length fields) (with_alignment fields)
    ≡ Align ∷ drop (length fields + 1) (with_alignment fields)
alignment_at fields =
    let more : length fields < length (with_alignment fields) = omega (arith, length-append fields (Align ∷ [])) in
    next_field (with_alignment fields) (length fields) Align more
    ∙ ap (λ (f : Field). f ∷ drop (length fields + 1) (with_alignment fields))
    (get_or-append_seam fields Align [] Align)

-- ---- the fields' calls

-- a field's fault keeps its number
unnamed_here : (n i : ℕ) (why : Reason) → i < n → without_field n (fault (i + 1) why) ≡ fault (i + 1) why
unnamed_here n i why h = rw (ne_eqb (i + 1) (n + 1) (λ e. omega (arith, h, e))) refl

module _ {R : Type 0} (K : BitSource R) (fields : List Field) {old new : R} where
  -- a fault at a field
  pub stopped_at : {i : ℕ} {why : Reason} {f : Fault} → i < length fields → f ≡ fault (i + 1) why
      → ReadsFields exact_read K 1 (with_alignment fields) old (Err f) new → ReadsPacked K fields old (Err f) new
  stopped_at {i = i} {why = why} {f = f} h is reads = record {
    answer = Err f;
    reads = reads;
    names = ap Err (is ∙ sym (unnamed_here (length fields) i why h) ∙ ap (without_field (length fields)) (sym is));
  }

  module _ {i : ℕ} (at : i ≡ length fields) (now : R) (vs : List FieldValue)
      (known : Remaining exact_read K (with_alignment fields) i old vs now) where
    -- the alignment behind the fields answered
    pub packed_end : ReadsField exact_read K Align now (Ok None) new → ReadsPacked K fields old (Ok vs) new
    packed_end reads =
        let behind = subst (λ (n : ℕ). Remaining exact_read K (with_alignment fields) n old vs now) at known in
        let all = Remaining-more exact_read K (with_alignment fields) (length fields) old now vs (alignment_at fields)
        behind reads in
        let end : length (with_alignment fields) ≤ length fields + 1 = omega (arith, length-append fields (Align ∷ []))
        in
        record {
          answer = Ok vs;
          reads = subst (λ (us : List FieldValue). ReadsFields exact_read K 1 (with_alignment fields) old (Ok us) new)
              (append-nil vs)
              (Remaining-end exact_read K (with_alignment fields) (length fields + 1) old new (vs ++ []) end all);
          names = refl;
        }

    -- it answered a reason, which names no field
    pub packed_end_err : {why : Reason} {f : Fault} → ReadsField exact_read K Align now (Err why) new
        → f ≡ fault 0 why → ReadsPacked K fields old (Err f) new
    packed_end_err {why = why} reads is =
        let behind = subst (λ (n : ℕ). Remaining exact_read K (with_alignment fields) n old vs now) at known in
        record {
          answer = Err (fault (length fields + 1) why);
          reads = Remaining-err exact_read K (with_alignment fields) (length fields) old now vs (alignment_at fields)
              behind reads refl;
          names = ap Err (is ∙ rw (eq-eqb (length fields + 1) (length fields + 1) refl) refl);
        }

-- a buffer of one byte
pub one_byte : (bytes : List ℕ) → length bytes ≡ 1 → (byte : ℕ) × (bytes ≡ byte ∷ [])
one_byte [] e = absurd (cc)
one_byte (b ∷ []) e = (b, refl)
one_byte (b ∷ c ∷ bytes) e = absurd (omega (arith, e))

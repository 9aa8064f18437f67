-- Values that lines spell, and lines that are printed of values.
use Rattle.std.specs.Prelude.{Bool, true, false, ◌==◌, if◌then◌else◌}
use Rattle.std.proofs.Common.{◌≡◌, ℕ, ◌+◌, ◌^◌, List, [], ◌∷◌, ◌++◌, ◌<◌, length, drop, get_or, append-nil, add-one, drop-cons, ap, ◌∙◌, Option, Some, None, Result, Ok, Err, refl, sym, subst, IfOk, arith}
use Rattle.bitfields_core.specs.declared.fault.Reason.{Reason}
use Rattle.bitfields_core.specs.declared.fault.Fault.{Fault}
use Rattle.bitfields_core.specs.declared.field.Field.{Field}
use Rattle.bitfields_core.specs.declared.field.Field.TheVariants.{Unsigned, Signed, Unary, Variable, Lenient, SignedVariable, Bytes, Constant, Padding, Align}
use Rattle.bitfields_core.specs.declared.field_value.FieldValue.{FieldValue}
use Rattle.bitfields_core.specs.declared.field_value.FieldValue.TheVariants as Value
use Rattle.bitfields_core.specs.declared.field_value.ValueKind.{ValueKind}
use Rattle.bitfields_core.specs.declared.field_value.ValueKind.TheVariants as Kind
use Rattle.bitfields_core.specs.Decimal.{decimal_below, signed_within, bytes_within}
use Rattle.bitfields_core.specs.Value.{values, value_and, value_in, value_of, value_list, value_kind, value_count, kind_count, some_value, Fit, FitsKind, IsKind}
use Rattle.bitfields_core.specs.Fault.{fault}
use Rattle.bitfields_core.specs.Layout.{IsField, IsUnlessMemory}
use Rattle.bitfields_core.proofs.BytesLemmas.{bytes_within-Ok}
use Rattle.bitfields_core.proofs.DecimalLemmas.{decimal_below-lt, signed_decimal-of_within}
use Rattle.bitfields_core.proofs.LayoutLemmas.{after, after-one_more}
use Rattle.bitfields_core.proofs.MemoryLemmas.{value_expected}
use Rattle.bitstream_io.specs.Gather.{result_map}
use Rattle.bitfields_core.specs.declared.fault.Reason.TheVariants.{ValueLeftOver}

pub some_value-Ok : {A : Type 0} (kind : A → FieldValue) (r : Result A Reason) (o : Option FieldValue)
    → some_value kind r ≡ Ok o → (n : A) × (r ≡ Ok n) × (o ≡ Some (kind n))
some_value-Ok kind (Ok v) o h = (let same : Some (kind v) ≡ o = cc in (v, refl, sym same))
some_value-Ok kind (Err e) o h = absurd (cc)

-- the value of a field, and those behind it
pub value_and-Ok : (k : ℕ) (first : Result (Option FieldValue) Reason) (others : Result (List FieldValue) Fault)
    (vs : List FieldValue) → value_and k first others ≡ Ok vs
    → (o : Option FieldValue) × (ws : List FieldValue) × (first ≡ Ok o) × (others ≡ Ok ws) × (value_list o ++ ws ≡ vs)
value_and-Ok k (Err why) others vs h = absurd (cc)
value_and-Ok k (Ok None) others vs h = (None, vs, refl, h, refl)
value_and-Ok k (Ok (Some v)) (Err e) vs h = absurd (cc)
value_and-Ok k (Ok (Some v)) (Ok ws) vs h = (let same : v ∷ ws ≡ vs = cc in (Some v, ws, refl, refl, same))

-- a value that a line spells stands before others, and fits
IsBefore : ValueKind → List FieldValue → Option FieldValue → Type 0
IsBefore kind vs o = FitsKind kind (value_list o ++ vs) × (drop (kind_count kind) (value_list o ++ vs) ≡ vs)

value_of-fits : (kind : ValueKind) (lines : List (List ℕ)) (o : Option FieldValue) (vs : List FieldValue)
    → value_of kind lines ≡ Ok o → IsBefore kind vs o
unfolding IsBefore
value_of-fits Kind.Absent lines None vs h = (tt, refl)
value_of-fits Kind.Absent lines (Some v) vs h = absurd (cc)
value_of-fits (Kind.Unsigned n) [] o vs h = absurd (cc)
value_of-fits (Kind.Unsigned n) (line ∷ lines) o vs h =
    let p = some_value-Ok Value.Unsigned (decimal_below (2 ^ n) line) o h in
    subst (IsBefore (Kind.Unsigned n) vs) (sym p.2) (decimal_below-lt (2 ^ n) p.0 line p.1, refl)
value_of-fits (Kind.Signed n) [] o vs h = absurd (cc)
value_of-fits (Kind.Signed n) (line ∷ lines) o vs h =
    let p = some_value-Ok Value.Signed (signed_within n line) o h in
    subst (IsBefore (Kind.Signed n) vs) (sym p.2) ((signed_decimal-of_within n line p.0 p.1).0, refl)
value_of-fits (Kind.Bytes n) [] o vs h = absurd (cc)
value_of-fits (Kind.Bytes n) (line ∷ lines) o vs h =
    let p = some_value-Ok Value.Bytes (bytes_within n line) o h in
    let q = bytes_within-Ok n line p.0 p.1 in
    subst (IsBefore (Kind.Bytes n) vs) (sym p.2) ((q.0, q.1), refl)

pub kind-in_range : (f : Field) → IsField f → IsKind (value_kind f)
kind-in_range (Unsigned n) h = h
kind-in_range (Signed n) h = h
kind-in_range (Unary stop) h = (omega arith, omega arith)
kind-in_range (Variable size) h = (omega arith, omega arith)
kind-in_range (Lenient size) h = (omega arith, omega arith)
kind-in_range (SignedVariable size) h = (omega arith, omega arith)
kind-in_range (Bytes n) h = h
kind-in_range (Constant n v) h = tt
kind-in_range (Padding n) h = tt
kind-in_range Align h = tt

after-value_and : (k : ℕ) (xs : List FieldValue) (o : Option FieldValue) (others : Result (List FieldValue) Fault)
    → after xs (value_and k (Ok o) others) ≡ after (xs ++ value_list o) others
after-value_and k xs None others = ap (λ (ys : List FieldValue). after ys others) (sym (append-nil xs))
after-value_and k xs (Some v) others = after-one_more xs v others

-- one value more was read
pub one_value : (fields : List Field) (i : ℕ) (d : Field) (xs : List FieldValue) (rest : List (List ℕ))
    (o : Option FieldValue) {all : Result (List FieldValue) Fault} → i < length fields
    → all ≡ after xs (values (i + 1) (drop i fields) rest) → value_in (get_or fields i d) rest ≡ Ok o
    → all ≡ after (xs ++ value_list o) (values (i + 1 + 1) (drop (i + 1) fields)
    (drop (value_count (get_or fields i d)) rest))
one_value fields i d xs rest o h known is =
    let cut : drop i fields ≡ get_or fields i d ∷ drop (i + 1) fields = rw add-one (drop-cons fields i d h) in
    let others = values (i + 1 + 1) (drop (i + 1) fields) (drop (value_count (get_or fields i d)) rest) in
    known
    ∙ ap (λ (fs : List Field). after xs (values (i + 1) fs rest)) cut
    ∙ ap (λ (r : Result (Option FieldValue) Reason). after xs (value_and (i + 1) r others)) is
    ∙ after-value_and (i + 1) xs o others

left_over : (none : Bool) (vs : List FieldValue) → (let r : Result (List FieldValue) Fault =
    if none then Ok [] else Err (fault 0 ValueLeftOver) in r) ≡ Ok vs → vs ≡ []
left_over true vs h = (let same : [] ≡ vs = cc in sym same)
left_over false vs h = absurd (cc)

-- values that are spelt fit their fields
pub values-Fit : (k : ℕ) (fields : List Field) (lines : List (List ℕ)) (vs : List FieldValue) → values k fields lines
    ≡ Ok vs → Fit fields vs
unfolding IsBefore
values-Fit k [] lines vs h = left_over (length lines == 0) vs h
values-Fit k (field ∷ fields) lines vs h =
    let others = drop (value_count field) lines in
    let p = value_and-Ok k (value_in field lines) (values (k + 1) fields others) vs h in
    let first = value_of-fits (value_kind field) lines p.0 p.1 p.2 in
    let rest = values-Fit (k + 1) fields others p.1 p.3 in
    subst (λ us. Fit (field ∷ fields) us) p.4 (first.0, subst (λ us. Fit fields us) (sym first.1) rest)

pub IfOk-Fit : {V : Type 0} (fields : List Field) (lines : List (List ℕ)) (view : V → List FieldValue)
    (r : Result V Fault) → IsUnlessMemory (values 1 fields lines) (result_map view r) → IfOk r (λ v. Fit fields (view v))
IfOk-Fit fields lines view (Ok v) h = values-Fit 1 fields lines (view v) (value_expected h)
IfOk-Fit fields lines view (Err e) h = tt

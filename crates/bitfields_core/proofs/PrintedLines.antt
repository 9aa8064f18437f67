-- The lines that are printed of values spell these values, and values that are spelt are printed as their lines.
use Rattle.std.specs.Prelude.{ℤ, Bool, true, false, ◌==◌, if◌then◌else◌, map, slice_index_or}
use Rattle.std.specs.List.{slice_split, All, AllByRecursion}
use Rattle.std.specs.Fmt.{decimal, signed_decimal}
use Rattle.std.proofs.Common.{◌≡◌, ℕ, ◌+◌, ◌-◌, ◌<◌, ◌≤◌, ◌^◌, List, [], ◌∷◌, ◌++◌, length, take, drop, Option, Some, None, Result, Ok, Err, refl, sym, ap, subst, ◌∙◌, arith, lit<, append_assoc, append-nil, length-append}
use Rattle.std.proofs.lemmas.Bool.{eqb-true}
use Rattle.std.proofs.lemmas.List.Concat.{flat_map-append}
use Rattle.std.proofs.lemmas.List.Elements.{recursion_from_All}
use Rattle.std.proofs.lemmas.List.Splits.{slice_split_at}
use Rattle.std.proofs.Math.Seq.{take-append_seam, get_or-append_seam}
use Rattle.bitfields_core.specs.declared.fault.Fault.{Fault}
use Rattle.bitfields_core.specs.declared.fault.Reason.{Reason}
use Rattle.bitfields_core.specs.declared.fault.Reason.TheVariants.{ValueLeftOver}
use Rattle.bitfields_core.specs.declared.field.Field.{Field}
use Rattle.bitfields_core.specs.declared.field_value.FieldValue.{FieldValue}
use Rattle.bitfields_core.specs.declared.field_value.FieldValue.TheVariants as Value
use Rattle.bitfields_core.specs.declared.field_value.ValueKind.{ValueKind}
use Rattle.bitfields_core.specs.declared.field_value.ValueKind.TheVariants as Kind
use Rattle.bitfields_core.specs.Decimal.{bytes_text, bytes_within, decimal_below, signed_within}
use Rattle.bitfields_core.specs.Fault.{fault}
use Rattle.bitfields_core.specs.Layout.{IsField, one_more}
use Rattle.bitfields_core.specs.Value.{without_empty_last, ended_lines, lines, values, value_and, value_count, value_in, value_kind, value_list, value_of, value_text, kind_count, some_value, Fit, FitsKind, IsKind, printed_line, printed_lines}
use Rattle.bitfields_core.proofs.BytesLemmas.{bytes_text-lacks, bytes_within-Ok, bytes_within-bytes_text}
use Rattle.bitfields_core.proofs.DecimalLemmas.{decimal_below-decimal, decimal-of_below, decimal_lacks, limit_small, signed_decimal-lacks, signed_decimal-of_within, signed_within-signed_decimal}
use Rattle.bitfields_core.proofs.ValueLemmas.{kind-in_range, some_value-Ok, value_and-Ok}

abbrev lacks_end : List ℕ → Type 0
lacks_end text = All (λ b. (b == 10) ≡ false) text

-- the parts of lines are the lines, and an empty part at the end
parts-printed_lines : (vs : List FieldValue) → AllByRecursion (λ v. lacks_end (value_text v)) vs
    → slice_split (λ b. b == 10) (printed_lines vs) ≡ map value_text vs ++ [] ∷ []
parts-printed_lines [] h = refl
parts-printed_lines (v ∷ vs) h =
    ap (slice_split (λ b. b == 10)) (append_assoc (value_text v) (10 ∷ []) (printed_lines vs))
    ∙ slice_split_at (λ b. b == 10) (value_text v) 10 (printed_lines vs) h.0 refl
    ∙ ap (λ (rest : List (List ℕ)). value_text v ∷ rest) (parts-printed_lines vs h.1)

ended-empty : (parts : List (List ℕ)) (n : ℕ) → n ≡ length parts
    → (let r : List (List ℕ) = if length (slice_index_or (parts ++ [] ∷ []) n []) == 0 then take n (parts
    ++ [] ∷ []) else parts ++ [] ∷ [] in r) ≡ parts
ended-empty parts n e = rw (e, get_or-append_seam parts [] [] []) (take-append_seam parts ([] ∷ []))

lines-printed_lines : (vs : List FieldValue) → AllByRecursion (λ v. lacks_end (value_text v)) vs
    → lines (printed_lines vs) ≡ map value_text vs
lines-printed_lines vs h =
    let count : length (map value_text vs ++ [] ∷ []) - 1 ≡ length (map value_text vs) =
    rw length-append (omega arith) in
    ap without_empty_last (parts-printed_lines vs h) ∙ ended-empty (map value_text vs) (length (map value_text vs ++ [] ∷ []) - 1)
    count

value_small : (n v : ℕ) → n ≤ 128 → v < 2 ^ n → v < 10 ^ 64
value_small n v h l = omega (arith, l, limit_small n h)

-- the text of a value that fits its kind has no LF, and no text of those behind it has one
kind-lacks_end : (kind : ValueKind) (vs : List FieldValue) → IsKind kind → FitsKind kind vs
    → AllByRecursion (λ v. lacks_end (value_text v)) (drop (kind_count kind) vs)
    → AllByRecursion (λ v. lacks_end (value_text v)) vs
kind-lacks_end Kind.Absent vs i h rest = rest
kind-lacks_end (Kind.Unsigned n) [] i h rest = absurd h
kind-lacks_end (Kind.Unsigned n) (Value.Unsigned v ∷ vs) i h rest =
    (decimal_lacks 10 v (lit< tt) (value_small n v i.1 h), rest)
kind-lacks_end (Kind.Unsigned n) (Value.Signed x ∷ vs) i h rest = absurd h
kind-lacks_end (Kind.Unsigned n) (Value.Bytes bytes ∷ vs) i h rest = absurd h
kind-lacks_end (Kind.Signed n) [] i h rest = absurd h
kind-lacks_end (Kind.Signed n) (Value.Unsigned v ∷ vs) i h rest = absurd h
kind-lacks_end (Kind.Signed n) (Value.Signed x ∷ vs) i h rest = (signed_decimal-lacks 10 n x (lit< tt) i.1 h, rest)
kind-lacks_end (Kind.Signed n) (Value.Bytes bytes ∷ vs) i h rest = absurd h
kind-lacks_end (Kind.Bytes n) [] i h rest = absurd h
kind-lacks_end (Kind.Bytes n) (Value.Unsigned v ∷ vs) i h rest = absurd h
kind-lacks_end (Kind.Bytes n) (Value.Signed x ∷ vs) i h rest = absurd h
kind-lacks_end (Kind.Bytes n) (Value.Bytes bytes ∷ vs) i h rest = (bytes_text-lacks 10 bytes (lit< tt) h.1, rest)

texts-lack_end : (fields : List Field) (vs : List FieldValue) → AllByRecursion IsField fields → Fit fields vs
    → AllByRecursion (λ v. lacks_end (value_text v)) vs
texts-lack_end [] vs h f = subst (λ us. AllByRecursion (λ v. lacks_end (value_text v)) us) (sym f) tt
texts-lack_end (field ∷ fields) vs h f =
    kind-lacks_end (value_kind field) vs (kind-in_range field h.0) f.0
    (texts-lack_end fields (drop (value_count field) vs) h.1 f.1)

-- the text of a value that fits its kind spells the value
kind-text : (k : ℕ) (kind : ValueKind) (vs : List FieldValue) (others : List (List ℕ) → Result (List FieldValue) Fault)
    → IsKind kind → FitsKind kind vs
    → others (map value_text (drop (kind_count kind) vs)) ≡ Ok (drop (kind_count kind) vs)
    → value_and k (value_of kind (map value_text vs)) (others (drop (kind_count kind) (map value_text vs))) ≡ Ok vs
kind-text k Kind.Absent vs others i h rest = rest
kind-text k (Kind.Unsigned n) [] others i h rest = absurd h
kind-text k (Kind.Unsigned n) (Value.Unsigned v ∷ vs) others i h rest =
    ap (λ (r : Result ℕ Reason). value_and k (some_value Value.Unsigned r) (others (map value_text vs)))
    (decimal_below-decimal (2 ^ n) v (value_small n v i.1 h) h) ∙ ap (one_more (Value.Unsigned v)) rest
kind-text k (Kind.Unsigned n) (Value.Signed x ∷ vs) others i h rest = absurd h
kind-text k (Kind.Unsigned n) (Value.Bytes bytes ∷ vs) others i h rest = absurd h
kind-text k (Kind.Signed n) [] others i h rest = absurd h
kind-text k (Kind.Signed n) (Value.Unsigned v ∷ vs) others i h rest = absurd h
kind-text k (Kind.Signed n) (Value.Signed x ∷ vs) others i h rest =
    ap (λ (r : Result ℤ Reason). value_and k (some_value Value.Signed r) (others (map value_text vs)))
    (signed_within-signed_decimal n x i.0 i.1 h) ∙ ap (one_more (Value.Signed x)) rest
kind-text k (Kind.Signed n) (Value.Bytes bytes ∷ vs) others i h rest = absurd h
kind-text k (Kind.Bytes n) [] others i h rest = absurd h
kind-text k (Kind.Bytes n) (Value.Unsigned v ∷ vs) others i h rest = absurd h
kind-text k (Kind.Bytes n) (Value.Signed x ∷ vs) others i h rest = absurd h
kind-text k (Kind.Bytes n) (Value.Bytes bytes ∷ vs) others i h rest =
    ap (λ (r : Result (List ℕ) Reason). value_and k (some_value Value.Bytes r) (others (map value_text vs)))
    (bytes_within-bytes_text n bytes i.0 h.0 h.1) ∙ ap (one_more (Value.Bytes bytes)) rest

values-texts : (k : ℕ) (fields : List Field) (vs : List FieldValue) → AllByRecursion IsField fields → Fit fields vs
    → values k fields (map value_text vs) ≡ Ok vs
values-texts k [] vs h f = subst (λ us. values k [] (map value_text us) ≡ Ok us) (sym f) refl
values-texts k (field ∷ fields) vs h f =
    kind-text k (value_kind field) vs (values (k + 1) fields) (kind-in_range field h.0) f.0
    (values-texts (k + 1) fields (drop (value_count field) vs) h.1 f.1)

pub values-printed_lines : (k : ℕ) (fields : List Field) (vs : List FieldValue) → All IsField fields → Fit fields vs
    → values k fields (lines (printed_lines vs)) ≡ Ok vs
values-printed_lines k fields vs h f =
    let each = recursion_from_All IsField fields h in
    ap (values k fields) (lines-printed_lines vs (texts-lack_end fields vs each f)) ∙ values-texts k fields vs each f

-- ---- values that are spelt

-- a value's line is the first of the lines, and the others stand behind it
IsPrinted : ValueKind → List (List ℕ) → Option FieldValue → Type 0
IsPrinted kind lines o = printed_lines (value_list o) ++ ended_lines (drop (kind_count kind) lines) ≡ ended_lines lines

one_line : (text line rest : List ℕ) → text ≡ line → ((text ++ 10 ∷ []) ++ []) ++ rest ≡ (line ++ 10 ∷ []) ++ rest
one_line text line rest is = ap (λ t. t ++ rest) (append-nil (text ++ 10 ∷ []) ∙ ap (λ t. t ++ 10 ∷ []) is)

value_of-printed : (kind : ValueKind) (lines : List (List ℕ)) (o : Option FieldValue) → IsKind kind
    → value_of kind lines ≡ Ok o → IsPrinted kind lines o
unfolding IsPrinted
value_of-printed Kind.Absent lines None i h = refl
value_of-printed Kind.Absent lines (Some v) i h = absurd (cc)
value_of-printed (Kind.Unsigned n) [] o i h = absurd (cc)
value_of-printed (Kind.Unsigned n) (line ∷ lines) o i h =
    let p = some_value-Ok Value.Unsigned (decimal_below (2 ^ n) line) o h in
    subst (IsPrinted (Kind.Unsigned n) (line ∷ lines)) (sym p.2)
    (one_line (decimal p.0) line (ended_lines lines) (decimal-of_below (2 ^ n) p.0 line (limit_small n i.1) p.1))
value_of-printed (Kind.Signed n) [] o i h = absurd (cc)
value_of-printed (Kind.Signed n) (line ∷ lines) o i h =
    let p = some_value-Ok Value.Signed (signed_within n line) o h in
    subst (IsPrinted (Kind.Signed n) (line ∷ lines)) (sym p.2)
    (one_line (signed_decimal p.0) line (ended_lines lines) ((signed_decimal-of_within n line p.0 p.1).1 i.1))
value_of-printed (Kind.Bytes n) [] o i h = absurd (cc)
value_of-printed (Kind.Bytes n) (line ∷ lines) o i h =
    let p = some_value-Ok Value.Bytes (bytes_within n line) o h in
    subst (IsPrinted (Kind.Bytes n) (line ∷ lines)) (sym p.2)
    (one_line (bytes_text p.0) line (ended_lines lines) (bytes_within-Ok n line p.0 p.1).2)

none_over : (none : Bool) (lines : List (List ℕ)) (vs : List FieldValue) → (length lines == 0) ≡ none
    → (let r : Result (List FieldValue) Fault = if none then Ok [] else Err (fault 0 ValueLeftOver) in r) ≡ Ok vs
    → printed_lines vs ≡ ended_lines lines
none_over true [] vs e h = (let same : [] ≡ vs = cc in ap printed_lines (sym same))
none_over true (line ∷ lines) vs e h = absurd (let no = eqb-true (length (line ∷ lines)) 0 e in omega arith)
none_over false lines vs e h = absurd (cc)

pub printed_lines-values : (k : ℕ) (fields : List Field) (lines : List (List ℕ)) (vs : List FieldValue)
    → AllByRecursion IsField fields → values k fields lines ≡ Ok vs → printed_lines vs ≡ ended_lines lines
unfolding IsPrinted
printed_lines-values k [] lines vs i h = none_over (length lines == 0) lines vs refl h
printed_lines-values k (field ∷ fields) lines vs i h =
    let others = drop (value_count field) lines in
    let p = value_and-Ok k (value_in field lines) (values (k + 1) fields others) vs h in
    ap printed_lines (sym p.4)
    ∙ flat_map-append printed_line (value_list p.0) p.1
    ∙ ap (λ t. printed_lines (value_list p.0) ++ t) (printed_lines-values (k + 1) fields others p.1 i.1 p.3)
    ∙ value_of-printed (value_kind field) lines p.0 (kind-in_range field i.0) p.2

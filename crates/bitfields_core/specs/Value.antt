-- Value lines: the values that an input spells for the fields of a layout, and the lines that are printed for
-- values.
use Rattle.std.specs.Prelude.{ℕ, ℤ, pos, ◌≤◌, ◌≡◌, ◌+◌, ◌-◌, ◌^◌, ◌<◌, ◌==◌, ⊤, All, if◌then◌else◌, List, [], ◌∷◌, ◌++◌, length, take, drop, slice_index_or, Option, Some, None, Result, Ok, Err}
use Rattle.std.specs.List.{slice_split, flat_map}
use Rattle.std.specs.Fmt.{decimal, signed_decimal}
use Rattle.bitstream_io.specs.Word.{FitsSignedBits}
use Rattle.bitfields_core.specs.declared.fault.Reason.{Reason}
use Rattle.bitfields_core.specs.declared.fault.Reason.TheVariants.{ValueMissing, ValueLeftOver}
use Rattle.bitfields_core.specs.declared.fault.Fault.{Fault}
use Rattle.bitfields_core.specs.declared.field.Field.{Field}
use Rattle.bitfields_core.specs.declared.field.Field.TheVariants.{Unsigned, Signed, Unary, Variable, Lenient, SignedVariable, Bytes, Constant, Padding, Align}
use Rattle.bitfields_core.specs.declared.field_value.FieldValue.{FieldValue}
use Rattle.bitfields_core.specs.declared.field_value.FieldValue.TheVariants as Value
use Rattle.bitfields_core.specs.declared.field_value.ValueKind.{ValueKind}
use Rattle.bitfields_core.specs.declared.field_value.ValueKind.TheVariants as Kind
use Rattle.bitfields_core.specs.Decimal.{decimal_below, signed_within, bytes_within, bytes_text}
use Rattle.bitfields_core.specs.Fault.{fault}
use Rattle.bitfields_core.specs.Layout.{one_more}

-- the parts, without an empty last one
abbrev pub without_empty_last : List (List ℕ) → List (List ℕ)
without_empty_last parts =
    if length (slice_index_or parts (length parts - 1) []) == 0 then take (length parts - 1) parts else parts

-- the lines of an input: each ends in LF, which the last may lack
abbrev pub lines : List ℕ → List (List ℕ)
lines input = without_empty_last (slice_split (λ b. b == 10) input)

-- the kind of a field's value
abbrev pub value_kind : Field → ValueKind
value_kind (Unsigned n) = Kind.Unsigned n
value_kind (Signed n) = Kind.Signed n
value_kind (Unary stop) = Kind.Unsigned 32
value_kind (Variable size) = Kind.Unsigned 64
value_kind (Lenient size) = Kind.Unsigned 64
value_kind (SignedVariable size) = Kind.Signed 64
value_kind (Bytes n) = Kind.Bytes n
value_kind (Constant n v) = Kind.Absent
value_kind (Padding n) = Kind.Absent
value_kind Align = Kind.Absent

-- the numbers of values have 1 to 128 bits, and there are 1 to 65536 bytes
abbrev pub IsKind : ValueKind → Type 0
IsKind Kind.Absent = ⊤
IsKind (Kind.Unsigned n) = (1 ≤ n) × (n ≤ 128)
IsKind (Kind.Signed n) = (1 ≤ n) × (n ≤ 128)
IsKind (Kind.Bytes n) = (1 ≤ n) × (n ≤ 65536)

-- the number of values of a kind: one, or none
abbrev pub kind_count : ValueKind → ℕ
kind_count Kind.Absent = 0
kind_count kind = 1

-- the number of values of a field, which is the number of its lines
abbrev pub value_count : Field → ℕ
value_count field = kind_count (value_kind field)

-- the value of a kind, or the reason why there is none
abbrev pub some_value : {A : Type 0} → (A → FieldValue) → Result A Reason → Result (Option FieldValue) Reason
some_value kind (Ok v) = Ok (Some (kind v))
some_value kind (Err why) = Err why

-- the value of a kind that the first of the lines spells, or the reason why it spells none; `None` if there is no value
abbrev pub value_of : ValueKind → List (List ℕ) → Result (Option FieldValue) Reason
value_of Kind.Absent lines = Ok None
value_of (Kind.Unsigned n) [] = Err ValueMissing
value_of (Kind.Unsigned n) (line ∷ others) = some_value Value.Unsigned (decimal_below (2 ^ n) line)
value_of (Kind.Signed n) [] = Err ValueMissing
value_of (Kind.Signed n) (line ∷ others) = some_value Value.Signed (signed_within n line)
value_of (Kind.Bytes n) [] = Err ValueMissing
value_of (Kind.Bytes n) (line ∷ others) = some_value Value.Bytes (bytes_within n line)

-- the value of a field that the first of the lines spells
abbrev pub value_in : Field → List (List ℕ) → Result (Option FieldValue) Reason
value_in field lines = value_of (value_kind field) lines

-- the values of a field: one, or none
abbrev pub value_list : Option FieldValue → List FieldValue
value_list None = []
value_list (Some v) = v ∷ []

-- the value of field number k before the others, or its fault
abbrev pub value_and : ℕ → Result (Option FieldValue) Reason → Result (List FieldValue) Fault
    → Result (List FieldValue) Fault
value_and k (Err why) others = Err (fault k why)
value_and k (Ok None) others = others
value_and k (Ok (Some v)) others = one_more v others

-- the values that lines spell for fields, which are numbered from k on, or the first fault
abbrev pub values : ℕ → List Field → List (List ℕ) → Result (List FieldValue) Fault
values k [] lines = if length lines == 0 then Ok [] else Err (fault 0 ValueLeftOver)
values k (field ∷ fields) lines =
    value_and k (value_in field lines) (values (k + 1) fields (drop (value_count field) lines))

-- a value of this kind is there, the first of these, and fits; nothing is asked if there is no value
abbrev pub FitsKind : ValueKind → List FieldValue → Type 0
FitsKind Kind.Absent vs = ⊤
FitsKind (Kind.Unsigned n) (Value.Unsigned v ∷ vs) = v < 2 ^ n
FitsKind (Kind.Signed n) (Value.Signed x ∷ vs) = FitsSignedBits n x
FitsKind (Kind.Bytes n) (Value.Bytes bytes ∷ vs) = (length bytes ≡ n) × All (λ b. b < 256) bytes
FitsKind kind vs = ⊥

-- the field's value is there, the first of these, and fits the field
abbrev pub FitsField : Field → List FieldValue → Type 0
FitsField field vs = FitsKind (value_kind field) vs

-- the unsigned number that comes first, else 0
abbrev pub first_unsigned : List FieldValue → ℕ
first_unsigned (Value.Unsigned v ∷ vs) = v
first_unsigned vs = 0

-- the signed number that comes first, else 0
abbrev pub first_signed : List FieldValue → ℤ
first_signed (Value.Signed x ∷ vs) = x
first_signed vs = pos 0

-- the bytes that come first, else none
abbrev pub first_bytes : List FieldValue → List ℕ
first_bytes (Value.Bytes bytes ∷ vs) = bytes
first_bytes vs = []

-- these are the values of the fields that have one, in their order, and each fits its field
abbrev pub Fit : List Field → List FieldValue → Type 0
Fit [] vs = vs ≡ []
Fit (field ∷ fields) vs = FitsField field vs × Fit fields (drop (value_count field) vs)

-- the printed form of a value
abbrev pub value_text : FieldValue → List ℕ
value_text (Value.Unsigned v) = decimal v
value_text (Value.Signed x) = signed_decimal x
value_text (Value.Bytes bytes) = bytes_text bytes

-- a value's text, and LF
abbrev pub printed_line : FieldValue → List ℕ
printed_line v = value_text v ++ 10 ∷ []

-- the line of each value
abbrev pub printed_lines : List FieldValue → List ℕ
printed_lines vs = flat_map printed_line vs

-- lines, each of them ended by LF
abbrev pub ended_lines : List (List ℕ) → List ℕ
ended_lines ls = flat_map (λ line. line ++ 10 ∷ []) ls

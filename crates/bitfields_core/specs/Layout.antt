-- Layouts: the fields that a text spells.
use Rattle.std.specs.Prelude.{ℕ, ◌+◌, ◌-◌, ◌^◌, ◌<◌, ◌≡◌, ◌≤◌, ◌⊎◌, ◌==◌, ◌&&◌, if◌then◌else◌, List, [], ◌∷◌, ◌++◌, length, take, drop, position, map, option_map, Option, Some, None, Result, Ok, Err, nat_lt, All}
use Rattle.std.specs.List.{slice_split, join_with_byte}
use Rattle.std.specs.Fmt.{decimal}
use Rattle.bitfields_core.specs.declared.fault.Reason.TheVariants.{TooManyFields, BadLayout, OutOfMemory}
use Rattle.bitfields_core.specs.declared.fault.Fault.{Fault}
use Rattle.bitfields_core.specs.declared.field.Field.{Field}
use Rattle.bitfields_core.specs.declared.field.Field.TheVariants.{Unsigned, Signed, Unary, Variable, Lenient, SignedVariable, Bytes, Constant, Padding, Align}
use Rattle.bitfields_core.specs.declared.field.GroupSize.{GroupSize}
use Rattle.bitfields_core.specs.declared.field.GroupSize.TheVariants.{Four, Eight}
use Rattle.bitstream_io.specs.Word.{digit_value}
use Rattle.bitfields_core.specs.Decimal.{decimal_within}
use Rattle.bitfields_core.specs.Fault.{fault}

-- the size of groups of this many bits
abbrev pub group_size_of : Option ℕ → Option GroupSize
group_size_of None = None
group_size_of (Some n) = if n == 4 then Some Four else if n == 8 then Some Eight else None

-- the size of groups that a text spells, 4 or 8
abbrev pub group_size : List ℕ → Option GroupSize
group_size text = group_size_of (decimal_within 4 8 text)

-- the constant of this many bits whose number a text spells
abbrev pub constant_after : Option ℕ → List ℕ → Option Field
constant_after None text = None
constant_after (Some n) text = option_map (Constant n) (decimal_within 0 (2 ^ n - 1) text)

-- the constant that a text spells whose `=` is at this place
abbrev pub constant_at : Option ℕ → List ℕ → Option Field
constant_at None text = None
constant_at (Some sign) text = constant_after (decimal_within 1 32 (take sign text)) (drop (sign + 1) text)

-- the constant that a text spells: its number of bits, `=`, and a number that fits them
abbrev pub constant : List ℕ → Option Field
constant text = constant_at (position (λ b. b == 61) text) text

-- the field of a letter (u, i, n, v, l, s, b, c, p, a) and of what follows it
abbrev pub field_after : ℕ → List ℕ → Option Field
field_after letter rest =
    if letter == 117 then option_map Unsigned (decimal_within 1 128 rest)
    else if letter == 105 then option_map Signed (decimal_within 1 128 rest)
    else if letter == 110 then option_map (λ stop. Unary (stop == 1)) (decimal_within 0 1 rest)
    else if letter == 118 then option_map Variable (group_size rest)
    else if letter == 108 then option_map Lenient (group_size rest)
    else if letter == 115 then option_map SignedVariable (group_size rest)
    else if letter == 98 then option_map Bytes (decimal_within 1 65536 rest)
    else if letter == 99 then constant rest
    else if letter == 112 then option_map Padding (decimal_within 1 4096 rest)
    else if (letter == 97 && (length rest == 0)) then Some Align
    else None

-- the field that a segment of a layout spells
abbrev pub field_of : List ℕ → Option Field
field_of [] = None
field_of (letter ∷ rest) = field_after letter rest

-- the segments between commas
abbrev pub segments : List ℕ → List (List ℕ)
segments text = slice_split (λ b. b == 44) text

-- a list with one more item at its start; an error is kept
abbrev pub one_more : {A E : Type 0} → A → Result (List A) E → Result (List A) E
one_more x (Ok xs) = Ok (x ∷ xs)
one_more x (Err e) = Err e

-- the field number k before the others, or the fault if its text spells none
abbrev pub field_and : ℕ → Option Field → Result (List Field) Fault → Result (List Field) Fault
field_and k None others = Err (fault k BadLayout)
field_and k (Some f) others = one_more f others

-- the fields that segments spell, numbered from k on, or the first segment that spells none
abbrev pub fields_of : ℕ → List (List ℕ) → Result (List Field) Fault
fields_of k [] = Ok []
fields_of k (segment ∷ others) = field_and k (field_of segment) (fields_of (k + 1) others)

-- the fields that a text spells, or the fault in it
abbrev pub layout_of : List ℕ → Result (List Field) Fault
layout_of text =
    if nat_lt 256 (length (segments text)) then Err (fault 0 TooManyFields) else fields_of 1 (segments text)

-- memory was refused, or the result is this one
abbrev pub IsUnlessMemory : {A : Type 0} → Result A Fault → Result A Fault → Type 0
IsUnlessMemory expected result = (result ≡ Err (fault 0 OutOfMemory)) ⊎ (result ≡ expected)

-- the numbers of a field are in their ranges
abbrev pub IsField : Field → Type 0
IsField (Unsigned n) = (1 ≤ n) × (n ≤ 128)
IsField (Signed n) = (1 ≤ n) × (n ≤ 128)
IsField (Bytes n) = (1 ≤ n) × (n ≤ 65536)
IsField (Constant n v) = (1 ≤ n) × (n ≤ 32) × (v < 2 ^ n)
IsField (Padding n) = (1 ≤ n) × (n ≤ 4096)
IsField field = Unit {0}

-- 1 to 256 fields, the numbers of each in their ranges
pub record IsLayout (fields : List Field) : Type 0 where
  pub some : 1 ≤ length fields
  pub few : length fields ≤ 256
  pub in_range : All IsField fields

-- the number of bits of each group
abbrev pub group_bits : GroupSize → ℕ
group_bits Four = 4
group_bits Eight = 8

-- the spelling of a field: its letter, and its number if it has one; a constant has two, with `=` between them
abbrev pub field_text : Field → List ℕ
field_text (Unsigned n) = 117 ∷ decimal n
field_text (Signed n) = 105 ∷ decimal n
field_text (Unary stop) = 110 ∷ decimal (digit_value stop)
field_text (Variable size) = 118 ∷ decimal (group_bits size)
field_text (Lenient size) = 108 ∷ decimal (group_bits size)
field_text (SignedVariable size) = 115 ∷ decimal (group_bits size)
field_text (Bytes n) = 98 ∷ decimal n
field_text (Constant n v) = 99 ∷ decimal n ++ 61 ∷ decimal v
field_text (Padding n) = 112 ∷ decimal n
field_text Align = 97 ∷ []

-- the texts of fields, joined by commas
abbrev pub layout_text : List Field → List ℕ
layout_text fields = join_with_byte 44 (map field_text fields)

-- Variable-width numbers: encodings made of groups of bits.
use Rattle.std.specs.Prelude.{◌≡◌, ℕ, zero, suc, ◌+◌, ◌-◌, ◌*◌, ◌/◌, ◌%◌, ◌^◌, ◌<◌, List, Bool, true, ◌&&◌, ◌++◌, length, take, drop, Result, Ok, Err, nat_lt, if◌then◌else◌}
use Rattle.std.specs.Int.{div_ceil}
use Rattle.bitstream_number.specs.Word.{Order, word, number}
use Rattle.bitstream_count.specs.declared.error.Error.{Error}
use Rattle.bitstream_count.specs.declared.error.Error.TheVariants.{VariableWidthOverflow, RedundantGroup}
use Rattle.bitstream_count.specs.Codec.{Prefix, Incomplete, Done}

-- The encoding w of v is a group of `field` bits and `more` further groups. The highest bit of a group is 1 if another
-- group follows. The other `field - 1` bits are digits of v. The first group has the lowest digits of v. In a strict
-- encoding of two groups or more, the last group is not 0: the groups after any group represent more than 0.
abbrev pub IsGroups : Bool → Order → ℕ → ℕ → List Bool → ℕ → Type 0
IsGroups strict o field zero w v = (v < 2 ^ (field - 1)) × (w ≡ word o field v)
IsGroups strict o field (suc more) w v =
    (low : ℕ) × (high : ℕ) × (rest : List Bool)
    × (low < 2 ^ (field - 1))
    × (strict ≡ true → 0 < high)
    × (w ≡ word o field (2 ^ (field - 1) + low) ++ rest)
    × (v ≡ low + 2 ^ (field - 1) * high)
    × IsGroups strict o field more rest high

-- w is an encoding of v in groups
abbrev pub Vbr : Bool → Order → ℕ → List Bool → ℕ → Type 0
Vbr strict o field w v = (more : ℕ) × IsGroups strict o field more w v

-- w is an encoding of v that is accepted for a type of `width` bits: v is below the limit, and the digits of each group
-- begin below bit `width`
abbrev pub IsAccepted : Bool → Order → ℕ → ℕ → ℕ → List Bool → ℕ → Type 0
IsAccepted strict o field width limit w v =
    (more : ℕ) × IsGroups strict o field more w v × (more * (field - 1) < width) × (v < limit)

-- ---- writing

-- the groups of v: at most `more` after the first, and the last one holds the rest of v
unfoldable pub groups : ℕ → Order → ℕ → ℕ → List Bool
groups zero o field v = word o field v
groups (suc more) o field v =
    let all = word o field (2 ^ (field - 1) + v % 2 ^ (field - 1)) ++ groups more o field (v / 2 ^ (field - 1)) in
    if nat_lt v (2 ^ (field - 1)) then word o field v else all

-- the encoding that is written for v
abbrev pub vbr_word : Order → ℕ → ℕ → List Bool
vbr_word o field v = groups v o field v

-- ---- reading

-- low digits + high * 2^payload, of a group and the groups after it; a strict read also requires high > 0
abbrev pub join_groups : Bool → ℕ → ℕ → ℕ → Result ℕ Error
join_groups strict field low high =
    if strict && nat_lt high 1 then Err RedundantGroup else Ok (low + 2 ^ (field - 1) * high)

-- a group with these low digits, before the prefix of the other groups
abbrev pub before : Bool → ℕ → ℕ → Prefix ℕ → Prefix ℕ
before strict field low Incomplete = Incomplete
before strict field low (Done n (Ok high)) = Done (field + n) (join_groups strict field low high)
before strict field low (Done n (Err e)) = Done (field + n) (Err e)

-- the prefix that is groups: up to the last one, or `VariableWidthOverflow` after `room` of them
unfoldable pub groups_at : Bool → ℕ → Order → ℕ → List Bool → Prefix ℕ
groups_at strict zero o field bits = Done 0 (Err VariableWidthOverflow)
groups_at strict (suc room) o field bits =
    let first = number o (take field bits) in
    let all = before strict field (first - 2 ^ (field - 1)) (groups_at strict room o field (drop field bits)) in
    if nat_lt (length bits) field then Incomplete
    else if nat_lt first (2 ^ (field - 1)) then Done field (Ok first) else all

-- a prefix with its number below the limit, else `VariableWidthOverflow`
abbrev pub below : ℕ → Prefix ℕ → Prefix ℕ
below limit Incomplete = Incomplete
below limit (Done n (Ok v)) = Done n (if nat_lt v limit then Ok v else Err VariableWidthOverflow)
below limit (Done n (Err e)) = Done n (Err e)

-- the prefix of a variable-width read: a number below the limit of a type of `width` bits, in at most the groups that
-- begin within the type
abbrev pub read_vbr : Bool → Order → ℕ → ℕ → ℕ → List Bool → Prefix ℕ
read_vbr strict o field width limit bits = below limit (groups_at strict (div_ceil width (field - 1)) o field bits)

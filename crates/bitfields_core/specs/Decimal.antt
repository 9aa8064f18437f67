-- Decimals, as layouts and value lines spell numbers.
use Rattle.std.specs.Prelude.{ℕ, zero, suc, ◌+◌, ◌-◌, ◌^◌, ℤ, pos, negsuc, [], ◌∷◌, Bool, ◌==◌, ◌&&◌, ◌||◌, not, if◌then◌else◌, List, length, map, slice_index, Option, Some, None, Result, Ok, Err, nat_lt, nat_le}
use Rattle.std.specs.Char.{is_ascii_digit}
use Rattle.std.specs.Fmt.{decimal}
use Rattle.std.specs.List.{list_all, slice_split, join_with_byte}
use Rattle.std.specs.Str.Parse.{digits_value}
use Rattle.bitfields_core.specs.declared.fault.Reason.{Reason}
use Rattle.bitfields_core.specs.declared.fault.Reason.TheVariants.{ValueMisspelt, ValueDoesNotFit}

-- `0`, or a digit 1 to 9 followed by digits
abbrev pub is_decimal : List ℕ → Bool
is_decimal text =
    nat_lt 0 (length text) && (not (slice_index text 0 == 48) || (length text == 1)) && list_all is_ascii_digit text

-- the number that a decimal spells
abbrev pub decimal_value : List ℕ → ℕ
decimal_value text = digits_value 10 text

-- the number from low to high that a text spells, if it spells one
abbrev pub decimal_within : ℕ → ℕ → List ℕ → Option ℕ
decimal_within low high text =
    if is_decimal text && nat_le low (decimal_value text) && nat_le (decimal_value text) high
    then Some (decimal_value text) else None

-- the number below a limit that a text spells, or the reason why it spells none
abbrev pub decimal_below : ℕ → List ℕ → Result ℕ Reason
decimal_below limit text =
    if is_decimal text
    then (if nat_lt (decimal_value text) limit then Ok (decimal_value text) else Err ValueDoesNotFit)
    else Err ValueMisspelt

-- a number that a text spells, as a signed one
abbrev pub positive : Result ℕ Reason → Result ℤ Reason
positive (Ok n) = Ok (pos n)
positive (Err why) = Err why

-- the negative of a number that a text spells after its sign; 0 has none
abbrev pub negative : Result ℕ Reason → Result ℤ Reason
negative (Ok zero) = Err ValueMisspelt
negative (Ok (suc n)) = Ok (negsuc n)
negative (Err why) = Err why

-- the signed number of n bits that a text's first character and what follows it spell: `-` and a decimal other than
-- `0`, or a decimal
abbrev pub signed_after : ℕ → ℕ → List ℕ → Result ℤ Reason
signed_after n first rest =
    if first == 45 then negative (decimal_below (2 ^ (n - 1) + 1) rest)
    else positive (decimal_below (2 ^ (n - 1)) (first ∷ rest))

-- the signed number of n bits that a text spells, or the reason why it spells none
abbrev pub signed_within : ℕ → List ℕ → Result ℤ Reason
signed_within n [] = Err ValueMisspelt
signed_within n (first ∷ rest) = signed_after n first rest

-- the parts between single spaces
abbrev pub split_spaces : List ℕ → List (List ℕ)
split_spaces text = slice_split (λ b. b == 32) text

-- true if the number of a decimal is a byte
abbrev pub is_byte : List ℕ → Bool
is_byte text = nat_lt (decimal_value text) 256

-- the bytes that parts spell, or the reason why they do not: n decimals, each of them a byte
abbrev pub bytes_of_parts : ℕ → List (List ℕ) → Result (List ℕ) Reason
bytes_of_parts n parts =
    if (length parts == n) && list_all is_decimal parts
    then (if list_all is_byte parts then Ok (map decimal_value parts) else Err ValueDoesNotFit)
    else Err ValueMisspelt

-- the n bytes that a text spells, as decimals with single spaces between, or the reason why it does not
abbrev pub bytes_within : ℕ → List ℕ → Result (List ℕ) Reason
bytes_within n text = bytes_of_parts n (split_spaces text)

-- bytes as decimals, with single spaces between
abbrev pub bytes_text : List ℕ → List ℕ
bytes_text bytes = join_with_byte 32 (map decimal bytes)

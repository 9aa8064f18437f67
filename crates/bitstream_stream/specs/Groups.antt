-- The groups of a number of variable width, one by one.
use Rattle.std.specs.Prelude.{◌≡◌, ℕ, ◌^◌, ◌<◌, ◌++◌, Bool, ◌&&◌, nat_lt}
use Rattle.bitstream_number.specs.Word.{Order, word}
use Rattle.bitstream_count.specs.Vbr.{vbr_word}

-- the groups of v are this group and then the groups of a smaller rest
pub record IsFirstGroup (field v group rest : ℕ) : Type 0 where
  pub fits : group < 2 ^ field
  pub less : rest < v
  pub parts : (o : Order) → vbr_word o field v ≡ word o field group ++ vbr_word o field rest

-- v is held by one group, which is v
pub record IsLastGroup (field v : ℕ) : Type 0 where
  pub fits : v < 2 ^ field
  pub whole : (o : Order) → vbr_word o field v ≡ word o field v

-- true if a strict read rejects the groups after the ones with the lowest `shift` digits: these groups
-- represent 0, and there are some before them
abbrev pub rejects : Bool → ℕ → ℕ → Bool
rejects strict shift high = strict && (nat_lt high 1 && nat_lt 0 shift)

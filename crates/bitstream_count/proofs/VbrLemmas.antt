-- Groups: no encoding is a prefix of another, which encoding is the shortest, and what a read returns.
use Rattle.std.proofs.Common.{◌≡◌, ℕ, ℤ, pos, negsuc, zero, suc, ◌+◌, ◌-◌, ◌*◌, ◌/◌, ◌%◌, ◌^◌, ◌<◌, ◌≤◌, ◌⊎◌, max, Bool, true, false, cond, ltb, List, ◌++◌, length, take, drop, Result, Ok, Err, refl, sym, ap, ap₂, ◌∙◌, subst, arith, inl, inr, append_assoc}
use Rattle.std.specs.Int.{div_ceil}
use Rattle.std.proofs.Math.Nat.{div-lt_self, zero-mul, mod-lt, mul-le-mul_left, mod-eq_of_lt}
use Rattle.std.proofs.lemmas.Bool.{cases_lt, lt-ltb, le-ltb, ltb-false, ltb-true}
use Rattle.std.proofs.lemmas.List.{length-append, length-drop, length-take-le, take_at, drop_at}
use Rattle.std.proofs.lemmas.Nat.{pow_pos, pow-add, pow_below, le-div, mul-le, mod_low, shr_high, div-add-mod'}
use Rattle.std.proofs.Math.Seq.{take-add}
use Rattle.std.proofs.Math.Pow.{pow_mono}
use Rattle.bitstream_number.specs.Word.{Order, word, number, FitsSignedBits, zig, zag}
use Rattle.bitstream_number.proofs.WordLemmas.{half, length-word, number-word, word-number, number-lt, same_from_word}
use Rattle.bitstream_number.proofs.SignedLemmas.{zig-zag}
use Rattle.bitstream_count.specs.declared.error.Error.{Error}
use Rattle.bitstream_count.specs.declared.error.Error.TheVariants.{VariableWidthOverflow, RedundantGroup}
use Rattle.bitstream_count.specs.Codec.{Prefix, Incomplete, Done}
use Rattle.bitstream_count.specs.Vbr.{IsGroups, IsAccepted, groups, vbr_word, join_groups, before, groups_at, below, read_vbr}

-- the parts of two lists that are cut at one place
same_parts : (u v x y : List Bool) → length u ≡ length v → u ++ x ≡ v ++ y → (u ≡ v) × (x ≡ y)
same_parts u v x y len e = (
  sym (take_at u x (length u) refl) ∙ ap (take (length u)) e ∙ take_at v y (length u) (sym len),
  sym (drop_at u x (length u) refl) ∙ ap (drop (length u)) e ∙ drop_at v y (length u) (sym len),
)

abbrev found : ℕ → ℕ → Prefix ℕ
found n v = Done n (Ok v)

abbrev overflow : Result ℕ Error
overflow = Err VariableWidthOverflow

ok_below : (b : Bool) (x v : ℕ) → cond b (Ok x) overflow ≡ Ok v → (b ≡ true) × (x ≡ v)
ok_below true x v e = (refl, cc)
ok_below false x v e = absurd cc

abbrev either : Bool → ℕ → Result ℕ Error
either b x = cond b (Err RedundantGroup) (Ok x)

either_ok : (b : Bool) (x v : ℕ) → either b x ≡ Ok v → (b ≡ false) × (v ≡ x)
either_ok true x v e = absurd cc
either_ok false x v e = (refl, cc)

module _ (o : Order) (field : ℕ) (some : 0 < field) where
  -- the first groups of two lists
  same_group : (a b : ℕ) (x y : List Bool) → a < 2 ^ field → b < 2 ^ field → word o field a ++ x ≡ word o field b ++ y
      → (a ≡ b) × (x ≡ y)
  same_group a b x y p q e =
      let parts = same_parts (word o field a) (word o field b) x y (length-word o field a ∙ sym (length-word o field b))
      e in
      (same_from_word o field a b p q parts.0, parts.1)

  pub IsGroups-length : (strict : Bool) (more : ℕ) (w : List Bool) (v : ℕ) → IsGroups strict o field more w v
      → length w ≡ field + more * field
  IsGroups-length strict zero w v g = ap length g.1 ∙ length-word o field v ∙ omega arith
  IsGroups-length strict (suc more) w v (low, high, rest, p, last, e, n, g) =
      ap length e ∙ length-append (word o field (2 ^ (field - 1) + low)) rest
      ∙ rw (length-word o field (2 ^ (field - 1) + low), IsGroups-length strict more rest high g) (omega arith)

  pub groups_apart : (s t : Bool) (j k : ℕ) (u v : List Bool) (a b : ℕ) (x y : List Bool) → IsGroups s o field j u a
      → IsGroups t o field k v b → u ++ x ≡ v ++ y → (u ≡ v) × (a ≡ b)
  groups_apart s t zero zero u v a b x y p q e =
      let same = same_group a b x y (omega (arith, half field some, p.0)) (omega (arith, half field some, q.0))
      (rw (← p.1, ← q.1) e) in
      (p.1 ∙ ap (word o field) same.0 ∙ sym q.1, same.0)
  groups_apart s t zero (suc k) u v a b x y p (low, high, rest, lt, last, e', n, g) e =
      let heads = sym (ap (λ (w : List Bool). w ++ x) p.1) ∙ e ∙ ap (λ (w : List Bool). w ++ y) e'
      ∙ append_assoc (word o field (2 ^ (field - 1) + low)) rest y in
      let same = same_group a (2 ^ (field - 1) + low) x (rest ++ y) (omega (arith, half field some, p.0))
      (omega (arith, half field some, lt)) heads in
      absurd (omega (arith, same.0, p.0))
  groups_apart s t (suc j) zero u v a b x y (low, high, rest, lt, last, e', n, g) q e =
      let heads = sym (append_assoc (word o field (2 ^ (field - 1) + low)) rest x)
      ∙ sym (ap (λ (w : List Bool). w ++ x) e') ∙ e ∙ ap (λ (w : List Bool). w ++ y) q.1 in
      let same = same_group (2 ^ (field - 1) + low) b (rest ++ x) y (omega (arith, half field some, lt))
      (omega (arith, half field some, q.0)) heads in
      absurd (omega (arith, same.0, q.0))
  groups_apart s t (suc j) (suc k) u v a b x y (low, high, rest, lt, last, e', n, g)
      (low2, high2, rest2, lt2, last2, e2, n2, g2) e =
      let heads = sym (append_assoc (word o field (2 ^ (field - 1) + low)) rest x)
      ∙ sym (ap (λ (w : List Bool). w ++ x) e') ∙ e ∙ ap (λ (w : List Bool). w ++ y) e2
      ∙ append_assoc (word o field (2 ^ (field - 1) + low2)) rest2 y in
      let same = same_group (2 ^ (field - 1) + low) (2 ^ (field - 1) + low2) (rest ++ x) (rest2
      ++ y) (omega (arith, half field some, lt)) (omega (arith, half field some, lt2)) heads in
      let lows : low ≡ low2 = omega (arith, same.0) in
      let others = groups_apart s t j k rest rest2 high high2 x y g g2 same.1 in (
        e' ∙ ap₂ (λ (n : ℕ) (w : List Bool). word o field (2 ^ (field - 1) + n) ++ w) lows others.0 ∙ sym e2,
        n ∙ ap₂ (λ (i j : ℕ). i + 2 ^ (field - 1) * j) lows others.1 ∙ sym n2,
      )

  -- ---- what is written

  groups_enough : (f g v : ℕ) → 2 ≤ field → v ≤ f → v ≤ g → groups f o field v ≡ groups g o field v
  unfolding groups
  groups_enough zero zero v wide p q = refl
  groups_enough zero (suc g) v wide p q = let small : v < 2 ^ (field - 1) = omega (arith, pow_pos (field - 1)) in
      rw (lt-ltb v (2 ^ (field - 1)) small) refl
  groups_enough (suc f) zero v wide p q = let small : v < 2 ^ (field - 1) = omega (arith, pow_pos (field - 1)) in
      rw (lt-ltb v (2 ^ (field - 1)) small) refl
  groups_enough (suc f) (suc g) v wide p q =
      elim (cases_lt v (2 ^ (field - 1))) [
        | inl small ↦ rw (lt-ltb v (2 ^ (field - 1)) small) refl
        | inr large ↦
            let less : v / 2 ^ (field - 1) < v = div-lt_self (omega (arith, pow_pos (field - 1)))
            (pow_below 0 (field - 1) (omega arith)) in
            ap (λ (w : List Bool). cond (ltb v (2 ^ (field - 1))) (word o field v)
            (word o field (2 ^ (field - 1) + v % 2 ^ (field - 1)) ++ w))
            (groups_enough f g (v / 2 ^ (field - 1)) wide (omega arith) (omega arith))
      ]

  pub vbr_word_small : (v : ℕ) → v < 2 ^ (field - 1) → vbr_word o field v ≡ word o field v
  unfolding groups
  vbr_word_small zero small = refl
  vbr_word_small (suc v) small = rw (lt-ltb (suc v) (2 ^ (field - 1)) small) refl

  pub vbr_word_large : (v : ℕ) → 2 ≤ field → 2 ^ (field - 1) ≤ v → vbr_word o field v
      ≡ word o field (2 ^ (field - 1) + v % 2 ^ (field - 1)) ++ vbr_word o field (v / 2 ^ (field - 1))
  unfolding groups
  vbr_word_large zero wide large = absurd (omega (arith, pow_pos (field - 1)))
  vbr_word_large (suc v) wide large =
      let less : suc v / 2 ^ (field - 1) < suc v = div-lt_self (omega arith) (pow_below 0 (field - 1) (omega arith)) in
      rw (le-ltb (suc v) (2 ^ (field - 1)) large) (ap (λ (w : List Bool). word o field
      (2 ^ (field - 1) + suc v % 2 ^ (field - 1)) ++ w)
      (groups_enough v (suc v / 2 ^ (field - 1)) (suc v / 2 ^ (field - 1)) wide (omega arith) (omega arith)))

  -- it encodes v, in the fewest groups
  pub vbr_word_spells : (strict : Bool) (fuel v : ℕ) → 2 ≤ field → v ≤ fuel → (more : ℕ)
      × IsGroups strict o field more (vbr_word o field v) v × (2 ^ (more * (field - 1)) ≤ max 1 v)
  vbr_word_spells strict zero v wide le =
      let small : v < 2 ^ (field - 1) = omega (arith, pow_pos (field - 1)) in
      (0, (small, vbr_word_small v small), rw (zero-mul (field - 1)) (omega arith))
  vbr_word_spells strict (suc fuel) v wide le =
      elim (cases_lt v (2 ^ (field - 1))) [
        | inl small ↦ (0, (small, vbr_word_small v small), rw (zero-mul (field - 1)) (omega arith))
        | inr large ↦
            let less : v / 2 ^ (field - 1) < v = div-lt_self (omega (arith, pow_pos (field - 1)))
            (pow_below 0 (field - 1) (omega arith)) in
            let high : 1 ≤ v / 2 ^ (field - 1) = le-div 1 v (2 ^ (field - 1)) (pow_pos (field - 1)) (omega arith) in
            let others = vbr_word_spells strict fuel (v / 2 ^ (field - 1)) wide (omega arith) in
            let power : 2 ^ (suc others.0 * (field - 1)) ≡ 2 ^ (field - 1) * 2 ^ (others.0 * (field - 1)) =
            ap (λ n. 2 ^ n) (omega arith) ∙ pow-add 2 (field - 1) (others.0 * (field - 1)) in
            let bound : 2 ^ (others.0 * (field - 1)) ≤ v / 2 ^ (field - 1) = omega (arith, others.2) in (
              suc others.0,
              (
                v % 2 ^ (field - 1),
                v / 2 ^ (field - 1),
                vbr_word o field (v / 2 ^ (field - 1)),
                mod-lt v (pow_pos (field - 1)),
                λ is. omega (arith, high),
                vbr_word_large v wide large,
                omega (arith, pow_pos (field - 1)),
                others.1,
              ),
              omega (arith, power, mul-le-mul_left (2 ^ (field - 1)) bound, pow_pos (field - 1)),
            )
      ]

  pub vbr_word_accepted : (strict : Bool) (width limit v : ℕ) → 2 ≤ field → 0 < width → limit ≤ 2 ^ width → v < limit
      → IsAccepted strict o field width limit (vbr_word o field v) v
  vbr_word_accepted strict width limit v wide bits most small =
      let spells = vbr_word_spells strict v v wide (omega arith) in (
        spells.0,
        spells.1,
        elim (cases_lt (spells.0 * (field - 1)) width) [
          | inl fits ↦ fits
          | inr past ↦ absurd (omega (arith, spells.2, small, most, pow_mono past, pow_below 0 width bits))
        ],
        small,
      )

  -- the same, by the parts of v
  vbr_word_of : (low high v : ℕ) → 2 ≤ field → low < 2 ^ (field - 1) → v ≡ low + 2 ^ (field - 1) * high
      → 2 ^ (field - 1) ≤ v → vbr_word o field v ≡ word o field (2 ^ (field - 1) + low) ++ vbr_word o field high
  vbr_word_of low high v wide lt n large =
      let n' : v ≡ high * 2 ^ (field - 1) + low = omega (arith, n) in
      let lows : v % 2 ^ (field - 1) ≡ low = ap (λ k. k % 2 ^ (field - 1)) n' ∙ mod_low high (field - 1) low lt in
      let highs : v / 2 ^ (field - 1) ≡ high = ap (λ k. k / 2 ^ (field - 1)) n' ∙ shr_high high (field - 1) low lt in
      vbr_word_large v wide large ∙ ap₂ (λ (i j : ℕ). word o field (2 ^ (field - 1) + i)
      ++ vbr_word o field j) lows highs

  -- ---- the shortest, and the only strict one

  pub vbr_word_shortest : (strict : Bool) (more : ℕ) (w : List Bool) (v : ℕ) → 2 ≤ field
      → IsGroups strict o field more w v → (w ≡ vbr_word o field v) ⊎ (length (vbr_word o field v) < length w)
  vbr_word_shortest strict zero w v wide g = inl (g.1 ∙ sym (vbr_word_small v g.0))
  vbr_word_shortest strict (suc more) w v wide (low, high, rest, lt, last, e, n, g) =
      let len : length w ≡ field + length rest = ap length e ∙ length-append (word o field (2 ^ (field - 1) + low)) rest
      ∙ ap (λ k. k + length rest) (length-word o field (2 ^ (field - 1) + low)) in
      elim (cases_lt v (2 ^ (field - 1))) [
        | inl small ↦ inr (omega (
          arith,
          ap length (vbr_word_small v small),
          length-word o field v,
          len,
          IsGroups-length strict more rest high g,
        ))
        | inr large ↦
            let written = vbr_word_of low high v wide lt n large in
            elim (vbr_word_shortest strict more rest high wide g) [
              | inl same ↦ inl (e ∙ ap (λ (u : List Bool). word o field (2 ^ (field - 1) + low) ++ u) same
                  ∙ sym written)
              | inr longer ↦ inr (omega (
                arith,
                ap length written,
                length-append (word o field (2 ^ (field - 1) + low)) (vbr_word o field high),
                length-word o field (2 ^ (field - 1) + low),
                len,
                longer,
              ))
            ]
      ]

  pub vbr_word_only : (more : ℕ) (w : List Bool) (v : ℕ) → 2 ≤ field → IsGroups true o field more w v
      → w ≡ vbr_word o field v
  vbr_word_only zero w v wide g = g.1 ∙ sym (vbr_word_small v g.0)
  vbr_word_only (suc more) w v wide (low, high, rest, lt, last, e, n, g) =
      let large : 2 ^ (field - 1) ≤ v = omega (arith, n, mul-le-mul_left (2 ^ (field - 1)) (last refl)) in
      e ∙ ap (λ (u : List Bool). word o field (2 ^ (field - 1) + low) ++ u) (vbr_word_only more rest high wide g)
      ∙ sym (vbr_word_of low high v wide lt n large)

  -- ---- what is read

  first_number : (x : ℕ) (rest : List Bool) → x < 2 ^ field → number o (take field (word o field x ++ rest)) ≡ x
  first_number x rest p = ap (number o) (take_at (word o field x) rest field (length-word o field x))
      ∙ number-word o field x ∙ mod-eq_of_lt p

  long_enough : (x : ℕ) (rest : List Bool) → ltb (length (word o field x ++ rest)) field ≡ false
  long_enough x rest = le-ltb (length (word o field x ++ rest)) field
      (omega (arith, length-append (word o field x) rest, length-word o field x))

  joined-last : (strict : Bool) (low high : ℕ) → (strict ≡ true → 0 < high)
      → join_groups strict field low high ≡ Ok (low + 2 ^ (field - 1) * high)
  joined-last false low high last = refl
  joined-last true low high last = rw (le-ltb high 1 (last refl)) refl

  groups_at-IsGroups : (strict : Bool) (room more : ℕ) (w : List Bool) (v : ℕ) (rest : List Bool)
      → IsGroups strict o field more w v → more < room
      → groups_at strict room o field (w ++ rest) ≡ found (length w) v
  unfolding groups_at
  groups_at-IsGroups strict zero more w v rest g p = absurd (omega arith)
  groups_at-IsGroups strict (suc room) zero w v rest g p =
      ap (λ (u : List Bool). groups_at strict (suc room) o field (u ++ rest)) g.1
      ∙ rw (
        long_enough v rest,
        first_number v rest (omega (arith, half field some, g.0)),
        lt-ltb v (2 ^ (field - 1)) g.0,
      ) (ap (λ n. found n v) (sym (length-word o field v) ∙ sym (ap length g.1)))
  groups_at-IsGroups strict (suc room) (suc more) w v rest (low, high, others, lt, last, e, n, g) p =
      let x = 2 ^ (field - 1) + low in
      let regrouped : w ++ rest ≡ word o field x ++ (others ++ rest) = ap (λ (u : List Bool). u ++ rest) e
      ∙ append_assoc (word o field x) others rest in
      let next = ap (groups_at strict room o field)
      (drop_at (word o field x) (others ++ rest) field (length-word o field x))
      ∙ groups_at-IsGroups strict room more others high rest g (omega arith) in
      let len : field + length others ≡ length w = sym (ap length e ∙ length-append (word o field x) others
      ∙ ap (λ k. k + length others) (length-word o field x)) in
      let low_is : x - 2 ^ (field - 1) ≡ low = omega arith in
      ap (groups_at strict (suc room) o field) regrouped
      ∙ rw (
        long_enough x (others ++ rest),
        first_number x (others ++ rest) (omega (arith, half field some, lt)),
        le-ltb x (2 ^ (field - 1)) (omega arith),
        next,
        low_is,
        joined-last strict low high last,
      ) (ap₂ found len (omega (arith, n)))

  -- how many groups the width allows
  room_for : (width more : ℕ) → 2 ≤ field → more * (field - 1) < width → more < div_ceil width (field - 1)
  room_for width more wide begins =
      let some : 0 < field - 1 = omega arith in
      let parts = div-add-mod' width (field - 1) in
      elim (cases_lt more (width / (field - 1))) [
        | inl less ↦ omega arith
        | inr large ↦
            let same : more ≡ width / (field - 1) = omega (arith, le-div more width (field - 1) some (omega arith)) in
            omega (arith, parts, same, ap (λ n. n * (field - 1)) same)
      ]

  pub read_vbr-IsAccepted : (strict : Bool) (width limit : ℕ) (w : List Bool) (v : ℕ) (rest : List Bool) → 2 ≤ field
      → IsAccepted strict o field width limit w v
      → read_vbr strict o field width limit (w ++ rest) ≡ found (length w) v
  read_vbr-IsAccepted strict width limit w v rest wide (more, g, begins, small) =
      rw (
        groups_at-IsGroups strict (div_ceil width (field - 1)) more w v rest g (room_for width more wide begins),
        lt-ltb v limit small,
      ) refl

  -- ---- only accepted encodings are read

  within_room : (width more : ℕ) → 2 ≤ field → more < div_ceil width (field - 1) → more * (field - 1) < width
  within_room width more wide begins =
      let parts = div-add-mod' width (field - 1) in
      elim (cases_lt more (width / (field - 1))) [
        | inl less ↦ omega (
          arith,
          parts,
          mul-le (suc more) (field - 1) (width / (field - 1)) (field - 1) less
              (omega arith),
        )
        | inr large ↦
            let same : more ≡ width / (field - 1) = omega arith in
            omega (arith, parts, ap (λ n. n * (field - 1)) same)
      ]

  not_short : (b : Bool) (x : Prefix ℕ) (n v : ℕ) → cond b Incomplete x ≡ found n v → (b ≡ false) × (x ≡ found n v)
  not_short true x n v e = absurd cc
  not_short false x n v e = (refl, e)

  joined_found : (strict : Bool) (low high v : ℕ) → join_groups strict field low high ≡ Ok v
      → (strict ≡ true → 0 < high) × (v ≡ low + 2 ^ (field - 1) * high)
  joined_found false low high v e = (λ is. absurd cc, cc)
  joined_found true low high v e =
      let parts = either_ok (ltb high 1) (low + 2 ^ (field - 1) * high) v e in
      (λ is. ltb-false high 1 parts.0, parts.1)

  before_found : (strict : Bool) (low : ℕ) (others : Prefix ℕ) (n v : ℕ) → before strict field low others ≡ found n v
      → (k : ℕ) × (high : ℕ) × (others ≡ found k high) × (n ≡ field + k) × (strict ≡ true → 0 < high)
      × (v ≡ low + 2 ^ (field - 1) * high)
  before_found strict low Incomplete n v e = absurd cc
  before_found strict low (Done k (Ok high)) n v e =
      let size : field + k ≡ n = cc in
      let number : join_groups strict field low high ≡ Ok v = cc in
      let parts = joined_found strict low high v number in
      (k, high, refl, sym size, parts.0, parts.1)
  before_found strict low (Done k (Err d)) n v e = absurd cc

  pub groups_at_found : (strict : Bool) (room : ℕ) (bits : List Bool) (n v : ℕ)
      → groups_at strict room o field bits ≡ found n v
      → (more : ℕ) × (more < room) × (n ≤ length bits) × IsGroups strict o field more (take n bits) v
  unfolding groups_at
  groups_at_found strict zero bits n v e = absurd cc
  groups_at_found strict (suc room) bits n v e =
      let long = not_short _ _ n v e in
      let first = number o (take field bits) in
      let enough : field ≤ length bits = ltb-false _ _ long.0 in
      let len : length (take field bits) ≡ field = length-take-le field bits enough in
      let spelled : take field bits ≡ word o field first = sym (word-number o (take field bits))
      ∙ ap (λ k. word o k first) len in
      let small : first < 2 ^ field = subst (λ k. first < 2 ^ k) len (number-lt o (take field bits)) in
      elim (cases_lt first (2 ^ (field - 1))) [
        | inl last ↦
            let same = rw (lt-ltb first (2 ^ (field - 1)) last) at long.1 in
            let size : field ≡ n = cc same in
            let value : first ≡ v = cc same in (
              0,
              omega arith,
              omega (arith, size),
              (
                omega (arith, value),
                ap (λ k. take k bits) (sym size) ∙ spelled
                    ∙ ap (word o field) value,
              ),
            )
        | inr goes_on ↦
            let others = before_found strict (first - 2 ^ (field - 1))
            (groups_at strict room o field (drop field bits)) n v
            (rw (le-ltb first (2 ^ (field - 1)) goes_on) at long.1) in
            let k = others.0 in
            let rest = take k (drop field bits) in
            let deeper = groups_at_found strict room (drop field bits) k others.1 others.2 in
            let whole : first ≡ 2 ^ (field - 1) + (first - 2 ^ (field - 1)) = omega arith in (
              suc deeper.0,
              omega (arith, deeper.1),
              omega (arith, others.3, deeper.2, length-drop field bits),
              (
                first - 2 ^ (field - 1),
                others.1,
                rest,
                omega (arith, small, half field some),
                others.4,
                ap (λ i. take i bits) others.3 ∙ take-add field k bits
                    ∙ ap (λ (u : List Bool). u ++ rest) (spelled ∙ ap (word o field) whole),
                others.5,
                deeper.3,
              ),
            )
      ]

  below_found : (limit : ℕ) (prefix : Prefix ℕ) (n v : ℕ) → below limit prefix ≡ found n v → (prefix ≡ found n v)
      × (v < limit)
  below_found limit Incomplete n v e = absurd cc
  below_found limit (Done k (Err d)) n v e = absurd cc
  below_found limit (Done k (Ok x)) n v e =
      let fits = ok_below (ltb x limit) x v cc in
      let size : k ≡ n = cc in
      (ap₂ found size fits.1, omega (arith, ltb-true x limit fits.0, fits.1))

  -- a read returns a number only if the bits begin with its encoding
  pub read_vbr_only : (strict : Bool) (width limit : ℕ) (bits : List Bool) (n v : ℕ) → 2 ≤ field
      → read_vbr strict o field width limit bits ≡ found n v
      → IsAccepted strict o field width limit (take n bits) v × (n ≤ length bits)
  read_vbr_only strict width limit bits n v wide e =
      let parts = below_found limit (groups_at strict (div_ceil width (field - 1)) o field bits) n v e in
      let spelled = groups_at_found strict (div_ceil width (field - 1)) bits n v parts.0 in
      ((spelled.0, spelled.3, within_room width spelled.0 wide spelled.1, parts.1), spelled.2)

  -- ---- one group, and the groups that are read after it

  pub groups_at_step : (strict : Bool) (room : ℕ) (x y : List Bool) → length x ≡ field
      → groups_at strict (suc room) o field (x ++ y)
      ≡ cond (ltb (number o x) (2 ^ (field - 1))) (Done field (Ok (number o x)))
      (before strict field (number o x - 2 ^ (field - 1)) (groups_at strict room o field y))
  unfolding groups_at
  groups_at_step strict room x y len = rw (
    le-ltb (length (x ++ y)) field (omega (arith, length-append x y)),
    take_at x y field len,
    drop_at x y field len,
  ) refl

-- ---- the order of the bits shows in no length

length-groups : (o p : Order) (more field v : ℕ) → length (groups more o field v) ≡ length (groups more p field v)
unfolding groups
length-groups o p zero field v = length-word o field v ∙ sym (length-word p field v)
length-groups o p (suc more) field v =
    let x = 2 ^ (field - 1) + v % 2 ^ (field - 1) in
    let one : length (word o field v) ≡ length (word p field v) = length-word o field v ∙ sym (length-word p field v) in
    elim (cases_lt v (2 ^ (field - 1))) [
      | inl small ↦ rw (lt-ltb v (2 ^ (field - 1)) small) one
      | inr large ↦
          rw (
            le-ltb v (2 ^ (field - 1)) large,
            length-append (word o field x)
                (groups more o field (v / 2 ^ (field - 1))),
            length-append (word p field x) (groups more p field (v / 2 ^ (field - 1))),
            length-word o field x,
            length-word p field x,
          )
          (ap (λ n. field + n) (length-groups o p more field (v / 2 ^ (field - 1))))
    ]

pub length-vbr_word : (o p : Order) (field v : ℕ) → length (vbr_word o field v) ≡ length (vbr_word p field v)
length-vbr_word o p field v = length-groups o p v field v

-- ---- signed numbers, in the order 0, -1, 1, -2, 2, ..

pub zig-lt : (n : ℕ) (x : ℤ) → 0 < n → FitsSignedBits n x → zig x < 2 ^ n
zig-lt n (pos k) some fits = omega (arith, half n some, fits)
zig-lt n (negsuc k) some fits = omega (arith, half n some, fits)

pub signed_word_shortest : (o : Order) (field : ℕ) → 0 < field → (strict : Bool) (width limit : ℕ) (x : ℤ)
    (w : List Bool) (v : ℕ) → 2 ≤ field → IsAccepted strict o field width limit w v → zag v ≡ x
    → (w ≡ vbr_word o field (zig x)) ⊎ (length (vbr_word o field (zig x)) < length w)
signed_word_shortest o field some strict width limit x w v wide accepted is =
    let same : v ≡ zig x = sym (zig-zag v) ∙ ap zig is in
    subst (λ (k : ℕ). (w ≡ vbr_word o field k) ⊎ (length (vbr_word o field k) < length w)) same
    (vbr_word_shortest o field some strict accepted.0 w v wide accepted.1)

pub signed_word_only : (o : Order) (field : ℕ) → 0 < field → (width limit : ℕ) (x : ℤ) (w : List Bool) (v : ℕ)
    → 2 ≤ field → IsAccepted true o field width limit w v → zag v ≡ x → w ≡ vbr_word o field (zig x)
signed_word_only o field some width limit x w v wide accepted is =
    let same : v ≡ zig x = sym (zig-zag v) ∙ ap zig is in
    subst (λ (k : ℕ). w ≡ vbr_word o field k) same (vbr_word_only o field some accepted.0 w v wide accepted.1)

-- Writing groups one after another, as a loop does.
use Rattle.std.specs.Prelude.{bit_and, bit_or}
use Rattle.std.proofs.Common.{◌≡◌, ◌≢◌, ℕ, ◌+◌, ◌-◌, ◌*◌, ◌/◌, ◌%◌, ◌^◌, ◌<◌, ◌≤◌, inl, inr, List, Bool, true, false, not, [], ◌++◌, length, Result, Ok, Err, refl, sym, ap, ap₂, ◌∙◌, subst, arith, append_assoc, length-append, div-one}
use Rattle.std.proofs.Math.Nat.{div-eq_of_lt, div-lt_self, mod-lt, mod_self}
use Rattle.std.proofs.lemmas.Bool.{cases_lt}
use Rattle.std.proofs.lemmas.Nat.{pow_pos, pow_below, shr-shr, le-div}
use Rattle.bitstream_number.specs.Word.{Order, word}
use Rattle.bitstream_number.proofs.Masks.{masked-is, or-sum}
use Rattle.bitstream_number.proofs.Shifts.{shr_past}
use Rattle.bitstream_number.proofs.WordLemmas.{half, length-word}
use Rattle.bitstream_count.specs.declared.error.Error.{Error}
use Rattle.bitstream_count.specs.Vbr.{vbr_word}
use Rattle.bitstream_count.proofs.VbrLemmas.{vbr_word_small, vbr_word_large}
use Rattle.bitstream_order.specs.Refusal.{Refusal}
use Rattle.bitstream_order.specs.Parts.{put_number}
use Rattle.bitstream_order.proofs.PartLemmas.{put_word, put_below}
use Rattle.bitstream_order.proofs.Moving.TakeLemmas.{word-none}
use Rattle.bitstream_stream.specs.Writing.Carries.{WriterState}
use Rattle.bitstream_stream.specs.Groups.{IsFirstGroup, IsLastGroup}
use Rattle.bitstream_stream.specs.Writing.Sink.{Sink, Writes, IsWithin}
use Rattle.bitstream_stream.specs.Writing.Writer.{queue_sink, Pushes}
use Rattle.bitstream_stream.specs.Writing.WriteTable.{unsigned, vbr}
use Rattle.bitstream_stream.proofs.Writing.BytesWritten.{appended_none}
use Rattle.bitstream_stream.proofs.Writing.WriterLemmas.{pushes_writes}
use Rattle.bitstream_stream.proofs.Writing.WriteLemmas.{unsigned-fits}
use Rattle.bitstream_stream.proofs.Writing.SinkParts.{Begun, Begun-more, from_ok, stop_later, last}

-- ---- the number of a group

pub large_of : (m rest : ℕ) → rest / 2 ^ m ≢ 0 → 2 ^ m ≤ rest
large_of m rest some = elim (cases_lt rest (2 ^ m)) [
  | inl small ↦ absurd (some (div-eq_of_lt small))
  | inr large ↦
      large
]

pub small_of : (m rest : ℕ) → rest / 2 ^ m ≡ 0 → rest < 2 ^ m
small_of m rest none = elim (cases_lt rest (2 ^ m)) [
  | inl small ↦ small
  | inr large ↦
      absurd (omega (arith, none, le-div 1 rest (2 ^ m) (pow_pos m) (omega (arith, large))))
]

-- a number is less after a group
rest_less : (m rest : ℕ) → 0 < m → 2 ^ m ≤ rest → rest / 2 ^ m < rest
rest_less m rest some large = div-lt_self (omega (arith, large, pow_pos m)) (pow_below 0 m some)

-- the m lowest digits below the digit that says that another group follows
pub group_is : (m more mask low rest group : ℕ) → more ≡ 2 ^ m → mask ≡ 2 ^ m - 1 → low ≡ bit_and rest mask → group
    ≡ bit_or more low → group ≡ 2 ^ m + rest % 2 ^ m
group_is m more mask low rest group top masks cut joined =
    let is : low ≡ rest % 2 ^ m = masked-is rest m mask low masks cut in
    let small : low < 2 ^ m = omega (arith, is, mod-lt rest (pow_pos m)) in
    let whole : more % 2 ^ m ≡ 0 = ap (λ k. k % 2 ^ m) top ∙ mod_self (2 ^ m) in
    joined ∙ or-sum more low m whole small ∙ ap₂ (λ i j. i + j) top is

module _ (field m : ℕ) (wide : 2 ≤ field) (payload : m ≡ field - 1) where
  pub group_first : (v group rest : ℕ) → 2 ^ m ≤ v → group ≡ 2 ^ m + v % 2 ^ m → rest ≡ v / 2 ^ m
      → IsFirstGroup field v group rest
  group_first v group rest large is shifted =
      let some : 0 < m = omega (arith, payload, wide) in
      let above : 2 ^ (field - 1) ≤ v = subst (λ k. 2 ^ k ≤ v) payload large in
      let digits : v % 2 ^ m < 2 ^ m = mod-lt v (pow_pos m) in
      let one : 2 ^ m ≡ 2 ^ (field - 1) = ap (λ k. 2 ^ k) payload in
      record {
        fits = omega (arith, is, digits, one, half field (omega arith));
        less = omega (arith, shifted, rest_less m v some large);
        parts = λ o. vbr_word_large o field (omega arith) v wide above
            ∙ ap₂ (λ i j. word o field i ++ vbr_word o field j) (sym (is ∙ ap (λ k. 2 ^ k + v % 2 ^ k) payload))
            (sym (shifted ∙ ap (λ k. v / 2 ^ k) payload));
      }

  pub group_last : (v : ℕ) → v < 2 ^ m → IsLastGroup field v
  group_last v small =
      let one : 2 ^ m ≡ 2 ^ (field - 1) = ap (λ k. 2 ^ k) payload in
      record {
        fits = omega (arith, small, one, half field (omega arith));
        whole = λ o. vbr_word_small o field (omega arith) v (subst (λ k. v < 2 ^ k) payload small);
      }

  -- ---- how many bits the groups have

  group_counted : (o : Order) (v rest : ℕ) → rest ≡ v / 2 ^ m → rest ≢ 0 → length (vbr_word o field v)
      ≡ field + length (vbr_word o field rest)
  group_counted o v rest shifted some =
      let large : 2 ^ m ≤ v = large_of m v (λ none. some (shifted ∙ none)) in
      let group = 2 ^ m + v % 2 ^ m in
      let parts = ap length ((group_first v group rest large refl shifted).parts o) in
      omega (arith, parts, length-append (word o field group) (vbr_word o field rest), length-word o field group)

  last_counted : (o : Order) (v : ℕ) → v / 2 ^ m ≡ 0 → length (vbr_word o field v) ≡ field
  last_counted o v none = ap length ((group_last v (small_of m v none)).whole o) ∙ length-word o field v

-- a number with something left above its lowest digits is not 0
pub some_of : (v shift : ℕ) → v / 2 ^ shift ≢ 0 → v ≢ 0
some_of v shift some = λ none. some (ap (λ k. k / 2 ^ shift) none ∙ div-eq_of_lt (pow_pos shift))

-- a number with digits from `shift` on has them within its size
begins_within : (size v shift : ℕ) → v < 2 ^ size → v / 2 ^ shift ≢ 0 → shift < size
begins_within size v shift small some = elim (cases_lt shift size) [
  | inl less ↦ less
  | inr past ↦
      absurd (some (shr_past v size shift small past))
]

-- the first groups of v and one more have this many bits, and `rest` is what is above the digits of the first groups
pub record GroupsCounted (field v bits rest : ℕ) : Type 0 where
  pub shift : ℕ
  pub few : bits ≤ field + 2 * shift
  pub left : rest ≡ v / 2 ^ shift
  pub count : (o : Order) → bits + length (vbr_word o field rest) ≡ length (vbr_word o field v) + field

module _ (field m : ℕ) (wide : 2 ≤ field) (payload : m ≡ field - 1) (v : ℕ) where
  pub counted-first : (bits : ℕ) → bits ≡ field → GroupsCounted field v bits v
  counted-first bits one = record {
    shift = 0;
    few = omega (arith, one);
    left = sym (div-one v);
    count =
        λ o. omega (arith, one);
  }

  -- two groups more
  pub counted-more : (bits step rest next : ℕ) → step ≡ 2 * field → next ≡ rest / 2 ^ (2 * m) → next ≢ 0
      → GroupsCounted field v bits rest → GroupsCounted field v (bits + step) next
  counted-more bits step rest next two shifted some counted =
      let at = counted.shift in
      let middle = rest / 2 ^ m in
      let twice : 2 * m ≡ m + m = omega arith in
      let second : next ≡ middle / 2 ^ m = shifted ∙ ap (λ k. rest / 2 ^ k) twice ∙ sym (shr-shr rest m m) in
      let begun : middle ≢ 0 = some_of middle m (λ none. some (second ∙ none)) in
      record {
        shift = at + 2 * m;
        few = omega (arith, counted.few, two, payload, wide);
        left = shifted ∙ ap (λ k. k / 2 ^ (2 * m)) counted.left ∙ shr-shr v at (2 * m);
        count = λ o. omega (
          arith,
          two,
          counted.count o,
          group_counted field m wide payload o rest middle refl begun,
          group_counted field m wide payload o middle next second some,
        );
      }

  pub counted-few : (size bits rest : ℕ) → v < 2 ^ size → rest ≢ 0 → GroupsCounted field v bits rest
      → bits ≤ field + 2 * size
  counted-few size bits rest small some counted =
      omega (arith, counted.few, begins_within size v counted.shift small (λ none. some (counted.left ∙ none)))

  -- the rest is one group
  pub counted-all : (bits rest : ℕ) → rest / 2 ^ m ≡ 0 → GroupsCounted field v bits rest → (o : Order)
      → length (vbr_word o field v) ≡ bits
  counted-all bits rest none counted o = omega (arith, counted.count o, last_counted field m wide payload o rest none)

  -- the rest is two groups
  pub counted-last : (bits step rest : ℕ) → step ≡ field → rest / 2 ^ m ≢ 0 → rest / 2 ^ (2 * m) ≡ 0
      → GroupsCounted field v bits rest → (o : Order) → length (vbr_word o field v) ≡ bits + step
  counted-last bits step rest one some none counted o =
      let middle = rest / 2 ^ m in
      let twice : 2 * m ≡ m + m = omega arith in
      let ended : middle / 2 ^ m ≡ 0 = shr-shr rest m m ∙ ap (λ k. rest / 2 ^ k) (sym twice) ∙ none in
      omega (
        arith,
        one,
        counted.count o,
        group_counted field m wide payload o rest middle refl some,
        last_counted field m wide payload o middle ended,
      )

-- ---- tests of a number that is shifted

pub is_other : {b : Bool} → true ≡ not b → b ≢ true
is_other {b = true} p q = cc
is_other {b = false} p q = cc

pub is_same : {b : Bool} → false ≡ not b → b ≡ true
is_same {b = true} p = refl
is_same {b = false} p = absurd (cc)

-- ---- the loop

-- the first groups of v were written, and those of the rest are to follow
pub record GroupsBegun {S : Type 0} (K : Sink S) (field v : ℕ) (old : S) (rest : ℕ) (mid : S) : Type 0 where
  pub word : List Bool
  pub done : Begun K old word mid
  pub parts : word ++ vbr_word K.order field rest ≡ vbr_word K.order field v

module _ {S : Type 0} (K : Sink S) (field size v : ℕ) (within : field ≤ size) where
  pub groups-start : (old mid : S) → Begun K old [] mid → GroupsBegun K field v old v mid
  groups-start old mid b = record { word = []; done = b; parts = refl }

  module _ {T : Type 0} (old mid : S) (r : Result T Error) (new : S) (rest : ℕ) (b : GroupsBegun K field v old rest mid)
    where
      pub groups-more : (group next : ℕ) (t : T) → IsFirstGroup field rest group next
          → Writes K (unsigned K.order size field group) mid r new → r ≡ Ok t → GroupsBegun K field v old next new
      groups-more group next t first w q =
          let x = word K.order field group in
          record {
            word = b.word ++ x;
            done = Begun-more K old mid new b.word x b.done (from_ok K (unsigned K.order size field group) mid r new t x
                w
                q (unsigned-fits K.order size field group (K.len mid) within first.fits));
            parts = append_assoc b.word x (vbr_word K.order field next)
                ∙ ap (λ l. b.word ++ l) (sym (first.parts K.order)) ∙ b.parts;
          }

      -- the write of a group failed, before the others
      pub groups-stop : {V : Type 0} (r' : Result V Error) (d : Error) (group next : ℕ)
          → IsFirstGroup field rest group next → Writes K (unsigned K.order size field group) mid r new → r ≡ Err d → r'
          ≡ Err d
          → IsWithin K.limit (K.len old + length (vbr_word K.order field v)) → Writes K (vbr K.order field v) old r' new
      groups-stop r' d group next first w q q' room =
          let x = word K.order field group in
          let z = vbr_word K.order field next in
          let all : vbr_word K.order field v ≡ b.word ++ (x ++ z) = sym b.parts
          ∙ ap (λ l. b.word ++ l) (first.parts K.order) in
          stop_later K (unsigned K.order size field group) (vbr K.order field v) old mid r r' new d b.word x z b.done w
          q
          q'
          (unsigned-fits K.order size field group (K.len mid) within first.fits) (ap Ok all)
          (subst (λ l. IsWithin K.limit (K.len old + length l)) all room)

      -- the last group, whatever its call returns
      pub groups-last : IsLastGroup field rest → Writes K (unsigned K.order size field rest) mid r new
          → IsWithin K.limit (K.len old + length (vbr_word K.order field v)) → Writes K (vbr K.order field v) old r new
      groups-last final w room =
          let x = word K.order field rest in
          let all : vbr_word K.order field v ≡ b.word ++ x = sym b.parts
          ∙ ap (λ l. b.word ++ l) (final.whole K.order) in
          last K (unsigned K.order size field rest) (vbr K.order field v) old mid r new b.word x b.done w
          (unsigned-fits K.order size field rest (K.len mid) within final.fits) (ap Ok all)
          (subst (λ l. IsWithin K.limit (K.len old + length l)) all room)

-- ---- the loop that gathers groups

-- the first groups of v were written or are gathered as a number of `bits` bits, and those of the rest are to follow
pub record GroupsGathered {S : Type 0} (K : Sink S) (field v : ℕ) (old : S) (rest : ℕ) (mid : S) (bits gathered : ℕ) :
    Type 0 where
  pub prefix : List Bool
  pub done : Begun K old prefix mid
  pub parts : prefix ++ (word K.order bits gathered ++ vbr_word K.order field rest) ≡ vbr_word K.order field v
  pub below : gathered < 2 ^ bits

module _ {S : Type 0} (K : Sink S) (field size v : ℕ) (within : field ≤ size) where
  pub gathered-start : (old mid : S) (gathered : ℕ) → gathered ≡ 0 → Begun K old [] mid
      → GroupsGathered K field v old v mid 0 gathered
  gathered-start old mid gathered none b = record {
    prefix = [];
    done = b;
    parts =
        ap (λ l. l ++ vbr_word K.order field v) (word-none K.order gathered);
    below = omega (arith, none);
  }

  module _ (old mid : S) (rest bits gathered : ℕ) (b : GroupsGathered K field v old rest mid bits gathered) where
    -- another group is gathered
    pub gathered-more : (n group next made : ℕ) → n ≡ field → IsFirstGroup field rest group next → made
        ≡ put_number K.order gathered bits group n → GroupsGathered K field v old next mid (bits + n) made
    gathered-more n group next made one first put =
        let o = K.order in
        let small : group < 2 ^ n = subst (λ k. group < 2 ^ k) (sym one) first.fits in
        let z = vbr_word o field next in
        let joined : word o (bits + n) made ≡ word o bits gathered ++ word o n group = ap (word o (bits + n)) put
        ∙ put_word o gathered bits group n b.below small in
        let all : vbr_word o field rest ≡ word o n group ++ z = first.parts o
        ∙ ap (λ k. word o k group ++ z) (sym one) in
        record {
          prefix = b.prefix;
          done = b.done;
          parts = ap (λ l. b.prefix ++ l) (ap (λ l. l ++ z) joined
              ∙ append_assoc (word o bits gathered) (word o n group) z ∙ ap (λ l. word o bits gathered ++ l) (sym all))
              ∙ b.parts;
          below = subst (λ k. k < 2 ^ (bits + n)) (sym put) (put_below o gathered bits group n b.below small);
        }

    -- what was gathered is written
    pub gathered-sent : {T : Type 0} (r : Result T Error) (new : S) (t : T) (none : ℕ) → none ≡ 0 → bits ≤ size
        → Writes K (unsigned K.order size bits gathered) mid r new → r ≡ Ok t
        → GroupsGathered K field v old rest new 0 none
    gathered-sent r new t none is room w q =
        let o = K.order in
        let x = word o bits gathered in
        record {
          prefix = b.prefix ++ x;
          done = Begun-more K old mid new b.prefix x b.done (from_ok K (unsigned o size bits gathered) mid r new t x w q
              (unsigned-fits o size bits gathered (K.len mid) room b.below));
          parts = ap (λ l. (b.prefix ++ x) ++ (l ++ vbr_word o field rest)) (word-none o none)
              ∙ append_assoc b.prefix x (vbr_word o field rest) ∙ b.parts;
          below = omega (arith, is);
        }

    -- it failed
    pub gathered-stop : {T V : Type 0} (r : Result T Error) (new : S) (r' : Result V Error) (d : Error) → bits ≤ size
        → Writes K (unsigned K.order size bits gathered) mid r new → r ≡ Err d → r' ≡ Err d
        → IsWithin K.limit (K.len old + length (vbr_word K.order field v)) → Writes K (vbr K.order field v) old r' new
    gathered-stop r new r' d room w q q' limit =
        let o = K.order in
        let x = word o bits gathered in
        stop_later K (unsigned o size bits gathered) (vbr o field v) old mid r r' new d b.prefix x
        (vbr_word o field rest) b.done w q q'
        (unsigned-fits o size bits gathered (K.len mid) room b.below) (ap Ok (sym b.parts))
        (subst (λ l. IsWithin K.limit (K.len old + length l)) (sym b.parts) limit)

    -- the last group where nothing is gathered, whatever the call returns
    pub gathered-none : {T : Type 0} (r : Result T Error) (new : S) → bits ≡ 0 → IsLastGroup field rest
        → Writes K (unsigned K.order size field rest) mid r new
        → IsWithin K.limit (K.len old + length (vbr_word K.order field v)) → Writes K (vbr K.order field v) old r new
    gathered-none r new none final w limit =
        let o = K.order in
        let x = word o field rest in
        let nil : word o bits gathered ≡ [] = ap (λ k. word o k gathered) none ∙ word-none o gathered in
        let all : vbr_word o field v ≡ b.prefix ++ x = sym b.parts
        ∙ ap₂ (λ i j. b.prefix ++ (i ++ j)) nil (final.whole o) in
        last K (unsigned o size field rest) (vbr o field v) old mid r new b.prefix x b.done w
        (unsigned-fits o size field rest (K.len mid) within final.fits) (ap Ok all)
        (subst (λ l. IsWithin K.limit (K.len old + length l)) all limit)

    -- the number of the last group after the gathered groups
    pub gathered-below : (n made : ℕ) → n ≡ field → IsLastGroup field rest → made
        ≡ put_number K.order gathered bits rest n → made < 2 ^ (bits + n)
    gathered-below n made one final put = subst (λ k. k < 2 ^ (bits + n)) (sym put)
        (put_below K.order gathered bits rest n b.below (subst (λ k. rest < 2 ^ k) (sym one) final.fits))

    -- that number is written, whatever the call returns
    pub gathered-last : {T : Type 0} (r : Result T Error) (new : S) (n made : ℕ) → n ≡ field → IsLastGroup field rest
        → made ≡ put_number K.order gathered bits rest n → bits + n ≤ size
        → Writes K (unsigned K.order size (bits + n) made) mid r new
        → IsWithin K.limit (K.len old + length (vbr_word K.order field v)) → Writes K (vbr K.order field v) old r new
    gathered-last r new n made one final put room w limit =
        let o = K.order in
        let x = word o (bits + n) made in
        let joined : x ≡ word o bits gathered ++ word o n rest = ap (word o (bits + n)) put
        ∙ put_word o gathered bits rest n b.below (subst (λ k. rest < 2 ^ k) (sym one) final.fits) in
        let ends : vbr_word o field rest ≡ word o n rest = final.whole o ∙ ap (λ k. word o k rest) (sym one) in
        let all : vbr_word o field v ≡ b.prefix ++ x = sym b.parts
        ∙ ap (λ l. b.prefix ++ (word o bits gathered ++ l)) ends ∙ ap (λ l. b.prefix ++ l) (sym joined) in
        last K (unsigned o size (bits + n) made) (vbr o field v) old mid r new b.prefix x b.done w
        (unsigned-fits o size (bits + n) made (K.len mid) room (gathered-below n made one final put)) (ap Ok all)
        (subst (λ l. IsWithin K.limit (K.len old + length l)) all limit)

-- ---- a group that was pushed after a writer's queue

pub group-pushed : (may : Refusal → Type 0) (o : Order) (field size n group : ℕ) (mid : WriterState) (r :
    Result (Unit {0}) Error) (new : WriterState) → n ≡ field → field ≤ size → group < 2 ^ field → mid.failed ≡ false
    → Pushes may o (word o n group) mid r new → Writes (queue_sink may o) (unsigned o size field group) mid r new
group-pushed may o field size n group mid r new same within small sound h =
    pushes_writes may o (word o field group) (unsigned o size field group) mid r new sound
    (unsigned-fits o size field group ((queue_sink may o).len mid) within small)
    (subst (λ k. Pushes may o (word o k group) mid r new) same h)

-- a writer that is sound, before the first group
pub none_pushed : (may : Refusal → Type 0) (o : Order) (s : WriterState) → s.failed ≡ false
    → Begun (queue_sink may o) s [] s
none_pushed may o s sound = record { was_sound = sound; within = tt; done = appended_none (queue_sink may o) s sound }

use Rattle.std.proofs.Common.{◌≡◌, ◌+◌, ◌++◌, ◌∷◌, [], ◌<◌, ◌≤◌, ◌^◌, length, ◌/◌, ◌%◌, ℕ, List, arith, ap, sym, refl, rules, ◌*◌, ◌∙◌, lit<, length-append, append_assoc}
use Rattle.std.specs.Fmt.{decimal}
use Rattle.std.proofs.lemmas.Fmt.{decimal_step, decimal_digit, length-decimal-le}
use Rattle.bitfields_core.proofs.fault_line.FaultLine.+push_decimal.Goals as goal

-- a number and its prefix
most : (n : ℕ) → n < 2 ^ 64 → length (decimal n) ≤ 20
most n range = let below : 2 ^ 64 < 10 ^ 20 = lit< tt in length-decimal-le 20 n (lit< tt) (omega arith) range

prefix_most : (n : ℕ) → n < 2 ^ 64 → length (decimal (n / 10)) ≤ 19
prefix_most n range =
    let below : 2 ^ 64 < 10 ^ 20 = lit< tt in
    let ten : 10 ^ 20 ≡ 10 * 10 ^ 19 = refl in
    length-decimal-le 19 (n / 10) (lit< tt) (omega arith) (omega arith)

joined : (n : ℕ) (old mid new : List ℕ) → 10 ≤ n → n < 2 ^ 64 → mid ≡ old ++ decimal (n / 10) → new ≡ mid
    ++ (48 + n % 10) ∷ [] → new ≡ old ++ decimal n
joined n old mid new high range first last = last ∙ ap (λ line. line ++ (48 + n % 10) ∷ []) first
    ∙ append_assoc old (decimal (n / 10)) ((48 + n % 10) ∷ [])
    ∙ ap (λ digits. old ++ digits) (sym (decimal_step n high range))

within : (n : ℕ) (old new : List ℕ) → n < 2 ^ 64 → new ≡ old ++ decimal n → length new ≤ length old + 20
within n old new range text = let whole = simp length-append at (ap length text) in let digits = most n range in
    omega arith

pub push-requires : goal.push-requires
push-requires t c = omega arith

pub returns-then-number-lt10 : goal.returns-then-number-lt10
returns-then-number-lt10 t c =
    let digit = decimal_digit c.args.number (omega arith) in
    let text : c.push.new.self ≡ c.args.self.now ++ decimal c.args.number = search (rules, digit) in
    record { text = text; most = within c.args.number _ _ c.ranges.number.fits text }

pub push-requires-2 : goal.push-requires-2
push-requires-2 t c =
    let prefix = prefix_most c.args.number c.ranges.number.fits in
    let so_far = simp length-append at (ap length c.push_decimal.ensures.text) in
    omega arith

pub returns : goal.returns
returns t c =
    let text = joined c.args.number _ _ _ (omega arith) c.ranges.number.fits c.push_decimal.ensures.text
    c.push-2.ensures in
    record { text = text; most = within c.args.number _ _ c.ranges.number.fits text }

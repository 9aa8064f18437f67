use Rattle.std.proofs.Common.{◌≡◌, ◌≢◌, ℕ, ◌<◌, ◌≤◌, List, [], ◌∷◌, length, get_or, map, None, Some, Err, ap, arith, refl, rules, string_bytes, sym, ◌∙◌}
use Rattle.bitfields_core.specs.declared.running.Command.{Command}
use Rattle.bitfields_core.specs.declared.running.NamedOrder.{NamedOrder}
use Rattle.bitfields_core.specs.Call.{Request, bit_order, command_of, order_of, request_of}
use Rattle.bitfields_core.proofs.running.run_command.Goals as goal
use Rattle.bitfields_core.proofs.running.run_command.Goals.{in_default-via-then-words-lt3, in_default-via-else-words-lt3+else-words-lt4}

-- three words, of which the first two name a command and an order
asked : {S : Type 0} (text : S → List ℕ) (words : List S) {x y z : S} {command : Command}
    {order : NamedOrder}
    → 3 ≤ length words → length words < 4 → x ≡ get_or words 0 x → y ≡ get_or words 1 y → z ≡ get_or words 2 z
    → command_of (text x) ≡ Some command → order_of (text y) ≡ Some order
    → request_of (map text words) ≡ Some (record { command = command; order = bit_order order; layout = text z })
asked text [] some few first second third c o = absurd (omega (arith, some))
asked text (u ∷ []) some few first second third c o = absurd (omega (arith, some))
asked text (u ∷ v ∷ []) some few first second third c o = absurd (omega (arith, some))
asked {S = S} text (u ∷ v ∷ w ∷ []) {z = z} {command = command} {order = order} some few first second third c o =
    let named : command_of (text u) ≡ Some command = ap (λ (s : S). command_of (text s)) (sym first) ∙ c in
    let ordered : order_of (text v) ≡ Some order = ap (λ (s : S). order_of (text s)) (sym second) ∙ o in
    let last : w ≡ z = sym third in
    rw (named, ordered, last) refl
asked text (u ∷ v ∷ w ∷ more ∷ words) some few first second third c o = absurd (omega (arith, few))

pub returns : goal.returns
returns g c =
    let command = ap command_of (sym c.as_str.ensures.value) ∙ sym c.parse_command.ensures ∙ c.in-Some.is in
    let order = ap order_of (sym c.as_str-2.ensures.value) ∙ sym c.parse_order.ensures ∙ c.in-Some-parse_order.is in
    rw (asked string_bytes c.args.words.now (omega arith) (omega arith) c.command-item.is c.order-item.is
    c.text-item.is command order) (rw c.as_str-3.ensures.value at c.with_layout.ensures)

-- any number of words but three
not_asked : {S : Type 0} (text : S → List ℕ) (words : List S) → length words ≢ 3 → request_of (map text words) ≡ None
not_asked text [] other = refl
not_asked text (u ∷ []) other = refl
not_asked text (u ∷ v ∷ []) other = refl
not_asked text (u ∷ v ∷ w ∷ []) other = absurd (other refl)
not_asked text (u ∷ v ∷ w ∷ more ∷ words) other = refl

pub returns-in_default : goal.returns-in_default
returns-in_default g c =
    let n = length c.args.words.now in
    let other : n ≢ 3 =
    elim c.in_default.branch [
      | in_default-via-then-words-lt3 w ↦
          (let few : n < 3 = search rules in λ three. absurd (omega (arith, few, three)))
      | in_default-via-else-words-lt3+else-words-lt4 w ↦
          (let many : 4 ≤ n = search rules in λ three. absurd (omega (arith, many, three)))
    ] in
    rw (not_asked string_bytes c.args.words.now other) (ap Err c.new.ensures, refl, refl)

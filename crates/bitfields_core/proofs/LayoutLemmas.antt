use Rattle.std.proofs.Common.{◌≡◌, ℕ, ◌+◌, ◌<◌, List, [], ◌∷◌, ◌++◌, length, drop, get_or, Option, Some, None, Result, Ok, Err, refl, sym, ap, ◌∙◌, append_assoc, add-one, drop-cons, rules, All}
use Rattle.bitfields_core.specs.Layout.{field_of, fields_of, field_and, one_more, IsField}
use Rattle.bitfields_core.specs.Fault.{fault}
use Rattle.bitfields_core.specs.declared.fault.Reason.TheVariants.{BadLayout}
use Rattle.bitfields_core.specs.declared.field.Field.{Field}
use Rattle.bitfields_core.proofs.SpelledLayouts.{segment_spelt}

-- xs before what was found
abbrev pub after : {A E : Type 0} → List A → Result (List A) E → Result (List A) E
after xs (Ok ys) = Ok (xs ++ ys)
after xs (Err e) = Err e

pub after-one_more : {A E : Type 0} (xs : List A) (x : A) (r : Result (List A) E) → after xs (one_more x r)
    ≡ after (xs ++ x ∷ []) r
after-one_more xs x (Ok ys) = ap Ok (sym (append_assoc xs (x ∷ []) ys))
after-one_more xs x (Err e) = refl

pub one_field : (parts : List (List ℕ)) (i : ℕ) (xs : List Field) (f : Field) → i < length parts → fields_of 1 parts
    ≡ after xs (fields_of (i + 1) (drop i parts)) → field_of (get_or parts i []) ≡ Some f → fields_of 1 parts
    ≡ after (xs ++ f ∷ []) (fields_of (i + 1 + 1) (drop (i + 1) parts))
one_field parts i xs f h known is =
    let cut : drop i parts ≡ get_or parts i [] ∷ drop (i + 1) parts = rw add-one (drop-cons parts i [] h) in
    known
    ∙ ap (λ (rest : List (List ℕ)). after xs (fields_of (i + 1) rest)) cut
    ∙ ap (λ (o : Option Field). after xs (field_and (i + 1) o (fields_of (i + 1 + 1) (drop (i + 1) parts)))) is
    ∙ after-one_more xs f (fields_of (i + 1 + 1) (drop (i + 1) parts))

pub bad_field : (parts : List (List ℕ)) (i : ℕ) (xs : List Field) → i < length parts → fields_of 1 parts
    ≡ after xs (fields_of (i + 1) (drop i parts)) → field_of (get_or parts i []) ≡ None → fields_of 1 parts
    ≡ Err (fault (i + 1) BadLayout)
bad_field parts i xs h known is =
    let cut : drop i parts ≡ get_or parts i [] ∷ drop (i + 1) parts = rw add-one (drop-cons parts i [] h) in
    known
    ∙ ap (λ (rest : List (List ℕ)). after xs (fields_of (i + 1) rest)) cut
    ∙ ap (λ (o : Option Field). after xs (field_and (i + 1) o (fields_of (i + 1 + 1) (drop (i + 1) parts)))) is

-- a field that is spelt has its numbers in their ranges
pub field_of-IsField : (segment : List ℕ) (f : Field) → field_of segment ≡ Some f → IsField f
field_of-IsField segment f e = (segment_spelt segment f e).0

pub All-one : {X : Type 0} (P : X → Type 0) (x : X) → P x → All P (x ∷ [])
All-one P x h = search rules

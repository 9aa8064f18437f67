-- Calls one after another in a function with errors of its own, as the proof of a user's type goes through them:
-- `search few_own_reads` and `search few_own_writes`, where a function makes up to four calls.
use borrow.Author.Rules.{sfits_of}
use Rattle.std.proofs.Common.{◌≡◌, ℕ, ℤ, SFits, to_z, of_z, Continue, Break, Bool, true, false, List, [], ◌∷◌, Result, Ok, Err, refl, sym, ap, ◌∙◌, subst}
use Rattle.std.proofs.lemmas.Int.{to_z-of_z}
use Rattle.std.specs.Prelude.{if◌then◌else◌}
use Rattle.std.specs.Int.{Width}
use Rattle.std.specs.Result.{IsErrAnd, result_from_control_flow}
use Rattle.std.specs.declared.ops.ControlFlow.{ControlFlow}
use Rattle.bitstream_count.specs.declared.error.Error.{Error}
use Rattle.bitstream_count.specs.Codec.{Decoder, Encoder, and_then, pure}
use Rattle.bitstream_number.specs.Word.{Order}
use Rattle.bitstream_stream.specs.Reading.Reads.{BitSource, Reads}
use Rattle.bitstream_stream.specs.Reading.ReadTable.{signed_decoder}
use Rattle.bitstream_stream.specs.Writing.Sink.{Sink, Writes, WritesAll}
use Rattle.bitstream_stream.proofs.Reading.ReadsLemmas.{Reads-and_then-ok, Reads-and_then-err, Reads-pure}
use Rattle.bitstream_stream.proofs.Writing.WriteParts.{all_none, all_err, all_more, one_of_all}
use Rattle.bitstream_value.specs.Own.{OwnAnswer, ReadsOwn, WritesOwn, part_then}
use Rattle.bitstream_stream.specs.Writing.WriteTable.{signed}
use Rattle.bitstream_value.proofs.OwnLemmas.{is_error}
use Rattle.bitstream_value.proofs.ReadSteps.{width_of}
use Rattle.bitstream_value.proofs.WriteSteps.{signed_call, signed_value}

-- ---- reads

-- a read whose result a `?` checked, and what follows it, or the end
module _ {R A B E : Type 0} {K : BitSource R} {becomes : Error → E → Type 0} {e : Decoder A} (f : A
    → Decoder (Result B E)) {r : Result B E} {s t : R} {answer : Result A Error} {flow : ControlFlow _ A} where
  pub then_own_read : {z : R} {a : A} → Reads K e s answer t → answer ≡ result_from_control_flow flow → flow
      ≡ Continue a → ReadsOwn K becomes (f a) t r z → ReadsOwn K becomes (and_then e f) s r z
  then_own_read h p q k = record {
    plain = k.plain;
    called =
        Reads-and_then-ok e f (subst (λ x. Reads K e s x t) (p ∙ ap result_from_control_flow q) h) k.called;
    answer =
        k.answer;
  }

  pub end_own_read : {x : _} → Reads K e s answer t → answer ≡ result_from_control_flow flow → flow ≡ Break x
      → IsErrAnd r (becomes x.0) → ReadsOwn K becomes (and_then e f) s r t
  end_own_read {x = x} h p q k = record {
    plain = Err x.0;
    called =
        Reads-and_then-err e f (subst (λ y. Reads K e s y t) (p ∙ ap result_from_control_flow q) h);
    answer = k;
  }

-- a number of a signed type, which after the read is what its bits encode
module _ {R B E : Type 0} {K : BitSource R} {becomes : Error → E → Type 0} (o : Order) (size n : ℕ) (f : ℤ
    → Decoder (Result B E)) {r : Result B E} {s t z : R} {x : ℤ} where
  pub then_own_signed : {answer : Result ℤ Error} {flow : ControlFlow _ ℤ} → Reads K (signed_decoder o size n) s answer t
      → answer ≡ result_from_control_flow flow → flow ≡ Continue x → SFits (width_of size) x
      → ReadsOwn K becomes (f (to_z (width_of size) (of_z (width_of size) x))) t r z
      → ReadsOwn K becomes (and_then (signed_decoder o size n) f) s r z
  then_own_signed h p q fits k = then_own_read f h p q (subst (λ y. ReadsOwn K becomes (f y) t r z) (to_z-of_z _ x fits)
      k)

-- a part that has the same errors of its own
pub part_stops : {R A B E : Type 0} {K : BitSource R} {becomes : Error → E → Type 0} {e : Decoder (Result A E)} (f : A
    → Decoder (Result B E)) {r : Result B E} {s t : R} (error : E) (plain : Result (Result A E) Error)
    → r ≡ Err error → Reads K e s plain t → OwnAnswer becomes (λ x. x) plain (Err error)
    → ReadsOwn K becomes (and_then e (part_then f)) s r t
part_stops {K = K} {e = e} f {s = s} {t = t} error (Ok x) is h own =
    record {
      plain = Ok (Err error);
      called = Reads-and_then-ok e (part_then f)
          (subst (λ y. Reads K e s (Ok y) t) (sym own) h) (Reads-pure (Err error) t);
      answer = is;
    }
part_stops {becomes = becomes} {e = e} f error (Err x) is h own =
    record {
      plain = Err x;
      called = Reads-and_then-err e (part_then f) h;
      answer =
          subst (λ y. IsErrAnd y (becomes x)) (sym is) own;
    }

part_goes : {R A B E : Type 0} {K : BitSource R} {becomes : Error → E → Type 0} {e : Decoder (Result A E)} (f : A
    → Decoder (Result B E)) {r : Result B E} {s t z : R} (a : A) (plain : Result (Result A E) Error)
    → Reads K e s plain t → OwnAnswer becomes (λ x. x) plain (Ok a) → ReadsOwn K becomes (f a) t r z
    → ReadsOwn K becomes (and_then e (part_then f)) s r z
part_goes {K = K} {e = e} f {s = s} {t = t} a (Ok x) h own k =
    record {
      plain = k.plain;
      called = Reads-and_then-ok e (part_then f) (subst (λ y. Reads K e s (Ok y) t) (sym own) h)
          k.called;
      answer = k.answer;
    }
part_goes f a (Err x) h own k = absurd own

module _ {R A B E : Type 0} {K : BitSource R} {becomes : Error → E → Type 0} {e : Decoder (Result A E)} (f : A
    → Decoder (Result B E)) {r : Result B E} {s t : R} {answer : Result A E} {flow : ControlFlow _ A} where
  pub then_part : {z : R} {a : A} → ReadsOwn K becomes e s answer t → answer ≡ result_from_control_flow flow → flow
      ≡ Continue a → ReadsOwn K becomes (f a) t r z → ReadsOwn K becomes (and_then e (part_then f)) s r z
  then_part {a = a} h p q k = let there = subst (λ x. ReadsOwn K becomes e s x t) (p ∙ ap result_from_control_flow q) h
      in part_goes f a there.plain there.called there.answer k

  pub end_part : {x : _} → ReadsOwn K becomes e s answer t → answer ≡ result_from_control_flow flow → flow ≡ Break x
      → IsErrAnd r (λ y. y ≡ x.0) → ReadsOwn K becomes (and_then e (part_then f)) s r t
  end_part {x = x} h p q k = let there = subst (λ y. ReadsOwn K becomes e s y t) (p ∙ ap result_from_control_flow q) h
      in part_stops f x.0 there.plain (is_error r x.0 k) there.called there.answer

-- the result after all reads: a value, or an error of the type's own
pub own_end : {R A E : Type 0} {K : BitSource R} {becomes : Error → E → Type 0} (r : Result A E) (s : R)
    → ReadsOwn K becomes (pure r) s r s
own_end r s = record { plain = Ok r; called = Reads-pure r s; answer = refl }

-- what is read if a condition holds, and if not
module _ {R A E : Type 0} {K : BitSource R} {becomes : Error → E → Type 0} (x y : Decoder (Result A E))
    {r : Result A E} {s t : R} where
  pub if_own : (b : Bool) → b ≡ true → ReadsOwn K becomes x s r t → ReadsOwn K becomes (if b then x else y) s r t
  if_own true is h = h
  if_own false is h = cc

  pub else_own : (b : Bool) → b ≡ false → ReadsOwn K becomes y s r t → ReadsOwn K becomes (if b then x else y) s r t
  else_own true is h = cc
  else_own false is h = h

pub ruleset few_own_reads = (
  then_own_signed,
  then_own_read,
  end_own_read,
  then_part,
  end_part,
  own_end,
  if_own,
  else_own,
  sfits_of,
)

-- ---- writes

module _ {S E : Type 0} (K : Sink S) (becomes : Error → E → Type 0) (e : Encoder) (es : List Encoder)
    (own : Result (Unit {0}) E) (r : Result (Unit {0}) E) (s t : S) (answer : Result (Unit {0}) Error)
    (flow : ControlFlow _ (Unit {0})) where
  pub then_own_call : (z : S) → Writes K e s answer t → answer ≡ result_from_control_flow flow → flow ≡ Continue tt
      → WritesOwn K becomes es own t r z → WritesOwn K becomes (e ∷ es) own s r z
  then_own_call z h p q k =
      record {
        plain = k.plain;
        called = all_more K e es s t k.plain z (subst (λ x. Writes K e s x t) (p
            ∙ ap result_from_control_flow q) h) k.called;
        answer = k.answer;
      }

  pub then_own_write : (z : S) → WritesAll K (e ∷ []) s answer t → answer ≡ result_from_control_flow flow → flow
      ≡ Continue tt → WritesOwn K becomes es own t r z → WritesOwn K becomes (e ∷ es) own s r z
  then_own_write z h p q k = then_own_call z (one_of_all K e s answer t h) p q k

  pub end_own_call : (x : _) → Writes K e s answer t → answer ≡ result_from_control_flow flow → flow ≡ Break x
      → IsErrAnd r (becomes x.0) → WritesOwn K becomes (e ∷ es) own s r t
  end_own_call x h p q k =
      record {
        plain = Err x.0;
        called = all_err K e es s (Err x.0) x.0 t refl (subst (λ y. Writes K e s y t) (p
            ∙ ap result_from_control_flow q) h);
        answer = k;
      }

  pub end_own_write : (x : _) → WritesAll K (e ∷ []) s answer t → answer ≡ result_from_control_flow flow → flow
      ≡ Break x → IsErrAnd r (becomes x.0) → WritesOwn K becomes (e ∷ es) own s r t
  end_own_write x h p q k = end_own_call x (one_of_all K e s answer t h) p q k

-- a number of a signed type, which a call has as what its bits say
module _ {S E : Type 0} (K : Sink S) (becomes : Error → E → Type 0) (o : Order) (size n : ℕ) (w : Width) (x : ℤ)
    (es : List Encoder) (own : Result (Unit {0}) E) (r : Result (Unit {0}) E) (s t : S)
    (answer : Result (Unit {0}) Error) (flow : ControlFlow _ (Unit {0})) where
  pub then_own_signed_call : (z : S) → Writes K (signed o size n (to_z w (of_z w x))) s answer t → SFits w x → answer
      ≡ result_from_control_flow flow → flow ≡ Continue tt → WritesOwn K becomes es own t r z
      → WritesOwn K becomes (signed o size n x ∷ es) own s r z
  then_own_signed_call z h fits p q k = then_own_call K becomes _ es own r s t answer flow z
      (signed_call K o size n w x s t answer h fits) p q k

  pub then_own_signed_write : (z : S) → WritesAll K (signed o size n (to_z w (of_z w x)) ∷ []) s answer t → SFits w x
      → answer ≡ result_from_control_flow flow → flow ≡ Continue tt → WritesOwn K becomes es own t r z
      → WritesOwn K becomes (signed o size n x ∷ es) own s r z
  then_own_signed_write z h fits p q k = then_own_write K becomes _ es own r s t answer flow z
      (signed_value K o size n w x s t answer h fits) p q k

  pub end_own_signed_call : (e : _) → Writes K (signed o size n (to_z w (of_z w x))) s answer t → SFits w x → answer
      ≡ result_from_control_flow flow → flow ≡ Break e → IsErrAnd r (becomes e.0)
      → WritesOwn K becomes (signed o size n x ∷ es) own s r t
  end_own_signed_call e h fits p q k = end_own_call K becomes _ es own r s t answer flow e
      (signed_call K o size n w x s t answer h fits) p q k

  pub end_own_signed_write : (e : _) → WritesAll K (signed o size n (to_z w (of_z w x)) ∷ []) s answer t → SFits w x
      → answer ≡ result_from_control_flow flow → flow ≡ Break e → IsErrAnd r (becomes e.0)
      → WritesOwn K becomes (signed o size n x ∷ es) own s r t
  end_own_signed_write e h fits p q k = end_own_write K becomes _ es own r s t answer flow e
      (signed_value K o size n w x s t answer h fits) p q k

-- the result after all writes
pub own_written : {S E : Type 0} (K : Sink S) (becomes : Error → E → Type 0) (own : Result (Unit {0}) E) (s : S)
    → WritesOwn K becomes [] own s own s
own_written K becomes own s = record { plain = Ok tt; called = all_none K s; answer = refl }

pub ruleset few_own_writes = (
  then_own_call,
  then_own_write,
  end_own_call,
  end_own_write,
  then_own_signed_call,
  then_own_signed_write,
  end_own_signed_call,
  end_own_signed_write,
  own_written,
  sfits_of,
)

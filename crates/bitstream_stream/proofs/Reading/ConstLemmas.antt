-- A number that must be a constant.
use Rattle.std.proofs.Common.{◌≡◌, ◌≢◌, ℕ, ◌≤◌, false, Result, Ok, Err, refl, sym, ◌∙◌, nat_eq, eq-eqb, inl, inr}
use Rattle.std.proofs.lemmas.Bool.Decides.{eqb_tells}
use Rattle.std.specs.Result.{IsErrAnd}
use Rattle.bitstream_count.specs.declared.error.Error.{Error}
use Rattle.bitstream_count.specs.Codec.{and_then, pure}
use Rattle.bitstream_number.specs.Word.{Order, number}
use Rattle.bitstream_stream.specs.Reading.Reads.{BitSource, Reads, ReadsConst}
use Rattle.bitstream_stream.specs.Reading.ReadTable.{unsigned_decoder, const_decoder}
use Rattle.bitstream_stream.proofs.Reading.CodecLemmas.{Same, map_takes}
use Rattle.bitstream_stream.proofs.Reading.ReadsLemmas.{Reads-and_then-ok, Reads-and_then-err, Reads-pure, Reads-same}
use Rattle.bitstream_stream.proofs.Reading.TableLemmas.{unsigned-takes}

const-unsigned : (o : Order) (n v : ℕ) → n ≤ 32 → Same (and_then (unsigned_decoder o 32 n) (λ x. pure (nat_eq x v)))
    (const_decoder o n v)
unfolding const_decoder
const-unsigned o n v h = rw (unsigned-takes o 32 n h) (map_takes n (number o) (λ x. nat_eq x v)
    (λ w. Ok (nat_eq (number o w) v)) (λ w _. refl))

const-ok : (o : Order) (n v x : ℕ) {R : Type 0} {K : BitSource R} {s t : R} → n ≤ 32
    → Reads K (unsigned_decoder o 32 n) s (Ok x) t → Reads K (const_decoder o n v) s (Ok (nat_eq x v)) t
const-ok o n v x h r = Reads-same (const-unsigned o n v h) (Reads-and_then-ok _ _ r (Reads-pure _ _))

pub const-err : {E : Type 0} (given : Error → E → Type 0) (o : Order) (n v : ℕ) (err : E) {x : Error}
    (r : Result (Unit {0}) E) {R : Type 0} {K : BitSource R} {s t : R} → n ≤ 32 → IsErrAnd r (given x)
    → Reads K (unsigned_decoder o 32 n) s (Err x) t
    → ReadsConst K given (const_decoder o n v) err s r t
const-err given o n v err {x = x} r h c k = record {
  plain = Err x;
  reads =
      Reads-same (const-unsigned o n v h) (Reads-and_then-err _ _ k);
  answer = c;
}

pub const-yes : {E : Type 0} (given : Error → E → Type 0) (o : Order) (n v x w : ℕ) (err : E) {R : Type 0}
    {K : BitSource R} {s t : R} → n ≤ 32 → x ≡ w → w ≡ v → Reads K (unsigned_decoder o 32 n) s (Ok x) t
    → ReadsConst K given (const_decoder o n v) err s (Ok tt) t
const-yes given o n v x w err h e f r = record {
  plain = Ok (nat_eq x v);
  reads = const-ok o n v x h r;
  answer =
      rw (eq-eqb x v (e ∙ f)) refl;
}

pub const-no : {E : Type 0} (given : Error → E → Type 0) (o : Order) (n v x w : ℕ) (err : E) {R : Type 0}
    {K : BitSource R} {s t : R} → n ≤ 32 → x ≢ w → w ≡ v → Reads K (unsigned_decoder o 32 n) s (Ok x) t
    → ReadsConst K given (const_decoder o n v) err s (Err err) t
const-no given o n v x w err h e f r =
    let other : nat_eq x v ≡ false = elim (eqb_tells x v) [ inl k ↦ absurd (e (k.1 ∙ sym f)) | inr k ↦ k.0 ] in
    record { plain = Ok (nat_eq x v); reads = const-ok o n v x h r; answer = rw other refl }

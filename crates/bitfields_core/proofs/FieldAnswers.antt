-- A read call of a field, by the call that it makes and by what it makes of the answer.
use Rattle.std.proofs.Common.{Result, Ok, Err, refl}
use Rattle.std.specs.Result.{IsErrAnd}
use Rattle.bitstream_io.specs.Error.{Error}
use Rattle.bitstream_io.specs.Codec.{Decoder, and_then, pure}
use Rattle.bitstream_io.specs.Own.{ReadsOwn}
use Rattle.bitstream_io.specs.Reads.{BitSource, Reads}
use Rattle.bitstream_io.proofs.ReadsLemmas.{Reads-and_then-ok, Reads-and_then-err, Reads-pure}
use Rattle.bitfields_core.specs.declared.fault.Reason.{Reason}
use Rattle.bitfields_core.specs.Unpacking.{IsReadReason}

-- a call answered, and f is made of its answer
module _ {R A B : Type 0} {K : BitSource R} {e : Decoder A} (f : A → Result B Reason) {s t : R} where
  pub answers : {a : A} → Reads K e s (Ok a) t → ReadsOwn K IsReadReason (and_then e (λ v. pure (f v))) s (f a) t
  answers {a = a} h = record {
    plain = Ok (f a);
    called = Reads-and_then-ok e (λ v. pure (f v)) h (Reads-pure (f a) t);
    answer = refl;
  }

  pub stops : {x : Error} {r : Result B Reason} → IsErrAnd r (IsReadReason x) → Reads K e s (Err x) t
      → ReadsOwn K IsReadReason (and_then e (λ v. pure (f v))) s r t
  stops {x = x} is h = record { plain = Err x; called = Reads-and_then-err e (λ v. pure (f v)) h; answer = is }

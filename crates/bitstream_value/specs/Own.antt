-- Calls with an error type of their own, to which the errors of a stream are mapped.
use Rattle.std.specs.Prelude.{if◌then◌else◌, Bool, ◌≡◌, List, Result, Ok, Err}
use Rattle.std.specs.Result.{IsErrAnd}
use Rattle.bitstream_count.specs.declared.error.Error.{Error}
use Rattle.bitstream_count.specs.Codec.{Decoder, Encoder, and_then, pure}
use Rattle.bitstream_stream.specs.Reading.Reads.{BitSource, Reads}
use Rattle.bitstream_stream.specs.Writing.Sink.{Sink, WritesAll}

-- the result of the call: the result made from the value that the stream's calls returned, or their error,
-- mapped to one of its own
abbrev pub OwnAnswer : {A B E : Type 0} → (Error → E → Type 0) → (B → Result A E) → Result B Error → Result A E → Type 0
OwnAnswer becomes makes (Ok value) result = result ≡ makes value
OwnAnswer becomes makes (Err error) result = IsErrAnd result (becomes error)

-- A call with errors of its own: `plain` is the result of the stream's calls, and `called` their effect on it.
pub record OwnErrors {A B E : Type 0} (becomes : Error → E → Type 0) (makes : B → Result A E) (call : Result B Error
    → Type 0) (result : Result A E) : Type 0 where
  pub plain : Result B Error
  pub called : call plain
  pub answer : OwnAnswer becomes makes plain result

-- a read, whose decoder returns its own errors too
abbrev pub ReadsOwn : {R A E : Type 0} → BitSource R → (Error → E → Type 0) → Decoder (Result A E) → R → Result A E
    → R → Type 0
ReadsOwn K becomes decoder old result new = OwnErrors becomes (λ answer. answer) (λ plain. Reads K decoder old plain new)
    result

-- write calls in order, and after them, if all were done, this result
abbrev pub WritesOwn : {S E : Type 0} → Sink S → (Error → E → Type 0) → List Encoder → Result (Unit {0}) E → S
    → Result (Unit {0}) E → S → Type 0
WritesOwn K becomes encoders answer old result new = OwnErrors becomes (λ _. answer)
    (λ plain. WritesAll K encoders old plain new) result

-- an error of the stream, unchanged
abbrev pub same_error : Error → Error → Type 0
same_error error own = own ≡ error

-- a read whose only errors are the errors of the stream
abbrev pub plain_reads : {A E : Type 0} → Decoder A → Decoder (Result A E)
plain_reads decoder = and_then decoder (λ value. pure (Ok value))

-- the read that follows a part with errors of its own, unless the part returns one
abbrev pub part_then : {A B E : Type 0} → (A → Decoder (Result B E)) → Result A E → Decoder (Result B E)
part_then f (Ok value) = f value
part_then f (Err error) = pure (Err error)

-- a read that must find a constant, which returns `err` if it does not
abbrev pub must_hold : {E : Type 0} → Decoder Bool → E → Decoder (Result (Unit {0}) E)
must_hold decoder err = and_then decoder (λ same. pure (if same then Ok tt else Err err))

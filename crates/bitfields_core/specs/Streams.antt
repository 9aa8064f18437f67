-- The state that a request of a stream leaves.
use Rattle.std.specs.Prelude.{◌≡◌, ℕ, List, Option}
use Rattle.std.specs.Io.KnownBytes.{Consumes, IsAtEnd, Keeps}
use Rattle.std.specs.declared.io.ErrorKind.{ErrorKind}
use Rattle.bitstream_io.specs.Streams.{OutputStream}
use Rattle.bitfields_core.specs.declared.fault.Fault.{Fault}
use Rattle.bitfields_core.specs.Fault.{fault, refusal_reason}

-- an input gave all bytes that were left
pub record ReadToEnd (input : Option (List ℕ)) (bytes : List ℕ) (input_after : Option (List ℕ)) : Type 0 where
  pub read : Consumes input input_after bytes
  pub end : IsAtEnd input_after

-- The input refused to be read to its end, as it may refuse. It is as the refusal left it.
pub record RefusedInput {R : Type 0} (refuses_rest : R → ErrorKind → R → Type 0) (input : R) (f : Fault)
    (input_after : R) : Type 0 where
  pub kind : ErrorKind
  pub refused : refuses_rest input kind input_after
  pub reason : f ≡ fault 0 (refusal_reason kind)

-- The output refused a request to write this number of bytes (0: to flush), as it may refuse. The refusal left
-- it as it is.
pub record RefusedOutput {W : Type 0} (O : OutputStream W) (output : W) (wanted : ℕ) (f : Fault) (output_after : W) :
    Type 0 where
  pub kind : ErrorKind
  pub refused : O.refuses output wanted kind output_after
  pub reason : f ≡ fault 0 (refusal_reason kind)

-- The output was flushed, and holds the same bytes.
pub record Flushed {W : Type 0} (O : OutputStream W) (output output_after : W) : Type 0 where
  pub bytes : Keeps (O.contents output) (O.contents output_after)
  pub flushes : O.flushes output output_after

-- The properties of streams and of their requests.
use Rattle.std.specs.Prelude.{ℕ, List, Option}
use Rattle.std.specs.declared.io.ErrorKind.{ErrorKind}
use Rattle.bitstream_order.specs.Reference.{Reference}

-- the properties of a source
pub record InputStream (R : Type 0) : Type 1 where
  -- the bytes left, if they are known
  pub remaining : R → Option (List ℕ)
  -- the references through which it is reached
  pub references : R → List Reference
  -- the ways in which a request for a number of bytes may fail, with the kinds of the errors
  pub refuses : R → ℕ → ErrorKind → R → Type 0
  -- the other effects of a request that took a number of bytes
  pub takes : R → ℕ → R → Type 0

-- the properties of a target
pub record OutputStream (W : Type 0) : Type 1 where
  -- the bytes that it holds, if they are known
  pub contents : W → Option (List ℕ)
  -- the references through which it is reached
  pub references : W → List Reference
  -- the ways in which a request to send a number of bytes may fail, with the kinds of the errors
  pub refuses : W → ℕ → ErrorKind → W → Type 0
  -- the effect of a flush that succeeded
  pub flushes : W → W → Type 0

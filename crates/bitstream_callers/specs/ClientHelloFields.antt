-- The value of a `ClientHello` in contracts.
use Rattle.bitstream_callers.specs.declared.client_hello.Compression.{Compression}
use Rattle.std.specs.Prelude.{ℕ, List}

-- Made by `./format` from formats/client_hello.fields: edit that file and make this one anew.

-- the fields, and the items of the lists
pub record ClientHelloFields : Type 0 where
  pub size : ℕ
  pub version : ℕ
  pub random : List ℕ
  pub session : List ℕ
  pub suites : List ℕ
  pub compressions : List Compression
  pub extensions : List ℕ

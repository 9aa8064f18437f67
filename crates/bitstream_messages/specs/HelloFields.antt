-- The value of a `Hello` in contracts.
use Rattle.bitstream_messages.specs.declared.extensions.Extensions.{Extensions}
use Rattle.std.specs.Prelude.{ℕ, List}

-- Made by `./format` from formats/hello.fields: edit that file and make this one anew.

-- the fields, and the items of the lists
pub record HelloFields : Type 0 where
  pub length : ℕ
  pub version : ℕ
  pub random : List ℕ
  pub session : List ℕ
  pub suites : List ℕ
  pub compressions : List ℕ
  pub extensions : Extensions

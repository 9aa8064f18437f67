-- The value of a `SocksLogin` in contracts.
use Rattle.std.specs.Prelude.{ℕ, List}

-- Made by `./format` from formats/socks_login.fields: edit that file and make this one anew.

-- the fields, and the items of the lists
pub record SocksLoginFields : Type 0 where
  pub name : List ℕ
  pub password : List ℕ

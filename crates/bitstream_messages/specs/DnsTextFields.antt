-- The value of a `DnsText` in contracts.
use Rattle.std.specs.Prelude.{ℕ, List}

-- Made by `./format` from formats/dns_text.fields: edit that file and make this one anew.

-- the fields, and the items of the lists
pub record DnsTextFields : Type 0 where
  pub octets : List ℕ

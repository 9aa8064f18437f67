-- The value of a `CoapHeader` in contracts.
use Rattle.protocols.specs.declared.coap_header.Message.{Message}
use Rattle.std.specs.Prelude.{ℕ, List}

-- Made by `./format` from formats/coap_header.fields: edit that file and make this one anew.

-- the fields, and the items of the lists
pub record CoapHeaderFields : Type 0 where
  pub kind : Message
  pub class : ℕ
  pub detail : ℕ
  pub id : ℕ
  pub token : List ℕ

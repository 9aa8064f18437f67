-- The value of a `CoapMessage` in contracts.
use Rattle.network_messages.specs.declared.coap_message.Message.{Message}
use Rattle.std.specs.Prelude.{ℕ, List}

-- Made by `./format` from formats/coap_message.fields: edit that file and make this one anew.

-- the fields, and the items of the lists
pub record CoapMessageFields : Type 0 where
  pub kind : Message
  pub class : ℕ
  pub detail : ℕ
  pub id : ℕ
  pub token : List ℕ
  pub options : List ℕ

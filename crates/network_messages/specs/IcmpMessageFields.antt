-- The value of an `IcmpMessage` in contracts.
use Rattle.network_messages.specs.declared.icmp_message.Echo.{Echo}
use Rattle.std.specs.Prelude.{ℕ, List}

-- Made by `./format` from formats/icmp_message.fields: edit that file and make this one anew.

-- the fields, and the items of the lists
pub record IcmpMessageFields : Type 0 where
  pub kind : Echo
  pub code : ℕ
  pub identifier : ℕ
  pub sequence : ℕ
  pub «data» : List ℕ

-- The value of a `TftpRequest` in contracts.
use Rattle.network_messages.specs.declared.tftp_request.Request.{Request}
use Rattle.std.specs.Prelude.{ℕ, List}

-- Made by `./format` from formats/tftp_request.fields: edit that file and make this one anew.

-- the fields, and the items of the lists
pub record TftpRequestFields : Type 0 where
  pub opcode : Request
  pub name : List ℕ
  pub mode : List ℕ

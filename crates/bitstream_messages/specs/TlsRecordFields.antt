-- The value of a `TlsRecord` in contracts.
use Rattle.bitstream_messages.specs.declared.tls_record.Content.{Content}
use Rattle.std.specs.Prelude.{ℕ, List}

-- Made by `./format` from formats/tls_record.fields: edit that file and make this one anew.

-- the fields, and the items of the lists
pub record TlsRecordFields : Type 0 where
  pub content : Content
  pub version : ℕ
  pub fragment : List ℕ

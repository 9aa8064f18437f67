-- The value of a `TsPat` in contracts.
use Rattle.media_messages.specs.declared.ts_program.TsProgram.{TsProgram}
use Rattle.std.specs.Prelude.{ℕ, Bool, List}

-- Made by `./format` from formats/ts_pat.fields: edit that file and make this one anew.

-- the fields, and the items of the lists
pub record TsPatFields : Type 0 where
  pub stream : ℕ
  pub version : ℕ
  pub current : Bool
  pub section : ℕ
  pub last : ℕ
  pub programs : List TsProgram

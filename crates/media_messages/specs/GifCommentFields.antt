-- The value of a `GifComment` in contracts.
use Rattle.std.specs.Prelude.{ℕ, List}

-- Made by `./format` from formats/gif_comment.fields: edit that file and make this one anew.

-- the fields, and the items of the lists
pub record GifCommentFields : Type 0 where
  pub text : List (List ℕ)

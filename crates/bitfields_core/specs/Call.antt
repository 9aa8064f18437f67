-- The arguments of a call of the program.
use Rattle.std.specs.Prelude.{ℕ, if◌then◌else◌, List, [], ◌∷◌, codes, Option, Some, None, nat_eq}
use Rattle.std.specs.Cmp.Lexicographic.{pointwise}
use Rattle.bitstream_io.specs.Word.{Order, High, Low}
use Rattle.bitfields_core.specs.declared.running.Command.{Command}
use Rattle.bitfields_core.specs.declared.running.Command.TheVariants.{Pack, Unpack, Size, Repack}
use Rattle.bitfields_core.specs.declared.running.NamedOrder.{NamedOrder}
use Rattle.bitfields_core.specs.declared.running.NamedOrder.TheVariants.{Big, Little}

-- the command that a word names
abbrev pub command_of : List ℕ → Option Command
command_of word =
    if pointwise nat_eq word (codes "pack") then Some Pack
    else if pointwise nat_eq word (codes "unpack") then Some Unpack
    else if pointwise nat_eq word (codes "size") then Some Size
    else if pointwise nat_eq word (codes "repack") then Some Repack
    else None

-- the order of bits that a word names
abbrev pub order_of : List ℕ → Option NamedOrder
order_of word =
    if pointwise nat_eq word (codes "be") then Some Big
    else if pointwise nat_eq word (codes "le") then Some Little
    else None

-- the order of bits, by its name
abbrev pub bit_order : NamedOrder → Order
bit_order Big = High
bit_order Little = Low

-- a request to the program: a command, an order of bits and the text of a layout
pub record Request : Type 0 where
  pub command : Command
  pub order : Order
  pub layout : List ℕ

-- the request, if there is a command and an order
abbrev pub request_with : Option Command → Option NamedOrder → List ℕ → Option Request
request_with (Some command) (Some order) layout = Some (record {
  command = command;
  order = bit_order order;
  layout =
      layout;
})
request_with (Some command) None layout = None
request_with None order layout = None

-- the request of a list of arguments: three of them, a command, an order of bits and a layout
abbrev pub request_of : List (List ℕ) → Option Request
request_of [] = None
request_of (command ∷ []) = None
request_of (command ∷ order ∷ []) = None
request_of (command ∷ order ∷ layout ∷ []) = request_with (command_of command) (order_of order) layout
request_of (command ∷ order ∷ layout ∷ more ∷ others) = None

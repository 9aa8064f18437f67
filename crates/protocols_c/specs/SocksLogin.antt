-- Made by `./format --c` from ../protocols/formats/socks_login.fields: edit that file and make this one anew.
-- A `SocksLogin` as C sees it.
use Rattle.protocols_c.specs.Lists.{stored}
use Rattle.protocols_c.specs.declared.socks_login.SocksLoginGiven.{SocksLoginGiven}
use Rattle.protocols_c.specs.declared.socks_login.SocksLoginC.{SocksLoginC}
use Rattle.protocols_c.specs.declared.socks_login.SocksLoginParsed.{SocksLoginParsed}
use Rattle.protocols.specs.SocksLogin.{socks_login_decoder, socks_login_size, socks_login_bits, becomes_socks_login}
use Rattle.protocols.specs.declared.socks_login.SocksLogin.{SocksLogin}
use Rattle.protocols.specs.declared.socks_login.SocksLoginError.{SocksLoginError}
use Rattle.protocols.specs.declared.socks_login.SocksLoginError.TheVariants.{Reader, OtherVersion}
use Rattle.std.specs.Prelude.{◌≡◌, ◌+◌, ◌/◌, [], if◌then◌else◌, ℕ, ℤ, Bool, List, Result, Ok, Err, Option, Some, None, length, pos, nat_lt}
use Rattle.bitstream_io.specs.Reads.{BitSource}
use Rattle.bitstream_io.specs.Codec.{Prefix, Incomplete, Done}
use Rattle.bitstream_io.specs.Callers.{High, ReadsOwn, result_map}

-- the struct of C with these fields
abbrev pub socks_login_to_c : SocksLogin → SocksLoginC
socks_login_to_c value = record {
  name = length value.name;
  password = length value.password;
}

-- the fields of a struct of C, or none if a number of C is no value of its field
abbrev pub socks_login_from_c : SocksLoginC → List ℕ → List ℕ → Option SocksLogin
socks_login_from_c c name_items password_items = Some (record {
  name = name_items;
  password = password_items;
})

-- the struct of C after an error
abbrev pub socks_login_zero : SocksLoginC
socks_login_zero = record {
  name = 0;
  password = 0;
}

-- the fields that a value holds
abbrev pub socks_login_of : SocksLoginGiven → SocksLogin
socks_login_of value = record {
  name = value.name.now;
  password = value.password.now;
}

-- the number of bytes of fields
abbrev pub socks_login_bytes : SocksLogin → ℕ
socks_login_bytes value = (socks_login_size High value + 7) / 8

-- the number of bytes of the fields of a struct of C, if it has fields
abbrev pub socks_login_room : Option SocksLogin → ℕ
socks_login_room (Some value) = socks_login_bytes value
socks_login_room None = 0

-- the result of a parse that failed, with a number of items that there is no room for
abbrev pub socks_login_short : ℤ → ℕ → SocksLoginParsed
socks_login_short status items = record { status = status; taken = items; value = socks_login_zero }

-- the same without such a number
abbrev pub socks_login_failed : ℤ → SocksLoginParsed
socks_login_failed status = socks_login_short status 0

-- the result of a parse for C: 0, the number of bytes that were taken and the fields, or a list that has more items
-- than there is room for, with their number, or which error
abbrev pub socks_login_parsed : ℕ → ℕ → ℕ → Result SocksLoginC SocksLoginError → SocksLoginParsed
socks_login_parsed taken name_room password_room (Ok c) = if nat_lt name_room c.name then socks_login_short (pos 5) c.name else if nat_lt password_room c.password then socks_login_short (pos 6) c.password else record { status = pos 0; taken = taken; value = c }
socks_login_parsed taken name_room password_room (Err (Reader e)) = socks_login_failed (pos 1)
socks_login_parsed taken name_room password_room (Err OtherVersion) = socks_login_failed (pos 7)

-- the same for what the decoder says of all bits: too few, or its result after the first n
abbrev pub socks_login_answer : ℕ → ℕ → Prefix (Result SocksLogin SocksLoginError) → SocksLoginParsed
socks_login_answer name_room password_room Incomplete = socks_login_failed (pos 1)
socks_login_answer name_room password_room (Done n (Ok x)) = socks_login_parsed ((n + 7) / 8) name_room password_room (result_map socks_login_to_c x)
socks_login_answer name_room password_room (Done n (Err e)) = socks_login_failed (pos 1)

-- A read whose lists are stored: `found` is what the decoder says, and the slices hold the items of its lists.
pub record SocksLoginRead {R : Type 0} (K : BitSource R) (old : R) (name_was : List ℕ) (password_was : List ℕ)
    (result : Result SocksLoginC SocksLoginError) (new : R) (name_now : List ℕ) (password_now : List ℕ) : Type 0 where
  pub found : Result SocksLogin SocksLoginError
  pub reads : ReadsOwn K becomes_socks_login (socks_login_decoder K.order) old found new
  pub told : result ≡ result_map socks_login_to_c found
  pub name_items : (value : SocksLogin) → found ≡ Ok value → name_now ≡ stored value.name name_was
  pub password_items : (value : SocksLogin) → found ≡ Ok value → password_now ≡ stored value.password password_was

-- the bits of the fields of a struct of C, if it has fields
abbrev pub socks_login_held : Option SocksLogin → List Bool
socks_login_held (Some value) = socks_login_bits value
socks_login_held None = []

-- Made by `./format --c` from ../protocols/formats/socks_login.fields: edit that file and make this one anew.
-- When a parse of a `SocksLogin` succeeds.
use Rattle.protocols_c.specs.SocksLogin.{socks_login_to_c, socks_login_parsed, socks_login_answer, socks_login_bytes, SocksLoginRead}
use Rattle.protocols_c.specs.Varied.{IsDecided}
use Rattle.protocols_c.specs.Lists.{stored}
use Rattle.protocols_c.specs.declared.socks_login.SocksLoginC.{SocksLoginC}
use Rattle.protocols.specs.SocksLogin.{socks_login_decoder, socks_login_writes, socks_login_size, socks_login_bits, Fits, becomes_socks_login}
use Rattle.protocols.specs.declared.socks_login.SocksLogin.{SocksLogin}
use Rattle.protocols.specs.declared.socks_login.SocksLoginError.{SocksLoginError}
use Rattle.protocols.specs.declared.socks_login.SocksLoginError.TheVariants.{Reader}
use Rattle.protocols.proofs.SocksLoginLemmas.{socks_login_packs, socks_login_goes, told}
use Rattle.protocols_c.proofs.VariedLemmas.{padded}
use Rattle.std.proofs.Common.{◌≡◌, ◌≤◌, ◌∙◌, ◌+◌, ◌/◌, ℕ, List, Result, Ok, Err, refl, ap, ap₂, subst, arith}
use Rattle.std.specs.Prelude.{take}
use Rattle.bitstream_io.proofs.CallerLemmas.{is_error}
use Rattle.bitstream_io.specs.Callers.{EndOfInput, Error, High, OwnAnswer, ReadsOwn, BitSource, result_map, bits}
use Rattle.std.specs.Result.{IsErrAnd}
use Rattle.bitstream_io.specs.Codec.{Prefix, Incomplete, Done}

-- what C gets is decided by what the decoder says
answered : (plain : Result (Result SocksLogin SocksLoginError) Error) (found : Result SocksLogin SocksLoginError) (taken n name_room password_room : ℕ)
    → OwnAnswer becomes_socks_login (λ y. y) plain found → taken ≡ (n + 7) / 8
    → socks_login_parsed taken name_room password_room (result_map socks_login_to_c found) ≡ socks_login_answer name_room password_room (Done n plain)
answered (Ok x) found taken n name_room password_room is count =
    ap₂ (λ k r. socks_login_parsed k name_room password_room (result_map socks_login_to_c r)) count is
answered (Err e) found taken n name_room password_room is count =
    ap (λ r. socks_login_parsed taken name_room password_room (result_map socks_login_to_c r)) (is_error found (Reader e) is)

pub decided : (prefix : Prefix (Result SocksLogin SocksLoginError)) (plain : Result (Result SocksLogin SocksLoginError) Error) (found : Result SocksLogin SocksLoginError) (taken name_room password_room : ℕ)
    → IsDecided prefix taken plain → OwnAnswer becomes_socks_login (λ y. y) plain found
    → socks_login_parsed taken name_room password_room (result_map socks_login_to_c found) ≡ socks_login_answer name_room password_room prefix
decided Incomplete plain found taken name_room password_room is own =
    ap (λ r. socks_login_parsed taken name_room password_room (result_map socks_login_to_c r))
    (is_error found (Reader EndOfInput)
    (subst (λ x. OwnAnswer becomes_socks_login (λ y. y) x found) is own))
decided (Done n x) plain found taken name_room password_room is own =
    answered x found taken n name_room password_room (subst (λ y. OwnAnswer becomes_socks_login (λ z. z) y found) is.0 own) is.1

-- a read that found fields
pub found_is : (prefix : Prefix (Result SocksLogin SocksLoginError)) (plain : Result (Result SocksLogin SocksLoginError) Error) (found : Result SocksLogin SocksLoginError) (taken n : ℕ)
    (value : SocksLogin) → IsDecided prefix taken plain → OwnAnswer becomes_socks_login (λ y. y) plain found
    → prefix ≡ Done n (Ok (Ok value)) → found ≡ Ok value
found_is prefix plain found taken n value is own done =
    let both = subst (λ p. IsDecided p taken plain) done is in
    subst (λ x. OwnAnswer becomes_socks_login (λ y. y) x found) both.0 own

abbrev ok_of : SocksLogin → Result SocksLogin SocksLoginError
ok_of x = Ok x

value_is : {x y : SocksLogin} → ok_of x ≡ ok_of y → x ≡ y
value_is is = cc

-- a read whose error a `?` returned
pub stopped : {R : Type 0} {K : BitSource R} {old new : R} {name_was : List ℕ} {password_was : List ℕ} {name_now : List ℕ} {password_now : List ℕ} {P : SocksLoginError → Type 0}
    (r : Result SocksLoginC SocksLoginError) → IsErrAnd r P → ((s : Result SocksLogin SocksLoginError) → IsErrAnd s P → ReadsOwn K becomes_socks_login (socks_login_decoder K.order) old s new)
    → SocksLoginRead K old name_was password_was r new name_now password_now
stopped (Ok c) bad reads = absurd bad
stopped (Err e) is reads = record { found = Err e; reads = reads (Err e) is; told = refl; name_items = λ value no. cc; password_items = λ value no. cc }

-- a read of all fields
pub read_done : {R : Type 0} {K : BitSource R} {old new : R} {name_was : List ℕ} {password_was : List ℕ} {name_now : List ℕ} {password_now : List ℕ} {value : SocksLogin}
    {r : Result SocksLoginC SocksLoginError} → ReadsOwn K becomes_socks_login (socks_login_decoder K.order) old (Ok value) new → r ≡ Ok (socks_login_to_c value)
    → name_now ≡ stored value.name name_was
    → password_now ≡ stored value.password password_was
    → SocksLoginRead K old name_was password_was r new name_now password_now
read_done {name_was = name_was} {password_was = password_was} {name_now = name_now} {password_now = password_now} {value = value} reads says name_kept password_kept = record {
  found = Ok value;
  reads = reads;
  told = says;
  name_items = λ v is. subst (λ (x : SocksLogin). name_now ≡ stored x.name name_was) (value_is is) name_kept;
  password_items = λ v is. subst (λ (x : SocksLogin). password_now ≡ stored x.password password_was) (value_is is) password_kept;
}

-- packed bytes are parsed again
pub packed : (value : SocksLogin) (bytes : List ℕ) (name_room password_room : ℕ) → Fits value
    → bits High (take (socks_login_bytes value) bytes) ≡ socks_login_bits value
    → socks_login_answer name_room password_room ((socks_login_decoder High).reads 0 (bits High bytes))
    ≡ socks_login_parsed (socks_login_bytes value) name_room password_room (Ok (socks_login_to_c value))
packed value bytes name_room password_room fits is =
    let all = socks_login_packs High value fits in
    let parts = padded High (socks_login_writes High value) (socks_login_bytes value) bytes _ (told value) is in
    ap (λ b. socks_login_answer name_room password_room ((socks_login_decoder High).reads 0 b)) parts
    ∙ ap (socks_login_answer name_room password_room) ((socks_login_goes High value fits).back 0 0 _)
    ∙ ap (λ k. socks_login_answer name_room password_room (Done k (Ok (Ok value)))) (all.size 0)

-- the fields have no more bits
pub socks_login_most : (value : SocksLogin) → Fits value → socks_login_size High value ≤ 4104
socks_login_most value fits =
    omega (arith, fits)

-- Made by `./format --c` from ../protocols/formats/coap_header.fields: edit that file and make this one anew.
-- When a parse of a `CoapHeader` succeeds.
use Rattle.protocols_c.specs.CoapHeader.{coap_header_to_c, coap_header_parsed, coap_header_answer, coap_header_bytes, CoapHeaderRead}
use Rattle.protocols_c.specs.Varied.{IsDecided}
use Rattle.protocols_c.specs.Lists.{stored}
use Rattle.protocols_c.specs.declared.coap_header.CoapHeaderC.{CoapHeaderC}
use Rattle.protocols.specs.CoapHeader.{coap_header_decoder, coap_header_writes, coap_header_size, coap_header_bits, Fits, becomes_coap_header}
use Rattle.protocols.specs.declared.coap_header.CoapHeader.{CoapHeader}
use Rattle.protocols.specs.declared.coap_header.CoapError.{CoapError}
use Rattle.protocols.specs.declared.coap_header.CoapError.TheVariants.{Reader}
use Rattle.protocols.proofs.CoapHeaderLemmas.{coap_header_packs, coap_header_goes, told}
use Rattle.protocols_c.proofs.VariedLemmas.{padded}
use Rattle.std.proofs.Common.{◌≡◌, ◌≤◌, ◌∙◌, ◌+◌, ◌/◌, ℕ, List, Result, Ok, Err, refl, ap, ap₂, subst, arith}
use Rattle.std.specs.Prelude.{take}
use Rattle.bitstream_io.proofs.CallerLemmas.{is_error}
use Rattle.bitstream_io.specs.Callers.{EndOfInput, Error, High, OwnAnswer, ReadsOwn, BitSource, result_map, bits}
use Rattle.std.specs.Result.{IsErrAnd}
use Rattle.bitstream_io.specs.Codec.{Prefix, Incomplete, Done}

-- what C gets is decided by what the decoder says
answered : (plain : Result (Result CoapHeader CoapError) Error) (found : Result CoapHeader CoapError) (taken n token_room : ℕ)
    → OwnAnswer becomes_coap_header (λ y. y) plain found → taken ≡ (n + 7) / 8
    → coap_header_parsed taken token_room (result_map coap_header_to_c found) ≡ coap_header_answer token_room (Done n plain)
answered (Ok x) found taken n token_room is count =
    ap₂ (λ k r. coap_header_parsed k token_room (result_map coap_header_to_c r)) count is
answered (Err e) found taken n token_room is count =
    ap (λ r. coap_header_parsed taken token_room (result_map coap_header_to_c r)) (is_error found (Reader e) is)

pub decided : (prefix : Prefix (Result CoapHeader CoapError)) (plain : Result (Result CoapHeader CoapError) Error) (found : Result CoapHeader CoapError) (taken token_room : ℕ)
    → IsDecided prefix taken plain → OwnAnswer becomes_coap_header (λ y. y) plain found
    → coap_header_parsed taken token_room (result_map coap_header_to_c found) ≡ coap_header_answer token_room prefix
decided Incomplete plain found taken token_room is own =
    ap (λ r. coap_header_parsed taken token_room (result_map coap_header_to_c r))
    (is_error found (Reader EndOfInput)
    (subst (λ x. OwnAnswer becomes_coap_header (λ y. y) x found) is own))
decided (Done n x) plain found taken token_room is own =
    answered x found taken n token_room (subst (λ y. OwnAnswer becomes_coap_header (λ z. z) y found) is.0 own) is.1

-- a read that found fields
pub found_is : (prefix : Prefix (Result CoapHeader CoapError)) (plain : Result (Result CoapHeader CoapError) Error) (found : Result CoapHeader CoapError) (taken n : ℕ)
    (value : CoapHeader) → IsDecided prefix taken plain → OwnAnswer becomes_coap_header (λ y. y) plain found
    → prefix ≡ Done n (Ok (Ok value)) → found ≡ Ok value
found_is prefix plain found taken n value is own done =
    let both = subst (λ p. IsDecided p taken plain) done is in
    subst (λ x. OwnAnswer becomes_coap_header (λ y. y) x found) both.0 own

abbrev ok_of : CoapHeader → Result CoapHeader CoapError
ok_of x = Ok x

value_is : {x y : CoapHeader} → ok_of x ≡ ok_of y → x ≡ y
value_is is = cc

-- a read whose error a `?` returned
pub stopped : {R : Type 0} {K : BitSource R} {old new : R} {token_was : List ℕ} {token_now : List ℕ} {P : CoapError → Type 0}
    (r : Result CoapHeaderC CoapError) → IsErrAnd r P → ((s : Result CoapHeader CoapError) → IsErrAnd s P → ReadsOwn K becomes_coap_header (coap_header_decoder K.order) old s new)
    → CoapHeaderRead K old token_was r new token_now
stopped (Ok c) bad reads = absurd bad
stopped (Err e) is reads = record { found = Err e; reads = reads (Err e) is; told = refl; token_items = λ value no. cc }

-- a read of all fields
pub read_done : {R : Type 0} {K : BitSource R} {old new : R} {token_was : List ℕ} {token_now : List ℕ} {value : CoapHeader}
    {r : Result CoapHeaderC CoapError} → ReadsOwn K becomes_coap_header (coap_header_decoder K.order) old (Ok value) new → r ≡ Ok (coap_header_to_c value)
    → token_now ≡ stored value.token token_was
    → CoapHeaderRead K old token_was r new token_now
read_done {token_was = token_was} {token_now = token_now} {value = value} reads says token_kept = record {
  found = Ok value;
  reads = reads;
  told = says;
  token_items = λ v is. subst (λ (x : CoapHeader). token_now ≡ stored x.token token_was) (value_is is) token_kept;
}

-- packed bytes are parsed again
pub packed : (value : CoapHeader) (bytes : List ℕ) (token_room : ℕ) → Fits value
    → bits High (take (coap_header_bytes value) bytes) ≡ coap_header_bits value
    → coap_header_answer token_room ((coap_header_decoder High).reads 0 (bits High bytes))
    ≡ coap_header_parsed (coap_header_bytes value) token_room (Ok (coap_header_to_c value))
packed value bytes token_room fits is =
    let all = coap_header_packs High value fits in
    let parts = padded High (coap_header_writes High value) (coap_header_bytes value) bytes _ (told value) is in
    ap (λ b. coap_header_answer token_room ((coap_header_decoder High).reads 0 b)) parts
    ∙ ap (coap_header_answer token_room) ((coap_header_goes High value fits).back 0 0 _)
    ∙ ap (λ k. coap_header_answer token_room (Done k (Ok (Ok value)))) (all.size 0)

-- the fields have no more bits
pub coap_header_most : (value : CoapHeader) → Fits value → coap_header_size High value ≤ 152
coap_header_most value fits =
    omega (arith, fits)

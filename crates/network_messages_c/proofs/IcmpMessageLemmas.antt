-- Made by `./format --c` from ../network_messages/formats/icmp_message.fields: edit that file and make this one anew.
-- When a parse of a `IcmpMessage` succeeds.
use Rattle.network_messages_c.specs.IcmpMessage.{icmp_message_parsed, icmp_message_answer, icmp_message_bytes, icmp_message_packable, IcmpMessageRead, IcmpMessageStored, icmp_message_unsummed_decoder, icmp_message_tested, icmp_message_found, icmp_message_told, icmp_message_within, icmp_message_summed}
use Rattle.network_messages_c.specs.Varied.{IsDecided}
use Rattle.network_messages_c.specs.Lists.{stored}
use Rattle.network_messages_c.specs.declared.icmp_message.IcmpMessageFound.{IcmpMessageFound}
use Rattle.network_messages.specs.IcmpMessage.{icmp_message_decoder, icmp_message_writes, icmp_message_size, icmp_message_bits, Fits, becomes_icmp_message}
use Rattle.network_messages.specs.declared.icmp_message.IcmpMessage.{IcmpMessage}
use Rattle.network_messages.specs.declared.icmp_message.IcmpMessageError.{IcmpMessageError}
use Rattle.network_messages.specs.declared.icmp_message.IcmpMessageError.TheVariants.{Reader, WrongSum}
use Rattle.network_messages.proofs.IcmpMessageLemmas.{icmp_message_packs, icmp_message_goes, told}
use Rattle.network_messages_c.proofs.RestLemmas.{whole_packed}
use Rattle.network_messages_c.proofs.SumLemmas.{Tests, done-tested, if-ok, room-same, stored-first, stored-length, tests-end, tests-part, tests-read}
use Rattle.std.proofs.Common.{◌≡◌, ◌≤◌, ◌∙◌, ◌+◌, ◌-◌, ◌*◌, ◌/◌, ℕ, List, Result, Ok, Err, length, refl, sym, ap, ap₂, subst, arith}
use Rattle.std.specs.Prelude.{take}
use Rattle.bitstream_io.proofs.CallerLemmas.{packs-is, is_error}
use Rattle.bitstream_format.proofs.RestLemmas.{rest-back}
use Rattle.bitstream_io.specs.Callers.{EndOfInput, Error, Order, High, write_sequence, OwnAnswer, ReadsOwn, BitSource, result_map, bits}
use Rattle.std.specs.Result.{IsErrAnd}
use Rattle.bitstream_io.specs.Codec.{Prefix, Incomplete, Done}

-- the format's reads are those without the test of the checksum, and then the test
pub splits : (o : Order) (data_bytes : ℕ)
    → Tests icmp_message_tested (icmp_message_decoder o data_bytes) (icmp_message_unsummed_decoder o data_bytes)
splits o data_bytes =
    tests-read _ _ (tests-part _ (λ x_0. tests-read _ _ (λ x_1. tests-read _ _ (λ x_2. tests-read _ _ (λ x_3. tests-read _ _ (λ x_4. tests-read _ _ (λ x_5. tests-end _ _ _ _ _ refl)))))))

-- the items in slices are those of the fields, unless there is no room for them
refilled : (it : IcmpMessageStored) (taken : ℕ) (data_was : List ℕ) (data_now : List ℕ)
    → data_now ≡ stored it.value.data data_was
    → icmp_message_summed taken data_now (Ok (icmp_message_found it)) ≡ icmp_message_parsed taken (length data_was) (Ok it)
refilled it taken data_was data_now data_kept =
    let data_count = ap length data_kept ∙ stored-length it.value.data data_was in
    room-same _ _ data_count (λ data_le. ap (λ (items : List ℕ). icmp_message_told taken (icmp_message_tested (record { stored_sum16 = it.stored_sum16; value = record { kind = it.value.kind; code = it.value.code; identifier = it.value.identifier; sequence = it.value.sequence; «data» = items } }))) (ap (take (length it.value.data)) data_kept ∙ stored-first it.value.data data_was data_le))

-- what C gets for what a read left in slices is what it gets for the fields
pub summed_is : (found : Result IcmpMessageStored IcmpMessageError) (taken : ℕ) (data_was : List ℕ) (data_now : List ℕ)
    → ((it : IcmpMessageStored) → found ≡ Ok it → (data_now ≡ stored it.value.data data_was))
    → icmp_message_summed taken data_now (result_map icmp_message_found found) ≡ icmp_message_parsed taken (length data_was) found
summed_is (Ok it) taken data_was data_now kept = refilled it taken data_was data_now (kept it refl)
summed_is (Err e) taken data_was data_now kept = refl

-- what C gets is decided by what the reads say
answered : (plain : Result (Result IcmpMessageStored IcmpMessageError) Error) (found : Result IcmpMessageStored IcmpMessageError) (taken n data_room : ℕ)
    → OwnAnswer becomes_icmp_message (λ y. y) plain found → taken ≡ (n + 7) / 8
    → icmp_message_parsed taken data_room found ≡ icmp_message_answer data_room (Done n plain)
answered (Ok x) found taken n data_room is count = ap₂ (λ k r. icmp_message_parsed k data_room r) count is
answered (Err e) found taken n data_room is count =
    ap (λ r. icmp_message_parsed taken data_room r) (is_error found (Reader e) is)

pub decided : (prefix : Prefix (Result IcmpMessageStored IcmpMessageError)) (plain : Result (Result IcmpMessageStored IcmpMessageError) Error) (found : Result IcmpMessageStored IcmpMessageError) (taken data_room : ℕ)
    → IsDecided prefix taken plain → OwnAnswer becomes_icmp_message (λ y. y) plain found
    → icmp_message_parsed taken data_room found ≡ icmp_message_answer data_room prefix
decided Incomplete plain found taken data_room is own =
    ap (λ r. icmp_message_parsed taken data_room r)
    (is_error found (Reader EndOfInput) (subst (λ x. OwnAnswer becomes_icmp_message (λ y. y) x found) is own))
decided (Done n x) plain found taken data_room is own =
    answered x found taken n data_room (subst (λ y. OwnAnswer becomes_icmp_message (λ y. y) y found) is.0 own) is.1

-- reads that found fields
pub found_is : (prefix : Prefix (Result IcmpMessageStored IcmpMessageError)) (plain : Result (Result IcmpMessageStored IcmpMessageError) Error) (found : Result IcmpMessageStored IcmpMessageError) (taken n : ℕ)
    (it : IcmpMessageStored) → IsDecided prefix taken plain → OwnAnswer becomes_icmp_message (λ y. y) plain found
    → prefix ≡ Done n (Ok (Ok it)) → found ≡ Ok it
found_is prefix plain found taken n it is own done =
    let both = subst (λ p. IsDecided p taken plain) done is in
    subst (λ x. OwnAnswer becomes_icmp_message (λ y. y) x found) both.0 own

abbrev ok_of : IcmpMessageStored → Result IcmpMessageStored IcmpMessageError
ok_of x = Ok x

stored_is : {x y : IcmpMessageStored} → ok_of x ≡ ok_of y → x ≡ y
stored_is is = cc

-- a read whose error a `?` returned
pub stopped : {R : Type 0} {K : BitSource R} {old new : R} {data_bytes : ℕ} {data_was : List ℕ} {data_now : List ℕ} {P : IcmpMessageError → Type 0}
    (r : Result IcmpMessageFound IcmpMessageError) → IsErrAnd r P → ((s : Result IcmpMessageStored IcmpMessageError) → IsErrAnd s P → ReadsOwn K becomes_icmp_message (icmp_message_unsummed_decoder K.order data_bytes) old s new)
    → IcmpMessageRead K data_bytes old data_was r new data_now
stopped (Ok c) bad reads = absurd bad
stopped (Err e) is reads = record { found = Err e; reads = reads (Err e) is; told = refl; data_items = λ it no. cc }

-- a read of all fields
pub read_done : {R : Type 0} {K : BitSource R} {old new : R} {data_bytes : ℕ} {data_was : List ℕ} {data_now : List ℕ} {it : IcmpMessageStored}
    {r : Result IcmpMessageFound IcmpMessageError} → ReadsOwn K becomes_icmp_message (icmp_message_unsummed_decoder K.order data_bytes) old (Ok it) new → r ≡ Ok (icmp_message_found it)
    → data_now ≡ stored it.value.data data_was
    → IcmpMessageRead K data_bytes old data_was r new data_now
read_done {data_was = data_was} {data_now = data_now} {it = it} reads says data_kept = record {
  found = Ok it;
  reads = reads;
  told = says;
  data_items = λ v is. subst (λ (x : IcmpMessageStored). data_now ≡ stored x.value.data data_was) (stored_is is) data_kept;
}

-- fields whose stored checksum is theirs
test_is : (it : IcmpMessageStored) (value : IcmpMessage) → icmp_message_tested it ≡ Ok value → it.value ≡ value
test_is it value is = if-ok _ it.value value WrongSum is

-- packed bytes are parsed again
pub packed : (value : IcmpMessage) (bytes : List ℕ) (data_room : ℕ) → Fits value → bits High bytes ≡ icmp_message_bits value
    → icmp_message_answer data_room ((icmp_message_unsummed_decoder High (length bytes - 8)).reads 0 (bits High bytes))
    ≡ icmp_message_within (icmp_message_bytes value) data_room value (Ok value)
packed value bytes data_room fits is =
    let all = icmp_message_packs High value fits in
    let plain = is ∙ sym (told value) ∙ whole_packed all (8 * 8 + 8 * (length value.data)) (omega arith) (omega arith) in
    let done : (icmp_message_decoder High (length bytes - 8)).reads 0 (bits High bytes)
    ≡ Done (length (write_sequence (icmp_message_writes High value) 0)) (Ok (Ok value)) = rest-back (icmp_message_decoder High) High bytes (icmp_message_writes High value) 8 (length value.data) _
    (packs-is all (omega arith)) plain (λ more. (icmp_message_goes High value fits).back 0 0 more) in
    let found = done-tested icmp_message_tested _ _ value (sym ((splits High (length bytes - 8)).same 0 (bits High bytes)) ∙ done) in
    ap (icmp_message_answer data_room) found.1
    ∙ ap₂ (λ v r. icmp_message_within ((length (write_sequence (icmp_message_writes High value) 0) + 7) / 8) data_room v r)
    (test_is found.0 value found.2) found.2
    ∙ ap (λ k. icmp_message_within ((k + 7) / 8) data_room value (Ok value)) (all.size 0)

-- the fields have no more bits
pub icmp_message_most : (value : IcmpMessage) → icmp_message_packable value → icmp_message_size High value ≤ 34359738424
icmp_message_most value all =
    let fits = all.0 in
    omega (arith, fits, all.1)

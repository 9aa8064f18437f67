-- Made by `./format --c` from ../network_messages/formats/udp_datagram.fields: edit that file and make this one anew.
-- When a parse of a `UdpDatagram` succeeds.
use Rattle.network_messages_c.specs.UdpDatagram.{udp_datagram_parsed, udp_datagram_answer, udp_datagram_bytes, UdpDatagramRead, UdpDatagramStored, udp_datagram_unsummed_decoder, udp_datagram_tested, udp_datagram_found, udp_datagram_told, udp_datagram_within, udp_datagram_summed}
use Rattle.network_messages_c.specs.Varied.{IsDecided}
use Rattle.network_messages_c.specs.Lists.{stored}
use Rattle.network_messages_c.specs.declared.udp_datagram.UdpDatagramFound.{UdpDatagramFound}
use Rattle.network_messages.specs.UdpDatagram.{udp_datagram_decoder, udp_datagram_writes, udp_datagram_size, udp_datagram_bits, Fits, becomes_udp_datagram}
use Rattle.network_messages.specs.declared.udp_datagram.UdpDatagram.{UdpDatagram}
use Rattle.network_messages.specs.declared.udp_datagram.UdpDatagramError.{UdpDatagramError}
use Rattle.network_messages.specs.declared.udp_datagram.UdpDatagramError.TheVariants.{Reader, WrongSum}
use Rattle.network_messages.specs.declared.ipv4_pseudo.Ipv4Pseudo.{Ipv4Pseudo}
use Rattle.network_messages.proofs.UdpDatagramLemmas.{udp_datagram_packs, udp_datagram_goes, told}
use Rattle.network_messages_c.proofs.VariedLemmas.{padded}
use Rattle.network_messages_c.proofs.SumLemmas.{Tests, done-tested, if-ok, room-same, stored-first, stored-length, tests-end, tests-part, tests-read}
use Rattle.std.proofs.Common.{◌≡◌, ◌≤◌, ◌∙◌, ◌+◌, ◌/◌, ℕ, List, Result, Ok, Err, length, refl, sym, ap, ap₂, subst, arith}
use Rattle.std.specs.Prelude.{◌^◌, take}
use Rattle.bitstream_io.proofs.CallerLemmas.{is_error}
use Rattle.bitstream_format.specs.SizeLaws.{stored-whole}
use Rattle.bitstream_io.specs.Callers.{EndOfInput, Error, Order, High, write_sequence, OwnAnswer, ReadsOwn, BitSource, result_map, bits}
use Rattle.std.specs.Result.{IsErrAnd}
use Rattle.bitstream_io.specs.Codec.{Prefix, Incomplete, Done}

-- the format's reads are those without the test of the checksum, and then the test
pub splits : (o : Order) (pseudo : Ipv4Pseudo)
    → Tests udp_datagram_tested (udp_datagram_decoder o pseudo) (udp_datagram_unsummed_decoder o pseudo)
splits o pseudo =
    tests-read _ _ (λ x_0. tests-read _ _ (λ x_1. tests-read _ _ (λ x_2. tests-read _ _ (λ x_3. tests-read _ _ (tests-part _ (λ x_4. tests-end _ _ _ _ _ refl))))))

-- the items in slices are those of the fields, unless there is no room for them
refilled : (it : UdpDatagramStored) (taken : ℕ) (data_was : List ℕ) (data_now : List ℕ)
    → data_now ≡ stored it.value.data data_was
    → udp_datagram_summed taken data_now (Ok (udp_datagram_found it)) ≡ udp_datagram_parsed taken (length data_was) (Ok it)
refilled it taken data_was data_now data_kept =
    let data_count = ap length data_kept ∙ stored-length it.value.data data_was in
    room-same _ _ data_count (λ data_le. ap (λ (items : List ℕ). udp_datagram_told taken (udp_datagram_tested (record { stored_sum16_udp = it.stored_sum16_udp; value = record { pseudo = it.value.pseudo; source = it.value.source; target = it.value.target; «data» = items } }))) (ap (take (length it.value.data)) data_kept ∙ stored-first it.value.data data_was data_le))

-- what C gets for what a read left in slices is what it gets for the fields
pub summed_is : (found : Result UdpDatagramStored UdpDatagramError) (taken : ℕ) (data_was : List ℕ) (data_now : List ℕ)
    → ((it : UdpDatagramStored) → found ≡ Ok it → (data_now ≡ stored it.value.data data_was))
    → udp_datagram_summed taken data_now (result_map udp_datagram_found found) ≡ udp_datagram_parsed taken (length data_was) found
summed_is (Ok it) taken data_was data_now kept = refilled it taken data_was data_now (kept it refl)
summed_is (Err e) taken data_was data_now kept = refl

-- what C gets is decided by what the reads say
answered : (plain : Result (Result UdpDatagramStored UdpDatagramError) Error) (found : Result UdpDatagramStored UdpDatagramError) (taken n data_room : ℕ)
    → OwnAnswer becomes_udp_datagram (λ y. y) plain found → taken ≡ (n + 7) / 8
    → udp_datagram_parsed taken data_room found ≡ udp_datagram_answer data_room (Done n plain)
answered (Ok x) found taken n data_room is count = ap₂ (λ k r. udp_datagram_parsed k data_room r) count is
answered (Err e) found taken n data_room is count =
    ap (λ r. udp_datagram_parsed taken data_room r) (is_error found (Reader e) is)

pub decided : (prefix : Prefix (Result UdpDatagramStored UdpDatagramError)) (plain : Result (Result UdpDatagramStored UdpDatagramError) Error) (found : Result UdpDatagramStored UdpDatagramError) (taken data_room : ℕ)
    → IsDecided prefix taken plain → OwnAnswer becomes_udp_datagram (λ y. y) plain found
    → udp_datagram_parsed taken data_room found ≡ udp_datagram_answer data_room prefix
decided Incomplete plain found taken data_room is own =
    ap (λ r. udp_datagram_parsed taken data_room r)
    (is_error found (Reader EndOfInput) (subst (λ x. OwnAnswer becomes_udp_datagram (λ y. y) x found) is own))
decided (Done n x) plain found taken data_room is own =
    answered x found taken n data_room (subst (λ y. OwnAnswer becomes_udp_datagram (λ y. y) y found) is.0 own) is.1

-- reads that found fields
pub found_is : (prefix : Prefix (Result UdpDatagramStored UdpDatagramError)) (plain : Result (Result UdpDatagramStored UdpDatagramError) Error) (found : Result UdpDatagramStored UdpDatagramError) (taken n : ℕ)
    (it : UdpDatagramStored) → IsDecided prefix taken plain → OwnAnswer becomes_udp_datagram (λ y. y) plain found
    → prefix ≡ Done n (Ok (Ok it)) → found ≡ Ok it
found_is prefix plain found taken n it is own done =
    let both = subst (λ p. IsDecided p taken plain) done is in
    subst (λ x. OwnAnswer becomes_udp_datagram (λ y. y) x found) both.0 own

abbrev ok_of : UdpDatagramStored → Result UdpDatagramStored UdpDatagramError
ok_of x = Ok x

stored_is : {x y : UdpDatagramStored} → ok_of x ≡ ok_of y → x ≡ y
stored_is is = cc

-- a read whose error a `?` returned
pub stopped : {R : Type 0} {K : BitSource R} {old new : R} {pseudo : Ipv4Pseudo} {data_was : List ℕ} {data_now : List ℕ} {P : UdpDatagramError → Type 0}
    (r : Result UdpDatagramFound UdpDatagramError) → IsErrAnd r P → ((s : Result UdpDatagramStored UdpDatagramError) → IsErrAnd s P → ReadsOwn K becomes_udp_datagram (udp_datagram_unsummed_decoder K.order pseudo) old s new)
    → UdpDatagramRead K pseudo old data_was r new data_now
stopped (Ok c) bad reads = absurd bad
stopped (Err e) is reads = record { found = Err e; reads = reads (Err e) is; told = refl; data_items = λ it no. cc }

-- a read of all fields
pub read_done : {R : Type 0} {K : BitSource R} {old new : R} {pseudo : Ipv4Pseudo} {data_was : List ℕ} {data_now : List ℕ} {it : UdpDatagramStored}
    {r : Result UdpDatagramFound UdpDatagramError} → ReadsOwn K becomes_udp_datagram (udp_datagram_unsummed_decoder K.order pseudo) old (Ok it) new → r ≡ Ok (udp_datagram_found it)
    → data_now ≡ stored it.value.data data_was
    → UdpDatagramRead K pseudo old data_was r new data_now
read_done {data_was = data_was} {data_now = data_now} {it = it} reads says data_kept = record {
  found = Ok it;
  reads = reads;
  told = says;
  data_items = λ v is. subst (λ (x : UdpDatagramStored). data_now ≡ stored x.value.data data_was) (stored_is is) data_kept;
}

-- fields whose stored checksum is theirs
test_is : (it : UdpDatagramStored) (value : UdpDatagram) → udp_datagram_tested it ≡ Ok value → it.value ≡ value
test_is it value is = if-ok _ it.value value WrongSum is

-- packed bytes are parsed again
pub packed : (value : UdpDatagram) (bytes : List ℕ) (data_room : ℕ) → Fits value → bits High (take (udp_datagram_bytes value) bytes) ≡ udp_datagram_bits value
    → udp_datagram_answer data_room ((udp_datagram_unsummed_decoder High value.pseudo).reads 0 (bits High bytes))
    ≡ udp_datagram_within (udp_datagram_bytes value) data_room value (Ok value)
packed value bytes data_room fits is =
    let all = udp_datagram_packs High value fits in
    let parts = padded High (udp_datagram_writes High value) (udp_datagram_bytes value) bytes _ (told value) is in
    let done : (udp_datagram_decoder High value.pseudo).reads 0 (bits High bytes)
    ≡ Done (length (write_sequence (udp_datagram_writes High value) 0)) (Ok (Ok value)) = ap ((udp_datagram_decoder High value.pseudo).reads 0) parts ∙ (udp_datagram_goes High value fits).back 0 0 _ in
    let found = done-tested udp_datagram_tested _ _ value (sym ((splits High value.pseudo).same 0 (bits High bytes)) ∙ done) in
    ap (udp_datagram_answer data_room) found.1
    ∙ ap₂ (λ v r. udp_datagram_within ((length (write_sequence (udp_datagram_writes High value) 0) + 7) / 8) data_room v r)
    (test_is found.0 value found.2) found.2
    ∙ ap (λ k. udp_datagram_within ((k + 7) / 8) data_room value (Ok value)) (all.size 0)

-- the fields have no more bits
pub udp_datagram_most : (value : UdpDatagram) → Fits value → udp_datagram_size High value ≤ 524280
udp_datagram_most value fits =
    let data_most = stored-whole 1 8 0 (length value.data) (2 ^ 16) fits.data_bytes refl refl in
    omega (arith, fits, data_most)

-- Made by `./format --c` from ../network_messages/formats/ipv4_packet.fields: edit that file and make this one anew.
-- When a parse of a `Ipv4Packet` succeeds.
use Rattle.network_messages_c.specs.Ipv4Packet.{ipv4_packet_parsed, ipv4_packet_answer, ipv4_packet_bytes, Ipv4PacketRead, Ipv4PacketStored, ipv4_packet_unsummed_decoder, ipv4_packet_tested, ipv4_packet_found, ipv4_packet_told, ipv4_packet_within, ipv4_packet_summed}
use Rattle.network_messages_c.specs.Varied.{IsDecided}
use Rattle.network_messages_c.specs.Lists.{stored}
use Rattle.network_messages_c.specs.declared.ipv4_packet.Ipv4PacketFound.{Ipv4PacketFound}
use Rattle.network_messages.specs.Ipv4Packet.{ipv4_packet_decoder, ipv4_packet_writes, ipv4_packet_size, ipv4_packet_bits, Fits, becomes_ipv4_packet}
use Rattle.network_messages.specs.declared.ipv4_packet.Ipv4Packet.{Ipv4Packet}
use Rattle.network_messages.specs.declared.ipv4_packet.Ipv4PacketError.{Ipv4PacketError}
use Rattle.network_messages.specs.declared.ipv4_packet.Ipv4PacketError.TheVariants.{Reader, WrongSum}
use Rattle.network_messages.proofs.Ipv4PacketLemmas.{ipv4_packet_packs, ipv4_packet_goes, told}
use Rattle.network_messages_c.proofs.VariedLemmas.{padded}
use Rattle.network_messages_c.proofs.SumLemmas.{Tests, done-tested, if-ok, room-same, stored-first, stored-length, tests-end, tests-if, tests-part, tests-read}
use Rattle.std.proofs.Common.{◌≡◌, ◌≤◌, ◌∙◌, ◌+◌, ◌/◌, ℕ, List, Result, Ok, Err, length, refl, sym, ap, ap₂, subst, arith}
use Rattle.std.specs.Prelude.{◌^◌, take}
use Rattle.bitstream_io.proofs.CallerLemmas.{is_error}
use Rattle.bitstream_format.specs.SizeLaws.{stored-whole}
use Rattle.bitstream_io.specs.Callers.{EndOfInput, Error, Order, High, write_sequence, OwnAnswer, ReadsOwn, BitSource, result_map, bits}
use Rattle.std.specs.Result.{IsErrAnd}
use Rattle.bitstream_io.specs.Codec.{Prefix, Incomplete, Done}

-- the format's reads are those without the test of the checksum, and then the test
pub splits : (o : Order)
    → Tests ipv4_packet_tested (ipv4_packet_decoder o) (ipv4_packet_unsummed_decoder o)
splits o =
    tests-read _ _ (λ x_0. tests-if _ x_0 _ (tests-read _ _ (λ x_1. tests-read _ _ (λ x_2. tests-read _ _ (λ x_3. tests-read _ _ (λ x_4. tests-read _ _ (λ x_5. tests-if _ x_5 _ (tests-read _ _ (λ x_6. tests-read _ _ (λ x_7. tests-read _ _ (λ x_8. tests-read _ _ (λ x_9. tests-read _ _ (λ x_10. tests-read _ _ (λ x_11. tests-read _ _ (λ x_12. tests-read _ _ (λ x_13. tests-read _ _ (tests-part _ (λ x_14. tests-end _ _ _ _ _ refl))))))))))))))))))

-- the items in slices are those of the fields, unless there is no room for them
refilled : (it : Ipv4PacketStored) (taken : ℕ) (options_was : List ℕ) (options_now : List ℕ)
    → options_now ≡ stored it.value.options options_was
    → ipv4_packet_summed taken options_now (Ok (ipv4_packet_found it)) ≡ ipv4_packet_parsed taken (length options_was) (Ok it)
refilled it taken options_was options_now options_kept =
    let options_count = ap length options_kept ∙ stored-length it.value.options options_was in
    room-same _ _ options_count (λ options_le. ap (λ (items : List ℕ). ipv4_packet_told taken (ipv4_packet_tested (record { stored_sum16 = it.stored_sum16; value = record { service = it.value.service; length = it.value.length; id = it.value.id; keep_whole = it.value.keep_whole; more = it.value.more; offset = it.value.offset; ttl = it.value.ttl; protocol = it.value.protocol; source = it.value.source; target = it.value.target; options = items } }))) (ap (take (length it.value.options)) options_kept ∙ stored-first it.value.options options_was options_le))

-- what C gets for what a read left in slices is what it gets for the fields
pub summed_is : (found : Result Ipv4PacketStored Ipv4PacketError) (taken : ℕ) (options_was : List ℕ) (options_now : List ℕ)
    → ((it : Ipv4PacketStored) → found ≡ Ok it → (options_now ≡ stored it.value.options options_was))
    → ipv4_packet_summed taken options_now (result_map ipv4_packet_found found) ≡ ipv4_packet_parsed taken (length options_was) found
summed_is (Ok it) taken options_was options_now kept = refilled it taken options_was options_now (kept it refl)
summed_is (Err e) taken options_was options_now kept = refl

-- what C gets is decided by what the reads say
answered : (plain : Result (Result Ipv4PacketStored Ipv4PacketError) Error) (found : Result Ipv4PacketStored Ipv4PacketError) (taken n options_room : ℕ)
    → OwnAnswer becomes_ipv4_packet (λ y. y) plain found → taken ≡ (n + 7) / 8
    → ipv4_packet_parsed taken options_room found ≡ ipv4_packet_answer options_room (Done n plain)
answered (Ok x) found taken n options_room is count = ap₂ (λ k r. ipv4_packet_parsed k options_room r) count is
answered (Err e) found taken n options_room is count =
    ap (λ r. ipv4_packet_parsed taken options_room r) (is_error found (Reader e) is)

pub decided : (prefix : Prefix (Result Ipv4PacketStored Ipv4PacketError)) (plain : Result (Result Ipv4PacketStored Ipv4PacketError) Error) (found : Result Ipv4PacketStored Ipv4PacketError) (taken options_room : ℕ)
    → IsDecided prefix taken plain → OwnAnswer becomes_ipv4_packet (λ y. y) plain found
    → ipv4_packet_parsed taken options_room found ≡ ipv4_packet_answer options_room prefix
decided Incomplete plain found taken options_room is own =
    ap (λ r. ipv4_packet_parsed taken options_room r)
    (is_error found (Reader EndOfInput) (subst (λ x. OwnAnswer becomes_ipv4_packet (λ y. y) x found) is own))
decided (Done n x) plain found taken options_room is own =
    answered x found taken n options_room (subst (λ y. OwnAnswer becomes_ipv4_packet (λ y. y) y found) is.0 own) is.1

-- reads that found fields
pub found_is : (prefix : Prefix (Result Ipv4PacketStored Ipv4PacketError)) (plain : Result (Result Ipv4PacketStored Ipv4PacketError) Error) (found : Result Ipv4PacketStored Ipv4PacketError) (taken n : ℕ)
    (it : Ipv4PacketStored) → IsDecided prefix taken plain → OwnAnswer becomes_ipv4_packet (λ y. y) plain found
    → prefix ≡ Done n (Ok (Ok it)) → found ≡ Ok it
found_is prefix plain found taken n it is own done =
    let both = subst (λ p. IsDecided p taken plain) done is in
    subst (λ x. OwnAnswer becomes_ipv4_packet (λ y. y) x found) both.0 own

abbrev ok_of : Ipv4PacketStored → Result Ipv4PacketStored Ipv4PacketError
ok_of x = Ok x

stored_is : {x y : Ipv4PacketStored} → ok_of x ≡ ok_of y → x ≡ y
stored_is is = cc

-- a read whose error a `?` returned
pub stopped : {R : Type 0} {K : BitSource R} {old new : R} {options_was : List ℕ} {options_now : List ℕ} {P : Ipv4PacketError → Type 0}
    (r : Result Ipv4PacketFound Ipv4PacketError) → IsErrAnd r P → ((s : Result Ipv4PacketStored Ipv4PacketError) → IsErrAnd s P → ReadsOwn K becomes_ipv4_packet (ipv4_packet_unsummed_decoder K.order) old s new)
    → Ipv4PacketRead K old options_was r new options_now
stopped (Ok c) bad reads = absurd bad
stopped (Err e) is reads = record { found = Err e; reads = reads (Err e) is; told = refl; options_items = λ it no. cc }

-- a read of all fields
pub read_done : {R : Type 0} {K : BitSource R} {old new : R} {options_was : List ℕ} {options_now : List ℕ} {it : Ipv4PacketStored}
    {r : Result Ipv4PacketFound Ipv4PacketError} → ReadsOwn K becomes_ipv4_packet (ipv4_packet_unsummed_decoder K.order) old (Ok it) new → r ≡ Ok (ipv4_packet_found it)
    → options_now ≡ stored it.value.options options_was
    → Ipv4PacketRead K old options_was r new options_now
read_done {options_was = options_was} {options_now = options_now} {it = it} reads says options_kept = record {
  found = Ok it;
  reads = reads;
  told = says;
  options_items = λ v is. subst (λ (x : Ipv4PacketStored). options_now ≡ stored x.value.options options_was) (stored_is is) options_kept;
}

-- fields whose stored checksum is theirs
test_is : (it : Ipv4PacketStored) (value : Ipv4Packet) → ipv4_packet_tested it ≡ Ok value → it.value ≡ value
test_is it value is = if-ok _ it.value value WrongSum is

-- packed bytes are parsed again
pub packed : (value : Ipv4Packet) (bytes : List ℕ) (options_room : ℕ) → Fits value → bits High (take (ipv4_packet_bytes value) bytes) ≡ ipv4_packet_bits value
    → ipv4_packet_answer options_room ((ipv4_packet_unsummed_decoder High).reads 0 (bits High bytes))
    ≡ ipv4_packet_within (ipv4_packet_bytes value) options_room value (Ok value)
packed value bytes options_room fits is =
    let all = ipv4_packet_packs High value fits in
    let parts = padded High (ipv4_packet_writes High value) (ipv4_packet_bytes value) bytes _ (told value) is in
    let done : (ipv4_packet_decoder High).reads 0 (bits High bytes)
    ≡ Done (length (write_sequence (ipv4_packet_writes High value) 0)) (Ok (Ok value)) = ap ((ipv4_packet_decoder High).reads 0) parts ∙ (ipv4_packet_goes High value fits).back 0 0 _ in
    let found = done-tested ipv4_packet_tested _ _ value (sym ((splits High).same 0 (bits High bytes)) ∙ done) in
    ap (ipv4_packet_answer options_room) found.1
    ∙ ap₂ (λ v r. ipv4_packet_within ((length (write_sequence (ipv4_packet_writes High value) 0) + 7) / 8) options_room v r)
    (test_is found.0 value found.2) found.2
    ∙ ap (λ k. ipv4_packet_within ((k + 7) / 8) options_room value (Ok value)) (all.size 0)

-- the fields have no more bits
pub ipv4_packet_most : (value : Ipv4Packet) → Fits value → ipv4_packet_size High value ≤ 480
ipv4_packet_most value fits =
    let options_most = stored-whole 4 20 0 (length value.options) (2 ^ 4) fits.options_bytes refl refl in
    omega (arith, fits, options_most)

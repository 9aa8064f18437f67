-- Test vectors of the formats by hand. The bytes are from captures, and from the documents that the comments name.
use Rattle.std.proofs.Common.{◌≡◌, ◌*◌, ◌++◌, ◌∷◌, [], ℕ, true, false, List, Some, None, Ok, Err, length, refl}
use Rattle.std.specs.Prelude.{negsuc}
use Rattle.bitstream_io.specs.Codec.{and_then}
use Rattle.bitstream_io.specs.Word.{digits, digits_number, bytes_of}
use Rattle.bitstream_io.specs.WriteTable.{unsigned, signed}
use Rattle.bitstream_io.specs.ReadTable.{unsigned_decoder, signed_decoder, const_decoder, bytes_decoder, skip_decoder}
use Rattle.bitstream_io.specs.Array.{items_decoder}
use Rattle.bitstream_io.specs.Callers.{Done, High, bits, align, write_sequence, sure_answer}
use Rattle.bitstream_format.specs.Format.{Plain, Own}
use Rattle.bitstream_format.specs.Examples.Sample.{sample}
use Rattle.bitstream_format.specs.Examples.Adts.{adts}
use Rattle.bitstream_format.specs.Examples.RtpHeader.{rtp_header}
use Rattle.bitstream_format.specs.Examples.Gre.{gre, OtherVersion}
use Rattle.bitstream_format.specs.Examples.Stun.{xor_mapped_address, V4, V6, UnknownFamily, WrongSize as StunSize}
use Rattle.bitstream_format.specs.Examples.Relay.{relay, WrongSize as RelaySize}
use Rattle.bitstream_format.specs.Examples.Hello.{hello, Algorithms, ExtendedSecret, Other, OtherMessage}
use Rattle.bitstream_format.specs.declared.examples.adts.AdtsError.TheVariants.{NoSync}
use Rattle.bitstream_format.specs.declared.examples.rtp_header.RtpError.TheVariants.{WrongVersion}
use Rattle.bitstream_format.specs.Examples.DhcpOption.{dhcp_option}
use Rattle.bitstream_format.specs.declared.examples.dhcp_option.DhcpOption.TheVariants.{MessageType, LeaseTime}
use Rattle.bitstream_format.specs.declared.examples.dhcp_option.DhcpError.TheVariants.{UnknownOption, WrongSize as DhcpSize}

-- a value is written as these bytes, and read from them
abbrev IsPlainRow : {A : Type 0} → Plain A → A → List ℕ → Type 0
IsPlainRow F value row =
    (write_sequence (F.write High value ++ align ∷ []) 0 ≡ bits High row)
    × ((F.read High).reads 0 (bits High row) ≡ Done (8 * length row) (Ok value))

abbrev IsRow : {A E : Type 0} → Own E A → A → List ℕ → Type 0
IsRow F value row =
    (write_sequence (F.write High value ++ align ∷ []) 0 ≡ bits High row)
    × ((F.read High).reads 0 (bits High row) ≡ Done (8 * length row) (Ok (Ok value)))

-- a read of these bytes returns this error
abbrev Refuses : {A E : Type 0} → Own E A → List ℕ → E → Type 0
Refuses F row err = sure_answer ((F.read High).reads 0 (bits High row)) ≡ Ok (Err err)

sample_row : IsPlainRow sample
    (record { seconds = 74565; running = true; temperature = negsuc 19; pressure = 101325 })
    (18 ∷ 52 ∷ 95 ∷ 177 ∷ 139 ∷ 205 ∷ [])
unfolding and_then digits digits_number bytes_of unsigned signed unsigned_decoder signed_decoder const_decoder bytes_decoder skip_decoder items_decoder
sample_row = (refl, refl)

adts_row : IsRow adts
    (record { mpeg_2 = false; protection_absent = true; profile = 1; frequency = 4; private = false; channels = 2; original = false; home = false; copyright_id = false; copyright_start = false; frame_length = 16; fullness = 2047; blocks = 0 })
    (255 ∷ 241 ∷ 80 ∷ 128 ∷ 2 ∷ 31 ∷ 252 ∷ [])
unfolding and_then digits digits_number bytes_of unsigned signed unsigned_decoder signed_decoder const_decoder bytes_decoder skip_decoder items_decoder
adts_row = (refl, refl)

adts_other : Refuses adts (255 ∷ 1 ∷ 80 ∷ []) NoSync
unfolding and_then digits digits_number bytes_of unsigned signed unsigned_decoder signed_decoder const_decoder bytes_decoder skip_decoder items_decoder
adts_other = refl

rtp_row : IsRow rtp_header
    (record { padding = false; extension = false; marker = true; payload_type = 11; sequence = 2; timestamp = 160; ssrc = 305419896; csrc = 7 ∷ 3737844653 ∷ [] })
    (130 ∷ 139 ∷ 0 ∷ 2 ∷ 0 ∷ 0 ∷ 0 ∷ 160 ∷ 18 ∷ 52 ∷ 86 ∷ 120 ∷ 0 ∷ 0 ∷ 0 ∷ 7 ∷ 222 ∷ 202 ∷ 251 ∷ 173 ∷ [])
unfolding and_then digits digits_number bytes_of unsigned signed unsigned_decoder signed_decoder const_decoder bytes_decoder skip_decoder items_decoder
rtp_row = (refl, refl)

rtp_other : Refuses rtp_header (64 ∷ 64 ∷ 241 ∷ 123 ∷ []) WrongVersion
unfolding and_then digits digits_number bytes_of unsigned signed unsigned_decoder signed_decoder const_decoder bytes_decoder skip_decoder items_decoder
rtp_other = refl

-- a key, and Ethernet; the first four bytes are of RFC 7637, 3.2
gre_row : IsRow gre
    (record { protocol = 25944; checksum = None; key = Some 1193046; sequence = None })
    (32 ∷ 0 ∷ 101 ∷ 88 ∷ 0 ∷ 18 ∷ 52 ∷ 86 ∷ [])
unfolding and_then digits digits_number bytes_of unsigned signed unsigned_decoder signed_decoder const_decoder bytes_decoder skip_decoder items_decoder
gre_row = (refl, refl)

-- IPv4 in GRE
gre_plain : IsRow gre
    (record { protocol = 2048; checksum = None; key = None; sequence = None })
    (0 ∷ 0 ∷ 8 ∷ 0 ∷ [])
unfolding and_then digits digits_number bytes_of unsigned signed unsigned_decoder signed_decoder const_decoder bytes_decoder skip_decoder items_decoder
gre_plain = (refl, refl)

-- the enhanced header of PPTP (RFC 2637, 4.1)
gre_other : Refuses gre (48 ∷ 1 ∷ 136 ∷ 11 ∷ []) OtherVersion
unfolding and_then digits digits_number bytes_of unsigned signed unsigned_decoder signed_decoder const_decoder bytes_decoder skip_decoder items_decoder
gre_other = refl

-- of RFC 5769, 2.2
stun_v4 : IsRow xor_mapped_address
    (V4 41287 3776095811)
    (0 ∷ 32 ∷ 0 ∷ 8 ∷ 0 ∷ 1 ∷ 161 ∷ 71 ∷ 225 ∷ 18 ∷ 166 ∷ 67 ∷ [])
unfolding and_then digits digits_number bytes_of unsigned signed unsigned_decoder signed_decoder const_decoder bytes_decoder skip_decoder items_decoder
stun_v4 = (refl, refl)

-- of RFC 5769, 2.3
stun_v6 : IsRow xor_mapped_address
    (V6 41287 1431329221681973600628470875491056089)
    (0 ∷ 32 ∷ 0 ∷ 20 ∷ 0 ∷ 2 ∷ 161 ∷ 71 ∷ 1 ∷ 19 ∷ 169 ∷ 250 ∷ 165 ∷ 211 ∷ 241 ∷ 121 ∷ 188 ∷ 37 ∷ 244 ∷ 181 ∷ 190 ∷
    210 ∷ 185 ∷ 217 ∷ [])
unfolding and_then digits digits_number bytes_of unsigned signed unsigned_decoder signed_decoder const_decoder bytes_decoder skip_decoder items_decoder
stun_v6 = (refl, refl)

-- another family
stun_other : Refuses xor_mapped_address (0 ∷ 32 ∷ 0 ∷ 8 ∷ 0 ∷ 3 ∷ 161 ∷ 71 ∷ 225 ∷ 18 ∷ 166 ∷ 67 ∷ []) UnknownFamily
unfolding and_then digits digits_number bytes_of unsigned signed unsigned_decoder signed_decoder const_decoder bytes_decoder skip_decoder items_decoder
stun_other = refl

-- a byte that the address does not fill
stun_long : Refuses xor_mapped_address (0 ∷ 32 ∷ 0 ∷ 9 ∷ 0 ∷ 1 ∷ 161 ∷ 71 ∷ 225 ∷ 18 ∷ 166 ∷ 67 ∷ 0 ∷ []) StunSize
unfolding and_then digits digits_number bytes_of unsigned signed unsigned_decoder signed_decoder const_decoder bytes_decoder skip_decoder items_decoder
stun_long = refl

-- too few bytes for the address, whatever follows
stun_short : Refuses xor_mapped_address (0 ∷ 32 ∷ 0 ∷ 7 ∷ 0 ∷ 1 ∷ 161 ∷ 71 ∷ 225 ∷ 18 ∷ 166 ∷ 67 ∷ 128 ∷ 34 ∷ []) StunSize
unfolding and_then digits digits_number bytes_of unsigned signed unsigned_decoder signed_decoder const_decoder bytes_decoder skip_decoder items_decoder
stun_short = refl

-- DHCPDISCOVER, as RFC 2132, 9.6 numbers it
dhcp_type : IsRow dhcp_option
    (MessageType 1)
    (53 ∷ 1 ∷ 1 ∷ [])
unfolding and_then digits digits_number bytes_of unsigned signed unsigned_decoder signed_decoder const_decoder bytes_decoder skip_decoder items_decoder
dhcp_type = (refl, refl)

-- a day
dhcp_lease : IsRow dhcp_option
    (LeaseTime 86400)
    (51 ∷ 4 ∷ 0 ∷ 1 ∷ 81 ∷ 128 ∷ [])
unfolding and_then digits digits_number bytes_of unsigned signed unsigned_decoder signed_decoder const_decoder bytes_decoder skip_decoder items_decoder
dhcp_lease = (refl, refl)

dhcp_unknown : Refuses dhcp_option (54 ∷ 4 ∷ 127 ∷ 0 ∷ 0 ∷ 1 ∷ []) UnknownOption
unfolding and_then digits digits_number bytes_of unsigned signed unsigned_decoder signed_decoder const_decoder bytes_decoder skip_decoder items_decoder
dhcp_unknown = refl

-- a byte that the value does not fill
dhcp_long : Refuses dhcp_option (53 ∷ 2 ∷ 1 ∷ 0 ∷ []) DhcpSize
unfolding and_then digits digits_number bytes_of unsigned signed unsigned_decoder signed_decoder const_decoder bytes_decoder skip_decoder items_decoder
dhcp_long = refl

-- a circuit and a remote station, as switches of Cisco write them
relay_row : IsRow relay
    (record { options = (record { code = 1; value = 0 ∷ 4 ∷ 0 ∷ 1 ∷ 1 ∷ 2 ∷ [] }) ∷ (record { code = 2; value = 0 ∷ 6 ∷ 0 ∷ 30 ∷ 20 ∷ 169 ∷ 19 ∷ 192 ∷ [] }) ∷ [] })
    (82 ∷ 18 ∷ 1 ∷ 6 ∷ 0 ∷ 4 ∷ 0 ∷ 1 ∷ 1 ∷ 2 ∷ 2 ∷ 8 ∷ 0 ∷ 6 ∷ 0 ∷ 30 ∷ 20 ∷ 169 ∷ 19 ∷ 192 ∷ [])
unfolding and_then digits digits_number bytes_of unsigned signed unsigned_decoder signed_decoder const_decoder bytes_decoder skip_decoder items_decoder
relay_row = (refl, refl)

-- the second sub-option does not end with the option
relay_over : Refuses relay (82 ∷ 3 ∷ 1 ∷ 2 ∷ 0 ∷ []) RelaySize
unfolding and_then digits digits_number bytes_of unsigned signed unsigned_decoder signed_decoder const_decoder bytes_decoder skip_decoder items_decoder
relay_over = refl

-- of a capture: the client of OpenSSL
hello_row : IsRow hello
    (record { version = 771; random = 30 ∷ 95 ∷ 30 ∷ 124 ∷ 190 ∷ 117 ∷ 123 ∷ 212 ∷ 9 ∷ 228 ∷ 18 ∷ 77 ∷ 107 ∷ 239 ∷ 244 ∷ 80 ∷ 89 ∷ 192 ∷ 65 ∷ 58 ∷ 242 ∷ 241 ∷ 151 ∷ 39 ∷ 0 ∷ 178 ∷ 254 ∷ 155 ∷ 34 ∷ 120 ∷ 213 ∷ 131 ∷ []; session = []; suites = 47 ∷ 255 ∷ []; compressions = 0 ∷ []; extensions = Other 35 [] ∷ Other 22 [] ∷ ExtendedSecret ∷ Algorithms (1027 ∷ 1283 ∷ 1539 ∷ 2055 ∷ 2056 ∷ 2057 ∷ 2058 ∷ 2059 ∷ 2052 ∷ 2053 ∷ 2054 ∷ 1025 ∷ 1281 ∷ 1537 ∷ 771 ∷ 769 ∷ 770 ∷ 1026 ∷ 1282 ∷ 1538 ∷ []) ∷ [] })
    (1 ∷ 0 ∷ 0 ∷ 103 ∷ 3 ∷ 3 ∷ 30 ∷ 95 ∷ 30 ∷ 124 ∷ 190 ∷ 117 ∷ 123 ∷ 212 ∷ 9 ∷ 228 ∷ 18 ∷ 77 ∷ 107 ∷ 239 ∷ 244 ∷ 80
    ∷ 89 ∷ 192 ∷ 65 ∷ 58 ∷ 242 ∷ 241 ∷ 151 ∷ 39 ∷ 0 ∷ 178 ∷ 254 ∷ 155 ∷ 34 ∷ 120 ∷ 213 ∷ 131 ∷ 0 ∷ 0 ∷ 4 ∷ 0 ∷
    47 ∷ 0 ∷ 255 ∷ 1 ∷ 0 ∷ 0 ∷ 58 ∷ 0 ∷ 35 ∷ 0 ∷ 0 ∷ 0 ∷ 22 ∷ 0 ∷ 0 ∷ 0 ∷ 23 ∷ 0 ∷ 0 ∷ 0 ∷ 13 ∷ 0 ∷ 42 ∷ 0 ∷ 40
    ∷ 4 ∷ 3 ∷ 5 ∷ 3 ∷ 6 ∷ 3 ∷ 8 ∷ 7 ∷ 8 ∷ 8 ∷ 8 ∷ 9 ∷ 8 ∷ 10 ∷ 8 ∷ 11 ∷ 8 ∷ 4 ∷ 8 ∷ 5 ∷ 8 ∷ 6 ∷ 4 ∷ 1 ∷ 5 ∷ 1 ∷
    6 ∷ 1 ∷ 3 ∷ 3 ∷ 3 ∷ 1 ∷ 3 ∷ 2 ∷ 4 ∷ 2 ∷ 5 ∷ 2 ∷ 6 ∷ 2 ∷ [])
unfolding and_then digits digits_number bytes_of unsigned signed unsigned_decoder signed_decoder const_decoder bytes_decoder skip_decoder items_decoder
hello_row = (refl, refl)

hello_other : Refuses hello (2 ∷ 0 ∷ 0 ∷ 44 ∷ []) OtherMessage
unfolding and_then digits digits_number bytes_of unsigned signed unsigned_decoder signed_decoder const_decoder bytes_decoder skip_decoder items_decoder
hello_other = refl

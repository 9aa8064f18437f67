-- A datagram of UDP over IPv4, with its checksum (RFC 768).
use Rattle.network_messages.specs.declared.udp_datagram.UdpDatagram.{UdpDatagram}
use Rattle.network_messages.specs.declared.udp_datagram.UdpDatagramError.{UdpDatagramError}
use Rattle.network_messages.specs.declared.udp_datagram.UdpDatagramError.TheVariants.{Reader, ShortLength, WrongSum}
use Rattle.network_messages.specs.declared.ipv4_pseudo.Ipv4Pseudo.{Ipv4Pseudo}
use Rattle.network_messages.specs.Ipv4Pseudo.{ipv4_pseudo_writes}
use Rattle.bitstream_format.specs.Stated.{sized_bytes, stated_decoder, stored_size}
use Rattle.std.specs.Prelude.{◌≡◌, ◌^◌, ◌<◌, ◌+◌, ◌*◌, ◌++◌, ◌∷◌, [], ◌==◌, if◌then◌else◌, ℕ, Bool, List, Result, Ok, Err, length}
use Rattle.std.specs.List.{All}
use Rattle.bitstream_io.specs.Callers.{◌>>=◌, Decoder, Encoder, pure, Error, Order, High, and_then, unsigned_decoder, unsigned, buffer, zeros, align, write_sequence, part_then}
use Rattle.bitstream_format.specs.Checks.{sum16_udp}
use Rattle.bitstream_format.specs.Summed.{lines_sum}

-- Made by `./format` from formats/udp_datagram.fields: edit that file and make this one anew.

-- an error of the reader is one of the type's
abbrev pub becomes_udp_datagram : Error → UdpDatagramError → Type 0
becomes_udp_datagram error own = own ≡ Reader error

-- the reads of `data` by the number that states its size
abbrev pub data_stated : Order → ℕ → Decoder (Result (List ℕ) UdpDatagramError)
data_stated o stored = stated_decoder 1 8 0 ShortLength sized_bytes o stored

-- the writes that the sum16_udp covers, in order
abbrev pub sum16_udp_writes : Order → UdpDatagram → List Encoder
sum16_udp_writes o value =
    ipv4_pseudo_writes o value.pseudo
    ++ unsigned o 16 16 value.source
    ∷ unsigned o 16 16 value.target
    ∷ unsigned o 64 16 (stored_size 1 8 0 (length value.data))
    ∷ zeros 16
    ∷ buffer o value.data
    ∷ []

-- the sum16-udp of these lines
abbrev pub sum16_udp_sum : UdpDatagram → ℕ
sum16_udp_sum value = lines_sum sum16_udp High (sum16_udp_writes High value)

-- the reads, in order, after 2 that may be refused
abbrev pub udp_datagram_decoder_2 : Order → Ipv4Pseudo → ℕ → ℕ → ℕ → ℕ → List ℕ → Decoder (Result UdpDatagram
    UdpDatagramError)
udp_datagram_decoder_2 o pseudo source target data_bytes stored_sum16_udp data_ = pure (Ok (record {
  pseudo = pseudo;
  source = source;
  target = target;
  «data» = data_;
}))

-- the reads, in order, after 1 that may be refused
abbrev pub udp_datagram_decoder_1 : Order → Ipv4Pseudo → ℕ → ℕ → ℕ → ℕ → List ℕ → Decoder (Result UdpDatagram
    UdpDatagramError)
udp_datagram_decoder_1 o pseudo source target data_bytes stored_sum16_udp data_ = if stored_sum16_udp == sum16_udp_sum
    (record { pseudo = pseudo; source = source; target = target; «data» = data_ }) then udp_datagram_decoder_2 o pseudo
    source target data_bytes stored_sum16_udp data_ else pure (Err WrongSum)

-- the reads, in order
abbrev pub udp_datagram_decoder : Order → Ipv4Pseudo → Decoder (Result UdpDatagram UdpDatagramError)
udp_datagram_decoder o pseudo = do
  source ← unsigned_decoder o 16 16
  target ← unsigned_decoder o 16 16
  data_bytes ← unsigned_decoder o 64 16
  stored_sum16_udp ← unsigned_decoder o 64 16
  and_then (data_stated o data_bytes) (part_then (λ data_. udp_datagram_decoder_1 o pseudo source target data_bytes
      stored_sum16_udp data_))

-- the writes, in order
abbrev pub udp_datagram_writes : Order → UdpDatagram → List Encoder
udp_datagram_writes o value =
    unsigned o 16 16 value.source
    ∷ unsigned o 16 16 value.target
    ∷ unsigned o 64 16 (stored_size 1 8 0 (length value.data))
    ∷ unsigned o 64 16 (sum16_udp_sum value)
    ∷ buffer o value.data
    ∷ []

-- each field fits its bits
pub record Fits (value : UdpDatagram) : Type 0 where
  pub source : value.source < 2 ^ 16
  pub target : value.target < 2 ^ 16
  pub data_bytes : stored_size 1 8 0 (length value.data) < 2 ^ 16
  pub data_ : All (λ b. b < 256) value.data

-- the number of bits
abbrev pub udp_datagram_size : Order → UdpDatagram → ℕ
udp_datagram_size o value = 64 + 8 * length value.data

-- the bits of all fields, up to a whole byte
unfoldable pub udp_datagram_bits : UdpDatagram → List Bool
udp_datagram_bits value = write_sequence (udp_datagram_writes High value ++ align ∷ []) 0

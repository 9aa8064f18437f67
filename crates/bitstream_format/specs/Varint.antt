-- The numbers of variable length of QUIC (RFC 9000, section 16): two bits state whether 6, 14, 30 or 62 bits follow.
use Rattle.std.specs.Prelude.{ℕ, ◌+◌, ◌^◌, ◌==◌, List, [], ◌∷◌, nat_lt, nat_le, if◌then◌else◌}
use Rattle.bitstream_io.specs.Callers.{Decoder, Encoder, Order, and_then, unsigned, unsigned_decoder}

-- the number of bits after the first two, whose number is k
abbrev pub varint_width : ℕ → ℕ
varint_width k = if k == 0 then 6 else (if k == 1 then 14 else (if k == 2 then 30 else 62))

-- the number of the first two bits before v: the least whose bits hold it
abbrev pub varint_length : ℕ → ℕ
varint_length v =
    if nat_lt v 64 then 0 else (if nat_lt v 16384 then 1 else (if nat_lt v 1073741824 then 2 else 3))

-- the reads: after the two bits any number of the stated number of bits, even if it fits fewer
abbrev pub varint_decoder : Order → Decoder ℕ
varint_decoder o = and_then (unsigned_decoder o 32 2) (λ k. unsigned_decoder o 64 (varint_width k))

-- the encoding of v, below 2^62
abbrev pub varint_word : Order → ℕ → List Encoder
varint_word o v = unsigned o 32 2 (varint_length v) ∷ unsigned o 64 (varint_width (varint_length v)) v ∷ []

-- the writes of v, in order: the write of a number without an encoding fails, as a number that does not fit 62 bits
abbrev pub varint_writes : Order → ℕ → List Encoder
varint_writes o v = if nat_le 4611686018427387904 v then unsigned o 64 62 v ∷ [] else varint_word o v

-- the number of bits of an encoding
abbrev pub varint_size : ℕ → ℕ
varint_size v = 2 + varint_width (varint_length v)

-- Made by `./format` from formats/stun_header.fields: edit that file and make this one anew.
-- A written `StunHeader` is read back, and its number of bits.
use Rattle.protocols.specs.StunHeader.{stun_header_decoder, stun_header_writes, stun_header_size, stun_header_format, stun_header_bits, Fits}
use Rattle.protocols.specs.declared.stun_header.StunHeader.{StunHeader}
use Rattle.std.proofs.Common.{◌≡◌, ◌++◌, ◌∷◌, [], Ok, refl}
use Rattle.bitstream_io.proofs.CallerLemmas.{RoundTrip, Packs}
use Rattle.bitstream_io.specs.Callers.{Order, High, align, write_sequence}

-- a written value is read back
pub stun_header_goes : (o : Order) (value : StunHeader) → Fits value
    → RoundTrip (stun_header_decoder o) (stun_header_writes o value) (Ok value)
stun_header_goes = stun_header_format.round_trip

-- each write is accepted, and the value's size is the number of bits written
pub stun_header_packs : (o : Order) (value : StunHeader) → Fits value
    → Packs (stun_header_writes o value) (stun_header_size o value)
stun_header_packs = stun_header_format.packs

-- the bits, of which a search is to see no part
pub told : (value : StunHeader)
    → write_sequence (stun_header_writes High value ++ align ∷ []) 0 ≡ stun_header_bits value
unfolding stun_header_bits
told value = refl

-- Made by `./format` from formats/ipv4_pseudo.fields: edit that file and make this one anew.
-- A written `Ipv4Pseudo` is read back, and its number of bits.
use Rattle.network_messages.specs.Ipv4Pseudo.{ipv4_pseudo_decoder, ipv4_pseudo_writes, ipv4_pseudo_size, ipv4_pseudo_format, ipv4_pseudo_bits, Fits}
use Rattle.network_messages.specs.declared.ipv4_pseudo.Ipv4Pseudo.{Ipv4Pseudo}
use Rattle.std.proofs.Common.{◌≡◌, ◌++◌, ◌∷◌, [], refl}
use Rattle.bitstream_io.proofs.CallerLemmas.{RoundTrip, Packs}
use Rattle.bitstream_io.specs.Callers.{Order, High, align, write_sequence}

-- a written value is read back
pub ipv4_pseudo_goes : (o : Order) (value : Ipv4Pseudo) → Fits value
    → RoundTrip (ipv4_pseudo_decoder o) (ipv4_pseudo_writes o value) value
ipv4_pseudo_goes = ipv4_pseudo_format.round_trip

-- each write is accepted, and the value's size is the number of bits written
pub ipv4_pseudo_packs : (o : Order) (value : Ipv4Pseudo) → Fits value
    → Packs (ipv4_pseudo_writes o value) (ipv4_pseudo_size o value)
ipv4_pseudo_packs = ipv4_pseudo_format.packs

-- the bits, of which a search is to see no part
pub told : (value : Ipv4Pseudo)
    → write_sequence (ipv4_pseudo_writes High value ++ align ∷ []) 0 ≡ ipv4_pseudo_bits value
unfolding ipv4_pseudo_bits
told value = refl

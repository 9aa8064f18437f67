-- Made by `./format` from formats/icmp_ids.fields: edit that file and make this one anew.
-- A written `IcmpIds` is read back, and its number of bits.
use Rattle.protocols.specs.IcmpIds.{icmp_ids_decoder, icmp_ids_writes, icmp_ids_size, icmp_ids_format, icmp_ids_bits, Fits}
use Rattle.protocols.specs.declared.icmp_ids.IcmpIds.{IcmpIds}
use Rattle.std.proofs.Common.{◌≡◌, ◌++◌, ◌∷◌, [], ℕ, refl}
use Rattle.bitstream_io.proofs.CallerLemmas.{RoundTrip, Packs}
use Rattle.bitstream_io.specs.Callers.{Order, High, align, write_sequence, AllAccepted}

-- a written value is read back
pub icmp_ids_goes : (o : Order) (value : IcmpIds) → Fits value
    → RoundTrip (icmp_ids_decoder o) (icmp_ids_writes o value) value
icmp_ids_goes = icmp_ids_format.round_trip

-- each write is accepted, and the value's size is the number of bits written
pub icmp_ids_packs : (o : Order) (value : IcmpIds) → Fits value
    → Packs (icmp_ids_writes o value) (icmp_ids_size o value)
icmp_ids_packs = icmp_ids_format.packs

-- each field fits if each write is accepted
pub icmp_ids_fits : (o : Order) (value : IcmpIds) (at : ℕ) → AllAccepted (icmp_ids_writes o value) at → Fits value
icmp_ids_fits o value at = icmp_ids_format.accepted o value at tt

-- the bits, of which a search is to see no part
pub told : (value : IcmpIds)
    → write_sequence (icmp_ids_writes High value ++ align ∷ []) 0 ≡ icmp_ids_bits value
unfolding icmp_ids_bits
told value = refl

-- Made by `./format` from formats/icmp_echo.fields: edit that file and make this one anew.
-- A written `IcmpEcho` is read back, and its number of bits.
use Rattle.protocols.specs.IcmpEcho.{icmp_echo_decoder, icmp_echo_writes, icmp_echo_size, icmp_echo_format, icmp_echo_bits, Fits}
use Rattle.protocols.specs.declared.icmp_echo.IcmpEcho.{IcmpEcho}
use Rattle.std.proofs.Common.{◌≡◌, ◌++◌, ◌∷◌, [], ℕ, Ok, refl}
use Rattle.bitstream_io.proofs.CallerLemmas.{RoundTrip, Packs}
use Rattle.bitstream_io.specs.Callers.{Order, High, align, write_sequence, AllAccepted}

-- a written value is read back
pub icmp_echo_goes : (o : Order) (value : IcmpEcho) → Fits value
    → RoundTrip (icmp_echo_decoder o) (icmp_echo_writes o value) (Ok value)
icmp_echo_goes = icmp_echo_format.round_trip

-- each write is accepted, and the value's size is the number of bits written
pub icmp_echo_packs : (o : Order) (value : IcmpEcho) → Fits value
    → Packs (icmp_echo_writes o value) (icmp_echo_size o value)
icmp_echo_packs = icmp_echo_format.packs

-- each field fits if each write is accepted
pub icmp_echo_fits : (o : Order) (value : IcmpEcho) (at : ℕ) → AllAccepted (icmp_echo_writes o value) at → Fits value
icmp_echo_fits o value at = icmp_echo_format.accepted o value at tt

-- the bits, of which a search is to see no part
pub told : (value : IcmpEcho)
    → write_sequence (icmp_echo_writes High value ++ align ∷ []) 0 ≡ icmp_echo_bits value
unfolding icmp_echo_bits
told value = refl

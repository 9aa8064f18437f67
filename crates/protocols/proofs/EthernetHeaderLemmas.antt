-- Made by `./format` from formats/ethernet_header.fields: edit that file and make this one anew.
-- A written `EthernetHeader` is read back, and its number of bits.
use Rattle.protocols.specs.EthernetHeader.{ethernet_header_decoder, ethernet_header_writes, ethernet_header_size, ethernet_header_format, ethernet_header_bits, Fits}
use Rattle.protocols.specs.declared.ethernet_header.EthernetHeader.{EthernetHeader}
use Rattle.std.proofs.Common.{◌≡◌, ◌++◌, ◌∷◌, [], refl}
use Rattle.bitstream_io.proofs.CallerLemmas.{RoundTrip, Packs}
use Rattle.bitstream_io.specs.Callers.{Order, High, align, write_sequence}

-- a written value is read back
pub ethernet_header_goes : (o : Order) (value : EthernetHeader) → Fits value
    → RoundTrip (ethernet_header_decoder o) (ethernet_header_writes o value) value
ethernet_header_goes = ethernet_header_format.round_trip

-- each write is accepted, and the value's size is the number of bits written
pub ethernet_header_packs : (o : Order) (value : EthernetHeader) → Fits value
    → Packs (ethernet_header_writes o value) (ethernet_header_size o value)
ethernet_header_packs = ethernet_header_format.packs

-- the bits, of which a search is to see no part
pub told : (value : EthernetHeader)
    → write_sequence (ethernet_header_writes High value ++ align ∷ []) 0 ≡ ethernet_header_bits value
unfolding ethernet_header_bits
told value = refl

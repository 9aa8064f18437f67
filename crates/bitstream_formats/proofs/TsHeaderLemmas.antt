-- Made by `./format` from formats/ts_header.fields: edit that file and make this one anew.
-- A written `TsHeader` is read back, and its number of bits.
use Rattle.bitstream_formats.specs.TsHeader.{ts_header_decoder, ts_header_writes, ts_header_size, ts_header_format, ts_header_bits, Fits}
use Rattle.bitstream_formats.specs.declared.ts_header.TsHeader.{TsHeader}
use Rattle.std.proofs.Common.{◌≡◌, ◌++◌, ◌∷◌, [], ℕ, Ok, refl}
use Rattle.bitstream_io.proofs.CallerLemmas.{RoundTrip, Packs}
use Rattle.bitstream_io.specs.Callers.{Order, High, align, write_sequence, AllAccepted}

-- a written value is read back
pub ts_header_goes : (o : Order) (value : TsHeader) → Fits value
    → RoundTrip (ts_header_decoder o) (ts_header_writes o value) (Ok value)
ts_header_goes = ts_header_format.round_trip

-- each write is accepted, and the value's size is the number of bits written
pub ts_header_packs : (o : Order) (value : TsHeader) → Fits value
    → Packs (ts_header_writes o value) (ts_header_size o value)
ts_header_packs = ts_header_format.packs

-- each field fits if each write is accepted
pub ts_header_fits : (o : Order) (value : TsHeader) (at : ℕ) → AllAccepted (ts_header_writes o value) at → Fits value
ts_header_fits o value at = ts_header_format.accepted o value at tt

-- the bits, of which a search is to see no part
pub told : (value : TsHeader)
    → write_sequence (ts_header_writes High value ++ align ∷ []) 0 ≡ ts_header_bits value
unfolding ts_header_bits
told value = refl

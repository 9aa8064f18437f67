-- Made by `./format` from formats/report_block.fields: edit that file and make this one anew.
-- A written `ReportBlock` is read back, and its number of bits.
use Rattle.protocols.specs.ReportBlock.{report_block_decoder, report_block_writes, report_block_size, report_block_format, report_block_bits, Fits}
use Rattle.protocols.specs.declared.report_block.ReportBlock.{ReportBlock}
use Rattle.std.proofs.Common.{◌≡◌, ◌++◌, ◌∷◌, [], ℕ, refl}
use Rattle.bitstream_io.proofs.CallerLemmas.{RoundTrip, Packs}
use Rattle.bitstream_io.specs.Callers.{Order, High, align, write_sequence, AllAccepted}

-- a written value is read back
pub report_block_goes : (o : Order) (value : ReportBlock) → Fits value
    → RoundTrip (report_block_decoder o) (report_block_writes o value) value
report_block_goes = report_block_format.round_trip

-- each write is accepted, and the value's size is the number of bits written
pub report_block_packs : (o : Order) (value : ReportBlock) → Fits value
    → Packs (report_block_writes o value) (report_block_size o value)
report_block_packs = report_block_format.packs

-- each field fits if each write is accepted
pub report_block_fits : (o : Order) (value : ReportBlock) (at : ℕ) → AllAccepted (report_block_writes o value) at → Fits
    value
report_block_fits o value at = report_block_format.accepted o value at tt

-- the bits, of which a search is to see no part
pub told : (value : ReportBlock)
    → write_sequence (report_block_writes High value ++ align ∷ []) 0 ≡ report_block_bits value
unfolding report_block_bits
told value = refl

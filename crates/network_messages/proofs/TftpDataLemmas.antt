-- Made by `./format` from formats/tftp_data.fields: edit that file and make this one anew.
-- A written `TftpData` is read back, and its number of bits.
use Rattle.network_messages.specs.TftpData.{tftp_data_decoder, tftp_data_writes, tftp_data_size, tftp_data_format, tftp_data_bits, Fits}
use Rattle.network_messages.specs.declared.tftp_data.TftpData.{TftpData}
use Rattle.std.proofs.Common.{◌≡◌, ◌++◌, ◌∷◌, [], Ok, length, refl}
use Rattle.bitstream_io.proofs.CallerLemmas.{RoundTrip, Packs}
use Rattle.bitstream_io.specs.Callers.{Order, High, align, write_sequence}

-- a written value is read back
pub tftp_data_goes : (o : Order) (value : TftpData) → Fits value
    → RoundTrip (tftp_data_decoder o (length value.data)) (tftp_data_writes o value) (Ok value)
tftp_data_goes o value fits = (tftp_data_format (length value.data)).round_trip o value (fits, refl)

-- each write is accepted, and the value's size is the number of bits written
pub tftp_data_packs : (o : Order) (value : TftpData) → Fits value
    → Packs (tftp_data_writes o value) (tftp_data_size o value)
tftp_data_packs o value fits = (tftp_data_format (length value.data)).packs o value (fits, refl)

-- the bits, of which a search is to see no part
pub told : (value : TftpData)
    → write_sequence (tftp_data_writes High value ++ align ∷ []) 0 ≡ tftp_data_bits value
unfolding tftp_data_bits
told value = refl

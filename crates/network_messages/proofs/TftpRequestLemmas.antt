-- Made by `./format` from formats/tftp_request.fields: edit that file and make this one anew.
-- A written `TftpRequest` is read back, and its number of bits.
use Rattle.network_messages.specs.TftpRequest.{tftp_request_decoder, tftp_request_writes, tftp_request_size, tftp_request_format, tftp_request_bits, Fits}
use Rattle.network_messages.specs.declared.tftp_request.TftpRequest.{TftpRequest}
use Rattle.std.proofs.Common.{◌≡◌, ◌++◌, ◌∷◌, [], Ok, refl}
use Rattle.bitstream_io.proofs.CallerLemmas.{RoundTrip, Packs}
use Rattle.bitstream_io.specs.Callers.{Order, High, align, write_sequence}

-- a written value is read back
pub tftp_request_goes : (o : Order) (value : TftpRequest) → Fits value
    → RoundTrip (tftp_request_decoder o) (tftp_request_writes o value) (Ok value)
tftp_request_goes = tftp_request_format.round_trip

-- each write is accepted, and the value's size is the number of bits written
pub tftp_request_packs : (o : Order) (value : TftpRequest) → Fits value
    → Packs (tftp_request_writes o value) (tftp_request_size o value)
tftp_request_packs = tftp_request_format.packs

-- the bits, of which a search is to see no part
pub told : (value : TftpRequest)
    → write_sequence (tftp_request_writes High value ++ align ∷ []) 0 ≡ tftp_request_bits value
unfolding tftp_request_bits
told value = refl

-- Made by `./format` from formats/ts_program.fields: edit that file and make this one anew.
-- A written `TsProgram` is read back, and its number of bits.
use Rattle.media_messages.specs.TsProgram.{ts_program_decoder, ts_program_writes, ts_program_size, ts_program_format, ts_program_bits, Fits}
use Rattle.media_messages.specs.declared.ts_program.TsProgram.{TsProgram}
use Rattle.std.proofs.Common.{◌≡◌, ◌++◌, ◌∷◌, [], ℕ, Ok, refl}
use Rattle.bitstream_io.proofs.CallerLemmas.{RoundTrip, Packs}
use Rattle.bitstream_io.specs.Callers.{Order, High, align, write_sequence, AllAccepted}

-- a written value is read back
pub ts_program_goes : (o : Order) (value : TsProgram) → Fits value
    → RoundTrip (ts_program_decoder o) (ts_program_writes o value) (Ok value)
ts_program_goes = ts_program_format.round_trip

-- each write is accepted, and the value's size is the number of bits written
pub ts_program_packs : (o : Order) (value : TsProgram) → Fits value
    → Packs (ts_program_writes o value) (ts_program_size o value)
ts_program_packs = ts_program_format.packs

-- each field fits if each write is accepted
pub ts_program_fits : (o : Order) (value : TsProgram) (at : ℕ) → AllAccepted (ts_program_writes o value) at → Fits value
ts_program_fits o value at = ts_program_format.accepted o value at tt

-- the bits, of which a search is to see no part
pub told : (value : TsProgram)
    → write_sequence (ts_program_writes High value ++ align ∷ []) 0 ≡ ts_program_bits value
unfolding ts_program_bits
told value = refl

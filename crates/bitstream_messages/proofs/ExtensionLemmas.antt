-- Made by `./format` from formats/extension.fields: edit that file and make this one anew.
-- A written `Extension` is read back, and its number of bits.
use Rattle.bitstream_messages.specs.Extension.{extension_decoder, extension_writes, extension_size, extension_format, extension_bits, Fits}
use Rattle.bitstream_messages.specs.declared.extension.Extension.{Extension}
use Rattle.std.proofs.Common.{◌≡◌, ◌++◌, ◌∷◌, [], Ok, refl}
use Rattle.bitstream_io.proofs.CallerLemmas.{RoundTrip, Packs}
use Rattle.bitstream_io.specs.Callers.{Order, High, align, write_sequence}

-- a written value is read back
pub extension_goes : (o : Order) (value : Extension) → Fits value
    → RoundTrip (extension_decoder o) (extension_writes o value) (Ok value)
extension_goes = extension_format.round_trip

-- each write is accepted, and the value's size is the number of bits written
pub extension_packs : (o : Order) (value : Extension) → Fits value
    → Packs (extension_writes o value) (extension_size o value)
extension_packs = extension_format.packs

-- the bits, of which a search is to see no part
pub told : (value : Extension)
    → write_sequence (extension_writes High value ++ align ∷ []) 0 ≡ extension_bits value
unfolding extension_bits
told value = refl

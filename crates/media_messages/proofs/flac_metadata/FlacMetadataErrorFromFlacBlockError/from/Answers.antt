-- Made by `./format` from formats/flac_metadata.fields: edit that file and make this one anew.
use Rattle.std.proofs.Common.{refl}
use Rattle.media_messages.proofs.flac_metadata.FlacMetadataErrorFromFlacBlockError.from.Goals as goal

pub returns-in-Reader : goal.returns-in-Reader
returns-in-Reader c = rw c.in-Reader.is refl

pub returns-in-OtherSize : goal.returns-in-OtherSize
returns-in-OtherSize c = rw c.in-OtherSize.is refl

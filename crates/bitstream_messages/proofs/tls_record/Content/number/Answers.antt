-- Made by `./format` from formats/tls_record.fields: edit that file and make this one anew.
use Rattle.std.proofs.Common.{refl}
use Rattle.bitstream_messages.proofs.tls_record.Content.number.Goals as goal

pub returns-in-ChangeCipherSpec : goal.returns-in-ChangeCipherSpec
returns-in-ChangeCipherSpec c = rw c.in-ChangeCipherSpec.is refl

pub returns-in-Alert : goal.returns-in-Alert
returns-in-Alert c = rw c.in-Alert.is refl

pub returns-in-Handshake : goal.returns-in-Handshake
returns-in-Handshake c = rw c.in-Handshake.is refl

pub returns-in-Data : goal.returns-in-Data
returns-in-Data c = rw c.in-Data.is refl

pub returns-in-Other : goal.returns-in-Other
returns-in-Other c = rw c.in-Other.is refl

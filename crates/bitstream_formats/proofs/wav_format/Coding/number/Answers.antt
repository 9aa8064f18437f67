-- Made by `./format` from formats/wav_format.fields: edit that file and make this one anew.
use Rattle.std.proofs.Common.{refl}
use Rattle.bitstream_formats.proofs.wav_format.Coding.number.Goals as goal

pub returns-in-Pcm : goal.returns-in-Pcm
returns-in-Pcm c = rw c.in-Pcm.is refl

pub returns-in-Float : goal.returns-in-Float
returns-in-Float c = rw c.in-Float.is refl

pub returns-in-ALaw : goal.returns-in-ALaw
returns-in-ALaw c = rw c.in-ALaw.is refl

pub returns-in-MuLaw : goal.returns-in-MuLaw
returns-in-MuLaw c = rw c.in-MuLaw.is refl

pub returns-in-Extensible : goal.returns-in-Extensible
returns-in-Extensible c = rw c.in-Extensible.is refl

pub returns-in-Other : goal.returns-in-Other
returns-in-Other c = rw c.in-Other.is refl

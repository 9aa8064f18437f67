-- Made by `./format` from formats/header.fields: edit that file and make this one anew.
use Rattle.std.proofs.Common.{refl}
use Rattle.wav_header.proofs.header.Coding.number.Goals as goal

pub returns-in-Pcm : goal.returns-in-Pcm
returns-in-Pcm c = rw c.in-Pcm.is refl

pub returns-in-Float : goal.returns-in-Float
returns-in-Float c = rw c.in-Float.is refl

pub returns-in-ALaw : goal.returns-in-ALaw
returns-in-ALaw c = rw c.in-ALaw.is refl

pub returns-in-MuLaw : goal.returns-in-MuLaw
returns-in-MuLaw c = rw c.in-MuLaw.is refl

pub returns-in-Other : goal.returns-in-Other
returns-in-Other c = rw c.in-Other.is refl

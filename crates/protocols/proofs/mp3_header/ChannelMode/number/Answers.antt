-- Made by `./format` from formats/mp3_header.fields: edit that file and make this one anew.
use Rattle.std.proofs.Common.{refl}
use Rattle.protocols.proofs.mp3_header.ChannelMode.number.Goals as goal

pub returns-in-Stereo : goal.returns-in-Stereo
returns-in-Stereo c = rw c.in-Stereo.is refl

pub returns-in-JointStereo : goal.returns-in-JointStereo
returns-in-JointStereo c = rw c.in-JointStereo.is refl

pub returns-in-DualChannel : goal.returns-in-DualChannel
returns-in-DualChannel c = rw c.in-DualChannel.is refl

pub returns-in-Mono : goal.returns-in-Mono
returns-in-Mono c = rw c.in-Mono.is refl

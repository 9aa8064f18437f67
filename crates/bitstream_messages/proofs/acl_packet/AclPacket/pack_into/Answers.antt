-- Made by `./format` from formats/acl_packet.fields: edit that file and make this one anew.
use Rattle.bitstream_messages.proofs.AclPacketLemmas.{acl_packet_packs, told}
use Rattle.bitstream_io.proofs.CallerLemmas.{packed-bits, packed-accepted, packed-room, packed-short}
use Rattle.bitstream_io.specs.Callers.{Low}
use Rattle.bitstream_messages.proofs.acl_packet.AclPacket.pack_into.Goals as goal

pub returns-clause-packed : goal.returns-clause-packed
returns-clause-packed c = packed-bits c.pack_into.ensures (told c.args.self.now)

pub returns-clause-first : goal.returns-clause-first
returns-clause-first c = c.pack_into.ensures.first

pub returns-clause-accepted : goal.returns-clause-accepted
returns-clause-accepted c = λ done. packed-accepted c.pack_into.ensures done

pub returns-clause-misfit : goal.returns-clause-misfit
returns-clause-misfit c = c.pack_into.ensures.misfit

pub returns-clause-room : goal.returns-clause-room
returns-clause-room c = λ fits enough. packed-room c.pack_into.ensures (acl_packet_packs Low c.args.self.now fits)
    enough

pub returns-clause-short : goal.returns-clause-short
returns-clause-short c = λ fits few. packed-short c.pack_into.ensures (acl_packet_packs Low c.args.self.now fits) few

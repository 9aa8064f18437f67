-- Made by `./format` from formats/stun_header.fields: edit that file and make this one anew.
use Rattle.protocols.proofs.StunHeaderLemmas.{stun_header_packs, told}
use Rattle.std.proofs.Common.{arith}
use Rattle.bitstream_io.proofs.CallerLemmas.{packed-bits, packed-accepted, packed-room, packed-short}
use Rattle.bitstream_io.specs.Callers.{High}
use Rattle.protocols.proofs.stun_header.StunHeader.pack_into.Goals as goal

pub returns-clause-packed : goal.returns-clause-packed
returns-clause-packed c = packed-bits c.pack_into.ensures (told c.args.self.now)

pub returns-clause-first : goal.returns-clause-first
returns-clause-first c = c.pack_into.ensures.first

pub returns-clause-accepted : goal.returns-clause-accepted
returns-clause-accepted c = λ done. packed-accepted c.pack_into.ensures done

pub returns-clause-misfit : goal.returns-clause-misfit
returns-clause-misfit c = c.pack_into.ensures.misfit

pub returns-clause-room : goal.returns-clause-room
returns-clause-room c = λ fits enough. packed-room c.pack_into.ensures (stun_header_packs High c.args.self.now fits)
    (omega arith)

pub returns-clause-short : goal.returns-clause-short
returns-clause-short c = λ fits few. packed-short c.pack_into.ensures (stun_header_packs High c.args.self.now fits)
    (omega arith)

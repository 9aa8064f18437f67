use Rattle.flac_codec.proofs.HeaderLemmas.{header-back, header-packs}
use Rattle.flac_codec.proofs.SubframeLemmas.{value_written}
use Rattle.flac_codec.proofs.heading.write_coded_header.Goals as goal

pub returns : goal.returns
returns g c =
    let o = g.W.BitWrite.sink.order in
    value_written c.write_parts.ensures (header-packs o _ _ c.requires.fits c.requires.coded).1
    (header-back o _ _ c.requires.fits c.requires.coded)

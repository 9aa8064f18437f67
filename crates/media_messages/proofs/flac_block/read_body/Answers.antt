-- Made by `./format` from formats/flac_block.fields: edit that file and make this one anew.
use Rattle.media_messages.specs.FlacBlock.{body_read, body_ended}
use Rattle.bitstream_format.proofs.WithinLemmas.{sized-grown}
use Rattle.media_messages.specs.declared.flac_block.FlacBlockError.TheVariants.{Reader, OtherSize}
use Rattle.bitstream_io.proofs.GrowsLemmas.{stop_grown, vec-grown}
use Rattle.media_messages.proofs.flac_block.read_body.Goals as goal

pub returns-in_err-bytes : goal.returns-in_err-bytes
returns-in_err-bytes g c = stop_grown _ (vec-grown _ _ c.in_err-bytes.ensures.reads) c.from_residual.ensures.1

pub returns : goal.returns
returns g c = sized-grown {own = λ error. Reader error} (λ o. body_read o c.args.number c.args.size) OtherSize
    body_ended c.args.size c.requires c.in_ok-bytes.ensures.reads (rw c.deref.ensures.value at c.body_in.ensures)

-- Made by `./format` from formats/frame.fields: edit that file and make this one anew.
use Rattle.bitstream_messages.specs.Frame.{content_read, body_ended}
use Rattle.bitstream_format.proofs.WithinLemmas.{sized-grown}
use Rattle.bitstream_messages.specs.declared.frame.FrameError.TheVariants.{Reader, OtherBody}
use Rattle.bitstream_io.proofs.GrowsLemmas.{stop_grown, vec-grown}
use Rattle.bitstream_messages.proofs.frame.read_body.Goals as goal

pub returns-in_err-bytes : goal.returns-in_err-bytes
returns-in_err-bytes g c = stop_grown _ (vec-grown _ _ c.in_err-bytes.ensures.reads) c.from_residual.ensures.1

pub returns : goal.returns
returns g c = sized-grown {own = λ error. Reader error} (λ o. content_read o c.args.number) OtherBody body_ended
    c.args.size c.requires c.in_ok-bytes.ensures.reads (rw c.deref.ensures.value at c.body_in.ensures)

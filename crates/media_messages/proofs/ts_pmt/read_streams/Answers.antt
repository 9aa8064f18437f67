-- Made by `./format` from formats/ts_pmt.fields: edit that file and make this one anew.
use Rattle.media_messages.specs.TsPmt.{streams_ended, ts_stream_here}
use Rattle.bitstream_format.proofs.FilledLemmas.{filled-grown}
use Rattle.media_messages.specs.declared.ts_pmt.TsPmtError.TheVariants.{Reader, Overlong}
use Rattle.std.proofs.Common.{refl}
use Rattle.bitstream_io.proofs.GrowsLemmas.{stop_grown, vec-grown}
use Rattle.bitstream_io.proofs.EachLemmas.{own_map_err}
use Rattle.media_messages.proofs.ts_pmt.read_streams.Goals as goal

pub returns-in_err-bytes : goal.returns-in_err-bytes
returns-in_err-bytes g c = rw (own_map_err _ c.from_residual.result c.from_residual.ensures.1) (stop_grown _ (vec-grown
    _ _ c.in_err-bytes.ensures.reads) refl)

pub returns : goal.returns
returns g c = filled-grown {own = λ error. Reader error} (λ o. ts_stream_here o) Overlong streams_ended c.args.size
    c.requires c.in_ok-bytes.ensures.reads (rw c.deref.ensures.value at c.streams_in.ensures)

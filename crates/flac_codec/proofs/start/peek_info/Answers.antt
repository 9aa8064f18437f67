use Rattle.std.proofs.Common.{◌∙◌, ap}
use Rattle.flac_codec.specs.File.{as_flac, stream_info_in}
use Rattle.flac_codec.specs.Input.{bytes_left, fetched}
use Rattle.flac_codec.proofs.StartLemmas.{peek-found}
use Rattle.flac_codec.proofs.start.peek_info.Goals as goal

pub returns-clause-meant : goal.returns-clause-meant
returns-clause-meant g c =
    peek-found (bytes_left g.R.Read.remaining c.args.input.now) (fetched c.fill.new.self)
    (g.R.Read.remaining c.fill.new.self.reader) c.in_ok-info.info c.in_ok-fill.ensures.left
    (c.in_ok-fill.ensures.enough c.if-not-branch.false)
    (ap as_flac c.in_ok-info.ensures.answer ∙ ap stream_info_in c.bytes.ensures)

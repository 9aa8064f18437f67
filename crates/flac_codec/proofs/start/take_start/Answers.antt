use Rattle.std.proofs.Common.{◌∙◌, sym, Bool}
use Rattle.flac_codec.specs.Input.{bytes_left}
use Rattle.flac_codec.specs.declared.metadata.InfoAt.{InfoAt}
use Rattle.flac_codec.specs.declared.stream_info.StreamInfo.{StreamInfo}
use Rattle.flac_codec.proofs.ResultLemmas.{seen_is}
use Rattle.flac_codec.proofs.StartLemmas.{start-no_block, start-no_info, start-no_marker}
use Rattle.flac_codec.proofs.start.take_start.Goals as goal

-- STREAMINFO, and if it is the last block
abbrev as_pair : InfoAt → StreamInfo × Bool
as_pair start = (start.info, start.last)

pub returns-in_err-take_marker-clause-meant : goal.returns-in_err-take_marker-clause-meant
returns-in_err-take_marker-clause-meant g c =
    rw (seen_is as_pair _ c.from_residual.result c.from_residual.ensures.1)
    (start-no_marker (bytes_left g.R.Read.remaining c.args.input.now) _ c.in_err-take_marker.ensures.meant)

pub returns-in_err-block-clause-meant : goal.returns-in_err-block-clause-meant
returns-in_err-block-clause-meant g c =
    rw (seen_is as_pair _ c.from_residual-in_err-block.result c.from_residual-in_err-block.ensures.1)
    (start-no_block (bytes_left g.R.Read.remaining c.args.input.now) (bytes_left g.R.Read.remaining c.take_marker.new.input)
    (bytes_left g.R.Read.remaining c.peek_info-info.new.input) c.in_ok-take_marker.field-0 _ c.in_ok-take_marker.ensures.meant
    c.in_ok-take_marker.ensures.left c.peek_info-info.ensures.left c.in_err-block.ensures.meant)

pub returns-in_err-info-clause-meant : goal.returns-in_err-info-clause-meant
returns-in_err-info-clause-meant g c =
    rw (seen_is as_pair _ c.from_residual-in_err-info.result c.from_residual-in_err-info.ensures.1)
    (start-no_info (bytes_left g.R.Read.remaining c.args.input.now) (bytes_left g.R.Read.remaining c.take_marker.new.input)
    (bytes_left g.R.Read.remaining c.peek_info-info.new.input) c.in_ok-take_marker.field-0 c.in_ok-block.block _
    c.in_ok-take_marker.ensures.meant c.in_ok-take_marker.ensures.left c.peek_info-info.ensures.left c.in_ok-block.ensures.meant
    (sym c.is_stream_info.ensures ∙ c.if-not-is_stream_info.false) c.in_err-info.ensures.meant)

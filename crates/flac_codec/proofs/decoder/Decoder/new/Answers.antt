use Rattle.bitstream_io.specs.Callers.{result_map}
use Rattle.flac_codec.specs.Input.{bytes_left}
use Rattle.flac_codec.proofs.StartLemmas.{start-behind}
use Rattle.flac_codec.proofs.decoder.Decoder.new.Goals as goal

pub returns-clause-meant : goal.returns-clause-meant
returns-clause-meant g c =
    start-behind (g.R.Read.remaining c.args.reader) (bytes_left g.R.Read.remaining c.in_ok-new.field-0.input)
    c.in_ok-new.field-0.info c.in_ok-new.field-0.done
    (result_map (λ decoder. (decoder.info, bytes_left g.R.Read.remaining decoder.input)) c.into_decoder.result)
    c.in_ok-new.ensures.meant c.in_ok-new.ensures.left c.into_decoder.ensures.meant

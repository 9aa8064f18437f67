use Rattle.std.proofs.Common.{◌∷◌, Ok, Err, refl, ap, ◌∙◌, subst}
use Rattle.std.specs.Io.KnownBytes.{Keeps}
use Rattle.std.specs.Io.Seek.{SeekMoves}
use Rattle.bitstream_count.specs.declared.error.Error.{Error}
use Rattle.bitstream_number.specs.Word.{word}
use Rattle.bitstream_order.specs.Parts.{first_part}
use Rattle.bitstream_order.specs.Port.{port_stream}
use Rattle.bitstream_order.proofs.Moving.TakeLemmas.{word-none}
use Rattle.bitstream_stream.proofs.read.reader.BitReader.seek_bytes.Goals as goal

pub returns-in-Ok : goal.returns-in-Ok
returns-in-Ok g c =
    let o = g.E.Endianness.order in
    let same = c.drop_queue.ensures in
    let seeks = c.in-Ok.ensures.seeks in
    record {
      failed = refl;
      queue = ap (λ r. word o r.queued (first_part o r.queue 8 r.queued)) same ∙ word-none o _;
      taken = c.new-self.ensures;
      fetched = seeks.fetched;
      refusals = seeks.refusals ∙ ap (λ r. r.port.refusals.list) same;
      references = seeks.references ∙ ap (λ r. g.R.Source.stream.references (port_stream r.port)) same;
      moves = subst (λ r. SeekMoves {E = Error} (g.R.SeekSource.position (port_stream r.port))
          (g.R.SeekSource.position (port_stream c.seek.new.self)) (g.R.SeekSource.bytes (port_stream r.port)) c.args.to
          (Ok c.in-Ok.at)) same c.in-Ok.ensures.moves;
      bytes = subst (λ r. Keeps (g.R.SeekSource.bytes (port_stream r.port))
          (g.R.SeekSource.bytes (port_stream c.seek.new.self))) same c.in-Ok.ensures.bytes;
    }

pub returns-in-Err : goal.returns-in-Err
returns-in-Err g c =
    let o = g.E.Endianness.order in
    let same = c.drop_queue.ensures in
    let refused = c.in-Err.ensures.seeks in
    record {
      refusal = refused.refusal;
      allowed = refused.allowed;
      answer = ap Err refused.answer;
      after = refused.after;
      fetched = refused.fetched ∙ ap (λ r. r.port.fetched.count) same;
      refusals = refused.refusals ∙ ap (λ r. refused.refusal ∷ r.port.refusals.list) same;
      references = refused.references ∙ ap (λ r. g.R.Source.stream.references (port_stream r.port)) same;
      queue = ap (λ r. word o r.queued (first_part o r.queue 8 r.queued)) same ∙ word-none o _;
      failed = refl;
    }

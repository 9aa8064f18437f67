use Rattle.std.proofs.Common.{Err, refl, ap, ◌∙◌}
use Rattle.std.specs.declared.io.traits.SeekFrom.TheVariants.{Current}
use Rattle.std.specs.Prelude.{pos}
use Rattle.bitstream_number.specs.Word.{word}
use Rattle.bitstream_number.proofs.WordLemmas.{length-word}
use Rattle.bitstream_order.specs.Parts.{first_part}
use Rattle.bitstream_order.specs.Port.{port_stream}
use Rattle.bitstream_order.proofs.Moving.TakeLemmas.{word-none}
use Rattle.bitstream_stream.specs.Reading.Seek.{AsksPlace}
use Rattle.bitstream_stream.proofs.Reading.SeekLemmas.{asked, means_here}
use Rattle.bitstream_stream.proofs.read.reader.BitReader.ask_place.Goals as goal

pub returns-in-Some-clause-asks : goal.returns-in-Some-clause-asks
returns-in-Some-clause-asks g c =
    AsksPlace.was_done c.in-Some.place c.if-self.false
    (means_here _ c.args.to _ c.in-Ok.at c.args.self.now.queued _ c.requires c.in-Ok.ensures.answer (length-word _ _ _)
    c.in-Some.ensures)
    refl (record {
      same = asked _ _ _ _ _ _ _ c.in-Ok.ensures.places;
      position = c.in-Ok.ensures.stays;
      bytes =
          c.in-Ok.ensures.bytes;
    })

pub returns-in-None-clause-asks : goal.returns-in-None-clause-asks
returns-in-None-clause-asks g c =
    AsksPlace.was_rejected c.if-self.false
    (means_here _ c.args.to _ c.in-Ok.at c.args.self.now.queued _ c.requires c.in-Ok.ensures.answer (length-word _ _ _)
    c.in-None.ensures)
    refl (record {
      same = asked _ _ _ _ _ _ _ c.in-Ok.ensures.places;
      position = c.in-Ok.ensures.stays;
      bytes =
          c.in-Ok.ensures.bytes;
    })

pub returns-in-Err-clause-asks : goal.returns-in-Err-clause-asks
returns-in-Err-clause-asks g c =
    let o = g.E.Endianness.order in
    let refused = c.in-Err.ensures.places in
    AsksPlace.was_refused c.if-self.false (record {
      refusal = refused.refusal;
      allowed = (Current (pos 0), refl, refused.allowed);
      answer = ap Err refused.answer;
      after = ap (λ r. g.R.Source.stream.remaining (port_stream r.port)) c.drop_queue.ensures ∙ refused.after;
      fetched = ap (λ r. r.port.fetched.count) c.drop_queue.ensures ∙ refused.fetched;
      refusals = ap (λ r. r.port.refusals.list) c.drop_queue.ensures ∙ refused.refusals;
      references = ap (λ r. g.R.Source.stream.references (port_stream r.port)) c.drop_queue.ensures ∙ refused.references;
      queue = ap (λ r. word o r.queued (first_part o r.queue 8 r.queued)) c.drop_queue.ensures ∙ word-none o _;
      failed = refl;
    })

pub returns-then-self-clause-asks : goal.returns-then-self-clause-asks
returns-then-self-clause-asks g c = AsksPlace.had_failed (record {
  from_here = c.requires;
  failed = c.if-self.true;
  answer = refl;
  same = refl;
})

pub returns-in-Some-clause-requests : goal.returns-in-Some-clause-requests
returns-in-Some-clause-requests g c = λ _. c.in-Ok.ensures.places.requests

pub returns-in-None-clause-requests : goal.returns-in-None-clause-requests
returns-in-None-clause-requests g c = λ _. c.in-Ok.ensures.places.requests

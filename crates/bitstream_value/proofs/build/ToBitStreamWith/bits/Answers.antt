use Rattle.std.proofs.Common.{refl}
use Rattle.bitstream_number.specs.Word.{High}
use Rattle.bitstream_sink.specs.Counting.{counter_sink}
use Rattle.bitstream_value.proofs.LengthLemmas.{count_stopped, count_done}
use Rattle.bitstream_value.proofs.build.ToBitStreamWith.bits.Goals as goal

pub returns-in_err-to_writer : goal.returns-in_err-to_writer
returns-in_err-to_writer g c =
    let C = g.C.Counter in
    let sink = counter_sink High (λ w. C.value w.count) C.greatest C.full (λ w. w.within) in
    record {
      counts = count_stopped sink C.greatest C.value _ _ _ _ _ refl (λ _. refl) (λ _ x. x) c.new-counter.ensures
          _ _ c.from_residual.ensures.1 c.in_err-to_writer.ensures.writes;
    }

pub returns : goal.returns
returns g c =
    let C = g.C.Counter in
    let sink = counter_sink High (λ w. C.value w.count) C.greatest C.full (λ w. w.within) in
    record {
      counts = count_done sink C.greatest C.value _ _ _ _ _ refl (λ _. refl) (λ _ x. x) c.new-counter.ensures _
          c.into_written.ensures c.in_ok-to_writer.ensures.writes;
    }

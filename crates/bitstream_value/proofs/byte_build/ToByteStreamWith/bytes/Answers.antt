use Rattle.std.proofs.Common.{refl}
use Rattle.bitstream_value.specs.ByteTypes.{byte_counter_sink}
use Rattle.bitstream_value.proofs.ByteTypeLemmas.{count_stopped, count_done}
use Rattle.bitstream_value.proofs.byte_build.ToByteStreamWith.bytes.Goals as goal

pub returns-in_err-to_writer : goal.returns-in_err-to_writer
returns-in_err-to_writer g c =
    let C = g.C.Counter in
    let sink = byte_counter_sink (λ w. C.value w.count) C.greatest (λ w. w.within) in
    record {
      counts = count_stopped sink C.greatest C.value _ _ _ _ _ refl (λ _ x. x) c.new-counter.ensures _ _
          c.from_residual.ensures.1 c.in_err-to_writer.ensures.writes;
    }

pub returns : goal.returns
returns g c =
    let C = g.C.Counter in
    let sink = byte_counter_sink (λ w. C.value w.count) C.greatest (λ w. w.within) in
    record {
      counts = count_done sink C.greatest C.value _ _ _ _ _ refl (λ _ x. x) c.new-counter.ensures _
          c.into_written.ensures c.in_ok-to_writer.ensures.writes;
    }

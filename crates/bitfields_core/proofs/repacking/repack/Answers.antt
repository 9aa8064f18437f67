use Rattle.std.proofs.Common.{refl}
use Rattle.bitfields_core.specs.Repacking.{no_end, stopped_input, ReadToLast}
use Rattle.bitfields_core.proofs.PackingLemmas.{result_err}
use Rattle.bitfields_core.proofs.RepackedBytes.{not_ended, not_read, packed_again, was_ended}
use Rattle.bitfields_core.proofs.repacking.repack.Goals as goal

pub returns-in_err-values-clause-repacks : goal.returns-in_err-values-clause-repacks
returns-in_err-values-clause-repacks g c =
    rw (result_err c.from_residual.result c.from_residual.ensures.1) (stopped_input c.in_err-values.ensures.reads refl)

pub returns-in_err-values-clause-repacked : goal.returns-in_err-values-clause-repacked
returns-in_err-values-clause-repacked g c = λ ends xs told.
    rw (result_err c.from_residual.result c.from_residual.ensures.1)
    (not_read g.R.Source.stream ends g.E.Endianness.order c.args.layout.now told c.in_err-values.ensures.reads)

pub returns-in_err-expect_end-clause-repacked : goal.returns-in_err-expect_end-clause-repacked
returns-in_err-expect_end-clause-repacked g c = λ ends xs told.
    rw (result_err c.from_residual-in_err-expect_end.result c.from_residual-in_err-expect_end.ensures.1)
    (not_ended g.R.Source.stream ends g.E.Endianness.order c.args.layout.now told {behind = c.read_packed.new.input}
    {after = c.expect_end.new.input} c.in_ok-values.ensures.reads c.in_err-expect_end.ensures)

pub returns-in_err-expect_end-clause-repacks : goal.returns-in_err-expect_end-clause-repacks
returns-in_err-expect_end-clause-repacks g c =
    rw (result_err c.from_residual-in_err-expect_end.result c.from_residual-in_err-expect_end.ensures.1)
    (no_end c.in_ok-values.values.items c.read_packed.new.input c.in_ok-values.ensures.reads c.in_err-expect_end.ensures
    refl)

pub returns-clause-repacks : goal.returns-clause-repacks
returns-clause-repacks g c =
    let source = g.R.Source.stream in
    let o = g.E.Endianness.order in
    let fields = c.args.layout.now in
    let vs = c.in_ok-values.values.items in
    let layout = c.in_ok-values.ensures.is_layout in
    let read : ReadToLast source o fields c.args.input.now vs c.expect_end.new.input =
    record {
      behind = c.read_packed.new.input;
      reads = c.in_ok-values.ensures.reads;
      ended = c.in_ok-expect_end.ensures;
    }
    in
    packed_again source g.W.Target.stream o fields _ _ _ _ vs c.pack_values.result layout read (rw c.deref.ensures.value at c.pack_values.ensures)

pub returns-clause-repacked : goal.returns-clause-repacked
returns-clause-repacked g c =
    let source = g.R.Source.stream in
    let o = g.E.Endianness.order in
    let fields = c.args.layout.now in
    let vs = c.in_ok-values.values.items in
    let read : ReadToLast source o fields c.args.input.now vs c.expect_end.new.input =
    record {
      behind = c.read_packed.new.input;
      reads = c.in_ok-values.ensures.reads;
      ended = c.in_ok-expect_end.ensures;
    }
    in
    λ ends xs told. was_ended source ends o fields told g.W.Target.stream _ _ c.pack_values.result read
    (rw c.deref.ensures.value at c.pack_values.ensures)

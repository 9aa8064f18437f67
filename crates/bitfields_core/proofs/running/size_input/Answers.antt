use Rattle.std.proofs.Common.{◌∙◌, inl, inr, refl}
use Rattle.bitfields_core.specs.Run.{unknown_values}
use Rattle.bitfields_core.specs.Streams.{ReadToEnd}
use Rattle.bitfields_core.proofs.PackingLemmas.{result_err}
use Rattle.bitfields_core.proofs.RunLemmas.{sizing_fault, sizing_refused, sizing_unflushed, sized}
use Rattle.bitfields_core.proofs.running.size_input.Goals as goal

pub returns-in_err-text : goal.returns-in_err-text
returns-in_err-text g c =
    λ o. rw (result_err c.from_residual.result c.from_residual.ensures.1) (unknown_values (inl (record {
      kind = _;
      refused = c.in_err-text.ensures.refused;
      reason = refl;
    })) refl)

pub returns-in_err-line : goal.returns-in_err-line
returns-in_err-line g c =
    let known = g.R.Source.stream.remaining in
    let reads : ReadToEnd (known c.args.input.now) c.deref.result.now (known c.read_rest.new.self) =
    rw c.deref.ensures.value c.in_ok-text.ensures.bytes in
    λ o. rw (result_err c.from_residual-in_err-line.result c.from_residual-in_err-line.ensures.1)
    (unknown_values (inr (inr (_, reads, refl))) refl)

pub returns-in_err-bits : goal.returns-in_err-bits
returns-in_err-bits g c =
    let known = g.R.Source.stream.remaining in
    let reads : ReadToEnd (known c.args.input.now) c.deref.result.now (known c.read_rest.new.self) =
    rw c.deref.ensures.value c.in_ok-text.ensures.bytes in
    λ o. rw (result_err c.from_residual-in_err-bits.result c.from_residual-in_err-bits.ensures.1)
    (sizing_fault reads o c.in_err-bits.ensures refl)

pub returns-in_err-write_all : goal.returns-in_err-write_all
returns-in_err-write_all g c =
    let known = g.R.Source.stream.remaining in
    let reads : ReadToEnd (known c.args.input.now) c.deref.result.now (known c.read_rest.new.self) =
    rw c.deref.ensures.value c.in_ok-text.ensures.bytes in
    let line = c.as_bytes.ensures.value ∙ c.in_ok-line.ensures in
    λ o. rw (result_err c.from_residual-in_err-write_all.result c.from_residual-in_err-write_all.ensures.1)
    (sizing_refused reads c.in_ok-bits.ensures line o (record {
      kind = _;
      refused = c.in_err-write_all.ensures.refused;
      reason = refl;
    }))

pub returns-in_err-flush : goal.returns-in_err-flush
returns-in_err-flush g c =
    let known = g.R.Source.stream.remaining in
    let reads : ReadToEnd (known c.args.input.now) c.deref.result.now (known c.read_rest.new.self) =
    rw c.deref.ensures.value c.in_ok-text.ensures.bytes in
    let line = c.as_bytes.ensures.value ∙ c.in_ok-line.ensures in
    λ o. rw (result_err c.from_residual-in_err-flush.result c.from_residual-in_err-flush.ensures.1)
    (sizing_unflushed reads c.in_ok-bits.ensures line o c.in_ok-write_all.ensures.bytes (record {
      kind = _;
      refused = c.in_err-flush.ensures.refused;
      reason = refl;
    }))

pub returns : goal.returns
returns g c =
    let known = g.R.Source.stream.remaining in
    let reads : ReadToEnd (known c.args.input.now) c.deref.result.now (known c.read_rest.new.self) =
    rw c.deref.ensures.value c.in_ok-text.ensures.bytes in
    let line = c.as_bytes.ensures.value ∙ c.in_ok-line.ensures in
    λ o. sized reads c.in_ok-bits.ensures line o c.in_ok-write_all.ensures.bytes (record {
      bytes = c.in_ok-flush.ensures.bytes;
      flushes = c.in_ok-flush.ensures.flushed;
    })

use Rattle.std.proofs.Common.{refl}
use Rattle.bitfields_core.specs.Run.{refused_input}
use Rattle.bitfields_core.specs.Streams.{ReadToEnd}
use Rattle.bitfields_core.proofs.PackingLemmas.{result_err}
use Rattle.bitfields_core.proofs.RunLemmas.{packed_input, packing_fault, packing_unflushed}
use Rattle.bitfields_core.proofs.running.pack_input.Goals as goal

pub returns-in_err-bytes : goal.returns-in_err-bytes
returns-in_err-bytes g c =
    rw (result_err c.from_residual.result c.from_residual.ensures.1) (refused_input (record {
      kind = _;
      refused = c.in_err-bytes.ensures.refused;
      reason = refl;
    }) refl)

pub returns-in_err-pack : goal.returns-in_err-pack
returns-in_err-pack g c =
    let known = g.R.Source.stream.remaining in
    let reads : ReadToEnd (known c.args.input.now) c.deref.result.now (known c.read_rest.new.self) =
    rw c.deref.ensures.value c.in_ok-bytes.ensures.bytes in
    rw (result_err c.from_residual-in_err-pack.result c.from_residual-in_err-pack.ensures.1)
    (packing_fault reads _ refl c.in_err-pack.ensures)

pub returns-in_err-flush : goal.returns-in_err-flush
returns-in_err-flush g c =
    let known = g.R.Source.stream.remaining in
    let reads : ReadToEnd (known c.args.input.now) c.deref.result.now (known c.read_rest.new.self) =
    rw c.deref.ensures.value c.in_ok-bytes.ensures.bytes in
    rw (result_err c.from_residual-in_err-flush.result c.from_residual-in_err-flush.ensures.1)
    (packing_unflushed reads _ refl c.in_ok-pack.ensures (record {
      kind = _;
      refused = c.in_err-flush.ensures.refused;
      reason = refl;
    }))

pub returns : goal.returns
returns g c =
    let known = g.R.Source.stream.remaining in
    let reads : ReadToEnd (known c.args.input.now) c.deref.result.now (known c.read_rest.new.self) =
    rw c.deref.ensures.value c.in_ok-bytes.ensures.bytes in
    packed_input reads _ refl c.in_ok-pack.ensures (record {
      bytes = c.in_ok-flush.ensures.bytes;
      flushes = c.in_ok-flush.ensures.flushed;
    })

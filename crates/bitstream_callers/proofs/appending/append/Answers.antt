use Rattle.std.proofs.Common.{◌≡◌, ◌⊎◌, ℕ, ◌≤◌, Ok, Err, arith, inl, inr, refl}
use Rattle.bitstream_io.specs.Word.{Order}
use Rattle.bitstream_io.proofs.LengthLemmas.{counted_as_appended, grown_by}
use Rattle.bitstream_io.proofs.LengthSteps.{OneLength, lengths, in_both_orders}
use Rattle.bitstream_io.proofs.OwnLemmas.{written_plainly}
use Rattle.bitstream_callers.specs.BlockHeader.{block_header_writes}
use Rattle.bitstream_callers.specs.declared.block_header.BlockHeader.{BlockHeader}
use Rattle.bitstream_io.specs.Callers.{WritesAll}
use Rattle.bitstream_callers.proofs.TelemetryLemmas.{if_error}
use Rattle.bitstream_callers.proofs.appending.append.Goals as goal

same_length : (header : BlockHeader) (o p : Order) → OneLength (block_header_writes o header)
    (block_header_writes p header)
same_length header o p = search lengths depth 12

pub returns-clause-writes : goal.returns-clause-writes
returns-clause-writes g c =
    let K = g.W.BitWrite.sink in
    written_plainly K (block_header_writes K.order c.args.header.now) _ _ _ c.in_ok-build.ensures.writes

pub returns-in_err-bits-clause-refused : goal.returns-in_err-bits-clause-refused
returns-in_err-bits-clause-refused g c =
    let K = g.W.BitWrite.sink in
    let es = block_header_writes K.order c.args.header.now in
    let s = c.args.writer.now in
    if_error _ _ (λ error. (s ≡ s) ⊎ WritesAll K es s (Err error) s) c.from_residual.ensures.1 (inl refl)

pub returns-in_err-build-clause-refused : goal.returns-in_err-build-clause-refused
returns-in_err-build-clause-refused g c =
    let K = g.W.BitWrite.sink in
    let es = block_header_writes K.order c.args.header.now in
    let s = c.args.writer.now in
    let t = c.build.new.self in
    if_error _ _ (λ error. (t ≡ s) ⊎ WritesAll K es s (Err error) t) c.from_residual-in_err-build.ensures.1
    (inr (written_plainly K es _ _ _ c.in_err-build.ensures.writes))

pub returns-clause-counts : goal.returns-clause-counts
returns-clause-counts g c = λ aligned.
    let header = c.args.header.now in
    let K = g.W.BitWrite.sink in
    let entries = block_header_writes K.order header in
    let grown = grown_by K entries _ _ (written_plainly K entries _ _ _ c.in_ok-build.ensures.writes) in
    let told : (c.in_ok-bits.bits ≡ grown.0) × (grown.0 ≤ 4294967295) =
    counted_as_appended K (λ (x : ℕ). x) _ _ (λ o. block_header_writes o header) _ _ _ (Ok c.in_ok-bits.bits) _
    (in_both_orders _ (same_length header)) aligned c.in_ok-build.ensures.writes c.in_ok-bits.ensures.counts grown.2 in
    omega (arith, grown.2, told.0)

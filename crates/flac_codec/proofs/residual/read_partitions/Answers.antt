use Rattle.std.proofs.Common.{◌≡◌, ◌∙◌, ◌++◌, ◌∷◌, [], ℕ, ℤ, List, Ok, Err, append-nil, append_assoc, ap, arith, refl, sym}
use Rattle.std.specs.List.{flat_map}
use Rattle.bitstream_io.specs.Codec.{and_then}
use Rattle.bitstream_io.specs.ReadTable.{unsigned_decoder}
use Rattle.bitstream_io.specs.Callers.{Failed, Order, OutOfMemory}
use Rattle.bitstream_io.proofs.CallerLemmas.{part_go, part_stop, parts-begin, parts-push, parts-refused, parts-stop, grown_is}
use Rattle.flac_codec.specs.Residual.{partition_decoder}
use Rattle.flac_codec.specs.declared.error.FlacError.TheVariants.{Reader}
use Rattle.flac_codec.proofs.ResidualLemmas.{joined-more}
use Rattle.flac_codec.proofs.ResultLemmas.{map_is}
use Rattle.flac_codec.proofs.residual.read_partitions.Goals as goal

partition-on_failed : (o : Order) (bits count : ℕ) → (partition_decoder o bits count).on_failed ≡ Err Failed
unfolding and_then unsigned_decoder
partition-on_failed o bits count = refl

pushed : (numbers found first part : List ℤ) (parts : List (List ℤ)) → found ≡ numbers ++ part
    → numbers ≡ first ++ flat_map (λ xs. xs) parts → found ≡ first ++ flat_map (λ xs. xs) (parts ++ part ∷ [])
pushed numbers found first part parts is so_far =
    is ∙ ap (λ xs. xs ++ part) so_far ∙ append_assoc first (flat_map (λ xs. xs) parts) part
    ∙ ap (λ xs. first ++ xs) (sym (joined-more parts part))

pub returns-in_err-numbers : goal.returns-in_err-numbers
returns-in_err-numbers g c =
    part_stop _ c.in_err-numbers.ensures (map_is c.in_err-numbers.field-0.0 c.from_residual.result c.from_residual.ensures.1)

pub loop-init : goal.loop-init
loop-init g c = ([], parts-begin _ refl, sym (append-nil _))

pub returns-in_err-part : goal.returns-in_err-part
returns-in_err-part g c =
    let e = partition_decoder g.R.BitRead.source.order c.args.bits c.args.length in
    part_go _ c.in_ok-numbers.ensures (part_stop _
    (parts-stop e c.loop.counter c.args.count c.loop-test.true c.loop.invariant.1 c.in_err-part.ensures)
    (map_is c.in_err-part.field-0.0 c.from_residual-in_err-part.result c.from_residual-in_err-part.ensures.1))

pub returns-in_err-extend_from_slice : goal.returns-in_err-extend_from_slice
returns-in_err-extend_from_slice g c =
    let e = partition_decoder g.R.BitRead.source.order c.args.bits c.args.length in
    part_go _ c.in_ok-numbers.ensures (part_stop _
    (parts-refused e c.loop.counter c.args.count {y = Reader OutOfMemory}
    (partition-on_failed g.R.BitRead.source.order c.args.bits c.args.length) c.loop-test.true c.loop.invariant.1
    c.in_ok-part.ensures refl)
    (map_is (Reader OutOfMemory) c.from_residual-in_err-extend_from_slice.result
    c.from_residual-in_err-extend_from_slice.ensures.1))

pub loop-preserved : goal.loop-preserved
loop-preserved g c =
    let e = partition_decoder g.R.BitRead.source.order c.args.bits c.args.length in
    let items = rw c.as_slice.ensures.value at c.in_ok-extend_from_slice.ensures.items in (
      c.loop.invariant.0 ++ c.in_ok-part.part.items ∷ [],
      parts-push e c.loop.counter refl c.loop.invariant.1 c.in_ok-part.ensures,
      pushed c.loop.numbers.items _ c.in_ok-numbers.numbers.items c.in_ok-part.part.items c.loop.invariant.0 items c.loop.invariant.2,
    )

pub returns : goal.returns
returns g c =
    let all : c.loop.counter ≡ c.args.count = omega (arith, c.loop-test.false, c.loop.auto.counter-end) in
    let parts = rw all at c.loop.invariant.1 in
    part_go _ c.in_ok-numbers.ensures (part_go _ parts (grown_is (ap Ok (sym c.loop.invariant.2))))

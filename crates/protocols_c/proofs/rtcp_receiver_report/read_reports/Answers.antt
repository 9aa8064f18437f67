-- Made by `./format --c` from ../protocols/formats/rtcp_receiver_report.fields: edit that file and make this one anew.
use Rattle.protocols_c.specs.ReportBlock.{report_block_to_c}
use Rattle.protocols_c.proofs.ListLemmas.{kept_begin}
use Rattle.protocols_c.proofs.PartLemmas.{failed_own, part_kept}
use Rattle.std.proofs.Common.{◌≡◌, ◌∙◌, ◌++◌, ◌∷◌, [], map, refl, arith, length-append}
use Rattle.std.proofs.lemmas.List.{length-map}
use Rattle.bitstream_io.proofs.CallerLemmas.{item-read, items-begin, items-push, items-stop}
use Rattle.protocols_c.proofs.rtcp_receiver_report.read_reports.Goals as goal

pub loop-place-init : goal.loop-place-init
loop-place-init g c = record { all = []; reads = items-begin _ refl; size = refl; keeps = kept_begin _ }

pub returns-in_err-item : goal.returns-in_err-item
returns-in_err-item g c =
    let was = c.loop-place.invariant in
    record {
      all = was.all;
      reads = items-stop _ _ _ (λ _. was.all) c.from_residual.result c.loop-place-test.true was.reads
          (item-read c.in_err-item.ensures) c.from_residual.ensures.1;
      size = failed_own _ c.from_residual.result c.from_residual.ensures.1;
      keeps = was.keeps;
    }

pub loop-place-preserved : goal.loop-place-preserved
loop-place-preserved g c =
    let was = c.loop-place.invariant in
    let count = length-map was.all report_block_to_c ∙ was.size in
    record {
      all = was.all ++ c.in_ok-item.item ∷ [];
      reads = items-push _ _ refl was.reads (item-read c.in_ok-item.ensures);
      size = omega (arith, length-append was.all (c.in_ok-item.item ∷ []), was.size);
      keeps = part_kept report_block_to_c was.all c.in_ok-item.item _ _ _ c.new.ensures
          (c.keep_report_block.ensures (map report_block_to_c was.all) _ count was.keeps);
    }

pub returns : goal.returns
returns g c =
    let all : c.loop-place.place ≡ c.args.count = omega (arith, c.loop-place-test.false, c.loop-place.auto.place-end) in
    let was = c.loop-place.invariant in
    record { all = was.all; reads = rw (← all) was.reads; size = λ _. was.size ∙ all; keeps = was.keeps }

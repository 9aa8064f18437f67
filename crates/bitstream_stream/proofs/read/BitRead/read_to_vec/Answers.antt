use Rattle.std.proofs.Common.{rules, arith, ◌≡◌, ◌+◌, ◌-◌, length, sym, ap, ◌∙◌, length-append}
use Rattle.bitstream_stream.proofs.Reading.BytesLemmas.{reads-none, stops-none, stops-prefix, reads-more, stops-more, map_stops, lacks-more, grown_length, grown_part}
use Rattle.bitstream_stream.proofs.Reading.ReadsLemmas.{Reads-growing}
use Rattle.bitstream_stream.proofs.read.BitRead.read_to_vec.Goals as goal

pub returns-in_err-read_unsigned_var : goal.returns-in_err-read_unsigned_var
returns-in_err-read_unsigned_var g c =
    record {
      reads = map_stops _ c.from_residual.result c.from_residual.ensures.1
          (Reads-growing (stops-prefix _ 0 _ _ _ _ (omega arith)
          (stops-none _ 8 _ _ _ c.in_err-read_unsigned_var.ensures.reads)));
    }

pub loop-at-init : goal.loop-at-init
loop-at-init g c = record {
  len = ap length c.new-buf.ensures.items;
  within = omega arith;
  reads = rw c.new-buf.ensures.items (reads-none _ 8 _ _ _ c.in_ok-read_unsigned_var.ensures.reads);
}

pub returns-in_default : goal.returns-in_default
returns-in_default g c =
    record {
      reads = lacks-more _ c.loop-at.at c.args.bytes _ _ _ _ c.loop-at-test.true
          (Reads-growing c.loop-at.invariant.reads) c.fail.ensures;
    }

pub returns-in_err-read_bytes : goal.returns-in_err-read_bytes
returns-in_err-read_bytes g c =
    let at = c.loop-at.at in
    let all = c.as_mut_slice.result.now in
    let end = at + c.min.result in
    let inv = c.loop-at.invariant in
    let is = c.as_mut_slice.ensures.value ∙ c.in-Ok.ensures in
    let size : length all ≡ end = grown_length c.loop-at.buf.items all end is (omega (arith, inv.len)) in
    let fits : length c.read_bytes.new.buf ≡ length all - at = search rules in
    record {
      reads = map_stops _ c.from_residual-in_err-read_bytes.result c.from_residual-in_err-read_bytes.ensures.1
          (Reads-growing (stops-more _ at _ c.args.bytes _ _ _ _ _ (omega (
            arith,
            size,
            fits,
            c.read_bytes.auto.buf,
            c.min.ensures,
            inv.within,
          )) inv.reads c.in_err-read_bytes.ensures.reads));
    }

pub loop-at-preserved : goal.loop-at-preserved
loop-at-preserved g c =
    let at = c.loop-at.at in
    let items = c.loop-at.buf.items in
    let all = c.as_mut_slice.result.now in
    let part = c.read_bytes.new.buf in
    let end = at + c.min.result in
    let inv = c.loop-at.invariant in
    let is = c.as_mut_slice.ensures.value ∙ c.in-Ok.ensures in
    let size : length all ≡ end = grown_length items all end is (omega (arith, inv.len)) in
    let fits : length part ≡ length all - at = search rules in
    let made = grown_part c.grow.new.buf.len at items _ all c.grow.new.buf.items part (sym c.as_mut_slice.ensures.len)
    is inv.len fits in
    record {
      len = ap length made ∙ length-append items part ∙ omega (arith, size, fits, inv.len);
      within = omega (arith, c.min.ensures, inv.within);
      reads = reads-more _ at _ end items part _ _ _ _ (omega (arith, size, fits, c.read_bytes.auto.buf)) made inv.reads
          c.in_ok-read_bytes.ensures.reads;
    }

use Rattle.std.proofs.Common.{rules, arith, ◌≡◌, ◌+◌, ◌-◌, length, sym, ap, ◌∙◌, length-append}
use Rattle.bitstream_stream.proofs.Reading.BytesLemmas.{grown_length, grown_part}
use Rattle.bitstream_stream.proofs.Reading.ReadsLemmas.{map_err}
use Rattle.bitstream_stream.proofs.WholeBytes.ByteReadsLemmas.{bytes_none, bytes_then, bytes_stop, bytes_starved}
use Rattle.bitstream_stream.proofs.bytes.byte_read.ByteRead.read_to_vec.Goals as goal

pub loop-at-init : goal.loop-at-init
loop-at-init g c = record {
  len = ap length c.new-buf.ensures.items;
  within = omega arith;
  reads = rw c.new-buf.ensures.items (bytes_none c.args.self.now);
}

pub returns-in_err-grow : goal.returns-in_err-grow
returns-in_err-grow g c =
    record {
      reads = rw (map_err _ c.from_residual.result c.from_residual.ensures.1)
          (bytes_starved _ c.args.bytes _ c.args.self.now c.loop-at.self c.loop-at-test.true c.loop-at.invariant.reads);
    }

pub returns-in_err-read_bytes : goal.returns-in_err-read_bytes
returns-in_err-read_bytes g c =
    let at = c.loop-at.at in
    let items = c.loop-at.buf.items in
    let all = c.as_mut_slice.result.now in
    let end = at + c.min.result in
    let inv = c.loop-at.invariant in
    let is = c.as_mut_slice.ensures.value ∙ c.in_ok-grow.ensures in
    let size : length all ≡ end = grown_length items all end is (omega (arith, inv.len)) in
    let fits : length c.read_bytes.new.buf ≡ length all - at = search rules in
    record {
      reads = rw (map_err _ c.from_residual-in_err-read_bytes.result c.from_residual-in_err-read_bytes.ensures.1)
          (bytes_stop at _ c.args.bytes items _ c.args.self.now c.loop-at.self c.read_bytes.new.self
          (omega (arith, size, fits, c.read_bytes.auto.buf, c.min.ensures, inv.within)) inv.reads
          c.in_err-read_bytes.ensures.reads);
    }

pub loop-at-preserved : goal.loop-at-preserved
loop-at-preserved g c =
    let at = c.loop-at.at in
    let items = c.loop-at.buf.items in
    let all = c.as_mut_slice.result.now in
    let part = c.read_bytes.new.buf in
    let end = at + c.min.result in
    let inv = c.loop-at.invariant in
    let is = c.as_mut_slice.ensures.value ∙ c.in_ok-grow.ensures in
    let size : length all ≡ end = grown_length items all end is (omega (arith, inv.len)) in
    let fits : length part ≡ length all - at = search rules in
    let made = grown_part c.grow.new.buf.len at items _ all c.grow.new.buf.items part (sym c.as_mut_slice.ensures.len)
    is inv.len fits in
    record {
      len = ap length made ∙ length-append items part ∙ omega (arith, size, fits, inv.len);
      within = omega (arith, c.min.ensures, inv.within);
      reads = bytes_then at _ end items part _ c.args.self.now c.loop-at.self c.read_bytes.new.self
          (omega (arith, size, fits, c.read_bytes.auto.buf)) made inv.reads c.in_ok-read_bytes.ensures.reads;
    }

pub returns : goal.returns
returns g c =
    let inv = c.loop-at.invariant in
    let all : c.loop-at.at ≡ c.args.bytes = omega (arith, c.loop-at-test.false, inv.within) in
    record { reads = rw all at inv.reads }

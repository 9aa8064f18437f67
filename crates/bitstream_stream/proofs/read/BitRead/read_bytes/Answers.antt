use Rattle.std.proofs.Common.{rules, arith, ◌+◌, ◌<◌, [], ◌∷◌, length, take, refl}
use Rattle.std.proofs.lemmas.List.{take_more_set}
use Rattle.bitstream_stream.proofs.Reading.BytesLemmas.{reads-none, stops-none, stops-prefix, reads-byte, stops-byte, reads-more, stops-more, map_stops}
use Rattle.bitstream_stream.proofs.read.BitRead.read_bytes.Goals as goal

pub returns-in_err-read_unsigned_var : goal.returns-in_err-read_unsigned_var
returns-in_err-read_unsigned_var g c =
    record {
      reads = map_stops _ c.from_residual.result c.from_residual.ensures.1
          (stops-prefix _ 0 _ _ _ _ (omega arith) (stops-none _ 8 _ _ _ c.in_err-read_unsigned_var.ensures.reads));
    }

pub loop-at-init : goal.loop-at-init
loop-at-init g c = record { len = refl; reads = reads-none _ 8 _ _ _ c.in_ok-read_unsigned_var.ensures.reads }

pub returns-in_err-buf : goal.returns-in_err-buf
returns-in_err-buf g c =
    let o = g.Self.BitRead.source.order in
    let less : c.loop-at.at < length c.args.buf.now = search rules in
    record {
      reads = map_stops _ c.from_residual-in_err-buf.result c.from_residual-in_err-buf.ensures.1
          (stops-more o c.loop-at.at 1 (length c.args.buf.now) _ _ _ _ _ (omega (arith, less)) c.loop-at.invariant.reads
          (stops-byte o _ _ _ c.in_err-buf.ensures.reads));
    }

pub loop-at-preserved : goal.loop-at-preserved
loop-at-preserved g c =
    let o = g.Self.BitRead.source.order in
    let at = c.loop-at.at in
    let buf = c.loop-at.buf in
    let v = c.in_ok-buf.field-0 in
    let less : at < length buf = search rules in
    record {
      len = search rules;
      reads = reads-more o at 1 (at + 1) (take at buf) (v ∷ []) _ _ _ _ refl (take_more_set buf at v less)
          c.loop-at.invariant.reads (reads-byte o v _ _ c.in_ok-buf.ensures.reads);
    }

use Rattle.std.proofs.Common.{◌≡◌, ◌<◌, ℕ, ◌+◌, List, ◌++◌, length, take, drop, get_or, Ok, Err, sym, ap, ◌∙◌, subst, arith}
use Rattle.std.specs.Prelude.{flat_map}
use Rattle.std.proofs.lemmas.Result.{err_from_is_err_and}
use Rattle.std.proofs.Math.Seq.{take-length}
use Rattle.bitstream_count.specs.Codec.{Encoder}
use Rattle.bitstream_stream.specs.Writing.Sink.{WritesAll}
use Rattle.bitstream_stream.proofs.Writing.WriteParts.{all_none, all_append, all_stop, flat_map-take, flat_map-split}
use Rattle.bitstream_value.proofs.integer.array.ArrayVBRInteger.write_vbr.Goals as goal

pub loop-item-init : goal.loop-item-init
loop-item-init g c = all_none g.W.BitWrite.sink _

pub returns-in_err-write_vbr : goal.returns-in_err-write_vbr
returns-in_err-write_vbr g c =
    let p = err_from_is_err_and c.from_residual.result c.from_residual.ensures.1 in
    let K = g.W.BitWrite.sink in
    let f = g.I.VBRInteger.writes_vbr K.order g.F.Width.BITS in
    let xs = c.args.self in
    let k = c.loop-item.item-index in
    let x = get_or xs k c.item-item.result in
    let fits : k < length xs = omega arith in
    record {
      writes = subst (λ (es : List Encoder). WritesAll K es c.args.writer.now c.from_residual.result
          c.write_vbr.new.writer) (sym (flat_map-split f xs k c.item-item.result fits))
          (all_append K (flat_map f (take k xs)) (f x ++ flat_map f (drop (k + 1) xs)) c.args.writer.now
          c.loop-item.writer c.from_residual.result c.write_vbr.new.writer c.loop-item.invariant
          (all_stop K (f x) (flat_map f (drop (k + 1) xs)) c.loop-item.writer _ c.from_residual.result
          c.write_vbr.new.writer (p.1 ∙ ap Err p.2) c.in_err-write_vbr.ensures.writes));
    }

pub loop-item-preserved : goal.loop-item-preserved
loop-item-preserved g c =
    let K = g.W.BitWrite.sink in
    let f = g.I.VBRInteger.writes_vbr K.order g.F.Width.BITS in
    let xs = c.args.self in
    let k = c.loop-item.item-index in
    let x = get_or xs k c.item-item.result in
    let fits : k < length xs = omega arith in
    subst (λ (es : List Encoder). WritesAll K es c.args.writer.now (Ok tt) c.write_vbr.new.writer)
    (sym (flat_map-take f xs k c.item-item.result fits))
    (all_append K (flat_map f (take k xs)) (f x) c.args.writer.now c.loop-item.writer (Ok tt) c.write_vbr.new.writer
    c.loop-item.invariant c.in_ok-write_vbr.ensures.writes)

pub returns : goal.returns
returns g c =
    let K = g.W.BitWrite.sink in
    let f = g.I.VBRInteger.writes_vbr K.order g.F.Width.BITS in
    let xs = c.args.self in
    let all : c.loop-item.item-index ≡ length xs = omega arith in
    record {
      writes = subst (λ (ys : _). WritesAll K (flat_map f ys) c.args.writer.now (Ok tt) c.loop-item.writer)
          (ap (λ (n : ℕ). take n xs) all ∙ take-length xs) c.loop-item.invariant;
    }

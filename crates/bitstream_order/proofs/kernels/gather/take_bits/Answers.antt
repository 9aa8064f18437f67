use Rattle.std.proofs.Common.{arith, ◌≡◌, ◌+◌, ◌/◌, length, take, drop, ap, sym, ◌∙◌}
use Rattle.std.proofs.lemmas.List.{take-append-drop, length-take-le}
use Rattle.bitstream_number.specs.Word.{bits}
use Rattle.bitstream_order.specs.Moving.Gather.{padding_bits}
use Rattle.bitstream_order.proofs.PartLemmas.{first_below}
use Rattle.bitstream_order.proofs.Moving.TakeLemmas.{takes_bits}
use Rattle.bitstream_order.proofs.kernels.gather.take_bits.Goals as goal

pub put-requires-clause-small : goal.put-requires-clause-small
put-requires-clause-small g c =
    let room = c.requires.room in
    rw c.prefix.ensures (first_below g.E.Endianness.order _ g.U.Numeric.BITS_SIZE c.args.n c.of_bytes-value.ensures.below
    (omega arith))

pub returns-in-Ok-clause-takes : goal.returns-in-Ok-clause-takes
returns-in-Ok-clause-takes g c =
    let size = g.met.U.Numeric.size_law in
    let room = c.requires.room in
    let count = (c.args.n + 7) / 8 in
    let buf = c.fetch_prefix.new.buf in
    let items = c.buffer-bytes.ensures in
    let value = c.as_bytes_mut.ensures.value in
    let long : length buf ≡ g.U.Primitive.BYTES = c.fetch_prefix.ensures.len ∙ ap length value ∙ items in
    let is = c.of_bytes-value.ensures.word ∙ ap (bits g.E.Endianness.order) (g.met.U.Bytes.Buffer.items_law buf
    ∙ sym (take-append-drop count buf)) in
    takes_bits g.E.Endianness.order c.args.done _ c.args.n g.U.Numeric.BITS_SIZE _ _ _ _ (take count buf)
    (drop count buf) _ _ c.requires.below c.of_bytes-value.ensures.below
    (length-take-le count buf (omega arith)) (omega arith) c.in-Ok.ensures.fetches is c.prefix.ensures c.put.ensures
    (c.byte_behind-left.ensures (padding_bits c.args.n) (omega arith) (omega arith))

pub returns-in-Err-clause-takes : goal.returns-in-Err-clause-takes
returns-in-Err-clause-takes g c =
    let size = g.met.U.Numeric.size_law in
    let room = c.requires.room in
    let items = c.buffer-bytes.ensures in
    let long : length c.fetch_prefix.new.buf ≡ g.U.Primitive.BYTES =
    c.fetch_prefix.ensures.len ∙ ap length c.as_bytes_mut.ensures.value ∙ items in
    rw (length-take-le ((c.args.n + 7) / 8) c.fetch_prefix.new.buf (omega arith)) at c.in-Err.ensures.fetches

use Rattle.std.proofs.Common.{◌≡◌, ◌≤◌, ◌<◌, ◌∙◌, [], ap, arith, length, take, refl}
use Rattle.bitstream_number.specs.Word.{bits, word}
use Rattle.bitstream_number.proofs.WordLemmas.{length-word}
use Rattle.bitstream_stream.specs.Reading.Memory.{taken_bits}
use Rattle.bitstream_stream.specs.Reading.MemorySource.{memory_source}
use Rattle.bitstream_stream.proofs.Reading.MemoryLemmas.{memory_ends}
use Rattle.bitstream_stream.proofs.Reading.SliceLemmas.{new_answer}
use Rattle.bitstream_value.specs.HuffmanTree.{tree_of}
use Rattle.bitstream_io.proofs.WindowLemmas.{finds-longer, finds-none, finds-word, new-short, new-taken}
use Rattle.bitstream_io.proofs.symbols.entry.entry_of.Goals as goal

pub returns-then-bits-le10 : goal.returns-then-bits-le10
returns-then-bits-le10 g c =
    let o = g.E.Endianness.order in
    let bytes = c.to_bytes-bytes.result in
    let window = word o 10 c.args.window in
    let first : take 10 (bits o bytes) ≡ window = ap (λ l. take 10 l) c.to_bytes-bytes.ensures.bits ∙ c.to_front.ensures in
    let size : length (bits o bytes) ≡ 16 =
    ap (λ l. length l) c.to_bytes-bytes.ensures.bits ∙ length-word o 16 c.to_front.result in
    let r = c.from_bits.new.next in
    let n = taken_bits r.all.now r.bytes.now r.bit in
    let read = new-taken {K = memory_source o} bytes [] c.over-reader.ensures.state c.in-Ok.symbol c.in-Ok.ensures.reads in
    let few : n ≤ 10 = omega (arith, c.bits_read-bits.ensures, c.if-bits-le10.true) in
    let same : c.bits_read-bits.result ≡ n = omega (arith, c.bits_read-bits.ensures, few) in
    finds-word (tree_of c.args.tree.now) window (bits o bytes) 10 first _ n c.in-Ok.symbol refl (omega (arith, size)) few
    same refl read

pub returns-else-bits-le10 : goal.returns-else-bits-le10
returns-else-bits-le10 g c =
    let o = g.E.Endianness.order in
    let bytes = c.to_bytes-bytes.result in
    let window = word o 10 c.args.window in
    let first : take 10 (bits o bytes) ≡ window = ap (λ l. take 10 l) c.to_bytes-bytes.ensures.bits ∙ c.to_front.ensures in
    let size : length (bits o bytes) ≡ 16 =
    ap (λ l. length l) c.to_bytes-bytes.ensures.bits ∙ length-word o 16 c.to_front.result in
    let r = c.from_bits.new.next in
    let n = taken_bits r.all.now r.bytes.now r.bit in
    let read = new-taken {K = memory_source o} bytes [] c.over-reader.ensures.state c.in-Ok.symbol c.in-Ok.ensures.reads in
    let long : 10 < n = omega (arith, c.bits_read-bits.ensures, c.if-bits-le10.false) in
    finds-longer (tree_of c.args.tree.now) window (bits o bytes) 10 first c.longer.result n c.in-Ok.symbol refl
    (omega (arith, size)) long c.longer.ensures read

pub returns-in-Err : goal.returns-in-Err
returns-in-Err g c =
    let o = g.E.Endianness.order in
    let t = tree_of c.args.tree.now in
    let bytes = c.to_bytes-bytes.result in
    let window = word o 10 c.args.window in
    let first : take 10 (bits o bytes) ≡ window = ap (λ l. take 10 l) c.to_bytes-bytes.ensures.bits ∙ c.to_front.ensures in
    let short = new-short t (bits o bytes) c.in-Err.field-0
    (new_answer {K = memory_source o} memory_ends bytes [] c.over-reader.ensures.state c.in-Err.ensures.reads) in
    finds-none t window (bits o bytes) 10 first c.longer-in-Err.result c.longer-in-Err.ensures short

use Rattle.std.proofs.Common.{arith, ◌+◌, ◌-◌, ◌<◌, ap₂, ◌∙◌}
use Rattle.bitstream_order.specs.Parts.{put_number}
use Rattle.bitstream_stream.proofs.Reading.MemoryWords.{two_taken, taken_as, fits_in}
use Rattle.bitstream_stream.proofs.read.slice_reader.SliceReader.take_many.Goals as goal

pub from_u64-first-requires : goal.from_u64-first-requires
from_u64-first-requires g c = fits_in 56 _ _ (omega (arith, c.requires.many, c.requires.room)) c.take_few.ensures.below

pub from_u64-second-requires : goal.from_u64-second-requires
from_u64-second-requires g c =
    fits_in (c.args.bits - 56) _ _ (omega (arith, c.requires.room)) c.take_few-then-more-le56.ensures.below

pub returns-then-more-le56 : goal.returns-then-more-le56
returns-then-more-le56 g c =
    let o = g.E.Endianness.order in
    let more = c.args.bits - 56 in
    taken_as o (56 + more) c.args.bits _ _ c.args.self.now c.take_few-then-more-le56.new.self
    (omega (arith, c.requires.many))
    (c.put.ensures ∙ ap₂ (λ v u. put_number o v 56 u more) c.from_u64-first.ensures c.from_u64-second.ensures)
    (two_taken o 56 more _ _ c.args.self.now _ _ c.take_few.ensures c.take_few-then-more-le56.ensures)

pub from_u64-second-requires-2 : goal.from_u64-second-requires-2
from_u64-second-requires-2 g c =
    fits_in 56 _ _ (omega (arith, c.requires.many, c.requires.room)) c.take_few-2.ensures.below

pub from_u64-last-requires : goal.from_u64-last-requires
from_u64-last-requires g c =
    fits_in (c.args.bits - 56 - 56) _ _ (omega (arith, c.requires.room)) c.take_few-3.ensures.below

pub returns : goal.returns
returns g c =
    let o = g.E.Endianness.order in
    let last = c.args.bits - 56 - 56 in
    let many : 112 < c.args.bits = omega (arith, c.if-more-le56.false) in
    let two = two_taken o 56 56 _ _ c.args.self.now _ _ c.take_few.ensures c.take_few-2.ensures in
    taken_as o (112 + last) c.args.bits _ _ c.args.self.now c.take_few-3.new.self (omega (arith, many))
    (c.put-3.ensures ∙ ap₂ (λ v u. put_number o v 112 u last)
    (c.put-2.ensures ∙ ap₂ (λ v u. put_number o v 56 u 56) c.from_u64-first.ensures c.from_u64-second-2.ensures)
    c.from_u64-last.ensures)
    (two_taken o 112 last _ _ c.args.self.now _ _ two c.take_few-3.ensures)

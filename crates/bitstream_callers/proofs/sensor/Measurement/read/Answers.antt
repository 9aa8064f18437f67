use borrow.Author.Rules.{sfits_of}
use Rattle.std.proofs.Common.{SFits, w16}
use Rattle.std.proofs.lemmas.Int.{to_z-of_z}
use Rattle.bitstream_io.proofs.ReadSteps.{few_reads, reads}
use Rattle.bitstream_callers.proofs.sensor.Measurement.read.Goals as goal

pub returns-in_err-read_unary : goal.returns-in_err-read_unary
returns-in_err-read_unary g c = search few_reads depth 12

pub returns-in_err-read_vbr : goal.returns-in_err-read_vbr
returns-in_err-read_vbr g c = search few_reads depth 12

pub returns-in_err-read_vbr-2 : goal.returns-in_err-read_vbr-2
returns-in_err-read_vbr-2 g c = search few_reads depth 12

pub returns-in_err-read_huffman : goal.returns-in_err-read_huffman
returns-in_err-read_huffman g c =
    let state = rw c.requires at c.in_err-read_huffman.ensures.reads in
    search (
      reads,
      c.in_ok-read_unary.ensures.reads,
      c.in_ok-read_vbr.ensures.reads,
      c.in_ok-read_vbr-2.ensures.reads,
      state,
      c.from_residual-in_err-read_huffman.ensures.1,
    ) depth 12

pub returns : goal.returns
returns g c =
    let turn = c.in_ok-read_vbr-2.field-0 in
    let fits : SFits w16 turn = search sfits_of in
    let state = rw c.requires at c.in_ok-read_huffman.ensures.reads in
    rw (to_z-of_z w16 turn fits)
    (search (
      reads,
      c.in_ok-read_unary.ensures.reads,
      c.in_ok-read_vbr.ensures.reads,
      c.in_ok-read_vbr-2.ensures.reads,
      state,
    ) depth 12)

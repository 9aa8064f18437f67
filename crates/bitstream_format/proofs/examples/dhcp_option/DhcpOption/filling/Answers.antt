use Rattle.std.proofs.Common.{arith}
use Rattle.bitstream_io.specs.Callers.{High}
use Rattle.bitstream_io.proofs.CallerLemmas.{slice_ends, unsigned-word}
use Rattle.bitstream_value.proofs.SureLemmas.{word_there}
use Rattle.bitstream_format.proofs.DhcpLemmas.{kind-said, kind-misfits, seconds-said, seconds-misfits, unknown-said}
use Rattle.bitstream_format.proofs.examples.dhcp_option.DhcpOption.filling.Goals as goal

pub returns-then-bytes-ne1 : goal.returns-then-bytes-ne1
returns-then-bytes-ne1 c = kind-misfits c.args.code c.args.bytes.now c.if-code-eq53.true c.if-bytes-ne1.true

pub returns-in_err-read : goal.returns-in_err-read
returns-in_err-read c =
    let found = word_there (unsigned-word High 8 8 (omega arith)) slice_ends c.over-part.ensures.state
    c.in_err-read.ensures.reads (omega (arith, c.if-bytes-ne1.false)) in
    cc

pub returns-then-code-eq53 : goal.returns-then-code-eq53
returns-then-code-eq53 c =
    kind-said c.args.code _ c.args.bytes.now c.if-code-eq53.true c.if-bytes-ne1.false
    (word_there (unsigned-word High 8 8 (omega arith)) slice_ends c.over-part.ensures.state
    c.in_ok-read.ensures.reads (omega (arith, c.if-bytes-ne1.false)))

pub returns-then-bytes-ne4 : goal.returns-then-bytes-ne4
returns-then-bytes-ne4 c = seconds-misfits c.args.code c.args.bytes.now c.if-code-eq51.true c.if-bytes-ne4.true

pub returns-in_err-read-2 : goal.returns-in_err-read-2
returns-in_err-read-2 c =
    let found = word_there (unsigned-word High 32 32 (omega arith)) slice_ends c.over-part.ensures.state
    c.in_err-read-2.ensures.reads (omega (arith, c.if-bytes-ne4.false)) in
    cc

pub returns-then-code-eq51 : goal.returns-then-code-eq51
returns-then-code-eq51 c =
    seconds-said c.args.code _ c.args.bytes.now c.if-code-eq51.true c.if-bytes-ne4.false
    (word_there (unsigned-word High 32 32 (omega arith)) slice_ends c.over-part.ensures.state
    c.in_ok-read-2.ensures.reads (omega (arith, c.if-bytes-ne4.false)))

pub returns : goal.returns
returns c = unknown-said c.args.code c.args.bytes.now c.if-code-eq53.false c.if-code-eq51.false

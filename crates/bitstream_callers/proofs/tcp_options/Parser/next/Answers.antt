use Rattle.bitstream_io.proofs.CallerLemmas.{branches, reads}
use Rattle.bitstream_callers.proofs.tcp_options.Parser.next.Goals as goal

pub returns-in_err-kind : goal.returns-in_err-kind
returns-in_err-kind c = search (reads, c.in_err-kind.ensures.reads, c.from_residual.ensures.1) depth 12

pub returns-then-kind-le1 : goal.returns-then-kind-le1
returns-then-kind-le1 c = search (reads, branches, c.in_ok-kind.ensures.reads, c.if-kind-le1.true) depth 12

pub returns-in_err-length : goal.returns-in_err-length
returns-in_err-length c =
    search (
      reads,
      branches,
      c.in_ok-kind.ensures.reads,
      c.if-kind-le1.false,
      c.in_err-length.ensures.reads,
      c.from_residual-in_err-length.ensures.1,
    ) depth 12

pub returns-then-length-le1 : goal.returns-then-length-le1
returns-then-length-le1 c =
    search (
      reads,
      branches,
      c.in_ok-kind.ensures.reads,
      c.if-kind-le1.false,
      c.in_ok-length.ensures.reads,
      c.if-length-le1.true,
    ) depth 12

pub returns-in_err-data : goal.returns-in_err-data
returns-in_err-data c =
    search (
      reads,
      branches,
      c.in_ok-kind.ensures.reads,
      c.if-kind-le1.false,
      c.in_ok-length.ensures.reads,
      c.if-length-le1.false,
      c.in_err-data.ensures.reads,
      c.from_residual-in_err-data.ensures.1,
    ) depth 12

pub returns : goal.returns
returns c =
    search (
      reads,
      branches,
      c.in_ok-kind.ensures.reads,
      c.if-kind-le1.false,
      c.in_ok-length.ensures.reads,
      c.if-length-le1.false,
      c.in_ok-data.ensures.reads,
    ) depth 12

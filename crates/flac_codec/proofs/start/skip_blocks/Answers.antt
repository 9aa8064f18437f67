use Rattle.flac_codec.specs.Input.{bytes_left}
use Rattle.flac_codec.proofs.ResultLemmas.{seen_is}
use Rattle.flac_codec.proofs.StartLemmas.{left-end, left-first, left-next, left-stop}
use Rattle.flac_codec.proofs.start.skip_blocks.Goals as goal

pub loop-init : goal.loop-init
loop-init g c = left-first (bytes_left g.R.Read.remaining c.args.input.now) c.args.done

pub returns-then-last : goal.returns-then-last
returns-then-last g c =
    record {
      meant = left-end (bytes_left g.R.Read.remaining c.args.input.now) (bytes_left g.R.Read.remaining c.loop.input) c.args.done
          c.loop.last c.if-last.true c.loop.invariant;
    }

pub returns-in_err-block : goal.returns-in_err-block
returns-in_err-block g c =
    rw (seen_is (λ _. bytes_left g.R.Read.remaining c.skip_block.new.input) _ c.from_residual.result c.from_residual.ensures.1)
    (record {
      meant = left-stop (bytes_left g.R.Read.remaining c.args.input.now) (bytes_left g.R.Read.remaining c.loop.input) c.args.done
          c.loop.last _ c.if-last.false c.loop.invariant c.in_err-block.ensures.meant;
    })

pub loop-preserved : goal.loop-preserved
loop-preserved g c =
    left-next (bytes_left g.R.Read.remaining c.args.input.now) (bytes_left g.R.Read.remaining c.loop.input)
    (bytes_left g.R.Read.remaining c.skip_block.new.input) c.args.done c.loop.last c.in_ok-block.block c.if-last.false
    c.loop.invariant c.in_ok-block.ensures.meant c.in_ok-block.ensures.left

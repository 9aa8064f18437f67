use Rattle.std.proofs.Common.{arith, ◌≡◌, ◌+◌, ◌^◌, subst, refl, Ok, Err}
use Rattle.std.specs.Prelude.{◌==◌}
use Rattle.bitstream_count.specs.declared.error.Error.TheVariants.{RunTooLong}
use Rattle.bitstream_stream.specs.Reading.Reads.{Reads}
use Rattle.bitstream_stream.specs.Reading.ReadTable.{unary_decoder}
use Rattle.bitstream_stream.proofs.Reading.BytesLemmas.{stops}
use Rattle.bitstream_stream.proofs.Reading.ReadsLemmas.{Begun-nil}
use Rattle.bitstream_stream.proofs.Reading.UnaryReads.{unary-stops, unary-ends, unary-more, unary-too_long}
use Rattle.bitstream_stream.proofs.read.BitRead.read_unary.Goals as goal

pub loop-self-init : goal.loop-self-init
loop-self-init g c = record { few = omega arith; begun = Begun-nil g.Self.BitRead.source c.args.self.now }

pub returns-in_err-read_bit : goal.returns-in_err-read_bit
returns-in_err-read_bit g c =
    let stop = c.BITS-stop.result == 1 in
    record {
      reads = subst (λ n. Reads g.Self.BitRead.source (unary_decoder (n == 1)) c.args.self.now c.from_residual.result
          c.read_bit.new.self) c.BITS-stop.ensures
          (stops c.from_residual.result c.from_residual.ensures.1
          (unary-stops stop c.loop-self.count _ _ _ _ c.loop-self.invariant.few c.loop-self.invariant.begun
          c.in_err-read_bit.ensures.reads));
    }

pub returns-then-branch-stop : goal.returns-then-branch-stop
returns-then-branch-stop g c =
    let stop = c.BITS-stop.result == 1 in
    record {
      reads = subst (λ n. Reads g.Self.BitRead.source (unary_decoder (n == 1)) c.args.self.now (Ok c.loop-self.count)
          c.read_bit.new.self) c.BITS-stop.ensures
          (unary-ends stop c.loop-self.count _ _ _ _ c.loop-self.invariant.few c.if-branch-stop.true
          c.loop-self.invariant.begun c.in_ok-read_bit.ensures.reads);
    }

pub returns-then-count : goal.returns-then-count
returns-then-count g c =
    let stop = c.BITS-stop.result == 1 in
    let last : c.loop-self.count + 1 ≡ 2 ^ 32 = omega arith in
    record {
      reads = subst (λ n. Reads g.Self.BitRead.source (unary_decoder (n == 1)) c.args.self.now (Err RunTooLong)
          c.fail.new.self) c.BITS-stop.ensures
          (unary-too_long stop (c.loop-self.count + 1) _ c.read_bit.new.self _ last
          (unary-more stop c.loop-self.count (c.loop-self.count + 1) _ _ _ _ refl c.if-branch-stop.false
          c.loop-self.invariant.begun c.in_ok-read_bit.ensures.reads) c.fail.ensures);
    }

pub loop-self-preserved : goal.loop-self-preserved
loop-self-preserved g c =
    let stop = c.BITS-stop.result == 1 in
    record {
      few = omega (arith, c.loop-self.invariant.few, c.if-count.false);
      begun = unary-more stop c.loop-self.count (c.loop-self.count + 1) _ _ _ _ refl c.if-branch-stop.false
          c.loop-self.invariant.begun c.in_ok-read_bit.ensures.reads;
    }

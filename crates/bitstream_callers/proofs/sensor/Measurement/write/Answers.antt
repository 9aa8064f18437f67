use borrow.Author.Rules.{sfits_of}
use Rattle.std.proofs.Common.{◌≡◌, SFits, w16, refl}
use Rattle.std.proofs.lemmas.Int.{to_z-of_z}
use Rattle.bitstream_io.specs.Tree.{symbol_word}
use Rattle.bitstream_io.proofs.WriteSteps.{few_writes, writes}
use Rattle.bitstream_callers.specs.Sensor.{state_tree, state_word}
use Rattle.bitstream_callers.specs.contracts.sensor.StatePartialEq.TheImpl.{eq-value}
use Rattle.bitstream_callers.specs.declared.sensor.State.{State}
use Rattle.bitstream_callers.specs.declared.sensor.State.TheVariants.{Idle, Forward, Backward, Braking}
use Rattle.bitstream_callers.proofs.sensor.Measurement.write.Goals as goal

word : (state : State) → symbol_word eq-value.it state_tree state ≡ state_word state
unfolding symbol_word
word Idle = refl
word Forward = refl
word Backward = refl
word Braking = refl

pub returns-in_err-write_unary : goal.returns-in_err-write_unary
returns-in_err-write_unary g c = search few_writes depth 12

pub returns-in_err-write_vbr : goal.returns-in_err-write_vbr
returns-in_err-write_vbr g c = search few_writes depth 12

pub returns-in_err-write_vbr-2 : goal.returns-in_err-write_vbr-2
returns-in_err-write_vbr-2 g c =
    let fits : SFits w16 c.args.self.now.turn = search sfits_of in
    let turn = rw (to_z-of_z w16 c.args.self.now.turn fits) at c.in_err-write_vbr-2.ensures.writes in
    search (
      writes,
      c.in_ok-write_unary.ensures.writes,
      c.in_ok-write_vbr.ensures.writes,
      turn,
      c.from_residual-in_err-write_vbr-2.ensures.1,
    ) depth 12

pub returns : goal.returns
returns g c =
    let fits : SFits w16 c.args.self.now.turn = search sfits_of in
    let turn = rw (to_z-of_z w16 c.args.self.now.turn fits) at c.in_ok-write_vbr-2.ensures.writes in
    let state = rw (c.requires, word c.args.self.now.state) at c.write_huffman.ensures.writes in
    search (writes, c.in_ok-write_unary.ensures.writes, c.in_ok-write_vbr.ensures.writes, turn, state) depth 12

use Rattle.std.proofs.Common.{arith, ◌-◌, ◌^◌, ◌<◌, sym, ap, ◌∙◌, pow_pos, ◌≤◌}
use Rattle.bitstream_number.proofs.Masks.{masked-is}
use Rattle.bitstream_order.proofs.Moving.SignLemmas.{half_is}
use Rattle.bitstream_stream.proofs.Reading.GroupLemmas.{apart, mask_below}
use Rattle.bitstream_stream.proofs.Reading.VbrReads.{short_group-stops, short_group-takes, told-start, told-stop, told-end, Turn, turn-redundant, turn-ends, turn-overflows, turn-told, turn-below}
use Rattle.bitstream_stream.proofs.Reading.BytesLemmas.{map_stops}
use Rattle.bitstream_stream.proofs.Reading.SignedLemmas.{Reads-fine}
use Rattle.bitstream_stream.proofs.Reading.TableLemmas.{unsigned-on_failed}
use Rattle.bitstream_stream.proofs.read.BitRead.read_groups.Given.{Over}
use Rattle.bitstream_stream.proofs.read.BitRead.read_groups.Goals.{After-eq, then-BITS-gt8+in_ok-group, else-BITS-gt8+in_ok-read_unsigned}
use Rattle.bitstream_stream.proofs.read.BitRead.read_groups.Goals as goal

pub sub-mask-requires : goal.sub-mask-requires
sub-mask-requires g c =
    let u = g.U.UnsignedInteger in
    let law = g.met.U.UnsignedInteger in
    let one = ap u.value c.ONE.ensures ∙ law.ONE_value_law in
    let unit = ap u.value c.ONE-2.ensures ∙ law.ONE_value_law in
    let m = c.BITS-payload.result - 1 in
    let size = g.U.Numeric.BITS_SIZE in
    let less : m < size = omega (arith, c.BITS-payload.ensures, c.requires.within) in
    law.can_sub_value_law _ _ (omega (
      arith,
      unit,
      half_is _ m size _ one less (law.shl_law _ _ _ c.shl.ensures),
      pow_pos m,
    ))

pub loop-shift-init : goal.loop-shift-init
loop-shift-init g c =
    let u = g.U.UnsignedInteger in
    let law = g.met.U.UnsignedInteger in
    let one = ap u.value c.ONE.ensures ∙ law.ONE_value_law in
    let unit = ap u.value c.ONE-2.ensures ∙ law.ONE_value_law in
    let none = ap u.value c.ZERO-value.ensures ∙ law.ZERO_value_law in
    let m = c.BITS-payload.result - 1 in
    let size = g.U.Numeric.BITS_SIZE in
    let less : m < size = omega (arith, c.BITS-payload.ensures, c.requires.within) in
    record {
      mask = mask_below m size _ _ _ _ less one unit (law.shl_law _ _ _ c.shl.ensures)
          (law.sub_value_law _ _ _ c.sub-mask.ensures);
      told = rw none (told-start g.Self.BitRead.source c.args.strict g.F.Width.BITS size (2 ^ size) _);
      below = omega (arith, none);
      sound = λ some. absurd (omega arith);
    }

pub returns-in_err-group : goal.returns-in_err-group
returns-in_err-group g c =
    let K = g.Self.BitRead.source in
    let u = g.U.UnsignedInteger in
    let law = g.met.U.UnsignedInteger in
    let size = g.U.Numeric.BITS_SIZE in
    let m = c.BITS-payload.result - 1 in
    let begins : c.loop-shift.shift < size = let less = c.loop-shift-test.true in let is = c.BITS_SIZE.ensures in
    omega (arith, less, is) in
    record {
      reads = map_stops _ c.from_residual.result c.from_residual.ensures.1
          (told-stop K c.args.strict g.F.Width.BITS size (2 ^ size) c.requires.some (omega (arith, c.requires.within)) _ _ _ _ _
          begins c.loop-shift.invariant.told _ c.in_err-group.ensures.reads);
    }

pub returns-in_err-read_unsigned : goal.returns-in_err-read_unsigned
returns-in_err-read_unsigned g c =
    let K = g.Self.BitRead.source in
    let field = g.F.Width.BITS in
    let size = g.U.Numeric.BITS_SIZE in
    let within = c.requires.within in
    let inv = c.loop-shift.invariant in
    let begins : c.loop-shift.shift < size = let less = c.loop-shift-test.true in let is = c.BITS_SIZE.ensures in
    omega (arith, less, is) in
    let short : field ≤ 8 = let most = c.if-BITS-gt8.false in let is = c.BITS.ensures in omega (arith, most, is) in
    record {
      reads = map_stops _ c.from_residual-in_err-read_unsigned.result c.from_residual-in_err-read_unsigned.ensures.1
          (told-stop K c.args.strict field size (2 ^ size) c.requires.some (omega (arith, within)) _ _ _ _ _ begins inv.told _
          (short_group-stops K.order field size _ short (omega (arith, within)) c.in_err-read_unsigned.ensures.reads));
    }

-- the group that this turn read, and what became of its digits
turn : (g : Over) (c : After-eq g)
    → Turn g.Self.BitRead.source c.args.strict g.F.Width.BITS g.U.Numeric.BITS_SIZE (c.BITS-payload.result - 1) c.args.self.now
    c.loop-shift.self c.if-BITS-gt8.self (g.U.UnsignedInteger.value c.loop-shift.value) c.loop-shift.shift
    (g.U.UnsignedInteger.value c.if-BITS-gt8.group) (g.U.UnsignedInteger.value c.bitand-digits.result)
    (g.U.UnsignedInteger.value c.shl-placed.result) (g.U.UnsignedInteger.value c.bitor_assign.new.self)
turn g c =
    let law = g.met.U.UnsignedInteger in
    let wide = c.requires.some in
    let within = c.requires.within in
    let inv = c.loop-shift.invariant in
    record {
      wide = wide;
      within = omega (arith, within);
      payload = ap (λ k. k - 1) c.BITS-payload.ensures;
      begins = let less = c.loop-shift-test.true in let is = c.BITS_SIZE.ensures in omega (arith, less, is);
      told = inv.told;
      small = inv.below;
      read = elim c.if-BITS-gt8.branch [
        | then-BITS-gt8+in_ok-group w ↦ rw (w.group-is, w.self-is) w.in_ok-group.ensures.reads
        | else-BITS-gt8+in_ok-read_unsigned w ↦
            let most = w.if-BITS-gt8.false in
            rw (w.group-is, w.self-is)
            (short_group-takes g.Self.BitRead.source.order g.F.Width.BITS g.U.Numeric.BITS_SIZE _ _
            (omega (arith, most, c.BITS.ensures)) (omega (arith, within))
            (λ byte. law.byte_law _ _ w.from_u8-group.ensures byte) w.in_ok-read_unsigned.ensures.reads)
      ];
      low = masked-is _ _ _ _ inv.mask (law.and_law _ _ _ c.bitand-digits.ensures);
      shifted = law.shl_law _ _ _ c.shl-placed.ensures;
      joined = law.or_law _ _ _ (g.met.U.Numeric.bitor_assign_law _ _ _ c.bitor_assign.ensures.after);
    }

pub returns-then-is_redundant : goal.returns-then-is_redundant
returns-then-is_redundant g c =
    let last = (g.met.U.UnsignedInteger.eq_value_law _ _).0 (sym c.eq.ensures ∙ c.if-eq.true) in
    record {
      reads = turn-redundant (turn g (goal.at.returns-then-is_redundant g c).After-eq) last
          (sym c.is_redundant.ensures ∙ c.if-is_redundant.true);
    }

pub returns-then-eq-2 : goal.returns-then-eq-2
returns-then-eq-2 g c =
    let law = g.met.U.UnsignedInteger in
    let last = (law.eq_value_law _ _).0 (sym c.eq.ensures ∙ c.if-eq.true) in
    let same = (law.eq_value_law _ _).0 (sym c.eq-else-is_redundant.ensures ∙ c.if-eq-2.true) in
    record {
      reads = turn-ends (turn g (goal.at.returns-then-eq-2 g c).After-eq) last
          (sym c.is_redundant.ensures ∙ c.if-is_redundant.false) (sym (law.shr_law _ _ _ c.shr.ensures) ∙ same);
    }

pub returns-else-eq-2 : goal.returns-else-eq-2
returns-else-eq-2 g c =
    let law = g.met.U.UnsignedInteger in
    let last = (law.eq_value_law _ _).0 (sym c.eq.ensures ∙ c.if-eq.true) in
    record {
      reads = turn-overflows (turn g (goal.at.returns-else-eq-2 g c).After-eq) last
          (sym c.is_redundant.ensures ∙ c.if-is_redundant.false)
          (λ back. apart (sym ((law.eq_value_law _ _).1 (law.shr_law _ _ _ c.shr.ensures ∙ back))
          ∙ sym c.eq-else-is_redundant.ensures ∙ c.if-eq-2.false));
    }

pub loop-shift-preserved : goal.loop-shift-preserved
loop-shift-preserved g c =
    let done = turn g (goal.at.loop-shift-preserved g c).After-eq in
    record {
      mask = c.loop-shift.invariant.mask;
      told = turn-told done (λ e. apart (sym ((g.met.U.UnsignedInteger.eq_value_law _ _).1 e) ∙ sym c.eq.ensures
          ∙ c.if-eq.false));
      below = turn-below done;
      sound = λ _. Reads-fine (unsigned-on_failed g.Self.BitRead.source.order g.U.Numeric.BITS_SIZE g.F.Width.BITS)
          done.read;
    }

pub returns : goal.returns
returns g c =
    let size = g.U.Numeric.BITS_SIZE in
    let past : size ≤ c.loop-shift.shift = let most = c.loop-shift-test.false in let is = c.BITS_SIZE.ensures in
    omega (arith, most, is) in
    record {
      reads = told-end g.Self.BitRead.source c.args.strict g.F.Width.BITS size (2 ^ size) _ _ _ _ past
          (c.loop-shift.invariant.sound (omega (arith, past, c.requires.some, c.requires.within)))
          c.loop-shift.invariant.told;
    }

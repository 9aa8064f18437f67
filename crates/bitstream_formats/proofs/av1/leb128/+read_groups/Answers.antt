use Rattle.std.proofs.lemmas.Bool.{le-ltb, lt-ltb}
use Rattle.bitstream_io.proofs.CallerLemmas.{◌-◌, arith, next_own_read as next, exit_own_read as exit, rules}
use Rattle.bitstream_io.proofs.OwnSteps.{own_end}
use Rattle.bitstream_formats.proofs.Leb128Lemmas.{groups_own, place_less, product_less, room_less}
use Rattle.bitstream_formats.proofs.av1.leb128.+read_groups.Goals as goal

pub returns-then-room-eq0 : goal.returns-then-room-eq0
returns-then-room-eq0 g t c = rw c.if-room-eq0.true (own_end _ _)

pub returns-in_err-byte : goal.returns-in_err-byte
returns-in_err-byte g t c =
    groups_own _ _ _ _ (omega arith) (exit _ c.from_residual.ensures.1 c.in_err-byte.ensures.reads)

pub overflow_mul-place : goal.overflow_mul-place
overflow_mul-place g t c =
    omega (arith, place_less c.args.place c.args.room (omega arith) c.requires.room, product_less c.args.place c.in_ok-byte.byte (omega arith))

pub overflow_add-value : goal.overflow_add-value
overflow_add-value g t c =
    omega (arith, c.requires.below, place_less c.args.place c.args.room (omega arith) c.requires.room, product_less c.args.place c.in_ok-byte.byte (omega arith))

pub returns-then-byte-lt128 : goal.returns-then-byte-lt128
returns-then-byte-lt128 g t c =
    groups_own _ _ _ _ (omega arith)
    (next _ c.in_ok-byte.ensures.reads
    (rw (lt-ltb c.in_ok-byte.byte 128 (omega arith), c.small.ensures) (own_end _ _)))

pub overflow_mul-place-2 : goal.overflow_mul-place-2
overflow_mul-place-2 g t c = omega (arith, place_less c.args.place c.args.room (omega arith) c.requires.room)

pub overflow_mul-place-3 : goal.overflow_mul-place-3
overflow_mul-place-3 g t c =
    omega (arith, place_less c.args.place c.args.room (omega arith) c.requires.room, product_less c.args.place (c.in_ok-byte.byte - 128) (omega (arith, c.in_ok-byte.ensures.fits)))

pub overflow_add-value-2 : goal.overflow_add-value-2
overflow_add-value-2 g t c =
    omega (arith, c.requires.below, place_less c.args.place c.args.room (omega arith) c.requires.room, product_less c.args.place (c.in_ok-byte.byte - 128) (omega (arith, c.in_ok-byte.ensures.fits)))

pub read_groups-requires : goal.read_groups-requires
read_groups-requires g t c κs within =
    (omega arith, (λ a is. search rules, (room_less c.args.place c.args.room (omega arith) c.requires.room, omega (arith, c.requires.below, product_less c.args.place (c.in_ok-byte.byte - 128) (omega (arith, c.in_ok-byte.ensures.fits))))))

pub returns : goal.returns
returns g t c =
    groups_own _ _ _ _ (omega arith)
    (next _ c.in_ok-byte.ensures.reads
    (rw (le-ltb c.in_ok-byte.byte 128 (omega arith)) c.read_groups.ensures))

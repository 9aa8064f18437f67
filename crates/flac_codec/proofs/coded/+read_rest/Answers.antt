use Rattle.std.proofs.Common.{refl}
use Rattle.bitstream_io.proofs.CallerLemmas.{arith, next_own_read as next, next_own_const as next_const, exit_own_read as exit, exit_own_const as exit_const, rules}
use Rattle.bitstream_io.proofs.OwnSteps.{own_end}
use Rattle.flac_codec.proofs.CodedLemmas.{more_room, rest_own, wide}
use Rattle.flac_codec.proofs.coded.+read_rest.Goals as goal

pub returns-then-bytes-eq0 : goal.returns-then-bytes-eq0
returns-then-bytes-eq0 g t c = rw (c.if-bytes-eq0.true, c.shortest.ensures) (own_end _ _)

pub returns-in_err-read_const : goal.returns-in_err-read_const
returns-in_err-read_const g t c =
    rest_own _ _ _ _ (omega arith) (exit_const _ _ c.from_residual.ensures.1 c.in_err-read_const.ensures.reads refl)

pub returns-in_err-six : goal.returns-in_err-six
returns-in_err-six g t c =
    rest_own _ _ _ _ (omega arith)
    (next_const _ _ c.in_ok-read_const.ensures.reads
    (exit _ c.from_residual-in_err-six.ensures.1 c.in_err-six.ensures.reads))

pub returns : goal.returns
returns g t c =
    rest_own _ _ _ _ (omega arith)
    (next_const _ _ c.in_ok-read_const.ensures.reads (next _ c.in_ok-six.ensures.reads c.read_rest.ensures))

pub overflow_mul-number : goal.overflow_mul-number
overflow_mul-number g t c = omega (arith, wide c.args.number c.args.bytes c.requires)

pub overflow_add-number : goal.overflow_add-number
overflow_add-number g t c = omega (arith, wide c.args.number c.args.bytes c.requires, c.in_ok-six.ensures.fits)

pub read_rest-requires : goal.read_rest-requires
read_rest-requires g t c κs within =
    (omega arith, (λ a is. search rules, more_room c.args.number c.in_ok-six.six c.args.bytes (omega arith) c.requires c.in_ok-six.ensures.fits))

use Rattle.std.proofs.Common.{Err, ap, ◌∙◌, arith}
use Rattle.std.proofs.lemmas.Result.{err_from_is_err_and}
use Rattle.bitstream_stream.specs.Writing.CodeWord.{code_bits}
use Rattle.bitstream_stream.proofs.Writing.CodeWordLemmas.{wrote-next, wrote-stop, wrote-all}
use Rattle.bitstream_stream.proofs.Writing.WriteParts.{all_none}
use Rattle.bitstream_stream.proofs.write.BitWrite.write_code_word.Goals as goal

pub loop-at-init : goal.loop-at-init
loop-at-init g c = all_none g.Self.BitWrite.sink c.args.self.now

pub loop-at-preserved : goal.loop-at-preserved
loop-at-preserved g c =
    wrote-next g.Self.BitWrite.sink (code_bits c.args.word) c.loop-at.at _ _ _ _ c.bit.ensures c.loop-at.invariant
    c.in_ok-write_bit.ensures.writes

pub returns-in_err-write_bit : goal.returns-in_err-write_bit
returns-in_err-write_bit g c =
    let p = err_from_is_err_and c.from_residual.result c.from_residual.ensures.1 in
    record {
      writes = wrote-stop g.Self.BitWrite.sink (code_bits c.args.word) c.loop-at.at _ _ _ _ c.bit.ensures
          c.loop-at.invariant _ _ (p.1 ∙ ap Err p.2) c.in_err-write_bit.ensures.writes;
    }

pub returns : goal.returns
returns g c =
    record {
      writes = wrote-all g.Self.BitWrite.sink (code_bits c.args.word) c.loop-at.at _ _ (omega arith) c.loop-at.invariant;
    }

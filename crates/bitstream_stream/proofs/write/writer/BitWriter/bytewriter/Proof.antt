-- It has the stream lent, and makes a writer of bytes to it of what was lent. Assumes `Logic`.
use Rattle.std.proofs.Common.{◌≡◌, [], ◌∷◌}
use Rattle.std.proofs.raw_atomic.Walks.{proved}
use Rattle.std.proofs.option.Option.TheLaws.{the_row_laws as option_laws}
use Rattle.std.specs.Prelude.{◌%◌, false}
use Rattle.bitstream_order.specs.Reference.{by_name}
use Rattle.bitstream_order.specs.Port.{new_port_state}
use Rattle.bitstream_order.specs.contracts.streams.lent.Lent.{the_row as LentOf}
use Rattle.bitstream_order.specs.contracts.streams.target.LentTarget.TheImpl as targets
use Rattle.bitstream_order.proofs.streams.lent.Lent.TheLaws.{the_row_laws as lent_laws}
use Rattle.bitstream_stream.specs.WholeBytes.ByteWriter.{byte_writer_state}
use Rattle.bitstream_stream.specs.Ways.{byte_writer_name, writer_stream, writer_with}
use Rattle.bitstream_stream.specs.contracts.bytes.byte_writer.ByteWriter.{the_row as ByteWriterOf}
use Rattle.bitstream_stream.specs.contracts.write.writer.BitWriter.{the_row as BitWriterOf}
use Rattle.bitstream_stream.specs.contracts.write.writer.BitWriter.bytewriter as f
use Rattle.bitstream_stream.specs.contracts.write.writer.BitWriter.bytewriter.Key.{name as #self}
use Rattle.bitstream_stream.specs.contracts.write.writer.BitWriterBitWrite.TheImpl as writes
use Rattle.bitstream_stream.proofs.LentWalk.{part_laws, stayed, walk}
use Rattle.bitstream_stream.proofs.bytes.byte_writer.ByteWriter.TheLaws.{the_row_laws as byte_writer_laws}
use Rattle.bitstream_stream.proofs.write.writer.BitWriter.writer.Met as lends
use Rattle.bitstream_stream.proofs.write.writer.BitWriter.byte_writer_of.Met as makes
use Rattle.bitstream_stream.proofs.write.writer.BitWriter.bytewriter.Statement.{statement}
use Rattle.bitstream_stream.proofs.write.writer.BitWriter.bytewriter.Code as code
use contract.Lifetimes.{Lfts}
use denote.Param.{bounded, param}
use denote.Param.Laws.{param_laws}
use denote.RattleType.{RattleType}
use denote.Ref.{mut_vals, mut_Tells}
use denote.Signature.{plain, named_lft}
use denote.Triple.Walked.{Goes-spent_ref}
use mir.MapTy.{inst_fn}
use mir.Syntax.{a_type, dcons, dnil, named}

pub bytewriter_spec : {M : Type 1} → statement M
bytewriter_spec 𝓤 𝓛 𝓜 𝓡 wired X Y LX LY gs ds ge de gd dd ms me md =
    let inst = bounded (a_type ∷ a_type ∷ []) (X, (Y, tt)) (dcons ds (dcons de (dcons dd dnil))) in
    let R : RattleType = param 0 X in let E : RattleType = param 1 Y in let Self : RattleType = BitWriterOf R E in
    let Made : Lfts 3 → RattleType = λ κs. ByteWriterOf (LentOf (named_lft 3 0 tt κs) R) E in
    let made_laws = λ (κs : Lfts 3). let at = named_lft 3 0 tt κs in
    byte_writer_laws (LentOf at R) E (lent_laws at R (param_laws 0 X LX)) (param_laws 1 Y LY) in
    let sink = (writes.ghosts X Y gs ds ge de gd dd).sink in let lent = targets.ghosts X gs ds in
    proved 𝓛 (f.ended X Y gs ds ge de gd dd) (stayed X Y R Self Made)
    (f.clauses X Y gs ds ge de gd dd 𝓛 𝓜.mem 𝓡.returns) 𝓜 𝓡 (Goes-spent_ref 𝓛 3 (0 ∷ []) tt (plain (λ _. Self)), tt)
    (#self inst) (inst_fn inst code.function) (code.unfolded 𝓤 𝓛.H 𝓜 𝓡 wired (X, (Y, tt)) ds de dd)
    (λ κs. (mut_vals, tt)) (λ κs. (mut_Tells (named 0) κs.0 Self, tt)) (λ κs qs bounds a gh are.
    walk X Y R Self Made (λ writer. (sink.failed writer ≡ false) × (sink.len writer % 8 ≡ 0)) writer_stream writer_with
    (λ κs. byte_writer_name)
    (λ κs writer stream. byte_writer_state lent.stream writer
    ≡ new_port_state (gs.stream.contents stream) (by_name (byte_writer_name writer) ∷ gs.stream.references stream)) 𝓛 κs qs bounds a.0
    𝓜 𝓡
    -- [of the code: how many lifetimes, which outlives which, the kinds, how many givens; two lifetimes; five types]
    _ _ _ _ _ _ _ _ _ _ _
    (λ p v is. (((part_laws X Y R Self Made (param_laws 0 X LX) κs).lawful 𝓛).typed p (v ∷ []) is).0)
    (λ m v is. (((option_laws (Made κs) (made_laws κs)).lawful 𝓛).typed m (v ∷ []) is).0)
    (lends.met 𝓤 𝓛 𝓜 𝓡 (code.calls-bitstream_stream::write::writer::BitWriter::writer 𝓡.env wired) X Y LX LY gs ds ge de gd dd
    ms me md)
    (makes.met 𝓤 𝓛 𝓜 𝓡 (code.calls-bitstream_stream::write::writer::BitWriter::byte_writer_of 𝓡.env wired) X Y LX LY gs ds ge
    de gd dd ms me md))

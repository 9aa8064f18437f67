-- It has the stream lent, and makes a reader of its bytes of what was lent. Assumes `Logic`.
use Rattle.std.proofs.Common.{◌≡◌, [], ◌∷◌}
use Rattle.std.proofs.raw_atomic.Walks.{proved}
use Rattle.std.proofs.option.Option.TheLaws.{the_row_laws as option_laws}
use Rattle.std.specs.Prelude.{◌%◌, false}
use Rattle.bitstream_order.specs.Reference.{by_name}
use Rattle.bitstream_order.specs.Port.{new_port_state}
use Rattle.bitstream_order.specs.contracts.streams.lent.Lent.{the_row as LentOf}
use Rattle.bitstream_order.specs.contracts.streams.source.LentSource.TheImpl as sources
use Rattle.bitstream_order.proofs.streams.lent.Lent.TheLaws.{the_row_laws as lent_laws}
use Rattle.bitstream_stream.specs.WholeBytes.ByteReader.{byte_reader_state}
use Rattle.bitstream_stream.specs.Ways.{byte_reader_name, reader_stream, reader_with}
use Rattle.bitstream_stream.specs.contracts.bytes.byte_reader.ByteReader.{the_row as ByteReaderOf}
use Rattle.bitstream_stream.specs.contracts.bytes.byte_reader.ByteReaderByteRead.TheImpl as bytes
use Rattle.bitstream_stream.specs.contracts.read.reader.BitReader.{the_row as BitReaderOf}
use Rattle.bitstream_stream.specs.contracts.read.reader.BitReader.bytereader as f
use Rattle.bitstream_stream.specs.contracts.read.reader.BitReader.bytereader.Key.{name as #self}
use Rattle.bitstream_stream.specs.contracts.read.reader.BitReaderBitRead.TheImpl as reads
use Rattle.bitstream_stream.proofs.LentWalk.{part_laws, stayed, walk}
use Rattle.bitstream_stream.proofs.bytes.byte_reader.ByteReader.TheLaws.{the_row_laws as byte_reader_laws}
use Rattle.bitstream_stream.proofs.read.reader.BitReader.reader.Met as lends
use Rattle.bitstream_stream.proofs.read.reader.BitReader.byte_reader_of.Met as makes
use Rattle.bitstream_stream.proofs.read.reader.BitReader.bytereader.Statement.{statement}
use Rattle.bitstream_stream.proofs.read.reader.BitReader.bytereader.Code as code
use contract.Lifetimes.{Lfts}
use denote.Param.{bounded, param}
use denote.Param.Laws.{param_laws}
use denote.RattleType.{RattleType}
use denote.Ref.{mut_vals, mut_Tells}
use denote.Signature.{plain, named_lft, static_lft}
use denote.Triple.Walked.{Goes-spent_ref}
use mir.MapTy.{inst_fn}
use mir.Syntax.{a_type, dcons, dnil, named}

pub bytereader_spec : {M : Type 1} → statement M
bytereader_spec 𝓤 𝓛 𝓜 𝓡 wired X Y LX LY gs ds ge de gd dd ms me md =
    let inst = bounded (a_type ∷ a_type ∷ []) (X, (Y, tt)) (dcons ds (dcons de (dcons dd dnil))) in
    let R : RattleType = param 0 X in let E : RattleType = param 1 Y in let Self : RattleType = BitReaderOf R E in
    let Made : Lfts 3 → RattleType = λ κs. ByteReaderOf (LentOf (named_lft 3 0 tt κs) R) E in
    let made_laws = λ (κs : Lfts 3). let at = named_lft 3 0 tt κs in
    byte_reader_laws (LentOf at R) E (lent_laws at R (param_laws 0 X LX)) (param_laws 1 Y LY) in
    let before = (reads.ghosts X Y gs ds ge de gd dd).source.state in
    let after = (bytes.ghosts (LentOf static_lft X) Y (sources.ghosts X gs ds) (sources.dict X gs ds) ge de gd
    dd).source.state in
    proved 𝓛 (f.ended X Y gs ds ge de gd dd) (stayed X Y R Self Made)
    (f.clauses X Y gs ds ge de gd dd 𝓛 𝓜.mem 𝓡.returns) 𝓜 𝓡 (Goes-spent_ref 𝓛 3 (0 ∷ []) tt (plain (λ _. Self)), tt)
    (#self inst) (inst_fn inst code.function) (code.unfolded 𝓤 𝓛.H 𝓜 𝓡 wired (X, (Y, tt)) ds de dd)
    (λ κs. (mut_vals, tt)) (λ κs. (mut_Tells (named 0) κs.0 Self, tt)) (λ κs qs bounds a gh are.
    walk X Y R Self Made (λ reader. ((before reader).failed ≡ false) × ((before reader).taken % 8 ≡ 0)) reader_stream
    reader_with (λ κs. byte_reader_name)
    (λ κs reader stream. after reader ≡ byte_reader_state
    (new_port_state (gs.stream.remaining stream) (by_name (byte_reader_name reader) ∷ gs.stream.references stream))) 𝓛 κs qs bounds a.0
    𝓜 𝓡
    -- [of the code: how many lifetimes, which outlives which, the kinds, how many givens; two lifetimes; five types]
    _ _ _ _ _ _ _ _ _ _ _
    (λ p v is. (((part_laws X Y R Self Made (param_laws 0 X LX) κs).lawful 𝓛).typed p (v ∷ []) is).0)
    (λ m v is. (((option_laws (Made κs) (made_laws κs)).lawful 𝓛).typed m (v ∷ []) is).0)
    (lends.met 𝓤 𝓛 𝓜 𝓡 (code.calls-bitstream_stream::read::reader::BitReader::reader 𝓡.env wired) X Y LX LY gs ds ge de gd dd
    ms me md)
    (makes.met 𝓤 𝓛 𝓜 𝓡 (code.calls-bitstream_stream::read::reader::BitReader::byte_reader_of 𝓡.env wired) X Y LX LY gs ds ge
    de gd dd ms me md))

use Rattle.std.proofs.Common.{rules, ◌≡◌, ◌∷◌, subst, string_bytes, Ok}
use Rattle.bitstream_io.specs.Reference.{by_name}
use Rattle.bitstream_io.specs.Gather.{result_map}
use Rattle.bitstream_io.specs.Refusal.{MayRefuseRead}
use Rattle.bitstream_io.proofs.ReadsLemmas.{first_name}
use Rattle.bitfields_core.specs.Unpacking.{UnpacksBytes}
use Rattle.bitfields_core.proofs.UnpackedBytes.{Unpacks-from, UnpacksBytes-exit, MayRefuse-map, said}
use Rattle.bitfields_core.proofs.unpacking.unpack.Goals as goal

pub returns : goal.returns
returns g c =
    let text : c.into_bytes.result.items ≡ string_bytes c.in_ok-lines.lines = search rules in
    let o = g.E.Endianness.order in
    let source = g.R.Source.stream in
    let may = MayRefuseRead source in
    let fields = c.args.layout.now in
    let first = c.new.result in
    let last = c.unpack_from.new.reader.port.stream in
    let inside = MayRefuse-map (λ l. l.at.now) (λ l. l.at.ghost_name) source.remaining source.references source.refuses in
    let all = Unpacks-from _ may fields (source.remaining first.at.now)
    (by_name first.at.ghost_name ∷ source.references first.at.now) _ _ _ inside c.new-reader.ensures.state
    (rw c.fields.ensures.fields at c.in_ok-lines.ensures) in
    let place = first_name {m = last.at.ghost_name} {n = first.at.ghost_name} all.1 in
    let names = c.new.ensures.name in
    let result = Ok c.into_bytes.result.items in
    let bytes : UnpacksBytes source o fields c.args.input.now result last.at.now =
    rw (text, ← c.new.ensures.value) all.0 in
    record {
      unpacks = subst (λ l. UnpacksBytes source o fields c.args.input.now result l) (search rules) bytes;
      said = said source o fields c.args.input.now last.at.now result bytes;
    }

pub returns-in_err-lines : goal.returns-in_err-lines
returns-in_err-lines g c =
    let o = g.E.Endianness.order in
    let source = g.R.Source.stream in
    let may = MayRefuseRead source in
    let fields = c.args.layout.now in
    let first = c.new.result in
    let last = c.unpack_from.new.reader.port.stream in
    let inside = MayRefuse-map (λ l. l.at.now) (λ l. l.at.ghost_name) source.remaining source.references source.refuses in
    let all = Unpacks-from _ may fields (source.remaining first.at.now)
    (by_name first.at.ghost_name ∷ source.references first.at.now) _ _ _ inside c.new-reader.ensures.state
    (rw c.fields.ensures.fields at c.in_err-lines.ensures) in
    let place = first_name {m = last.at.ghost_name} {n = first.at.ghost_name} all.1 in
    let names = c.new.ensures.name in
    let result = result_map (λ v. v.items) c.from_residual.result in
    let bytes : UnpacksBytes source o fields c.args.input.now result last.at.now =
    UnpacksBytes-exit source o fields c.args.input.now last.at.now (λ v. v.items) c.from_residual.result
    c.in_err-lines.field-0.0 c.from_residual.ensures.1 (rw (← c.new.ensures.value) all.0) in
    record {
      unpacks = subst (λ l. UnpacksBytes source o fields c.args.input.now result l) (search rules) bytes;
      said = said source o fields c.args.input.now last.at.now result bytes;
    }

use Rattle.std.proofs.Common.{rules, ◌∷◌, subst}
use Rattle.bitstream_io.specs.Reference.{by_name}
use Rattle.bitstream_io.specs.Gather.{result_map}
use Rattle.bitstream_io.specs.Refusal.{MayRefuseRead}
use Rattle.bitstream_io.proofs.ReadsLemmas.{first_name}
use Rattle.bitfields_core.specs.Repacking.{exact_read, with_alignment, ReadsPackedBytes}
use Rattle.bitfields_core.proofs.RepackedBytes.{packed_fits, packed_known, packed_stream}
use Rattle.bitfields_core.proofs.UnpackedBytes.{Fields-from, MayRefuse-map}
use Rattle.bitfields_core.proofs.repacking.read_packed.Goals as goal

pub returns : goal.returns
returns g c =
    let o = g.E.Endianness.order in
    let source = g.R.Source.stream in
    let may = MayRefuseRead source in
    let fields = c.args.layout.now in
    let first = c.new.result in
    let last = c.read_packed_from.new.reader.port.stream in
    let result = result_map (λ v. v.items) c.read_packed_from.result in
    let inside = MayRefuse-map (λ l. l.at.now) (λ l. l.at.ghost_name) source.remaining source.references source.refuses in
    let calls = rw c.fields.ensures.fields at c.read_packed_from.ensures in
    let all = Fields-from exact_read _ may (with_alignment fields) (source.remaining first.at.now)
    (by_name first.at.ghost_name ∷ source.references first.at.now) _ _ calls.answer inside c.new-reader.ensures.state
    calls.reads in
    let place = first_name {m = last.at.ghost_name} {n = first.at.ghost_name} all.1 in
    let names = c.new.ensures.name in
    let bytes : ReadsPackedBytes source o fields c.args.input.now result last.at.now =
    rw (← c.new.ensures.value) (packed_stream source o fields first.at.now last.at.now result
    (packed_known may o fields (source.remaining first.at.now) (source.remaining last.at.now) calls.answer result all.0
    calls.names)) in
    record {
      reads = subst (λ l. ReadsPackedBytes source o fields c.args.input.now result l) (search rules)
          bytes;
      fit = packed_fits source o fields c.args.input.now last.at.now (λ v. v.items)
          c.read_packed_from.result c.fields.ensures.is_layout bytes;
      is_layout = c.fields.ensures.is_layout;
    }

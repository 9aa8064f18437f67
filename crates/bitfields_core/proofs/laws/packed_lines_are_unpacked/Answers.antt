use Rattle.std.proofs.Common.{◌≡◌, arith, [], ◌∷◌, ◌+◌, ◌∙◌, ap, length}
use Rattle.std.proofs.lemmas.List.Elements.{recursion_from_All}
use Rattle.bitstream_io.specs.Sequence.{write_sequence}
use Rattle.bitstream_io.specs.WriteTable.{align}
use Rattle.bitfields_core.specs.Layout.{IsField}
use Rattle.bitfields_core.specs.Packing.{field_writes}
use Rattle.bitfields_core.specs.Unpacking.{unpack_bits, Unpacks}
use Rattle.bitfields_core.specs.Value.{lines}
use Rattle.bitfields_core.proofs.FieldCalls.{unpacked-written}
use Rattle.bitfields_core.proofs.PrintedLines.{printed_lines-values}
use Rattle.bitfields_core.proofs.ValueLemmas.{values-Fit}
use Rattle.bitfields_core.proofs.laws.packed_lines_are_unpacked.Goals as goal
use Rattle.bitstream_io.proofs.SequenceLemmas.{write_sequence-append}

pub returns : goal.returns
returns c = λ o fields input vs bytes layout spelt packs. (
    let each = recursion_from_All IsField fields layout.in_range in
    let written = write_sequence (field_writes o fields vs) 0 in
    let n = length written in
    let place : 0 + n ≡ n = omega arith in (
      ap (unpack_bits o 1 fields 0) (packs ∙ write_sequence-append (field_writes o fields vs) (align ∷ []) 0)
          ∙ unpacked-written o 1 fields vs 0 (write_sequence (align ∷ []) (0 + n)) each
          (values-Fit 1 fields (lines input) vs spelt)
          ∙ ap (Unpacks vs) place,
      printed_lines-values 1 fields (lines input) vs each spelt,
    )
    )

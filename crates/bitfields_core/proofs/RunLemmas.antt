-- What becomes of an input that is packed or whose size is written, and of a fault's line.
use Rattle.std.specs.Prelude.{Option, IfErr, OnOk, length}
use Rattle.std.specs.Fmt.{decimal}
use Rattle.std.specs.Io.KnownBytes.{Appends}
use Rattle.std.specs.IoError.{error_kind}
use Rattle.std.specs.declared.io.Error.{Error}
use Rattle.std.specs.declared.io.ErrorKind.{ErrorKind}
use Rattle.std.proofs.Common.{◌≡◌, ◌⊎◌, ℕ, List, [], ◌∷◌, ◌++◌, Result, Ok, Err, refl, inl, inr, sym, ap, subst, ◌∙◌}
use Rattle.bitstream_io.specs.Word.{Order, High}
use Rattle.bitstream_io.specs.Streams.{InputStream, OutputStream}
use Rattle.bitfields_core.specs.declared.fault.Fault.{Fault}
use Rattle.bitfields_core.specs.declared.fault.Reason.TheVariants.{OutOfMemory}
use Rattle.bitfields_core.specs.declared.field.Field.{Field}
use Rattle.bitfields_core.specs.declared.field_value.FieldValue.{FieldValue}
use Rattle.bitfields_core.specs.Fault.{fault, fault_line}
use Rattle.bitfields_core.specs.Packing.{Packs}
use Rattle.bitfields_core.specs.Run.{SpelledInput, PackedInput, PackingFault, misspelt_input, refused_memory, refused_bytes, unflushed_bytes, Reports, SizedInput, SizingFault, ValuesFault, size_line, unknown_values, refused_line, unflushed_line}
use Rattle.bitfields_core.specs.Size.{Sizes, size_of, spelt_size}
use Rattle.bitfields_core.specs.Streams.{ReadToEnd, RefusedOutput, Flushed}
use Rattle.bitfields_core.specs.Value.{lines, values}
use Rattle.bitfields_core.proofs.MemoryLemmas.{value_expected, fault_expected}

spelt_as : {fields : List Field} {input input_after : Option (List ℕ)} {bytes : List ℕ}
    {spelt : Result (List FieldValue) Fault} → ReadToEnd input bytes input_after → values 1 fields (lines bytes) ≡ spelt
    → SpelledInput fields input spelt input_after
spelt_as {bytes = bytes} reads is = record { bytes = bytes; reads = reads; spells = is }

module _ {R W : Type 0} {I : InputStream R} {O : OutputStream W} {o : Order} {fields : List Field} {input : R} {output :
    W} {bytes : List ℕ} {input_after : R} (reads : ReadToEnd (I.remaining input) bytes (I.remaining input_after)) where
  -- packing what the input spells was refused
  pub packing_fault : {refuses_rest : R → ErrorKind → R → Type 0} (spelt : Result (List FieldValue) Fault) {f : Fault} {output_after : W}
      → values 1 fields (lines bytes) ≡ spelt
      → Packs O o fields spelt output (Err f) output_after
      → PackingFault I refuses_rest O o fields input output f input_after output_after
  packing_fault (Ok vs) is (inl h) = refused_memory bytes reads h.0 h.1
  packing_fault (Ok vs) is (inr h) = refused_bytes vs (spelt_as reads is) h
  packing_fault (Err x) is (same, inl e) = misspelt_input (spelt_as reads (is ∙ ap Err (sym e))) same
  packing_fault (Err x) is (same, inr memory) = refused_memory bytes reads memory same

  -- the flush behind what was packed was refused
  pub packing_unflushed : {refuses_rest : R → ErrorKind → R → Type 0} (spelt : Result (List FieldValue) Fault) {f : Fault} {filled output_after : W}
      → values 1 fields (lines bytes) ≡ spelt
      → Packs O o fields spelt output (Ok tt) filled
      → RefusedOutput O filled 0 f output_after → PackingFault I refuses_rest O o fields input output f input_after output_after
  packing_unflushed (Ok vs) {filled = filled} is packs refused =
      unflushed_bytes vs (spelt_as reads is) (record { filled = filled; packs = packs; refused = refused })
  packing_unflushed (Err x) is packs refused = absurd packs

  -- what the input spells was packed, and the output flushed behind it
  pub packed_input : (spelt : Result (List FieldValue) Fault) {filled output_after : W}
      → values 1 fields (lines bytes) ≡ spelt
      → Packs O o fields spelt output (Ok tt) filled
      → Flushed O filled output_after → PackedInput I O o fields input output input_after output_after
  packed_input (Ok vs) {filled = filled} is packs flushed =
      record { vs = vs; reads = spelt_as reads is; filled = filled; packs = packs; flushed = flushed }
  packed_input (Err x) is packs flushed = absurd packs

-- values whose size is known were spelt
spelt_values : (fields : List Field) (spelt : Result (List FieldValue) Fault) (n : ℕ) → Sizes fields spelt (Ok n)
    → (vs : List FieldValue) × (spelt ≡ Ok vs) × ((o : Order) → n ≡ size_of o fields vs)
spelt_values fields (Ok vs) n h =
    (vs, refl, λ o. let same : spelt_size o fields (Ok vs) ≡ Ok n = value_expected (h o) in cc)
spelt_values fields (Err x) n h = let same : spelt_size High fields (Err x) ≡ Ok n = value_expected (h High) in cc

values_fault : {R : Type 0} (I : InputStream R) {refuses_rest : R → ErrorKind → R → Type 0} (o : Order) (fields : List Field) {input : R} {bytes : List ℕ}
    {input_after : R} {f : Fault} (spelt : Result (List FieldValue) Fault)
    → ReadToEnd (I.remaining input) bytes (I.remaining input_after) → values 1 fields (lines bytes) ≡ spelt
    → (f ≡ fault 0 OutOfMemory) ⊎ (spelt_size o fields spelt ≡ Err f) → ValuesFault I refuses_rest fields input f input_after
values_fault I o fields {bytes = bytes} spelt reads is (inl memory) = inr (inr (bytes, reads, memory))
values_fault I o fields (Ok vs) reads is (inr same) = cc
values_fault I o fields {f = f} (Err x) reads is (inr same) =
    let e : x ≡ f = cc in inr (inl (spelt_as reads (is ∙ ap Err e)))

-- a text is the line of the size of the values that an input's lines spell
record IsSizeLine (o : Order) (fields : List Field) (input : Option (List ℕ)) (text : List ℕ)
    (input_after : Option (List ℕ)) : Type 0 where
  vs : List FieldValue
  reads : SpelledInput fields input (Ok vs) input_after
  line : text ≡ size_line o fields vs

size_line_of : {input input_after : Option (List ℕ)} {bytes text : List ℕ} {n : ℕ} (o : Order) (fields : List Field)
    → ReadToEnd input bytes input_after → Sizes fields (values 1 fields (lines bytes)) (Ok n)
    → text ≡ decimal n ++ 10 ∷ [] → IsSizeLine o fields input text input_after
size_line_of {bytes = bytes} {n = n} o fields reads h line =
    let known = spelt_values fields (values 1 fields (lines bytes)) n h in
    record {
      vs = known.0;
      reads = spelt_as reads known.1;
      line = line ∙ ap (λ (m : ℕ). decimal m ++ 10 ∷ []) (known.2 o);
    }

module _ {R W : Type 0} {I : InputStream R} {O : OutputStream W} {fields : List Field} {input : R} {output : W}
    {bytes : List ℕ} {input_after : R} (reads : ReadToEnd (I.remaining input) bytes (I.remaining input_after)) where
  -- the size of what the input spells is not known
  pub sizing_fault : {refuses_rest : R → ErrorKind → R → Type 0} (o : Order) {f : Fault} {output_after : W} → Sizes fields (values 1 fields (lines bytes)) (Err f)
      → output_after ≡ output → SizingFault I refuses_rest O o fields input output f input_after output_after
  sizing_fault o h same =
      unknown_values (values_fault I o fields (values 1 fields (lines bytes)) reads refl (fault_expected (h o))) same

  module _ {n : ℕ} {text : List ℕ} (h : Sizes fields (values 1 fields (lines bytes)) (Ok n)) (line : text
      ≡ decimal n ++ 10 ∷ []) (o : Order) where
    -- its request was refused
    pub sizing_refused : {refuses_rest : R → ErrorKind → R → Type 0} {f : Fault} {output_after : W} → RefusedOutput O output (length text) f output_after
        → SizingFault I refuses_rest O o fields input output f input_after output_after
    sizing_refused {f = f} {output_after = output_after} refused =
        let known = size_line_of o fields reads h line in
        refused_line known.vs known.reads
        (subst (λ (l : List ℕ). RefusedOutput O output (length l) f output_after) known.line refused)

    -- it was written, and the flush behind it refused
    pub sizing_unflushed : {refuses_rest : R → ErrorKind → R → Type 0} {f : Fault} {filled output_after : W} → Appends (O.contents output) (O.contents filled) text
        → RefusedOutput O filled 0 f output_after → SizingFault I refuses_rest O o fields input output f input_after output_after
    sizing_unflushed {filled = filled} writes refused =
        let known = size_line_of o fields reads h line in
        unflushed_line known.vs known.reads (record {
          filled = filled;
          writes = subst (Appends (O.contents output) (O.contents filled)) known.line writes;
          refused = refused;
        })

    -- it was written and flushed
    pub sized : {filled output_after : W} → Appends (O.contents output) (O.contents filled) text
        → Flushed O filled output_after → SizedInput I O o fields input output input_after output_after
    sized {filled = filled} writes flushed =
        let known = size_line_of o fields reads h line in
        record {
          vs = known.vs;
          reads = known.reads;
          filled = filled;
          writes = subst (Appends (O.contents output) (O.contents filled)) known.line writes;
          flushed = flushed;
        }

-- the request for a fault's line was served or refused
pub reported : {X : Type 0} (T : OutputStream X) (f : Fault) (before after : X) (line : List ℕ)
    (r : Result (Unit {0}) Error) → line ≡ fault_line f
    → OnOk r (Appends (T.contents before) (T.contents after) line)
    → IfErr r (λ e. T.refuses before (length line) (error_kind e) after) → Reports T f before after
reported T f before after line (Ok done) is printed refused = inl (rw is at printed)
reported T f before after line (Err e) is printed refused =
    inr (record { kind = error_kind e; refused = rw is at refused })

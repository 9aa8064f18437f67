-- The effect of a run of the program on its streams.
use Rattle.std.specs.Prelude.{◌≡◌, ◌⊎◌, ℕ, List, [], ◌∷◌, ◌++◌, length, Option, Some, None, Result, Ok, Err}
use Rattle.std.specs.Fmt.{decimal}
use Rattle.std.specs.Io.KnownBytes.{Appends}
use Rattle.std.specs.declared.io.ErrorKind.{ErrorKind}
use Rattle.bitstream_io.specs.Word.{Order}
use Rattle.bitstream_io.specs.Refusal.{MayRefuseWrite}
use Rattle.bitstream_io.specs.Streams.{InputStream, OutputStream}
use Rattle.bitfields_core.specs.declared.fault.Reason.TheVariants.{BadArguments, OutOfMemory}
use Rattle.bitfields_core.specs.declared.fault.Fault.{Fault}
use Rattle.bitfields_core.specs.declared.field.Field.{Field}
use Rattle.bitfields_core.specs.declared.field_value.FieldValue.{FieldValue}
use Rattle.bitfields_core.specs.declared.running.Command.{Command}
use Rattle.bitfields_core.specs.declared.running.Command.TheVariants.{Pack, Unpack, Size, Repack}
use Rattle.bitfields_core.specs.Call.{Request}
use Rattle.bitfields_core.specs.Fault.{fault, fault_line}
use Rattle.bitfields_core.specs.Layout.{IsUnlessMemory, layout_of}
use Rattle.bitfields_core.specs.Packing.{PackedBytes, PackingRefused}
use Rattle.bitfields_core.specs.Repacking.{RepackedBytes, RepackingFault}
use Rattle.bitfields_core.specs.Size.{size_of}
use Rattle.bitfields_core.specs.Streams.{ReadToEnd, RefusedInput, RefusedOutput, Flushed}
use Rattle.bitfields_core.specs.Unpacking.{UnpackedBytes, UnpacksBytes}
use Rattle.bitfields_core.specs.Value.{lines, values}

-- ---- packing

-- the input was read to its end, and its lines spell these values for the fields
pub record SpelledInput (fields : List Field) (input : Option (List ℕ)) (spelt : Result (List FieldValue) Fault)
    (input_after : Option (List ℕ)) : Type 0 where
  pub bytes : List ℕ
  pub reads : ReadToEnd input bytes input_after
  pub spells : values 1 fields (lines bytes) ≡ spelt

-- the values that the input's lines spell were packed, and the output was flushed after their bytes
pub record PackedInput {R W : Type 0} (I : InputStream R) (O : OutputStream W) (o : Order)
    (fields : List Field) (input : R) (output : W) (input_after : R) (output_after : W) : Type 0 where
  pub vs : List FieldValue
  pub reads : SpelledInput fields (I.remaining input) (Ok vs) (I.remaining input_after)
  pub filled : W
  pub packs : PackedBytes o fields vs (O.contents output) (O.contents filled)
  pub flushed : Flushed O filled output_after

-- the values that the input's lines spell were packed, and the flush after their bytes was refused
pub record UnflushedBytes {W : Type 0} (O : OutputStream W) (o : Order) (fields : List Field)
    (vs : List FieldValue) (output : W) (f : Fault) (output_after : W) : Type 0 where
  pub filled : W
  pub packs : PackedBytes o fields vs (O.contents output) (O.contents filled)
  pub refused : RefusedOutput O filled 0 f output_after

-- The reasons that an input was not packed: it refused to be read, its lines have a fault, or memory was
-- refused, and then the output is unchanged. Else all lines had been read, and the output refused a request for
-- the packed bytes, or the flush after them.
pub data PackingFault {R W : Type 0} (I : InputStream R) (refuses_rest : R → ErrorKind → R → Type 0)
    (O : OutputStream W) (o : Order) (fields : List Field) (input : R) (output : W) (f : Fault) (input_after : R)
    (output_after : W) : Type 0 where
  refused_input : RefusedInput refuses_rest input f input_after → output_after ≡ output
      → PackingFault I refuses_rest O o fields input output f input_after output_after
  misspelt_input : SpelledInput fields (I.remaining input) (Err f) (I.remaining input_after) → output_after ≡ output
      → PackingFault I refuses_rest O o fields input output f input_after output_after
  refused_memory : (bytes : List ℕ) → ReadToEnd (I.remaining input) bytes (I.remaining input_after) → f
      ≡ fault 0 OutOfMemory → output_after ≡ output → PackingFault I refuses_rest O o fields input output f input_after output_after
  refused_bytes : (vs : List FieldValue) → SpelledInput fields (I.remaining input) (Ok vs) (I.remaining input_after)
      → PackingRefused (MayRefuseWrite O) o fields vs (O.contents output) f (O.contents output_after)
      → PackingFault I refuses_rest O o fields input output f input_after output_after
  unflushed_bytes : (vs : List FieldValue) → SpelledInput fields (I.remaining input) (Ok vs) (I.remaining input_after)
      → UnflushedBytes O o fields vs output f output_after
      → PackingFault I refuses_rest O o fields input output f input_after output_after

-- packing an input
abbrev pub PacksInput : {R W : Type 0} → InputStream R → (R → ErrorKind → R → Type 0) → OutputStream W → Order
    → List Field → R → W → Result (Unit {0}) Fault → R → W → Type 0
PacksInput I refuses_rest O o fields input output (Ok done) input_after output_after =
    PackedInput I O o fields input output input_after output_after
PacksInput I refuses_rest O o fields input output (Err f) input_after output_after =
    PackingFault I refuses_rest O o fields input output f input_after output_after

-- ---- unpacking

-- the input's bits were unpacked, the lines of their values written, and the output was flushed after them
pub record UnpackedInput {R W : Type 0} (I : InputStream R) (O : OutputStream W) (o : Order)
    (fields : List Field) (input : R) (output : W) (input_after : R) (output_after : W) : Type 0 where
  pub text : List ℕ
  pub unpacks : UnpackedBytes o fields (I.remaining input) text (I.remaining input_after)
  pub filled : W
  pub writes : Appends (O.contents output) (O.contents filled) text
  pub flushed : Flushed O filled output_after

-- the lines were written, and the flush after them was refused
pub record UnflushedLines {W : Type 0} (O : OutputStream W) (output : W) (text : List ℕ) (f : Fault)
    (output_after : W) : Type 0 where
  pub filled : W
  pub writes : Appends (O.contents output) (O.contents filled) text
  pub refused : RefusedOutput O filled 0 f output_after

-- The reasons that an input was not unpacked: its bits have a fault, or it refused a request, or memory was
-- refused, at a field, and then the output is unchanged. Else all fields had been read, and the output refused
-- the one request for all lines, or the flush after them.
pub data UnpackingFault {R W : Type 0} (I : InputStream R) (O : OutputStream W) (o : Order)
    (fields : List Field) (input : R) (output : W) (f : Fault) (input_after : R) (output_after : W) : Type 0 where
  stopped_input : UnpacksBytes I o fields input (Err f) input_after
      → output_after ≡ output → UnpackingFault I O o fields input output f input_after output_after
  refused_lines : (text : List ℕ) → UnpackedBytes o fields (I.remaining input) text (I.remaining input_after)
      → RefusedOutput O output (length text) f output_after
      → UnpackingFault I O o fields input output f input_after output_after
  unflushed_lines : (text : List ℕ) → UnpackedBytes o fields (I.remaining input) text (I.remaining input_after)
      → UnflushedLines O output text f output_after → UnpackingFault I O o fields input output f input_after
      output_after

-- unpacking an input
abbrev pub UnpacksInput : {R W : Type 0} → InputStream R → OutputStream W → Order → List Field → R → W
    → Result (Unit {0}) Fault → R → W → Type 0
UnpacksInput I O o fields input output (Ok done) input_after output_after =
    UnpackedInput I O o fields input output input_after output_after
UnpacksInput I O o fields input output (Err f) input_after output_after =
    UnpackingFault I O o fields input output f input_after output_after

-- ---- repacking

-- the input was repacked, and the output was flushed after the bytes
pub record RepackedInput {R W : Type 0} (I : InputStream R) (O : OutputStream W) (o : Order) (fields : List Field)
    (input : R) (output : W) (input_after : R) (output_after : W) : Type 0 where
  pub filled : W
  pub repacks : RepackedBytes I O o fields input output input_after filled
  pub flushed : Flushed O filled output_after

-- The reasons that an input was not repacked, or the flush after the bytes was refused.
pub data RepackedFault {R W : Type 0} (I : InputStream R) (O : OutputStream W) (o : Order) (fields : List Field)
    (input : R) (output : W) (f : Fault) (input_after : R) (output_after : W) : Type 0 where
  not_repacked :
      RepackingFault I O o fields input output f input_after output_after → RepackedFault I O o fields input output f input_after output_after
  unflushed : (filled : W) → RepackedBytes I O o fields input output input_after filled
      → RefusedOutput O filled 0 f output_after → RepackedFault I O o fields input output f input_after output_after

-- repacking an input
abbrev pub RepacksInput : {R W : Type 0} → InputStream R → OutputStream W → Order → List Field → R → W
    → Result (Unit {0}) Fault → R → W → Type 0
RepacksInput I O o fields input output (Ok done) input_after output_after =
    RepackedInput I O o fields input output input_after output_after
RepacksInput I O o fields input output (Err f) input_after output_after =
    RepackedFault I O o fields input output f input_after output_after

-- ---- sizes

-- the line of the values' size
abbrev pub size_line : Order → List Field → List FieldValue → List ℕ
size_line o fields vs = decimal (size_of o fields vs) ++ 10 ∷ []

-- the line of the size of the values that the input's lines spell was written, and the output was flushed after
-- it
pub record SizedInput {R W : Type 0} (I : InputStream R) (O : OutputStream W) (o : Order)
    (fields : List Field) (input : R) (output : W) (input_after : R) (output_after : W) : Type 0 where
  pub vs : List FieldValue
  pub reads : SpelledInput fields (I.remaining input) (Ok vs) (I.remaining input_after)
  pub filled : W
  pub writes : Appends (O.contents output) (O.contents filled) (size_line o fields vs)
  pub flushed : Flushed O filled output_after

-- The reasons that an input's values are not known: it refused to be read, its lines have a fault, or memory
-- was refused after its end.
abbrev pub ValuesFault : {R : Type 0} → InputStream R → (R → ErrorKind → R → Type 0) → List Field → R → Fault → R
    → Type 0
ValuesFault I refuses_rest fields input f input_after =
    RefusedInput refuses_rest input f input_after
    ⊎ SpelledInput fields (I.remaining input) (Err f) (I.remaining input_after)
    ⊎ ((bytes : List ℕ) × ReadToEnd (I.remaining input) bytes (I.remaining input_after) × (f ≡ fault 0 OutOfMemory))

-- The reasons that the size of an input's values was not written: the values are not known, or memory for the
-- line was refused, and then the output is unchanged. Else the output refused the one request for the line, or
-- the flush after it.
pub data SizingFault {R W : Type 0} (I : InputStream R) (refuses_rest : R → ErrorKind → R → Type 0)
    (O : OutputStream W) (o : Order) (fields : List Field) (input : R) (output : W) (f : Fault) (input_after : R)
    (output_after : W) : Type 0 where
  unknown_values : ValuesFault I refuses_rest fields input f input_after → output_after ≡ output
      → SizingFault I refuses_rest O o fields input output f input_after output_after
  refused_line : (vs : List FieldValue) → SpelledInput fields (I.remaining input) (Ok vs) (I.remaining input_after)
      → RefusedOutput O output (length (size_line o fields vs)) f output_after
      → SizingFault I refuses_rest O o fields input output f input_after output_after
  unflushed_line : (vs : List FieldValue) → SpelledInput fields (I.remaining input) (Ok vs) (I.remaining input_after)
      → UnflushedLines O output (size_line o fields vs) f output_after
      → SizingFault I refuses_rest O o fields input output f input_after output_after

-- writing the size of an input's values
abbrev pub SizesInput : {R W : Type 0} → InputStream R → (R → ErrorKind → R → Type 0) → OutputStream W → Order
    → List Field → R → W → Result (Unit {0}) Fault → R → W → Type 0
SizesInput I refuses_rest O o fields input output (Ok done) input_after output_after =
    SizedInput I O o fields input output input_after output_after
SizesInput I refuses_rest O o fields input output (Err f) input_after output_after =
    SizingFault I refuses_rest O o fields input output f input_after output_after

-- ---- a call

-- a command's work
abbrev pub Performs : {R W : Type 0} → InputStream R → (R → ErrorKind → R → Type 0) → OutputStream W → Command → Order
    → List Field → R → W → Result (Unit {0}) Fault → R → W → Type 0
Performs I refuses_rest O Pack = PacksInput I refuses_rest O
Performs I refuses_rest O Unpack = UnpacksInput I O
Performs I refuses_rest O Size = SizesInput I refuses_rest O
Performs I refuses_rest O Repack = RepacksInput I O

-- memory was refused before a stream was touched
abbrev pub IsMemoryRefused : {R W : Type 0} → R → W → Result (Unit {0}) Fault → R → W → Type 0
IsMemoryRefused input output result input_after output_after = (result ≡ Err (fault 0 OutOfMemory))
    × (input_after ≡ input) × (output_after ≡ output)

-- The fields of a layout are packed or unpacked. Or the layout has a fault, or memory was refused; that is
-- returned, and no stream is touched.
abbrev pub Follows : {R W : Type 0} → InputStream R → (R → ErrorKind → R → Type 0) → OutputStream W → Command → Order
    → Result (List Field) Fault → R → W → Result (Unit {0}) Fault → R → W → Type 0
Follows I refuses_rest O command o (Ok fields) input output result input_after output_after =
    IsMemoryRefused input output result input_after output_after
    ⊎ Performs I refuses_rest O command o fields input output result input_after output_after
Follows I refuses_rest O command o (Err f) input output result input_after output_after =
    IsUnlessMemory (Err f) result × (input_after ≡ input) × (output_after ≡ output)

-- the task is done; if there is none, the reason is returned, and no stream is touched
abbrev pub Calls : {R W : Type 0} → InputStream R → (R → ErrorKind → R → Type 0) → OutputStream W → Option Request → R
    → W → Result (Unit {0}) Fault → R → W → Type 0
Calls I refuses_rest O (Some request) input output result input_after output_after =
    Follows I refuses_rest O request.command request.order (layout_of request.layout) input output result input_after output_after
Calls I refuses_rest O None input output result input_after output_after =
    (result ≡ Err (fault 0 BadArguments)) × (input_after ≡ input) × (output_after ≡ output)

-- 0, or the status of a fault
abbrev pub status_of : Result (Unit {0}) Fault → ℕ
status_of (Ok done) = 0
status_of (Err f) = f.status

-- The one request for a fault's line was refused, as the stream for faults may refuse. The stream is as the refusal
-- left it.
pub record RefusedLine {X : Type 0} (T : OutputStream X) (f : Fault) (faults faults_after : X) : Type 0 where
  pub kind : ErrorKind
  pub refused : T.refuses faults (length (fault_line f)) kind faults_after

-- a fault's line was printed, or its request refused
abbrev pub Reports : {X : Type 0} → OutputStream X → Fault → X → X → Type 0
Reports T f faults faults_after = Appends (T.contents faults) (T.contents faults_after) (fault_line f)
    ⊎ RefusedLine T f faults faults_after

-- nothing is reported of a success
abbrev pub ReportsAny : {X : Type 0} → OutputStream X → Result (Unit {0}) Fault → X → X → Type 0
ReportsAny T (Ok done) faults faults_after = faults_after ≡ faults
ReportsAny T (Err f) faults faults_after = Reports T f faults faults_after

-- a call ends with the status of what became of it, which is reported
pub record Runs {R W X : Type 0} (I : InputStream R) (refuses_rest : R → ErrorKind → R → Type 0)
    (O : OutputStream W) (T : OutputStream X) (request : Option Request) (input : R) (output : W) (faults : X) (status : ℕ) (input_after : R) (output_after : W) (faults_after : X) :
    Type 0 where
  pub outcome : Result (Unit {0}) Fault
  pub calls : Calls I refuses_rest O request input output outcome input_after output_after
  pub reports : ReportsAny T outcome faults faults_after
  pub ends : status ≡ status_of outcome

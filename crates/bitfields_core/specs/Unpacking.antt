-- Unpacking: the values that bits hold for fields.
use Rattle.std.specs.Prelude.{◌≡◌, ◌⊎◌, ◌<◌, ◌≤◌, ◌*◌, ◌^◌, Result, Ok, Err, Option, Some, None, ℕ, ◌+◌, ◌==◌, if◌then◌else◌, Bool, true, false, List, [], ◌∷◌, ◌++◌, length, drop, map}
use Rattle.std.specs.Io.KnownBytes.{Consumes}
use Rattle.bitstream_io.specs.Word.{Order, bits}
use Rattle.bitstream_io.specs.Error.{Error}
use Rattle.bitstream_io.specs.Error.TheVariants as errors
use Rattle.bitstream_io.specs.Codec.{Decoder, Done, and_then, pure}
use Rattle.bitstream_io.specs.ReadTable.{unsigned_decoder, signed_decoder, unary_decoder, vbr_decoder, any_vbr_decoder, signed_vbr_decoder, bytes_decoder, skip_decoder, align_decoder}
use Rattle.bitstream_io.specs.Sequence.{read_sequence}
use Rattle.bitstream_io.specs.Fault.{read_refusal_of}
use Rattle.bitstream_io.specs.Refusal.{Refusal, IsTrueEnd, MayRefuseRead}
use Rattle.bitstream_io.specs.Streams.{InputStream}
use Rattle.bitstream_io.specs.Reads.{BitSource}
use Rattle.bitstream_io.specs.Own.{OwnAnswer, ReadsOwn}
use Rattle.bitfields_core.specs.declared.fault.Reason.{Reason}
use Rattle.bitfields_core.specs.declared.fault.Reason.TheVariants.{BitsEnded, ConstantDiffers, LimitPassed, StreamFault, OutOfMemory}
use Rattle.bitfields_core.specs.declared.fault.Fault.{Fault}
use Rattle.bitfields_core.specs.declared.field.Field.{Field}
use Rattle.bitfields_core.specs.declared.field.Field.TheVariants.{Unsigned, Signed, Unary, Variable, Lenient, SignedVariable, Bytes, Constant, Padding, Align}
use Rattle.bitfields_core.specs.declared.field_value.FieldValue.{FieldValue}
use Rattle.bitfields_core.specs.declared.field_value.FieldValue.TheVariants as Value
use Rattle.bitfields_core.specs.Fault.{fault}
use Rattle.bitfields_core.specs.Layout.{group_bits}
use Rattle.bitfields_core.specs.Value.{value_list, printed_lines}

-- the result of bits for fields: the values of the fields that have one, and the place after the last; or the
-- first fault
pub data Unpacked : Type 0 where
  Unpacks : (vs : List FieldValue) (at : ℕ) → Unpacked
  Stops : Fault → Unpacked

-- values before the values of the fields that follow
abbrev pub values_and : List FieldValue → Unpacked → Unpacked
values_and vs (Unpacks ws at) = Unpacks (vs ++ ws) at
values_and vs (Stops f) = Stops f

-- the reason for an error of a reader
abbrev pub read_reason : Error → Reason
read_reason errors.EndOfInput = BitsEnded
read_reason errors.OutOfMemory = OutOfMemory
read_reason errors.RunTooLong = LimitPassed
read_reason errors.VariableWidthOverflow = LimitPassed
read_reason errors.RedundantGroup = LimitPassed
read_reason error = StreamFault

-- an error of a reader, as the reason for it
abbrev pub IsReadReason : Error → Reason → Type 0
IsReadReason error why = why ≡ read_reason error

-- the read call of a field: the result is the field's value, if it has one, or the reason that its bits are
-- wrong
abbrev pub field_read : Order → Field → Decoder (Result (Option FieldValue) Reason)
field_read o (Unsigned n) = and_then (unsigned_decoder o 128 n) (λ v. pure (Ok (Some (Value.Unsigned v))))
field_read o (Signed n) = and_then (signed_decoder o 128 n) (λ x. pure (Ok (Some (Value.Signed x))))
field_read o (Unary stop) = and_then (unary_decoder stop) (λ v. pure (Ok (Some (Value.Unsigned v))))
field_read o (Variable size) = and_then (vbr_decoder o (group_bits size) 64 (2 ^ 64))
    (λ v. pure (Ok (Some (Value.Unsigned v))))
field_read o (Lenient size) = and_then (any_vbr_decoder o (group_bits size) 64 (2 ^ 64))
    (λ v. pure (Ok (Some (Value.Unsigned v))))
field_read o (SignedVariable size) = and_then (signed_vbr_decoder o (group_bits size) 64)
    (λ x. pure (Ok (Some (Value.Signed x))))
field_read o (Bytes n) = and_then (bytes_decoder o n) (λ bytes. pure (Ok (Some (Value.Bytes bytes))))
field_read o (Constant n v) = and_then (unsigned_decoder o 32 n)
    (λ u. pure (if u == v then Ok None else Err ConstantDiffers))
field_read o (Padding n) = and_then (skip_decoder n) (λ _. pure (Ok None))
field_read o Align = and_then align_decoder (λ _. pure (Ok None))

-- the number of bytes that are read for a field, as bytes
abbrev pub byte_count : Field → ℕ
byte_count (Bytes n) = n
byte_count field = 0

-- true if memory is allocated before a field is read
abbrev pub asks_memory : Field → Bool
asks_memory (Bytes n) = true
asks_memory field = false

-- the read call of each field, in an order of bits
abbrev pub FieldCalls : Type 0
FieldCalls = Order → Field → Decoder (Result (Option FieldValue) Reason)

-- the combined results of the fields' read calls; the fields are numbered from k on
abbrev pub unpack_answers : ℕ → List Field → ℕ → List (Result (Result (Option FieldValue) Reason) Error × ℕ) → Unpacked
unpack_answers k [] at answers = Unpacks [] at
unpack_answers k (field ∷ fields) at [] = Stops (fault k BitsEnded)
unpack_answers k (field ∷ fields) at ((Ok (Ok v), next) ∷ answers) =
    values_and (value_list v) (unpack_answers (k + 1) fields next answers)
unpack_answers k (field ∷ fields) at ((Ok (Err why), next) ∷ answers) = Stops (fault k why)
unpack_answers k (field ∷ fields) at ((Err e, next) ∷ answers) = Stops (fault k (read_reason e))

-- the result of the bits from a place on for fields, which are numbered from k on, by the fields' read calls
abbrev pub says_by : FieldCalls → Order → ℕ → List Field → ℕ → List Bool → Unpacked
says_by calls o k fields at bits = unpack_answers k fields at (read_sequence (map (calls o) fields) at bits)

-- the result of the bits from a place on for fields, which are numbered from k on
abbrev pub unpack_bits : Order → ℕ → List Field → ℕ → List Bool → Unpacked
unpack_bits o k fields at bits = says_by field_read o k fields at bits

-- ---- from a reader

-- values before the values that were read after them, or the fault
abbrev pub behind : List FieldValue → Result (List FieldValue) Fault → Result (List FieldValue) Fault
behind vs (Ok ws) = Ok (vs ++ ws)
behind vs (Err f) = Err f

-- the read call of a field, which returns the field's value, if it has one, or the reason for an error
abbrev pub ReadsField : {R : Type 0} → FieldCalls → BitSource R → Field → R → Result (Option FieldValue) Reason → R
    → Type 0
ReadsField calls K field old result new = ReadsOwn K IsReadReason (calls K.order field) old result new

-- A field's value was read, and memory for it, or for its line, was refused.
pub record LineRefused {R : Type 0} (calls : FieldCalls) (K : BitSource R) (k : ℕ) (field : Field) (old : R)
    (result : Result (List FieldValue) Fault) (new : R) : Type 0 where
  pub value : FieldValue
  pub reads : ReadsField calls K field old (Ok (Some value)) new
  pub answer : result ≡ Err (fault k OutOfMemory)

-- Memory for a field's bytes was refused before they were read. The reader is unchanged.
pub record BufferRefused {R : Type 0} (k : ℕ) (field : Field) (old : R) (result : Result (List FieldValue) Fault)
    (new : R) : Type 0 where
  pub asks : asks_memory field ≡ true
  pub same : new ≡ old
  pub answer : result ≡ Err (fault k OutOfMemory)

-- memory was refused for a field's value or line, or for its bytes
abbrev pub MemoryRefused : {R : Type 0} → FieldCalls → BitSource R → ℕ → Field → R → Result (List FieldValue) Fault → R
    → Type 0
MemoryRefused calls K k field old result new =
    LineRefused calls K k field old result new ⊎ BufferRefused k field old result new

-- a field's read call returns this reason, or an error for which it is the reason
abbrev pub TellsReason : Result (Result (Option FieldValue) Reason) Error → Reason → Type 0
TellsReason answer why = OwnAnswer IsReadReason (λ a. a) answer (Err why)

-- a field's read call returned a reason
pub record AnswersReason {R : Type 0} (calls : FieldCalls) (K : BitSource R) (k : ℕ) (field : Field) (old : R)
    (result : Result (List FieldValue) Fault) (new : R) : Type 0 where
  pub why : Reason
  pub reads : ReadsField calls K field old (Err why) new
  pub answer : result ≡ Err (fault k why)

-- The read calls of fields, which are numbered from k on, in order: the values that they return, up to the
-- first that returns a reason or for which memory was refused. For no fields, nothing changes.
unfoldable pub ReadsFields : {R : Type 0} → FieldCalls → BitSource R → ℕ → List Field → R
    → Result (List FieldValue) Fault → R → Type 0
ReadsFields calls K k [] old result new = (result ≡ Ok []) × (new ≡ old)
ReadsFields {R} calls K k (field ∷ fields) old result new =
    MemoryRefused calls K k field old result new ⊎ AnswersReason calls K k field old result new
    ⊎ ((v : Option FieldValue) × (mid : R) × (rest : Result (List FieldValue) Fault)
    × ReadsField calls K field old (Ok v) mid × ReadsFields calls K (k + 1) fields mid rest new
    × (result ≡ behind (value_list v) rest))

-- the lines of values, or the fault
abbrev pub in_lines : Result (List FieldValue) Fault → Result (List ℕ) Fault
in_lines (Ok vs) = Ok (printed_lines vs)
in_lines (Err f) = Err f

-- the read calls of fields, and the lines of their values
pub record ReadsLines {R : Type 0} (K : BitSource R) (fields : List Field) (old : R)
    (result : Result (List ℕ) Fault) (new : R) : Type 0 where
  pub answer : Result (List FieldValue) Fault
  pub reads : ReadsFields field_read K 1 fields old answer new
  pub prints : result ≡ in_lines answer

-- ---- from a stream

-- these bytes were taken from a stream, and a number of bits reaches into the last one
pub record TakesLeastBytes (known : Option (List ℕ)) (gone : List ℕ) (len : ℕ) (after : Option (List ℕ)) : Type 0 where
  pub loses : Consumes known after gone
  pub least : (8 * length gone < len + 8) × (len ≤ 8 * length gone)

-- A stream lost the bytes into which the fields' bits reach; these decide the values, whatever follows them.
pub record SaidValues (calls : FieldCalls) (o : Order) (fields : List Field) (old : Option (List ℕ))
    (values : List FieldValue) (new : Option (List ℕ)) : Type 0 where
  pub gone : List ℕ
  pub len : ℕ
  pub taken : TakesLeastBytes old gone len new
  pub says : (more : List Bool) → says_by calls o 1 fields 0 (bits o gone ++ more) ≡ Unpacks values len

-- A stream lost the bytes into which the fields' bits reach; these decide the values whose lines are printed,
-- whatever follows them.
pub record UnpackedBytes (o : Order) (fields : List Field) (old : Option (List ℕ)) (text : List ℕ)
    (new : Option (List ℕ)) : Type 0 where
  pub gone : List ℕ
  pub len : ℕ
  pub taken : TakesLeastBytes old gone len new
  pub values : List FieldValue
  pub says : (more : List Bool) → unpack_bits o 1 fields 0 (bits o gone ++ more) ≡ Unpacks values len
  pub prints : text ≡ printed_lines values

-- The bytes taken decide the fault. They hold only the bits of the fields before, and the bits that the read
-- call of its own field takes to find its reason.
pub record ToldBytes (calls : FieldCalls) (o : Order) (fields : List Field) (old : Option (List ℕ)) (f : Fault)
    (new : Option (List ℕ)) : Type 0 where
  pub prefix : List Field
  pub here : Field
  pub back : List Field
  pub parts : fields ≡ prefix ++ here ∷ back
  pub why : Reason
  pub reason : f ≡ fault (1 + length prefix) why
  pub gone : List ℕ
  pub values : List FieldValue
  pub at : ℕ
  pub before : says_by calls o 1 prefix 0 (bits o gone) ≡ Unpacks values at
  pub len : ℕ
  pub answer : Result (Result (Option FieldValue) Reason) Error
  pub found : (calls o here).reads at (drop at (bits o gone)) ≡ Done len answer
  pub tells : TellsReason answer why
  pub taken : TakesLeastBytes old gone (at + len) new
  pub says : (more : List Bool) → says_by calls o 1 fields 0 (bits o gone ++ more) ≡ Stops f

-- Memory for the value of a field, or for its line, was refused. The bytes taken hold only that field's bits
-- and the bits of the fields before it.
pub record LineRefusedBytes (calls : FieldCalls) (o : Order) (fields : List Field) (old : Option (List ℕ)) (f : Fault)
    (new : Option (List ℕ)) : Type 0 where
  pub prefix : List Field
  pub here : Field
  pub back : List Field
  pub parts : fields ≡ prefix ++ here ∷ back
  pub reason : f ≡ fault (1 + length prefix) OutOfMemory
  pub gone : List ℕ
  pub len : ℕ
  pub taken : TakesLeastBytes old gone len new
  pub values : List FieldValue
  pub at : ℕ
  pub before : says_by calls o 1 prefix 0 (bits o gone) ≡ Unpacks values at
  pub value : FieldValue
  pub says : says_by calls o 1 (prefix ++ here ∷ []) 0 (bits o gone) ≡ Unpacks (values ++ value ∷ []) len

-- Memory for the bytes of a field was refused. The bytes taken hold only the bits of the fields before it.
pub record BufferRefusedBytes (calls : FieldCalls) (o : Order) (fields : List Field) (old : Option (List ℕ)) (f : Fault)
    (new : Option (List ℕ)) : Type 0 where
  pub prefix : List Field
  pub here : Field
  pub back : List Field
  pub parts : fields ≡ prefix ++ here ∷ back
  pub asks : asks_memory here ≡ true
  pub reason : f ≡ fault (1 + length prefix) OutOfMemory
  pub gone : List ℕ
  pub len : ℕ
  pub taken : TakesLeastBytes old gone len new
  pub values : List FieldValue
  pub before : says_by calls o 1 prefix 0 (bits o gone) ≡ Unpacks values len

-- memory was refused for the value or the line of a field, or for its bytes
abbrev pub MemoryRefusedBytes : FieldCalls → Order → List Field → Option (List ℕ) → Fault → Option (List ℕ) → Type 0
MemoryRefusedBytes calls o fields old f new =
    LineRefusedBytes calls o fields old f new ⊎ BufferRefusedBytes calls o fields old f new

-- The stream refused a request for a field, as it may refuse. The bytes taken before end within that field, and the
-- stream is as the refusal left it. If that was a true end, all bytes of the stream end within that field.
pub record UnpackingRefused (calls : FieldCalls) (may : Refusal → Type 0) (o : Order) (fields : List Field)
    (old : Option (List ℕ)) (f : Fault) (new : Option (List ℕ)) : Type 0 where
  pub field : ℕ
  pub refusal : Refusal
  pub allowed : may refusal
  pub reason : f ≡ fault field (read_reason (read_refusal_of refusal.kind))
  pub gone : List ℕ
  pub loses : Consumes old refusal.before gone
  pub after : new ≡ refusal.after
  pub stops : says_by calls o 1 fields 0 (bits o gone) ≡ Stops (fault field BitsEnded)
  pub ended : IsTrueEnd refusal → (xs : List ℕ) → old ≡ Some xs → says_by calls o 1 fields 0 (bits o xs) ≡ Stops f

-- the reasons that fields are not read from a stream's bytes: the bytes are wrong, or memory or a request was
-- refused
abbrev pub FieldsFault : FieldCalls → (Refusal → Type 0) → Order → List Field → Option (List ℕ) → Fault
    → Option (List ℕ) → Type 0
FieldsFault calls may o fields old f new =
    ToldBytes calls o fields old f new ⊎ MemoryRefusedBytes calls o fields old f new
    ⊎ UnpackingRefused calls may o fields old f new

-- fields, read from a stream's bytes: the lines of their values, or the fault
abbrev pub UnpacksBytes : {R : Type 0} → InputStream R → Order → List Field → R → Result (List ℕ) Fault → R → Type 0
UnpacksBytes I o fields old (Ok text) new = UnpackedBytes o fields (I.remaining old) text (I.remaining new)
UnpacksBytes I o fields old (Err f) new =
    FieldsFault field_read (MayRefuseRead I) o fields (I.remaining old) f (I.remaining new)

-- all bytes of a stream decode to the values whose lines are printed
pub record SaidBytes (o : Order) (fields : List Field) (xs text : List ℕ) : Type 0 where
  pub values : List FieldValue
  pub len : ℕ
  pub says : unpack_bits o 1 fields 0 (bits o xs) ≡ Unpacks values len
  pub prints : text ≡ printed_lines values

-- the lines or the fault of all bytes of a stream, refused memory aside
abbrev pub IsSaid : Order → List Field → List ℕ → Result (List ℕ) Fault → Type 0
IsSaid o fields xs (Ok text) = SaidBytes o fields xs text
IsSaid o fields xs (Err f) = (f.reason ≡ OutOfMemory) ⊎ (unpack_bits o 1 fields 0 (bits o xs) ≡ Stops f)

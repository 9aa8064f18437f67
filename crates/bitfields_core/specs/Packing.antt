-- Packing: the words of fields, and a last alignment.
use Rattle.std.specs.Prelude.{◌≡◌, ◌⊎◌, ◌≤◌, Result, Ok, Err, ℕ, Bool, false, replicate, List, [], ◌∷◌, ◌++◌, length, drop, Option}
use Rattle.std.specs.Io.KnownBytes.{Appends}
use Rattle.bitstream_io.specs.Alignment.{to_boundary}
use Rattle.bitstream_io.specs.Unary.{unary}
use Rattle.bitstream_io.specs.Vbr.{vbr_word}
use Rattle.bitstream_io.specs.Word.{Order, bits, word, signed_word, zig}
use Rattle.bitstream_io.specs.Error.{Error}
use Rattle.bitstream_io.specs.Error.TheVariants as errors
use Rattle.bitstream_io.specs.Codec.{Encoder}
use Rattle.bitstream_io.specs.Fault.{refusal_of}
use Rattle.bitstream_io.specs.Refusal.{Refusal, MayRefuseWrite}
use Rattle.bitstream_io.specs.Streams.{OutputStream}
use Rattle.bitstream_io.specs.Sequence.{write_sequence}
use Rattle.bitstream_io.specs.Sink.{Sink, Appended, WriteRefused}
use Rattle.bitstream_io.specs.WriteTable.{unsigned, signed, unary_word, vbr, signed_vbr, buffer, zeros, align}
use Rattle.bitfields_core.specs.declared.fault.Reason.{Reason}
use Rattle.bitfields_core.specs.declared.fault.Reason.TheVariants.{OutOfMemory, StreamFault}
use Rattle.bitfields_core.specs.declared.fault.Fault.{Fault}
use Rattle.bitfields_core.specs.declared.field.Field.{Field}
use Rattle.bitfields_core.specs.declared.field.Field.TheVariants.{Unsigned, Signed, Unary, Variable, Lenient, SignedVariable, Bytes, Constant, Padding, Align}
use Rattle.bitfields_core.specs.declared.field_value.FieldValue.{FieldValue}
use Rattle.bitfields_core.specs.Fault.{fault}
use Rattle.bitfields_core.specs.Layout.{group_bits}
use Rattle.bitfields_core.specs.Value.{value_count, first_unsigned, first_signed, first_bytes}

-- the write call of a field whose value is the first of these
abbrev pub field_write : Order → Field → List FieldValue → Encoder
field_write o (Unsigned n) vs = unsigned o 128 n (first_unsigned vs)
field_write o (Signed n) vs = signed o 128 n (first_signed vs)
field_write o (Unary stop) vs = unary_word stop (first_unsigned vs)
field_write o (Variable size) vs = vbr o (group_bits size) (first_unsigned vs)
field_write o (Lenient size) vs = vbr o (group_bits size) (first_unsigned vs)
field_write o (SignedVariable size) vs = signed_vbr o (group_bits size) (first_signed vs)
field_write o (Bytes n) vs = buffer o (first_bytes vs)
field_write o (Constant n v) vs = unsigned o 32 n v
field_write o (Padding n) vs = zeros n
field_write o Align vs = align

-- the word of a field whose value is the first of these, after this many bits
abbrev pub field_word : Order → Field → List FieldValue → ℕ → List Bool
field_word o (Unsigned n) vs at = word o n (first_unsigned vs)
field_word o (Signed n) vs at = signed_word o n (first_signed vs)
field_word o (Unary stop) vs at = unary stop (first_unsigned vs)
field_word o (Variable size) vs at = vbr_word o (group_bits size) (first_unsigned vs)
field_word o (Lenient size) vs at = vbr_word o (group_bits size) (first_unsigned vs)
field_word o (SignedVariable size) vs at = vbr_word o (group_bits size) (zig (first_signed vs))
field_word o (Bytes n) vs at = bits o (first_bytes vs)
field_word o (Constant n v) vs at = word o n v
field_word o (Padding n) vs at = replicate n false
field_word o Align vs at = replicate (to_boundary at) false

-- the write calls of fields with these values
abbrev pub field_writes : Order → List Field → List FieldValue → List Encoder
field_writes o [] vs = []
field_writes o (field ∷ fields) vs = field_write o field vs ∷ field_writes o fields (drop (value_count field) vs)

-- the bits that the write calls of the fields append from a place on, and a last alignment
abbrev pub packed_bits : Order → List Field → List FieldValue → ℕ → List Bool
packed_bits o fields vs at = write_sequence (field_writes o fields vs ++ align ∷ []) at

-- ---- to a sink and to a stream

-- the reason for an error of a writer
abbrev pub write_reason : Error → Reason
write_reason errors.OutOfMemory = OutOfMemory
write_reason error = StreamFault

-- these bits were written, or a request was refused and the sink has failed
abbrev pub WritesBits : {S : Type 0} → Sink S → List Bool → S → Result (Unit {0}) Error → S → Type 0
WritesBits K x old (Ok done) new = Appended K old x new
WritesBits K x old (Err error) new = WriteRefused K old x error new

-- a stream took the bytes whose bits are the packed values
pub record PackedBytes (o : Order) (fields : List Field) (vs : List FieldValue) (old new : Option (List ℕ)) :
    Type 0 where
  pub bytes : List ℕ
  pub grows : Appends old new bytes
  pub says : bits o bytes ≡ packed_bits o fields vs 0

-- The stream refused a request to send bytes, as it may refuse, and there were bytes to send. The bytes that it took
-- before are the first of them, and it is as the refusal left it.
pub record PackingRefused (may : Refusal → Type 0) (o : Order) (fields : List Field) (vs : List FieldValue)
    (old : Option (List ℕ)) (f : Fault) (new : Option (List ℕ)) : Type 0 where
  pub refusal : Refusal
  pub allowed : may refusal
  pub reason : f ≡ fault 0 (write_reason (refusal_of refusal.kind))
  pub some : 8 ≤ length (packed_bits o fields vs 0)
  pub bytes : List ℕ
  pub grows : Appends old refusal.before bytes
  pub rest : List Bool
  pub begins : packed_bits o fields vs 0 ≡ bits o bytes ++ rest
  pub after : new ≡ refusal.after

-- values were packed, or the stream refused a request
abbrev pub PacksValues : {W : Type 0} → OutputStream W → Order → List Field → List FieldValue → W
    → Result (Unit {0}) Fault → W → Type 0
PacksValues O o fields vs old (Ok done) new = PackedBytes o fields vs (O.contents old) (O.contents new)
PacksValues O o fields vs old (Err f) new =
    PackingRefused (MayRefuseWrite O) o fields vs (O.contents old) f (O.contents new)

-- The values were packed, or the first fault of the input was returned and the stream is unchanged. Else memory
-- was refused and the stream is unchanged, or the stream refused a request.
abbrev pub Packs : {W : Type 0} → OutputStream W → Order → List Field → Result (List FieldValue) Fault → W → Result (Unit {0}) Fault → W → Type 0
Packs O o fields (Ok vs) old (Ok done) new = PackedBytes o fields vs (O.contents old) (O.contents new)
Packs O o fields (Ok vs) old (Err f) new = ((f ≡ fault 0 OutOfMemory) × (new ≡ old))
    ⊎ PackingRefused (MayRefuseWrite O) o fields vs (O.contents old) f (O.contents new)
Packs O o fields (Err f) old (Ok done) new = ⊥
Packs O o fields (Err f) old (Err g) new = (new ≡ old) × ((g ≡ f) ⊎ (g ≡ fault 0 OutOfMemory))

-- Repacking: packed bytes, read and packed again.
use Rattle.std.specs.Prelude.{◌≡◌, ◌≢◌, ◌⊎◌, ◌<◌, ◌*◌, ◌+◌, ◌==◌, All, Bool, true, false, if◌then◌else◌, ℕ, List, [], ◌∷◌, ◌++◌, length, Option, None, Result, Ok, Err}
use Rattle.std.specs.Io.KnownBytes.{Consumes}
use Rattle.std.specs.declared.io.ErrorKind.{ErrorKind}
use Rattle.std.specs.declared.io.ErrorKind.TheVariants.{UnexpectedEof}
use Rattle.bitstream_io.specs.Alignment.{to_boundary}
use Rattle.bitstream_io.specs.Codec.{Decoder, call, and_then, pure, consume, word_prefix}
use Rattle.bitstream_io.specs.Reads.{BitSource}
use Rattle.bitstream_io.specs.Refusal.{Refusal, MayRefuseRead, MayRefuseWrite}
use Rattle.bitstream_io.specs.Streams.{InputStream, OutputStream}
use Rattle.bitstream_io.specs.Word.{Order, bits}
use Rattle.bitfields_core.specs.declared.fault.Reason.{Reason}
use Rattle.bitfields_core.specs.declared.fault.Reason.TheVariants.{BytesLeftOver, OutOfMemory, PaddingNotZero, StreamFault}
use Rattle.bitfields_core.specs.declared.fault.Fault.{Fault}
use Rattle.bitfields_core.specs.declared.field.Field.{Field}
use Rattle.bitfields_core.specs.declared.field.Field.TheVariants.{Align, Lenient, Padding}
use Rattle.bitfields_core.specs.declared.field_value.FieldValue.{FieldValue}
use Rattle.bitfields_core.specs.Fault.{fault, refusal_reason}
use Rattle.bitfields_core.specs.Packing.{PackedBytes, PackingRefused}
use Rattle.bitfields_core.specs.Unpacking.{FieldCalls, Unpacked, Unpacks, Stops, field_read, says_by, FieldsFault, ReadsFields}

-- ---- the values of packed bits

-- true if all bits are 0
abbrev pub are_zeros : List Bool → Bool
are_zeros [] = true
are_zeros (b ∷ bits) = if b then false else are_zeros bits

-- n bits: whether all are 0
unfoldable pub zeros_decoder : ℕ → Decoder Bool
zeros_decoder n = consume n (λ w. Ok (are_zeros w))

-- the bits up to the next byte boundary: whether all are 0
unfoldable pub boundary_decoder : Decoder Bool
boundary_decoder = call (λ p bits. word_prefix (to_boundary p) (λ w. Ok (are_zeros w)) bits)

-- no value, or the fault that padding is not zero
abbrev pub if_zeros : Bool → Result (Option FieldValue) Reason
if_zeros zero = if zero then Ok None else Err PaddingNotZero

-- the read call of a field whose padding has to be zero
abbrev pub exact_read : FieldCalls
exact_read o (Padding n) = and_then (zeros_decoder n) (λ zero. pure (if_zeros zero))
exact_read o Align = and_then boundary_decoder (λ zero. pure (if_zeros zero))
exact_read o field = field_read o field

-- the fields, and the last alignment
abbrev pub with_alignment : List Field → List Field
with_alignment fields = fields ++ Align ∷ []

-- a fault of the last alignment, which follows n fields, names no field
abbrev pub without_field : ℕ → Fault → Fault
without_field n f = if f.field == n + 1 then fault 0 f.reason else f

-- the same for the result of bits
abbrev pub without_last_field : ℕ → Unpacked → Unpacked
without_last_field n (Unpacks vs at) = Unpacks vs at
without_last_field n (Stops f) = Stops (without_field n f)

-- the result of bits for packed fields and a last alignment: the values and the place after the alignment, or
-- the first fault
abbrev pub unpack_aligned : Order → List Field → List Bool → Unpacked
unpack_aligned o fields bits = without_last_field (length fields) (says_by exact_read o 1 (with_alignment fields) 0 bits)

-- each value of the field has one word
abbrev pub HasOneWord : Field → Type 0
HasOneWord (Lenient size) = ⊥
HasOneWord field = Unit {0}

-- ---- from a reader

-- the values that were read, or the fault without the number of the last alignment
abbrev pub unnamed_result : ℕ → Result (List FieldValue) Fault → Result (List FieldValue) Fault
unnamed_result n (Ok vs) = Ok vs
unnamed_result n (Err f) = Err (without_field n f)

-- the read calls of packed fields and of a last alignment, and the values that they return
pub record ReadsPacked {R : Type 0} (K : BitSource R) (fields : List Field) (old : R)
    (result : Result (List FieldValue) Fault) (new : R) : Type 0 where
  pub answer : Result (List FieldValue) Fault
  pub reads : ReadsFields exact_read K 1 (with_alignment fields) old answer new
  pub names : result ≡ unnamed_result (length fields) answer

-- ---- from a stream

-- A stream lost whole bytes. These decide the values, whatever follows them.
pub record ReadPacked (o : Order) (fields : List Field) (old : Option (List ℕ)) (vs : List FieldValue)
    (new : Option (List ℕ)) : Type 0 where
  pub gone : List ℕ
  pub loses : Consumes old new gone
  pub says : (more : List Bool) → unpack_aligned o fields (bits o gone ++ more) ≡ Unpacks vs (8 * length gone)

-- the reasons that packed fields are not read from a stream's bytes
abbrev pub PackedFault : (Refusal → Type 0) → Order → List Field → Option (List ℕ) → Fault → Option (List ℕ) → Type 0
PackedFault may o fields old f new = (g : Fault)
    × FieldsFault exact_read may o (with_alignment fields) old g new × (f ≡ without_field (length fields) g)

-- packed fields, read from a stream's bytes: the values, or the fault
abbrev pub ReadsPackedBytes : {R : Type 0} → InputStream R → Order → List Field → R → Result (List FieldValue) Fault → R → Type 0
ReadsPackedBytes I o fields old (Ok vs) new = ReadPacked o fields (I.remaining old) vs (I.remaining new)
ReadsPackedBytes I o fields old (Err f) new = PackedFault (MayRefuseRead I) o fields (I.remaining old) f (I.remaining new)

-- one byte more is there, or the request for it was refused, but not as an end
abbrev pub IsNoEnd : {R : Type 0} → InputStream R → R → Fault → R → Type 0
IsNoEnd I old f new =
    ((byte : ℕ) × Consumes (I.remaining old) (I.remaining new) (byte ∷ []) × (f ≡ fault 0 BytesLeftOver))
    ⊎ ((kind : ErrorKind) × I.refuses old 1 kind new × (kind ≢ UnexpectedEof) × (f ≡ fault 0 (refusal_reason kind)))

-- a stream was asked for one byte, and refused it as its end
abbrev pub Ends : {R : Type 0} → InputStream R → R → Result (Unit {0}) Fault → R → Type 0
Ends I old (Ok done) new = I.refuses old 1 UnexpectedEof new
Ends I old (Err f) new = IsNoEnd I old f new

-- the input ended after the packed bytes: it refused one byte more as its end
pub record ReadToLast {R : Type 0} (I : InputStream R) (o : Order) (fields : List Field) (input : R) (vs : List FieldValue) (input_after : R) : Type 0 where
  pub behind : R
  pub reads : ReadPacked o fields (I.remaining input) vs (I.remaining behind)
  pub ended : I.refuses behind 1 UnexpectedEof input_after

-- All bytes of the input were read and their values packed. If each value has one word, the bits of the packed
-- bytes are the bits that were read.
pub record RepackedBytes {R W : Type 0} (I : InputStream R) (O : OutputStream W) (o : Order) (fields : List Field) (input : R) (output : W) (input_after : R)
    (output_after : W) : Type 0 where
  pub vs : List FieldValue
  pub read : ReadToLast I o fields input vs input_after
  pub packs : PackedBytes o fields vs (O.contents output) (O.contents output_after)
  pub same : All HasOneWord fields → bits o packs.bytes ≡ bits o read.reads.gone

-- The reasons that an input was not repacked. Its bits have a fault, or it refused a request, or memory was
-- refused, at a field; or its padding after the last field is not zero. Or it has a byte more, or refused the
-- request for that byte, but not as its end. The output is unchanged then. Else all of it was read, and the
-- output refused a request.
pub data RepackingFault {R W : Type 0} (I : InputStream R) (O : OutputStream W) (o : Order) (fields : List Field)
    (input : R) (output : W) (f : Fault) (input_after : R) (output_after : W) : Type 0 where
  stopped_input : PackedFault (MayRefuseRead I) o fields (I.remaining input) f (I.remaining input_after)
      → output_after ≡ output
      → RepackingFault I O o fields input output f input_after output_after
  no_end : (vs : List FieldValue) (behind : R) → ReadPacked o fields (I.remaining input) vs (I.remaining behind)
      → IsNoEnd I behind f input_after → output_after ≡ output
      → RepackingFault I O o fields input output f input_after output_after
  refused_output : (vs : List FieldValue) → ReadToLast I o fields input vs input_after
      → PackingRefused (MayRefuseWrite O) o fields vs (O.contents output) f (O.contents output_after)
      → RepackingFault I O o fields input output f input_after output_after

-- repacking an input
abbrev pub Repacks : {R W : Type 0} → InputStream R → OutputStream W → Order → List Field → R → W
    → Result (Unit {0}) Fault → R → W → Type 0
Repacks I O o fields input output (Ok done) input_after output_after =
    RepackedBytes I O o fields input output input_after output_after
Repacks I O o fields input output (Err f) input_after output_after =
    RepackingFault I O o fields input output f input_after output_after

-- all bytes of a stream decode to values, and no byte is left over
abbrev pub AreRepacked : Order → List Field → List ℕ → Type 0
AreRepacked o fields xs = (vs : List FieldValue) × (unpack_aligned o fields (bits o xs) ≡ Unpacks vs (8 * length xs))

-- all bytes of a stream decode to the fault, or more bytes follow the ones of the values
abbrev pub AreNotRepacked : Order → List Field → List ℕ → Fault → Type 0
AreNotRepacked o fields xs f =
    (unpack_aligned o fields (bits o xs) ≡ Stops f)
    ⊎ ((f ≡ fault 0 BytesLeftOver) × (vs : List FieldValue) × (n : ℕ) × (n < 8 * length xs)
    × (unpack_aligned o fields (bits o xs) ≡ Unpacks vs n))

-- The bytes of a stream are repacked exactly if they decode to values and none is left over, refused memory and
-- the output's refusals aside.
abbrev pub IsRepacked : Order → List Field → List ℕ → Result (Unit {0}) Fault → Type 0
IsRepacked o fields xs (Ok done) = AreRepacked o fields xs
IsRepacked o fields xs (Err f) = ((f.reason ≡ OutOfMemory) ⊎ (f.reason ≡ StreamFault)) ⊎ AreNotRepacked o fields xs f

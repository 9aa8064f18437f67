-- Subframes of FLAC (RFC 9639, section 9.2): their decoder, the calls that write them, and what an encoder owes.
use Rattle.std.specs.Prelude.{◌≡◌, ◌⊎◌, ℕ, zero, suc, ℤ, ◌+◌, ◌-◌, ◌==◌, nat_lt, if◌then◌else◌, true, false, List, [], ◌∷◌, ◌++◌, length, map, replicate, Result, Ok, Err}
use Rattle.std.specs.Int.{int_shl, w64}
use Rattle.std.specs.List.{flat_map}
use Rattle.bitstream_io.specs.Callers.{Decoder, Encoder, ◌>>=◌, pure, stores, bit_decoder, unary_decoder, unsigned_decoder, signed_decoder, part_then, Error, Order, High, OutOfMemory, bits, Done, Sink, WritesAll, AllAccepted, bit, unary_word, unsigned, signed}
use Rattle.bitstream_io.specs.ReadBack.{IsReadAs}
use Rattle.flac_codec.specs.Predict.{fixed_weights, predicted, restored}
use Rattle.flac_codec.specs.Residual.{residual_decoder, samples_decoder}
use Rattle.flac_codec.specs.Rice.{rice_writes}
use Rattle.flac_codec.specs.declared.error.FlacError.{FlacError}
use Rattle.flac_codec.specs.declared.error.FlacError.TheVariants.{ReservedBit, ReservedSubframe, ReservedPrecision, NegativeShift, TooManyWastedBits}

-- ---- the decoder

-- one sample for all samples of the block
abbrev pub constant_decoder : Order → ℕ → ℕ → Decoder (Result (List ℤ) FlacError)
constant_decoder o width block_size = do
  sample ← signed_decoder o 64 width
  stores (Ok (replicate block_size sample))

-- a subframe of samples that are not coded
abbrev pub verbatim_decoder : Order → ℕ → ℕ → Decoder (Result (List ℤ) FlacError)
verbatim_decoder o width block_size = do
  samples ← samples_decoder o width block_size
  pure (Ok samples)

-- the first samples, and the residual of the others after a fixed prediction
abbrev pub fixed_decoder : Order → ℕ → ℕ → ℕ → Decoder (Result (List ℤ) FlacError)
fixed_decoder o width block_size order =
    samples_decoder o width order >>= (λ first.
    residual_decoder o block_size order >>= part_then (λ rest.
    stores (Ok (restored (predicted (fixed_weights order) 0) first rest))))

-- the first samples, the coefficients with their precision and shift, and the residual of the others after this linear
-- prediction
abbrev pub linear_decoder : Order → ℕ → ℕ → ℕ → Decoder (Result (List ℤ) FlacError)
linear_decoder o width block_size order =
    samples_decoder o width order >>= (λ first.
    unsigned_decoder o 32 4 >>= (λ precision.
    if precision == 15 then pure (Err ReservedPrecision)
    else bit_decoder >>= (λ negative.
    if negative then pure (Err NegativeShift)
    else unsigned_decoder o 32 4 >>= (λ shift.
    samples_decoder o (precision + 1) order >>= (λ coefficients.
    residual_decoder o block_size order >>= part_then (λ rest.
    stores (Ok (restored (predicted coefficients shift) first rest))))))))

-- a subframe of a type after its header
abbrev pub kind_decoder : Order → ℕ → ℕ → ℕ → Decoder (Result (List ℤ) FlacError)
kind_decoder o width block_size kind =
    if kind == 0 then constant_decoder o width block_size
    else if kind == 1 then verbatim_decoder o width block_size
    else if nat_lt kind 8 then pure (Err ReservedSubframe)
    else if nat_lt kind 13 then fixed_decoder o width block_size (kind - 8)
    else if nat_lt kind 32 then pure (Err ReservedSubframe)
    else linear_decoder o width block_size (kind - 31)

-- a sample, and then its wasted bits, which are 0
abbrev pub widened : ℕ → ℤ → ℤ
widened wasted sample = int_shl w64 sample wasted

-- a subframe of a type with wasted bits, of which all samples lack `wasted`
abbrev pub narrow_decoder : Order → ℕ → ℕ → ℕ → ℕ → Decoder (Result (List ℤ) FlacError)
narrow_decoder o width block_size kind wasted =
    kind_decoder o (width - wasted) block_size kind >>= part_then (λ samples. stores (Ok (map (widened wasted) samples)))

-- a subframe of a type after its header, whose number of wasted bits follows: fewer than the samples have, and than 64
abbrev pub wasted_decoder : Order → ℕ → ℕ → ℕ → Decoder (Result (List ℤ) FlacError)
wasted_decoder o width block_size kind = unary_decoder true >>= (λ more.
    if nat_lt more 63 then
    (if nat_lt (more + 1) width then narrow_decoder o width block_size kind (more + 1) else pure (Err TooManyWastedBits))
    else pure (Err TooManyWastedBits))

-- a subframe after its first bit: its type, and whether it has wasted bits
abbrev pub typed_decoder : Order → ℕ → ℕ → Decoder (Result (List ℤ) FlacError)
typed_decoder o width block_size = do
  kind ← unsigned_decoder o 32 6
  wasted ← bit_decoder
  if wasted then wasted_decoder o width block_size kind else kind_decoder o width block_size kind

-- a subframe of `block_size` samples of `width` bits
abbrev pub subframe_decoder : Order → ℕ → ℕ → Decoder (Result (List ℤ) FlacError)
subframe_decoder o width block_size = do
  reserved ← bit_decoder
  if reserved then pure (Err ReservedBit) else typed_decoder o width block_size

-- ---- the calls that write

-- a sample in `width` bits
abbrev pub sample_writes : Order → ℕ → ℤ → List Encoder
sample_writes o width sample = signed o 64 width sample ∷ []

-- samples, one after another
abbrev pub samples_writes : Order → ℕ → List ℤ → List Encoder
samples_writes o width samples = flat_map (sample_writes o width) samples

-- Rice numbers
abbrev pub numbers_writes : Order → ℕ → List ℤ → List Encoder
numbers_writes o parameter numbers = flat_map (rice_writes o parameter) numbers

-- the number of wasted bits
abbrev pub wasted_writes : ℕ → List Encoder
wasted_writes zero = bit false ∷ []
wasted_writes (suc more) = bit true ∷ unary_word true more ∷ []

-- the header of a subframe: its type, and the number of its wasted bits
abbrev pub head_writes : Order → ℕ → ℕ → List Encoder
head_writes o kind wasted = bit false ∷ unsigned o 32 6 kind ∷ wasted_writes wasted

-- the header of a subframe, and then its body
abbrev pub headed : Order → ℕ → ℕ → List Encoder → List Encoder
headed o kind wasted body = head_writes o kind wasted ++ body

-- a constant subframe
abbrev pub constant_writes : Order → ℕ → ℤ → List Encoder
constant_writes o width sample = headed o 0 0 (signed o 64 width sample ∷ [])

-- a verbatim subframe
abbrev pub verbatim_writes : Order → ℕ → ℕ → List ℤ → List Encoder
verbatim_writes o width wasted samples = headed o 1 wasted (samples_writes o width samples)

-- a partition: its parameter of `bits` bits, and Rice numbers
abbrev pub partition_writes : Order → ℕ → ℕ → List ℤ → List Encoder
partition_writes o bits parameter numbers = unsigned o 32 bits parameter ∷ numbers_writes o parameter numbers

-- the header of a residual: its coding, and the order of its partitions
abbrev pub residual_head : Order → ℕ → ℕ → List Encoder
residual_head o coding n = unsigned o 8 2 coding ∷ unsigned o 32 4 n ∷ []

-- a subframe with a fixed prediction, up to its residual: its first samples
abbrev pub fixed_head : Order → ℕ → ℕ → ℕ → List ℤ → List Encoder
fixed_head o width wasted order first = headed o (8 + order) wasted (samples_writes o width first)

-- the precision of weights and the shift of their sum
abbrev pub shift_writes : Order → ℕ → ℕ → List Encoder
shift_writes o precision shift = unsigned o 32 4 (precision - 1) ∷ bit false ∷ unsigned o 32 4 shift ∷ []

-- a subframe with a linear prediction, up to its residual: its first samples and its weights
abbrev pub linear_head : Order → ℕ → ℕ → List ℤ → ℕ → ℕ → List ℤ → List Encoder
linear_head o width wasted first precision shift weights =
    headed o (31 + length weights) wasted
    (samples_writes o width first ++ (shift_writes o precision shift ++ samples_writes o precision weights))

-- ---- what an encoder owes

-- Write calls were made in order, up to the first that failed. None of them has an error of its own. From their words the
-- decoder reads the value, wherever they are written and whatever follows them.
pub record WritesValue {S A E : Type 0} (K : Sink S) (decoder : Decoder (Result A E)) (value : A) (old : S)
    (result : Result (Unit {0}) Error) (new : S) : Type 0 where
  pub calls : List Encoder
  pub written : WritesAll K calls old result new
  pub accepted : (from : ℕ) → AllAccepted calls from
  pub read : IsReadAs calls decoder (Ok value)

-- the value was written so, or memory was refused before the first call
abbrev pub Encodes : {S A E : Type 0} → Sink S → Decoder (Result A E) → A → S → Result (Unit {0}) Error → S → Type 0
Encodes K decoder value old result new =
    WritesValue K decoder value old result new ⊎ ((result ≡ Err OutOfMemory) × (new ≡ old))

-- the decoder reads these samples at the start of the bytes: `count` samples of `width` bits
abbrev pub Decodes : List ℕ → ℕ → ℕ → List ℤ → Type 0
Decodes bytes width count samples =
    (n : ℕ) × ((subframe_decoder High width count).reads 0 (bits High bytes) ≡ Done n (Ok (Ok samples)))

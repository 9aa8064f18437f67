-- Calls that are packed into a buffer.
use Rattle.std.specs.Prelude.{◌≡◌, ℕ, ◌*◌, ◌<◌, ◌≤◌, List, [], ◌∷◌, ◌++◌, length, None, Result, Ok, Err, IfOk, IsOk, ⊤}
use Rattle.std.specs.Borrow.{GName}
use Rattle.std.specs.declared.io.ErrorKind.TheVariants.{WriteZero}
use Rattle.bitstream_number.specs.Word.{Order, bits}
use Rattle.bitstream_count.specs.Codec.{Encoder}
use Rattle.bitstream_count.specs.declared.error.Error.{Error}
use Rattle.bitstream_count.specs.declared.error.Error.TheVariants.{Stream}
use Rattle.bitstream_order.specs.Streaming.SliceMut.{HoldsFirst, written_bytes}
use Rattle.bitstream_order.specs.Streams.{OutputStream}
use Rattle.bitstream_order.specs.declared.streams.slice_mut.SliceMut.{SliceMut}
use Rattle.bitstream_stream.specs.Sequence.{write_sequence}
use Rattle.bitstream_stream.specs.Writing.WriteTable.{align}
use Rattle.bitstream_value.specs.Lengths.{sequence_length}
use Rattle.bitstream_value.specs.declared.pack.Discard.{Discard}

-- Calls are packed into a slice that held these bytes, and that a reference of this name leads to.
-- `sequence_length` returns the number of bits that the calls take, or the first error that a call has.
pub record PacksInto (o : Order) (encoders : List Encoder) (name : GName) (was : List ℕ)
    (result : Result SliceMut Error) : Type 0 where
  -- the written bytes are the encodings of the calls, and zeros up to a whole byte
  pub packed : IfOk result (λ target. bits o (written_bytes target) ≡ write_sequence (encoders ++ align ∷ []) 0)
  -- they are the first bytes of the slice, and the others are as they were
  pub first : IfOk result (HoldsFirst name was)
  -- if a call has an error, the result is the first one, however many bytes there are
  pub misfit : (error : Error) → sequence_length encoders 0 ≡ Err error → result ≡ Err error
  -- else the pack succeeds if the slice has room for the bits
  pub room : (n : ℕ) → sequence_length encoders 0 ≡ Ok n → n ≤ 8 * length was → IsOk result
  -- and if it has not, the result is `WriteZero`
  pub short : (n : ℕ) → sequence_length encoders 0 ≡ Ok n → 8 * length was < n → result ≡ Err (Stream WriteZero)

-- the first error that a call has, or another one
abbrev pub error_or : Result ℕ Error → Error → Error
error_or (Ok n) other = other
error_or (Err error) other = error

-- a target that takes all bytes, keeps none, and never fails
abbrev pub discard_stream : OutputStream Discard
discard_stream = record {
  contents = λ _. None;
  references = λ _. [];
  refuses = λ _ _ _ _. ⊥;
  flushes = λ _ _. ⊤;
}

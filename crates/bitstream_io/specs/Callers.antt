-- The definitions that callers' contracts cite most, passed on from one place. Declares nothing.
pub use Rattle.bitstream_number.specs.Word.{Order, High, Low, bits, bytes, bytes_of, word, number, signed_number, FitsSignedBits}
pub use Rattle.bitstream_count.specs.Codec.{Decoder, Encoder, Done, and_then, pure, list_item, fail, stores}
pub use Rattle.bitstream_count.specs.declared.error.Error.{Error}
pub use Rattle.bitstream_count.specs.declared.error.Error.TheVariants.{EndOfInput, Failed, OutOfMemory, Stream, VariableWidthOverflow}
pub use Rattle.bitstream_order.specs.Moving.Gather.{result_map}
pub use Rattle.bitstream_stream.specs.Reading.ReadTable.{first_bit, bit_decoder, unsigned_decoder, signed_decoder, const_decoder, unary_decoder, count_decoder, align_decoder, bytes_decoder, vec_decoder, skip_decoder, whole_bytes_decoder, vbr_decoder, any_vbr_decoder, signed_vbr_decoder, any_signed_vbr_decoder}
pub use Rattle.bitstream_stream.specs.Writing.WriteTable.{plain, bit, bit_by_bit, unsigned, signed, unary_word, count, align, buffer, zeros, vbr, signed_vbr}
pub use Rattle.bitstream_stream.specs.Reading.MemorySource.{memory_source}
pub use Rattle.bitstream_stream.specs.Reading.Enough.{IsDoneBy}
pub use Rattle.bitstream_stream.specs.Reading.Reads.{BitSource, Reads, bits_left, sure_answer}
pub use Rattle.bitstream_stream.specs.Writing.Sink.{Sink, WritesAll}
pub use Rattle.bitstream_stream.specs.Writing.Room.{AllAccepted}
pub use Rattle.bitstream_stream.specs.Sequence.{write_sequence}
pub use Rattle.bitstream_value.specs.Array.{items_decoder, words}
pub use Rattle.bitstream_value.specs.Boolean.{truth_decoder, truth}
pub use Rattle.bitstream_value.specs.Grows.{GrowingOutcome, GrowsOwn, MayAllocate, OwnReads, parts_decoder, PartsRead}
pub use Rattle.bitstream_value.specs.Lengths.{sequence_length}
pub use Rattle.bitstream_value.specs.NonZero.{non_zero, option_decoder, if_any, number_or_zero}
pub use Rattle.bitstream_value.specs.PackInto.{PacksInto}
pub use Rattle.bitstream_value.specs.Own.{OwnAnswer, ReadsOwn, WritesOwn, part_then, same_error, plain_reads}
pub use Rattle.bitstream_value.specs.Tree.{Tree, leaf, node, IsPath, path_decoder}
pub use Rattle.bitstream_io.specs.Loop.{ItemsRead, ItemsWritten, all_ok}
pub use Rattle.bitstream_io.specs.NonZeroTypes.{non_zero_u8, non_zero_u16, non_zero_u32, non_zero_u64, non_zero_u128, non_zero_u8_decoder, non_zero_u16_decoder, non_zero_u32_decoder, non_zero_u64_decoder, non_zero_u128_decoder}
pub use Rattle.bitstream_io.specs.Optional.{optional, own_optional, optional_writes, optional_size}
pub use Rattle.bitstream_io.specs.Steps.{◌>>=◌, bytes_number}

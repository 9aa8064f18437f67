pub mod SequenceLemmas
pub mod NonZeroBack
pub mod CallsBack
pub mod CallerLemmas
pub mod EachLemmas
pub mod GolombLemmas
pub mod PackLemmas
mod BlockwiseLemmas
mod IndexedLemmas
mod PlaceLemmas
mod ReadBackLemmas
mod ReadScriptLemmas
mod Rows
mod ScriptLemmas
mod SoughtLemmas
mod WindowLemmas
pub use Rattle.bitstream_count.proofs.UnaryLemmas
pub use Rattle.bitstream_count.proofs.VbrLemmas
pub use Rattle.bitstream_number.proofs.ByteLemmas
pub use Rattle.bitstream_number.proofs.SignedLemmas
pub use Rattle.bitstream_number.proofs.WordLemmas
pub use Rattle.bitstream_order.proofs.Streaming.FaultLemmas
pub use Rattle.bitstream_order.proofs.Moving.TakeLemmas
pub use Rattle.bitstream_order.proofs.Streaming.SliceLemmas as SliceEnds
pub use Rattle.bitstream_stream.proofs.WholeBytes.ByteReadsLemmas
pub use Rattle.bitstream_stream.proofs.WholeBytes.ByteWritesLemmas
pub use Rattle.bitstream_stream.proofs.Writing.BytesWritten
pub use Rattle.bitstream_stream.proofs.Reading.CodecLemmas
pub use Rattle.bitstream_stream.proofs.Reading.LawLemmas
pub use Rattle.bitstream_stream.proofs.Reading.ReaderLemmas
pub use Rattle.bitstream_stream.proofs.Reading.ReadsLemmas
pub use Rattle.bitstream_stream.proofs.Writing.SinkLemmas
pub use Rattle.bitstream_stream.proofs.Writing.RoomLemmas
pub use Rattle.bitstream_stream.proofs.Writing.SinkParts
pub use Rattle.bitstream_stream.proofs.Reading.SliceLemmas
pub use Rattle.bitstream_stream.proofs.Reading.TableLemmas
pub use Rattle.bitstream_stream.proofs.Reading.WaysLemmas
pub use Rattle.bitstream_stream.proofs.Writing.WriteLemmas
pub use Rattle.bitstream_stream.proofs.Writing.WriteParts
pub use Rattle.bitstream_stream.proofs.Writing.WriterLemmas
pub use Rattle.bitstream_value.proofs.BackLemmas
pub use Rattle.bitstream_value.proofs.ByteBackLemmas
pub use Rattle.bitstream_value.proofs.ByteGrowsLemmas
pub use Rattle.bitstream_value.proofs.ByteSteps
pub use Rattle.bitstream_value.proofs.ByteTypeLemmas
pub use Rattle.bitstream_value.proofs.GenericLemmas
pub use Rattle.bitstream_value.proofs.GrowsLemmas
pub use Rattle.bitstream_value.proofs.LengthLemmas
pub use Rattle.bitstream_value.proofs.LengthSteps
pub use Rattle.bitstream_value.proofs.OwnLemmas
pub use Rattle.bitstream_value.proofs.OwnSteps
pub use Rattle.bitstream_value.proofs.PackIntoLemmas
pub use Rattle.bitstream_value.proofs.ReadSteps
pub use Rattle.bitstream_value.proofs.SureLemmas
pub use Rattle.bitstream_value.proofs.WriteSteps
pub use Rattle.bitstream_order.proofs.Moving.LeadLemmas
pub use Rattle.bitstream_value.proofs.CheckedLemmas

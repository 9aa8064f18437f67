mod AdtsHeaderRows
mod OggHeaderRows
mod RiffChunkRows
mod Rows
mod SummedRows
mod TsHeaderRows
mod WavFormatRows
pub mod AdtsHeaderLemmas
pub mod EmulationLemmas
pub mod Leb128Lemmas
pub mod OggHeaderLemmas
pub mod RiffChunkLemmas
pub mod TsHeaderLemmas
pub mod WavFormatLemmas

pub mod FlacBlockLemmas
pub mod FlacInfoLemmas
pub mod FlacMetadataLemmas
pub mod GifCommentLemmas
pub mod TsPatLemmas
pub mod TsPmtLemmas
pub mod TsProgramLemmas
pub mod TsStreamLemmas
pub mod WavFileLemmas
mod FlacBlockRows
mod FlacMetadataRows
mod GifCommentRows
mod TsPatRows
mod TsPmtRows
mod TsProgramRows
mod TsStreamRows
mod WavFileRows

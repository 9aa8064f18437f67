mod ChecksumRows
mod FileRows
mod FrameRows
mod HeaderRows
mod Rows
mod StreamInfoRows
pub mod ChannelLemmas
pub mod ChecksumLemmas
pub mod CodedLemmas
pub mod EncodingLemmas
pub mod FileLemmas
pub mod FoundLemmas
pub mod HeaderLemmas
pub mod InputLemmas
pub mod LosslessLemmas
pub mod PredictLemmas
pub mod ResidualLemmas
pub mod ResultLemmas
pub mod RiceLemmas
pub mod StartLemmas
pub mod StereoLemmas
pub mod StreamInfoLemmas
pub mod SubframeLemmas
pub mod WrittenLemmas

mod DhcpLemmas
mod Rows
mod ChecksRows
mod SummedRows
pub mod InBytesLemmas
pub mod WithinLemmas
pub mod FilledLemmas
pub mod StatedLemmas
pub mod InGroupsLemmas
pub mod UntilLemmas
pub mod BlocksLemmas
pub mod UpToLastLemmas
pub mod RestLemmas
pub mod ChecksLemmas
pub mod SummedLemmas

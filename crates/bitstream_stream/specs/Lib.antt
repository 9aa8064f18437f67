pub mod Alignment
pub mod Groups
pub mod Reading
pub mod Sequence
pub mod Ways
pub mod WholeBytes
pub mod Writing

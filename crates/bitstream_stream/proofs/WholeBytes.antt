pub mod ByteReadsLemmas
pub mod ByteWritesLemmas

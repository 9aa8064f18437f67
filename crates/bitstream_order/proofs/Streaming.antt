pub mod FaultLemmas
pub mod SliceLemmas
pub mod SliceMutLemmas
pub mod TailLemmas

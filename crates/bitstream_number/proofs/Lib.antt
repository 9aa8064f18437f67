pub mod ByteLemmas
pub mod Bytes
pub mod Casts
pub mod Masks
pub mod Shifts
pub mod SignedLemmas
pub mod WordLemmas

pub mod LeadLemmas
pub mod PieceLemmas
pub mod SendLemmas
pub mod ShiftLemmas
pub mod SignLemmas
pub mod TakeLemmas

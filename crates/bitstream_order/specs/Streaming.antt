pub mod Growing
pub mod Lent
pub mod Slice
pub mod SliceMut
pub mod Tail

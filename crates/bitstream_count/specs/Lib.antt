pub mod Checks
pub mod Counts
pub mod Codec
pub mod Kind
pub mod Unary
pub mod Vbr

pub mod Gather
pub mod Pieces
pub mod Send
pub mod Shift
pub mod TakeUnary

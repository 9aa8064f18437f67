pub mod Ints
pub mod Word

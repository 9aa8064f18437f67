pub mod Counting
pub mod Refusing

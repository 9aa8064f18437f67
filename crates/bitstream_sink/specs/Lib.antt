pub mod Best
pub mod Counter
pub mod Counting
pub mod GrowingWriter
pub mod Recorder

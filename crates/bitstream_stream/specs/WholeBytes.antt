pub mod ByteReader
pub mod ByteReads
pub mod ByteSink
pub mod ByteWriter

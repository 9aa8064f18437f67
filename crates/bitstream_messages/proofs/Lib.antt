pub mod AckLemmas
pub mod AclPacketLemmas
pub mod DnsLabelLemmas
pub mod DnsMessageLemmas
pub mod DnsNameLemmas
pub mod DnsPointerLemmas
pub mod DnsQuestionLemmas
pub mod DnsRecordLemmas
pub mod DnsTextLemmas
pub mod EventLemmas
pub mod ExtensionLemmas
pub mod ExtensionsLemmas
pub mod FrameLemmas
pub mod HelloLemmas
pub mod Ipv4DatagramLemmas
pub mod LogLemmas
pub mod MarkLemmas
pub mod MessageLemmas
pub mod NotesLemmas
pub mod PacketLemmas
pub mod PngChunkLemmas
pub mod PngFileLemmas
pub mod RenegotiationLemmas
pub mod SignalLemmas
pub mod TlsRecordLemmas
mod AclPacketRows
mod DnsLabelRows
mod DnsMessageRows
mod DnsNameRows
mod EventRows
mod ExtensionRows
mod ExtensionsRows
mod FrameRows
mod HelloRows
mod Ipv4DatagramRows
mod LogRows
mod MessageRows
mod PacketRows
mod PngChunkRows
mod PngFileRows
mod SignalRows
mod TlsRecordRows

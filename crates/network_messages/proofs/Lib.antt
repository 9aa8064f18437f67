pub mod AdsbFrameLemmas
pub mod CheckedIpv4Lemmas
pub mod CoapMessageLemmas
pub mod EapolPacketLemmas
pub mod IcmpMessageLemmas
pub mod Ipv4PacketLemmas
pub mod Ipv4PseudoLemmas
pub mod QuicStreamLemmas
pub mod RtpExtensionLemmas
pub mod RtpPacketLemmas
pub mod TftpDataLemmas
pub mod TftpRequestLemmas
pub mod UdpDatagramLemmas
mod AdsbFrameRows
mod CheckedIpv4Rows
mod CoapMessageRows
mod EapolPacketRows
mod IcmpMessageRows
mod Ipv4PacketRows
mod QuicStreamRows
mod RtpPacketRows
mod TftpDataRows
mod TftpRequestRows
mod UdpDatagramRows

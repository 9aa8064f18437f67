pub mod IcmpMessage
pub mod Ipv4Packet
pub mod Ipv4Pseudo
pub mod Lists
pub mod Shared
pub mod Sums
pub mod UdpDatagram
pub mod Varied

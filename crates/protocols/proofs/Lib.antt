pub mod AdsbMessageLemmas
pub mod ArpPacketLemmas
pub mod CanFrameLemmas
pub mod CoapHeaderLemmas
pub mod DnsHeaderLemmas
pub mod EthernetHeaderLemmas
pub mod IcmpEchoLemmas
pub mod IcmpGatewayLemmas
pub mod IcmpHeaderLemmas
pub mod IcmpIdsLemmas
pub mod Ipv4HeaderLemmas
pub mod Ipv6HeaderLemmas
pub mod J1939FrameLemmas
pub mod MacFrameControlLemmas
pub mod ModbusHeaderLemmas
pub mod Mp3HeaderLemmas
pub mod MqttHeaderLemmas
pub mod NtpPacketLemmas
pub mod NtpTimestampLemmas
pub mod PngStartLemmas
pub mod QuicLongHeaderLemmas
pub mod ReportBlockLemmas
pub mod RtcpReceiverReportLemmas
pub mod RtcpSenderReportLemmas
pub mod SocksLoginLemmas
pub mod StunHeaderLemmas
pub mod TcpHeaderLemmas
pub mod TsHeaderLemmas
pub mod UdpHeaderLemmas
pub mod VlanTagLemmas
mod AdsbMessageRows
mod ArpPacketRows
mod CanFrameRows
mod CoapHeaderRows
mod DnsHeaderRows
mod EthernetHeaderRows
mod IcmpEchoRows
mod IcmpHeaderRows
mod Ipv4HeaderRows
mod Ipv6HeaderRows
mod J1939FrameRows
mod MacFrameControlRows
mod ModbusHeaderRows
mod Mp3HeaderRows
mod MqttHeaderRows
mod NtpPacketRows
mod NtpTimestampRows
mod PngStartRows
mod QuicLongHeaderRows
mod ReportBlockRows
mod RtcpReceiverReportRows
mod RtcpSenderReportRows
mod SocksLoginRows
mod StunHeaderRows
mod TcpHeaderRows
mod TsHeaderRows
mod UdpHeaderRows
mod VlanTagRows

-- The first 20 bytes of the header of a TCP segment, without options (RFC 9293, section 3.1).
use Rattle.protocols.specs.declared.tcp_header.TcpHeader.{TcpHeader}
use Rattle.std.proofs.Common.{refl}
use Rattle.bitstream_format.specs.Format.{◌>>=◌, Plain as PlainFormat, Parts as FormatParts, format, renamed, field, ◌&◌, done}
use Rattle.std.specs.Prelude.{◌^◌, ◌<◌, ◌++◌, ◌∷◌, [], ℕ, Bool, List, take, drop}
use Rattle.bitstream_io.specs.Callers.{Decoder, Encoder, Order, High, number, first_bit, align, write_sequence}
use Rattle.bitstream_format.specs.Atoms as atom

-- Made by `./format` from formats/tcp_header.fields: edit that file and make this one anew.

-- n bits after the first k
abbrev pub bits_at : ℕ → ℕ → List Bool → List Bool
bits_at k n bits = take n (drop k bits)

-- the lines, in order, the next of them
abbrev pub tcp_header_lines_2 : ℕ → ℕ → ℕ → ℕ → ℕ → Bool → Bool → Bool → Bool → Bool → Bool → Bool → Bool → ℕ → ℕ →
    FormatParts TcpHeader TcpHeader (λ s. s)
tcp_header_lines_2 source target sequence acknowledged data_offset cwr ece urg ack psh rst syn fin window checksum = do
  urgent ← field (atom.unsigned 16 16 refl) (λ s. s.urgent)
  done (record {
    source = source;
    target = target;
    sequence = sequence;
    acknowledged = acknowledged;
    data_offset =
        data_offset;
    cwr = cwr;
    ece = ece;
    urg = urg;
    ack = ack;
    psh = psh;
    rst = rst;
    syn = syn;
    fin = fin;
    window =
        window;
    checksum = checksum;
    urgent = urgent;
  })

-- the lines, in order, the next of them
abbrev pub tcp_header_lines_1 : ℕ → ℕ → ℕ → ℕ → ℕ → Bool → Bool → FormatParts TcpHeader TcpHeader (λ s. s)
tcp_header_lines_1 source target sequence acknowledged data_offset cwr ece = do
  urg ← field atom.bool (λ s. s.urg)
  ack ← field atom.bool (λ s. s.ack)
  psh ← field atom.bool (λ s. s.psh)
  rst ← field atom.bool (λ s. s.rst)
  syn ← field atom.bool (λ s. s.syn)
  fin ← field atom.bool (λ s. s.fin)
  window ← field (atom.unsigned 16 16 refl) (λ s. s.window)
  checksum ← field (atom.unsigned 16 16 refl) (λ s. s.checksum)
  tcp_header_lines_2 source target sequence acknowledged data_offset cwr ece urg ack psh rst syn fin window checksum

-- the lines, in order
abbrev pub tcp_header_lines : FormatParts TcpHeader TcpHeader (λ s. s)
tcp_header_lines = do
  source ← field (atom.unsigned 16 16 refl) (λ s. s.source)
  target ← field (atom.unsigned 16 16 refl) (λ s. s.target)
  sequence ← field (atom.unsigned 32 32 refl) (λ s. s.sequence)
  acknowledged ← field (atom.unsigned 32 32 refl) (λ s. s.acknowledged)
  data_offset ← field (atom.unsigned 8 4 refl) (λ s. s.data_offset)
  skipped_5 ← field (atom.pad 4) (λ s. tt)
  cwr ← field atom.bool (λ s. s.cwr)
  ece ← field atom.bool (λ s. s.ece)
  tcp_header_lines_1 source target sequence acknowledged data_offset cwr ece

-- the reads, in order
abbrev pub tcp_header_decoder : Order → Decoder TcpHeader
tcp_header_decoder o = tcp_header_lines.read o

-- the reads, in order, the next of them
abbrev pub tcp_header_decoder_1 : Order → ℕ → ℕ → ℕ → ℕ → ℕ → Bool → Bool → Decoder TcpHeader
tcp_header_decoder_1 o source target sequence acknowledged data_offset cwr ece = (tcp_header_lines_1 source target
    sequence acknowledged data_offset cwr ece).read o

-- the reads, in order, the next of them
abbrev pub tcp_header_decoder_2 : Order → ℕ → ℕ → ℕ → ℕ → ℕ → Bool → Bool → Bool → Bool → Bool → Bool → Bool → Bool → ℕ
    → ℕ → Decoder TcpHeader
tcp_header_decoder_2 o source target sequence acknowledged data_offset cwr ece urg ack psh rst syn fin window checksum =
    (tcp_header_lines_2 source target sequence acknowledged data_offset cwr ece urg ack psh rst syn fin window
    checksum).read o

-- the writes, in order
abbrev pub tcp_header_writes : Order → TcpHeader → List Encoder
tcp_header_writes o value = tcp_header_lines.write o value

-- the writes, in order, the next of them
abbrev pub tcp_header_writes_2 : Order → TcpHeader → List Encoder
tcp_header_writes_2 o value = (tcp_header_lines_1 value.source value.target value.sequence value.acknowledged
    value.data_offset value.cwr value.ece).write o value

-- the writes, in order, the next of them
abbrev pub tcp_header_writes_3 : Order → TcpHeader → List Encoder
tcp_header_writes_3 o value = (tcp_header_lines_2 value.source value.target value.sequence value.acknowledged
    value.data_offset value.cwr value.ece value.urg value.ack value.psh value.rst value.syn value.fin value.window
    value.checksum).write o value

-- each field fits its bits
pub record Fits (value : TcpHeader) : Type 0 where
  pub source : value.source < 2 ^ 16
  pub target : value.target < 2 ^ 16
  pub sequence : value.sequence < 2 ^ 32
  pub acknowledged : value.acknowledged < 2 ^ 32
  pub data_offset : value.data_offset < 2 ^ 4
  pub window : value.window < 2 ^ 16
  pub checksum : value.checksum < 2 ^ 16
  pub urgent : value.urgent < 2 ^ 16

-- the number of bits
abbrev pub tcp_header_size : Order → TcpHeader → ℕ
tcp_header_size o value = 160

-- the format, with the facts that must fit by name
abbrev pub tcp_header_format : PlainFormat TcpHeader
tcp_header_format = renamed Fits (format tcp_header_lines (λ s. refl {a = s}))
    (λ s fits. fits.source & fits.target & fits.sequence & fits.acknowledged & fits.data_offset & fits.window &
    fits.checksum & fits.urgent)
    (λ s facts. record {
      source = facts.0;
      target = facts.1.0;
      sequence = facts.1.1.0;
      acknowledged = facts.1.1.1.0;
      data_offset = facts.1.1.1.1.0;
      window = facts.1.1.1.1.1.0;
      checksum = facts.1.1.1.1.1.1.0;
      urgent =
          facts.1.1.1.1.1.1.1;
    })

-- the bits of all fields, up to a whole byte
unfoldable pub tcp_header_bits : TcpHeader → List Bool
tcp_header_bits value = write_sequence (tcp_header_writes High value ++ align ∷ []) 0

-- the fields in bits, each by its place
abbrev pub tcp_header_at : List Bool → TcpHeader
tcp_header_at bits = record {
  source = number High (bits_at 0 16 bits);
  target = number High (bits_at 16 16 bits);
  sequence = number High (bits_at 32 32 bits);
  acknowledged = number High (bits_at 64 32 bits);
  data_offset = number High (bits_at 96 4 bits);
  cwr = first_bit (bits_at 104 1 bits);
  ece = first_bit (bits_at 105 1 bits);
  urg = first_bit (bits_at 106 1 bits);
  ack = first_bit (bits_at 107 1 bits);
  psh = first_bit (bits_at 108 1 bits);
  rst = first_bit (bits_at 109 1 bits);
  syn = first_bit (bits_at 110 1 bits);
  fin = first_bit (bits_at 111 1 bits);
  window = number High (bits_at 112 16 bits);
  checksum = number High (bits_at 128 16 bits);
  urgent = number High (bits_at 144 16 bits);
}

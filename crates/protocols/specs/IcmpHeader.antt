-- The first bytes of an ICMP message (RFC 792).
use Rattle.protocols.specs.declared.icmp_header.IcmpHeader.{IcmpHeader}
use Rattle.protocols.specs.declared.icmp_header.Body.{Body}
use Rattle.protocols.specs.declared.icmp_header.Body.TheVariants.{EchoReply as BodyEchoReply, Redirect as BodyRedirect, Echo as BodyEcho, Other as BodyOther}
use Rattle.protocols.specs.IcmpIds.{icmp_ids_decoder, icmp_ids_writes, icmp_ids_size, icmp_ids_format, Fits as IcmpIdsFits}
use Rattle.protocols.specs.IcmpGateway.{icmp_gateway_decoder, icmp_gateway_writes, icmp_gateway_size, icmp_gateway_format, Fits as IcmpGatewayFits}
use Rattle.std.proofs.Common.{refl, arith}
use Rattle.std.proofs.lemmas.Bool.{ne_eqb}
use Rattle.bitstream_format.specs.Format.{◌>>=◌, Plain as PlainFormat, Parts as FormatParts, format, named, field, ◌&◌, done}
use Rattle.bitstream_format.specs.Chosen.{Choice as FormatChoice, chosen, Goes as CaseGoes, plain_held-goes, alone-goes}
use Rattle.std.specs.Prelude.{◌≢◌, ◌^◌, ◌<◌, ◌++◌, ◌∷◌, [], ◌==◌, if◌then◌else◌, ℕ, Bool, List}
use Rattle.bitstream_io.specs.Callers.{Decoder, Encoder, pure, Order, High, and_then, align, write_sequence}
use Rattle.bitstream_format.specs.Atoms as atom

-- Made by `./format` from formats/icmp_header.fields: edit that file and make this one anew.

-- the number of the case of a `Body`
abbrev pub body_number : Body → ℕ
body_number (BodyEchoReply it) = 0
body_number (BodyRedirect it) = 5
body_number (BodyEcho it) = 8
body_number (BodyOther n) = n

-- the reads of the case with the number n
abbrev pub body_read : Order → ℕ → Decoder Body
body_read o n = if n == 0 then and_then (icmp_ids_decoder o) (λ it. pure (BodyEchoReply it)) else if n == 5 then
    and_then (icmp_gateway_decoder o) (λ it. pure (BodyRedirect it)) else if n == 8 then and_then (icmp_ids_decoder o)
    (λ it. pure (BodyEcho it)) else pure (BodyOther n)

-- the writes behind the number
abbrev pub body_writes : Order → Body → List Encoder
body_writes o (BodyEchoReply it) = icmp_ids_writes o it
body_writes o (BodyRedirect it) = icmp_gateway_writes o it
body_writes o (BodyEcho it) = icmp_ids_writes o it
body_writes o (BodyOther n) = []

-- the number of their bits
abbrev pub body_size : Order → Body → ℕ
body_size o (BodyEchoReply it) = icmp_ids_size o it
body_size o (BodyRedirect it) = icmp_gateway_size o it
body_size o (BodyEcho it) = icmp_ids_size o it
body_size o (BodyOther n) = 0

-- the case fits its bits
abbrev pub body_fits : Body → Type 0
body_fits (BodyEchoReply it) = IcmpIdsFits it
body_fits (BodyRedirect it) = IcmpGatewayFits it
body_fits (BodyEcho it) = IcmpIdsFits it
body_fits (BodyOther n) = (n < 2 ^ 8) × (n ≢ 0) × (n ≢ 5) × (n ≢ 8)

-- the number of each case fits its bits
pub body_small : (it : Body) → body_fits it → body_number it < 2 ^ 8
body_small (BodyEchoReply it) fits = omega arith
body_small (BodyRedirect it) fits = omega arith
body_small (BodyEcho it) fits = omega arith
body_small (BodyOther n) fits = fits.0

-- each case is read back behind its number, and its writes are accepted
pub body_goes : (o : Order) (it : Body) → body_fits it
    → CaseGoes (body_read o (body_number it)) (body_writes o it) it (body_size High it)
body_goes o (BodyEchoReply it) fits = plain_held-goes icmp_ids_format (λ v. BodyEchoReply v) o it fits
body_goes o (BodyRedirect it) fits = plain_held-goes icmp_gateway_format (λ v. BodyRedirect v) o it fits
body_goes o (BodyEcho it) fits = plain_held-goes icmp_ids_format (λ v. BodyEcho v) o it fits
body_goes o (BodyOther n) fits = rw (ne_eqb n 0 fits.1, ne_eqb n 5 fits.2, ne_eqb n 8 fits.3) (alone-goes (BodyOther n))

-- the choice
abbrev pub body_choice : FormatChoice Body Body (λ it. it)
body_choice = record {
  number = body_number;
  read = body_read;
  write = body_writes;
  size = body_size High;
  fits =
      body_fits;
  goes = body_goes;
}

-- the lines, in order
abbrev pub icmp_header_lines : FormatParts IcmpHeader IcmpHeader (λ s. s)
icmp_header_lines = do
  body_tag ← field (atom.unsigned 8 8 refl) (λ s. body_number s.body)
  code ← field (atom.unsigned 8 8 refl) (λ s. s.code)
  checksum ← field (atom.unsigned 16 16 refl) (λ s. s.checksum)
  body ← field (chosen body_choice body_tag) (λ s. s.body)
  done (record { code = code; checksum = checksum; body = body })

-- the reads, in order
abbrev pub icmp_header_decoder : Order → Decoder IcmpHeader
icmp_header_decoder o = icmp_header_lines.read o

-- the writes, in order
abbrev pub icmp_header_writes : Order → IcmpHeader → List Encoder
icmp_header_writes o value = icmp_header_lines.write o value

-- each field fits its bits
pub record Fits (value : IcmpHeader) : Type 0 where
  pub code : value.code < 2 ^ 8
  pub checksum : value.checksum < 2 ^ 16
  pub body : body_fits value.body

-- the number of bits
abbrev pub icmp_header_size : Order → IcmpHeader → ℕ
icmp_header_size o value = icmp_header_lines.size value

-- the format, with the facts that must fit by name
abbrev pub icmp_header_format : PlainFormat IcmpHeader
icmp_header_format = named Fits (format icmp_header_lines (λ s. refl {a = s}))
    (λ s fits. body_small s.body fits.body & fits.code & fits.checksum & fits.body & refl)

-- the bits of all fields, up to a whole byte
unfoldable pub icmp_header_bits : IcmpHeader → List Bool
icmp_header_bits value = write_sequence (icmp_header_writes High value ++ align ∷ []) 0

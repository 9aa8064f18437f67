-- A receiver's report on one source of RTP (RFC 3550, section 6.4.1).
use Rattle.protocols.specs.declared.report_block.ReportBlock.{ReportBlock}
use Rattle.std.proofs.Common.{refl}
use Rattle.bitstream_format.specs.Format.{◌>>=◌, Plain as PlainFormat, Parts as FormatParts, format, renamed, field, ◌&◌, done}
use Rattle.std.specs.Prelude.{◌^◌, ◌<◌, ◌++◌, ◌∷◌, [], ℕ, Bool, List, take, drop}
use Rattle.bitstream_io.specs.Callers.{Decoder, Encoder, Order, High, number, signed_number, FitsSignedBits, align, write_sequence}
use Rattle.bitstream_format.specs.Atoms as atom

-- Made by `./format` from formats/report_block.fields: edit that file and make this one anew.

-- n bits after the first k
abbrev pub bits_at : ℕ → ℕ → List Bool → List Bool
bits_at k n bits = take n (drop k bits)

-- the lines, in order
abbrev pub report_block_lines : FormatParts ReportBlock ReportBlock (λ s. s)
report_block_lines = do
  ssrc ← field (atom.unsigned 32 32 refl) (λ s. s.ssrc)
  fraction_lost ← field (atom.unsigned 8 8 refl) (λ s. s.fraction_lost)
  lost ← field (atom.signed 32 24 refl refl) (λ s. s.lost)
  highest ← field (atom.unsigned 32 32 refl) (λ s. s.highest)
  jitter ← field (atom.unsigned 32 32 refl) (λ s. s.jitter)
  last_report ← field (atom.unsigned 32 32 refl) (λ s. s.last_report)
  delay ← field (atom.unsigned 32 32 refl) (λ s. s.delay)
  done (record {
    ssrc = ssrc;
    fraction_lost = fraction_lost;
    lost = lost;
    highest = highest;
    jitter = jitter;
    last_report = last_report;
    delay = delay;
  })

-- the reads, in order
abbrev pub report_block_decoder : Order → Decoder ReportBlock
report_block_decoder o = report_block_lines.read o

-- the writes, in order
abbrev pub report_block_writes : Order → ReportBlock → List Encoder
report_block_writes o value = report_block_lines.write o value

-- each field fits its bits
pub record Fits (value : ReportBlock) : Type 0 where
  pub ssrc : value.ssrc < 2 ^ 32
  pub fraction_lost : value.fraction_lost < 2 ^ 8
  pub lost : FitsSignedBits 24 value.lost
  pub highest : value.highest < 2 ^ 32
  pub jitter : value.jitter < 2 ^ 32
  pub last_report : value.last_report < 2 ^ 32
  pub delay : value.delay < 2 ^ 32

-- the number of bits
abbrev pub report_block_size : Order → ReportBlock → ℕ
report_block_size o value = 192

-- the format, with the facts that must fit by name
abbrev pub report_block_format : PlainFormat ReportBlock
report_block_format = renamed Fits (format report_block_lines (λ s. refl {a = s}))
    (λ s fits. fits.ssrc & fits.fraction_lost & fits.lost & fits.highest & fits.jitter & fits.last_report & fits.delay)
    (λ s facts. record {
      ssrc = facts.0;
      fraction_lost = facts.1.0;
      lost = facts.1.1.0;
      highest = facts.1.1.1.0;
      jitter
          = facts.1.1.1.1.0;
      last_report = facts.1.1.1.1.1.0;
      delay = facts.1.1.1.1.1.1;
    })

-- the bits of all fields, up to a whole byte
unfoldable pub report_block_bits : ReportBlock → List Bool
report_block_bits value = write_sequence (report_block_writes High value ++ align ∷ []) 0

-- the fields in bits, each by its place
abbrev pub report_block_at : List Bool → ReportBlock
report_block_at bits = record {
  ssrc = number High (bits_at 0 32 bits);
  fraction_lost = number High (bits_at 32 8 bits);
  lost = signed_number High (bits_at 40 24 bits);
  highest = number High (bits_at 64 32 bits);
  jitter = number High (bits_at 96 32 bits);
  last_report = number High (bits_at 128 32 bits);
  delay = number High (bits_at 160 32 bits);
}

use Rattle.std.proofs.Common.{◌≡◌, ◌+◌, ◌-◌, ◌≤◌, ℕ, length, take, false, Ok}
use Rattle.bitstream_stream.specs.Reading.Reads.{Reads}
use Rattle.bitstream_stream.specs.Reading.Reader.{reader_source, queued_bits, requests_made}
use Rattle.bitstream_stream.specs.Reading.ReadTable.{bytes_decoder}
use Rattle.bitstream_stream.proofs.PieceCounts.{Reaches}
use Rattle.bitstream_stream.proofs.read.reader.BitReader.fetch_pieces.Given as goal

-- the bytes up to a place were read, in k pieces
abbrev pub invariant-loop-at : goal.invariant-loop-at
invariant-loop-at g l =
    (k : ℕ) × record {
      len : length l.buf ≡ length l.initial.buf;
      within : l.at ≤ length l.buf;
      reads : Reads (reader_source g.R.Source.stream
          g.E.Endianness.order) (bytes_decoder g.E.Endianness.order l.at) l.initial.self (Ok (take l.at l.buf)) l.self;
      fine : l.self.failed ≡ false;
      queued : queued_bits l.self ≡ queued_bits l.initial.self;
      requests : requests_made l.self ≡ requests_made l.initial.self + k;
      reaches : Reaches l.most k l.at (length l.buf);
    }

abbrev pub decreases-loop-at : goal.decreases-loop-at
decreases-loop-at g l = length l.buf - l.at

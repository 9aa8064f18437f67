use Rattle.std.proofs.Common.{◌≡◌, ◌<◌, true, refl}
use Rattle.std.proofs.lemmas.Bool.{ne_eqb}
use Rattle.std.specs.Prelude.{◌==◌}
use Rattle.bitstream_io.proofs.ByteSteps.{few_byte_reads, then_number, end_number, bytes_end, if_bytes, else_bytes}
use Rattle.bitstream_callers.proofs.packet_header.PacketHeaderFromByteStream.from_reader.Goals as goal

pub returns-in_err-version : goal.returns-in_err-version
returns-in_err-version g c = search few_byte_reads depth 12

pub returns-in_err-read : goal.returns-in_err-read
returns-in_err-read g c =
    let o = g.R.ByteRead.source.order in
    let version = rw c.in_ok-version.is at c.branch-version.type_inv in
    let below : c.in_ok-version.version < 256 = version.1.1.1.1.0.1 in
    let is : (c.in_ok-version.version == 1) ≡ true = rw c.if-version-eq1.true refl in
    record {
      reads = then_number o 1 _ c.read.ensures.reads c.branch-version.ensures c.in_ok-version.is below
          (if_bytes _ _ (c.in_ok-version.version == 1) is
          (end_number o 2 _ c.read-then-version-eq1.ensures.reads c.branch-read.ensures c.in_err-read.is
          c.from_residual-in_err-read.ensures.1));
    }

pub returns-in_ok-read : goal.returns-in_ok-read
returns-in_ok-read g c =
    let o = g.R.ByteRead.source.order in
    let version = rw c.in_ok-version.is at c.branch-version.type_inv in
    let below : c.in_ok-version.version < 256 = version.1.1.1.1.0.1 in
    let is : (c.in_ok-version.version == 1) ≡ true = rw c.if-version-eq1.true refl in
    let length = rw c.in_ok-read.is at c.branch-read.type_inv in
    let short : c.in_ok-read.field-0 < 65536 = length.1.1.1.1.0.1 in
    record {
      reads = then_number o 1 _ c.read.ensures.reads c.branch-version.ensures c.in_ok-version.is below
          (if_bytes _ _ (c.in_ok-version.version == 1) is
          (then_number o 2 _ c.read-then-version-eq1.ensures.reads c.branch-read.ensures c.in_ok-read.is short
          (bytes_end _ _)));
    }

pub returns-else-version-eq1 : goal.returns-else-version-eq1
returns-else-version-eq1 g c =
    let o = g.R.ByteRead.source.order in
    let version = rw c.in_ok-version.is at c.branch-version.type_inv in
    let below : c.in_ok-version.version < 256 = version.1.1.1.1.0.1 in
    record {
      reads = then_number o 1 _ c.read.ensures.reads c.branch-version.ensures c.in_ok-version.is below
          (else_bytes _ _ (c.in_ok-version.version == 1) (ne_eqb c.in_ok-version.version 1 c.if-version-eq1.false)
          (bytes_end _ _));
    }

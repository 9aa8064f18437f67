-- What a reader whose queue was dropped has read.
use Rattle.std.proofs.Common.{◌≡◌, ◌+◌, Bool, true, false, Ok, refl, sym, ap₂, ◌∙◌, arith}
use Rattle.bitstream_order.specs.Streams.{InputStream}
use Rattle.bitstream_number.specs.Word.{Order}
use Rattle.bitstream_order.specs.Port.{source_state}
use Rattle.bitstream_stream.specs.declared.read.reader.BitReader.{BitReader}
use Rattle.bitstream_stream.specs.Reading.Reader.{reader_source, queued_number}
use Rattle.bitstream_stream.specs.Reading.Reads.{Reads, had_failed, was_done}
use Rattle.bitstream_stream.specs.Reading.ReadTable.{align_decoder}
use Rattle.bitstream_stream.specs.Ways.{aligned_reader}
use Rattle.bitstream_stream.proofs.Reading.ReaderLemmas.{aligned}

module _ {R E : Type 0} (I : InputStream R) (o : Order) (r : BitReader R E) where
  aligned_by : (failed : Bool) → r.failed ≡ failed → Reads (reader_source I o)
      align_decoder r (Ok tt) (aligned_reader r)
  unfolding align_decoder
  aligned_by false fine = was_done (aligned o (source_state I r.port) (queued_number o r) r.queued
      r.taken.count (r.taken.count + r.queued) (queued_number o (aligned_reader r)) r.failed fine r.few (r.back fine) refl)
  aligned_by true failed =
      let K = reader_source I o in
      let held : (K.state (aligned_reader r)).queue ≡ (K.state r).queue = K.empties (aligned_reader r) failed
      ∙ sym (K.empties r failed) in
      let none = r.empty failed in
      let taken : r.taken.count + r.queued ≡ r.taken.count = omega arith in
      had_failed (record {
        failed = failed;
        answer = refl;
        same =
            ap₂ (λ w t. record (K.state r) { queue = w; taken = t }) held taken;
      })

  -- it read what an alignment takes
  pub aligned_reads : Reads (reader_source I o) align_decoder r (Ok tt) (aligned_reader r)
  aligned_reads = aligned_by r.failed refl

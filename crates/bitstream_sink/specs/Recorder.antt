-- The bits that a recorder has recorded.
use Rattle.std.specs.Prelude.{◌≡◌, ℕ, Bool, List, [], ◌∷◌, ◌++◌, Some}
use Rattle.bitstream_number.specs.Word.{Order, word, bits}
use Rattle.bitstream_count.specs.Codec.{Encoder}
use Rattle.bitstream_stream.specs.Writing.Sink.{Sink, inner_sink}
use Rattle.bitstream_stream.specs.Writing.WriteTable.{buffer, unsigned}
use Rattle.bitstream_stream.specs.Writing.Writer.{queued_bits, queue_number, has_failed, new_writer_state}
use Rattle.bitstream_sink.specs.GrowingWriter.{written_bytes, growing_state, growing_sink}
use Rattle.bitstream_sink.specs.declared.recorder.BitRecorder.{BitRecorder}

-- the whole bytes that were recorded
abbrev pub recorded_bytes : {N E A : Type 0} → BitRecorder N E A → List ℕ
recorded_bytes recorder = written_bytes recorder.writer

-- the number of bits recorded after the whole bytes
abbrev pub recorded_queued : {N E A : Type 0} → BitRecorder N E A → ℕ
recorded_queued recorder = queued_bits recorder.writer

-- the number of these bits
abbrev pub recorded_queue : {N E A : Type 0} → BitRecorder N E A → ℕ
recorded_queue recorder = queue_number recorder.writer

-- all bits that were recorded
abbrev pub recorded_bits : {N E A : Type 0} → Order → BitRecorder N E A → List Bool
recorded_bits o recorder = bits o (recorded_bytes recorder)
    ++ word o (recorded_queued recorder) (recorded_queue recorder)

-- a recorder as a sink
abbrev pub recorder_sink : {N E A : Type 0} → Order → Sink (BitRecorder N E A)
recorder_sink o = inner_sink (λ recorder. recorder.writer) (growing_sink o)

-- nothing was recorded, and no allocation failed
abbrev pub IsEmptyRecorder : {N E A : Type 0} → BitRecorder N E A → Type 0
IsEmptyRecorder recorder = growing_state recorder.writer ≡ new_writer_state (Some []) []

-- true if an allocation of a recorder failed, and the recorder was not cleared since
abbrev pub recorder_failed : {N E A : Type 0} → BitRecorder N E A → Bool
recorder_failed recorder = has_failed recorder.writer

-- the calls that play a recorder to a sink of this order: one of its whole bytes, and one of the bits after
-- them as a number
abbrev pub playback_encoders : {N E A : Type 0} → Order → BitRecorder N E A → List Encoder
playback_encoders o recorder = buffer o (recorded_bytes recorder) ∷ unsigned o 8 (recorded_queued recorder)
    (recorded_queue recorder) ∷ []

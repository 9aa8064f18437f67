-- The bytes of a recorder are those that its writer sent.
use Rattle.std.specs.Prelude.{OnOk}
use Rattle.std.specs.Io.KnownBytes.{Appends}
use Rattle.std.proofs.Common.{◌≡◌, ℕ, ◌+◌, ◌*◌, ◌%◌, ◌^◌, ◌<◌, ◌≤◌, Bool, List, [], ◌∷◌, ◌++◌, length, Option, Some, Result, Ok, Err, inl, inr, refl, sym, ap, ◌∙◌, subst, arith, length-append, append_assoc}
use Rattle.bitstream_number.specs.Word.{Order, word, bits}
use Rattle.bitstream_number.proofs.WordLemmas.{length-word, length-bits, bits-append}
use Rattle.bitstream_count.specs.Codec.{Encoder}
use Rattle.bitstream_count.specs.declared.error.Error.{Error}
use Rattle.bitstream_count.specs.declared.error.Error.TheVariants.{OutOfMemory}
use Rattle.bitstream_order.specs.Fault.{refusal_of}
use Rattle.bitstream_order.specs.declared.streams.growing.Growing.{Growing}
use Rattle.bitstream_stream.specs.Writing.Sink.{Sink, Writes, WritesAll, Appended, WriteRefused, had_failed, was_rejected, past_limit, was_refused, was_done}
use Rattle.bitstream_stream.specs.Writing.Writer.{queued_bits, queue_number}
use Rattle.bitstream_stream.specs.Writing.WriteTable.{bit, bit_by_bit, buffer, unsigned}
use Rattle.bitstream_stream.specs.declared.write.writer.BitWriter.{BitWriter}
use Rattle.bitstream_stream.proofs.Writing.SinkLemmas.{inner}
use Rattle.bitstream_stream.proofs.Writing.SinkParts.{from_ok, appended_more}
use Rattle.bitstream_stream.proofs.Writing.WriteLemmas.{unsigned-fits}
use Rattle.bitstream_stream.proofs.Writing.WriteParts.{all_err, all_more, all_none, all_one}
use Rattle.bitstream_sink.specs.Recorder.{recorder_sink, recorded_bits, recorded_bytes, recorded_queued, recorded_queue}
use Rattle.bitstream_sink.specs.GrowingWriter.{HoldsAll, growing_sink, growing_state, written_bytes}
use Rattle.bitstream_sink.specs.declared.recorder.BitRecorder.{BitRecorder}

-- bytes were added, and counted as sent
added : (xs ys bytes : List ℕ) (old new : ℕ) → Appends (Some xs) (Some ys) bytes → old ≡ length xs → new
    ≡ old + length bytes → new ≡ length ys
added xs ys bytes old new grows is more = omega (arith, is, more, ap length grows, length-append xs bytes)

-- all bytes sent before a failed request
sent_before : (old new queued kept prefix bytes rest : ℕ) → (8 * new + kept) % 8 ≡ 0 → kept < 8
    → 8 * old + queued + prefix < 8 * new + kept + 8 → 8 * new + kept ≤ 8 * old + queued + prefix → queued + prefix
    ≡ 8 * bytes + rest → rest < 8
    → new ≡ old + bytes
sent_before old new queued kept prefix bytes rest whole few least most sum small = omega arith

module _ {A E : Type 0} (o : Order) where
  holds_more : (a b : BitWriter (Growing A) E) (x : List Bool) → HoldsAll a → (growing_sink o).appends a x b
      → HoldsAll b
  holds_more a b x h p = added (written_bytes a) (written_bytes b) p.bytes _ _ p.grows h p.sent

  holds_refused : (a b : BitWriter (Growing A) E) (x : List Bool) (error : Error) → HoldsAll a
      → WriteRefused (growing_sink o) a x error b → HoldsAll b
  holds_refused a b x error h k =
      let may = k.allowed in
      let fill = k.before in
      let same : Some (written_bytes b) ≡ k.refusal.before = k.after ∙ may.after ∙ ap Some may.refused.same
      ∙ sym may.before in
      let grows : Appends (Some (written_bytes a)) (Some (written_bytes b)) fill.bytes =
      subst (λ (known : Option (List ℕ)). Appends (Some (written_bytes a)) known fill.bytes) (sym same) fill.grows
      in
      let q = word o (queued_bits a) (queue_number a) in
      let sum : queued_bits a + length k.prefix ≡ 8 * length fill.bytes + length fill.rest =
      omega (
        arith,
        ap length fill.word,
        length-append q k.prefix,
        length-append (bits o fill.bytes) fill.rest,
        length-word o (queued_bits a) (queue_number a),
        length-bits o fill.bytes,
      ) in
      added (written_bytes a) (written_bytes b) fill.bytes _ _ grows h
      (sent_before (growing_state a).port.sent (growing_state b).port.sent (queued_bits a) (queued_bits b)
      (length k.prefix) (length fill.bytes) (length fill.rest) k.whole b.few k.least k.most sum fill.few)

  -- a write call keeps in the vector all bytes that were sent
  pub holds_all : {T : Type 0} (e : Encoder) (a b : BitWriter (Growing A) E) (r : Result T Error) → HoldsAll a
      → Writes (growing_sink o) e a r b → HoldsAll b
  holds_all e a b r h (had_failed p re k) = holds_more a b [] h k.grown
  holds_all e a b r h (was_rejected d p en re k) = holds_more a b [] h k.grown
  holds_all e a b r h (past_limit x p en wi re k) = holds_more a b [] h k.grown
  holds_all e a b r h (was_refused x d p en wi re k) = holds_refused a b x d h k
  holds_all e a b r h (was_done x t p en wi re k) = holds_more a b x h k.grown

  -- and so do write calls in order
  pub holds_each : (es : List Encoder) (a b : BitWriter (Growing A) E) (r : Result (Unit {0}) Error) → HoldsAll a
      → WritesAll (growing_sink o) es a r b → HoldsAll b
  unfolding WritesAll
  holds_each [] a b r h p = subst (λ (w : BitWriter (Growing A) E). HoldsAll w) (sym p.1) h
  holds_each (e ∷ es) a b r h (inl p) = holds_all e a b r h p.1
  holds_each (e ∷ es) a b r h (inr p) = holds_each es p.0 b r (holds_all e a p.0 (Ok tt) h p.1) p.2

module _ {N E A : Type 0} (o : Order) where
  -- a call of the writer is the recorder's
  pub forwarded : {T : Type 0} (e : Encoder) (a b : BitRecorder N E A) (r : Result T Error)
      → Writes (growing_sink o) e a.writer r b.writer → Writes (recorder_sink o) e a r b
  forwarded e a b r h = inner (λ (recorder : BitRecorder N E A). recorder.writer) (growing_sink o) e a r b h

  -- calls of the writer, in order
  abbrev with_writer : (a : BitRecorder N E A) (w : BitWriter (Growing A) E) → HoldsAll w → BitRecorder N E A
  with_writer a w all = record { writer = w; count = a.count; all = all }

  forwarded_all : (e : Encoder) (es : List Encoder) (a b : BitRecorder N E A) (r : Result (Unit {0}) Error)
      → WritesAll (growing_sink o) (e ∷ es) a.writer r b.writer → WritesAll (recorder_sink o) (e ∷ es) a r b
  unfolding WritesAll
  forwarded_all e es a b r (inl p) = inl (p.0, forwarded e a b r p.1)
  forwarded_all e [] a b r (inr p) =
      let one = subst (λ (w : BitWriter (Growing A) E). Writes {T = Unit {0}} (growing_sink o) e a.writer (Ok tt) w)
      (sym p.2.1) p.1 in
      inr (b, forwarded e a b (Ok tt) one, (p.2.0, refl))
  forwarded_all e (f ∷ es) a b r (inr p) =
      let m = with_writer a p.0 (holds_all o e a.writer p.0 (Ok tt) a.all p.1) in
      inr (m, forwarded e a m (Ok tt) p.1, forwarded_all f es m b r p.2)

  pub forwarded_bits : (w : List Bool) (a b : BitRecorder N E A) (r : Result (Unit {0}) Error) → (w ≡ [] → ⊥)
      → WritesAll (growing_sink o) (bit_by_bit w) a.writer r b.writer → WritesAll (recorder_sink o) (bit_by_bit w) a r b
  forwarded_bits [] a b r some h = absurd (some refl)
  forwarded_bits (c ∷ w) a b r some h = forwarded_all (bit c) (bit_by_bit w) a b r h

  pub no_bits : (w : List Bool) (a : BitRecorder N E A) → w ≡ [] → WritesAll (recorder_sink o) (bit_by_bit w) a (Ok tt) a
  no_bits w a none = subst (λ (x : List Bool). WritesAll (recorder_sink o) (bit_by_bit x) a (Ok tt) a) (sym none)
      (all_none (recorder_sink o) a)

  -- the recorded bits grow by what is appended
  pub recorded_grow : (a b : BitRecorder N E A) (x : List Bool) → (recorder_sink o).appends a x b → recorded_bits o b
      ≡ recorded_bits o a ++ x
  recorded_grow a b x p =
      let before = bits o (recorded_bytes a) in
      let last = word o (recorded_queued b) (recorded_queue b) in
      ap (λ (ys : List ℕ). bits o ys ++ last) p.grows ∙ ap (λ (l : List Bool). l
      ++ last) (bits-append o (recorded_bytes a) p.bytes) ∙ append_assoc before (bits o p.bytes) last
      ∙ ap (λ (l : List Bool). before ++ l) (sym p.word)
      ∙ sym (append_assoc before (word o (recorded_queued a) (recorded_queue a)) x)

  -- and a recorder's length is their number
  pub recorded_count : (a : BitRecorder N E A) → (recorder_sink o).len a ≡ length (recorded_bits o a)
  recorded_count a =
      let all = a.all in
      omega (
        arith,
        all,
        length-append (bits o (recorded_bytes a)) (word o (recorded_queued a) (recorded_queue a)),
        length-bits o (recorded_bytes a),
        length-word o (recorded_queued a) (recorded_queue a),
      )

  -- a recorder fails because an allocation failed
  pub refused_memory : (a b : BitRecorder N E A) (x : List Bool) (error : Error)
      → WriteRefused (recorder_sink o) a x error b → error ≡ OutOfMemory
  refused_memory a b x error k = k.answer ∙ ap refusal_of k.allowed.refused.memory

-- ---- a playback

module _ {S : Type 0} (K : Sink S) (bytes given : List ℕ) (is : given ≡ bytes) (s t : S)
    (r : Result (Unit {0}) Error) where
  -- its first call failed
  pub play_stops : (es : List Encoder) (d : Error) → r ≡ Err d
      → Writes {T = Unit {0}} K (buffer K.order given) s (Err d) t → WritesAll K (buffer K.order bytes ∷ es) s r t
  play_stops es d answer h = all_err K _ es s r d t answer
      (subst (λ (bs : List ℕ). Writes {T = Unit {0}} K (buffer K.order bs) s (Err d) t) is h)

  module _ (m : S) (q v n w : ℕ) (count : n ≡ q) (number : w ≡ v) (h :
      Writes {T = Unit {0}} K (buffer K.order given) s (Ok tt) m) (k : Writes K (unsigned K.order 8 n w) m r t) where
    first : Writes {T = Unit {0}} K (buffer K.order bytes) s (Ok tt) m
    first = subst (λ (bs : List ℕ). Writes {T = Unit {0}} K (buffer K.order bs) s (Ok tt) m) is h

    second : Writes K (unsigned K.order 8 q v) m r t
    second = subst (λ (n : ℕ). Writes K (unsigned K.order 8 n v) m r t) count
        (subst (λ (w : ℕ). Writes K (unsigned K.order 8 n w) m r t) number k)

    -- both calls were made
    pub plays : WritesAll K (buffer K.order bytes ∷ unsigned K.order 8 q v ∷ []) s r t
    plays = all_more K _ _ s m r t first (all_one K _ m r t second)

    played_as : (o : Order) → n < 8 → w < 2 ^ q → K.order ≡ o → (done : Result (Unit {0}) Error)
        → Writes K (unsigned K.order 8 q v) m done t → OnOk done (Appended K s (bits o bytes ++ word o q v) t)
    played_as o few small same (Ok done) k =
        let le : q ≤ 8 = omega (arith, count, few) in
        let fits : v < 2 ^ q = subst (λ (x : ℕ). x < 2 ^ q) number small in
        let whole = from_ok K _ s (Ok tt) m tt (bits K.order bytes) first refl refl in
        let rest = from_ok K _ m (Ok done) t done (word K.order q v) k refl
        (unsigned-fits K.order 8 q v (K.len m) le fits) in
        subst (λ (o : Order). Appended K s (bits o bytes ++ word o q v) t) same
        (appended_more K s m t (bits K.order bytes) (word K.order q v) whole.done rest.done)
    played_as o few small same (Err error) k = tt

    -- and what they append to a sink of the same order
    pub played : (o : Order) → n < 8 → w < 2 ^ q → K.order ≡ o → OnOk r (Appended K s (bits o bytes ++ word o q v) t)
    played o few small same = played_as o few small same r second

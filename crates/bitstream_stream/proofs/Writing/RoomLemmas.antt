-- No request of a writer with room for all bits written fails.
use Rattle.std.proofs.Common.{◌≡◌, ℕ, ◌+◌, ◌*◌, ◌/◌, ◌%◌, ◌<◌, ◌≤◌, Bool, false, List, [], ◌∷◌, ◌++◌, length, Option, None, Some, Result, Ok, inl, inr, refl, sym, ap, ◌∙◌, subst, arith, length-append}
use Rattle.std.specs.Io.KnownBytes.{Appends}
use Rattle.bitstream_number.specs.Word.{Order, word, bits}
use Rattle.bitstream_number.proofs.WordLemmas.{length-word, length-bits}
use Rattle.bitstream_count.specs.Codec.{Encoder}
use Rattle.bitstream_count.specs.declared.error.Error.{Error}
use Rattle.std.specs.Borrow.{GName}
use Rattle.bitstream_order.specs.Reference.{capacity_of, to_slice}
use Rattle.bitstream_order.specs.Refusal.{Refusal, MayRefuseWrite, AllLackRoom}
use Rattle.bitstream_order.specs.Streaming.SliceMut.{slice_mut_stream}
use Rattle.bitstream_order.specs.declared.streams.slice_mut.SliceMut.{SliceMut}
use Rattle.bitstream_order.proofs.Streaming.SliceMutLemmas.{slice_lacks_room}
use Rattle.bitstream_stream.specs.Writing.Carries.{WriterState}
use Rattle.bitstream_stream.specs.Writing.Room.{HasRoom, AllAccepted}
use Rattle.bitstream_stream.specs.Sequence.{accepted_bits, write_sequence}
use Rattle.bitstream_stream.specs.Writing.Sink.{Sink, IsPastLimit, inner_sink, Appended, WriteRefused, Writes, WritesAll, had_failed, was_rejected, past_limit, was_refused, was_done}
use Rattle.bitstream_stream.specs.Writing.WriteTable.{align}
use Rattle.bitstream_stream.specs.Writing.Writer.{queue_sink, new_writer_state, writer_sink, writer_state}
use Rattle.bitstream_stream.specs.declared.write.writer.BitWriter.{BitWriter}
use Rattle.bitstream_stream.proofs.Writing.WriteParts.{all_append, all_one}
use Rattle.bitstream_stream.specs.WholeBytes.ByteSink.{ByteSink, ByteWrites, past_limit, was_refused, was_done}

same_number : {m n : ℕ} → Some m ≡ Some n → m ≡ n
same_number e = cc

same_bytes : {xs ys : List ℕ} → Some xs ≡ Some ys → xs ≡ ys
same_bytes e = cc

-- known bytes that grew are known, and have as many more
grown_bytes : {old new : Option (List ℕ)} {xs : List ℕ} (bs : List ℕ) → old ≡ Some xs → Appends old new bs
    → (ys : List ℕ) × (new ≡ Some ys) × (length ys ≡ length xs + length bs)
grown_bytes {new = None} {xs = xs} bs known grows = absurd (subst (λ o. Appends o None bs) known grows)
grown_bytes {new = Some ys} {xs = xs} bs known grows =
    let whole : ys ≡ xs ++ bs = subst (λ o. Appends o (Some ys) bs) known grows in
    (ys, refl, ap length whole ∙ length-append xs bs)

-- the bytes requested after the bytes that were filled are at most the bytes that all bits fill
asked_fits : (queued prefix n filled rest before after wanted : ℕ) → queued + prefix ≡ 8 * filled + rest → rest < 8
    → after % 8 ≡ 0 → 8 * before + queued + prefix < after + 8 → after + 8 * wanted ≤ 8 * before + queued + n
    → filled + wanted ≤ (queued + n) / 8
asked_fits queued prefix n filled rest before after wanted cut few whole least asked = omega arith

-- less room is enough for less
less_room : (s : WriterState) (m n : ℕ) → HasRoom s (m + n) → HasRoom s m
less_room s m n h = record {
  held = h.held;
  most = h.most;
  told = h.told;
  capacity = h.capacity;
  room = let all = h.room in omega arith;
}

module _ {R : Type 0} (f : R → WriterState) (may : Refusal → Type 0) (o : Order) where
  abbrev K : Sink R
  K = inner_sink f (queue_sink may o)

  -- no request of a writer with room for an encoding fails
  pub room-enough : (s t : R) (x : List Bool) (error : Error) → AllLackRoom may → HasRoom (f s) (length x)
      → WriteRefused K s x error t → ⊥
  room-enough s t x error lacks room h =
      let lack = lacks h.refusal h.allowed in
      let most = same_number (sym lack.room ∙ h.capacity ∙ room.capacity) in
      let grown = grown_bytes _ room.told h.before.grows in
      let held = ap length (same_bytes (sym lack.told ∙ grown.1)) in
      let cut = sym (length-append (word o (f s).queued (f s).queue) h.prefix) ∙ ap length h.before.word
      ∙ length-append (bits o h.before.bytes) h.before.rest in
      let fits = asked_fits (f s).queued (length h.prefix) (length x) (length h.before.bytes) (length h.before.rest)
      (f s).port.sent (8 * (f t).port.sent + (f t).queued) h.refusal.wanted
      (omega (arith, cut, length-word o (f s).queued (f s).queue, length-bits o h.before.bytes)) h.before.few h.whole
      h.least h.asked in
      omega (arith, lack.few, room.room, most, held, grown.2, fits)

  -- after an encoding there is room for the rest
  pub room-left : (s t : R) (x : List Bool) (n : ℕ) → HasRoom (f s) (length x + n) → Appended K s x t → HasRoom (f t) n
  room-left s t x n room h =
      let grown = grown_bytes _ room.told h.grown.grows in
      let cut = sym (length-append (word o (f s).queued (f s).queue) x) ∙ ap length h.grown.word
      ∙ length-append (bits o h.grown.bytes) (word o (f t).queued (f t).queue) in
      record {
        held = grown.0;
        most = room.most;
        told = grown.1;
        capacity = ap capacity_of h.references ∙ room.capacity;
        room = omega (
          arith,
          cut,
          grown.2,
          room.room,
          length-word o (f s).queued (f s).queue,
          length-word o (f t).queued (f t).queue,
          length-bits o h.grown.bytes,
        );
      }

  -- an accepted call is done, and there is room for what is left
  pub room-writes : {T : Type 0} (e : Encoder) (s t : R) (x : List Bool) (n : ℕ) (r : Result T Error)
      → AllLackRoom may → K.failed s ≡ false → e (K.len s) ≡ Ok x → HasRoom (f s) (length x + n) → Writes K e s r t
      → (done : T) × (r ≡ Ok done) × (K.failed t ≡ false) × HasRoom (f t) n × (K.len t ≡ K.len s + length x)
  room-writes e s t x n r lacks sound is room (had_failed p a k) = cc
  room-writes e s t x n r lacks sound is room (was_rejected d p en a k) = cc
  room-writes e s t x n r lacks sound is room (past_limit y p en b a k) = absurd b
  room-writes e s t x n r lacks sound is room (was_refused y d p en w a k) =
      let same : y ≡ x = cc in
      absurd (room-enough s t x d lacks (less_room (f s) (length x) n room)
      (subst (λ w. WriteRefused K s w d t) same k))
  room-writes e s t x n r lacks sound is room (was_done y done p en w a k) =
      let same : y ≡ x = cc in
      let written = subst (λ w. Appended K s w t) same k in
      (done, a, written.sound, room-left s t x n room written, K.appends_len s t x written.grown)

  -- and so are the calls of a list
  pub room-all : (es : List Encoder) (s t : R) (r : Result (Unit {0}) Error) → AllLackRoom may → K.failed s ≡ false
      → AllAccepted es (K.len s) → HasRoom (f s) (length (write_sequence es (K.len s))) → WritesAll K es s r t → r ≡ Ok tt
  unfolding WritesAll
  room-all [] s t r lacks sound all room h = h.0
  room-all (e ∷ es) s t r lacks sound all room (inl h) =
      let x = accepted_bits (e (K.len s)) in
      let others = write_sequence es (K.len s + length x) in
      (room-writes e s t x (length others) r lacks sound all.0
      (subst (HasRoom (f s)) (length-append x others) room) h.1).1
  room-all (e ∷ es) s t r lacks sound all room (inr h) =
      let x = accepted_bits (e (K.len s)) in
      let others = write_sequence es (K.len s + length x) in
      let one = room-writes e s h.0 x (length others) (Ok tt) lacks sound all.0
      (subst (HasRoom (f s)) (length-append x others) room) h.1 in
      room-all es h.0 t r lacks one.2 (subst (AllAccepted es) (sym one.4) all.1)
      (subst (λ n. HasRoom (f h.0) (length (write_sequence es n))) (sym one.4) one.3) h.2

-- no request of a writer of bytes with room for some bytes fails
pub room-bytes : {S T : Type 0} (K : ByteSink S) (xs held : List ℕ) (most : ℕ) (s t : S) (r : Result T Error)
    → AllLackRoom K.may → K.limit ≡ None → K.contents s ≡ Some held → capacity_of (K.references s) ≡ Some most
    → length held + length xs ≤ most → ByteWrites K xs s r t → (done : T) × (r ≡ Ok done)
room-bytes K xs held most s t r lacks none known capacity room (past_limit b a h) =
    absurd (subst (λ l. IsPastLimit l (K.len s + length xs)) none b)
room-bytes K xs held most s t r lacks none known capacity room (was_refused e w a h) =
    let lack = lacks h.refusal h.allowed in
    let same = same_number (sym lack.room ∙ h.capacity ∙ capacity) in
    let grown = grown_bytes _ known h.before in
    let told = ap length (same_bytes (sym lack.told ∙ grown.1)) in
    let parts = ap length h.parts ∙ length-append h.prefix h.back in
    absurd (omega (arith, lack.few, room, same, told, grown.2, parts, h.asked))
room-bytes K xs held most s t r lacks none known capacity room (was_done done w a h) = (done, a)

-- ---- a new writer of bytes in memory, and a last alignment

-- the calls before the alignment are accepted with it
accepted_aligned : (es : List Encoder) (n : ℕ) → AllAccepted es n → AllAccepted (es ++ align ∷ []) n
accepted_aligned [] n all = (refl, tt)
accepted_aligned (e ∷ es) n all = (all.0, accepted_aligned es (n + length (accepted_bits (e n))) all.1)

-- and have no more bits
run_before : (es : List Encoder) (n : ℕ) → length (write_sequence es n) ≤ length (write_sequence (es ++ align ∷ []) n)
run_before [] n = omega arith
run_before (e ∷ es) n =
    let x = accepted_bits (e n) in
    omega (
      arith,
      run_before es (n + length x),
      length-append x (write_sequence es (n + length x)),
      length-append x (write_sequence (es ++ align ∷ []) (n + length x)),
    )

-- a new writer to a slice has room for the bits of its bytes
new_room : (s : WriterState) (name : GName) (was : List ℕ) (n : ℕ)
    → s ≡ new_writer_state (Some []) (to_slice name was ∷ []) → n ≤ 8 * length was → HasRoom s n
new_room s name was n fresh room = rw fresh (record {
  held = [];
  most = length was;
  told = refl;
  capacity = refl;
  room = omega arith;
})

module _ {E : Type 0} (o : Order) (es : List Encoder) (a : BitWriter SliceMut E) {name : GName} {was : List ℕ}
    (fresh : writer_state slice_mut_stream a
    ≡ new_writer_state (Some []) (to_slice name was ∷ [])) (all : AllAccepted es 0)
    (room : length (write_sequence (es ++ align ∷ []) 0) ≤ 8 * length was) where
  abbrev slice_sink : Sink (BitWriter SliceMut E)
  slice_sink = writer_sink slice_mut_stream o

  started : slice_sink.len a ≡ 0
  started = ap (λ (s : WriterState). 8 * s.port.sent + s.queued) fresh

  calls_done : (fs : List Encoder) (b : BitWriter SliceMut E) (r : Result (Unit {0}) Error) → AllAccepted fs 0
      → length (write_sequence fs 0) ≤ 8 * length was → WritesAll slice_sink fs a r b → r ≡ Ok tt
  calls_done fs b r good few h =
      room-all (writer_state slice_mut_stream)
      (MayRefuseWrite slice_mut_stream) o fs a b r slice_lacks_room
      (ap (λ (s : WriterState). s.failed) fresh) (subst (AllAccepted fs) (sym started) good)
      (subst (λ n. HasRoom (writer_state slice_mut_stream a)
      (length (write_sequence fs n))) (sym started) (new_room _ name was (length (write_sequence fs 0)) fresh few)) h

  -- accepted calls on a new writer, over bytes with room for them and for an alignment after them, complete
  pub calls_with_room : (b : BitWriter SliceMut E) (r : Result (Unit {0}) Error) → WritesAll slice_sink es a r b
      → r ≡ Ok tt
  calls_with_room b r h = calls_done es b r all (let less = run_before es 0 in omega arith) h

  -- and so does the alignment after these calls
  pub align_with_room : (m b : BitWriter SliceMut E) (r : Result (Unit {0}) Error)
      → WritesAll slice_sink es a (Ok tt) m → Writes slice_sink align m r b → r ≡ Ok tt
  align_with_room m b r h k =
      calls_done (es ++ align ∷ []) b r (accepted_aligned es 0 all) room
      (all_append slice_sink es (align ∷ []) a m r b h (all_one slice_sink align m r b k))

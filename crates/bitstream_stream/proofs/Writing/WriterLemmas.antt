-- An encoding after the queue of a writer.
use Rattle.std.specs.Io.KnownBytes.{Appends}
use Rattle.std.proofs.KnownBytes.{Appends-nil}
use Rattle.std.proofs.Common.{◌≡◌, ℕ, ◌+◌, ◌-◌, ◌*◌, ◌%◌, ◌^◌, ◌<◌, ◌≤◌, Bool, true, false, List, [], ◌∷◌, ◌++◌, take, Option, Result, Ok, Err, refl, sym, ap, ◌∙◌, subst, arith, append_assoc, append-nil}
use Rattle.bitstream_number.specs.Word.{Order, word, bits}
use Rattle.bitstream_number.proofs.WordLemmas.{length-word}
use Rattle.bitstream_count.specs.Codec.{Encoder}
use Rattle.bitstream_count.specs.declared.error.Error.{Error}
use Rattle.bitstream_order.specs.Parts.{piece, put_number}
use Rattle.bitstream_order.specs.Moving.Send.{SendsBits}
use Rattle.bitstream_order.specs.Port.{PortState, SendRefused}
use Rattle.bitstream_order.specs.Refusal.{Refusal}
use Rattle.bitstream_order.proofs.Moving.TakeLemmas.{word-none}
use Rattle.bitstream_order.proofs.PartLemmas.{put_word, put_below}
use Rattle.bitstream_order.proofs.Moving.SendLemmas.{piece_below, piece_last}
use Rattle.bitstream_stream.specs.Writing.Sink.{Writes, Appended, WriteRefused, was_refused, was_done}
use Rattle.bitstream_stream.specs.Writing.WriteTable.{bit}
use Rattle.bitstream_stream.proofs.Writing.WriteLemmas.{word-bit}
use mir.Val.{bool_byte}
use Rattle.bitstream_stream.specs.Writing.Carries.{WriterState, Carries}
use Rattle.bitstream_stream.specs.Writing.Writer.{writer_state, AddsBits, queue_sink, Pushes}
use Rattle.bitstream_stream.specs.Ways as flushes
use Rattle.bitstream_stream.specs.Ways.{Flushes}
use Rattle.bitstream_stream.specs.declared.write.writer.BitWriter.{BitWriter}
use Rattle.bitstream_order.specs.Streams.{OutputStream}

-- a queue with an encoding after it
pub queue_small : (o : Order) (queued queue n v part q : ℕ) → queue < 2 ^ queued → part ≡ piece o n v 0 n → q
    ≡ put_number o queue queued part n → q < 2 ^ (queued + n)
queue_small o queued queue n v part q below cut put =
    let small : part < 2 ^ n = subst (λ x. x < 2 ^ n) (sym cut) (piece_below o n v 0 n) in
    subst (λ x. x < 2 ^ (queued + n)) (sym put) (put_below o queue queued part n below small)

queue_word : (o : Order) (queued queue n v part q : ℕ) → queue < 2 ^ queued → part ≡ piece o n v 0 n → q
    ≡ put_number o queue queued part n
    → word o queued queue ++ word o n v ≡ word o (queued + n) q
queue_word o queued queue n v part q below cut put =
    let small : part < 2 ^ n = subst (λ x. x < 2 ^ n) (sym cut) (piece_below o n v 0 n) in
    let none : n - 0 ≡ n = omega arith in
    let whole : word o n v ≡ word o n (piece o n v 0 n) = piece_last o n v 0 (omega arith)
    ∙ ap (λ (k : ℕ). word o k (piece o n v 0 k)) none in
    ap (λ w. word o queued queue ++ w) (whole ∙ ap (word o n) (sym cut))
    ∙ sym (put_word o queue queued part n below small) ∙ ap (word o (queued + n)) (sym put)

-- fewer than 8 bits in all
pub pushed_queue : (may : Refusal → Type 0) (o : Order) (queued queue n v part q : ℕ) (p : PortState) (old new : Bool)
    → queue < 2 ^ queued → part ≡ piece o n v 0 n → q ≡ put_number o queue queued part n → new ≡ false
    → Appended (queue_sink may o) (record { port = p; queued = queued; queue = queue; failed = old }) (word o n v)
    (record { port = p; queued = queued + n; queue = q; failed = new })
pushed_queue may o queued queue n v part q p old new below cut put sound =
    record {
      grown = record {
        bytes = [];
        grows = Appends-nil p.bytes;
        sent = omega arith;
        word =
            queue_word o queued queue n v part q below cut put;
      };
      sound = sound;
      refusals = refl;
      references = refl;
    }

-- bytes that went, and the bits after them
pub pushed_bytes : (may : Refusal → Type 0) (o : Order) (queued queue n v gone q : ℕ) (p r : PortState) (old new : Bool)
    → SendsBits o [] p (word o queued queue ++ take gone (word o n v)) r → gone ≤ n → q ≡ piece o n v gone (n - gone)
    → new ≡ false
    → Appended (queue_sink may o) (record { port = p; queued = queued; queue = queue; failed = old }) (word o n v)
    (record { port = r; queued = n - gone; queue = q; failed = new })
pushed_bytes may o queued queue n v gone q p r old new h le cut sound = record {
  grown = record {
    bytes = h.bytes;
    grows = h.grows;
    sent = h.sent;
    word =
        ap (λ w. word o queued queue ++ w) (piece_last o n v gone le
        ∙ ap (λ x. take gone (word o n v) ++ word o (n - gone) x) (sym cut))
        ∙ sym (append_assoc (word o queued queue) (take gone (word o n v)) (word o (n - gone) q))
        ∙ ap (λ w. w ++ word o (n - gone) q) h.word;
  };
  sound = sound;
  refusals = h.refusals;
  references = h.references;
}

-- a request failed, and the queue was emptied
fault_lengths : (a b queued n k wanted : ℕ) → b ≡ a → wanted ≡ k → queued < 8 → 8 ≤ queued + n → 8 * k ≤ queued + n
    → (8 ≤ (8 * a + queued) % 8 + n)
    × ((8 * b + 0) % 8 ≡ 0) × (8 * a + queued + 0 < 8 * b + 0 + 8) × (8 * b + 0 ≤ 8 * a + queued + 0)
    × (8 * b + 0 + 8 * wanted ≤ 8 * a + queued + n)
fault_lengths a b queued n k wanted sent same few full room =
    (omega arith, omega arith, omega arith, omega arith, omega arith)

pub pushed_fault : (may : Refusal → Type 0) (o : Order) (queued queue n v k : ℕ) (error : Error)
    (p r : PortState) (old new : Bool) (q : ℕ) → SendRefused may error p k r → queued < 8 → 8 ≤ queued + n
    → 8 * k ≤ queued + n → new ≡ true
    → WriteRefused (queue_sink may o) (record { port = p; queued = queued; queue = queue; failed = old }) (word o n v)
    error (record { port = r; queued = 0; queue = q; failed = new })
pushed_fault may o queued queue n v k error p r old new q h few full room broken =
    let is = length-word o n v in
    let lengths = fault_lengths p.sent r.sent queued n k h.refusal.wanted h.sent h.wanted few full room in
    record {
      refusal = h.refusal;
      allowed = h.allowed;
      answer = h.answer;
      full = rw is lengths.0;
      prefix = [];
      back = word o n v;
      parts = refl;
      before = record {
        bytes = [];
        grows = subst (λ (b : Option (List ℕ)). Appends p.bytes b []) (sym h.before) (Appends-nil p.bytes);
        rest = word o queued queue;
        few = let len = length-word o queued queue in omega arith;
        word = append-nil (word o queued queue);
      };
      after = h.after;
      whole = lengths.1;
      least = lengths.2;
      most = lengths.3;
      asked = rw is lengths.4;
      capacity = h.capacity;
      refusals = h.refusals;
      failed = broken;
      references = h.references;
    }

-- a push whose request failed, and the writer was made to fail
pub pushes_lost : (may : Refusal → Type 0) (o : Order) (x : List Bool) (error : Error)
    (result : Result (Unit {0}) Error) (p : PortState) (old new : WriterState) → result ≡ Err error → new
    ≡ record { port = p; queued = 0; queue = 0; failed = true }
    → WriteRefused (queue_sink may o) old x error (record { port = p; queued = 0; queue = 0; failed = true })
    → Pushes may o x old result new
pushes_lost may o x error result p old new answer is h =
    rw answer (subst (λ s. WriteRefused (queue_sink may o) old x error s) (sym is) h)

-- a flush that failed, and the writer was made to fail
pub flushes_lost : (may : Refusal → Type 0) (error : Error) (result : Result (Unit {0}) Error)
    (p : PortState) (old new : WriterState) → old.failed ≡ false → result ≡ Err error → new
    ≡ record { port = p; queued = 0; queue = 0; failed = true }
    → SendRefused may error old.port 0 p → Flushes may old result new
flushes_lost may error result p old new sound answer is h =
    flushes.was_refused error sound answer (subst (λ (s : WriterState). SendRefused may error old.port 0 s.port)
    (sym is) h) (ap (λ (s : WriterState). s.queued) is) (ap (λ (s : WriterState). s.failed) is)

-- what a push does is what the call does
pub pushes_writes : (may : Refusal → Type 0) (o : Order) (x : List Bool) (e : Encoder) (old : WriterState)
    (result : Result (Unit {0}) Error) (new : WriterState) → old.failed ≡ false → e ((queue_sink may o).len old) ≡ Ok x
    → Pushes may o x old result new → Writes (queue_sink may o) e old result new
pushes_writes may o x e old (Ok done) new sound is h = was_done x done sound is tt refl h
pushes_writes may o x e old (Err error) new sound is h = was_refused x error sound is tt refl h

-- what an aligned writer added to its stream, from the first bit on
pub adds_bits : {W E : Type 0} (O : OutputStream W) (o : Order)
    (a b : BitWriter W E) (x : List Bool) → Carries o (writer_state O a) x
    (writer_state O b) → a.queued ≡ 0
    → (8 * (writer_state O b).port.sent + b.queued) % 8 ≡ 0
    → AddsBits o (O.contents a.port.stream) x (O.contents b.port.stream)
adds_bits O o a b x h none aligned =
    let few : b.queued < 8 = b.few in
    let all : b.queued ≡ 0 = omega arith in
    record {
      bytes = h.bytes;
      grows = h.grows;
      bits =
          sym (sym (ap (λ (n : ℕ). word o n a.queue ++ x) none ∙ ap (λ w. w ++ x) (word-none o a.queue)) ∙ h.word
          ∙ ap (λ w. bits o h.bytes ++ w) (ap (λ (n : ℕ). word o n b.queue) all ∙ word-none o b.queue)
          ∙ append-nil (bits o h.bytes));
    }

pub one_word : (o : Order) (b : Bool) (n : ℕ) → n ≡ bool_byte b → word o 1 n ≡ b ∷ []
one_word o true n e = ap (word o 1) e ∙ word-bit o true
one_word o false n e = ap (word o 1) e ∙ word-bit o false

-- and of one bit
pub pushes_bit : (may : Refusal → Type 0) (o : Order) (b : Bool) (n : ℕ) (old : WriterState)
    (result : Result (Unit {0}) Error) (new : WriterState) → n ≡ bool_byte b → old.failed ≡ false
    → Pushes may o (word o 1 n) old result new
    → Writes (queue_sink may o) (bit b) old result new
pushes_bit may o b n old result new is sound h =
    pushes_writes may o (b ∷ []) (bit b) old result new sound refl
    (subst (λ w. Pushes may o w old result new) (one_word o b n is) h)

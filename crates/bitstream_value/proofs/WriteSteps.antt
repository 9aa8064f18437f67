-- Writes one after another, as the proof of a caller goes through them: `search (writes, FACTS)`, where the
-- facts are the clauses of the calls; and `search few_writes` where a function makes up to four calls.
use borrow.Author.Rules.{sfits_of}
use Rattle.std.proofs.Common.{◌≡◌, ℕ, ℤ, SFits, to_z, of_z, Continue, Break, ◌+◌, ◌*◌, ◌%◌, Bool, List, [], ◌∷◌, ◌++◌, length, Option, Some, Result, Ok, Err, replicate, refl, sym, ap, ◌∙◌, subst, inl, inr, false}
use Rattle.std.proofs.lemmas.Int.{to_z-of_z}
use Rattle.bitstream_order.specs.Reference.{Reference}
use Rattle.bitstream_order.specs.Streams.{OutputStream}
use Rattle.std.specs.Int.{Width}
use Rattle.std.specs.Result.{IsErrAnd, result_from_control_flow}
use Rattle.std.specs.declared.ops.ControlFlow.{ControlFlow}
use Rattle.std.specs.declared.io.ErrorKind.{ErrorKind}
use Rattle.bitstream_count.specs.declared.error.Error.{Error}
use Rattle.bitstream_count.specs.Codec.{Encoder}
use Rattle.bitstream_number.specs.Word.{Order, bits}
use Rattle.bitstream_stream.specs.declared.write.writer.BitWriter.{BitWriter}
use Rattle.bitstream_stream.specs.Writing.Carries.{WriterState}
use Rattle.bitstream_stream.specs.Sequence.{accepted_bits, write_sequence}
use Rattle.bitstream_stream.specs.Writing.Sink.{Sink, Writes, WritesAll, Appended, had_failed, was_rejected, past_limit, was_refused, was_done}
use Rattle.bitstream_stream.specs.Writing.Writer.{writer_state, new_writer_state, writer_sink, AddsBits}
use Rattle.bitstream_stream.proofs.Writing.WriteParts.{all_append, all_none, all_err, all_more, all_one, one_of_all}
use Rattle.bitstream_stream.proofs.Writing.WriteLemmas.{padded}
use Rattle.bitstream_stream.proofs.Writing.WriterLemmas.{adds_bits}
use Rattle.bitstream_stream.specs.Alignment.{to_boundary}
use Rattle.bitstream_stream.specs.Writing.WriteTable.{align, signed}
use Rattle.std.proofs.lemmas.List.{length-replicate}
pub use Rattle.bitstream_stream.proofs.Reading.ReadsLemmas.{first_name}

-- ---- what a function did that wrote

module _ {S : Type 0} (K : Sink S) (e : Encoder) (es : List Encoder) (r : Result (Unit {0}) Error) where
  -- a call that returned `Ok`, and what follows it
  pub next_call : (s t z : S) → Writes {T = Unit {0}} K e s (Ok tt) t → WritesAll K es t r z
      → WritesAll K (e ∷ es) s r z
  next_call s t z h k = all_more K e es s t r z h k

  -- a value that was written, and what follows it
  pub next_write : (s t z : S) → WritesAll K (e ∷ []) s (Ok tt) t → WritesAll K es t r z → WritesAll K (e ∷ es) s r z
  next_write s t z h k = next_call s t z (one_of_all K e s (Ok tt) t h) k

  -- a call whose error a `?` returned
  pub stop_call : (x : Error) (s t : S) → IsErrAnd r (λ y. y ≡ x) → Writes {T = Unit {0}} K e s (Err x) t
      → WritesAll K (e ∷ es) s r t
  stop_call x s t h k = elim r as (λ r. IsErrAnd r (λ y. y ≡ x) → WritesAll K (e ∷ es) s r t) [
    | Ok v ↦ λ h. absurd h
    | Err y ↦ λ h. all_err K e es s (Err y) x t (ap Err h) k
  ] h

  -- a value whose error a `?` returned
  pub stop_write : (x : Error) (s t : S) → IsErrAnd r (λ y. y ≡ x) → WritesAll K (e ∷ []) s (Err x) t
      → WritesAll K (e ∷ es) s r t
  stop_write x s t h k = stop_call x s t h (one_of_all K e s (Err x) t k)

  -- a call whose result a `?` checked, and what follows it; a proof's record has these facts
  pub then_call : (s t z : S) (answer : Result (Unit {0}) Error) (flow : ControlFlow _ (Unit {0}))
      → Writes K e s answer t → answer ≡ result_from_control_flow flow → flow ≡ Continue tt → WritesAll K es t r z
      → WritesAll K (e ∷ es) s r z
  then_call s t z answer flow h p q k = next_call s t z (subst (λ x. Writes K e s x t) (p
      ∙ ap result_from_control_flow q) h) k

  pub then_write : (s t z : S) (answer : Result (Unit {0}) Error) (flow : ControlFlow _ (Unit {0}))
      → WritesAll K (e ∷ []) s answer t → answer ≡ result_from_control_flow flow → flow ≡ Continue tt
      → WritesAll K es t r z → WritesAll K (e ∷ es) s r z
  then_write s t z answer flow h p q k = next_write s t z (subst (λ x. WritesAll K (e ∷ []) s x t) (p
      ∙ ap result_from_control_flow q) h) k

  -- and one whose error it returned
  pub end_call : (s t : S) (answer : Result (Unit {0}) Error) (flow : ControlFlow _ (Unit {0})) (x : _)
      → Writes K e s answer t → answer ≡ result_from_control_flow flow → flow ≡ Break x → IsErrAnd r (λ y. y ≡ x.0)
      → WritesAll K (e ∷ es) s r t
  end_call s t answer flow x h p q k = stop_call x.0 s t k (subst (λ y. Writes K e s y t) (p
      ∙ ap result_from_control_flow q) h)

  pub end_write : (s t : S) (answer : Result (Unit {0}) Error) (flow : ControlFlow _ (Unit {0})) (x : _)
      → WritesAll K (e ∷ []) s answer t → answer ≡ result_from_control_flow flow → flow ≡ Break x
      → IsErrAnd r (λ y. y ≡ x.0) → WritesAll K (e ∷ es) s r t
  end_write s t answer flow x h p q k = stop_write x.0 s t k (subst (λ y. WritesAll K (e ∷ []) s y t) (p
      ∙ ap result_from_control_flow q) h)

-- ---- a number of a signed type, which a call has as what its bits say

module _ {S : Type 0} (K : Sink S) (o : Order) (size n : ℕ) (w : Width) (x : ℤ) (s t : S)
    (r : Result (Unit {0}) Error) where
  pub signed_call : Writes K (signed o size n (to_z w (of_z w x))) s r t → SFits w x
      → Writes K (signed o size n x) s r t
  signed_call h fits = subst (λ z. Writes K (signed o size n z) s r t) (to_z-of_z w x fits) h

  pub signed_value : WritesAll K (signed o size n (to_z w (of_z w x)) ∷ []) s r t → SFits w x
      → WritesAll K (signed o size n x ∷ []) s r t
  signed_value h fits = subst (λ z. WritesAll K (signed o size n z ∷ []) s r t) (to_z-of_z w x fits) h

module _ {S : Type 0} (K : Sink S) (o : Order) (size n : ℕ) (x : ℤ) (es : List Encoder)
    (r : Result (Unit {0}) Error) (w : Width) (s t : S) where
  pub next_signed_call : (z : S) → Writes {T = Unit {0}} K (signed o size n (to_z w (of_z w x))) s (Ok tt) t → SFits w x
      → WritesAll K es t r z → WritesAll K (signed o size n x ∷ es) s r z
  next_signed_call z h fits k = next_call K _ es r s t z (signed_call K o size n w x s t (Ok tt) h fits) k

  pub next_signed : (z : S) → WritesAll K (signed o size n (to_z w (of_z w x)) ∷ []) s (Ok tt) t → SFits w x
      → WritesAll K es t r z → WritesAll K (signed o size n x ∷ es) s r z
  next_signed z h fits k = next_write K _ es r s t z (signed_value K o size n w x s t (Ok tt) h fits) k

  pub stop_signed_call : (e : Error) → IsErrAnd r (λ y. y ≡ e)
      → Writes {T = Unit {0}} K (signed o size n (to_z w (of_z w x))) s (Err e) t → SFits w x
      → WritesAll K (signed o size n x ∷ es) s r t
  stop_signed_call e k h fits = stop_call K _ es r e s t k (signed_call K o size n w x s t (Err e) h fits)

  pub stop_signed : (e : Error) → IsErrAnd r (λ y. y ≡ e)
      → WritesAll K (signed o size n (to_z w (of_z w x)) ∷ []) s (Err e) t → SFits w x
      → WritesAll K (signed o size n x ∷ es) s r t
  stop_signed e k h fits = stop_write K _ es r e s t k (signed_value K o size n w x s t (Err e) h fits)

  pub then_signed_call : (z : S) (answer : Result (Unit {0}) Error) (flow : ControlFlow _ (Unit {0}))
      → Writes K (signed o size n (to_z w (of_z w x))) s answer t → SFits w x
      → answer ≡ result_from_control_flow flow → flow ≡ Continue tt → WritesAll K es t r z
      → WritesAll K (signed o size n x ∷ es) s r z
  then_signed_call z answer flow h fits p q k = then_call K _ es r s t z answer flow
      (signed_call K o size n w x s t answer h fits) p q k

  pub then_signed : (z : S) (answer : Result (Unit {0}) Error) (flow : ControlFlow _ (Unit {0}))
      → WritesAll K (signed o size n (to_z w (of_z w x)) ∷ []) s answer t → SFits w x
      → answer ≡ result_from_control_flow flow → flow ≡ Continue tt → WritesAll K es t r z
      → WritesAll K (signed o size n x ∷ es) s r z
  then_signed z answer flow h fits p q k = then_write K _ es r s t z answer flow
      (signed_value K o size n w x s t answer h fits) p q k

  pub end_signed_call : (answer : Result (Unit {0}) Error) (flow : ControlFlow _ (Unit {0})) (e : _)
      → Writes K (signed o size n (to_z w (of_z w x))) s answer t → SFits w x
      → answer ≡ result_from_control_flow flow → flow ≡ Break e → IsErrAnd r (λ y. y ≡ e.0)
      → WritesAll K (signed o size n x ∷ es) s r t
  end_signed_call answer flow e h fits p q k = end_call K _ es r s t answer flow e
      (signed_call K o size n w x s t answer h fits) p q k

  pub end_signed : (answer : Result (Unit {0}) Error) (flow : ControlFlow _ (Unit {0})) (e : _)
      → WritesAll K (signed o size n (to_z w (of_z w x)) ∷ []) s answer t → SFits w x
      → answer ≡ result_from_control_flow flow → flow ≡ Break e → IsErrAnd r (λ y. y ≡ e.0)
      → WritesAll K (signed o size n x ∷ es) s r t
  end_signed answer flow e h fits p q k = end_write K _ es r s t answer flow e
      (signed_value K o size n w x s t answer h fits) p q k

-- each call that returned `Ok`, up to one whose error a `?` returned, or to the last: by the clauses of the
-- calls, which are listed; and by the fields of a proof's record, where the calls are few
pub ruleset writes = (
  next_call,
  next_write,
  stop_call,
  stop_write,
  next_signed,
  next_signed_call,
  stop_signed,
  stop_signed_call,
  all_one,
  all_none,
  signed_call,
  signed_value,
  sfits_of,
)

pub ruleset few_writes = (
  then_call,
  then_write,
  end_call,
  end_write,
  then_signed,
  end_signed,
  then_signed_call,
  end_signed_call,
  all_one,
  signed_value,
  signed_call,
  sfits_of,
)

-- ---- the encodings that were written

-- a call that returned `Ok` appended its encoding
wrote : {S : Type 0} (K : Sink S) (e : Encoder) (s t : S) → Writes {T = Unit {0}} K e s (Ok tt) t
    → Appended K s (accepted_bits (e (K.len s))) t
wrote K e s t (had_failed p q k) = cc
wrote K e s t (was_rejected error p q v k) = cc
wrote K e s t (past_limit y p q b v k) = cc
wrote K e s t (was_refused y error p q b v k) = cc
wrote K e s t (was_done y v p q b d k) = subst (λ w. Appended K s w t) (sym (ap accepted_bits q)) k

-- calls that returned `Ok` appended their write sequence
pub sequence_appended : {S : Type 0} (K : Sink S) (es : List Encoder) (s t : S) → K.failed s ≡ false
    → WritesAll K es s (Ok tt) t → Appended K s (write_sequence es (K.len s)) t
unfolding WritesAll
sequence_appended K [] s t sound p = subst (λ z. Appended K s [] z) (sym p.1) (record {
  grown = K.appends_nil s;
  sound =
      sound;
  refusals = refl;
  references = refl;
})
sequence_appended K (e ∷ es) s t sound (inl p) = let z = p.0 in cc
sequence_appended K (e ∷ es) s t sound (inr p) =
    let a = wrote K e s p.0 p.1 in
    let w = accepted_bits (e (K.len s)) in
    let far : K.len p.0 ≡ K.len s + length w = K.appends_len s p.0 w a.grown in
    let b = sequence_appended K es p.0 t a.sound p.2 in
    record {
      grown = K.appends_trans s p.0 t w (write_sequence es (K.len s + length w)) a.grown
          (subst (λ n. K.appends p.0 (write_sequence es n) t) far b.grown);
      sound = b.sound;
      refusals = b.refusals ∙ a.refusals;
      references = b.references ∙ a.references;
    }

-- ---- what a new writer's stream holds then, after a last alignment

-- a target whose contents are these bytes and references, and whose failures are these
abbrev pub output_told : {W : Type 0} → (W → Option (List ℕ)) → (W → List Reference)
    → (W → ℕ → ErrorKind → W → Type 0) → OutputStream W
output_told held references refuses = record {
  contents = held;
  references = references;
  refuses = refuses;
  flushes = λ _ _. Unit {0};
}

aligned : {S : Type 0} (K : Sink S) (s t : S) → Writes {T = Unit {0}} K align s (Ok tt) t → K.len t % 8 ≡ 0
aligned K s t h =
    let zeros = replicate (to_boundary (K.len s)) false in
    let far : K.len t ≡ K.len s + length zeros = K.appends_len s t zeros (wrote K align s t h).grown in
    rw (far, length-replicate (to_boundary (K.len s)) false) (padded (K.len s))

module _ {W E : Type 0} (held : W → Option (List ℕ)) (refuses : W → ℕ → ErrorKind → W → Type 0) (references : W
    → List Reference) (o : Order) (es : List Encoder) (known : Option (List ℕ)) (names : List Reference)
    (a m b : BitWriter W E) where
  packed : writer_state (output_told held references refuses) a ≡ new_writer_state known names
      → WritesAll (writer_sink (output_told held references refuses) o) es a (Ok tt) m
      → Writes {T = Unit {0}} (writer_sink (output_told held references refuses) o) align m (Ok tt) b
      → Appended (writer_sink (output_told held references refuses) o) a (write_sequence (es ++ align ∷ []) 0) b
  packed fresh h k =
      let K = writer_sink (output_told held references refuses) o in
      let start : K.len a ≡ 0 = ap (λ (s : WriterState). 8 * s.port.sent + s.queued) fresh in
      let all = all_append K es (align ∷ []) a m (Ok tt) b h (all_one K align m (Ok tt) b k) in
      subst (λ n. Appended K a (write_sequence (es ++ align ∷ []) n) b) start
      (sequence_appended K (es ++ align ∷ []) a b (ap (λ (s : WriterState). s.failed) fresh) all)

  -- the bits of the bytes that were added are the write sequence
  pub bytes_added : writer_state (output_told held references refuses) a ≡ new_writer_state known names
      → WritesAll (writer_sink (output_told held references refuses) o) es a (Ok tt) m
      → Writes {T = Unit {0}} (writer_sink (output_told held references refuses) o) align m (Ok tt) b
      → AddsBits o known (write_sequence (es ++ align ∷ []) 0) (held b.port.stream)
  bytes_added fresh h k =
      subst (λ z. AddsBits o z (write_sequence (es ++ align ∷ []) 0) (held b.port.stream))
      (ap (λ (s : WriterState). s.port.bytes) fresh)
      (adds_bits (output_told held references refuses) o a b (write_sequence (es ++ align ∷ []) 0) (packed fresh h k).grown
      (ap (λ (s : WriterState). s.queued) fresh) (aligned (writer_sink (output_told held references refuses) o) m b k))

  -- and the stream is reached as it was
  pub names_kept : writer_state (output_told held references refuses) a ≡ new_writer_state known names
      → WritesAll (writer_sink (output_told held references refuses) o) es a (Ok tt) m
      → Writes {T = Unit {0}} (writer_sink (output_told held references refuses) o) align m (Ok tt) b
      → references b.port.stream ≡ names
  names_kept fresh h k = (packed fresh h k).references ∙ ap (λ (s : WriterState). s.port.references) fresh

-- the bytes of a stream that held none
pub whole_bytes : {o : Order} {known : Option (List ℕ)} {x : List Bool} {xs : List ℕ} → known ≡ Some []
    → AddsBits o known x (Some xs) → bits o xs ≡ x
whole_bytes {o = o} {x = x} {xs = xs} none h = let k = subst (λ z. AddsBits o z x (Some xs)) none h in
    ap (bits o) k.grows ∙ k.bits

-- what a stream holds then that held no bytes, and through which references it is reached
pub record Packed (held : Option (List ℕ)) (reached : List Reference) (o : Order) (x : List Bool) (names : List Reference) :
    Type 0 where
  pub whole : {xs : List ℕ} → held ≡ Some xs → bits o xs ≡ x
  pub reached_as : reached ≡ names

pub packed_stream : {W E : Type 0} (held : W → Option (List ℕ)) {refuses : W → ℕ → ErrorKind → W
    → Type 0} (references : W → List Reference) {o : Order} (es : List Encoder) {known : Option (List ℕ)}
    {names : List Reference} (a : BitWriter W E) {m b : BitWriter W E}
    → known ≡ Some [] → writer_state (output_told held references refuses) a ≡ new_writer_state known names
    → WritesAll (writer_sink (output_told held references refuses) o) es a (Ok tt) m
    → Writes {T = Unit {0}} (writer_sink (output_told held references refuses) o) align m (Ok tt) b
    → Packed (held b.port.stream) (references b.port.stream) o (write_sequence (es ++ align ∷ []) 0) names
packed_stream held {refuses = refuses} references {o = o} es {known = known} {names = names} a {m = m} {b =
    b} none fresh h k = record {
      whole = λ {xs} is. whole_bytes none (subst (AddsBits o known (write_sequence (es ++ align ∷ []) 0)) is
          (bytes_added held refuses references o es known names a m b fresh h k));
      reached_as = names_kept held refuses references o es known names a m b fresh h k;
    }

-- Calls that are packed into a buffer.
use Rattle.std.proofs.Common.{◌≡◌, ◌∙◌, ℕ, ◌+◌, ◌*◌, ◌<◌, ◌≤◌, ◌⊎◌, inl, inr, Bool, false, List, [], ◌∷◌, ◌++◌, length, length-take-le, Option, None, Some, Result, Ok, Err, refl, sym, ap, subst, arith, length-append}
use Rattle.std.specs.Borrow.{GName}
use Rattle.std.specs.Prelude.{replicate, IsErr, IsOk}
use Rattle.std.specs.declared.io.ErrorKind.TheVariants.{WriteZero}
use Rattle.std.proofs.lemmas.Bool.{cases_lt}
use Rattle.std.proofs.lemmas.List.{length-replicate}
use Rattle.bitstream_number.specs.Word.{Order, bits}
use Rattle.bitstream_number.proofs.WordLemmas.{length-bits}
use Rattle.bitstream_count.specs.Codec.{Encoder, result_then}
use Rattle.bitstream_count.specs.declared.error.Error.{Error}
use Rattle.bitstream_count.specs.declared.error.Error.TheVariants.{Stream}
use Rattle.bitstream_order.specs.Fault.{refusal_of}
use Rattle.bitstream_order.specs.Reference.{Reference, to_slice}
use Rattle.bitstream_order.specs.Refusal.{Refusal, MayRefuseWrite}
use Rattle.bitstream_order.specs.Streaming.SliceMut.{HoldsFirst, slice_mut_stream, slice_name, slice_was, written_bytes}
use Rattle.bitstream_order.specs.declared.streams.slice_mut.SliceMut.{SliceMut}
use Rattle.bitstream_order.proofs.Streaming.SliceMutLemmas.{slice-holds, slice_lacks_room}
use Rattle.bitstream_stream.specs.Alignment.{to_boundary}
use Rattle.bitstream_stream.specs.Sequence.{accepted_bits, write_sequence}
use Rattle.bitstream_stream.specs.Writing.Room.{AllAccepted, HasRoom}
use Rattle.bitstream_stream.specs.Writing.Sink.{Sink, Writes, WritesAll, IsPastLimit, had_failed, was_rejected, past_limit, was_refused, was_done}
use Rattle.bitstream_stream.specs.Writing.WriteTable.{align}
use Rattle.bitstream_stream.specs.Writing.Writer.{new_writer_state, writer_sink, writer_state}
use Rattle.bitstream_stream.specs.Writing.Carries.{WriterState}
use Rattle.bitstream_stream.specs.declared.write.writer.BitWriter.{BitWriter}
use Rattle.bitstream_stream.proofs.Writing.RoomLemmas.{room-all}
use Rattle.bitstream_stream.proofs.Writing.WriteParts.{all_append, all_one, all_stop, one_of_all}
use Rattle.bitstream_value.specs.Lengths.{sequence_length}
use Rattle.bitstream_value.specs.Own.{OwnAnswer, WritesOwn}
use Rattle.bitstream_value.specs.PackInto.{PacksInto, error_or}
use Rattle.bitstream_value.proofs.LengthLemmas.{grown_by}
use Rattle.bitstream_value.proofs.OwnLemmas.{written_plainly}
use Rattle.bitstream_value.proofs.WriteSteps.{packed_stream}

-- ---- how long calls are that are all accepted

next_length : (e : Encoder) (es : List Encoder) (len : ℕ) (w : List Bool) → e len ≡ Ok w
    → sequence_length (e ∷ es) len ≡ result_then (sequence_length es (len + length w)) (λ more. Ok (length w + more))
next_length e es len w is = ap (λ (x : Result (List Bool) Error). result_then x
    (λ word. result_then (sequence_length es (len + length word)) (λ more. Ok (length word + more)))) is

rejects : (e : Encoder) (es : List Encoder) (len : ℕ) (x : Error) → e len ≡ Err x → sequence_length (e ∷ es) len ≡ Err x
rejects e es len x is = ap (λ (y : Result (List Bool) Error). result_then y
    (λ word. result_then (sequence_length es (len + length word)) (λ more. Ok (length word + more)))) is

-- calls that have a length are accepted, and it is that of their encodings
abbrev pub IsSequence : List Encoder → ℕ → ℕ → Type 0
IsSequence es len n = AllAccepted es len × (n ≡ length (write_sequence es len))

run_more : (e : Encoder) (es : List Encoder) (len n : ℕ) (w : List Bool) (x : Result ℕ Error) → e len ≡ Ok w
    → sequence_length es (len + length w) ≡ x → result_then x (λ more. Ok (length w + more)) ≡ Ok n
    → ((m : ℕ) → sequence_length es (len + length w) ≡ Ok m → IsSequence es (len + length w) m) → IsSequence (e ∷ es) len n
run_more e es len n w (Err x) is others h rest = cc
run_more e es len n w (Ok m) is others h rest =
    let all = rest m others in
    let same : length w + m ≡ n = cc in
    let sum = length-append w (write_sequence es (len + length w)) in
    let there = all.1 in
    rw is ((refl, all.0), omega (arith, same, sum, there))

run_by : (e : Encoder) (es : List Encoder) (len n : ℕ) (x : Result (List Bool) Error) → e len ≡ x
    → sequence_length (e ∷ es) len ≡ Ok n
    → ((at m : ℕ) → sequence_length es at ≡ Ok m → IsSequence es at m) → IsSequence (e ∷ es) len n
run_by e es len n (Err x) is h rest = let no = sym (rejects e es len x is) ∙ h in cc
run_by e es len n (Ok w) is h rest = run_more e es len n w (sequence_length es (len + length w)) is refl
    (sym (next_length e es len w is) ∙ h) (rest (len + length w))

pub run-accepted : (es : List Encoder) (len n : ℕ) → sequence_length es len ≡ Ok n → IsSequence es len n
run-accepted [] len n h = let none : 0 ≡ n = cc in (tt, sym none)
run-accepted (e ∷ es) len n h = run_by e es len n (e len) refl h (run-accepted es)

-- and the other way
pub accepted-run : (es : List Encoder) (len : ℕ) → AllAccepted es len → sequence_length es len ≡ Ok (length (write_sequence es len))
accepted-run [] len all = refl
accepted-run (e ∷ es) len all =
    let w = accepted_bits (e len) in
    next_length e es len w all.0
    ∙ ap (λ (x : Result ℕ Error). result_then x (λ more. Ok (length w + more))) (accepted-run es (len + length w) all.1)
    ∙ ap Ok (sym (length-append w (write_sequence es (len + length w))))

-- ---- an alignment after calls

accepted_aligned : (es : List Encoder) (n : ℕ) → AllAccepted es n → AllAccepted (es ++ align ∷ []) n
accepted_aligned [] n all = (refl, tt)
accepted_aligned (e ∷ es) n all = (all.0, accepted_aligned es (n + length (accepted_bits (e n))) all.1)

-- how many bits it makes of theirs
aligned_length : (es : List Encoder) (n : ℕ) → let more = n + length (write_sequence es n) in
    n + length (write_sequence (es ++ align ∷ []) n) ≡ more + to_boundary more
aligned_length [] n =
    let none : n + 0 ≡ n = omega arith in
    let zeros = length-append (replicate (to_boundary n) false) [] in
    let long = length-replicate (to_boundary n) false in
    rw none (omega (arith, zeros, long))
aligned_length (e ∷ es) n =
    let w = accepted_bits (e n) in
    let rest = aligned_length es (n + length w) in
    let all = length-append w (write_sequence (es ++ align ∷ []) (n + length w)) in
    let less = length-append w (write_sequence es (n + length w)) in
    let here : n + length w + length (write_sequence es (n + length w)) ≡ n + length (w ++ write_sequence es (n + length w)) =
    omega (arith, less) in
    let there : n + length (w ++ write_sequence (es ++ align ∷ []) (n + length w))
    ≡ n + length w + length (write_sequence (es ++ align ∷ []) (n + length w)) = omega (arith, all) in
    there ∙ rest ∙ ap (λ (k : ℕ). k + to_boundary k) here

boundary-within : (k n : ℕ) → k ≤ 8 * n → k + to_boundary k ≤ 8 * n
boundary-within k n enough = omega arith

aligned_fits : (es : List Encoder) (n : ℕ) → length (write_sequence es 0) ≤ 8 * n
    → length (write_sequence (es ++ align ∷ []) 0) ≤ 8 * n
aligned_fits es n enough =
    let all = aligned_length es 0 in
    let none : 0 + length (write_sequence es 0) ≡ length (write_sequence es 0) = omega arith in
    let most = boundary-within (length (write_sequence es 0)) n enough in
    let long : 0 + length (write_sequence (es ++ align ∷ []) 0)
    ≡ length (write_sequence es 0) + to_boundary (length (write_sequence es 0)) = all ∙ ap (λ (k : ℕ). k + to_boundary k) none in
    omega (arith, long, most)

aligned_more : (es : List Encoder) → length (write_sequence es 0) ≤ length (write_sequence (es ++ align ∷ []) 0)
aligned_more es =
    let all = aligned_length es 0 in
    omega (arith, all)

module _ {S : Type 0} (K : Sink S) where
  -- calls that are all done, in two parts
  pub all_split : (es fs : List Encoder) (s t : S) → WritesAll K (es ++ fs) s (Ok tt) t
      → (m : S) × WritesAll K es s (Ok tt) m × WritesAll K fs m (Ok tt) t
  unfolding WritesAll
  all_split [] fs s t h = (s, (refl, refl), h)
  all_split (e ∷ es) fs s t (inl p) = let z = p.0 in cc
  all_split (e ∷ es) fs s t (inr p) = let rest = all_split es fs p.0 t p.2 in (rest.0, inr (p.0, p.1, rest.1), rest.2)

  -- calls, and then an alignment
  pub write_aligned : (es : List Encoder) (s m t : S) (r : Result (Unit {0}) Error) → WritesAll K es s (Ok tt) m
      → Writes K align m r t → WritesAll K (es ++ align ∷ []) s r t
  write_aligned es s m t r h k = all_append K es (align ∷ []) s m r t h (all_one K align m r t k)

  plain_by : (becomes : Error → Error → Type 0) → ((error own : Error) → becomes error own → own ≡ error)
      → (answer : Result (Unit {0}) Error) → answer ≡ Ok tt → (es : List Encoder) (r : Result (Unit {0}) Error) (s t : S)
      → (plain : Result (Unit {0}) Error) → WritesAll K es s plain t → OwnAnswer becomes (λ _. answer) plain r
      → WritesAll K es s r t
  plain_by becomes same answer ok es r s t (Ok v) h is = subst (λ (x : Result _ Error). WritesAll K es s x t) (sym (is ∙ ok)) h
  plain_by becomes same answer ok es (Ok v) s t (Err x) h is = absurd is
  plain_by becomes same answer ok es (Err y) s t (Err x) h is =
      subst (λ (z : Error). WritesAll K es s (Err z) t) (sym (same x y is)) h

  -- writes of a type whose errors are the sink's
  pub written_as : {becomes : Error → Error → Type 0} → ((error own : Error) → becomes error own → own ≡ error)
      → (answer : Result (Unit {0}) Error) → answer ≡ Ok tt → (es : List Encoder) (r : Result (Unit {0}) Error) (s t : S)
      → WritesOwn K becomes es answer s r t → WritesAll K es s r t
  written_as {becomes = becomes} same answer ok es r s t h =
      plain_by becomes same answer ok es r s t h.plain h.called h.answer

-- ---- a sink with room for all calls

-- an I/O error
abbrev pub IsFaultOf : {S : Type 0} → Sink S → Error → Type 0
IsFaultOf K error = (refusal : Refusal) × K.may refusal × (error ≡ refusal_of refusal.kind)

-- no number of bits up to n is past the sink's limit
abbrev pub IsRoomy : {S : Type 0} → Sink S → ℕ → Type 0
IsRoomy K n = (m : ℕ) → m ≤ n → IsPastLimit K.limit m → ⊥

-- a sink without a limit has room for any number of bits
pub free-roomy : {S : Type 0} (K : Sink S) → K.limit ≡ None → (n : ℕ) → IsRoomy K n
free-roomy K free n m le past = subst (λ l. IsPastLimit l m) free past

next_sequence : (e : Encoder) (es : List Encoder) (len : ℕ) (w : List Bool) → e len ≡ Ok w
    → write_sequence (e ∷ es) len ≡ w ++ write_sequence es (len + length w)
next_sequence e es len w is = ap (λ (x : Result (List Bool) Error).
    accepted_bits x ++ write_sequence es (len + length (accepted_bits x))) is

module _ {S : Type 0} (K : Sink S) where
  -- the number of bits after all calls
  abbrev after : List Encoder → S → ℕ
  after es s = K.len s + length (write_sequence es (K.len s))

  one_error : (e : Encoder) (es : List Encoder) (s : S) (x : Error) (t : S) → K.failed s ≡ false
      → IsRoomy K (after (e ∷ es) s) → Writes {T = Unit {0}} K e s (Err x) t
      → (sequence_length (e ∷ es) (K.len s) ≡ Err x) ⊎ IsFaultOf K x
  one_error e es s x t sound room (had_failed f is k) = cc
  one_error e es s x t sound room (was_rejected y f en is k) = let same : y ≡ x = cc in
      inl (rejects e es (K.len s) y en ∙ ap Err same)
  one_error e es s x t sound room (past_limit w f en over is k) =
      let all = ap length (next_sequence e es (K.len s) w en)
      ∙ length-append w (write_sequence es (K.len s + length w)) in
      absurd (room (K.len s + length w) (omega (arith, all)) over)
  one_error e es s x t sound room (was_refused w y f en le is k) = let same : x ≡ y = cc in
      inr (k.refusal, k.allowed, same ∙ k.answer)
  one_error e es s x t sound room (was_done w v f en le is k) = cc

  one_done : (e : Encoder) (s t : S) → Writes {T = Unit {0}} K e s (Ok tt) t
      → (w : List Bool) × (e (K.len s) ≡ Ok w) × (K.len t ≡ K.len s + length w) × (K.failed t ≡ false)
  one_done e s t (had_failed f is k) = cc
  one_done e s t (was_rejected y f en is k) = cc
  one_done e s t (past_limit w f en over is k) = cc
  one_done e s t (was_refused w y f en le is k) = cc
  one_done e s t (was_done w v f en le is k) = (w, en, K.appends_len s t w k.grown, k.sound)

  after_done : (e : Encoder) (es : List Encoder) (s m : S) (x : Error) → Writes {T = Unit {0}} K e s (Ok tt) m
      → (sequence_length es (K.len m) ≡ Err x) ⊎ IsFaultOf K x → (sequence_length (e ∷ es) (K.len s) ≡ Err x) ⊎ IsFaultOf K x
  after_done e es s m x done (inl rest) =
      let one = one_done e s m done in
      let there : sequence_length es (K.len s + length one.0) ≡ Err x = ap (sequence_length es) (sym one.2) ∙ rest in
      inl (next_length e es (K.len s) one.0 one.1
      ∙ ap (λ (y : Result ℕ Error). result_then y (λ more. Ok (length one.0 + more))) there)
  after_done e es s m x done (inr fault) = inr fault

  -- the calls that follow one that was done have room too
  room_left : (e : Encoder) (es : List Encoder) (s m : S) → Writes {T = Unit {0}} K e s (Ok tt) m
      → IsRoomy K (after (e ∷ es) s) → IsRoomy K (after es m)
  room_left e es s m done room =
      let one = one_done e s m done in
      let all = ap length (next_sequence e es (K.len s) one.0 one.1)
      ∙ length-append one.0 (write_sequence es (K.len s + length one.0)) in
      let rest = ap (λ (k : ℕ). length (write_sequence es k)) one.2 in
      let ends = one.2 in
      λ n le past. room n (omega (arith, le, all, rest, ends)) past

  -- an error of calls is the first that one of them has, or of a failed request
  pub error_within : (es : List Encoder) (s : S) (x : Error) (t : S) → K.failed s ≡ false → IsRoomy K (after es s)
      → WritesAll K es s (Err x) t → (sequence_length es (K.len s) ≡ Err x) ⊎ IsFaultOf K x
  unfolding WritesAll
  error_within [] s x t sound room p = let z = p.0 in cc
  error_within (e ∷ es) s x t sound room (inl p) = one_error e es s x t sound room p.1
  error_within (e ∷ es) s x t sound room (inr p) = after_done e es s p.0 x p.1
      (error_within es p.0 x t (one_done e s p.0 p.1).3 (room_left e es s p.0 p.1 room) p.2)

module _ {S : Type 0} (K : Sink S) (free : K.limit ≡ None) where
  -- the same of a sink without a limit
  pub all_error : (es : List Encoder) (s : S) (x : Error) (t : S) → K.failed s ≡ false → WritesAll K es s (Err x) t
      → (sequence_length es (K.len s) ≡ Err x) ⊎ IsFaultOf K x
  all_error es s x t sound h = error_within K es s x t sound (free-roomy K free _) h

  -- an alignment has none of its own
  pub align_error : (s : S) (x : Error) (t : S) → K.failed s ≡ false → Writes {T = Unit {0}} K align s (Err x) t
      → IsFaultOf K x
  align_error s x t sound h =
      elim (one_error K align [] s x t sound (free-roomy K free _) h) [ inl own ↦ let z = own in cc | inr fault ↦ fault ]

-- calls whose sink never fails
pub sure_error : {S : Type 0} (K : Sink S) → K.limit ≡ None → ((x : Refusal) → K.may x → ⊥) → (es : List Encoder)
    (s : S) (x : Error) (t : S) → K.failed s ≡ false → WritesAll K es s (Err x) t → sequence_length es (K.len s) ≡ Err x
sure_error K free never es s x t sound h =
    elim (all_error K free es s x t sound h) [ inl own ↦ own | inr fault ↦ absurd (never fault.0 fault.1) ]

-- ---- bytes in memory

-- a failure of theirs is one of no room
no_room : (x : Refusal) → MayRefuseWrite slice_mut_stream x → refusal_of x.kind ≡ Stream WriteZero
no_room x may = ap refusal_of may.refused.0

front_name : GName → List Reference → GName
front_name other [] = other
front_name other (reference ∷ others) = reference.name

prefix_was : List Reference → Option (List ℕ)
prefix_was [] = None
prefix_was (reference ∷ others) = reference.was

same_name : (a b : GName) (xs ys : List ℕ) → to_slice a xs ∷ [] ≡ to_slice b ys ∷ [] → a ≡ b
unfolding front_name
same_name a b xs ys h = ap (front_name a) h

same_bytes : (a b : GName) (xs ys : List ℕ) → to_slice a xs ∷ [] ≡ to_slice b ys ∷ [] → xs ≡ ys
unfolding prefix_was
same_bytes a b xs ys h = let told : Some xs ≡ Some ys = ap prefix_was h in cc

holds_by : (name : GName) (was : List ℕ) (s : SliceMut) → slice_name s ≡ name → slice_was s ≡ was → HoldsFirst name was s
holds_by name was s is held =
    subst (λ (n : GName). HoldsFirst n was s) is (subst (λ (xs : List ℕ). HoldsFirst (slice_name s) xs s) held
    (slice-holds s))

written_within : (s : SliceMut) (was : List ℕ) → slice_was s ≡ was → length (written_bytes s) ≤ length was
written_within s was held =
    let few = length-take-le s.written s.bytes.now s.room in
    let all = s.len in
    let room = s.room in
    let same = ap (λ (xs : List ℕ). length xs) held in
    omega (arith, few, all, room, same)

module _ {E : Type 0} (o : Order) (e : Encoder) (s : BitWriter SliceMut E) where
  abbrev sink_of : Sink (BitWriter SliceMut E)
  sink_of = writer_sink slice_mut_stream o

  one_lacks : (x : Error) (t : BitWriter SliceMut E) → sink_of.failed s ≡ false
      → e (sink_of.len s) ≡ Ok (accepted_bits (e (sink_of.len s))) → Writes {T = Unit {0}} sink_of e s (Err x) t
      → x ≡ Stream WriteZero
  one_lacks x t fine all (had_failed f is k) = cc
  one_lacks x t fine all (was_rejected y f en is k) = cc
  one_lacks x t fine all (past_limit w f en over is k) = absurd over
  one_lacks x t fine all (was_refused w y f en le is k) =
      let same : y ≡ x = cc in sym same ∙ k.answer ∙ no_room k.refusal k.allowed
  one_lacks x t fine all (was_done w v f en le is k) = cc

  one_accepted : (t : BitWriter SliceMut E) → Writes {T = Unit {0}} sink_of e s (Ok tt) t
      → (sink_of.len t ≡ sink_of.len s + length (accepted_bits (e (sink_of.len s)))) × (sink_of.failed t ≡ false)
  one_accepted t (had_failed f is k) = cc
  one_accepted t (was_rejected y f en is k) = cc
  one_accepted t (past_limit w f en over is k) = cc
  one_accepted t (was_refused w y f en le is k) = cc
  one_accepted t (was_done w v f en le is k) = (
    sink_of.appends_len s t w k.grown ∙ ap (λ (x : Result (List Bool) Error). sink_of.len s + length (accepted_bits x))
        (sym en),
    k.sound,
  )

module _ {E : Type 0} (o : Order) (a : BitWriter SliceMut E) {name : GName} {was : List ℕ}
    (fresh : writer_state slice_mut_stream a ≡ new_writer_state (Some []) (to_slice name was ∷ [])) where
  abbrev slice_sink : Sink (BitWriter SliceMut E)
  slice_sink = writer_sink slice_mut_stream o

  started : slice_sink.len a ≡ 0
  started = ap (λ (s : WriterState). 8 * s.port.sent + s.queued) fresh

  sound : slice_sink.failed a ≡ false
  sound = ap (λ (s : WriterState). s.failed) fresh

  -- calls that are accepted have no error but want of room
  lacks : (es : List Encoder) (s : BitWriter SliceMut E) (x : Error) (t : BitWriter SliceMut E)
      → slice_sink.failed s ≡ false → AllAccepted es (slice_sink.len s) → WritesAll slice_sink es s (Err x) t
      → x ≡ Stream WriteZero
  unfolding WritesAll
  lacks [] s x t fine all p = let z = p.0 in cc
  lacks (e ∷ es) s x t fine all (inl p) = one_lacks o e s x t fine all.0 p.1
  lacks (e ∷ es) s x t fine all (inr p) =
      let one = one_accepted o e s p.0 p.1 in
      lacks es p.0 x t one.1 (subst (AllAccepted es) (sym one.0) all.1) p.2

  -- as many bits as the slice has room for
  room_for : (n : ℕ) → n ≤ 8 * length was → HasRoom (writer_state slice_mut_stream a) n
  room_for n enough = rw fresh (record {
    held = [];
    most = length was;
    told = refl;
    capacity = refl;
    room = omega arith;
  })

  module _ (es : List Encoder) (b : BitWriter SliceMut E) where
    -- calls that are all done
    pub packs_done : WritesAll slice_sink (es ++ align ∷ []) a (Ok tt) b → PacksInto o es name was (Ok b.port.stream)
    packs_done h =
        let parts = all_split slice_sink es (align ∷ []) a b h in
        let last = one_of_all slice_sink align parts.0 (Ok tt) b parts.2 in
        let all = packed_stream _ _ es a refl fresh parts.1 last in
        let whole : bits o (written_bytes b.port.stream) ≡ write_sequence (es ++ align ∷ []) 0 = all.whole refl in
        let held = same_bytes _ _ _ _ all.reached_as in
        let length_told = grown_by slice_sink es a parts.0 parts.1 in
        let accepted_all : sequence_length es 0 ≡ Ok length_told.0 = ap (sequence_length es) (sym started) ∙ length_told.1 in
        record {
          packed = whole;
          first = holds_by name was b.port.stream (same_name _ _ _ _ all.reached_as) held;
          misfit = λ error is. cc;
          room = λ n is enough. refl;
          short = λ n is few.
              let run = (run-accepted es 0 n is).1 in
              let more = aligned_more es in
              let size = ap (λ (w : List Bool). length w) whole in
              let bytes = length-bits o (written_bytes b.port.stream) in
              let within = written_within b.port.stream was held in
              absurd (omega (arith, few, run, more, size, bytes, within));
        }

    -- calls that are accepted, of which one had an error all the same
    module _ (x : Error) (h : WritesAll slice_sink (es ++ align ∷ []) a (Err x) b) (n : ℕ) (is : sequence_length es 0
        ≡ Ok n) where
      abbrev all_accepted : AllAccepted (es ++ align ∷ []) (slice_sink.len a)
      all_accepted = subst (AllAccepted (es ++ align ∷ [])) (sym started)
          (accepted_aligned es 0 (run-accepted es 0 n is).0)

      -- there is no room for them
      no_error : n ≤ 8 * length was → ⊥
      no_error enough =
          let run = (run-accepted es 0 n is).1 in
          let less : length (write_sequence es 0) ≤ 8 * length was = omega (arith, enough, run) in
          let fits = aligned_fits es (length was) less in
          let done = room-all (writer_state slice_mut_stream) (MayRefuseWrite slice_mut_stream) o (es ++ align ∷ []) a b
          (Err x) slice_lacks_room sound all_accepted
          (subst (λ (k : ℕ). HasRoom (writer_state slice_mut_stream a) (length (write_sequence (es ++ align ∷ []) k)))
          (sym started) (room_for (length (write_sequence (es ++ align ∷ []) 0)) fits)) h in
          cc

      packs_short : PacksInto o es name was (Err x)
      packs_short = record {
        packed = tt;
        first = tt;
        misfit = λ error is'. cc;
        room = λ m is' enough. let same : m ≡ n = cc in absurd (no_error (subst (λ (k : ℕ). k ≤ 8 * length was) same enough));
        short = λ m is' few. ap Err (lacks (es ++ align ∷ []) a x b sound all_accepted h);
      }

    packs_by : (x : Error) → WritesAll slice_sink (es ++ align ∷ []) a (Err x) b → (long : Result ℕ Error)
        → sequence_length es 0 ≡ long → PacksInto o es name was (Err (error_or long x))
    packs_by x h (Ok n) is = packs_short x h n is
    packs_by x h (Err error) is = record {
      packed = tt;
      first = tt;
      misfit = λ other is'. let same : error ≡ other = cc in ap Err same;
      room = λ n is' enough. cc;
      short = λ n is' few. cc;
    }

    -- calls of which one had an error
    pub packs_error : (x : Error) → WritesAll slice_sink (es ++ align ∷ []) a (Err x) b
        → PacksInto o es name was (Err (error_or (sequence_length es 0) x))
    packs_error x h = packs_by x h (sequence_length es 0) refl

-- Checksums of lines: of what a writer that keeps no byte was given, and that they fit their bits.
use Rattle.std.proofs.Common.{◌≡◌, ◌∙◌, ℕ, zero, suc, ◌+◌, ◌*◌, ◌/◌, ◌%◌, ◌^◌, ◌<◌, ◌≤◌, Bool, false, List, [], ◌∷◌, ◌++◌, length, replicate, Option, None, Some, Result, Ok, Err, refl, sym, ap, subst, arith, length-append, append-nil}
use Rattle.std.specs.Io.KnownBytes.{Appends}
use Rattle.std.specs.Prelude.{slice_index}
use Rattle.std.specs.declared.io.ErrorKind.{ErrorKind}
use Rattle.std.proofs.lemmas.List.{length-replicate}
use Rattle.bitstream_number.specs.Word.{Order, word, bits, bytes_of}
use Rattle.bitstream_number.proofs.Bytes.{AreBytes, AreBytes-from}
use Rattle.bitstream_number.proofs.ByteLemmas.{bytes_of-bits}
use Rattle.bitstream_number.proofs.WordLemmas.{length-bits}
use Rattle.bitstream_count.specs.Codec.{Encoder}
use Rattle.bitstream_count.specs.declared.error.Error.{Error}
use Rattle.bitstream_order.specs.Reference.{Reference}
use Rattle.bitstream_order.specs.Refusal.{Refusal}
use Rattle.bitstream_order.specs.Streams.{OutputStream}
use Rattle.bitstream_order.proofs.Moving.TakeLemmas.{word-none}
use Rattle.bitstream_stream.specs.Alignment.{to_boundary}
use Rattle.bitstream_stream.specs.Sequence.{write_sequence}
use Rattle.bitstream_stream.specs.Writing.Carries.{WriterState, Carries}
use Rattle.bitstream_stream.specs.Writing.CarriesLaws.{Carries-len, Carries-trans}
use Rattle.bitstream_stream.specs.Writing.Sink.{Sink, Writes, WritesAll, had_failed, was_rejected, past_limit, was_refused, was_done}
use Rattle.bitstream_stream.specs.Writing.WriteTable.{align}
use Rattle.bitstream_stream.specs.Writing.Writer.{has_failed, new_writer_state, writer_sink, writer_state}
use Rattle.bitstream_stream.specs.declared.write.writer.BitWriter.{BitWriter}
use Rattle.bitstream_value.specs.Lengths.{sequence_length}
use Rattle.bitstream_value.proofs.LengthLemmas.{grown_by}
use Rattle.bitstream_value.proofs.PackIntoLemmas.{sure_error}
use Rattle.bitstream_value.proofs.WriteSteps.{output_told, sequence_appended}
use Rattle.bitstream_format.specs.Summed.{lines_sum, or_none, padded_bits, whole_bytes}

-- ---- a checksum fits its bits

small_or_none : (x : Result ℕ Error) (sum most : ℕ) → sum < most → or_none x sum < most
small_or_none (Ok n) sum most small = small
small_or_none (Err error) sum most small = omega (arith, small)

pub lines_sum-small : (sum : List ℕ → ℕ) (o : Order) (lines : List Encoder) (n : ℕ) → ((bytes : List ℕ) → sum bytes < 2 ^ n)
    → lines_sum sum o lines < 2 ^ n
unfolding lines_sum
lines_sum-small sum o lines n small =
    small_or_none (sequence_length lines 0) _ (2 ^ n) (small (whole_bytes o (write_sequence lines 0)))

-- ---- lists of bytes

pub bytes-append : (xs ys : List ℕ) → ((k : ℕ) → slice_index xs k < 256) → ((k : ℕ) → slice_index ys k < 256)
    → (k : ℕ) → slice_index (xs ++ ys) k < 256
bytes-append [] ys one two k = two k
bytes-append (x ∷ xs) ys one two zero = one 0
bytes-append (x ∷ xs) ys one two (suc k) = bytes-append xs ys (λ j. one (suc j)) two k

-- ---- a writer that was aligned

-- a new writer of bytes that are all known
abbrev fresh : WriterState
fresh = new_writer_state (Some []) []

align_done : {S : Type 0} (K : Sink S) (s t : S) → Writes {T = Unit {0}} K align s (Ok tt) t
    → K.appends s (replicate (to_boundary (K.len s)) false) t
align_done K s t (had_failed f is k) = cc
align_done K s t (was_rejected y f en is k) = cc
align_done K s t (past_limit w f en over is k) = cc
align_done K s t (was_refused w y f en le is k) = cc
align_done K s t (was_done w v f en le is k) =
    let same : replicate (to_boundary (K.len s)) false ≡ w = cc in subst (λ w. K.appends s w t) (sym same) k.grown

-- what known bytes grow to
grown_to : (held : Option (List ℕ)) (xs more : List ℕ) → held ≡ Some xs → Appends (Some []) held more
    → Some xs ≡ Some ([] ++ more)
grown_to (Some ys) xs more known grows = sym known ∙ ap Some grows
grown_to None xs more known grows = absurd grows

-- bytes with some bits are the bytes of these bits
bytes-are : (o : Order) (x : List Bool) (xs : List ℕ) → padded_bits x ≡ bits o xs → AreBytes xs → whole_bytes o x ≡ xs
unfolding whole_bytes
bytes-are o x xs same bytes =
    let long : length (bits o xs) / 8 ≡ length xs = let all = length-bits o xs in omega (arith, all) in
    ap (λ w. bytes_of o (length w / 8) w) same ∙ ap (λ n. bytes_of o n (bits o xs)) long ∙ bytes_of-bits o xs bytes

module _ {W : Type 0} (held : W → Option (List ℕ)) (references : W → List Reference)
    (refuses : W → ℕ → ErrorKind → W → Type 0) (o : Order) where
  -- what is known of the stream
  abbrev O : OutputStream W
  O = output_told held references refuses

  module _ {E : Type 0} where
    abbrev K : Sink (BitWriter W E)
    K = writer_sink O o

    -- the bytes that a new writer sent, once bits and an alignment were written
    pub whole-sent : (x : List Bool) (s t : BitWriter W E) (xs : List ℕ) → Carries o fresh x (writer_state O s)
        → Writes {T = Unit {0}} K align s (Ok tt) t → held t.port.stream ≡ Some xs
        → ((k : ℕ) → slice_index xs k < 256) → whole_bytes o x ≡ xs
    whole-sent x s t xs carries done known small =
        let here = Carries-len o fresh (writer_state O s) x carries in
        let far : K.len s ≡ length x = omega (arith, here) in
        let zeros = align_done K s t done in
        let all : Carries o fresh (padded_bits x) (writer_state O t) =
        Carries-trans o fresh (writer_state O s) (writer_state O t) x _ carries
        (subst (λ n. Carries o (writer_state O s) (replicate (to_boundary n) false) (writer_state O t)) far zeros) in
        let ends : 8 * (writer_state O t).port.sent + t.queued ≡ 8 * 0 + 0 + length (padded_bits x) =
        Carries-len o fresh (writer_state O t) (padded_bits x) all in
        let long = length-append x (replicate (to_boundary (length x)) false) in
        let rest = length-replicate (to_boundary (length x)) false in
        let few : t.queued < 8 = t.few in
        let none : t.queued ≡ 0 = omega (arith, ends, long, rest, few) in
        let grown : Some xs ≡ Some ([] ++ all.bytes) =
        grown_to (held t.port.stream) xs all.bytes known all.grows in
        let is : xs ≡ all.bytes = cc in
        let whole : padded_bits x ≡ bits o all.bytes =
        sym (ap (λ w. w ++ padded_bits x) (word-none o 0)) ∙ all.word
        ∙ ap (λ (n : ℕ). bits o all.bytes ++ word o n t.queue) none
        ∙ ap (λ w. bits o all.bytes ++ w) (word-none o t.queue) ∙ append-nil (bits o all.bytes) in
        bytes-are o x xs (whole ∙ ap (bits o) (sym is)) (AreBytes-from xs small)

    -- an alignment of a writer whose stream never fails is done
    pub aligns : (s t : BitWriter W E) (x : Error) → ((before after : W) (n : ℕ) (kind : ErrorKind) → refuses before n kind after → ⊥)
        → has_failed s ≡ false → Writes {T = Unit {0}} K align s (Err x) t → ⊥
    aligns s t x never sound (had_failed f is k) = cc
    aligns s t x never sound (was_rejected y f en is k) = cc
    aligns s t x never sound (past_limit w f en over is k) = absurd over
    aligns s t x never sound (was_refused w y f en le is k) = never k.allowed.old k.allowed.new _ _ k.allowed.refused
    aligns s t x never sound (was_done w v f en le is k) = cc

    -- ---- the checksum of lines that a new writer was given

    module _ (sum : List ℕ → ℕ) (lines : List Encoder) (a b : BitWriter W E) (new : writer_state O a ≡ fresh) where
      -- all of them
      pub summed : WritesAll K lines a (Ok tt) b → (result : ℕ)
          → ((x : List Bool) → has_failed b ≡ false → Carries o fresh x (writer_state O b) → result ≡ sum (whole_bytes o x))
          → result ≡ lines_sum sum o lines
      unfolding lines_sum
      summed done result is =
          let start : K.len a ≡ 0 = ap (λ (s : WriterState). 8 * s.port.sent + s.queued) new in
          let sound : K.failed a ≡ false = ap (λ (s : WriterState). s.failed) new in
          let all = sequence_appended K lines a b sound done in
          let grown : Carries o fresh (write_sequence lines 0) (writer_state O b) =
          subst (λ (s : WriterState). Carries o s (write_sequence lines 0) (writer_state O b)) new
          (subst (λ n. Carries o (writer_state O a) (write_sequence lines n) (writer_state O b)) start all.grown) in
          let told = grown_by K lines a b done in
          let long : sequence_length lines 0 ≡ Ok told.0 = ap (sequence_length lines) (sym start) ∙ told.1 in
          is (write_sequence lines 0) all.sound grown
          ∙ sym (ap (λ n. or_none n (sum (whole_bytes o (write_sequence lines 0)))) long)

      -- up to one that does not fit its bits
      pub unsummed : ((x : Refusal) → K.may x → ⊥) → (error : Error)
          → WritesAll K lines a (Err error) b → 0 ≡ lines_sum sum o lines
      unfolding lines_sum
      unsummed never error done =
          let start : K.len a ≡ 0 = ap (λ (s : WriterState). 8 * s.port.sent + s.queued) new in
          let sound : K.failed a ≡ false = ap (λ (s : WriterState). s.failed) new in
          let all = sure_error K refl never lines a error b sound done in
          let short : sequence_length lines 0 ≡ Err error = ap (sequence_length lines) (sym start) ∙ all in
          sym (ap (λ n. or_none n (sum (whole_bytes o (write_sequence lines 0)))) short)

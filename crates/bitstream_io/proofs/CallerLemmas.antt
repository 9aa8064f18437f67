-- What callers' proofs need. The usual lemmas and words of std are passed on, so that one line imports them. The
-- lemmas stated here are about results, constants, branches, errors of a caller's own, items in a loop, numbers that
-- are computed, and round trips by parts.
use borrow.Author.Rules.{sfits_of}
use Rattle.std.proofs.Common.{◌⊎◌, ℤ, SFits, to_z, of_z, suc, Continue, Break, get_or, ◌*◌, ◌%◌, ◌≤◌, ◌==◌, Bool, true, false, length, take, drop, Option, None, Result, Err, subst, add-one, pow-suc}
use Rattle.std.specs.Option.{ForSome}
use Rattle.std.specs.Prelude.{All, IfOk, is_some, nat_le, nat_lt, flat_map, map, if◌then◌else◌}
use Rattle.std.specs.Int.{Width}
use Rattle.std.specs.Int.Count.{count_leading_zeros}
use Rattle.std.proofs.lemmas.Bool.{le-leb, leb-true, lt-leb, eq-eqb, ne_eqb}
use Rattle.std.proofs.lemmas.Bool.Decides.{nat_tests}
use Rattle.bitstream_order.specs.Reference.{Reference}
use Rattle.std.proofs.Math.Pow.{pow_mono}
use Rattle.std.proofs.lemmas.List.Elements.{All-weaker}
use Rattle.std.proofs.lemmas.Int.{to_z-of_z}
use Rattle.std.proofs.lemmas.Nat.{leading_top}
use Rattle.std.specs.Result.{IsErrAnd, result_from_control_flow}
use Rattle.std.specs.declared.ops.ControlFlow.{ControlFlow}
use Rattle.bitstream_count.specs.declared.error.Error.{Error}
use Rattle.bitstream_count.specs.declared.error.Error.TheVariants.{EndOfInput, Failed, OutOfMemory}
use Rattle.bitstream_count.specs.Codec.{Decoder, Encoder, Done, and_then, pure, fail}
use Rattle.bitstream_number.specs.Word.{FitsSignedBits, bytes_of, signed_number, word}
use Rattle.bitstream_number.proofs.WordLemmas.{length-bits}
use Rattle.bitstream_order.specs.Moving.Gather.{result_map}
use Rattle.bitstream_order.specs.Refusal.{TrueEnds}
use Rattle.bitstream_stream.specs.Reading.ReadTable.{bytes_decoder, const_decoder, unary_decoder, skip_decoder}
use Rattle.bitstream_stream.specs.Reading.Reader.{new_reader_state}
use Rattle.bitstream_stream.specs.Reading.Reads.{BitSource, ReaderState, Reads, ReadOutcome, ReadsConst, ConstAnswer, is_run_too_long, sure_answer}
use Rattle.bitstream_stream.specs.Writing.Sink.{Sink, Writes, WritesAll}
use Rattle.bitstream_stream.specs.Writing.WriteTable.{plain, signed, unsigned}
use Rattle.bitstream_stream.proofs.Reading.ReadsLemmas.{Reads-and_then-err, Reads-nothing, ok_prefix, map_err}
use Rattle.bitstream_stream.proofs.Reading.SliceLemmas.{new_answer}
use Rattle.bitstream_stream.proofs.Reading.TableLemmas.{unsigned-on_failed}
use Rattle.bitstream_stream.proofs.Writing.WriteParts.{all_none, all_append, all_err, all_one, all_stop, one_of_all, flat_map-take, flat_map-split}
use Rattle.bitstream_value.specs.Array.{items_decoder, words}
use Rattle.bitstream_value.specs.Grows.{GrowsOwn, MayAllocate}
use Rattle.bitstream_value.specs.Own.{OwnAnswer, ReadsOwn, WritesOwn, part_then, same_error}
use Rattle.bitstream_value.proofs.ArrayLemmas.{items-start, items-stop as items-ended, items-suc}
use Rattle.bitstream_value.proofs.BackLemmas.{signed-word}
use Rattle.bitstream_value.proofs.CheckedLemmas.{signed-holds, signed-on_failed}
use Rattle.bitstream_value.proofs.ByteSteps.{bytes_in, number-bytes}
use Rattle.bitstream_value.proofs.GrowsLemmas.{own_grown-answer}
use Rattle.bitstream_value.proofs.OwnSteps.{then_own_signed, then_own_call, then_own_write, then_own_signed_call, then_own_signed_write, own_written}
use Rattle.bitstream_value.proofs.ReadSteps.{next-finds, width_of}
use Rattle.bitstream_value.proofs.SureLemmas.{items-word, mapped-word, word_short}
use Rattle.bitstream_value.proofs.WriteSteps.{next_call, next_write, stop_call, stop_write, signed_call, signed_value}
use Rattle.bitstream_io.specs.Optional.{optional, optional_size, optional_writes}
use Rattle.bitstream_io.specs.ReadBack.{IsReadAs}
use Rattle.bitstream_io.specs.Steps.{bytes_number}
use Rattle.bitstream_io.proofs.CallsBack.{then-read, mapped-read, value_in-fits, const-read, const-back, signed-read}
-- words of std
pub use Rattle.std.proofs.Common.{◌≡◌, ◌∙◌, ℕ, ◌+◌, ◌-◌, ◌^◌, ◌<◌, List, [], ◌∷◌, ◌++◌, Some, Ok, ap, arith, inl, inr, refl, rules, ⊎_elim}
-- a one that is shifted left: 1 * 2 ^ n % 2 ^ size ≡ 2 ^ n
pub use Rattle.std.proofs.lemmas.Nat.{one_shl}
pub use Rattle.bitstream_number.specs.Word.{Order, High, Low, bits, number}
-- the reader that `over` makes fails only at the end of input (`SliceEnds` has the same of a reader over a `Slice`)
pub use Rattle.bitstream_stream.proofs.Reading.MemoryLemmas.{memory_ends as slice_ends}
-- calls of a known length are done if so many bits are left
pub use Rattle.bitstream_stream.proofs.Reading.EnoughLemmas.{Reads-enough, bit-enough, unsigned-enough, signed-enough, const-enough, count-enough, bytes-enough, skip-enough, pure-enough, and_then-enough, done-if_left}
pub use Rattle.bitstream_stream.specs.Reading.ReadTable.{unsigned_decoder, signed_decoder}
pub use Rattle.bitstream_stream.proofs.Reading.ReadsLemmas.{Reads-and_then-ok, Reads-pure, exit}
-- the calls of a new writer to bytes in memory with room for their bits, and an alignment after them, return `Ok`
pub use Rattle.bitstream_stream.proofs.Writing.RoomLemmas.{calls_with_room, align_with_room}
-- a number that a read of n bits returned is below 2^n
pub use Rattle.bitstream_stream.proofs.Reading.SignedLemmas.{unsigned-below as below}
pub use Rattle.bitstream_value.proofs.BackLemmas.{RoundTrip, round_trip, bit-back, pure-back, signed-back, unsigned-back}
-- parts of which it is not known whether they ask for memory
pub use Rattle.bitstream_value.proofs.GenericLemmas.{weaker, part_go_if, part_stop_if, end_if}
pub use Rattle.bitstream_value.proofs.GrowsLemmas.{few_growing_reads, growth-here, grown, if_grown, own_refused, go_grown, stop_grown, then_grown_read, end_grown_read, vec-grown, then_growing, end_growing, part_go, part_stop, then_growing_part, end_growing_part, then_grown_part, end_grown_part, grown_end, grown_is, grow_plainly, item-read, items-refused, parts-begin, parts-push, parts-stop, parts-refused}
pub use Rattle.bitstream_value.proofs.LengthSteps.{in_both_orders, lengths}
pub use Rattle.bitstream_value.proofs.OwnLemmas.{is_error, plainly_read, plainly_written, read_plainly, written_plainly}
pub use Rattle.bitstream_value.proofs.OwnSteps.{few_own_reads, few_own_writes, own_end, if_own, else_own}
pub use Rattle.bitstream_value.proofs.ReadSteps.{few_reads, reads, Finds, finds, and_then-finds, bit-finds, pure-finds, non_zero-finds, option-finds, signed-finds, unsigned-finds, fields_there, fields_short}
pub use Rattle.bitstream_value.proofs.SureLemmas.{IsWord, items_there, unsigned-word, word_there}
pub use Rattle.bitstream_value.proofs.WriteSteps.{few_writes, writes, packed_stream}
pub use Rattle.bitstream_io.proofs.CallsBack.{calls_round_trip, unary-back, items-read, path-read, unsigned-read}
pub use Rattle.bitstream_io.proofs.CallsBack.{any_vbr-back, bytes-back, vec-back, non_zero-back, option-back, skip-back, vbr-back}
pub use Rattle.bitstream_io.proofs.NonZeroBack.{non_zero_u8-again, non_zero_u16-again, non_zero_u32-again, non_zero_u64-again, non_zero_u128-again}
pub use Rattle.bitstream_io.proofs.NonZeroBack.{option_u8-again, option_u16-again, option_u32-again, option_u64-again, option_u128-again}
pub use Rattle.bitstream_io.proofs.PackLemmas.{IsWritten, Packs, packs, packs-none, packs-more, packs-part, packs-items, packs-signed_items, packs-parts, packs-is, packs-room, packs-whole, unsigned-written, signed-written, non_zero-written, const-written, zeros-written, bit-written, bytes-written, unary-written, vbr-written}
-- what was accepted fits
pub use Rattle.bitstream_io.proofs.PackLemmas.{IsAccepted, unsigned-accepted, signed-accepted, non_zero-accepted, accepted-first, accepted-second, each-accepted, items-accepted, signed_items-accepted}
-- what `pack_into` makes of calls
pub use Rattle.bitstream_io.proofs.PackLemmas.{packed-bits, packed-accepted, packed-room, packed-short}
-- a target to bytes in memory has written the first of them, and the others are as they were
pub use Rattle.bitstream_order.proofs.Streaming.SliceMutLemmas.{slice-holds}
pub use Rattle.bitstream_io.proofs.SequenceLemmas.{counted, write_sequence-append}
pub use Rattle.bitstream_io.specs.Loop.{ItemsRead, ItemsWritten}

-- ---- what a result tells

-- after a result the reader has not failed
pub sound : {R A : Type 0} {K : BitSource R} {grows : Bool} {e : Decoder A} {a : A} {s t : R}
    → e.on_failed ≡ Err Failed → ReadOutcome K grows e s (Ok a) t → (K.state t).failed ≡ false
sound failed read = (ok_prefix failed read).failed

-- a signed number that a read of n bits returned lies in their range (`below` says the same of an unsigned one)
pub in_range : {R : Type 0} {K : BitSource R} {s t : R} (o : Order) (size n : ℕ) (x : ℤ)
    → Reads K (signed_decoder o size n) s (Ok x) t → FitsSignedBits n x
in_range o size n x read = (signed-holds o size n read).1

-- a number of n bytes in an order of its own, as `read_as_to` reads it, and a failed one
module _ {R : Type 0} {K : BitSource R} (o p : Order) (n : ℕ) {s t : R} where
  pub bytes_number-read : {v : ℕ} → Reads K (bytes_decoder o n) s (Ok (bytes_in p n v)) t → v < 2 ^ (8 * n)
      → Reads K (bytes_number o p n) s (Ok v) t
  bytes_number-read {v = v} h fits =
      subst (λ x. Reads K (bytes_number o p n) s (Ok x) t) (number-bytes p n v fits)
      (Reads-and_then-ok _ _ h (Reads-pure _ t))

  pub bytes_number-stops : {x : Error} → Reads K (bytes_decoder o n) s (Err x) t
      → Reads K (bytes_number o p n) s (Err x) t
  bytes_number-stops h = Reads-and_then-err _ _ h

-- an error of a result that a clause sees by a view
pub map_is_err : {A B : Type 0} {x : Error} (view : A → B) (r : Result A Error) → result_map view r ≡ Err x → r ≡ Err x
map_is_err view (Ok a) is = cc
map_is_err view (Err y) is = cc

-- and a value
pub map_if : {A B E : Type 0} (view : A → B) (r : Result A E) {y : B} → result_map view r ≡ Ok y → IfOk r (λ a. view a ≡ y)
map_if view (Ok a) is = cc
map_if view (Err e) is = tt

-- ---- constants, branches and errors of one's own among reads

pub const-on_failed : (o : Order) (n v : ℕ) → (const_decoder o n v).on_failed ≡ Err Failed
unfolding const_decoder
const-on_failed o n v = refl

pub unary-on_failed : (stop : Bool) → (unary_decoder stop).on_failed ≡ Err Failed
unfolding unary_decoder
unary-on_failed stop = refl

-- an error of one's own, after a read that returned
pub refuses_behind : {R A B : Type 0} {K : BitSource R} {e : Decoder A} {a : A} {s t : R} (x : Error)
    → Reads K e s (Ok a) t → e.on_failed ≡ Err Failed → is_run_too_long {A = B} (Err x) ≡ false
    → Reads {A = B} K (fail x) t (Err x) t
refuses_behind x read failed short = Reads-nothing (fail x) (Err x) _ (sound failed read) short (λ more. refl)

-- what is read if a condition holds, and if not
module _ {R A : Type 0} {K : BitSource R} (x y : Decoder A) {r : Result A Error} {s t : R} where
  pub if_read : (b : Bool) → b ≡ true → Reads K x s r t → Reads K (if b then x else y) s r t
  if_read true is h = h
  if_read false is h = cc

  pub else_read : (b : Bool) → b ≡ false → Reads K y s r t → Reads K (if b then x else y) s r t
  else_read true is h = cc
  else_read false is h = h

  pub if_at_most : (k most : ℕ) → k ≤ most → Reads K x s r t → Reads K (if nat_le k most then x else y) s r t
  if_at_most k most le h = if_read (nat_le k most) (le-leb k most le) h

  pub else_above : (k most : ℕ) → most < k → Reads K y s r t → Reads K (if nat_le k most then x else y) s r t
  else_above k most less h = else_read (nat_le k most) (lt-leb k most less) h

-- a constant that was read and was the right one, or was another, among reads that have no error but the reader's
module _ {R B : Type 0} {K : BitSource R} (o : Order) (n v : ℕ) (f : Bool → Decoder B) (err : Error) {s t : R}
    {r : Result B Error} where
  const_goes : {z : R} (plain : Result Bool Error) → Reads K (const_decoder o n v) s plain t
      → ConstAnswer same_error err plain (Ok tt) → Reads K (f true) t r z → Reads K (and_then (const_decoder o n v) f) s r z
  const_goes (Ok true) h is k = Reads-and_then-ok _ f h k
  const_goes (Ok false) h is k = cc
  const_goes (Err x) h is k = absurd is

  const_stops : (x : Error) (plain : Result Bool Error) → Reads K (const_decoder o n v) s plain t
      → ConstAnswer same_error err plain (Err x) → IsErrAnd r (λ y. y ≡ x) → f false ≡ fail err
      → is_run_too_long {A = B} (Err err) ≡ false → Reads K (and_then (const_decoder o n v) f) s r t
  const_stops x (Ok true) h is k other short = cc
  const_stops x (Ok false) h is k other short =
      let same : x ≡ err = cc in
      let stop = refuses_behind {B = B} err h (const-on_failed o n v) short in
      rw (is_error r x k, same) (Reads-and_then-ok _ f h (rw other stop))
  const_stops x (Err y) h is k other short =
      exit f r (subst (λ (z : Error). IsErrAnd r (λ u. u ≡ z)) is k) h

  pub next_const : {z : R} → ReadsConst K same_error (const_decoder o n v) err s (Ok tt) t → Reads K (f true) t r z
      → Reads K (and_then (const_decoder o n v) f) s r z
  next_const h k = const_goes h.plain h.reads h.answer k

  pub exit_const : {x : Error} → IsErrAnd r (λ y. y ≡ x) → ReadsConst K same_error (const_decoder o n v) err s (Err x) t
      → f false ≡ fail err → is_run_too_long {A = B} (Err err) ≡ false → Reads K (and_then (const_decoder o n v) f) s r t
  exit_const {x = x} k h other short = const_stops x h.plain h.reads h.answer k other short

  module _ {answer : Result (Unit {0}) Error} {flow : ControlFlow _ (Unit {0})} where
    pub then_const : {z : R} → ReadsConst K same_error (const_decoder o n v) err s answer t
        → answer ≡ result_from_control_flow flow → flow ≡ Continue tt → Reads K (f true) t r z
        → Reads K (and_then (const_decoder o n v) f) s r z
    then_const h p q k = next_const (subst (λ y. ReadsConst K same_error (const_decoder o n v) err s y t)
        (p ∙ ap result_from_control_flow q) h) k

    pub end_const : {x : _} → ReadsConst K same_error (const_decoder o n v) err s answer t
        → answer ≡ result_from_control_flow flow → flow ≡ Break x → IsErrAnd r (λ y. y ≡ x.0) → f false ≡ fail err
        → is_run_too_long {A = B} (Err err) ≡ false → Reads K (and_then (const_decoder o n v) f) s r t
    end_const h p q k other short =
        exit_const k (subst (λ y. ReadsConst K same_error (const_decoder o n v) err s y t)
        (p ∙ ap result_from_control_flow q) h) other short

-- a constant as a read by itself, which gives nothing, and fails for any other number
pub const_alone : {R : Type 0} {K : BitSource R} (o : Order) (n v : ℕ) (f : Bool → Decoder (Unit {0})) (err : Error)
    (r : Result (Unit {0}) Error) {s t : R} → ReadsConst K same_error (const_decoder o n v) err s r t
    → f true ≡ pure tt → f false ≡ fail err → is_run_too_long {A = Unit {0}} (Err err) ≡ false
    → Reads K (and_then (const_decoder o n v) f) s r t
const_alone o n v f err (Ok u) h right other short = next_const o n v f err h (rw right (Reads-pure u _))
const_alone o n v f err (Err x) h right other short = exit_const o n v f err refl h other short

-- the same in a function with errors of its own, where the reads are listed
module _ {R A B E : Type 0} {K : BitSource R} {becomes : Error → E → Type 0} {e : Decoder A}
    (f : A → Decoder (Result B E)) {r : Result B E} {s t : R} where
  pub next_own_read : {a : A} {z : R} → Reads K e s (Ok a) t → ReadsOwn K becomes (f a) t r z
      → ReadsOwn K becomes (and_then e f) s r z
  next_own_read h k = record { plain = k.plain; called = Reads-and_then-ok e f h k.called; answer = k.answer }

  pub exit_own_read : {x : Error} → IsErrAnd r (becomes x) → Reads K e s (Err x) t
      → ReadsOwn K becomes (and_then e f) s r t
  exit_own_read {x = x} k h = record { plain = Err x; called = Reads-and_then-err e f h; answer = k }

-- a part with errors of its own, whose result becomes one of another type: what an error of the reader becomes there
-- becomes what it is here
own_made-of : {R A E F : Type 0} {K : BitSource R} (there : Error → E → Type 0) (here : Error → F → Type 0)
    {e : Decoder (Result A E)} (makes : Result A E → Result A F) (r : Result A E) {s t : R}
    (plain : Result (Result A E) Error) → Reads K e s plain t → OwnAnswer there (λ y. y) plain r
    → ((x : Error) → IsErrAnd r (there x) → IsErrAnd (makes r) (here x))
    → ReadsOwn K here (and_then e (λ answer. pure (makes answer))) s (makes r) t
own_made-of there here makes r {t = t} (Ok x) h is errors = record {
  plain = Ok (makes x);
  called = Reads-and_then-ok _ _ h (Reads-pure (makes x) t);
  answer = ap makes is;
}
own_made-of there here makes r (Err x) h is errors =
    record { plain = Err x; called = Reads-and_then-err _ _ h; answer = errors x is }

pub own_made : {R A E F : Type 0} {K : BitSource R} {there : Error → E → Type 0} {here : Error → F → Type 0}
    {e : Decoder (Result A E)} (makes : Result A E → Result A F) (r : Result A E) {s t : R} → ReadsOwn K there e s r t
    → ((x : Error) → IsErrAnd r (there x) → IsErrAnd (makes r) (here x))
    → ReadsOwn K here (and_then e (λ answer. pure (makes answer))) s (makes r) t
own_made {there = there} {here = here} makes r h errors = own_made-of there here makes r h.plain h.called h.answer errors

-- a number of a signed type, which after the read is what its bits encode
pub next_own_signed_read : {R B E : Type 0} {K : BitSource R} {becomes : Error → E → Type 0} (o : Order) (size n : ℕ)
    (f : ℤ → Decoder (Result B E)) {r : Result B E} {s t z : R} {x : ℤ} → Reads K (signed_decoder o size n) s (Ok x) t
    → SFits (width_of size) x → ReadsOwn K becomes (f (to_z (width_of size) (of_z (width_of size) x))) t r z
    → ReadsOwn K becomes (and_then (signed_decoder o size n) f) s r z
next_own_signed_read o size n f h fits k = then_own_signed o size n f h refl refl fits k

-- and one that a function of one's own read
pub next_signed_part : {R B : Type 0} {K : BitSource R} {e : Decoder ℤ} (f : ℤ → Decoder B) (w : Width)
    {r : Result B Error} {s t z : R} {x : ℤ} → Reads K e s (Ok x) t → SFits w x → Reads K (f (to_z w (of_z w x))) t r z
    → Reads K (and_then e f) s r z
next_signed_part {K = K} f w {r = r} {t = t} {z = z} {x = x} h fits k =
    Reads-and_then-ok _ f h (subst (λ y. Reads K (f y) t r z) (to_z-of_z w x fits) k)

pub next_own_signed_part : {R B E : Type 0} {K : BitSource R} {becomes : Error → E → Type 0} {e : Decoder ℤ}
    (f : ℤ → Decoder (Result B E)) (w : Width) {r : Result B E} {s t z : R} {x : ℤ} → Reads K e s (Ok x) t → SFits w x
    → ReadsOwn K becomes (f (to_z w (of_z w x))) t r z → ReadsOwn K becomes (and_then e f) s r z
next_own_signed_part {K = K} {becomes = becomes} f w {r = r} {t = t} {z = z} {x = x} h fits k =
    next_own_read f h (subst (λ y. ReadsOwn K becomes (f y) t r z) (to_z-of_z w x fits) k)

module _ {R B E : Type 0} {K : BitSource R} {becomes : Error → E → Type 0} {e : Decoder Bool}
    (f : Bool → Decoder (Result B E)) (err : E) {r : Result B E} {s t : R} where
  own_const_goes : {z : R} (plain : Result Bool Error) → Reads K e s plain t → ConstAnswer becomes err plain (Ok tt)
      → ReadsOwn K becomes (f true) t r z → ReadsOwn K becomes (and_then e f) s r z
  own_const_goes (Ok true) h is k = next_own_read f h k
  own_const_goes (Ok false) h is k = cc
  own_const_goes (Err x) h is k = absurd is

  own_const_stops : (x : E) (plain : Result Bool Error) → Reads K e s plain t → ConstAnswer becomes err plain (Err x)
      → IsErrAnd r (λ y. y ≡ x) → f false ≡ pure (Err err) → ReadsOwn K becomes (and_then e f) s r t
  own_const_stops x (Ok true) h is k other = cc
  own_const_stops x (Ok false) h is k other =
      let same : x ≡ err = cc in
      rw (is_error r x k, same) (next_own_read f h (rw other (own_end (Err err) t)))
  own_const_stops x (Err y) h is k other = rw (is_error r x k) (exit_own_read f is h)

  pub next_own_const : {z : R} → ReadsConst K becomes e err s (Ok tt) t → ReadsOwn K becomes (f true) t r z
      → ReadsOwn K becomes (and_then e f) s r z
  next_own_const h k = own_const_goes h.plain h.reads h.answer k

  pub exit_own_const : {x : E} → IsErrAnd r (λ y. y ≡ x) → ReadsConst K becomes e err s (Err x) t
      → f false ≡ pure (Err err) → ReadsOwn K becomes (and_then e f) s r t
  exit_own_const {x = x} k h other = own_const_stops x h.plain h.reads h.answer k other

  module _ {answer : Result (Unit {0}) E} {flow : ControlFlow _ (Unit {0})} where
    pub then_own_const : {z : R} → ReadsConst K becomes e err s answer t → answer ≡ result_from_control_flow flow
        → flow ≡ Continue tt → ReadsOwn K becomes (f true) t r z → ReadsOwn K becomes (and_then e f) s r z
    then_own_const h p q k = next_own_const (subst (λ y. ReadsConst K becomes e err s y t)
        (p ∙ ap result_from_control_flow q) h) k

    pub end_own_const : {x : _} → ReadsConst K becomes e err s answer t → answer ≡ result_from_control_flow flow
        → flow ≡ Break x → IsErrAnd r (λ y. y ≡ x.0) → f false ≡ pure (Err err) → ReadsOwn K becomes (and_then e f) s r t
    end_own_const h p q k other =
        exit_own_const k (subst (λ y. ReadsConst K becomes e err s y t) (p ∙ ap result_from_control_flow q) h) other

-- ---- the same in a function that asks for memory

-- a number of a signed type, which after the read is what its bits encode
pub next_grown_signed : {R B E : Type 0} {K : BitSource R} {becomes : Error → E → Type 0} {e : Decoder ℤ}
    (f : ℤ → Decoder (Result B E)) (w : Width) {r : Result B E} {s t z : R} {x : ℤ} → Reads K e s (Ok x) t → SFits w x
    → GrowsOwn K becomes (f (to_z w (of_z w x))) t r z → GrowsOwn K becomes (and_then e f) s r z
next_grown_signed {K = K} {becomes = becomes} f w {r = r} {t = t} {z = z} {x = x} h fits k =
    go_grown f (grown h) (subst (λ y. GrowsOwn K becomes (f y) t r z) (to_z-of_z w x fits) k)

-- what is read if a condition holds, and if not
module _ {R A E : Type 0} {K : BitSource R} {becomes : Error → E → Type 0} (x y : Decoder (Result A E))
    {r : Result A E} {s t : R} where
  pub if_growing : (b : Bool) → b ≡ true → GrowsOwn K becomes x s r t → GrowsOwn K becomes (if b then x else y) s r t
  if_growing true is h = h
  if_growing false is h = cc

  pub else_growing : (b : Bool) → b ≡ false → GrowsOwn K becomes y s r t → GrowsOwn K becomes (if b then x else y) s r t
  else_growing true is h = cc
  else_growing false is h = h

-- a constant that was the right one, or was another
module _ {R B E : Type 0} {K : BitSource R} {becomes : Error → E → Type 0} {e : Decoder Bool}
    (f : Bool → Decoder (Result B E)) (err : E) {r : Result B E} {s t : R} where
  grown_const_goes : {z : R} (plain : Result Bool Error) → Reads K e s plain t → ConstAnswer becomes err plain (Ok tt)
      → GrowsOwn K becomes (f true) t r z → GrowsOwn K becomes (and_then e f) s r z
  grown_const_goes (Ok true) h is k = go_grown f (grown h) k
  grown_const_goes (Ok false) h is k = cc
  grown_const_goes (Err x) h is k = absurd is

  grown_const_stops : (x : E) (plain : Result Bool Error) → Reads K e s plain t → ConstAnswer becomes err plain (Err x)
      → IsErrAnd r (λ y. y ≡ x) → f false ≡ pure (Err err) → GrowsOwn K becomes (and_then e f) s r t
  grown_const_stops x (Ok true) h is k other = cc
  grown_const_stops x (Ok false) h is k other =
      let same : x ≡ err = cc in
      rw (is_error r x k, same) (go_grown f (grown h) (rw other (grown_end (Err err) t)))
  grown_const_stops x (Err y) h is k other = rw (is_error r x k) (stop_grown f (grown h) is)

  pub next_grown_const : {z : R} → ReadsConst K becomes e err s (Ok tt) t → GrowsOwn K becomes (f true) t r z
      → GrowsOwn K becomes (and_then e f) s r z
  next_grown_const h k = grown_const_goes h.plain h.reads h.answer k

  pub exit_grown_const : {x : E} → IsErrAnd r (λ y. y ≡ x) → ReadsConst K becomes e err s (Err x) t
      → f false ≡ pure (Err err) → GrowsOwn K becomes (and_then e f) s r t
  exit_grown_const {x = x} k h other = grown_const_stops x h.plain h.reads h.answer k other

-- writes in a function with errors of its own, listed: a call or a value that was written, and one whose error a `?`
-- returned
module _ {S E : Type 0} (K : Sink S) (becomes : Error → E → Type 0) (es : List Encoder)
    (own r : Result (Unit {0}) E) (s t : S) where
  pub next_own_call : (e : Encoder) (z : S) → Writes {T = Unit {0}} K e s (Ok tt) t
      → WritesOwn K becomes es own t r z → WritesOwn K becomes (e ∷ es) own s r z
  next_own_call e z h k = then_own_call K becomes e es own r s t (Ok tt) (Continue tt) z h refl refl k

  pub next_own_write : (e : Encoder) (z : S) → WritesAll K (e ∷ []) s (Ok tt) t → WritesOwn K becomes es own t r z
      → WritesOwn K becomes (e ∷ es) own s r z
  next_own_write e z h k = then_own_write K becomes e es own r s t (Ok tt) (Continue tt) z h refl refl k

  -- a number of a signed type, which a call has as what its bits say
  pub next_own_signed_call : (o : Order) (size n : ℕ) (w : Width) (x : ℤ) (z : S)
      → Writes {T = Unit {0}} K (signed o size n (to_z w (of_z w x))) s (Ok tt) t → SFits w x
      → WritesOwn K becomes es own t r z → WritesOwn K becomes (signed o size n x ∷ es) own s r z
  next_own_signed_call o size n w x z h fits k =
      then_own_signed_call K becomes o size n w x es own r s t (Ok tt) (Continue tt) z h fits refl refl k

  pub next_own_signed : (o : Order) (size n : ℕ) (w : Width) (x : ℤ) (z : S)
      → WritesAll K (signed o size n (to_z w (of_z w x)) ∷ []) s (Ok tt) t → SFits w x
      → WritesOwn K becomes es own t r z → WritesOwn K becomes (signed o size n x ∷ es) own s r z
  next_own_signed o size n w x z h fits k =
      then_own_signed_write K becomes o size n w x es own r s t (Ok tt) (Continue tt) z h fits refl refl k

  pub exit_own_call : (e : Encoder) (x : Error) → IsErrAnd r (becomes x) → Writes {T = Unit {0}} K e s (Err x) t
      → WritesOwn K becomes (e ∷ es) own s r t
  exit_own_call e x k h = record { plain = Err x; called = all_err K e es s (Err x) x t refl h; answer = k }

  pub exit_own_write : (e : Encoder) (x : Error) → IsErrAnd r (becomes x) → WritesAll K (e ∷ []) s (Err x) t
      → WritesOwn K becomes (e ∷ es) own s r t
  exit_own_write e x k h = exit_own_call e x k (one_of_all K e s (Err x) t h)

  pub exit_own_signed_call : (o : Order) (size n : ℕ) (w : Width) (x : ℤ) (error : Error) → IsErrAnd r (becomes error)
      → Writes {T = Unit {0}} K (signed o size n (to_z w (of_z w x))) s (Err error) t → SFits w x
      → WritesOwn K becomes (signed o size n x ∷ es) own s r t
  exit_own_signed_call o size n w x error k h fits =
      exit_own_call (signed o size n x) error k (signed_call K o size n w x s t (Err error) h fits)

  pub exit_own_signed : (o : Order) (size n : ℕ) (w : Width) (x : ℤ) (error : Error) → IsErrAnd r (becomes error)
      → WritesAll K (signed o size n (to_z w (of_z w x)) ∷ []) s (Err error) t → SFits w x
      → WritesOwn K becomes (signed o size n x ∷ es) own s r t
  exit_own_signed o size n w x error k h fits =
      exit_own_write (signed o size n x) error k (signed_value K o size n w x s t (Err error) h fits)

-- constants and branches, to be named next to `reads`, `few_reads`, `own_reads` or `few_own_reads`
pub ruleset constants = (
  next_const,
  exit_const,
  then_const,
  end_const,
  next_own_const,
  exit_own_const,
  then_own_const,
  end_own_const,
)

pub ruleset branches = (
  if_at_most,
  else_above,
  if_read,
  else_read,
  refuses_behind,
  const-on_failed,
  unary-on_failed,
  unsigned-on_failed,
  signed-on_failed,
)

-- the reads of a function with errors of its own, by the clauses of its calls, which are listed
pub ruleset own_reads = (next_own_signed_read, next_own_read, exit_own_read, own_end, if_own, else_own, sfits_of)

-- and the writes
pub ruleset own_writes = (
  next_own_call,
  next_own_write,
  next_own_signed_call,
  next_own_signed,
  exit_own_call,
  exit_own_write,
  exit_own_signed_call,
  exit_own_signed,
  own_written,
  sfits_of,
)

-- the same for up to twenty calls in a row: the fewest lemmas, since each one that fits is counted; with `fits 10000`,
-- and the clauses listed by their field (`c.in_ok-x.ensures.reads`)
pub ruleset many_reads = (Reads-and_then-ok, exit, Reads-pure)

pub ruleset many_own_reads = (next_own_read, exit_own_read, next_own_const, exit_own_const, own_end)

pub ruleset many_writes = (next_call, next_write, stop_call, stop_write, all_one)

-- ---- items that are read in a loop

module _ {R A : Type 0} {K : BitSource R} (e : Decoder A) where
  -- none yet
  pub items-begin : {xs : List A} {s : R} → xs ≡ [] → ItemsRead K e 0 s xs s
  items-begin {s = s} none = rw none (items-start e s)

  module _ (n : ℕ) where
    -- one more, pushed after the others
    pub items-push : {xs ys : List A} {x : A} {s t z : R} → ys ≡ xs ++ x ∷ [] → ItemsRead K e n s xs t
        → Reads K e t (Ok x) z → ItemsRead K e (n + 1) s ys z
    items-push is h k =
        rw (add-one n, items-suc e n, is) (Reads-and_then-ok _ _ h (Reads-and_then-ok _ _ k (Reads-pure _ _)))

    -- one whose error a `?` returned
    pub items-stop : (all : ℕ) {B : Type 0} (view : B → List A) (r : Result B Error) {xs : List A} {x : Error}
        {s t z : R} → n < all → ItemsRead K e n s xs t → Reads K e t (Err x) z → IsErrAnd r (λ y. y ≡ x)
        → Reads K (items_decoder e all) s (result_map view r) z
    items-stop all view r {xs = xs} more h k is = rw (map_err view r is) (items-ended e n all xs more h k)

-- ---- items that are written in a loop

module _ {S A : Type 0} (K : Sink S) (f : A → List Encoder) (xs : List A) where
  -- none yet
  pub written-begin : (s : S) → ItemsWritten K f xs 0 s s
  written-begin s = all_none K s

  module _ (k : ℕ) (x d : A) (s t z : S) where
    -- one more
    pub written-more : k < length xs → x ≡ get_or xs k d → ItemsWritten K f xs k s t → WritesAll K (f x) t (Ok tt) z
        → ItemsWritten K f xs (k + 1) s z
    written-more less is h one =
        rw (flat_map-take f xs k d less, ← is) (all_append K (flat_map f (take k xs)) (f x) s t (Ok tt) z h one)

    -- one whose error a `?` returned
    pub written-stop : (e : Error) (r : Result (Unit {0}) Error) → k < length xs → x ≡ get_or xs k d
        → ItemsWritten K f xs k s t → WritesAll K (f x) t (Err e) z → IsErrAnd r (λ y. y ≡ e)
        → WritesAll K (flat_map f xs) s r z
    written-stop e r less is h one err =
        rw (flat_map-split f xs k d less, ← is)
        (all_append K (flat_map f (take k xs)) (f x ++ flat_map f (drop (k + 1) xs)) s t r z h
        (all_stop K (f x) (flat_map f (drop (k + 1) xs)) t e r z (is_error r e err) one))

-- ---- numbers that are computed

-- the sum of 2^n - 1 and a number of n bits is not the greatest of a wider type
pub sum_below : (size n rest : ℕ) → n < size → rest < 2 ^ n → 1 * 2 ^ n % 2 ^ size - 1 + rest < 2 ^ size - 1
sum_below size n rest wider small =
    let most : 2 ^ suc n ≤ 2 ^ size = pow_mono (omega arith) in
    let twice : 2 ^ suc n ≡ 2 ^ n * 2 = pow-suc 2 n in
    rw (one_shl n size wider) (omega arith)

-- the highest bit of m, among `size` bits, is before so many others
pub record Top (size m behind : ℕ) : Type 0 where
  pub within : behind < size
  pub low : 2 ^ behind ≤ m
  pub rest : m - 2 ^ behind < 2 ^ behind

pub top : (size m : ℕ) → 0 < m → m < 2 ^ size → Top size m (size - 1 - count_leading_zeros size m)
top size m some small =
    let t = leading_top size m some small in
    let n = size - 1 - count_leading_zeros size m in
    let is : t.0 ≡ n = let e = t.1 in omega arith in
    let low : 2 ^ n ≤ m = subst (λ (j : ℕ). 2 ^ j ≤ m) is t.2 in
    let high : m < 2 ^ suc n = subst (λ (j : ℕ). m < 2 ^ suc j) is t.3 in
    let twice : 2 ^ suc n ≡ 2 ^ n * 2 = pow-suc 2 n in
    record { within = let e = t.1 in omega arith; low = low; rest = omega arith }

-- ---- known bits

const-word : (o : Order) (n v : ℕ) → IsWord (const_decoder o n v) n (λ w. Ok (number o w == v))
unfolding const_decoder
const-word o n v = record { reads = λ p b. refl }

bytes-word : (o : Order) (n : ℕ) → IsWord (bytes_decoder o n) (8 * n) (λ w. Ok (bytes_of o n w))
unfolding bytes_decoder
bytes-word o n = record { reads = λ p b. refl }

skip-word : (n : ℕ) → IsWord (skip_decoder n) n (λ w. Ok tt)
unfolding skip_decoder
skip-word n = record { reads = λ p b. refl }

module _ {B : Type 0} (b : List Bool) (k n l : ℕ) (r : Result B Error) where
  -- a constant, if it is there
  pub const-finds : (o : Order) (v : ℕ) (f : Bool → Decoder B) → nat_le n l ≡ true → number o (take n (drop k b)) ≡ v
      → Finds b (k + n) (f true) (l - n) r → Finds b k (and_then (const_decoder o n v) f) l r
  const-finds o v f le is found =
      next-finds b k n l (const_decoder o n v) f (λ w. number o w == v) r (const-word o n v) le
      (rw (eq-eqb (number o (take n (drop k b))) v is) found)

  -- and if another number is
  pub const-misses : (o : Order) (v : ℕ) (f : Bool → Decoder B) → nat_le n l ≡ true
      → (number o (take n (drop k b)) ≡ v → ⊥) → Finds b (k + n) (f false) (l - n) r
      → Finds b k (and_then (const_decoder o n v) f) l r
  const-misses o v f le differs found =
      next-finds b k n l (const_decoder o n v) f (λ w. number o w == v) r (const-word o n v) le
      (rw (ne_eqb (number o (take n (drop k b))) v differs) found)

  pub skip-finds : (f : Unit {0} → Decoder B) → nat_le n l ≡ true → Finds b (k + n) (f tt) (l - n) r
      → Finds b k (and_then (skip_decoder n) f) l r
  skip-finds f le found = next-finds b k n l (skip_decoder n) f (λ w. tt) r (skip-word n) le found

module _ {B : Type 0} (b : List Bool) (k l : ℕ) (r : Result B Error) where
  -- encodings of n bits, of which there are `count`
  each-finds : {A : Type 0} (e : Decoder A) (n count : ℕ) (g : List Bool → A) (f : List A → Decoder B)
      → IsWord e n (λ w. Ok (g w)) → nat_le (count * n) l ≡ true
      → Finds b (k + count * n) (f (map g (words n count (take (count * n) (drop k b))))) (l - count * n) r
      → Finds b k (and_then (items_decoder e count) f) l r
  each-finds e n count g f word le found =
      next-finds b k (count * n) l (items_decoder e count) f (λ w. map g (words n count w)) r (items-word word count) le found

  -- numbers, unsigned and signed
  pub items-finds : (n count : ℕ) (o : Order) (size : ℕ) (f : List ℕ → Decoder B) → nat_le n size ≡ true
      → nat_le (count * n) l ≡ true
      → Finds b (k + count * n) (f (map (number o) (words n count (take (count * n) (drop k b))))) (l - count * n) r
      → Finds b k (and_then (items_decoder (unsigned_decoder o size n) count) f) l r
  items-finds n count o size f fits le found =
      each-finds (unsigned_decoder o size n) n count (number o) f (unsigned-word o size n (leb-true n size fits)) le found

  pub signed_items-finds : (n count : ℕ) (o : Order) (size : ℕ) (f : List ℤ → Decoder B) → nat_le 1 n ≡ true
      → nat_le n size ≡ true → nat_le (count * n) l ≡ true
      → Finds b (k + count * n) (f (map (signed_number o) (words n count (take (count * n) (drop k b))))) (l - count * n) r
      → Finds b k (and_then (items_decoder (signed_decoder o size n) count) f) l r
  signed_items-finds n count o size f some fits le found =
      each-finds (signed_decoder o size n) n count (signed_number o) f
      (signed-word o size n (leb-true 1 n some) (leb-true n size fits)) le found

  -- n bytes
  pub bytes-finds : (n : ℕ) (o : Order) (f : List ℕ → Decoder B) → nat_le (8 * n) l ≡ true
      → Finds b (k + 8 * n) (f (bytes_of o n (take (8 * n) (drop k b)))) (l - 8 * n) r
      → Finds b k (and_then (bytes_decoder o n) f) l r
  bytes-finds n o f le found =
      next-finds b k (8 * n) l (bytes_decoder o n) f (λ w. bytes_of o n w) r (bytes-word o n) le found

  -- a value that is made of a number, as a case of an enum
  pub made-finds : {A : Type 0} (n : ℕ) (o : Order) (size : ℕ) (make : ℕ → A) (f : A → Decoder B) → nat_le n size ≡ true
      → nat_le n l ≡ true → Finds b (k + n) (f (make (number o (take n (drop k b))))) (l - n) r
      → Finds b k (and_then (and_then (unsigned_decoder o size n) (λ v. pure (make v))) f) l r
  made-finds n o size make f fits le found =
      next-finds b k n l (and_then (unsigned_decoder o size n) (λ v. pure (make v))) f (λ w. make (number o w)) r
      (mapped-word (unsigned_decoder o size n) n (number o) make (unsigned-word o size n (leb-true n size fits))) le found

-- the same of one that may fail: if it is made, and if it is not
module _ {A B E : Type 0} (b : List Bool) (k l n : ℕ) (o : Order) (size : ℕ) (make : ℕ → Result A E)
    (f : A → Decoder (Result B E)) where
  pub part-finds : (a : A) (r : Result (Result B E) Error) → nat_le n size ≡ true → nat_le n l ≡ true
      → make (number o (take n (drop k b))) ≡ Ok a → Finds b (k + n) (f a) (l - n) r
      → Finds b k (and_then (and_then (unsigned_decoder o size n) (λ v. pure (make v))) (part_then f)) l r
  part-finds a r fits le is found = made-finds b k l r n o size make (part_then f) fits le (rw is found)

  pub part-misses : (x : E) → nat_le n size ≡ true → nat_le n l ≡ true
      → make (number o (take n (drop k b))) ≡ Err x → l - n ≡ 0
      → Finds b k (and_then (and_then (unsigned_decoder o size n) (λ v. pure (make v))) (part_then f)) l (Ok (Err x))
  part-misses x fits le is ends =
      made-finds b k l (Ok (Err x)) n o size make (part_then f) fits le (rw (is, ends) (pure-finds b (k + n) (Err x)))

-- ---- what a new reader returns, over a stream that fails only at the end of input

-- what `new` and `Slice::new` state, as one; `over` states it itself
pub told : {state : ReaderState} {xs known : List ℕ} {references : List Reference}
    → state ≡ new_reader_state (Some known) references → known ≡ xs
    → state ≡ new_reader_state (Some xs) references
told {references = references} new is = new ∙ ap (λ xs. new_reader_state (Some xs) references) is

-- whatever the prefix is, with errors of one's own
pub own_answered : {R A E : Type 0} {K : BitSource R} {becomes : Error → E → Type 0} {e : Decoder (Result A E)}
    {r : Result A E} {s t : R} {xs : List ℕ} {known : Option (List ℕ)} {references : List Reference}
    → TrueEnds K.may → K.state s ≡ new_reader_state known references → known ≡ Some xs
    → ReadsOwn K becomes e s r t → OwnAnswer becomes (λ y. y) (sure_answer (e.reads 0 (bits K.order xs))) r
own_answered {becomes = becomes} {r = r} {xs = xs} {references = references} ends new told h =
    let plain =
    new_answer ends xs references (new ∙ ap (λ z. new_reader_state z references) told) h.called in
    subst (λ z. OwnAnswer becomes (λ y. y) z r) plain h.answer

-- and of a type that asks for memory: that, or an allocation failed where the type may allocate
pub own_grown_answered : {R A E : Type 0} {K : BitSource R} {becomes : Error → E → Type 0}
    {e : Decoder (Result A E)} {r : Result A E} {s t : R} {xs : List ℕ} {known : Option (List ℕ)}
    {references : List Reference} → TrueEnds K.may → K.state s ≡ new_reader_state known references → known ≡ Some xs
    → GrowsOwn K becomes e s r t → OwnAnswer becomes (λ y. y) (sure_answer (e.reads 0 (bits K.order xs))) r
    ⊎ (IsErrAnd r (becomes OutOfMemory) × MayAllocate e 0 (bits K.order xs))
own_grown_answered {K = K} {becomes = becomes} {e = e} {r = r} {s = s} {t = t} {xs = xs} ends new told h =
    let found = own_grown-answer {s = s} {t = t} ends xs (ap (λ (z : ReaderState). z.failed) new)
    (ap (λ (z : ReaderState). z.bytes) new ∙ told) h in
    subst (λ (z : ReaderState). OwnAnswer becomes (λ y. y) (sure_answer (e.reads z.taken (z.queue ++ bits K.order xs))) r
    ⊎ (IsErrAnd r (becomes OutOfMemory) × MayAllocate e z.taken (z.queue ++ bits K.order xs))) new found

-- if the prefix is known
module _ {R A : Type 0} {K : BitSource R} {s t : R} {n : ℕ} {xs : List ℕ} {known : Option (List ℕ)}
    {references : List Reference} where
  pub prefix_answered : {e : Decoder A} {x r : Result A Error} → TrueEnds K.may
      → K.state s ≡ new_reader_state known references → known ≡ Some xs → Reads K e s r t
      → e.reads 0 (bits K.order xs) ≡ Done n x → r ≡ x
  prefix_answered ends new told h prefix =
      new_answer ends xs references (new ∙ ap (λ z. new_reader_state z references) told) h
      ∙ ap sure_answer prefix

  -- with errors of one's own
  pub own_prefix_answered : {E : Type 0} {becomes : Error → E → Type 0} {e : Decoder (Result A E)} {x r : Result A E}
      → TrueEnds K.may → K.state s ≡ new_reader_state known references → known ≡ Some xs
      → ReadsOwn K becomes e s r t → e.reads 0 (bits K.order xs) ≡ Done n (Ok x) → r ≡ x
  own_prefix_answered {becomes = becomes} {r = r} ends new told h prefix =
      subst (λ z. OwnAnswer becomes (λ y. y) (sure_answer z) r) prefix (own_answered ends new told h)

  -- and if reads find it among the bits, or too few of them
  pub own_fields_there : {E : Type 0} {becomes : Error → E → Type 0} {e : Decoder (Result A E)} {x r : Result A E}
      → TrueEnds K.may → K.state s ≡ new_reader_state known references → known ≡ Some xs
      → ReadsOwn K becomes e s r t → Finds (bits K.order xs) 0 e n (Ok x) → n ≤ 8 * length xs → r ≡ x
  own_fields_there ends new told h found enough =
      let le : 0 + n ≤ length (bits K.order xs) = let len = length-bits K.order xs in omega arith in
      own_prefix_answered ends new told h (found.there 0 le)

  pub own_fields_short : {E : Type 0} {becomes : Error → E → Type 0} {e : Decoder (Result A E)}
      {x : Result (Result A E) Error} {r : Result A E} → TrueEnds K.may
      → K.state s ≡ new_reader_state known references → known ≡ Some xs → ReadsOwn K becomes e s r t
      → Finds (bits K.order xs) 0 e n x → 8 * length xs < n → IsErrAnd r (becomes EndOfInput)
  own_fields_short {becomes = becomes} {r = r} ends new told h found few =
      let less : length (bits K.order xs) < 0 + n = let len = length-bits K.order xs in omega arith in
      subst (λ z. OwnAnswer becomes (λ y. y) (sure_answer z) r) (found.short 0 (omega arith) less)
      (own_answered ends new told h)

-- too few bits for items that are encodings
pub items_short : {R A : Type 0} {K : BitSource R} {e : Decoder A} {n : ℕ} {g : List Bool → A}
    {r : Result (List A) Error} {s t : R} {xs : List ℕ} {references : List Reference}
    → IsWord e n (λ w. Ok (g w)) → (k : ℕ) → TrueEnds K.may → K.state s ≡ new_reader_state (Some xs) references
    → Reads K (items_decoder e k) s r t → 8 * length xs < k * n → r ≡ Err EndOfInput
items_short word k ends new h few = word_short (items-word word k) ends new h few

-- ---- back again

-- a part whose writes are read back, as a law or a caller's own law says, and what is after it
pub part-back : {A B : Type 0} (e : Decoder A) (f : A → Decoder B) (ws es : List Encoder) (a : A) (b : B)
    → IsReadAs ws e a → RoundTrip (f a) es b → RoundTrip (and_then e f) (ws ++ es) b
part-back e f ws es a b part behind = record { back = then-read e f ws es a b part behind.back }

-- one with nothing after it
pub last-back : {A B : Type 0} (e : Decoder A) (make : A → B) (ws : List Encoder) (a : A) → IsReadAs ws e a
    → RoundTrip (and_then e (λ v. pure (make v))) ws (make a)
last-back e make ws a part = record { back = mapped-read make ws e a part }

-- a part that is there or not
pub optional-back : {A : Type 0} (e : Decoder A) (ws : A → List Encoder) (value : Option A)
    → ForSome value (λ a. IsReadAs (ws a) e a) → IsReadAs (optional_writes ws value) (optional (is_some value) e) value
optional-back e ws None part = λ len p more. refl
optional-back e ws (Some a) part = (last-back e (λ v. Some v) (ws a) a (part a refl)).back

pub packs-optional : {A : Type 0} (ws : A → List Encoder) (size : A → ℕ) (value : Option A)
    → ForSome value (λ a. Packs (ws a) (size a)) → Packs (optional_writes ws value) (optional_size size value)
packs-optional ws size None part = packs-none
packs-optional ws size (Some a) part = part a refl

-- a value that is made of a number, which gives it back
pub made-read : {A : Type 0} (o : Order) (size n v : ℕ) (make : ℕ → A) (a : A) → nat_le n size ≡ true → v < 2 ^ n
    → make v ≡ a → IsReadAs (unsigned o size n v ∷ []) (and_then (unsigned_decoder o size n) (λ k. pure (make k))) a
made-read o size n v make a le fits is =
    let word = unsigned o size n v ∷ [] in
    let one : IsReadAs word (unsigned_decoder o size n) v =
    subst (IsReadAs word (unsigned_decoder o size n)) (value_in-fits n v fits)
    (unsigned-read o size n v (leb-true n size le) (inl fits)) in
    subst (IsReadAs word (and_then (unsigned_decoder o size n) (λ k. pure (make k)))) is
    (mapped-read make word (unsigned_decoder o size n) v one)

pub made-back : {A B : Type 0} (es : List Encoder) (b : B) (o : Order) (size n v : ℕ) (make : ℕ → A) (a : A)
    (f : A → Decoder B) → nat_le n size ≡ true → v < 2 ^ n → make v ≡ a → RoundTrip (f a) es b
    → RoundTrip (and_then (and_then (unsigned_decoder o size n) (λ k. pure (make k))) f) (unsigned o size n v ∷ es) b
made-back es b o size n v make a f le fits is behind =
    let e = and_then (unsigned_decoder o size n) (λ (k : ℕ). pure (make k)) in
    part-back e f (unsigned o size n v ∷ []) es a b (made-read o size n v make a le fits is) behind

-- items that are written one by one, of which there are `count`
pub each-back : {A B : Type 0} (es : List Encoder) (b : B) (e : Decoder A) (writes : A → List Encoder) (count : ℕ)
    (xs : List A) (f : List A → Decoder B) → length xs ≡ count → All (λ x. IsReadAs (writes x) e x) xs
    → RoundTrip (f xs) es b → RoundTrip (and_then (items_decoder e count) f) (flat_map writes xs ++ es) b
each-back es b e writes count xs f is all behind =
    let ws = flat_map writes xs in
    subst (λ (k : ℕ). RoundTrip (and_then (items_decoder e k) f) (ws ++ es) b) is
    (part-back (items_decoder e (length xs)) f ws es xs b (items-read e writes xs all) behind)

-- each number of n bits that was written by itself, unsigned and signed
pub unsigned-each : (o : Order) (size n : ℕ) (xs : List ℕ) → nat_le n size ≡ true → All (λ x. x < 2 ^ n) xs
    → All (λ x. IsReadAs (unsigned o size n x ∷ []) (unsigned_decoder o size n) x) xs
unsigned-each o size n xs le fit =
    let read = λ (x : ℕ). IsReadAs (unsigned o size n x ∷ []) (unsigned_decoder o size n) x in
    let one = λ (x : ℕ) (small : x < 2 ^ n).
    subst (IsReadAs (unsigned o size n x ∷ []) (unsigned_decoder o size n)) (value_in-fits n x small)
    (unsigned-read o size n x (leb-true n size le) (inl small)) in
    All-weaker (λ x. x < 2 ^ n) read one xs fit

pub signed-each : (o : Order) (size n : ℕ) (xs : List ℤ) → nat_le 1 n ≡ true → nat_le n size ≡ true
    → All (FitsSignedBits n) xs → All (λ x. IsReadAs (signed o size n x ∷ []) (signed_decoder o size n) x) xs
signed-each o size n xs some le fit =
    let one = λ (x : ℤ) (fits : FitsSignedBits n x).
    signed-read o size n x (leb-true 1 n some) (leb-true n size le) fits in
    All-weaker (FitsSignedBits n) (λ x. IsReadAs (signed o size n x ∷ []) (signed_decoder o size n) x) one xs fit

-- numbers of n bits that were written one by one
pub numbers-read : (o : Order) (size n : ℕ) (xs : List ℕ) → nat_le n size ≡ true → All (λ x. x < 2 ^ n) xs
    → IsReadAs (flat_map (λ x. unsigned o size n x ∷ []) xs) (items_decoder (unsigned_decoder o size n) (length xs)) xs
numbers-read o size n xs le fit =
    items-read (unsigned_decoder o size n) (λ x. unsigned o size n x ∷ []) xs (unsigned-each o size n xs le fit)

-- numbers of n bits, unsigned and signed
pub items-back : {B : Type 0} (es : List Encoder) (b : B) (o : Order) (size n count : ℕ) (xs : List ℕ)
    (f : List ℕ → Decoder B) → nat_le n size ≡ true → length xs ≡ count → All (λ x. x < 2 ^ n) xs → RoundTrip (f xs) es b
    → RoundTrip (and_then (items_decoder (unsigned_decoder o size n) count) f) (flat_map (λ x. unsigned o size n x ∷ []) xs ++ es) b
items-back es b o size n count xs f le is fit behind =
    each-back es b (unsigned_decoder o size n) (λ x. unsigned o size n x ∷ []) count xs f is
    (unsigned-each o size n xs le fit) behind

pub signed_items-back : {B : Type 0} (es : List Encoder) (b : B) (o : Order) (size n count : ℕ) (xs : List ℤ)
    (f : List ℤ → Decoder B) → nat_le 1 n ≡ true → nat_le n size ≡ true → length xs ≡ count
    → All (FitsSignedBits n) xs → RoundTrip (f xs) es b
    → RoundTrip (and_then (items_decoder (signed_decoder o size n) count) f) (flat_map (λ x. signed o size n x ∷ []) xs ++ es) b
signed_items-back es b o size n count xs f some le is fit behind =
    each-back es b (signed_decoder o size n) (λ x. signed o size n x ∷ []) count xs f is
    (signed-each o size n xs some le fit) behind

-- a constant whose width and value are literals
pub literal-back : {B : Type 0} (es : List Encoder) (b : B) (o : Order) (n v : ℕ) (f : Bool → Decoder B)
    → nat_lt v (2 ^ n) ≡ true → RoundTrip (f true) es b
    → RoundTrip (and_then (const_decoder o n v) f) (plain (word o n v) ∷ es) b
literal-back es b o n v f fits behind =
    let small : v < 2 ^ n = grind (arith, nat_tests) in
    const-back es b o n v f small behind

-- the same as a read by itself, which gives nothing
pub alone-back : {B : Type 0} (es : List Encoder) (b : B) (o : Order) (n v : ℕ) (f : Bool → Decoder (Unit {0}))
    (g : Unit {0} → Decoder B) → nat_lt v (2 ^ n) ≡ true → f true ≡ pure tt → RoundTrip (g tt) es b
    → RoundTrip (and_then (and_then (const_decoder o n v) f) g) (plain (word o n v) ∷ es) b
alone-back es b o n v f g fits right behind =
    let small : v < 2 ^ n = grind (arith, nat_tests) in
    let nothing : IsReadAs [] (f true) tt = rw right (λ len p more. refl) in
    let word_read : IsReadAs (plain (word o n v) ∷ []) (and_then (const_decoder o n v) f) tt =
    then-read (const_decoder o n v) f (plain (word o n v) ∷ []) [] true tt (const-read o n v small) nothing in
    part-back (and_then (const_decoder o n v) f) g (plain (word o n v) ∷ []) es tt b word_read behind

-- a number whose width is known only as the program runs
pub var-back : {B : Type 0} (o : Order) (n : ℕ) (es : List Encoder) (b : B) (size v : ℕ) (f : ℕ → Decoder B)
    → n ≤ size → v < 2 ^ n → RoundTrip (f v) es b
    → RoundTrip (and_then (unsigned_decoder o size n) f) (unsigned o size n v ∷ es) b
var-back o n es b size v f within fits behind = unsigned-back o n es b size v f (le-leb n size within) fits behind

-- what goes back if a condition holds, and if not
module _ {B : Type 0} (x y : Decoder B) (es : List Encoder) (b : B) where
  pub if-back : (c : Bool) → c ≡ true → RoundTrip x es b → RoundTrip (if c then x else y) es b
  if-back true is h = h
  if-back false is h = cc

  pub at_most-back : (k most : ℕ) → k ≤ most → RoundTrip x es b → RoundTrip (if nat_le k most then x else y) es b
  at_most-back k most le h = if-back (nat_le k most) (le-leb k most le) h

  pub else-back : (c : Bool) → c ≡ false → RoundTrip y es b → RoundTrip (if c then x else y) es b
  else-back true is h = cc
  else-back false is h = h

-- a value that is computed of what was read
pub computed-back : {A : Type 0} (a b : A) → a ≡ b → RoundTrip (pure a) [] b
computed-back a b is = rw is (pure-back b)

-- Places of a reader of bytes in memory.
use Rattle.std.proofs.Common.{◌≡◌, ℕ, ℤ, ◌+◌, ◌-◌, ◌*◌, ◌/◌, ◌%◌, ◌^◌, ◌<◌, ◌≤◌, false, List, ◌++◌, length, take, drop, Option, Some, refl, sym, ap, ap₂, ◌∙◌, arith}
use Rattle.std.proofs.Math.Seq.{drop-append_seam}
use Rattle.std.proofs.lemmas.List.{length-take-le, length-drop, drop-drop}
use Rattle.std.specs.declared.io.traits.SeekFrom.TheVariants.{Start, End, Current}
use Rattle.bitstream_number.specs.Word.{Order, bits}
use Rattle.bitstream_order.specs.Streaming.Tail.{IsTail}
use Rattle.bitstream_stream.specs.Reading.Memory.{held, rest_bits, taken_bits}
use Rattle.bitstream_stream.specs.Reading.MemorySeek.{memory_bytes, memory_seeker, StandsAt}
use Rattle.bitstream_stream.specs.Reading.MemorySource.{memory_source}
use Rattle.bitstream_stream.specs.Reading.MemoryState.{rest_length}
use Rattle.bitstream_stream.specs.Reading.MemoryTakes.{IsAt}
use Rattle.bitstream_stream.specs.Reading.Place.{bit_meant, place_of}
use Rattle.bitstream_stream.specs.Reading.Reads.{bits_left}
use Rattle.bitstream_stream.specs.Reading.Seek.{Means}
use Rattle.bitstream_stream.specs.declared.read.slice_reader.SliceReader.{SliceReader}
use Rattle.bitstream_stream.proofs.Reading.MemoryLemmas.{bits_ahead}
use Rattle.bitstream_stream.proofs.Reading.SeekLemmas.{bits_at, bits_behind, start_place}

-- the bits left of a reader that has not failed
pub left_is : {E : Type 0} (o : Order) (r : SliceReader E) → r.failed ≡ false
    → bits_left o ((memory_source o).state r) ≡ Some (rest_bits o r.bytes.now r.bit)
left_is o r fine = ap Some (rw fine (bits_ahead o r.bytes.now r.bit r.few r.some))

-- ---- the bytes and the bits after a place

tail_is : (bytes all : List ℕ) → IsTail bytes all → drop (length all - length bytes) all ≡ bytes
tail_is bytes all tail =
    let prefix = take (length all - length bytes) all in
    let size : length prefix ≡ length all - length bytes = length-take-le (length all - length bytes) all (omega arith) in
    ap (drop (length all - length bytes)) tail ∙ ap (λ n. drop n (prefix ++ bytes)) (sym size) ∙ drop-append_seam prefix bytes

pub bytes_behind : {E : Type 0} (o : Order) (r : SliceReader E)
    → ((memory_source o).state r).bytes ≡ Some (drop ((memory_source o).state r).fetched (memory_bytes r))
bytes_behind o r =
    let gone = length r.all.now - length r.bytes.now in
    let place : gone + held r.bit ≡ (taken_bits r.all.now r.bytes.now r.bit + 7) / 8 = omega arith in
    ap (λ l. Some (drop (held r.bit) l)) (sym (tail_is r.bytes.now r.all.now r.tail))
    ∙ ap Some (drop-drop (held r.bit) gone r.all.now ∙ ap (λ n. drop n r.all.now) place)

pub bits_behind_place : {E : Type 0} (o : Order) (r : SliceReader E) → r.failed ≡ false
    → bits_left o ((memory_source o).state r)
    ≡ Some (drop ((memory_source o).state r).taken (bits o (memory_bytes r)))
bits_behind_place o r fine =
    let gone = length r.all.now - length r.bytes.now in
    left_is o r fine ∙ ap (λ l. Some (drop r.bit (bits o l))) (sym (tail_is r.bytes.now r.all.now r.tail))
    ∙ ap Some (bits_behind o gone r.bit r.all.now)

-- ---- seeks

-- a reader that was set to a place reads on from there
pub stands : {E : Type 0} (o : Order) (place : ℕ) (old new : SliceReader E) → place ≤ 8 * length old.all.now
    → IsAt place old new → StandsAt o place old new
stands o place old new within h = record {
  failed = h.failed;
  taken = omega (
    arith,
    within,
    ap (λ l. length l) h.all,
    ap (λ l. length l) h.bytes,
    length-drop (place / 8) old.all.now,
    h.bit,
  );
  left = left_is o new h.failed ∙ ap Some (ap₂ (λ l k. drop k (bits o l)) h.bytes h.bit ∙ bits_at o place old.all.now);
  bytes = h.all;
  refusals = h.refusals;
}

pub means_start : {E : Type 0} (o : Order) (place : ℕ) (r : SliceReader E) → place < 2 ^ 64
    → Means (memory_seeker o) (Start place) r (Some place)
means_start o place r below = record { at = 0; counts = tt; meant = start_place place below }

pub means_back : {E : Type 0} (o : Order) (n : ℤ) (place : Option ℕ) (r : SliceReader E)
    → place ≡ place_of (bit_meant (length r.all.now) 0 (End n)) → Means (memory_seeker o) (End n) r place
means_back o n place r is = record { at = length r.all.now; counts = refl; meant = sym is }

queue_size : {E : Type 0} (o : Order) (r : SliceReader E) → r.failed ≡ false
    → length ((memory_source o).state r).queue ≡ (8 - r.bit) % 8
queue_size o r fine =
    let left = rest_length o r.bytes.now r.bit r.few r.some in
    rw fine (omega (arith, left, r.few))

pub means_on : {E : Type 0} (o : Order) (d : ℤ) (at queued : ℕ) (place : Option ℕ) (r : SliceReader E) → r.failed ≡ false
    → at ≡ ((memory_source o).state r).fetched → queued ≡ (8 - r.bit) % 8
    → place ≡ place_of (bit_meant at queued (Current d)) → Means (memory_seeker o) (Current d) r place
means_on o d at queued place r fine here size is = record {
  at = at;
  counts = here;
  meant = ap (λ n. place_of (bit_meant at n (Current d))) (queue_size o r fine ∙ sym size) ∙ sym is;
}

-- How reads of whole bytes compose.
use Rattle.std.proofs.Common.{◌≡◌, ℕ, false, ◌+◌, ◌<◌, ◌≤◌, inl, inr, Bool, List, [], ◌∷◌, ◌++◌, length, take, set, Result, Ok, Err, refl, sym, ap, ap₂, ◌∙◌, subst, append-nil, length-append, arith}
use Rattle.std.specs.Io.KnownBytes.{Consumes}
use Rattle.std.proofs.KnownBytes.{Consumes-nil, Consumes-trans}
use Rattle.std.proofs.Math.Seq.{take-length}
use Rattle.std.proofs.lemmas.Grind.{take-set_at}
use Rattle.std.specs.Prelude.{slice_index_or}
use Rattle.std.proofs.lemmas.Bool.{le-leb, cases_lt}
use Rattle.std.specs.Result.{IsErrAnd}
use Rattle.bitstream_count.specs.declared.error.Error.{Error}
use Rattle.bitstream_count.specs.declared.error.Error.TheVariants.{OutOfMemory}
use Rattle.bitstream_count.specs.Codec.{Incomplete, Done}
use Rattle.bitstream_number.specs.Word.{Order, High, Low}
use Rattle.bitstream_order.specs.Parts.{value_bytes}
use Rattle.bitstream_order.specs.Port.{PortState, Fetches}
use Rattle.bitstream_order.specs.Moving.Gather.{result_map}
use Rattle.bitstream_order.proofs.Streaming.FaultLemmas.{end_few}
use Rattle.bitstream_stream.specs.WholeBytes.ByteReader.{byte_reader_state}
use Rattle.bitstream_stream.specs.WholeBytes.ByteReads.{ByteReaderState, ByteSource, ByteDecoder, byte_call, byte_prefix, given_bytes, skipped_bytes, BytesTaken, ByteReadDone, ByteReadOutcome, was_done, was_refused, memory_refused, ByteReads, ByteReadsGrowing}
use Rattle.bitstream_stream.proofs.Reading.CodecLemmas.{word_prefix-some as byte_prefix-some, word_prefix-none as byte_prefix-none, word_needs}
use Rattle.bitstream_stream.proofs.Reading.ReadsLemmas.{Consumes-known}
use Rattle.bitstream_stream.proofs.Shared.{exit_is}

-- ---- prefixes of n bytes

byte_prefix-all : {A : Type 0} (n : ℕ) (g : List ℕ → Result A Error) (w : List ℕ) → n ≤ length w → byte_prefix n g w
    ≡ Done n (g (take n w))
byte_prefix-all n g w h = rw (le-leb n (length w) h) refl

-- bytes that decide a prefix of n bytes are n, and have its result
decided : {A : Type 0} (n : ℕ) (g : List ℕ → Result A Error) (w : List ℕ) (r : Result A Error) → byte_prefix n g w
    ≡ Done (length w) r → (length w ≡ n) × (r ≡ g w)
decided n g w r h = elim (cases_lt (length w) n) [
  | inl short ↦ let none = byte_prefix-none n g w short in cc
  | inr long ↦
      let both : Done n (g (take n w)) ≡ Done (length w) r = sym (byte_prefix-all n g w long) ∙ h in
      let size : n ≡ length w = cc in
      let answer : g (take n w) ≡ r = cc in
      (sym size, sym answer ∙ ap g (ap (λ k. take k w) size ∙ take-length w))
]

-- bytes that are too few
incomplete : {A : Type 0} (n : ℕ) (g : List ℕ → Result A Error) (w : List ℕ) → byte_prefix n g w ≡ Incomplete → length w < n
incomplete n g w h = elim (cases_lt (length w) n) [
  | inl short ↦ short
  | inr long ↦ let some = byte_prefix-all n g w long in cc
]

-- ---- bytes that were taken

BytesTaken-trans : (x y : List ℕ) (s t u : ByteReaderState) → BytesTaken s x t → BytesTaken t y u
    → BytesTaken s (x ++ y) u
BytesTaken-trans x y s t u h k =
    let taken : u.taken ≡ s.taken + length (x ++ y) = omega (arith, h.taken, k.taken, length-append x y) in
    record {
      loses = Consumes-trans s.bytes t.bytes u.bytes x y h.loses k.loses;
      taken = taken;
      refusals = k.refusals
          ∙ h.refusals;
      references = k.references ∙ h.references;
    }

took_prefix : {A : Type 0} (n : ℕ) (g : List ℕ → Result A Error) (w : List ℕ) (s t : ByteReaderState) → length w ≡ n
    → BytesTaken s w t → ByteReadDone (byte_call (byte_prefix n g)) s (g w) t
took_prefix n g w s t len h =
    record {
      bytes = w;
      decides = λ more. byte_prefix-some n g w more len ∙ ap (λ k. Done k (g w)) (sym len);
      needs =
          word_needs n g w len;
      took = h;
    }

-- a prefix of n bytes took n bytes and has their result
prefix_took : {A : Type 0} (n : ℕ) (g : List ℕ → Result A Error) (r : Result A Error) (s t : ByteReaderState)
    (h : ByteReadDone (byte_call (byte_prefix n g)) s r t) → (length h.bytes ≡ n) × (r ≡ g h.bytes)
prefix_took n g r s t h = decided n g h.bytes r (ap (byte_prefix n g) (sym (append-nil h.bytes)) ∙ h.decides [])

-- ---- calls one after another

-- the bytes that a call that returned a value took
pub bytes_took : {R : Type 0} {K : ByteSource R} {grows : Bool} (n : ℕ) (x : List ℕ) (s t : R)
    → ByteReadOutcome K grows (given_bytes n) s (Ok x) t → BytesTaken (K.state s) x (K.state t) × (length x ≡ n)
unfolding given_bytes
bytes_took {K = K} n x s t (was_done h) =
    let e = prefix_took n (λ w. Ok w) (Ok x) (K.state s) (K.state t) h in
    let answer : Ok x ≡ Ok h.bytes = e.1 in
    let same : x ≡ h.bytes = cc in
    (subst (λ w. BytesTaken (K.state s) w (K.state t)) (sym same) h.took, ap (λ l. length l) same ∙ e.0)
bytes_took n x s t (was_refused h) = let p = h.answer in cc
bytes_took n x s t (memory_refused g h) = let p = h.answer in cc

pub bytes_taken : {R : Type 0} {K : ByteSource R} {grows : Bool} (n : ℕ) (x : List ℕ) (s t : R) → length x ≡ n
    → BytesTaken (K.state s) x (K.state t) → ByteReadOutcome K grows (given_bytes n) s (Ok x) t
unfolding given_bytes
bytes_taken {K = K} n x s t len h = was_done (took_prefix n (λ w. Ok w) x (K.state s) (K.state t) len h)

-- no bytes
pub bytes_none : {R : Type 0} {K : ByteSource R} {grows : Bool} (s : R)
    → ByteReadOutcome K grows (given_bytes 0) s (Ok []) s
bytes_none {K = K} s = bytes_taken 0 [] s s refl (record {
  loses = Consumes-nil (K.state s).bytes;
  taken = omega arith;
  refusals = refl;
  references = refl;
})

-- some bytes and then more
pub bytes_more : {R : Type 0} {K : ByteSource R} {grows : Bool} (a b : ℕ) (x y : List ℕ) (s t u : R)
    → ByteReadOutcome K grows (given_bytes a) s (Ok x) t → ByteReads K (given_bytes b) t (Ok y) u
    → ByteReadOutcome K grows (given_bytes (a + b)) s (Ok (x ++ y)) u
bytes_more {K = K} a b x y s t u h k =
    let p = bytes_took a x s t h in
    let q = bytes_took b y t u k in
    bytes_taken (a + b) (x ++ y) s u (length-append x y ∙ ap₂ (λ i j. i + j) p.1 q.1)
    (BytesTaken-trans x y (K.state s) (K.state t) (K.state u) p.0 q.0)

-- the same, by all bytes
pub bytes_then : {R : Type 0} {K : ByteSource R} {grows : Bool} (a b n : ℕ) (x y z : List ℕ) (s t u : R) → a + b ≡ n → z
    ≡ x ++ y → ByteReadOutcome K grows (given_bytes a) s (Ok x) t → ByteReads K (given_bytes b) t (Ok y) u
    → ByteReadOutcome K grows (given_bytes n) s (Ok z) u
bytes_then {K = K} {grows = grows} a b n x y z s t u sum is h k = rw (is, ← sum) (bytes_more a b x y s t u h k)

-- some bytes of n, and then a call that failed, of a call that makes a result of the n bytes
stop_prefix : {R A : Type 0} {K : ByteSource R} {grows : Bool} (g : List ℕ → Result A Error) (a b n : ℕ)
    (x : List ℕ) (e : Error) (s t u : R) → a + b ≤ n → ByteReadOutcome K grows (given_bytes a) s (Ok x) t
    → ByteReads K (given_bytes b) t (Err e) u → ByteReadOutcome K grows (byte_call (byte_prefix n g)) s (Err e) u
unfolding given_bytes
stop_prefix {K = K} g a b n x e s t u le h (was_done k) = let p =
    (prefix_took b (λ w. Ok w) (Err e) (K.state t) (K.state u) k).1 in cc
stop_prefix {K = K} g a b n x e s t u le h (was_refused k) =
    let p = bytes_took a x s t h in
    let took = p.0 in
    let len = p.1 in
    was_refused (record {
      refusal = k.refusal;
      allowed = k.allowed;
      answer = let answer = k.answer in cc;
      gone = x ++ k.gone;
      loses = Consumes-trans (K.state s).bytes (K.state t).bytes k.refusal.before x k.gone took.loses k.loses;
      after = k.after;
      taken = let i = took.taken in let j = k.taken in let l = length-append x k.gone in omega arith;
      few = let few = incomplete b (λ w. Ok w) k.gone k.few in
          byte_prefix-none n g (x ++ k.gone) (omega (arith, length-append x k.gone));
      ended = λ end xs known.
          let left = Consumes-known (K.state s).bytes (K.state t).bytes x xs took.loses known in
          let few = incomplete b (λ w. Ok w) left.0 (k.ended end left.0 left.1) in
          let all : length xs ≡ length x + length left.0 = ap (λ l. length l) left.2 ∙ length-append x left.0 in
          byte_prefix-none n g xs (omega arith);
      refusals = k.refusals ∙ ap (λ l. k.refusal ∷ l) took.refusals;
      references = k.references ∙ took.references;
    })
stop_prefix g a b n x e s t u le h (memory_refused m k) = cc

pub bytes_stop : {R : Type 0} {K : ByteSource R} {grows : Bool} (a b n : ℕ) (x : List ℕ) (e : Error) (s t u : R)
    → a + b ≤ n → ByteReadOutcome K grows (given_bytes a) s (Ok x) t → ByteReads K (given_bytes b) t (Err e) u
    → ByteReadOutcome K grows (given_bytes n) s (Err e) u
unfolding given_bytes
bytes_stop a b n x e s t u le h k = stop_prefix (λ w. Ok w) a b n x e s t u le h k

-- fewer than n bytes, and then an allocation failed
pub bytes_starved : {R : Type 0} {K : ByteSource R} (a n : ℕ) (x : List ℕ) (s t : R) → a < n
    → ByteReadsGrowing K (given_bytes a) s (Ok x) t → ByteReadsGrowing K (given_bytes n) s (Err OutOfMemory) t
unfolding given_bytes
bytes_starved a n x s t less h =
    let p = bytes_took a x s t h in
    memory_refused refl (record {
      answer = refl;
      bytes = x;
      few = byte_prefix-none n (λ w. Ok w) x (omega (arith, p.1));
      took = p.0;
    })

-- n bytes, whatever they are
pub bytes_skipped : {R : Type 0} {K : ByteSource R} (n : ℕ) (r : Result (List ℕ) Error) (s t : R)
    → ByteReads K (given_bytes n) s r t → ByteReads K (skipped_bytes n) s (result_map (λ _. tt) r) t
unfolding given_bytes skipped_bytes
bytes_skipped {K = K} n (Ok x) s t h = let p = bytes_took n x s t h in
    was_done (took_prefix n (λ _. Ok tt) x (K.state s) (K.state t) p.1 p.0)
bytes_skipped {K = K} n (Err e) s t h = stop_prefix (λ _. Ok tt) 0 n n [] e s s t (omega arith)
    (bytes_none {K = K} {grows = false} s) h

-- ---- one request

-- a request for some bytes is a read of them
pub bytes_fetched : {R : Type 0} {K : ByteSource R} (n : ℕ) (bytes : List ℕ)
    (answer : Result (Unit {0}) Error) (old new : PortState) (s t : R) → K.state s ≡ byte_reader_state old → K.state t
    ≡ byte_reader_state new → length bytes ≡ n → 0 < n
    → Fetches K.may old bytes answer new → ByteReads K (given_bytes n) s (result_map (λ _. bytes) answer) t
unfolding given_bytes
bytes_fetched {K = K} n bytes (Ok done) old new s t before after len some h =
    bytes_taken n bytes s t len (rw (before, after) (record {
      loses = h.loses;
      taken = h.fetched;
      refusals = h.refusals;
      references = h.references;
    }))
bytes_fetched {K = K} n bytes (Err error) old new s t before after len some h =
    was_refused (rw (before, after) (record {
      refusal = h.refusal;
      allowed = h.allowed;
      answer = ap Err h.answer;
      gone = [];
      loses = subst (λ b. Consumes old.bytes b []) (sym h.before) (Consumes-nil old.bytes);
      after = h.after;
      taken = let same = h.fetched in omega arith;
      few = byte_prefix-none n (λ w. Ok w) [] some;
      ended = λ end xs known. byte_prefix-none n (λ w. Ok w) xs
          (subst (λ k. length xs < k) len (end_few K.may error old new (length bytes) xs h end known));
      refusals = h.refusals;
      references = h.references;
    }))

-- ---- a buffer that is filled byte by byte

-- an array of bytes is its own bytes in either order
same_bytes : (o : Order) (x : List ℕ) → value_bytes o (λ (bs : List ℕ). bs) (λ (bs : List ℕ). bs) x ≡ x
same_bytes High x = refl
same_bytes Low x = refl

one_item : (x : List ℕ) (d : ℕ) → length x ≡ 1 → x ≡ slice_index_or x 0 d ∷ []
one_item [] d h = cc
one_item (b ∷ []) d h = refl
one_item (b ∷ c ∷ x) d h = absurd (omega arith)

-- one byte more, in its place
pub byte_put : {R : Type 0} {K : ByteSource R} (i : ℕ) (buf x : List ℕ) (s t u : R) → i < length buf
    → ByteReads K (given_bytes i) s (Ok (take i buf)) t
    → ByteReads K (given_bytes 1) t (Ok (value_bytes K.order (λ (bs : List ℕ). bs) (λ (bs : List ℕ). bs) x)) u
    → ByteReads K (given_bytes (i + 1)) s (Ok (take (i + 1) (set buf i (slice_index_or x 0 0)))) u
byte_put {K = K} i buf x s t u fits h k =
    let read : ByteReads K (given_bytes 1) t (Ok x) u = rw (same_bytes K.order x) at k in
    let one : x ≡ slice_index_or x 0 0 ∷ [] = one_item x 0 (bytes_took 1 x t u read).1 in
    let all : take (i + 1) (set buf i (slice_index_or x 0 0)) ≡ take i buf ++ x =
    take-set_at buf i (i + 1) (slice_index_or x 0 0) refl fits ∙ ap (λ l. take i buf ++ l) (sym one) in
    rw all (bytes_more i 1 (take i buf) x s t u h read)

-- ---- what the exit of a `?` returns

pub left_by : {R A : Type 0} {K : ByteSource R} {grows : Bool} {e : ByteDecoder A} {x : Error} {s t : R} (r :
    Result A Error) → IsErrAnd r (λ y. y ≡ x) → ByteReadOutcome K grows e s (Err x) t → ByteReadOutcome K grows e s r t
left_by {K = K} {grows = grows} {e = e} {s = s} {t = t} r h k =
    subst (λ z. ByteReadOutcome K grows e s z t) (sym (exit_is r h)) k

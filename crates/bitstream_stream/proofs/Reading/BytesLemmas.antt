-- Reads of bytes and of bits that are skipped.
use Rattle.std.specs.Result.{IsErrAnd}
use Rattle.std.proofs.Math.ListN.{drop_of_length-le}
use Rattle.std.proofs.Math.Seq.{take-append_seam, drop-append_seam}
use borrow.Rule.Slice.PartMut.{put_mid}
use Rattle.std.proofs.Common.{◌≡◌, ℕ, ◌+◌, ◌-◌, ◌*◌, ◌^◌, ◌<◌, ◌≤◌, Bool, true, false, List, [], ◌∷◌, ◌++◌, length, take, drop, append-nil, length-append, replicate, Result, Ok, Err, refl, sym, ap, ◌∙◌, subst, arith}
use Rattle.bitstream_number.specs.Word.{Order, word, number, bits, bytes, bytes_of}
use Rattle.bitstream_number.proofs.Bytes.{AreBytes}
use Rattle.bitstream_number.proofs.ByteLemmas.{bytes_of-bits, bytes_of-number, bytes_of-append, bytes_of-one}
use Rattle.bitstream_number.proofs.WordLemmas.{length-bits, word-number, number-lt}
use Rattle.std.proofs.lemmas.List.{nil_from_length, length-replicate}
use Rattle.bitstream_count.specs.declared.error.Error.{Error}
use Rattle.bitstream_count.specs.declared.error.Error.TheVariants.{Failed, OutOfMemory}
use Rattle.bitstream_count.specs.Codec.{Decoder, Incomplete, and_then, pure, consume}
use Rattle.bitstream_order.specs.Port.{PortState, Fetched}
use Rattle.bitstream_order.specs.Moving.Shift.{Shifts}
use Rattle.bitstream_order.specs.Moving.Gather.{TakesWord, result_map}
use Rattle.bitstream_stream.specs.Reading.Reads.{BitSource, ReadOutcome, failed_reader, had_failed}
use Rattle.bitstream_stream.specs.Reading.ReadTable.{unsigned_decoder, bytes_decoder, skip_decoder}
use Rattle.bitstream_stream.proofs.Reading.CodecLemmas.{Same, Same-trans, word_prefix-some, word_prefix-none, and_then_takes, map_takes}
use Rattle.bitstream_stream.proofs.Reading.LawLemmas.{Same-and_then}
use Rattle.bitstream_stream.proofs.Shared.{exit_is}
use Rattle.bitstream_stream.proofs.Reading.ReadsLemmas.{Reads-same, Reads-and_then-ok, Reads-and_then-err, Reads-pure, Reads-nothing, Reads-memory_refused, ok_prefix, map_err}
use Rattle.bitstream_stream.proofs.Reading.TableLemmas.{unsigned-takes}

-- ---- decoders

twice : (a b : ℕ) → 8 * a + 8 * b ≡ 8 * (a + b)
twice a b = omega arith

-- some bytes and then others
bytes-split : (o : Order) (a b : ℕ) → Same (and_then (bytes_decoder o a)
    (λ xs. and_then (bytes_decoder o b) (λ ys. pure (xs ++ ys)))) (bytes_decoder o (a + b))
unfolding bytes_decoder
bytes-split o a b =
    subst (λ k. Same (and_then (consume (8 * a) (λ w. Ok (bytes_of o a w)))
    (λ xs. and_then (consume (8 * b) (λ w. Ok (bytes_of o b w))) (λ ys. pure (xs ++ ys))))
    (consume k (λ w. Ok (bytes_of o (a + b) w)))) (twice a b)
    (Same-trans
    (Same-and_then (consume (8 * a) (λ w. Ok (bytes_of o a w)))
    (λ xs. and_then (consume (8 * b) (λ w. Ok (bytes_of o b w))) (λ ys. pure (xs ++ ys)))
    (λ xs. consume (8 * b) (λ w. Ok (xs ++ bytes_of o b w)))
    (λ xs. map_takes (8 * b) (bytes_of o b) (λ ys. xs ++ ys) (λ w. Ok (xs ++ bytes_of o b w)) (λ w _. refl)))
    (and_then_takes (8 * a) (8 * b) (bytes_of o a) (λ xs w. Ok (xs ++ bytes_of o b w)) (λ w. Ok (bytes_of o (a + b) w))
    (λ u v lu lv. ap Ok (bytes_of-append o a b u v lu))))

-- bytes are the number of all their bits
pub bytes-number : (o : Order) (n : ℕ) → Same (and_then (unsigned_decoder o (8 * n) (8 * n)) (λ v. pure (bytes o n v)))
    (bytes_decoder o n)
unfolding bytes_decoder
bytes-number o n =
    rw (unsigned-takes o (8 * n) (8 * n) (omega arith))
    (map_takes (8 * n) (number o) (bytes o n) (λ w. Ok (bytes_of o n w))
    (λ w len. ap Ok (bytes_of-number o n w len)))

byte-number : (o : Order) → Same (and_then (unsigned_decoder o 8 8) (λ v. pure (v ∷ []))) (bytes_decoder o 1)
unfolding bytes_decoder
byte-number o = rw (unsigned-takes o 8 8 (omega arith)) (map_takes 8 (number o) (λ v. v ∷ []) (λ w. Ok (bytes_of o 1 w))
    (λ w len. ap Ok (bytes_of-one o w len)))

bytes-none : (o : Order) (size : ℕ) → Same (and_then (unsigned_decoder o size 0) (λ _. pure [])) (bytes_decoder o 0)
unfolding bytes_decoder bytes_of
bytes-none o size = rw (unsigned-takes o size 0 (omega arith))
    (map_takes 0 (number o) (λ _. []) (λ w. Ok (bytes_of o 0 w)) (λ w _. refl))

skip-number : (o : Order) (size n : ℕ) → n ≤ size → Same (and_then (unsigned_decoder o size n) (λ _. pure tt))
    (skip_decoder n)
unfolding skip_decoder
skip-number o size n le = rw (unsigned-takes o size n le) (map_takes n (number o) (λ _. tt) (λ _. Ok tt) (λ w _. refl))

skip-split : (a b : ℕ) → Same (and_then (skip_decoder a) (λ _. skip_decoder b)) (skip_decoder (a + b))
unfolding skip_decoder
skip-split a b = and_then_takes a b (λ _. tt) (λ _ _. Ok tt) (λ _. Ok tt) (λ u v _ _. refl)

bytes-skip : (o : Order) (n : ℕ) → Same (and_then (bytes_decoder o n) (λ _. pure tt)) (skip_decoder (8 * n))
unfolding bytes_decoder skip_decoder
bytes-skip o n = map_takes (8 * n) (bytes_of o n) (λ _. tt) (λ _. Ok tt) (λ w _. refl)

bytes-on_failed : (o : Order) (n : ℕ) → (bytes_decoder o n).on_failed ≡ Err Failed
unfolding bytes_decoder
bytes-on_failed o n = refl

-- some bytes need bits
bytes-some : (o : Order) (n p : ℕ) → 0 < n → (bytes_decoder o n).reads p [] ≡ Incomplete
unfolding bytes_decoder
bytes-some o n p some = word_prefix-none (8 * n) (λ w. Ok (bytes_of o n w)) [] (omega arith)

-- how long a buffer is that has grown
pub grown_length : (xs all : List ℕ) (n : ℕ) → all ≡ xs ++ replicate (n - length xs) 0 → length xs ≤ n → length all ≡ n
grown_length xs all n is le = ap length is ∙ length-append xs (replicate (n - length xs) 0)
    ∙ ap (λ k. length xs + k) (length-replicate (n - length xs) 0) ∙ omega arith

-- what was read into the end of a buffer that had grown
pub grown_part : (n at : ℕ) (xs zs all items part : List ℕ) → n ≡ length all → all ≡ xs ++ zs → length xs
    ≡ at → length part ≡ length all - at
    → take n (put_mid at (length all - at) all part ++ drop (length (put_mid at (length all - at) all part)) items) ≡ xs
    ++ part
grown_part n at xs zs all items part len is short fits =
    let size : length all ≡ at + length zs = ap length is ∙ length-append xs zs ∙ ap (λ k. k + length zs) short in
    let prefix : take at all ≡ xs = ap (take at) is ∙ ap (λ k. take k (xs ++ zs)) (sym short) ∙ take-append_seam xs zs in
    let behind : drop at all ≡ zs = ap (drop at) is ∙ ap (λ k. drop k (xs ++ zs)) (sym short)
    ∙ drop-append_seam xs zs in
    let none : drop (length all - at) (drop at all) ≡ [] = ap (drop (length all - at)) behind
    ∙ drop_of_length-le zs (omega arith) in
    let made : put_mid at (length all - at) all part ≡ xs ++ part =
    ap (λ l. l ++ (part ++ drop (length all - at) (drop at all))) prefix ∙ ap (λ l. xs ++ (part ++ l)) none
    ∙ ap (λ l. xs ++ l) (append-nil part) in
    let same : n ≡ length (xs ++ part) = omega (arith, length-append xs part) in
    ap (λ l. take n (l ++ drop (length l) items)) made
    ∙ ap (λ k. take k ((xs ++ part) ++ drop (length (xs ++ part)) items)) same
    ∙ take-append_seam (xs ++ part) (drop (length (xs ++ part)) items)

-- ---- reads of bytes

module _ {R : Type 0} {K : BitSource R} {grows : Bool} where
  pub bytes-failed : (o : Order) (n : ℕ) (s : R) → (K.state s).failed ≡ true
      → ReadOutcome K grows (bytes_decoder o n) s (Err Failed) s
  unfolding bytes_decoder
  bytes-failed o n s h = had_failed (record { failed = h; answer = refl; same = refl })

  -- no bytes, of a reader that has not failed
  pub bytes-nothing : (o : Order) (bs : List ℕ) (s : R) → (K.state s).failed ≡ false → length bs ≡ 0
      → ReadOutcome K grows (bytes_decoder o (length bs)) s (Ok bs) s
  unfolding bytes_decoder bytes_of
  bytes-nothing o bs s fine none = rw (nil_from_length bs none)
      (Reads-nothing (bytes_decoder o 0) (Ok []) s fine refl (λ more. word_prefix-some 0 (λ w. Ok (bytes_of o 0 w)) [] more
      refl))

  -- no byte
  pub reads-none : (o : Order) (size v : ℕ) (s t : R) → ReadOutcome K grows (unsigned_decoder o size 0) s (Ok v) t
      → ReadOutcome K grows (bytes_decoder o 0) s (Ok []) t
  reads-none o size v s t h = Reads-same (bytes-none o size) (Reads-and_then-ok _ (λ _. pure []) h (Reads-pure [] t))

  pub stops-none : (o : Order) (size : ℕ) (x : Error) (s t : R)
      → ReadOutcome K grows (unsigned_decoder o size 0) s (Err x) t → ReadOutcome K grows (bytes_decoder o 0) s (Err x) t
  stops-none o size x s t h = Reads-same (bytes-none o size) (Reads-and_then-err _ (λ _. pure []) h)

  -- one byte
  pub reads-byte : (o : Order) (v : ℕ) (s t : R) → ReadOutcome K grows (unsigned_decoder o 8 8) s (Ok v) t
      → ReadOutcome K grows (bytes_decoder o 1) s (Ok (v ∷ [])) t
  reads-byte o v s t h = Reads-same (byte-number o) (Reads-and_then-ok _ (λ x. pure (x ∷ [])) h (Reads-pure (v ∷ []) t))

  pub stops-byte : (o : Order) (x : Error) (s t : R) → ReadOutcome K grows (unsigned_decoder o 8 8) s (Err x) t
      → ReadOutcome K grows (bytes_decoder o 1) s (Err x) t
  stops-byte o x s t h = Reads-same (byte-number o) (Reads-and_then-err _ (λ v. pure (v ∷ [])) h)

  -- all bytes as one number
  pub reads-number : (o : Order) (bs : List ℕ) (n : ℕ) (s t : R) → AreBytes bs → length bs ≡ n
      → ReadOutcome K grows (unsigned_decoder o (8 * n) (8 * n)) s (Ok (number o (bits o bs))) t
      → ReadOutcome K grows (bytes_decoder o n) s (Ok bs) t
  reads-number o bs n s t are len h =
      let size : length (bits o bs) ≡ 8 * n = length-bits o bs ∙ ap (λ k. 8 * k) len in
      let same : bytes o n (number o (bits o bs)) ≡ bs = sym (bytes_of-number o n (bits o bs) size)
      ∙ ap (λ k. bytes_of o k (bits o bs)) (sym len) ∙ bytes_of-bits o bs are in
      Reads-same (bytes-number o n) (Reads-and_then-ok _ (λ v. pure (bytes o n v)) h
      (subst (λ xs. ReadOutcome K grows (pure (bytes o n (number o (bits o bs)))) t (Ok xs) t) same
      (Reads-pure (bytes o n (number o (bits o bs))) t)))

  pub stops-number : (o : Order) (n : ℕ) (x : Error) (s t : R)
      → ReadOutcome K grows (unsigned_decoder o (8 * n) (8 * n)) s (Err x) t
      → ReadOutcome K grows (bytes_decoder o n) s (Err x) t
  stops-number o n x s t h = Reads-same (bytes-number o n) (Reads-and_then-err _ (λ v. pure (bytes o n v)) h)

  -- some bytes and then others
  pub reads-more : (o : Order) (a b n : ℕ) (xs ys zs : List ℕ) (s t z : R) → a + b ≡ n → zs ≡ xs ++ ys
      → ReadOutcome K grows (bytes_decoder o a) s (Ok xs) t → ReadOutcome K grows (bytes_decoder o b) t (Ok ys) z
      → ReadOutcome K grows (bytes_decoder o n) s (Ok zs) z
  reads-more o a b n xs ys zs s t z sum is h k =
      let both : ReadOutcome K grows (bytes_decoder o (a + b)) s (Ok (xs ++ ys)) z =
      Reads-same (bytes-split o a b) (Reads-and_then-ok _ (λ us. and_then (bytes_decoder o b) (λ vs. pure (us ++ vs))) h
      (Reads-and_then-ok _ (λ vs. pure (xs ++ vs)) k (Reads-pure (xs ++ ys) z))) in
      subst (λ m. ReadOutcome K grows (bytes_decoder o m) s (Ok zs) z) sum
      (subst (λ us. ReadOutcome K grows (bytes_decoder o (a + b)) s (Ok us) z) (sym is) both)

  -- a prefix of some bytes that failed
  pub stops-prefix : (o : Order) (a n : ℕ) (x : Error) (s t : R) → a ≤ n
      → ReadOutcome K grows (bytes_decoder o a) s (Err x) t → ReadOutcome K grows (bytes_decoder o n) s (Err x) t
  stops-prefix o a n x s t le h =
      let sum : a + (n - a) ≡ n = omega arith in
      subst (λ m. ReadOutcome K grows (bytes_decoder o m) s (Err x) t) sum
      (Reads-same (bytes-split o a (n - a)) (Reads-and_then-err _
      (λ us. and_then (bytes_decoder o (n - a)) (λ vs. pure (us ++ vs))) h))

  -- and after bytes that were read
  pub stops-more : (o : Order) (a b n : ℕ) (xs : List ℕ) (x : Error) (s t z : R) → a + b ≤ n
      → ReadOutcome K grows (bytes_decoder o a) s (Ok xs) t → ReadOutcome K grows (bytes_decoder o b) t (Err x) z
      → ReadOutcome K grows (bytes_decoder o n) s (Err x) z
  stops-more o a b n xs x s t z le h k = stops-prefix o (a + b) n x s z le
      (Reads-same (bytes-split o a b) (Reads-and_then-ok _ (λ us. and_then (bytes_decoder o b) (λ vs. pure (us ++ vs))) h
      (Reads-and_then-err _ (λ vs. pure (xs ++ vs)) k)))

  -- ---- bits that are skipped

  pub skips-failed : (n : ℕ) (s : R) → (K.state s).failed ≡ true → ReadOutcome K grows (skip_decoder n) s (Err Failed) s
  unfolding skip_decoder
  skips-failed n s h = had_failed (record { failed = h; answer = refl; same = refl })

  pub skips-none : (s : R) → (K.state s).failed ≡ false → ReadOutcome K grows (skip_decoder 0) s (Ok tt) s
  unfolding skip_decoder
  skips-none s fine = Reads-nothing (skip_decoder 0) (Ok tt) s fine refl
      (λ more. word_prefix-some 0 (λ _. Ok tt) [] more refl)

  pub skips : (o : Order) (size n m v : ℕ) (s t : R) → n ≤ size → n ≡ m
      → ReadOutcome K grows (unsigned_decoder o size n) s (Ok v) t → ReadOutcome K grows (skip_decoder m) s (Ok tt) t
  skips o size n m v s t le same h = subst (λ k. ReadOutcome K grows (skip_decoder k) s (Ok tt) t) same
      (Reads-same (skip-number o size n le) (Reads-and_then-ok _ (λ _. pure tt) h (Reads-pure tt t)))

  pub skips-stop : (o : Order) (size n : ℕ) (x : Error) (s t : R) → n ≤ size
      → ReadOutcome K grows (unsigned_decoder o size n) s (Err x) t → ReadOutcome K grows (skip_decoder n) s (Err x) t
  skips-stop o size n x s t le h = Reads-same (skip-number o size n le) (Reads-and_then-err _ (λ _. pure tt) h)

  pub skips-more : (a b n : ℕ) (r : Result (Unit {0}) Error) (s t z : R) → a + b ≡ n
      → ReadOutcome K grows (skip_decoder a) s (Ok tt) t → ReadOutcome K grows (skip_decoder b) t r z
      → ReadOutcome K grows (skip_decoder n) s r z
  skips-more a b n r s t z sum h k = subst (λ m. ReadOutcome K grows (skip_decoder m) s r z) sum
      (Reads-same (skip-split a b) (Reads-and_then-ok _ (λ _. skip_decoder b) h k))

  pub skips-prefix : (a n : ℕ) (x : Error) (s t : R) → a ≤ n → ReadOutcome K grows (skip_decoder a) s (Err x) t
      → ReadOutcome K grows (skip_decoder n) s (Err x) t
  skips-prefix a n x s t le h =
      let sum : a + (n - a) ≡ n = omega arith in
      subst (λ m. ReadOutcome K grows (skip_decoder m) s (Err x) t) sum
      (Reads-same (skip-split a (n - a)) (Reads-and_then-err _ (λ _. skip_decoder (n - a)) h))

  -- bytes after bytes that were skipped
  pub skips-bytes : (o : Order) (a b n : ℕ) (bs : List ℕ) (s t z : R) → a + b ≡ n
      → ReadOutcome K grows (skip_decoder (8 * a)) s (Ok tt) t → ReadOutcome K grows (bytes_decoder o b) t (Ok bs) z
      → ReadOutcome K grows (skip_decoder (8 * n)) s (Ok tt) z
  skips-bytes o a b n bs s t z sum h k = skips-more (8 * a) (8 * b) (8 * n) (Ok tt) s t z (twice a b
      ∙ ap (λ m. 8 * m) sum) h (Reads-same (bytes-skip o b) (Reads-and_then-ok _ (λ _. pure tt) k (Reads-pure tt z)))

  pub skips-bytes-stop : (o : Order) (a b n : ℕ) (x : Error) (s t z : R) → a + b ≤ n
      → ReadOutcome K grows (skip_decoder (8 * a)) s (Ok tt) t → ReadOutcome K grows (bytes_decoder o b) t (Err x) z
      → ReadOutcome K grows (skip_decoder (8 * n)) s (Err x) z
  skips-bytes-stop o a b n x s t z le h k = skips-prefix (8 * (a + b)) (8 * n) x s z (omega arith)
      (skips-more (8 * a) (8 * b) (8 * (a + b)) (Err x) s t z (twice a b) h
      (Reads-same (bytes-skip o b) (Reads-and_then-err _ (λ _. pure tt) k)))

-- an allocation failed after bytes that were read and before others, and the reader was made to fail
pub lacks-more : {R : Type 0} {K : BitSource R} (o : Order) (a n : ℕ) (xs : List ℕ) (s t z : R) → a < n
    → ReadOutcome K true (bytes_decoder o a) s (Ok xs) t → K.state z ≡ failed_reader (K.state t)
    → ReadOutcome K true (bytes_decoder o n) s (Err OutOfMemory) z
lacks-more {K = K} o a n xs s t z less h broken =
    let first = ok_prefix (bytes-on_failed o a) h in
    let starved = Reads-memory_refused (bytes_decoder o (n - a)) t z first.failed
    (bytes-some o (n - a) (K.state t).taken (omega arith)) broken in
    stops-more o a (n - a) n xs OutOfMemory s t z (omega arith) h starved

-- ---- what a reader took from its port

-- the bytes that were fetched, after a queue, as one encoding
pub word_of_bytes : (o : Order) (queued queue left n : ℕ) (bs made : List ℕ) (old new : PortState) → length made ≡ n
    → Fetched old bs new → Shifts o queued queue (bits o bs) (bits o made) left
    → TakesWord o queued queue old (8 * n) (number o (bits o made)) queued left new
word_of_bytes o queued queue left n bs made old new len h shifted =
    let size : length (bits o made) ≡ 8 * n = length-bits o made ∙ ap (λ k. 8 * k) len in
    record {
      bytes = bs;
      loses = h.loses;
      fetched = h.fetched;
      refusals = h.refusals;
      references = h.references;
      word = shifted ∙ ap (λ w. w ++ word o queued left) (sym (ap (λ k. word o k (number o (bits o made))) (sym size)
          ∙ word-number o (bits o made)));
      below = subst (λ k. number o (bits o made) < 2 ^ k) size (number-lt o (bits o made));
    }

-- the bits that are left, by another number of the same encoding
pub takes_left : (o : Order) (queued queue n v l q r : ℕ) (old new : PortState) → word o l q ≡ word o l r
    → TakesWord o queued queue old n v l q new → TakesWord o queued queue old n v l r new
takes_left o queued queue n v l q r old new same h =
    let all = h.word ∙ ap (λ w. word o n v ++ w) same in
    record {
      bytes = h.bytes;
      loses = h.loses;
      fetched = h.fetched;
      refusals = h.refusals;
      references =
          h.references;
      word = all;
      below = h.below;
    }

-- ---- errors returned by `?`

-- an error that a clause sees by a view
pub map_stops : {R A B : Type 0} {K : BitSource R} {grows : Bool} {e : Decoder A} {x : Error} {s t : R} (view : B
    → A) (r : Result B Error) → IsErrAnd r (λ y. y ≡ x) → ReadOutcome K grows e s (Err x) t
    → ReadOutcome K grows e s (result_map view r) t
map_stops {K = K} {grows = grows} {e = e} {s = s} {t = t} view r h k =
    subst (λ z. ReadOutcome K grows e s z t) (sym (map_err view r h)) k

pub stops : {R A : Type 0} {K : BitSource R} {grows : Bool} {e : Decoder A} {x : Error} {s t : R} (r : Result A Error)
    → IsErrAnd r (λ y. y ≡ x) → ReadOutcome K grows e s (Err x) t → ReadOutcome K grows e s r t
stops {K = K} {grows = grows} {e = e} {s = s} {t = t} r h k =
    subst (λ z. ReadOutcome K grows e s z t) (sym (exit_is r h)) k

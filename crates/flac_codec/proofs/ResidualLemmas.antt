-- Residuals in partitions: from what was written the decoder reads the numbers, and what is not written because a call
-- failed could have been.
use Rattle.std.proofs.Common.{arith, ◌≡◌, ◌∙◌, ◌++◌, ◌+◌, ◌-◌, ◌*◌, ◌/◌, ◌%◌, ◌^◌, ◌<◌, ◌≤◌, ℕ, ℤ, zero, suc, List, [], ◌∷◌, Result, Ok, Err, length, take, drop, refl, sym, ap, subst, append-nil, append_assoc, take-append-drop, add-one, length-drop}
use native.Mathlib.Nat.{div-add-mod}
use Rattle.std.specs.List.{All, flat_map}
use Rattle.std.specs.Result.{IsErrAnd}
use Rattle.std.proofs.lemmas.Bool.{eq-eqb, le-ltb}
use Rattle.std.proofs.Math.Pow.{pow_mono}
use Rattle.std.proofs.lemmas.Nat.{pow_pos}
use Rattle.std.proofs.lemmas.List.{length-take-le, take_all}
use Rattle.std.proofs.lemmas.List.Elements.{All-drop, All-take}
use Rattle.bitstream_io.specs.Codec.{and_then}
use Rattle.bitstream_io.specs.Grows.{parts_decoder}
use Rattle.bitstream_io.specs.Callers.{part_then, pure, AllAccepted, Decoder, Encoder, Error, Order, Sink, WritesAll}
use Rattle.bitstream_io.specs.ReadBack.{IsReadAs}
use Rattle.bitstream_io.specs.Word.{zig}
use Rattle.bitstream_io.proofs.CallerLemmas.{RoundTrip, computed-back, else-back, if-back, is_error, part-back, unsigned-back}
use Rattle.bitstream_io.proofs.WriteParts.{all_append, all_stop}
use Rattle.flac_codec.specs.Residual.{partition_decoder, partitions_decoder, residual_decoder}
use Rattle.flac_codec.specs.Subframe.{partition_writes, residual_head, WritesValue}
use Rattle.flac_codec.specs.declared.error.FlacError.{FlacError}
use Rattle.flac_codec.proofs.SubframeLemmas.{partition-back, partition-packs, residual_head-packs}
use Rattle.flac_codec.proofs.WrittenLemmas.{accepted_append, more-read, none-read}

-- ---- values that can be written

-- calls from which a decoder reads a value
pub record Writable {A E : Type 0} (decoder : Decoder (Result A E)) (value : A) : Type 0 where
  pub calls : List Encoder
  pub accepted : (from : ℕ) → AllAccepted calls from
  pub read : IsReadAs calls decoder (Ok value)

pub written_of : {S A E : Type 0} {K : Sink S} {decoder : Decoder (Result A E)} {value : A} {s t : S}
    {r : Result (Unit {0}) Error} → WritesValue K decoder value s r t → Writable decoder value
written_of h = record { calls = h.calls; accepted = h.accepted; read = h.read }

-- calls before a value, which with it make another one
module _ {S A B E F : Type 0} {K : Sink S} {inner : Decoder (Result A E)} {x : A} {outer : Decoder (Result B F)} {y : B}
    (ws : List Encoder) (accepted : (from : ℕ) → AllAccepted ws from) (makes : (es : List Encoder)
    → IsReadAs es inner (Ok x) → IsReadAs (ws ++ es) outer (Ok y)) where
  pub written-behind : {s m t : S} {r : Result (Unit {0}) Error} → WritesAll K ws s (Ok tt) m → WritesValue K inner x m r t
      → WritesValue K outer y s r t
  written-behind {s = s} {m = m} {t = t} {r = r} h k = record {
    calls = ws ++ k.calls;
    written = all_append K ws k.calls s m r t h k.written;
    accepted = λ from. accepted_append ws k.calls from (accepted from) k.accepted;
    read = makes k.calls k.read;
  }

  -- one of these calls failed
  pub stopped-before : {s t : S} (rest : Writable inner x) (error : Error) (r : Result (Unit {0}) Error) → IsErrAnd r (λ z. z ≡ error)
      → WritesAll K ws s (Err error) t → WritesValue K outer y s r t
  stopped-before {s = s} {t = t} rest error r is h = record {
    calls = ws ++ rest.calls;
    written = all_stop K ws rest.calls s error r t (is_error r error is) h;
    accepted = λ from. accepted_append ws rest.calls from (accepted from) rest.accepted;
    read = makes rest.calls rest.read;
  }

-- ---- partitions

pub joined-more : (parts : List (List ℤ)) (part : List ℤ)
    → flat_map (λ xs. xs) (parts ++ part ∷ []) ≡ flat_map (λ xs. xs) parts ++ part
joined-more [] part = append-nil part
joined-more (first ∷ parts) part =
    ap (λ xs. first ++ xs) (joined-more parts part) ∙ sym (append_assoc first (flat_map (λ xs. xs) parts) part)

-- one more partition of the numbers that are left
split-again : (parts : List (List ℤ)) (size : ℕ) (left : List ℤ)
    → flat_map (λ xs. xs) (parts ++ take size left ∷ []) ++ drop size left ≡ flat_map (λ xs. xs) parts ++ left
split-again parts size left =
    ap (λ ys. ys ++ drop size left) (joined-more parts (take size left))
    ∙ append_assoc (flat_map (λ xs. xs) parts) (take size left) (drop size left)
    ∙ ap (λ ys. flat_map (λ xs. xs) parts ++ ys) (take-append-drop size left)

-- the numbers from a place on, as a slice
pub rest-all : (xs : List ℤ) (n : ℕ) → take (length xs - n) (drop n xs) ≡ drop n xs
rest-all xs n = let size = length-drop n xs in take_all (length xs - n) (drop n xs) (omega (arith, size))

none-left : (xs : List ℤ) → length xs ≡ 0 → [] ≡ xs
none-left [] is = refl
none-left (x ∷ xs) is = absurd (omega (arith, is))

module _ (o : Order) (bits : ℕ) (some : 1 ≤ bits) (most : bits ≤ 5) where
  -- the parameter 0 is one of them
  zero_few : 0 < 2 ^ bits - 1
  zero_few = let power : 2 ^ 1 ≤ 2 ^ bits = pow_mono {i = 1} {j = bits} some in omega (arith, power)

  partition-calls : (xs : List ℤ) → All (λ x. zig x < 2 ^ 32) xs → Writable (partition_decoder o bits (length xs)) xs
  partition-calls xs small = record {
    calls = partition_writes o bits 0 xs;
    accepted = (partition-packs o bits 0 xs most zero_few).accepted;
    read = (partition-back o bits 0 xs most zero_few small).back;
  }

  -- more partitions of `size` numbers
  pub record Filled (size count : ℕ) (ws : List Encoder) (joined : List ℤ) : Type 0 where
    pub parts : List (List ℤ)
    pub calls : List Encoder
    pub accepted : (from : ℕ) → AllAccepted calls from
    pub read : IsReadAs (ws ++ calls) (parts_decoder (partition_decoder o bits size) count) (Ok parts)
    pub is : flat_map (λ part. part) parts ≡ joined

  pub filled : (size more done : ℕ) (ws : List Encoder) (parts : List (List ℤ)) (xs : List ℤ) (count : ℕ) → done + more ≡ count
      → length xs ≡ more * size → All (λ x. zig x < 2 ^ 32) xs
      → IsReadAs ws (parts_decoder (partition_decoder o bits size) done) (Ok parts)
      → Filled size count ws (flat_map (λ part. part) parts ++ xs)
  filled size zero done ws parts xs count ends long small read =
      let same : done ≡ count = omega (arith, ends) in
      let none : [] ≡ xs = none-left xs (omega (arith, long)) in
      record {
        parts = parts;
        calls = [];
        accepted = λ from. tt;
        read = rw (append-nil ws) (subst (λ n. IsReadAs ws (parts_decoder (partition_decoder o bits size) n) (Ok parts)) same read);
        is = sym (ap (λ ys. flat_map (λ part. part) parts ++ ys) (sym none) ∙ append-nil (flat_map (λ part. part) parts));
      }
  filled size (suc more) done ws parts xs count ends long small read =
      let e = partition_decoder o bits size in
      let part = take size xs in
      let left = drop size xs in
      let enough : size ≤ length xs = omega (arith, long) in
      let part_size : length part ≡ size = length-take-le size xs enough in
      let left_size : length left ≡ more * size = let l = length-drop size xs in omega (arith, l, long) in
      let one = partition-calls part (All-take (λ x. zig x < 2 ^ 32) size xs small) in
      let part_read : IsReadAs one.calls e (Ok part) =
      subst (λ n. IsReadAs one.calls (partition_decoder o bits n) (Ok part)) part_size one.read in
      let rest = filled size more (suc done) (ws ++ one.calls) (parts ++ part ∷ []) left count (omega (arith, ends)) left_size
      (All-drop (λ x. zig x < 2 ^ 32) size xs small) (more-read e done ws one.calls parts part read part_read) in
      record {
        parts = rest.parts;
        calls = one.calls ++ rest.calls;
        accepted = λ from. accepted_append one.calls rest.calls from (one.accepted from) rest.accepted;
        read = subst (λ us. IsReadAs us (parts_decoder e count) (Ok rest.parts)) (append_assoc ws one.calls rest.calls) rest.read;
        is = rest.is ∙ split-again parts size xs;
      }

  -- a first partition and the others
  pub partitions-read : (first size count : ℕ) (ws vs : List Encoder) (numbers xs : List ℤ) (parts : List (List ℤ))
      → IsReadAs ws (partition_decoder o bits first) (Ok numbers)
      → IsReadAs vs (parts_decoder (partition_decoder o bits size) count) (Ok parts)
      → numbers ++ flat_map (λ part. part) parts ≡ xs
      → IsReadAs (ws ++ vs) (partitions_decoder o bits first size count) (Ok xs)
  partitions-read first size count ws vs numbers xs parts one others is =
      let e = parts_decoder (partition_decoder o bits size) count in
      let make = part_then (λ ps. pure {A = Result (List ℤ) FlacError} (Ok (numbers ++ flat_map (λ part. part) ps))) in
      let behind : RoundTrip (and_then e make) vs (Ok xs) =
      subst (λ us. RoundTrip (and_then e make) us (Ok xs)) (append-nil vs)
      (part-back e make vs [] (Ok parts) (Ok xs) others (computed-back _ _ (ap Ok is))) in
      let whole : RoundTrip (partitions_decoder o bits first size count) (ws ++ vs) (Ok xs) =
      part-back (partition_decoder o bits first) _ ws vs (Ok numbers) (Ok xs) one behind in
      whole.back

  -- all partitions of numbers
  pub partitions-calls : (first size count : ℕ) (xs : List ℤ) → length xs ≡ first + count * size
      → All (λ x. zig x < 2 ^ 32) xs → Writable (partitions_decoder o bits first size count) xs
  partitions-calls first size count xs long small =
      let part = take first xs in
      let part_size : length part ≡ first = length-take-le first xs (omega (arith, long)) in
      let left_size : length (drop first xs) ≡ count * size = let l = length-drop first xs in omega (arith, l, long) in
      let one = partition-calls part (All-take (λ x. zig x < 2 ^ 32) first xs small) in
      let part_read : IsReadAs one.calls (partition_decoder o bits first) (Ok part) =
      subst (λ n. IsReadAs one.calls (partition_decoder o bits n) (Ok part)) part_size one.read in
      let rest = filled size count 0 [] [] (drop first xs) count (omega arith) left_size
      (All-drop (λ x. zig x < 2 ^ 32) first xs small) (none-read (partition_decoder o bits size)) in
      record {
        calls = one.calls ++ rest.calls;
        accepted = λ from. accepted_append one.calls rest.calls from (one.accepted from) rest.accepted;
        read = partitions-read first size count one.calls rest.calls part xs rest.parts part_read rest.read
            (ap (λ ys. part ++ ys) rest.is ∙ take-append-drop first xs);
      }

-- ---- the loop over partitions

module _ {S : Type 0} (K : Sink S) (bits first size count : ℕ) (numbers : List ℤ) where
  -- the first partition and those so far were written, and whole partitions are left
  pub record PartsWritten (left : List ℤ) (i : ℕ) (s t : S) : Type 0 where
    pub head : List ℤ
    pub parts : List (List ℤ)
    pub ws : List Encoder
    pub vs : List Encoder
    pub more : ℕ
    pub written : WritesAll K (ws ++ vs) s (Ok tt) t
    pub accepted : (from : ℕ) → AllAccepted (ws ++ vs) from
    pub head_read : IsReadAs ws (partition_decoder K.order bits first) (Ok head)
    pub parts_read : IsReadAs vs (parts_decoder (partition_decoder K.order bits size) i) (Ok parts)
    pub is : head ++ (flat_map (λ part. part) parts ++ left) ≡ numbers
    pub ends : i + more ≡ count
    pub long : length left ≡ more * size
    pub small : All (λ x. zig x < 2 ^ 32) left

one-more : (i more count : ℕ) → i < count → i + more ≡ count → (n : ℕ) × (more ≡ suc n) × ((i + 1) + n ≡ count)
one-more i zero count less ends = absurd (omega (arith, less, ends))
one-more i (suc n) count less ends = (n, refl, omega (arith, ends))

module _ {S : Type 0} (K : Sink S) (bits : ℕ) (some : 1 ≤ bits) (most : bits ≤ 5) (first size count : ℕ) (numbers : List ℤ) where
  abbrev So_far : List ℤ → ℕ → S → S → Type 0
  So_far left i s t = PartsWritten K bits first size count numbers left i s t

  head-size : length numbers ≡ first + count * size → length (take first numbers) ≡ first
  head-size all = length-take-le first numbers (omega (arith, all))

  left-size : length numbers ≡ first + count * size → length (drop first numbers) ≡ count * size
  left-size all = let l = length-drop first numbers in omega (arith, l, all)

  module _ (all : length numbers ≡ first + count * size) (fit : All (λ x. zig x < 2 ^ 32) numbers) {s t : S} where
    pub parts-begin : WritesValue K (partition_decoder K.order bits (length (take first numbers))) (take first numbers) s (Ok tt) t
        → So_far (drop first numbers) 0 s t
    parts-begin h = record {
      head = take first numbers;
      parts = [];
      ws = h.calls;
      vs = [];
      more = count;
      written = rw (append-nil h.calls) h.written;
      accepted = subst (λ us. (from : ℕ) → AllAccepted us from) (sym (append-nil h.calls)) h.accepted;
      head_read = subst (λ n. IsReadAs h.calls (partition_decoder K.order bits n) (Ok (take first numbers))) (head-size all) h.read;
      parts_read = none-read (partition_decoder K.order bits size);
      is = take-append-drop first numbers;
      ends = omega arith;
      long = left-size all;
      small = All-drop (λ x. zig x < 2 ^ 32) first numbers fit;
    }

    -- the first one failed
    pub parts-none_written : (error : Error) (r : Result (Unit {0}) Error) → IsErrAnd r (λ z. z ≡ error)
        → WritesValue K (partition_decoder K.order bits (length (take first numbers))) (take first numbers) s (Err error) t
        → WritesValue K (partitions_decoder K.order bits first size count) numbers s r t
    parts-none_written error r is h =
        let rest = filled K.order bits some most size count 0 [] [] (drop first numbers) count (omega arith) (left-size all)
        (All-drop (λ x. zig x < 2 ^ 32) first numbers fit) (none-read (partition_decoder K.order bits size)) in
        let head_read : IsReadAs h.calls (partition_decoder K.order bits first) (Ok (take first numbers)) =
        subst (λ n. IsReadAs h.calls (partition_decoder K.order bits n) (Ok (take first numbers))) (head-size all) h.read in
        record {
          calls = h.calls ++ rest.calls;
          written = all_stop K h.calls rest.calls s error r t (is_error r error is) h.written;
          accepted = λ from. accepted_append h.calls rest.calls from (h.accepted from) rest.accepted;
          read = partitions-read K.order bits some most first size count h.calls rest.calls (take first numbers) numbers
              rest.parts head_read rest.read (ap (λ ys. take first numbers ++ ys) rest.is ∙ take-append-drop first numbers);
        }

  module _ {left : List ℤ} {i : ℕ} {s t : S} (less : i < count) (so_far : So_far left i s t) where
    abbrev next : (n : ℕ) × (so_far.more ≡ suc n) × ((i + 1) + n ≡ count)
    next = one-more i so_far.more count less so_far.ends

    pub parts-enough : size ≤ length left
    parts-enough =
        let long = so_far.long in
        let same = next.1 in
        let product : so_far.more * size ≡ suc next.0 * size = ap (λ n. n * size) same in
        omega (arith, long, product)

    part-size : length (take size left) ≡ size
    part-size = length-take-le size left parts-enough

    rest-size : length (drop size left) ≡ next.0 * size
    rest-size =
        let long = so_far.long in
        let l = length-drop size left in
        let product : so_far.more * size ≡ suc next.0 * size = ap (λ n. n * size) next.1 in
        omega (arith, long, l, product)

    parts-again : {z : S} {r : Result (Unit {0}) Error} (h : WritesValue K (partition_decoder K.order bits (length (take size left))) (take size left) t r z)
        → IsReadAs (so_far.vs ++ h.calls) (parts_decoder (partition_decoder K.order bits size) (suc i)) (Ok (so_far.parts ++ take size left ∷ []))
    parts-again h =
        more-read (partition_decoder K.order bits size) i so_far.vs h.calls so_far.parts (take size left) so_far.parts_read
        (subst (λ n. IsReadAs h.calls (partition_decoder K.order bits n) (Ok (take size left))) part-size h.read)

    pub parts-step : {z : S} → WritesValue K (partition_decoder K.order bits (length (take size left))) (take size left) t (Ok tt) z
        → So_far (drop size left) (i + 1) s z
    parts-step {z = z} h = record {
      head = so_far.head;
      parts = so_far.parts ++ take size left ∷ [];
      ws = so_far.ws;
      vs = so_far.vs ++ h.calls;
      more = next.0;
      written = subst (λ us. WritesAll K us s (Ok tt) z) (append_assoc so_far.ws so_far.vs h.calls)
          (all_append K (so_far.ws ++ so_far.vs) h.calls s t (Ok tt) z so_far.written h.written);
      accepted = subst (λ us. (from : ℕ) → AllAccepted us from) (append_assoc so_far.ws so_far.vs h.calls)
          (λ from. accepted_append (so_far.ws ++ so_far.vs) h.calls from (so_far.accepted from) h.accepted);
      head_read = so_far.head_read;
      parts_read = rw (add-one i) (parts-again h);
      is = ap (λ ys. so_far.head ++ ys) (split-again so_far.parts size left) ∙ so_far.is;
      ends = next.2;
      long = rest-size;
      small = All-drop (λ x. zig x < 2 ^ 32) size left so_far.small;
    }

    pub parts-stopped : {z : S} (error : Error) (r : Result (Unit {0}) Error) → IsErrAnd r (λ z. z ≡ error)
        → WritesValue K (partition_decoder K.order bits (length (take size left))) (take size left) t (Err error) z
        → WritesValue K (partitions_decoder K.order bits first size count) numbers s r z
    parts-stopped {z = z} error r is h =
        let again = parts-again h in
        let rest = filled K.order bits some most size next.0 (suc i) (so_far.vs ++ h.calls) (so_far.parts ++ take size left ∷ [])
        (drop size left) count (let e = next.2 in omega (arith, e)) rest-size
        (All-drop (λ x. zig x < 2 ^ 32) size left so_far.small) again in
        let before = so_far.ws ++ so_far.vs in
        let same : so_far.ws ++ ((so_far.vs ++ h.calls) ++ rest.calls) ≡ before ++ (h.calls ++ rest.calls) =
        ap (λ us. so_far.ws ++ us) (append_assoc so_far.vs h.calls rest.calls)
        ∙ sym (append_assoc so_far.ws so_far.vs (h.calls ++ rest.calls)) in
        let joined : so_far.head ++ flat_map (λ part. part) rest.parts ≡ numbers =
        ap (λ ys. so_far.head ++ ys) (rest.is ∙ split-again so_far.parts size left) ∙ so_far.is in
        record {
          calls = before ++ (h.calls ++ rest.calls);
          written = all_append K before (h.calls ++ rest.calls) s t r z so_far.written
              (all_stop K h.calls rest.calls t error r z (is_error r error is) h.written);
          accepted = λ from. accepted_append before (h.calls ++ rest.calls) from (so_far.accepted from)
              (λ at. accepted_append h.calls rest.calls at (h.accepted at) rest.accepted);
          read = subst (λ us. IsReadAs us (partitions_decoder K.order bits first size count) (Ok numbers)) same
              (partitions-read K.order bits some most first size count so_far.ws ((so_far.vs ++ h.calls) ++ rest.calls)
              so_far.head numbers rest.parts so_far.head_read rest.read joined);
        }

  pub parts-written : {left : List ℤ} {i : ℕ} {s t : S} → i ≡ count → So_far left i s t
      → WritesValue K (partitions_decoder K.order bits first size count) numbers s (Ok tt) t
  parts-written {left = left} {i = i} all h =
      let none : h.more ≡ 0 = let e = h.ends in omega (arith, e, all) in
      let empty : [] ≡ left = none-left left (let l = h.long in let p : h.more * size ≡ 0 * size = ap (λ n. n * size) none in omega (arith, l, p)) in
      let joined : h.head ++ flat_map (λ part. part) h.parts ≡ numbers =
      ap (λ ys. h.head ++ ys) (sym (ap (λ ys. flat_map (λ part. part) h.parts ++ ys) (sym empty)
      ∙ append-nil (flat_map (λ part. part) h.parts))) ∙ h.is in
      record {
        calls = h.ws ++ h.vs;
        written = h.written;
        accepted = h.accepted;
        read = partitions-read K.order bits some most first size count h.ws h.vs h.head numbers h.parts h.head_read
            (subst (λ n. IsReadAs h.vs (parts_decoder (partition_decoder K.order bits size) n) (Ok h.parts)) all h.parts_read) joined;
      }

-- ---- a residual

-- the header of a residual before its partitions
pub residual_head-back : (o : Order) (coding n block order : ℕ) (numbers : List ℤ) → coding ≤ 1 → n < 2 ^ 4
    → block % 2 ^ n ≡ 0 → order ≤ block / 2 ^ n → (es : List Encoder)
    → IsReadAs es (partitions_decoder o (4 + coding) (block / 2 ^ n - order) (block / 2 ^ n) (2 ^ n - 1)) (Ok numbers)
    → IsReadAs (residual_head o coding n ++ es) (residual_decoder o block order) (Ok numbers)
residual_head-back o zero n block order numbers small few whole long es read =
    let back : RoundTrip (residual_decoder o block order) (residual_head o 0 n ++ es) (Ok numbers) =
    unsigned-back o 2 _ _ 8 0 _ refl (omega arith) (unsigned-back o 4 _ _ 32 n _ refl few
    (if-back _ _ _ _ _ (eq-eqb _ 0 whole) (else-back _ _ _ _ _ (le-ltb _ _ long) (record { back = read })))) in
    back.back
residual_head-back o (suc zero) n block order numbers small few whole long es read =
    let back : RoundTrip (residual_decoder o block order) (residual_head o 1 n ++ es) (Ok numbers) =
    unsigned-back o 2 _ _ 8 1 _ refl (omega arith) (unsigned-back o 4 _ _ 32 n _ refl few
    (if-back _ _ _ _ _ (eq-eqb _ 0 whole) (else-back _ _ _ _ _ (le-ltb _ _ long) (record { back = read })))) in
    back.back
residual_head-back o (suc (suc c)) n block order numbers small few whole long es read = absurd (omega (arith, small))

parts-sum : (parts size order len : ℕ) → 0 < parts → order ≤ size → parts * size ≡ order + len
    → len ≡ (size - order) + (parts - 1) * size
parts-sum zero size order len some long is = absurd (omega (arith, some))
parts-sum (suc n) size order len some long is = let e : suc n - 1 ≡ n = omega arith in rw e (omega (arith, long, is))

-- the sizes of the partitions of a block
pub part-sizes : (block order n len : ℕ) → block ≡ order + len → block % 2 ^ n ≡ 0 → order ≤ block / 2 ^ n
    → len ≡ (block / 2 ^ n - order) + (2 ^ n - 1) * (block / 2 ^ n)
part-sizes block order n len is whole long =
    let positive = pow_pos n in
    let division : 2 ^ n * (block / 2 ^ n) + block % 2 ^ n ≡ block = div-add-mod block (2 ^ n) in
    parts-sum (2 ^ n) (block / 2 ^ n) order len positive long (omega (arith, division, whole, is))

-- any residual, in one partition
pub residual-calls : (o : Order) (order : ℕ) (numbers : List ℤ) → All (λ x. zig x < 2 ^ 32) numbers
    → Writable (residual_decoder o (order + length numbers) order) numbers
residual-calls o order numbers small =
    let block = order + length numbers in
    let whole : block % 2 ^ 0 ≡ 0 = omega arith in
    let long : order ≤ block / 2 ^ 0 = omega arith in
    let all = part-sizes block order 0 (length numbers) refl whole long in
    let rest = partitions-calls o 4 (omega arith) (omega arith) (block / 2 ^ 0 - order) (block / 2 ^ 0) (2 ^ 0 - 1) numbers all small in
    record {
      calls = residual_head o 0 0 ++ rest.calls;
      accepted = λ from. accepted_append (residual_head o 0 0) rest.calls from
          ((residual_head-packs o 0 0 (omega arith) (omega arith)).accepted from) rest.accepted;
      read = residual_head-back o 0 0 block order numbers (omega arith) (omega arith) whole long rest.calls rest.read;
    }

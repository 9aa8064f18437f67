-- That calls are all accepted wherever they are, and how many bits they write: `Packs`. A caller's proof of it is
-- `search (packs, FACTS)`, where the facts say that the values fit their widths. The other way: that what was accepted
-- fits. And what `pack_into` makes of such calls.
use Rattle.std.proofs.Common.{ap, inl, inr, ◌≡◌, ◌∙◌, ℕ, ℤ, ◌+◌, ◌-◌, ◌*◌, ◌^◌, ◌<◌, ◌≤◌, Bool, true, false, List, [], ◌∷◌, ◌++◌, length, Result, Ok, Err, refl, sym, subst, arith, length-append, append-nil}
use Rattle.std.specs.Borrow.{GName}
use Rattle.std.specs.Prelude.{nat_le, nat_lt, replicate, pos, negsuc, IfOk, IsOk}
use Rattle.std.specs.declared.io.ErrorKind.TheVariants.{WriteZero}
use Rattle.std.proofs.lemmas.Bool.{cases_lt}
use Rattle.std.specs.List.{All, flat_map}
use Rattle.std.proofs.lemmas.Bool.Decides.{nat_tests}
use Rattle.std.proofs.lemmas.List.{length-replicate}
use Rattle.std.proofs.lemmas.List.Elements.{All-cons, All-head, All-nil, All-tail, All-weaker}
use Rattle.bitstream_number.specs.Word.{FitsSignedBits, Order, bits, signed_word, word}
use Rattle.bitstream_number.proofs.WordLemmas.{length-bits, length-word}
use Rattle.bitstream_count.specs.Codec.{Encoder}
use Rattle.bitstream_count.specs.declared.error.Error.{Error}
use Rattle.bitstream_count.specs.declared.error.Error.TheVariants.{Checked, Stream}
use Rattle.bitstream_count.specs.declared.checked_error.CheckedError.TheVariants.{ExcessiveBits, ExcessiveValue}
use Rattle.bitstream_count.specs.Unary.{unary}
use Rattle.bitstream_count.specs.Vbr.{vbr_word}
use Rattle.bitstream_order.specs.Streaming.SliceMut.{written_bytes}
use Rattle.bitstream_order.specs.declared.streams.slice_mut.SliceMut.{SliceMut}
use Rattle.bitstream_stream.specs.Alignment.{to_boundary}
use Rattle.bitstream_stream.specs.Writing.Room.{AllAccepted}
use Rattle.bitstream_stream.specs.Sequence.{accepted_bits, write_sequence}
use Rattle.bitstream_stream.specs.Writing.WriteTable.{align, bit, buffer, plain, signed, unary_word, unsigned, vbr, zeros}
use Rattle.bitstream_stream.proofs.Writing.WriteLemmas.{signed-accepts, signed-fail, unsigned-fits, unsigned-fail}
use Rattle.bitstream_value.specs.Lengths.{sequence_length}
use Rattle.bitstream_value.specs.NonZero.{non_zero}
use Rattle.bitstream_value.specs.PackInto.{PacksInto}
use Rattle.bitstream_value.proofs.PackIntoLemmas.{accepted-run, run-accepted}
use Rattle.bitstream_io.specs.Loop.{parts_size}
use Rattle.bitstream_io.proofs.SequenceLemmas.{write_sequence-append}

-- ---- one call

-- a call that writes an encoding of so many bits, wherever it is
pub record IsWritten (encoder : Encoder) (size : ℕ) : Type 0 where
  pub word : List Bool
  pub is : (at : ℕ) → encoder at ≡ Ok word
  pub long : length word ≡ size

within : (n m : ℕ) → nat_le n m ≡ true → n ≤ m
within n m h = grind (arith, nat_tests)

pub unsigned-written : (o : Order) (size n v : ℕ) → nat_le n size ≡ true → v < 2 ^ n → IsWritten (unsigned o size n v) n
unsigned-written o size n v le fits = record {
  word = word o n v;
  is = λ at. unsigned-fits o size n v at (within n size le) fits;
  long = length-word o n v;
}

pub signed-written : (o : Order) (size n : ℕ) (x : ℤ) → nat_le 1 n ≡ true → nat_le n size ≡ true → FitsSignedBits n x
    → IsWritten (signed o size n x) n
signed-written o size n x some le fits = record {
  word = signed_word o n x;
  is = λ at. signed-accepts o size n x at (within 1 n some) (within n size le, fits);
  long = length-word o n _;
}

pub non_zero-written : (o : Order) (size n v : ℕ) → nat_lt n size ≡ true → v - 1 < 2 ^ n
    → IsWritten (non_zero o size n v) n
unfolding non_zero
non_zero-written o size n v less fits = record {
  word = word o n (v - 1);
  is = let le : n ≤ size = grind (arith, nat_tests) in λ at. rw less (unsigned-fits o size n (v - 1) at le fits);
  long = length-word o n (v - 1);
}

pub const-written : (o : Order) (n v : ℕ) → IsWritten (plain (word o n v)) n
const-written o n v = record { word = word o n v; is = λ at. refl; long = length-word o n v }

pub zeros-written : (n : ℕ) → IsWritten (zeros n) n
zeros-written n = record { word = replicate n false; is = λ at. refl; long = length-replicate n false }

pub bit-written : (b : Bool) → IsWritten (bit b) 1
bit-written b = record { word = b ∷ []; is = λ at. refl; long = refl }

pub bytes-written : (o : Order) (count : ℕ) (bytes : List ℕ) → length bytes ≡ count
    → IsWritten (buffer o bytes) (8 * count)
bytes-written o count bytes is = record {
  word = bits o bytes;
  is = λ at. refl;
  long = let l = length-bits o bytes in omega (arith, l, is);
}

pub unary-written : (stop : Bool) (k : ℕ) → IsWritten (unary_word stop k) (length (unary stop k))
unary-written stop k = record { word = unary stop k; is = λ at. refl; long = refl }

pub vbr-written : (o : Order) (field v : ℕ) → IsWritten (vbr o field v) (length (vbr_word o field v))
vbr-written o field v = record { word = vbr_word o field v; is = λ at. refl; long = refl }

-- ---- calls one after another

-- calls that are all accepted, wherever they are, and write so many bits
pub record Packs (encoders : List Encoder) (total : ℕ) : Type 0 where
  pub accepted : (from : ℕ) → AllAccepted encoders from
  pub size : (from : ℕ) → length (write_sequence encoders from) ≡ total

pub packs-none : Packs [] 0
packs-none = record { accepted = λ from. tt; size = λ from. refl }

-- one, and those after it
pub packs-more : {e : Encoder} {k : ℕ} {es : List Encoder} {m : ℕ} → IsWritten e k → Packs es m
    → Packs (e ∷ es) (k + m)
packs-more {k = k} {es = es} {m = m} one rest = record {
  accepted = λ from. rw (one.is from) (refl, rest.accepted (from + length one.word));
  size = λ from.
      let sum = length-append one.word (write_sequence es (from + length one.word)) in
      let more = rest.size (from + length one.word) in
      let long = one.long in
      rw (one.is from) (omega (arith, sum, more, long));
}

-- the same of a total that is known, as a search asks for it
pub packs-next : {e : Encoder} {k : ℕ} {es : List Encoder} {total : ℕ} → IsWritten e k → nat_le k total ≡ true
    → Packs es (total - k) → Packs (e ∷ es) total
packs-next {e = e} {k = k} {es = es} {total = total} one le rest =
    let same : k + (total - k) ≡ total = let h = within k total le in omega arith in
    subst (Packs (e ∷ es)) same (packs-more one rest)

-- a total that is said otherwise
pub packs-is : {es : List Encoder} {k total : ℕ} → Packs es k → k ≡ total → Packs es total
packs-is {es = es} all same = subst (Packs es) same all

accepted-behind : (es fs : List Encoder) (n : ℕ) → AllAccepted es n → AllAccepted fs (n + length (write_sequence es n))
    → AllAccepted (es ++ fs) n
accepted-behind [] fs n all more =
    let none : n + 0 ≡ n = omega arith in
    subst (AllAccepted fs) none more
accepted-behind (e ∷ es) fs n all more =
    let w = accepted_bits (e n) in
    let place : n + length (w ++ write_sequence es (n + length w)) ≡ n + length w + length (write_sequence es (n + length w)) =
    let sum = length-append w (write_sequence es (n + length w)) in omega (arith, sum) in
    (all.0, accepted-behind es fs (n + length w) all.1 (subst (AllAccepted fs) place more))

-- a part, and those after it
pub packs-part : {es fs : List Encoder} {k m : ℕ} → Packs es k → Packs fs m → Packs (es ++ fs) (k + m)
packs-part {es = es} {fs = fs} part rest = record {
  accepted = λ from.
      accepted-behind es fs from (part.accepted from) (rest.accepted (from + length (write_sequence es from)));
  size = λ from.
      let sum = length-append (write_sequence es from) (write_sequence fs (from + length (write_sequence es from))) in
      let first = part.size from in
      let more = rest.size (from + length (write_sequence es from)) in
      rw (write_sequence-append es fs from) (omega (arith, sum, first, more));
}

-- encodings of n bits each, of which there are `count`
pub packs-each : {A : Type 0} (write : A → Encoder) (n count : ℕ) (xs : List A) → length xs ≡ count
    → All (λ x. IsWritten (write x) n) xs → Packs (flat_map (λ x. write x ∷ []) xs) (count * n)
packs-each write n count [] is all =
    let none : 0 ≡ count * n = rw (sym is) (omega arith) in
    subst (Packs []) none packs-none
packs-each write n count (x ∷ xs) is all =
    let same : n + length xs * n ≡ count * n = rw (sym is) (omega arith) in
    let first = All-head (λ y. IsWritten (write y) n) x xs all in
    let rest = packs-each write n (length xs) xs refl (All-tail (λ y. IsWritten (write y) n) x xs all) in
    subst (Packs (flat_map (λ y. write y ∷ []) (x ∷ xs))) same (packs-more first rest)

-- numbers of n bits, unsigned and signed
pub packs-items : (o : Order) (size n count : ℕ) (xs : List ℕ) → nat_le n size ≡ true → length xs ≡ count
    → All (λ x. x < 2 ^ n) xs → Packs (flat_map (λ x. unsigned o size n x ∷ []) xs) (count * n)
packs-items o size n count xs le is fit =
    packs-each (unsigned o size n) n count xs is (All-weaker (λ (x : ℕ). x < 2 ^ n)
    (λ x. IsWritten (unsigned o size n x) n) (λ x fits. unsigned-written o size n x le fits) xs fit)

pub packs-signed_items : (o : Order) (size n count : ℕ) (xs : List ℤ) → nat_le 1 n ≡ true → nat_le n size ≡ true
    → length xs ≡ count → All (FitsSignedBits n) xs → Packs (flat_map (λ x. signed o size n x ∷ []) xs) (count * n)
packs-signed_items o size n count xs some le is fit =
    packs-each (signed o size n) n count xs is (All-weaker (FitsSignedBits n)
    (λ x. IsWritten (signed o size n x) n) (λ x fits. signed-written o size n x some le fits) xs fit)

-- parts, one after the other
pub packs-parts : {A : Type 0} (writes : A → List Encoder) (size : A → ℕ) (xs : List A)
    → All (λ x. Packs (writes x) (size x)) xs → Packs (flat_map writes xs) (parts_size size xs)
packs-parts writes size [] all = packs-none
packs-parts writes size (x ∷ xs) all =
    packs-part (All-head (λ y. Packs (writes y) (size y)) x xs all)
    (packs-parts writes size xs (All-tail (λ y. Packs (writes y) (size y)) x xs all))

pub ruleset packs = (
  packs-none,
  packs-next,
  unsigned-written,
  signed-written,
  non_zero-written,
  const-written,
  zeros-written,
  bit-written,
)

-- up to a whole byte
boundary-within : (k n : ℕ) → k ≤ 8 * n → k + to_boundary k ≤ 8 * n
boundary-within k n enough = omega arith

-- a buffer that has room for calls has room for an alignment after them too
pub packs-room : {es : List Encoder} {k : ℕ} → Packs es k → (n : ℕ) → k ≤ 8 * n
    → length (write_sequence (es ++ align ∷ []) 0) ≤ 8 * n
packs-room {es = es} {k = k} all n enough =
    let here : 0 + length (write_sequence es 0) ≡ k = let size = all.size 0 in omega (arith, size) in
    let last : length (write_sequence (align ∷ []) k) ≡ to_boundary k = length-append (replicate (to_boundary k) false) []
    ∙ (let long = length-replicate (to_boundary k) false in omega (arith, long)) in
    let sum = length-append (write_sequence es 0) (write_sequence (align ∷ []) (0 + length (write_sequence es 0))) in
    let most = boundary-within k n enough in
    rw (write_sequence-append es (align ∷ []) 0) (
    let more : length (write_sequence (align ∷ []) (0 + length (write_sequence es 0))) ≡ to_boundary k = rw here last in
    omega (arith, sum, here, more, most)
    )

-- calls that fill whole bytes need none
pub packs-whole : {es : List Encoder} {k : ℕ} → Packs es k → to_boundary k ≡ 0
    → write_sequence (es ++ align ∷ []) 0 ≡ write_sequence es 0
packs-whole {es = es} {k = k} all whole =
    let here : 0 + length (write_sequence es 0) ≡ k = let size = all.size 0 in omega (arith, size) in
    let none : write_sequence (align ∷ []) k ≡ [] = rw whole refl in
    write_sequence-append es (align ∷ []) 0 ∙ rw (here, none) (append-nil (write_sequence es 0))

-- ---- what was accepted fits

abbrev pub IsAccepted : Encoder → ℕ → Type 0
IsAccepted encoder at = encoder at ≡ Ok (accepted_bits (encoder at))

-- an unsigned number of one bit or more
pub unsigned-accepted : (o : Order) (size n v at : ℕ) → nat_lt 0 n ≡ true → IsAccepted (unsigned o size n v) at
    → v < 2 ^ n
unsigned-accepted o size n v at some h =
    let few : 0 < n = grind (arith, nat_tests) in
    elim (cases_lt size n) [
      | inl wide ↦ let no = unsigned-fail o size n v at ExcessiveBits wide in cc
      | inr within ↦ elim (cases_lt v (2 ^ n)) [
        | inl less ↦ less
        | inr more ↦ let no = unsigned-fail o size n v at ExcessiveValue (within, few, more) in cc
      ]
    ]

-- a signed one
pub signed-accepted : (o : Order) (size n : ℕ) (x : ℤ) (at : ℕ) → nat_lt 0 n ≡ true → IsAccepted (signed o size n x) at
    → FitsSignedBits n x
signed-accepted o size n (pos k) at some h =
    let few : 0 < n = grind (arith, nat_tests) in
    elim (cases_lt size n) [
      | inl wide ↦ let no = signed-fail o size n (pos k) at ExcessiveBits few wide in cc
      | inr within ↦ elim (cases_lt k (2 ^ (n - 1))) [
        | inl less ↦ less
        | inr more ↦ let no = signed-fail o size n (pos k) at ExcessiveValue few (within, more) in cc
      ]
    ]
signed-accepted o size n (negsuc k) at some h =
    let few : 0 < n = grind (arith, nat_tests) in
    elim (cases_lt size n) [
      | inl wide ↦ let no = signed-fail o size n (negsuc k) at ExcessiveBits few wide in cc
      | inr within ↦ elim (cases_lt k (2 ^ (n - 1))) [
        | inl less ↦ less
        | inr more ↦ let no = signed-fail o size n (negsuc k) at ExcessiveValue few (within, more) in cc
      ]
    ]

-- a number that is not 0, as its number less 1
pub non_zero-accepted : (o : Order) (size n v at : ℕ) → nat_lt n size ≡ true → nat_lt 0 n ≡ true
    → IsAccepted (non_zero o size n v) at → v - 1 < 2 ^ n
unfolding non_zero
non_zero-accepted o size n v at less some h = unsigned-accepted o size n (v - 1) at some (rw less at h)

-- the first of two parts, and the second
pub accepted-first : (es fs : List Encoder) (at : ℕ) → AllAccepted (es ++ fs) at → AllAccepted es at
accepted-first [] fs at all = tt
accepted-first (e ∷ es) fs at all = (all.0, accepted-first es fs (at + length (accepted_bits (e at))) all.1)

pub accepted-second : (es fs : List Encoder) (at : ℕ) → AllAccepted (es ++ fs) at
    → AllAccepted fs (at + length (write_sequence es at))
accepted-second [] fs at all =
    let none : at ≡ at + 0 = omega arith in
    subst (AllAccepted fs) none all
accepted-second (e ∷ es) fs at all =
    let w = accepted_bits (e at) in
    let place : at + length w + length (write_sequence es (at + length w)) ≡ at + length (w ++ write_sequence es (at + length w)) =
    let sum = length-append w (write_sequence es (at + length w)) in omega (arith, sum) in
    subst (AllAccepted fs) place (accepted-second es fs (at + length w) all.1)

-- items, of a call each
pub each-accepted : {A : Type 0} (write : A → Encoder) (P : A → Type 0)
    → ((x : A) (at : ℕ) → IsAccepted (write x) at → P x) → (xs : List A) (at : ℕ)
    → AllAccepted (flat_map (λ x. write x ∷ []) xs) at → All P xs
each-accepted write P fit [] at all = All-nil P
each-accepted write P fit (x ∷ xs) at all =
    All-cons P x xs (fit x at all.0) (each-accepted write P fit xs (at + length (accepted_bits (write x at))) all.1)

pub items-accepted : (o : Order) (size n : ℕ) (xs : List ℕ) (at : ℕ) → nat_lt 0 n ≡ true
    → AllAccepted (flat_map (λ x. unsigned o size n x ∷ []) xs) at → All (λ x. x < 2 ^ n) xs
items-accepted o size n xs at some all =
    each-accepted (unsigned o size n) (λ (x : ℕ). x < 2 ^ n) (λ x at is. unsigned-accepted o size n x at some is)
    xs at all

pub signed_items-accepted : (o : Order) (size n : ℕ) (xs : List ℤ) (at : ℕ) → nat_lt 0 n ≡ true
    → AllAccepted (flat_map (λ x. signed o size n x ∷ []) xs) at → All (FitsSignedBits n) xs
signed_items-accepted o size n xs at some all =
    each-accepted (signed o size n) (FitsSignedBits n) (λ x at is. signed-accepted o size n x at some is) xs at all

-- ---- calls that are packed into a buffer

-- the bits of the written bytes, by another name
pub packed-bits : {o : Order} {es : List Encoder} {name : GName} {was : List ℕ} {r : Result SliceMut Error}
    {x : List Bool} → PacksInto o es name was r → write_sequence (es ++ align ∷ []) 0 ≡ x
    → IfOk r (λ packed. bits o (written_bytes packed) ≡ x)
packed-bits {r = Ok packed} p is = p.packed ∙ is
packed-bits {r = Err error} p is = tt

-- it succeeds only if all were accepted
accepted_by : {o : Order} {es : List Encoder} {name : GName} {was : List ℕ} {r : Result SliceMut Error}
    → PacksInto o es name was r → IsOk r → (long : Result ℕ Error) → sequence_length es 0 ≡ long → AllAccepted es 0
accepted_by {es = es} p done (Ok n) is = (run-accepted es 0 n is).0
accepted_by p done (Err error) is = let failed = p.misfit error is in let no = subst IsOk failed done in cc

pub packed-accepted : {o : Order} {es : List Encoder} {name : GName} {was : List ℕ} {r : Result SliceMut Error}
    → PacksInto o es name was r → IsOk r → AllAccepted es 0
packed-accepted {es = es} p done = accepted_by p done (sequence_length es 0) refl

-- calls of a known length
packs-length : {es : List Encoder} {k : ℕ} → Packs es k → sequence_length es 0 ≡ Ok k
packs-length {es = es} all = accepted-run es 0 (all.accepted 0) ∙ ap Ok (all.size 0)

-- it succeeds if there is room for them
pub packed-room : {o : Order} {es : List Encoder} {name : GName} {was : List ℕ} {r : Result SliceMut Error} {k : ℕ}
    → PacksInto o es name was r → Packs es k → k ≤ 8 * length was → IsOk r
packed-room {k = k} p all enough = p.room k (packs-length all) enough

-- else it lacks room
pub packed-short : {o : Order} {es : List Encoder} {name : GName} {was : List ℕ} {r : Result SliceMut Error} {k : ℕ}
    → PacksInto o es name was r → Packs es k → 8 * length was < k → r ≡ Err (Stream WriteZero)
packed-short {k = k} p all few = p.short k (packs-length all) few

-- Subframes: from what was written the decoder reads the samples, and every call is accepted.
use Rattle.std.proofs.Common.{arith, ◌≡◌, ◌∙◌, ◌++◌, ◌+◌, ◌-◌, ◌*◌, ◌/◌, ◌%◌, ◌^◌, ◌<◌, ◌≤◌, ◌==◌, ℕ, ℤ, zero, suc, true, false, List, [], ◌∷◌, Result, Ok, Err, length, take, drop, refl, sym, ap, subst, append-nil, append_assoc, add-zero, get_or, w64, of_z, to_z, pos, negsuc, SFits}
use Rattle.std.specs.Prelude.{map, replicate, nat_lt, if◌then◌else◌}
use Rattle.std.specs.Int.{int_shr}
use Rattle.std.specs.List.{All}
use native.Mathlib.Nat.{mod-lt, div-le_self}
use Rattle.std.proofs.Math.Pow.{pow_mono}
use Rattle.std.proofs.lemmas.Nat.{pow_pos}
use Rattle.std.proofs.lemmas.Bool.{le-leb, le-ltb, lt-ltb, ne_eqb}
use Rattle.std.proofs.Math.Facts.{Fits-of_z}
use Rattle.std.proofs.lemmas.Int.{to_z-of_z}
use Rattle.std.proofs.lemmas.List.{length-drop, length-take-le, take-append-drop}
use Rattle.std.proofs.lemmas.List.Elements.{All-drop, All-map, All-take, All-weaker}
use Rattle.bitstream_io.specs.Codec.{and_then}
use Rattle.bitstream_io.specs.Callers.{Order, Decoder, Encoder, bit_decoder, pure, stores, list_item, signed_decoder, unsigned_decoder, items_decoder, part_then, Error, FitsSignedBits, Sink, WritesAll}
use Rattle.bitstream_io.specs.ReadBack.{IsReadAs}
use Rattle.bitstream_io.specs.Loop.{parts_size}
use Rattle.bitstream_io.specs.Unary.{unary}
use Rattle.bitstream_io.specs.Word.{zig}
use Rattle.bitstream_io.proofs.CallsBack.{signed-read}
use Rattle.bitstream_io.proofs.PackLemmas.{Packs, bit-written, packs-more, packs-none, packs-part, packs-parts, packs-signed_items, signed-written, unary-written, unsigned-written}
use Rattle.bitstream_io.proofs.CallerLemmas.{RoundTrip, bit-back, computed-back, else-back, if-back, items-read, last-back, part-back, signed-back, unary-back, unsigned-back}
use Rattle.flac_codec.specs.Predict.{fixed_weights, predicted, residual, restored}
use Rattle.flac_codec.specs.Rice.{rice_decoder, rice_writes}
use Rattle.flac_codec.specs.Residual.{partition_decoder, residual_decoder, samples_decoder}
use Rattle.flac_codec.specs.Subframe.{fixed_decoder, fixed_head, head_writes, headed, kind_decoder, linear_decoder, linear_head, narrow_decoder, numbers_writes, partition_writes, residual_head, samples_writes, sample_writes, shift_writes, subframe_decoder, verbatim_writes, constant_writes, wasted_writes, widened, WritesValue}
use Rattle.flac_codec.specs.Wasted.{IsNarrow}
use Rattle.flac_codec.specs.declared.error.FlacError.{FlacError}
use Rattle.flac_codec.specs.declared.error.FlacError.TheVariants.{NegativeShift, ReservedPrecision}
use Rattle.flac_codec.proofs.PredictLemmas.{predicted_fits, restored-residual}
use Rattle.flac_codec.proofs.RiceLemmas.{rice-back}

-- ---- numbers

-- a number of fewer bits is one of 64
pub fits_wide : (n : ℕ) (x : ℤ) → n ≤ 64 → FitsSignedBits n x → SFits w64 x
fits_wide n (pos k) le fits =
    let p : 2 ^ (n - 1) ≤ 2 ^ 63 = pow_mono {i = n - 1} {j = 63} (omega arith) in
    let q : k < 2 ^ 63 = omega (arith, p, fits) in
    record { sfits = q }
fits_wide n (negsuc k) le fits =
    let p : 2 ^ (n - 1) ≤ 2 ^ 63 = pow_mono {i = n - 1} {j = 63} (omega arith) in
    let q : k < 2 ^ 63 = omega (arith, p, fits) in
    record { sfits = q }

pub residual-length : (p : List ℤ → ℤ) (done xs : List ℤ) → length (residual p done xs) ≡ length xs
residual-length p done [] = refl
residual-length p done (x ∷ xs) = ap suc (residual-length p (done ++ x ∷ []) xs)

-- the residual, and the samples before it, are as many as the samples
pub residual-size : (p : List ℤ → ℤ) (order : ℕ) (samples rest : List ℤ) → order ≤ length samples
    → rest ≡ residual p (take order samples) (drop order samples) → order + length rest ≡ length samples
residual-size p order samples rest long is =
    let size : length rest ≡ length samples - order =
    ap length is ∙ residual-length p (take order samples) (drop order samples) ∙ length-drop order samples in
    omega (arith, size, long)

module _ (o : Order) (width : ℕ) (some : 1 ≤ width) (within : width ≤ 64) where
  pub samples-read : (xs : List ℤ) → All (FitsSignedBits width) xs
      → IsReadAs (samples_writes o width xs) (samples_decoder o width (length xs)) xs
  samples-read xs fit =
      let one = λ (x : ℤ) (fits : FitsSignedBits width x). signed-read o 64 width x some within fits in
      items-read (list_item (signed_decoder o 64 width)) (sample_writes o width) xs
      (All-weaker (FitsSignedBits width) (λ x. IsReadAs (sample_writes o width x) (list_item (signed_decoder o 64 width)) x) one xs fit)

pub numbers-read : (o : Order) (k : ℕ) (xs : List ℤ) → k < 32 → All (λ x. zig x < 2 ^ 32) xs
    → IsReadAs (numbers_writes o k xs) (items_decoder (list_item (rice_decoder o k)) (length xs)) xs
numbers-read o k xs small fit =
    let one = λ (x : ℤ) (fits : zig x < 2 ^ 32).
    let less = div-le_self (zig x) (2 ^ k) in
    (rice-back o k x small (omega (arith, less, fits))).back in
    items-read (list_item (rice_decoder o k)) (rice_writes o k) xs
    (All-weaker (λ x. zig x < 2 ^ 32) (λ x. IsReadAs (rice_writes o k x) (list_item (rice_decoder o k)) x) one xs fit)

-- a value that is stored
pub stored-back : {A : Type 0} (a b : A) → a ≡ b → RoundTrip (stores a) [] b
stored-back a b is = record { back = (computed-back a b is).back }

-- ---- a subframe of each kind

-- without wasted bits
headed_whole-back : (o : Order) (width block kind : ℕ) (body : List Encoder) (samples : List ℤ) → kind < 2 ^ 6
    → RoundTrip (kind_decoder o width block kind) body (Ok samples)
    → RoundTrip (subframe_decoder o width block) (headed o kind 0 body) (Ok samples)
headed_whole-back o width block kind body samples small h =
    bit-back false _ _ _ (unsigned-back o 6 _ _ 32 kind _ refl small (bit-back false _ _ _ h))

widened_none : (x : ℤ) → SFits w64 x → widened 0 x ≡ x
widened_none x fits =
    let n = of_z w64 x in
    let less : n < 2 ^ 64 = (Fits-of_z {w = w64} {z = x} fits).fits in
    let same : n * 2 ^ 0 % 2 ^ 64 ≡ n = omega (arith, less) in
    ap (to_z w64) same ∙ to_z-of_z w64 x fits

pub all_widened_none : (xs : List ℤ) → All (SFits w64) xs → map (widened 0) xs ≡ xs
all_widened_none [] fit = refl
all_widened_none (x ∷ xs) fit =
    let tail : All (SFits w64) xs = λ k d less. fit (suc k) d (omega (arith, less)) in
    ap (λ y. y ∷ map (widened 0) xs) (widened_none x (fit 0 x (omega arith))) ∙ ap (λ ys. x ∷ ys) (all_widened_none xs tail)

pub headed-back : (o : Order) (width wasted block kind : ℕ) (body : List Encoder) (samples : List ℤ) → kind < 2 ^ 6 → 1 ≤ width
    → width + wasted ≤ 64 → All (FitsSignedBits width) samples → RoundTrip (kind_decoder o width block kind) body (Ok samples)
    → RoundTrip (subframe_decoder o (width + wasted) block) (headed o kind wasted body) (Ok (map (widened wasted) samples))
headed-back o width zero block kind body samples small some within fit h =
    let same : width ≡ width + 0 = sym (add-zero width) in
    let wide = All-weaker (FitsSignedBits width) (SFits w64) (λ x fits. fits_wide width x (omega (arith, within)) fits) samples fit in
    subst (λ n. RoundTrip (subframe_decoder o n block) (headed o kind 0 body) (Ok (map (widened 0) samples))) same
    (subst (λ (xs : List ℤ). RoundTrip (subframe_decoder o width block) (headed o kind 0 body) (Ok xs))
    (sym (all_widened_none samples wide)) (headed_whole-back o width block kind body samples small h))
headed-back o width (suc w) block kind body samples small some within fit h =
    let whole = width + suc w in
    let again : w + 1 ≡ suc w = omega arith in
    let less : width ≡ whole - (w + 1) = omega arith in
    let make = λ (xs : List ℤ). stores {A = Result (List ℤ) FlacError} (Ok (map (widened (w + 1)) xs)) in
    let read : IsReadAs body (kind_decoder o (whole - (w + 1)) block kind) (Ok samples) =
    subst (λ n. IsReadAs body (kind_decoder o n block kind) (Ok samples)) less h.back in
    let narrow : RoundTrip (narrow_decoder o whole block kind (w + 1)) body (Ok (map (widened (suc w)) samples)) =
    subst (λ us. RoundTrip (narrow_decoder o whole block kind (w + 1)) us (Ok (map (widened (suc w)) samples))) (append-nil body)
    (part-back (kind_decoder o (whole - (w + 1)) block kind) (part_then make) body [] (Ok samples)
    (Ok (map (widened (suc w)) samples)) read (stored-back _ _ (ap (λ k. Ok (map (widened k) samples)) again))) in
    bit-back false _ _ _ (unsigned-back o 6 _ _ 32 kind _ refl small (bit-back true _ _ _
    (unary-back _ _ true w _ (omega (arith, within, some))
    (if-back _ _ _ _ (nat_lt w 63) (lt-ltb w 63 (omega (arith, within, some)))
    (if-back _ _ _ _ (nat_lt (w + 1) whole) (lt-ltb (w + 1) whole (omega (arith, some))) narrow)))))

module _ (o : Order) (width : ℕ) (some : 1 ≤ width) (within : width ≤ 64) where
  pub constant-back : (block : ℕ) (x : ℤ) → FitsSignedBits width x
      → RoundTrip (subframe_decoder o width block) (constant_writes o width x) (Ok (replicate block x))
  constant-back block x fits = headed_whole-back o width block 0 _ _ (omega arith)
      (signed-back o width _ _ 64 x _ (le-leb 1 width some) (le-leb width 64 within) fits (stored-back _ _ refl))

pub verbatim-back : (o : Order) (width wasted : ℕ) → 1 ≤ width → width + wasted ≤ 64 → (xs : List ℤ) → All (FitsSignedBits width) xs
    → RoundTrip (subframe_decoder o (width + wasted) (length xs)) (verbatim_writes o width wasted xs)
    (Ok (map (widened wasted) xs))
verbatim-back o width wasted some within xs fit = headed-back o width wasted (length xs) 1 _ _ (omega arith) some within fit
    (last-back (samples_decoder o width (length xs)) (λ v. Ok v) (samples_writes o width xs) xs
    (samples-read o width some (omega (arith, within)) xs fit))

-- a partition
pub partition-back : (o : Order) (bits k : ℕ) (rest : List ℤ) → bits ≤ 5 → k < 2 ^ bits - 1 → All (λ x. zig x < 2 ^ 32) rest
    → RoundTrip (partition_decoder o bits (length rest)) (partition_writes o bits k rest) (Ok rest)
partition-back o bits k rest most few fit =
    let power : 2 ^ bits ≤ 2 ^ 5 = pow_mono {i = bits} {j = 5} most in
    unsigned-back o bits _ _ 32 k _ (le-leb bits 32 (omega (arith, most))) (omega (arith, few))
    (else-back _ _ _ _ (k == 2 ^ bits - 1) (ne_eqb k (2 ^ bits - 1) (λ e. omega (arith, e, few)))
    (last-back (items_decoder (list_item (rice_decoder o k)) (length rest)) (λ v. Ok v) (numbers_writes o k rest) rest
    (numbers-read o k rest (omega (arith, few, power)) fit)))

kind-fixed : (o : Order) (width block order : ℕ) → order ≤ 4
    → kind_decoder o width block (8 + order) ≡ fixed_decoder o width block order
kind-fixed o width block zero le = refl
kind-fixed o width block (suc zero) le = refl
kind-fixed o width block (suc (suc zero)) le = refl
kind-fixed o width block (suc (suc (suc zero))) le = refl
kind-fixed o width block (suc (suc (suc (suc zero)))) le = refl
kind-fixed o width block (suc (suc (suc (suc (suc n))))) le = absurd (omega (arith, le))

-- the type of a subframe with a linear prediction
kind-linear : (o : Order) (width block order : ℕ) (es : List Encoder) (samples : List ℤ) → 1 ≤ order
    → RoundTrip (linear_decoder o width block order) es (Ok samples)
    → RoundTrip (kind_decoder o width block (31 + order)) es (Ok samples)
kind-linear o width block order es samples some h =
    let same : order ≡ (31 + order) - 31 = omega arith in
    else-back _ _ _ _ (31 + order == 0) (ne_eqb (31 + order) 0 (λ e. omega (arith, e)))
    (else-back _ _ _ _ (31 + order == 1) (ne_eqb (31 + order) 1 (λ e. omega (arith, e)))
    (else-back _ _ _ _ (nat_lt (31 + order) 8) (le-ltb (31 + order) 8 (omega arith))
    (else-back _ _ _ _ (nat_lt (31 + order) 13) (le-ltb (31 + order) 13 (omega arith))
    (else-back _ _ _ _ (nat_lt (31 + order) 32) (le-ltb (31 + order) 32 (omega (arith, some)))
    (subst (λ n. RoundTrip (linear_decoder o width block n) es (Ok samples)) same h)))))

module _ (o : Order) (width : ℕ) (some : 1 ≤ width) (wasted : ℕ) (within : width + wasted ≤ 64) (samples : List ℤ) (fit : All (FitsSignedBits width) samples) where
  narrow_within : width ≤ 64
  narrow_within = omega (arith, within)

  restored-all : (weights : List ℤ) (shift order : ℕ) → restored (predicted weights shift) (take order samples)
      (residual (predicted weights shift) (take order samples) (drop order samples)) ≡ samples
  restored-all weights shift order =
      restored-residual (predicted weights shift) (predicted_fits weights shift) (take order samples) (drop order samples)
      (All-weaker (FitsSignedBits width) (SFits w64) (λ x fits. fits_wide width x narrow_within fits) (drop order samples)
      (All-drop (FitsSignedBits width) order samples fit))
      ∙ take-append-drop order samples

  first-read : (order : ℕ) → order ≤ length samples
      → IsReadAs (samples_writes o width (take order samples)) (samples_decoder o width order) (take order samples)
  first-read order long =
      subst (λ n. IsReadAs (samples_writes o width (take order samples)) (samples_decoder o width n) (take order samples))
      (length-take-le order samples long)
      (samples-read o width some narrow_within (take order samples) (All-take (FitsSignedBits width) order samples fit))

  -- the residual of a prediction, whatever calls wrote it
  residual-back : (weights : List ℤ) (shift order : ℕ) (es : List Encoder) →
      let rest = residual (predicted weights shift) (take order samples) (drop order samples) in
      IsReadAs es (residual_decoder o (length samples) order) (Ok rest)
      → RoundTrip (and_then (residual_decoder o (length samples) order) (part_then (λ r.
      stores {A = Result (List ℤ) FlacError} (Ok (restored (predicted weights shift) (take order samples) r))))) es (Ok samples)
  residual-back weights shift order es read =
      let rest = residual (predicted weights shift) (take order samples) (drop order samples) in
      let make = λ (r : List ℤ). stores {A = Result (List ℤ) FlacError}
      (Ok (restored (predicted weights shift) (take order samples) r)) in
      subst (λ ws. RoundTrip (and_then (residual_decoder o (length samples) order) (part_then make)) ws (Ok samples))
      (append-nil es)
      (part-back (residual_decoder o (length samples) order) (part_then make) es [] (Ok rest) (Ok samples)
      read (stored-back _ _ (ap Ok (restored-all weights shift order))))

  pub fixed-back : (order : ℕ) (es : List Encoder) → order ≤ 4 → order ≤ length samples
      → IsReadAs es (residual_decoder o (length samples) order)
      (Ok (residual (predicted (fixed_weights order) 0) (take order samples) (drop order samples)))
      → IsReadAs (fixed_head o width wasted order (take order samples) ++ es) (subframe_decoder o (width + wasted) (length samples))
      (Ok (map (widened wasted) samples))
  fixed-back order es most long read =
      let first = take order samples in
      let whole : RoundTrip (fixed_decoder o width (length samples) order) (samples_writes o width first ++ es) (Ok samples) =
      part-back (samples_decoder o width order) _ (samples_writes o width first) es first (Ok samples)
      (first-read order long) (residual-back (fixed_weights order) 0 order es read) in
      let back : RoundTrip (subframe_decoder o (width + wasted) (length samples)) (headed o (8 + order) wasted (samples_writes o width first ++ es))
      (Ok (map (widened wasted) samples)) =
      headed-back o width wasted (length samples) (8 + order) (samples_writes o width first ++ es) samples (omega (arith, most))
      some within fit (subst (λ e. RoundTrip e (samples_writes o width first ++ es) (Ok samples))
      (sym (kind-fixed o width (length samples) order most)) whole) in
      subst (λ us. IsReadAs us (subframe_decoder o (width + wasted) (length samples)) (Ok (map (widened wasted) samples)))
      (sym (append_assoc (head_writes o (8 + order) wasted) (samples_writes o width first) es)) back.back

  pub linear-back : (weights : List ℤ) (precision shift : ℕ) (es : List Encoder) → 1 ≤ length weights → length weights ≤ 32
      → length weights ≤ length samples → 1 ≤ precision → precision ≤ 15 → shift ≤ 15 → All (FitsSignedBits precision) weights
      → IsReadAs es (residual_decoder o (length samples) (length weights))
      (Ok (residual (predicted weights shift) (take (length weights) samples) (drop (length weights) samples)))
      → IsReadAs (linear_head o width wasted (take (length weights) samples) precision shift weights ++ es)
      (subframe_decoder o (width + wasted) (length samples)) (Ok (map (widened wasted) samples))
  linear-back weights precision shift es any most long narrow precise small weights_fit read =
      let order = length weights in
      let first = take order samples in
      let again : (precision - 1) + 1 ≡ precision = omega (arith, narrow) in
      let behind = residual-back weights shift order es read in
      let rest = samples_writes o precision weights ++ es in
      let make = λ (coefficients : List ℤ). and_then (residual_decoder o (length samples) order) (part_then (λ r.
      stores {A = Result (List ℤ) FlacError} (Ok (restored (predicted coefficients shift) first r)))) in
      let weighted : RoundTrip (and_then (samples_decoder o ((precision - 1) + 1) order) make) rest (Ok samples) =
      subst (λ n. RoundTrip (and_then (samples_decoder o n order) make) rest (Ok samples)) (sym again)
      (part-back (samples_decoder o precision order) make (samples_writes o precision weights) es weights (Ok samples)
      (samples-read o precision narrow (omega (arith, precise)) weights weights_fit) behind) in
      let shifted : RoundTrip (and_then (unsigned_decoder o 32 4) (λ p. if p == 15 then pure (Err ReservedPrecision)
      else and_then bit_decoder (λ negative. if negative then pure (Err NegativeShift)
      else and_then (unsigned_decoder o 32 4) (λ s. and_then (samples_decoder o (p + 1) order) (λ coefficients.
      and_then (residual_decoder o (length samples) order) (part_then (λ r.
      stores {A = Result (List ℤ) FlacError} (Ok (restored (predicted coefficients s) first r)))))))))
      (shift_writes o precision shift ++ rest) (Ok samples) = unsigned-back o 4 _ _ 32 (precision - 1) _ refl (omega (arith, precise))
      (else-back _ _ _ _ (precision - 1 == 15) (ne_eqb (precision - 1) 15 (λ e. omega (arith, e, precise)))
      (bit-back false _ _ _ (unsigned-back o 4 _ _ 32 shift _ refl (omega (arith, small)) weighted))) in
      let whole : RoundTrip (linear_decoder o width (length samples) order)
      (samples_writes o width first ++ (shift_writes o precision shift ++ rest)) (Ok samples) =
      part-back (samples_decoder o width order) _ (samples_writes o width first) _ first (Ok samples) (first-read order long) shifted in
      let same : samples_writes o width first ++ (shift_writes o precision shift ++ rest)
      ≡ (samples_writes o width first ++ (shift_writes o precision shift ++ samples_writes o precision weights)) ++ es =
      sym (append_assoc (samples_writes o width first) (shift_writes o precision shift ++ samples_writes o precision weights) es) in
      let body = samples_writes o width first ++ (shift_writes o precision shift ++ samples_writes o precision weights) in
      let back : RoundTrip (subframe_decoder o (width + wasted) (length samples)) (headed o (31 + order) wasted (body ++ es))
      (Ok (map (widened wasted) samples)) =
      headed-back o width wasted (length samples) (31 + order) (body ++ es) samples (omega (arith, most)) some within fit
      (kind-linear o width (length samples) order (body ++ es) samples any
      (subst (λ us. RoundTrip (linear_decoder o width (length samples) order) us (Ok samples)) same whole)) in
      subst (λ us. IsReadAs us (subframe_decoder o (width + wasted) (length samples)) (Ok (map (widened wasted) samples)))
      (sym (append_assoc (head_writes o (31 + order) wasted) body es)) back.back

-- ---- each call is accepted

pub wasted_size : ℕ → ℕ
wasted_size zero = 1 + 0
wasted_size (suc w) = 1 + (length (unary true w) + 0)

wasted-packs : (wasted : ℕ) → Packs (wasted_writes wasted) (wasted_size wasted)
unfolding wasted_size
wasted-packs zero = packs-more (bit-written false) packs-none
wasted-packs (suc w) = packs-more (bit-written true) (packs-more (unary-written true w) packs-none)

headed-packs : (o : Order) (kind wasted n : ℕ) (body : List Encoder) → kind < 2 ^ 6 → Packs body n
    → Packs (headed o kind wasted body) (1 + (6 + (wasted_size wasted + n)))
headed-packs o kind wasted n body small all =
    packs-more (bit-written false) (packs-more (unsigned-written o 32 6 kind refl small) (packs-part (wasted-packs wasted) all))

-- a Rice number
abbrev rice_size : ℕ → ℤ → ℕ
rice_size k x = length (unary true (zig x / 2 ^ k)) + (k + 0)

rice-packs : (o : Order) (k : ℕ) (x : ℤ) → k ≤ 64 → Packs (rice_writes o k x) (rice_size k x)
rice-packs o k x few =
    packs-more (unary-written true (zig x / 2 ^ k))
    (packs-more (unsigned-written o 64 k (zig x % 2 ^ k) (le-leb k 64 few) (mod-lt (zig x) (pow_pos k))) packs-none)

pub partition-packs : (o : Order) (bits k : ℕ) (rest : List ℤ) → bits ≤ 5 → k < 2 ^ bits - 1
    → Packs (partition_writes o bits k rest) (bits + parts_size (rice_size k) rest)
partition-packs o bits k rest most few =
    let power : 2 ^ bits ≤ 2 ^ 5 = pow_mono {i = bits} {j = 5} most in
    packs-more (unsigned-written o 32 bits k (le-leb bits 32 (omega (arith, most))) (omega (arith, few)))
    (packs-parts (rice_writes o k) (rice_size k) rest (λ i d less. rice-packs o k (get_or rest i d) (omega (arith, few, power))))

pub residual_head-packs : (o : Order) (coding n : ℕ) → coding < 2 ^ 2 → n < 2 ^ 4
    → Packs (residual_head o coding n) (2 + (4 + 0))
residual_head-packs o coding n small few =
    packs-more (unsigned-written o 8 2 coding refl small) (packs-more (unsigned-written o 32 4 n refl few) packs-none)

-- ---- a value that was written

pub value_written : {S A E : Type 0} {K : Sink S} {decoder : Decoder (Result A E)} {value : A} {ws : List Encoder} {n : ℕ}
    {s t : S} {r : Result (Unit {0}) Error} → WritesAll K ws s r t → Packs ws n → RoundTrip decoder ws (Ok value)
    → WritesValue K decoder value s r t
value_written {ws = ws} written all back =
    record { calls = ws; written = written; accepted = all.accepted; read = back.back }

module _ (o : Order) (width : ℕ) (some : 1 ≤ width) (within : width ≤ 64) where
  samples-packs : (xs : List ℤ) → All (FitsSignedBits width) xs → Packs (samples_writes o width xs) (length xs * width)
  samples-packs xs fit =
      packs-signed_items o 64 width (length xs) xs (le-leb 1 width some) (le-leb width 64 within) refl fit

  pub constant-packs : (x : ℤ) → FitsSignedBits width x → Packs (constant_writes o width x) (1 + (6 + (wasted_size 0 + (width + 0))))
  constant-packs x fits = headed-packs o 0 0 (width + 0) _ (omega arith)
      (packs-more (signed-written o 64 width x (le-leb 1 width some) (le-leb width 64 within) fits) packs-none)

  pub verbatim-packs : (wasted : ℕ) (xs : List ℤ) → All (FitsSignedBits width) xs
      → Packs (verbatim_writes o width wasted xs) (1 + (6 + (wasted_size wasted + length xs * width)))
  verbatim-packs wasted xs fit = headed-packs o 1 wasted (length xs * width) _ (omega arith) (samples-packs xs fit)

  pub fixed-packs : (wasted order : ℕ) (xs : List ℤ) → order ≤ 4 → All (FitsSignedBits width) xs
      → Packs (fixed_head o width wasted order xs) (1 + (6 + (wasted_size wasted + length xs * width)))
  fixed-packs wasted order xs most fit =
      headed-packs o (8 + order) wasted (length xs * width) _ (omega (arith, most)) (samples-packs xs fit)

  pub linear-packs : (wasted precision shift : ℕ) (xs weights : List ℤ) → length weights ≤ 32 → 1 ≤ precision → precision ≤ 15
      → shift ≤ 15 → All (FitsSignedBits width) xs → All (FitsSignedBits precision) weights
      → Packs (linear_head o width wasted xs precision shift weights)
      (1 + (6 + (wasted_size wasted + (length xs * width + ((4 + (1 + (4 + 0))) + length weights * precision)))))
  linear-packs wasted precision shift xs weights most narrow precise small fit weights_fit =
      headed-packs o (31 + length weights) wasted (length xs * width + ((4 + (1 + (4 + 0))) + length weights * precision)) _
      (omega (arith, most))
      (packs-part (samples-packs xs fit) (packs-part
      (packs-more (unsigned-written o 32 4 (precision - 1) refl (omega (arith, precise)))
      (packs-more (bit-written false) (packs-more (unsigned-written o 32 4 shift refl (omega (arith, small))) packs-none)))
      (packs-signed_items o 64 precision (length weights) weights (le-leb 1 precision narrow)
      (le-leb precision 64 (omega (arith, precise))) refl weights_fit)))

-- ---- samples without their wasted bits

module _ (width wasted : ℕ) where
  pub narrow_again : (xs : List ℤ) → All (IsNarrow width wasted) xs
      → map (widened wasted) (map (λ x. int_shr x wasted) xs) ≡ xs
  narrow_again [] all = refl
  narrow_again (x ∷ xs) all =
      let tail : All (IsNarrow width wasted) xs = λ k d less. all (suc k) d (omega (arith, less)) in
      let head = all 0 x (omega arith) in
      ap (λ y. y ∷ map (widened wasted) (map (λ x. int_shr x wasted) xs)) head.zeros ∙ ap (λ ys. x ∷ ys) (narrow_again xs tail)

  pub narrow_fit : (xs : List ℤ) → All (IsNarrow width wasted) xs
      → All (FitsSignedBits (width - wasted)) (map (λ x. int_shr x wasted) xs)
  narrow_fit xs all =
      All-map (FitsSignedBits (width - wasted)) (λ x. int_shr x wasted) xs
      (All-weaker (IsNarrow width wasted) (λ x. FitsSignedBits (width - wasted) (int_shr x wasted)) (λ x h. h.fits) xs all)

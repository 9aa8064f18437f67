-- A header goes back, with each of its codes.
use Rattle.std.proofs.Common.{arith, inl, inr, ◌≡◌, ◌∙◌, ◌++◌, ◌+◌, ◌-◌, ◌*◌, ◌/◌, ◌%◌, ◌^◌, ◌<◌, ◌≤◌, ℕ, zero, suc, false, List, [], Result, Ok, refl, sym, ap, subst, append-nil, get_or}
use native.Mathlib.Nat.{mod-lt}
use Rattle.std.proofs.lemmas.Bool.{ne_eqb, le-leb, le-ltb, lt-ltb, cases_lt}
use Rattle.bitstream_io.specs.Callers.{Order, Decoder, Encoder, and_then, pure, part_then}
use Rattle.bitstream_io.proofs.CallerLemmas.{RoundTrip, bit-back, computed-back, part-back, pure-back, unsigned-back}
use Rattle.bitstream_io.proofs.PackLemmas.{Packs, bit-written, const-written, packs-more, packs-none, packs-part, unary-written, unsigned-written}
use Rattle.flac_codec.specs.Coded.{bytes_needed, coded_decoder, coded_writes, rest_writes}
use Rattle.flac_codec.specs.Header.{block_size_decoder, block_size_writes, block_sizes, codes_decoder, codes_writes, header_decoder, header_writes, numbers_decoder, sample_rate_decoder, sample_rate_writes, AreCodes, IsBlockSizeCode, IsHeader, IsSampleRateCode}
use Rattle.flac_codec.specs.declared.error.FlacError.{FlacError}
use Rattle.flac_codec.specs.declared.header.Codes.{Codes}
use Rattle.flac_codec.specs.declared.header.FrameHeader.{FrameHeader}
use Rattle.flac_codec.proofs.CodedLemmas.{bytes_needed-range, coded-back, number-fits}

-- ---- the codes

pub codes-back : (o : Order) (codes : Codes) → codes.block_size < 16 → codes.sample_rate < 16 → codes.channels < 16
    → codes.sample_size < 8 → RoundTrip (codes_decoder o) (codes_writes o codes) (Ok codes)
codes-back o codes block rate channels size =
    unsigned-back o 15 _ _ 16 0x7ffc _ refl (omega arith)
    (bit-back codes.variable _ _ _ (unsigned-back o 4 _ _ 8 codes.block_size _ refl block
    (unsigned-back o 4 _ _ 8 codes.sample_rate _ refl rate (unsigned-back o 4 _ _ 8 codes.channels _ refl channels
    (unsigned-back o 3 _ _ 8 codes.sample_size _ refl size (bit-back false _ _ _ (pure-back _)))))))

pub codes-packs : (o : Order) (codes : Codes) → codes.block_size < 16 → codes.sample_rate < 16 → codes.channels < 16
    → codes.sample_size < 8 → Packs (codes_writes o codes) (15 + (1 + (4 + (4 + (4 + (3 + (1 + 0)))))))
codes-packs o codes block rate channels size =
    packs-more (unsigned-written o 16 15 0x7ffc refl (omega arith)) (packs-more (bit-written codes.variable)
    (packs-more (unsigned-written o 8 4 codes.block_size refl block)
    (packs-more (unsigned-written o 8 4 codes.sample_rate refl rate)
    (packs-more (unsigned-written o 8 4 codes.channels refl channels)
    (packs-more (unsigned-written o 8 3 codes.sample_size refl size) (packs-more (bit-written false) packs-none))))))

-- ---- the block size

pub block_code-fits : (size code : ℕ) → IsBlockSizeCode size code → code < 16
block_code-fits size code (inl own) = own.0
block_code-fits size code (inr (inl small)) = let is = small.0 in omega arith
block_code-fits size code (inr (inr wide)) = omega arith

-- a code of its own is none of these
not_code : (code k size : ℕ) → get_or block_sizes code 0 ≡ size → 1 ≤ size → get_or block_sizes k 0 ≡ 0 → code ≡ k → ⊥
not_code code k size is some none same =
    let zero_size : size ≡ 0 = sym is ∙ ap (λ c. get_or block_sizes c 0) same ∙ none in omega (arith, zero_size, some)

pub block_size-back : (o : Order) (size code : ℕ) → 1 ≤ size → size < 65536 → IsBlockSizeCode size code
    → RoundTrip (block_size_decoder o code) (block_size_writes o code size) (Ok size)
block_size-back o size code some most (inl own) =
    let zeroth = ne_eqb code 0 (not_code code 0 size own.1 some refl) in
    let sixth = ne_eqb code 6 (not_code code 6 size own.1 some refl) in
    let seventh = ne_eqb code 7 (not_code code 7 size own.1 some refl) in
    rw (zeroth, sixth, seventh) (computed-back _ _ (ap Ok own.1))
block_size-back o size code some most (inr (inl small)) =
    let same : size - 1 + 1 ≡ size = omega arith in
    rw small.0 (unsigned-back o 8 _ _ 32 (size - 1) _ refl (let few = small.1 in omega arith) (computed-back _ _ (ap Ok same)))
block_size-back o size code some most (inr (inr wide)) =
    let same : size - 1 + 1 ≡ size = omega arith in
    let fewer = ne_eqb (size - 1) 65535 (λ e. omega (arith, e)) in
    rw wide (unsigned-back o 16 _ _ 32 (size - 1) _ refl (omega arith) (rw fewer (computed-back _ _ (ap Ok same))))

pub block_size-packs : (o : Order) (size code : ℕ) → 1 ≤ size → size < 65536 → IsBlockSizeCode size code
    → (n : ℕ) × Packs (block_size_writes o code size) n
block_size-packs o size code some most (inl own) =
    let sixth = ne_eqb code 6 (not_code code 6 size own.1 some refl) in
    let seventh = ne_eqb code 7 (not_code code 7 size own.1 some refl) in
    rw (sixth, seventh) (0, packs-none)
block_size-packs o size code some most (inr (inl small)) =
    rw small.0 (8 + 0, packs-more (unsigned-written o 32 8 (size - 1) refl (let few = small.1 in omega arith)) packs-none)
block_size-packs o size code some most (inr (inr wide)) =
    rw wide (16 + 0, packs-more (unsigned-written o 32 16 (size - 1) refl (omega arith)) packs-none)

-- ---- the sample rate

pub rate_code-fits : (rate code : ℕ) → IsSampleRateCode rate code → code < 16
rate_code-fits rate code (inl own) = let less = own.0 in omega arith
rate_code-fits rate code (inr (inl kilo)) = let is = kilo.0 in omega arith
rate_code-fits rate code (inr (inr (inl one))) = let is = one.0 in omega arith
rate_code-fits rate code (inr (inr (inr ten))) = let is = ten.0 in omega arith

pub sample_rate-back : (o : Order) (rate code : ℕ) → IsSampleRateCode rate code
    → RoundTrip (sample_rate_decoder o code) (sample_rate_writes o code rate) (Ok rate)
sample_rate-back o rate code (inl own) =
    let less = own.0 in
    let twelfth = ne_eqb code 12 (λ e. omega (arith, e)) in
    let thirteenth = ne_eqb code 13 (λ e. omega (arith, e)) in
    let fourteenth = ne_eqb code 14 (λ e. omega (arith, e)) in
    let fifteenth = ne_eqb code 15 (λ e. omega (arith, e)) in
    rw (twelfth, thirteenth, fourteenth, fifteenth) (computed-back _ _ (ap Ok own.1))
sample_rate-back o rate code (inr (inl kilo)) =
    let whole = kilo.1 in
    let few = kilo.2 in
    let same : rate / 1000 * 1000 ≡ rate = omega arith in
    rw kilo.0 (unsigned-back o 8 _ _ 32 (rate / 1000) _ refl (omega arith) (computed-back _ _ (ap Ok same)))
sample_rate-back o rate code (inr (inr (inl one))) =
    let few = one.1 in
    rw one.0 (unsigned-back o 16 _ _ 32 rate _ refl (omega arith) (pure-back _))
sample_rate-back o rate code (inr (inr (inr ten))) =
    let whole = ten.1 in
    let few = ten.2 in
    let same : rate / 10 * 10 ≡ rate = omega arith in
    rw ten.0 (unsigned-back o 16 _ _ 32 (rate / 10) _ refl (omega arith) (computed-back _ _ (ap Ok same)))

pub sample_rate-packs : (o : Order) (rate code : ℕ) → IsSampleRateCode rate code
    → (n : ℕ) × Packs (sample_rate_writes o code rate) n
sample_rate-packs o rate code (inl own) =
    let less = own.0 in
    let twelfth = ne_eqb code 12 (λ e. omega (arith, e)) in
    let thirteenth = ne_eqb code 13 (λ e. omega (arith, e)) in
    let fourteenth = ne_eqb code 14 (λ e. omega (arith, e)) in
    rw (twelfth, thirteenth, fourteenth) (0, packs-none)
sample_rate-packs o rate code (inr (inl kilo)) =
    let few = kilo.2 in
    rw kilo.0 (8 + 0, packs-more (unsigned-written o 32 8 (rate / 1000) refl (omega arith)) packs-none)
sample_rate-packs o rate code (inr (inr (inl one))) =
    let few = one.1 in
    rw one.0 (16 + 0, packs-more (unsigned-written o 32 16 rate refl (omega arith)) packs-none)
sample_rate-packs o rate code (inr (inr (inr ten))) =
    let few = ten.2 in
    rw ten.0 (16 + 0, packs-more (unsigned-written o 32 16 (rate / 10) refl (omega arith)) packs-none)

-- ---- the number

rest-packs : (o : Order) (bytes number : ℕ) → (n : ℕ) × Packs (rest_writes o bytes number) n
rest-packs o zero number = (0, packs-none)
rest-packs o (suc bytes) number =
    let rest = rest-packs o bytes number in (
      2 + (6 + rest.0),
      packs-more (const-written o 2 2)
          (packs-more (unsigned-written o 64 6 (number / 64 ^ bytes % 64) refl (mod-lt (number / 64 ^ bytes) (omega arith))) rest.1),
    )

pub coded-packs : (o : Order) (number : ℕ) → number < 2 ^ 36 → (n : ℕ) × Packs (coded_writes o number) n
coded-packs o number small = elim (cases_lt number (2 ^ 7)) [
  | inl less ↦
      let test = lt-ltb number (2 ^ 7) less in
      rw test (_, packs-more (unary-written false 0) (packs-more (unsigned-written o 64 7 number refl less) packs-none))
  | inr more ↦
      let test = le-ltb number (2 ^ 7) more in
      let range = bytes_needed-range number in
      let rest = rest-packs o (bytes_needed number - 1) number in
      let within : 7 - bytes_needed number ≤ 64 = omega arith in
      rw test (
        _,
        packs-more (unary-written false (bytes_needed number))
            (packs-more (unsigned-written o 64 (7 - bytes_needed number) (number / 64 ^ (bytes_needed number - 1))
            (le-leb (7 - bytes_needed number) 64 within) (number-fits number small more)) rest.1),
      )
]

-- ---- the whole

module _ (o : Order) (header : FrameHeader) (codes : Codes) (is : IsHeader header) (coded : AreCodes header codes) where
  abbrev numbers : List Encoder
  numbers = coded_writes o header.number ++ (block_size_writes o codes.block_size header.block_size
      ++ sample_rate_writes o codes.sample_rate header.sample_rate)

  pub header-packs : (n : ℕ) × Packs (header_writes o codes header) n
  header-packs =
      let block = block_code-fits header.block_size codes.block_size coded.block_size in
      let rate = rate_code-fits header.sample_rate codes.sample_rate coded.sample_rate in
      let number = coded-packs o header.number is.number in
      let size = block_size-packs o header.block_size codes.block_size is.some is.most coded.block_size in
      let last = sample_rate-packs o header.sample_rate codes.sample_rate coded.sample_rate in (
        15 + (1 + (4 + (4 + (4 + (3 + (1 + 0)))))) + (number.0 + (size.0 + last.0)),
        packs-part (codes-packs o codes block rate coded.few coded.small)
            (packs-part number.1 (packs-part size.1 last.1)),
      )

  last : ℕ → ℕ → ℕ → Decoder (Result FrameHeader FlacError)
  last number size rate = pure (Ok (record {
    variable = codes.variable;
    block_size = size;
    sample_rate = rate;
    channels = header.channels;
    sample_size = header.sample_size;
    number = number;
  }))

  rate-back : RoundTrip (and_then (sample_rate_decoder o codes.sample_rate) (part_then (last header.number header.block_size)))
      (sample_rate_writes o codes.sample_rate header.sample_rate) (Ok header)
  unfolding last
  rate-back =
      let rates = sample_rate_writes o codes.sample_rate header.sample_rate in
      let behind = last header.number header.block_size in
      subst (λ ws. RoundTrip (and_then (sample_rate_decoder o codes.sample_rate) (part_then behind)) ws (Ok header))
      (append-nil rates)
      (part-back (sample_rate_decoder o codes.sample_rate) (part_then behind) rates [] (Ok header.sample_rate) (Ok header)
      (sample_rate-back o header.sample_rate codes.sample_rate coded.sample_rate).back
      (computed-back _ _ (rw coded.variable refl)))

  numbers-back : RoundTrip (numbers_decoder o codes header.channels header.sample_size) numbers (Ok header)
  unfolding last
  numbers-back =
      part-back (coded_decoder o) _ (coded_writes o header.number) _ (Ok header.number) (Ok header)
      (coded-back o header.number is.number).back
      (part-back (block_size_decoder o codes.block_size) _ (block_size_writes o codes.block_size header.block_size) _
      (Ok header.block_size) (Ok header)
      (block_size-back o header.block_size codes.block_size is.some is.most coded.block_size).back rate-back)

  pub header-back : RoundTrip (header_decoder o) (header_writes o codes header) (Ok header)
  header-back =
      let block = block_code-fits header.block_size codes.block_size coded.block_size in
      let rate = rate_code-fits header.sample_rate codes.sample_rate coded.sample_rate in
      part-back (codes_decoder o) _ (codes_writes o codes) numbers (Ok codes) (Ok header)
      (codes-back o codes block rate coded.few coded.small).back
      (rw (coded.channels, coded.sample_size) numbers-back)

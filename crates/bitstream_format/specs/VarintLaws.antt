-- Numbers of variable length: they are read back, and their length is known.
use Rattle.std.proofs.Common.{◌≡◌, ℕ, ◌^◌, ◌<◌, true, List, [], ◌∷◌, inl, refl, sym, subst, arith}
use Rattle.std.specs.Prelude.{nat_le}
use Rattle.std.proofs.lemmas.Bool.{leb-true, lt-leb}
use Rattle.bitstream_io.specs.Callers.{Encoder, Order, unsigned, unsigned_decoder}
use Rattle.bitstream_io.specs.ReadBack.{IsReadAs}
use Rattle.bitstream_io.proofs.CallsBack.{unsigned-read, value_in-fits}
use Rattle.bitstream_io.proofs.CallerLemmas.{RoundTrip, Packs, packs-is, packs-more, packs-none, unsigned-back, unsigned-written}
use Rattle.bitstream_format.specs.Varint.{varint_decoder, varint_length, varint_size, varint_width, varint_word, varint_writes}

length_small : (v : ℕ) → varint_length v < 4
length_small v = grind arith

width_most : (k : ℕ) → nat_le (varint_width k) 64 ≡ true
width_most k = grind arith

-- a number fits the bits after the first two
fits_width : (v : ℕ) → v < 4611686018427387904 → v < 2 ^ varint_width (varint_length v)
fits_width v small = grind (arith, small)

-- the writes of a number that has an encoding
pub has_varint : (o : Order) (v : ℕ) → v < 4611686018427387904 → varint_writes o v ≡ varint_word o v
has_varint o v small = rw (lt-leb 4611686018427387904 v small) refl

module _ (o : Order) (v : ℕ) (small : v < 2 ^ 62) where
  rest-back : (w : ℕ) → nat_le w 64 ≡ true → v < 2 ^ w → RoundTrip (unsigned_decoder o 64 w) (unsigned o 64 w v ∷ []) v
  rest-back w le fits = record {
    back =
        subst (IsReadAs (unsigned o 64 w v ∷ []) (unsigned_decoder o 64 w)) (value_in-fits w v fits)
        (unsigned-read o 64 w v (leb-true w 64 le) (inl fits));
  }

  pub varint-back : RoundTrip (varint_decoder o) (varint_writes o v) v
  varint-back =
      let k = varint_length v in
      let rest = rest-back (varint_width k) (width_most k) (fits_width v small) in
      subst (λ (ws : List Encoder). RoundTrip (varint_decoder o) ws v) (sym (has_varint o v small))
      (unsigned-back o 2 (unsigned o 64 (varint_width k) v ∷ []) v 32 k (λ k. unsigned_decoder o 64 (varint_width k)) refl
      (length_small v) rest)

  -- it is accepted, and has the stated number of bits
  pub varint-packs : Packs (varint_writes o v) (varint_size v)
  varint-packs =
      let k = varint_length v in
      let first = unsigned-written o 32 2 k refl (length_small v) in
      let rest = unsigned-written o 64 (varint_width k) v (width_most k) (fits_width v small) in
      let word = packs-is (packs-more first (packs-more rest packs-none)) (omega arith) in
      subst (λ (ws : List Encoder). Packs ws (varint_size v)) (sym (has_varint o v small)) word

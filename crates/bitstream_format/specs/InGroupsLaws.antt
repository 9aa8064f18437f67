-- The law of a size in groups of bits: the number of bytes of a later part is read back.
use Rattle.std.proofs.Common.{◌≡◌, ℕ, ◌*◌, ◌/◌, ◌^◌, ◌<◌, ◌≤◌, Bool, true, List, [], ◌∷◌, length, refl, sym, ap, subst}
use Rattle.std.specs.Prelude.{nat_le}
use Rattle.bitstream_stream.specs.Reading.ReadTable.{groups_decoder}
use Rattle.bitstream_count.proofs.VbrLemmas.{length-vbr_word}
use Rattle.bitstream_io.specs.Callers.{Encoder, Order, High, and_then, vbr}
use Rattle.bitstream_io.specs.Vbr.{vbr_word}
use Rattle.bitstream_io.proofs.CallerLemmas.{RoundTrip, Packs, part-back, packs-is, vbr-written}
use Rattle.bitstream_format.specs.AtomLaws.{one-packs, vbr-goes}
use Rattle.bitstream_format.specs.Format.{Part}
use Rattle.bitstream_format.specs.Measured.{Written, size-most}
use Rattle.bitstream_format.specs.SizeLaws.{counted-is}
use Rattle.bitstream_format.specs.InGroups.{grouped_encoder, grouped_of}

-- the size is the number of bytes of these calls
pub grouped-is : (o : Order) (es : List Encoder) (m : ℕ) → Packs es m → m ≤ 18446744073709551615
    → grouped_encoder o es ≡ vbr o 8 (m / 8)
unfolding grouped_encoder
grouped-is o es m packs le = ap (grouped_of o) (counted-is es m packs le)

module _ {S W A : Type 0} (strict : Bool) (width : ℕ) (some : nat_le 1 width ≡ true)
    (room : nat_le (8 * 2 ^ width) 18446744073709551615 ≡ true) (P : Written A) (get : S → A) where
  -- the number of bytes of a later part, in groups: it is below 2^width
  abbrev pub size_in_groups : Part S W ℕ
  size_in_groups = record {
    read = λ o f. and_then (groups_decoder strict o 8 width (2 ^ width)) f;
    get = λ s. P.size (get s) / 8;
    write = λ o s. grouped_encoder o (P.write High (get s)) ∷ [];
    size = λ s. length (vbr_word High 8 (P.size (get s) / 8));
    facts = λ s. (P.size (get s) / 8 < 2 ^ width) ∷ P.fits (get s) ∷ [];
    made = λ s. [];
    round_trip = λ o s f es w fits made rest.
        let n = P.size (get s) / 8 in
        let is = grouped-is o (P.write High (get s)) (P.size (get s)) (P.packs High (get s) fits.1)
        (size-most width (P.size (get s)) room fits.0) in
        let read = groups_decoder strict o 8 width (2 ^ width) in
        subst (λ (e : Encoder). RoundTrip (and_then read f) (e ∷ es) w) (sym is)
        (part-back read f (vbr o 8 n ∷ []) es n w (vbr-goes strict o 8 width refl some n fits.0).back rest);
    packs = λ o s fits made.
        let n = P.size (get s) / 8 in
        let is = grouped-is o (P.write High (get s)) (P.size (get s)) (P.packs High (get s) fits.1)
        (size-most width (P.size (get s)) room fits.0) in
        subst (λ (e : Encoder). Packs (e ∷ []) (length (vbr_word High 8 n))) (sym is)
        (packs-is (one-packs (vbr-written o 8 n)) (length-vbr_word o High 8 n));
    besides = λ s. (P.size (get s) / 8 < 2 ^ width) ∷ P.fits (get s) ∷ [];
    accepted = λ o s at fits all. fits;
  }

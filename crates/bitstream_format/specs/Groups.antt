-- Formats of numbers of variable width: in groups of bits, and Exp-Golomb codes.
use Rattle.std.proofs.Common.{◌≡◌, ℕ, ◌-◌, ◌^◌, ◌<◌, Bool, true, ℤ, [], ◌∷◌, length}
use Rattle.std.specs.Prelude.{nat_le, unsigned_abs}
use Rattle.bitstream_count.proofs.VbrLemmas.{length-vbr_word}
use Rattle.bitstream_stream.specs.Reading.ReadTable.{groups_decoder, signed_groups_decoder}
use Rattle.bitstream_io.specs.Callers.{High, FitsSignedBits, signed_vbr as signed_call}
use Rattle.bitstream_io.specs.Callers.{vbr as call}
use Rattle.bitstream_io.specs.Golomb.{ue_decoder, ue_writes, ue_size, se_decoder, se_writes, se_size}
use Rattle.bitstream_io.specs.Vbr.{vbr_word}
use Rattle.bitstream_io.specs.Word.{zig}
use Rattle.bitstream_io.proofs.CallerLemmas.{packs-is, vbr-written}
use Rattle.bitstream_io.proofs.GolombLemmas.{ue-back, ue-packs, se-back, se-packs}
use Rattle.bitstream_format.specs.AtomLaws.{one-packs, vbr-goes, signed_vbr-goes}
use Rattle.bitstream_format.specs.Format.{Plain}

-- a number below 2^size in groups of `field` bits; if `strict`, two groups or more do not end in 0
abbrev pub groups : (strict : Bool) (field size : ℕ) → nat_le 2 field ≡ true → nat_le 1 size ≡ true → Plain ℕ
groups strict field size wide some = record {
  read = λ o. groups_decoder strict o field size (2 ^ size);
  write = λ o v. call o field v ∷ [];
  size = λ v. length (vbr_word High field v);
  facts = λ v. (v < 2 ^ size) ∷ [];
  round_trip = λ o v fits. vbr-goes strict o field size wide some v fits;
  packs = λ o v fits. packs-is (one-packs (vbr-written o field v)) (length-vbr_word o High field v);
  besides = λ v. (v < 2 ^ size) ∷ [];
  accepted = λ o v at fits all. fits;
}

-- the same of a signed number
abbrev pub signed_groups : (strict : Bool) (field size : ℕ) → nat_le 2 field ≡ true → nat_le 1 size ≡ true → Plain ℤ
signed_groups strict field size wide some = record {
  read = λ o. signed_groups_decoder strict o field size;
  write = λ o x. signed_call o field x ∷ [];
  size = λ x. length (vbr_word High field (zig x));
  facts = λ x. FitsSignedBits size x ∷ [];
  round_trip = λ o x fits. signed_vbr-goes strict o field size wide some x fits;
  packs = λ o x fits. packs-is (one-packs (vbr-written o field (zig x))) (length-vbr_word o High field (zig x));
  besides = λ x. FitsSignedBits size x ∷ [];
  accepted = λ o x at fits all. fits;
}

-- a number by an Exp-Golomb code
abbrev pub ue : Plain ℕ
ue = record {
  read = ue_decoder;
  write = ue_writes;
  size = ue_size;
  facts = λ v. (v < 2 ^ 32 - 1) ∷ [];
  round_trip = ue-back;
  packs = ue-packs;
  besides = λ v. (v < 2 ^ 32 - 1) ∷ [];
  accepted = λ o v at fits all. fits;
}

-- a signed number by an Exp-Golomb code
abbrev pub se : Plain ℤ
se = record {
  read = se_decoder;
  write = se_writes;
  size = se_size;
  facts = λ x. (unsigned_abs x < 2 ^ 31) ∷ [];
  round_trip = se-back;
  packs = se-packs;
  besides = λ x. (unsigned_abs x < 2 ^ 31) ∷ [];
  accepted = λ o x at fits all. fits;
}

-- The MD5 of the samples of the first example of RFC 9639 (appendix D.1).
use Rattle.std.proofs.Common.{◌≡◌, [], ◌∷◌, pos, refl}
use Rattle.flac_codec.specs.Samples.{first_samples, sample_bytes}
use Rattle.md5.specs.Md5.{block_words, compress, digest_bytes, hash_after, md5, rounds}

rfc_first : md5 (sample_bytes 16 ((pos 25588 ∷ []) ∷ (pos 10416 ∷ []) ∷ []))
    ≡ 0x3e ∷ 0x84 ∷ 0xb4 ∷ 0x18 ∷ 0x07 ∷ 0xdc ∷ 0x69 ∷ 0x03 ∷ 0x07 ∷ 0x58 ∷ 0x6a ∷ 0x3d ∷ 0xad ∷ 0x1a ∷ 0x2e ∷ 0x0f ∷ []
unfolding block_words compress digest_bytes first_samples hash_after md5 rounds
rfc_first = refl

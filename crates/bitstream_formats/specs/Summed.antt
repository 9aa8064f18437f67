-- The MD5 of the samples of a FLAC file (RFC 9639, section 8.2).
use Rattle.std.specs.Prelude.{◌≡◌, ◌⊎◌, ℤ, List, replicate}
use Rattle.flac_codec.specs.Samples.{sample_bytes}
use Rattle.flac_codec.specs.declared.file.FileHeader.{FileHeader}
use Rattle.md5.specs.Md5.{md5}

-- the header with the MD5 of these samples
abbrev pub summed : FileHeader → List (List ℤ) → FileHeader
summed header channels = record header { checksum = md5 (sample_bytes header.sample_size channels) }

-- the MD5 is that of these samples, or it is not known
abbrev pub HasMd5 : FileHeader → List (List ℤ) → Type 0
HasMd5 header channels =
    (header.checksum ≡ replicate 16 0) ⊎ (md5 (sample_bytes header.sample_size channels) ≡ header.checksum)

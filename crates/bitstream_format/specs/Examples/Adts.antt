-- The header of an ADTS frame of AAC.
use Rattle.bitstream_format.specs.declared.examples.adts.AdtsHeader.{AdtsHeader}
use Rattle.bitstream_format.specs.declared.examples.adts.AdtsError.{AdtsError}
use Rattle.bitstream_format.specs.declared.examples.adts.AdtsError.TheVariants.{Reader, NoSync, UnknownLayer}
use Rattle.std.specs.Prelude.{◌≡◌, ◌<◌, ◌^◌}
use Rattle.std.proofs.Common.{refl}
use Rattle.bitstream_io.specs.Callers.{Error}
use Rattle.bitstream_format.specs.Format.{◌>>=◌, Own, format, named, field, const, own_done}
use Rattle.bitstream_format.specs.Atoms as atom

-- an error of the reader becomes one of the type
abbrev pub becomes_adts : Error → AdtsError → Type 0
becomes_adts error own = own ≡ Reader error

-- each field fits its bits
pub record AdtsFits (s : AdtsHeader) : Type 0 where
  pub profile : s.profile < 2 ^ 2
  pub frequency : s.frequency < 2 ^ 4
  pub channels : s.channels < 2 ^ 3
  pub frame_length : s.frame_length < 2 ^ 13
  pub fullness : s.fullness < 2 ^ 11
  pub blocks : s.blocks < 2 ^ 2

-- the header of a frame, whose sync word and layer are constants
abbrev pub adts : Own AdtsError AdtsHeader
adts = named AdtsFits (format (do
  sync ← const 12 4095 refl NoSync
  mpeg_2 ← field atom.bool (λ s. s.mpeg_2)
  layer ← const 2 0 refl UnknownLayer
  protection_absent ← field atom.bool (λ s. s.protection_absent)
  profile ← field (atom.unsigned 8 2 refl) (λ s. s.profile)
  frequency ← field (atom.unsigned 8 4 refl) (λ s. s.frequency)
  private ← field atom.bool (λ s. s.private)
  channels ← field (atom.unsigned 8 3 refl) (λ s. s.channels)
  original ← field atom.bool (λ s. s.original)
  home ← field atom.bool (λ s. s.home)
  copyright_id ← field atom.bool (λ s. s.copyright_id)
  copyright_start ← field atom.bool (λ s. s.copyright_start)
  frame_length ← field (atom.unsigned 16 13 refl) (λ s. s.frame_length)
  fullness ← field (atom.unsigned 16 11 refl) (λ s. s.fullness)
  blocks ← field (atom.unsigned 8 2 refl) (λ s. s.blocks)
  own_done (record {
    mpeg_2 = mpeg_2;
    protection_absent = protection_absent;
    profile = profile;
    frequency = frequency;
    private = private;
    channels = channels;
    original = original;
    home = home;
    copyright_id = copyright_id;
    copyright_start = copyright_start;
    frame_length = frame_length;
    fullness = fullness;
    blocks = blocks;
  })) (λ s. refl {a = s}))
    (λ s fits. (fits.profile, (fits.frequency, (fits.channels, (fits.frame_length, (fits.fullness, fits.blocks))))))

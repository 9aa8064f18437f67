-- The channels of a frame (RFC 9639, sections 4.2 and 9.1.3): each by itself, or one of two and their difference.
use Rattle.std.specs.Prelude.{ℕ, ◌+◌, List, [], ◌∷◌, Result, Ok, ℤ}
use Rattle.std.specs.Int.{int_shr, int_wrapping_add, int_wrapping_sub, w64}
use Rattle.bitstream_io.specs.Callers.{Decoder, ◌>>=◌, Order, parts_decoder, part_then, stores}
use Rattle.flac_codec.specs.Subframe.{subframe_decoder}
use Rattle.flac_codec.specs.declared.error.FlacError.{FlacError}
use Rattle.flac_codec.specs.declared.header.Channels.{Channels}
use Rattle.flac_codec.specs.declared.header.Channels.TheVariants.{Independent, LeftSide, SideRight, MidSide}

-- the samples of two channels, each with its other one
abbrev pub combined : (ℤ → ℤ → ℤ) → List ℤ → List ℤ → List ℤ
combined f [] ys = []
combined f (x ∷ xs) [] = []
combined f (x ∷ xs) (y ∷ ys) = f x y ∷ combined f xs ys

-- samples less those of another channel, of which each is shifted to the right, in 64 bits
abbrev pub less : ℕ → List ℤ → List ℤ → List ℤ
less shift xs ys = combined (λ x y. int_wrapping_sub w64 x (int_shr y shift)) xs ys

-- samples and those of another channel, of which each is shifted to the right, added in 64 bits
abbrev pub more : ℕ → List ℤ → List ℤ → List ℤ
more shift xs ys = combined (λ x y. int_wrapping_add w64 x (int_shr y shift)) xs ys

-- The left and the right channel of two subframes. The side is left less right, and the middle is their mean without its
-- half: so right is the middle less half the side, and left is right and the side.
abbrev pub joined : Channels → List ℤ → List ℤ → List (List ℤ)
joined LeftSide left side = left ∷ less 0 left side ∷ []
joined SideRight side right = more 0 right side ∷ right ∷ []
joined MidSide middle side = let right = less 1 middle side in more 0 right side ∷ right ∷ []
joined (Independent count) first second = first ∷ second ∷ []

-- the bits of a sample of the first subframe: a side has one more
abbrev pub first_width : Channels → ℕ → ℕ
first_width SideRight width = width + 1
first_width channels width = width

-- and of the second one
abbrev pub second_width : Channels → ℕ → ℕ
second_width LeftSide width = width + 1
second_width MidSide width = width + 1
second_width channels width = width

-- two subframes, whose channels are then stored
abbrev pub pair_decoder : Order → Channels → ℕ → ℕ → Decoder (Result (List (List ℤ)) FlacError)
pair_decoder o channels width block_size =
    subframe_decoder o (first_width channels width) block_size >>= part_then (λ first.
    subframe_decoder o (second_width channels width) block_size >>= part_then (λ second.
    stores (Ok (joined channels first second))))

-- the channels of a block, of samples of `width` bits
abbrev pub channels_decoder : Order → Channels → ℕ → ℕ → Decoder (Result (List (List ℤ)) FlacError)
channels_decoder o (Independent count) width block_size = parts_decoder (subframe_decoder o width block_size) count
channels_decoder o LeftSide width block_size = pair_decoder o LeftSide width block_size
channels_decoder o SideRight width block_size = pair_decoder o SideRight width block_size
channels_decoder o MidSide width block_size = pair_decoder o MidSide width block_size

-- the number of channels
abbrev pub channel_count : Channels → ℕ
channel_count (Independent count) = count
channel_count _ = 2

-- Made by `./format` from formats/mp3_header.fields: edit that file and make this one anew.
use Rattle.protocols.specs.Mp3Header.{mp3_header_decoder, mp3_header_at, bits_at, const_at_0, version_of, layer_of, channel_mode_of}
use Rattle.protocols.proofs.Mp3HeaderLemmas.{mp3_header_packs, told}
use Rattle.protocols.specs.declared.mp3_header.Mp3Error.TheVariants.{NoSync, NoVersion, NoLayer}
use Rattle.protocols.specs.declared.mp3_header.Version.{Version}
use Rattle.protocols.specs.declared.mp3_header.Layer.{Layer}
use Rattle.std.proofs.Common.{◌≡◌, ◌≢◌, ◌++◌, ◌∙◌, ℕ, List, Ok, Err, refl, ap, sym, arith}
use Rattle.bitstream_io.proofs.CallerLemmas.{Finds, is_error, own_answered, own_fields_there, own_fields_short, own_prefix_answered, slice_ends, bit-finds, unsigned-finds, const-finds, const-misses, pure-finds, made-finds, part-finds, part-misses, packs-whole}
use Rattle.bitstream_io.specs.Callers.{High, bits, number}
use Rattle.protocols.proofs.mp3_header.Mp3Header.parse.Goals as goal

found : (packet : List ℕ) → (version : Version) (layer : Layer) → const_at_0 (bits High packet) ≡ 2047 → version_of
    (number High (bits_at 11 2 (bits High packet))) ≡ Ok version → layer_of (number High (bits_at 13 2 (bits High
    packet))) ≡ Ok layer
    → Finds (bits High packet) 0 (mp3_header_decoder High) 32 (Ok (Ok (mp3_header_at version layer (bits High packet))))
found packet version layer is_0 is_1 is_2 = const-finds _ _ 11 32 _ High 2047 _ refl is_0 (part-finds _ _ 21 2 High 8
    version_of _ version _ refl refl is_1 (part-finds _ _ 19 2 High 8 layer_of _ layer _ refl refl is_2 (bit-finds _ _
    17 _ _ refl (unsigned-finds _ _ 4 16 _ High 8 _ refl refl (unsigned-finds _ _ 2 12 _ High 8 _ refl refl (bit-finds _
    _ 10 _ _ refl (bit-finds _ _ 9 _ _ refl (made-finds _ _ 8 _ 2 High 8 channel_mode_of _ refl refl (unsigned-finds _ _
    2 6 _ High 8 _ refl refl (bit-finds _ _ 4 _ _ refl (bit-finds _ _ 3 _ _ refl (unsigned-finds _ _ 2 2 _ High 8 _ refl
    refl (pure-finds _ _ _)))))))))))))

other_0 : (packet : List ℕ) → const_at_0 (bits High packet) ≢ 2047
    → Finds (bits High packet) 0 (mp3_header_decoder High) 11 (Ok (Err NoSync))
other_0 packet differs = const-misses _ _ 11 11 _ High 2047 _ refl differs (pure-finds _ _ _)

other_1 : (packet : List ℕ) → const_at_0 (bits High packet) ≡ 2047 → version_of (number High (bits_at 11 2 (bits High
    packet))) ≡ Err NoVersion
    → Finds (bits High packet) 0 (mp3_header_decoder High) 13 (Ok (Err NoVersion))
other_1 packet is_0 differs = const-finds _ _ 11 13 _ High 2047 _ refl is_0 (part-misses _ _ 2 2 High 8 version_of _
    NoVersion refl refl differs refl)

other_2 : (packet : List ℕ) → (version : Version) → const_at_0 (bits High packet) ≡ 2047 → version_of (number High
    (bits_at 11 2 (bits High packet))) ≡ Ok version → layer_of (number High (bits_at 13 2 (bits High packet))) ≡ Err
    NoLayer
    → Finds (bits High packet) 0 (mp3_header_decoder High) 15 (Ok (Err NoLayer))
other_2 packet version is_0 is_1 differs = const-finds _ _ 11 15 _ High 2047 _ refl is_0 (part-finds _ _ 4 2 High 8
    version_of _ version _ refl refl is_1 (part-misses _ _ 2 2 High 8 layer_of _ NoLayer refl refl differs refl))

pub returns-clause-answer : goal.returns-clause-answer
returns-clause-answer c = own_answered slice_ends c.over.ensures.state refl c.read.ensures

pub returns-clause-no_sync : goal.returns-clause-no_sync
returns-clause-no_sync c = λ enough differs. own_fields_there slice_ends c.over.ensures.state refl c.read.ensures
    (other_0 _ differs) (omega arith)

pub returns-clause-no_version : goal.returns-clause-no_version
returns-clause-no_version c = λ enough is_0 differs. own_fields_there slice_ends c.over.ensures.state refl
    c.read.ensures (other_1 _ is_0 differs) (omega arith)

pub returns-clause-no_layer : goal.returns-clause-no_layer
returns-clause-no_layer c = λ enough version is_0 is_1 differs. own_fields_there slice_ends c.over.ensures.state refl
    c.read.ensures (other_2 _ version is_0 is_1 differs) (omega arith)

pub returns-clause-there : goal.returns-clause-there
returns-clause-there c = λ enough version layer is_0 is_1 is_2. own_fields_there slice_ends c.over.ensures.state refl
    c.read.ensures (found _ version layer is_0 is_1 is_2) (omega arith)

pub returns-clause-short : goal.returns-clause-short
returns-clause-short c = λ few version layer is_0 is_1 is_2. is_error _ _ (own_fields_short slice_ends
    c.over.ensures.state refl c.read.ensures (found _ version layer is_0 is_1 is_2) (omega arith))

pub returns-clause-back : goal.returns-clause-back
returns-clause-back c = λ value more fits is.
    own_prefix_answered slice_ends c.over.ensures.state refl c.read.ensures (ap ((mp3_header_decoder High).reads 0) (is
    ∙ ap (λ w. w ++ more) (sym (told value) ∙ packs-whole (mp3_header_packs High value fits) refl)) ∙
    c.mp3_header_round_trip.ensures.back High value 0 0 more fits)

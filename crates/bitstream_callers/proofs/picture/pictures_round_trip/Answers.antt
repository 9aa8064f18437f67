use Rattle.std.proofs.Common.{◌^◌, ◌<◌, ◌∙◌, ℕ, List, [], ◌∷◌, length, Ok, arith, refl}
use Rattle.std.proofs.Math.Nat.{mod-eq_of_lt}
use Rattle.bitstream_io.specs.Callers.{Order, Decoder, Encoder, and_then, number, unsigned, unsigned_decoder, buffer, word}
use Rattle.bitstream_io.proofs.BackLemmas.{word-back}
use Rattle.bitstream_io.proofs.CallerLemmas.{RoundTrip, pure-back, part-back, unsigned-back, unsigned-word, vec-back}
use Rattle.bitstream_io.proofs.WordLemmas.{length-word, number-word}
use Rattle.bitstream_io.proofs.WriteLemmas.{unsigned-fits}
use Rattle.bitstream_callers.specs.Picture.{counted_reads, counted_writes, size_reads, size_writes, IsCounted}
use Rattle.bitstream_callers.specs.declared.picture.PictureSize.{PictureSize}
use Rattle.bitstream_callers.proofs.picture.pictures_round_trip.Goals as goal

-- a number of 32 bits, which is written from a wider type
count-back : {B : Type 0} (o : Order) (n : ℕ) (f : ℕ → Decoder B) (es : List Encoder) (b : B) → n < 2 ^ 32
    → RoundTrip (f n) es b → RoundTrip (and_then (unsigned_decoder o 32 32) f) (unsigned o 64 32 n ∷ es) b
count-back o n f es b small behind =
    word-back (unsigned_decoder o 32 32) 32 (number o) (unsigned o 64 32 n) (word o 32 n) n f es b
    (unsigned-word o 32 32 (omega arith)) (λ len. unsigned-fits o 64 32 n len (omega arith) small) (length-word o 32 n)
    (number-word o 32 n ∙ mod-eq_of_lt small) behind

counted-back : (o : Order) (bytes : List ℕ) → IsCounted bytes
    → RoundTrip (counted_reads o) (counted_writes o bytes) (Ok bytes)
counted-back o bytes is =
    count-back o (length bytes) _ (buffer o bytes ∷ []) (Ok bytes) is.count
    (vec-back [] (Ok bytes) o (length bytes) bytes _ refl is.each (pure-back (Ok bytes)))

size-back : (o : Order) (size : PictureSize) → size.width < 2 ^ 32 → size.height < 2 ^ 32 → size.depth < 2 ^ 32
    → size.colors < 2 ^ 32 → RoundTrip (size_reads o) (size_writes o size) (Ok size)
size-back o size width height depth colors =
    unsigned-back o 32 _ (Ok size) 32 size.width _ refl width
    (unsigned-back o 32 _ (Ok size) 32 size.height _ refl height
    (unsigned-back o 32 _ (Ok size) 32 size.depth _ refl depth
    (unsigned-back o 32 [] (Ok size) 32 size.colors _ refl colors (pure-back (Ok size)))))

pub returns : goal.returns
returns c = λ o picture at from more is.
    let goes = unsigned-back o 32 _ (Ok picture) 32 picture.kind _ refl is.kind
    (part-back (counted_reads o) _ (counted_writes o picture.media) _ (Ok picture.media) (Ok picture)
    (counted-back o picture.media is.media).back
    (part-back (counted_reads o) _ (counted_writes o picture.description) _ (Ok picture.description) (Ok picture)
    (counted-back o picture.description is.description).back
    (part-back (size_reads o) _ (size_writes o picture.size) _ (Ok picture.size) (Ok picture)
    (size-back o picture.size is.width is.height is.depth is.colors).back
    (part-back (counted_reads o) _ (counted_writes o picture.image) [] (Ok picture.image) (Ok picture)
    (counted-back o picture.image is.image).back (pure-back (Ok picture)))))) in
    goes.back at from more

-- A file: its metadata, its frames one after another, and its channels.
use Rattle.std.proofs.Common.{arith, inl, inr, ◌⊎◌, ◌≡◌, ◌∙◌, ◌++◌, ◌+◌, ◌-◌, ◌*◌, ◌<◌, ◌≤◌, ◌==◌, ℕ, ℤ, if◌then◌else◌, zero, suc, true, false, Bool, List, [], ◌∷◌, Result, Ok, Err, Vec, Global, length, take, drop, refl, sym, ap, subst, append-nil, append_assoc, get_or, add-one, zero-add, length-append, length-drop}
use Rattle.std.specs.Prelude.{map, MatchResult}
use Rattle.std.specs.Int.NonZero.{non_zero_u8_get}
use Rattle.std.specs.List.{All}
use Rattle.std.proofs.lemmas.Bool.{eq-eqb, eqb-true, le-ltb, ne_eqb}
use Rattle.std.proofs.Math.Seq.{take-append_seam}
use Rattle.std.proofs.lemmas.List.{drop_at, length-map, length-take-le, take_all, take_more}
use Rattle.std.proofs.lemmas.List.Concat.{flat_map-append}
use Rattle.std.proofs.lemmas.List.Elements.{All-cons, All-drop, All-get_or, All-head, All-map, All-nil, All-tail, All-take, All-weaker}
use Rattle.bitstream_io.specs.Callers.{bits, sure_answer, result_map, write_sequence, FitsSignedBits, High, OutOfMemory}
use Rattle.bitstream_io.proofs.CallerLemmas.{packs-whole}
use Rattle.bitstream_io.proofs.WordLemmas.{length-bits}
use Rattle.flac_codec.specs.Channels.{channel_count}
use Rattle.flac_codec.specs.Encodable.{IsFormat}
use Rattle.flac_codec.specs.File.{as_flac, block_at, blocks_at, channel_of, channels_at, channels_of, count_holds, file_at, file_header, has_marker, info_at, is_of_file, metadata_at, metadata_end, metadata_head, metadata_size, sample_count, stream_info_in}
use Rattle.flac_codec.specs.Frame.{after, channels_at as channels_behind, crc16_holds, frame_at, header_at, IsFoundIn}
use Rattle.flac_codec.specs.StreamInfo.{stream_info_bits, stream_info_decoder, stream_info_writes, Fits}
use Rattle.flac_codec.specs.Written.{marker, IsBlock, IsMetadata}
use Rattle.flac_codec.specs.declared.error.FlacError.{FlacError}
use Rattle.flac_codec.specs.declared.error.FlacError.TheVariants.{Reader}
use Rattle.flac_codec.specs.declared.header.Channels.{Channels}
use Rattle.flac_codec.specs.declared.header.FrameHeader.{FrameHeader}
use Rattle.flac_codec.specs.declared.metadata.Metadata.{Metadata}
use Rattle.flac_codec.specs.declared.stream_info.StreamInfo.{StreamInfo}
use Rattle.flac_codec.proofs.FoundLemmas.{after-err, after-ok, crc16-within, not-refused, refused-as}
use Rattle.flac_codec.proofs.StreamInfoLemmas.{stream_info_goes, stream_info_packs, told}

-- ---- bytes that are left

pub some-left : {b : Bool} (xs : List ℕ) → b ≡ (length xs == 0) → b ≡ false → 0 < length xs
some-left [] is none = let no = sym is ∙ none in cc
some-left (x ∷ xs) is none = omega arith

pub none-left : {b : Bool} (xs : List ℕ) → b ≡ (length xs == 0) → b ≡ true → length xs ≡ 0
none-left xs is all = eqb-true (length xs) 0 (sym is ∙ all)

-- ---- a result behind another

pub after-value : {A B : Type 0} (p : Result A FlacError) (f : A → Result B FlacError) {v : B} → Ok v ≡ after p f
    → (a : A) × (Ok a ≡ p) × (Ok v ≡ f a)
after-value (Ok a) f is = (a, refl, is)
after-value (Err x) f is = absurd (not-refused is)

second-same : {A : Type 0} {x y : A} {n m : ℕ} → ◌≡◌ {A = Result (A × ℕ) FlacError} (Ok (x, n)) (Ok (y, m)) → n ≡ m
second-same {A = A} {x = x} {y = y} {n = n} {m = m} is =
    let P : Result (A × ℕ) FlacError → Type 0 = λ r. MatchResult r (λ p. n ≡ p.1) (λ e. ⊥) in
    subst P is refl

pub same-value : {A : Type 0} {x y : A} → ◌≡◌ {A = Result A FlacError} (Ok x) (Ok y) → x ≡ y
same-value {A = A} {x = x} {y = y} is =
    let P : Result A FlacError → Type 0 = λ r. MatchResult r (λ v. x ≡ v) (λ e. ⊥) in
    subst P is refl

-- ---- the size of a frame

pub frame-size : (sample_size : ℕ) (bytes : List ℕ) {frame : FrameHeader × List (List ℤ)} {n : ℕ}
    → Ok (frame, n) ≡ frame_at sample_size bytes → (1 ≤ n) × (n ≤ length bytes)
frame-size sample_size bytes {frame = frame} {n = n} is =
    let body = after-value (after (header_at bytes) (channels_behind sample_size bytes))
    (λ (found, k). after (crc16_holds bytes k) (λ _. Ok (found, k + 2))) is in
    let sum = after-value (crc16_holds bytes body.0.1) (λ _. Ok (body.0.0, body.0.1 + 2)) body.2 in
    let less = crc16-within bytes body.0.1 sum.1 in
    let same : n ≡ body.0.1 + 2 = second-same sum.2 in
    (omega (arith, same), omega (arith, same, less))

-- ---- metadata

pub metadata-end : (n : ℕ) (bytes : List ℕ) → Ok bytes ≡ metadata_end n true bytes
unfolding metadata_end
metadata-end zero bytes = refl
metadata-end (suc n) bytes = refl

pub metadata-next : (n : ℕ) (bytes : List ℕ) {block : Metadata} → length bytes ≤ n → 4 ≤ block.size → block.size ≤ length bytes
    → Ok block ≡ metadata_at bytes
    → (k : ℕ) × (length (drop block.size bytes) ≤ k)
    × (metadata_end n false bytes ≡ metadata_end k block.last (drop block.size bytes))
unfolding metadata_end
metadata-next zero bytes enough some within is = absurd (omega arith)
metadata-next (suc n) bytes {block = block} enough some within is =
    let rest = length-drop block.size bytes in (
      n,
      omega (arith, rest),
      sym (after-ok (λ found. metadata_end n found.last (drop found.size bytes)) is refl),
    )

pub metadata-stop : (n : ℕ) (bytes : List ℕ) {x : FlacError} → length bytes ≤ n → Err x ≡ metadata_at bytes
    → Err x ≡ metadata_end n false bytes
unfolding metadata_end
metadata-stop zero [] enough is = ap Err (refused-as is refl)
metadata-stop zero (byte ∷ bytes) enough is = absurd (omega arith)
metadata-stop (suc n) bytes enough is = after-err (λ found. metadata_end n found.last (drop found.size bytes)) is

-- ---- frames

abbrev next_blocks : ℕ → StreamInfo → List ℕ → List (List (List ℤ)) → List (List ℤ) × ℕ → Result (List (List (List ℤ))) FlacError
next_blocks n info bytes before (channels, size) = blocks_at n info (drop size bytes) (before ++ channels ∷ [])

blocks-suc : (n : ℕ) (info : StreamInfo) (bytes : List ℕ) (before : List (List (List ℤ))) → 0 < length bytes
    → blocks_at (suc n) info bytes before ≡ after (block_at info bytes) (next_blocks n info bytes before)
unfolding blocks_at
blocks-suc n info bytes before more = rw (ne_eqb (length bytes) 0 (λ e. omega (arith, e))) refl

pub blocks-next : (n : ℕ) (info : StreamInfo) (bytes : List ℕ) (before : List (List (List ℤ))) {channels : List (List ℤ)} {size : ℕ}
    → length bytes ≤ n → 0 < length bytes → 1 ≤ size → Ok (channels, size) ≡ block_at info bytes
    → (k : ℕ) × (length (drop size bytes) ≤ k)
    × (blocks_at n info bytes before ≡ blocks_at k info (drop size bytes) (before ++ channels ∷ []))
blocks-next zero info bytes before enough more some is = absurd (omega arith)
blocks-next (suc n) info bytes before {channels = channels} {size = size} enough more some is =
    let rest = length-drop size bytes in (
      n,
      omega (arith, rest),
      blocks-suc n info bytes before more ∙ sym (after-ok (next_blocks n info bytes before) is refl),
    )

pub blocks-stop : (n : ℕ) (info : StreamInfo) (bytes : List ℕ) (before : List (List (List ℤ))) {x : FlacError}
    → length bytes ≤ n → 0 < length bytes → Err x ≡ block_at info bytes → Err x ≡ blocks_at n info bytes before
blocks-stop zero info bytes before enough more is = absurd (omega arith)
blocks-stop (suc n) info bytes before enough more is =
    after-err (next_blocks n info bytes before) is ∙ sym (blocks-suc n info bytes before more)

pub blocks-end : (n : ℕ) (info : StreamInfo) (bytes : List ℕ) (before : List (List (List ℤ))) → length bytes ≡ 0
    → blocks_at n info bytes before ≡ Ok before
unfolding blocks_at
blocks-end zero info bytes before none = refl
blocks-end (suc n) info bytes before none = rw (eq-eqb (length bytes) 0 none) refl

-- ---- channels

module _ (blocks : List (List (List ℤ))) where
  pub channels-more : (n : ℕ) → channels_of blocks (n + 1) ≡ channels_of blocks n ++ channel_of blocks n ∷ []
  unfolding channels_of
  channels-more n = rw (add-one n) refl

  pub channels-none : channels_of blocks 0 ≡ []
  unfolding channels_of
  channels-none = refl

  pub channels-are : (channels : List (List ℤ)) (n : ℕ) → n ≤ length channels
      → ((c : ℕ) → c < n → channel_of blocks c ≡ get_or channels c []) → channels_of blocks n ≡ take n channels
  unfolding channels_of
  channels-are channels zero few each = refl
  channels-are channels (suc n) few each =
      ap (λ found. found ++ channel_of blocks n ∷ []) (channels-are channels n (omega arith) (λ c less. each c (omega arith)))
      ∙ ap (λ channel. take n channels ++ channel ∷ []) (each n (omega arith))
      ∙ sym (take_more channels n [] (omega arith)) ∙ ap (λ k. take k channels) (add-one n)

-- ---- memory that is refused

pub joined-result : {V B : Type 0} (view : V → B) (r : Result V FlacError) (value : B)
    → MatchResult r (λ v. view v ≡ value) (λ error. error ≡ Reader OutOfMemory)
    → (Ok value ≡ result_map view r) ⊎ (result_map view r ≡ Err (Reader OutOfMemory))
joined-result view (Ok v) value is = inl (ap Ok (sym is))
joined-result view (Err x) value is = inr (ap Err is)

-- ---- a list of vectors

pub All-unmap : {X Y : Type 0} (P : Y → Type 0) (f : X → Y) (xs : List X) → All P (map f xs) → All (λ x. P (f x)) xs
All-unmap P f [] all = All-nil (λ x. P (f x))
All-unmap P f (x ∷ xs) all =
    All-cons (λ y. P (f y)) x xs (All-head P (f x) (map f xs) all) (All-unmap P f xs (All-tail P (f x) (map f xs) all))

pub both-all : {X : Type 0} (P Q : X → Type 0) (xs : List X) → All P xs → All Q xs → All (λ x. P x × Q x) xs
both-all P Q xs first second = λ k d less. (first k d less, second k d less)

-- ---- a file that was encoded: its metadata

abbrev first_block : Bool → Metadata
first_block last = record { last = last; kind = 0; size = 38 }

module _ (info : StreamInfo) (packed : List ℕ) (fits : Fits info) (is : bits High packed ≡ stream_info_bits info) where
  word : bits High packed ≡ write_sequence (stream_info_writes High info) 0
  word = is ∙ sym (told info) ∙ packs-whole (stream_info_packs High info fits) refl

  pub size : length packed ≡ 34
  size =
      let eight : 8 * length packed ≡ 272 =
      sym (length-bits High packed) ∙ ap length word ∙ (stream_info_packs High info fits).size 0 in
      omega (arith, eight)

  info-back : (more : List ℕ) → as_flac (sure_answer ((stream_info_decoder High).reads 0 (bits High (take 34 (packed ++ more)))))
      ≡ Ok info
  info-back more =
      let taken : take 34 (packed ++ more) ≡ packed =
      ap (λ n. take n (packed ++ more)) (sym size) ∙ take-append_seam packed more in
      let whole : bits High (take 34 (packed ++ more)) ≡ write_sequence (stream_info_writes High info) 0 ++ [] =
      ap (bits High) taken ∙ word ∙ sym (append-nil (write_sequence (stream_info_writes High info) 0)) in
      ap (λ b. as_flac (sure_answer ((stream_info_decoder High).reads 0 b))) whole
      ∙ ap (λ p. as_flac (sure_answer p)) ((stream_info_goes High info fits).back 0 0 [])

  marked : (rest : List ℕ) → has_marker (marker ++ rest) ≡ true
  marked rest = rw (le-ltb (length (marker ++ rest)) 4 (omega arith)) refl

  block : (last : Bool) (head more : List ℕ) → length head ≡ 4 → metadata_head (head ++ (packed ++ more)) ≡ first_block last
      → Ok (first_block last) ≡ metadata_at (head ++ (packed ++ more))
  block last head more four here =
      let all = head ++ (packed ++ more) in
      let few : metadata_size all ≡ 38 = ap (λ (m : Metadata). m.size) here in
      let long = length-append head (packed ++ more) in
      let rest = length-append packed more in
      let short = size in
      ap Ok (sym here) ∙ rw (le-ltb (length all) (metadata_size all) (omega (arith, few, long, rest, short, four))) refl

  info-found : (last : Bool) (head more : List ℕ) → length head ≡ 4 → metadata_head (head ++ (packed ++ more)) ≡ first_block last
      → Ok (info, last) ≡ info_at (marker ++ (head ++ (packed ++ more)))
  info-found last head more four here =
      let found : Ok info ≡ stream_info_in (head ++ (packed ++ more)) =
      sym (ap (λ l. as_flac (sure_answer ((stream_info_decoder High).reads 0 (bits High (take 34 l)))))
      (drop_at head (packed ++ more) 4 four) ∙ info-back more) in
      rw (marked (head ++ (packed ++ more))) (after-ok _ (block last head more four here) (after-ok _ found refl))

  -- the marker, a header that is read back, and STREAMINFO
  pub metadata-found : (last : Bool) (head : List ℕ) → length head ≡ 4
      → ((more : List ℕ) → metadata_head (head ++ more) ≡ first_block last) → IsMetadata info last (marker ++ (head ++ packed))
  metadata-found last head four back =
      let long : length (marker ++ (head ++ packed)) ≡ 42 =
      let sum = length-append head packed in let short = size in omega (arith, sum, short, four) in (
        long,
        λ more. ap (λ l. info_at (marker ++ l)) (append_assoc head packed more)
            ∙ sym (info-found last head more four (back (packed ++ more))),
      )

-- ---- a file that was encoded: its frames

pub same_either : {A : Type 0} (b : Bool) (x : A) → (if b then x else x) ≡ x
same_either b x = elim b as (λ v. (if v then x else x) ≡ x) [ true ↦ refl | false ↦ refl ]

count-same : (info : StreamInfo) (channels : List (List ℤ)) → info.total_samples ≡ sample_count channels
    → Ok tt ≡ count_holds info channels
count-same info channels is =
    rw (eq-eqb (sample_count channels) info.total_samples (sym is)) (sym (same_either (info.total_samples == 0) (Ok tt)))

pub file-found : (info : StreamInfo) (start frames : List ℕ) (channels : List (List ℤ)) → IsMetadata info true start
    → channels_at info frames ≡ Ok channels → info.total_samples ≡ sample_count channels
    → file_at (start ++ frames) ≡ Ok (file_header info, channels)
file-found info start frames channels metadata found count =
    let rest : drop 42 (start ++ frames) ≡ frames = drop_at start frames 42 metadata.0 in
    let last : Ok frames ≡ metadata_end (length (drop 42 (start ++ frames))) true (drop 42 (start ++ frames)) =
    rw rest (metadata-end (length frames) frames) in
    let whole : Ok (file_header info, channels) ≡ file_at (start ++ frames) =
    after-ok _ (sym (metadata.1 frames)) (after-ok _ last (after-ok _ (sym found) (after-ok _ (count-same info channels count) refl))) in
    sym whole

-- the header of a frame of the encoder
abbrev pub new_header : ℕ → Channels → ℕ → FrameHeader
new_header size coding number = record {
  variable = false;
  block_size = size;
  sample_rate = 0;
  channels = coding;
  sample_size = 0;
  number = number;
}

of-file : (sample_size count size number : ℕ) (coding : Channels) (info : StreamInfo) → channel_count coding ≡ count
    → IsFormat sample_size count info → Ok tt ≡ is_of_file info (new_header size coding number)
of-file sample_size count size number coding info counted format =
    rw (
      eq-eqb (channel_count coding) (non_zero_u8_get info.channels) (counted ∙ sym format.channels),
      eq-eqb (non_zero_u8_get info.bits_per_sample) (non_zero_u8_get info.bits_per_sample) refl,
      eq-eqb info.sample_rate info.sample_rate refl,
    ) refl

pub block-found : (sample_size count size number : ℕ) (coding : Channels) (bytes : List ℕ) (channels : List (List ℤ))
    → channel_count coding ≡ count → IsFoundIn (frame_at sample_size) bytes (new_header size coding number, channels)
    → IsBlock sample_size count bytes channels
block-found sample_size count size number coding bytes channels counted inside =
    let some = (frame-size sample_size (bytes ++ []) (sym (inside []))).0 in (
      some,
      λ info format more.
          let here : frame_at (non_zero_u8_get info.bits_per_sample) (bytes ++ more)
          ≡ Ok ((new_header size coding number, channels), length bytes) =
          ap (λ n. frame_at n (bytes ++ more)) format.bits ∙ inside more in
          let whole : Ok (channels, length bytes) ≡ block_at info (bytes ++ more) =
          after-ok _ (sym here) (after-ok _ (of-file sample_size count size number coding info counted format) refl) in
          sym whole,
    )

-- frames one after another
pub record AreBlocks (sample_size count : ℕ) (bytes : List ℕ) (number : ℕ) (blocks : List (List (List ℤ))) : Type 0 where
  pub found : (info : StreamInfo) → IsFormat sample_size count info → (more : List ℕ) (k : ℕ) (before : List (List (List ℤ)))
      → blocks_at (number + k) info (bytes ++ more) before ≡ blocks_at k info more (before ++ blocks)
  pub long : number ≤ length bytes

module _ (sample_size count : ℕ) where
  pub blocks-none : AreBlocks sample_size count [] 0 []
  blocks-none = record {
    found = λ info format more k before.
        ap (λ n. blocks_at n info more before) (zero-add k) ∙ ap (λ b. blocks_at k info more b) (sym (append-nil before));
    long = omega arith;
  }

  pub blocks-more : (bytes block : List ℕ) (number : ℕ) (blocks : List (List (List ℤ))) (channels : List (List ℤ))
      → AreBlocks sample_size count bytes number blocks → IsBlock sample_size count block channels
      → AreBlocks sample_size count (bytes ++ block) (number + 1) (blocks ++ channels ∷ [])
  blocks-more bytes block number blocks channels before_this this = record {
    found = λ info format more k before.
        let size : length (block ++ more) ≡ length block + length more = length-append block more in
        let some : 0 < length (block ++ more) = let one = this.0 in omega (arith, size, one) in
        let sum : number + 1 + k ≡ number + suc k = omega arith in
        let rest : drop (length block) (block ++ more) ≡ more = drop_at block more (length block) refl in
        ap (λ n. blocks_at n info ((bytes ++ block) ++ more) before) sum
        ∙ ap (λ b. blocks_at (number + suc k) info b before) (append_assoc bytes block more)
        ∙ before_this.found info format (block ++ more) (suc k) before
        ∙ blocks-suc k info (block ++ more) (before ++ blocks) some
        ∙ sym (after-ok (next_blocks k info (block ++ more) (before ++ blocks)) (sym (this.1 info format more)) refl)
        ∙ ap (λ b. blocks_at k info b ((before ++ blocks) ++ channels ∷ [])) rest
        ∙ ap (λ b. blocks_at k info more b) (append_assoc before blocks (channels ∷ []));
    long =
        let size = length-append bytes block in
        let one = this.0 in
        let many = before_this.long in
        omega (arith, size, one, many);
  }

  pub channels-found : (bytes : List ℕ) (number : ℕ) (blocks : List (List (List ℤ))) (channels : List (List ℤ))
      → AreBlocks sample_size count bytes number blocks → channels_of blocks count ≡ channels
      → (info : StreamInfo) → IsFormat sample_size count info → channels_at info bytes ≡ Ok channels
  channels-found bytes number blocks channels are is info format =
      let k = length bytes - number in
      let many = are.long in
      let sum : length bytes ≡ number + k = omega (arith, many) in
      let found : blocks_at (length bytes) info bytes [] ≡ Ok blocks =
      ap (λ n. blocks_at n info bytes []) sum ∙ ap (λ b. blocks_at (number + k) info b []) (sym (append-nil bytes))
      ∙ are.found info format [] k [] ∙ blocks-end k info [] ([] ++ blocks) refl in
      let whole : Ok channels ≡ channels_at info bytes =
      after-ok _ (sym found) (ap Ok (sym is) ∙ ap (λ n. Ok (channels_of blocks n)) (sym format.channels)) in
      sym whole

-- ---- a file that was encoded: its channels

part-size : (start count : ℕ) (xs : List ℤ) → start + count ≤ length xs → length (take count (drop start xs)) ≡ count
part-size start count xs there =
    let rest = length-drop start xs in length-take-le count (drop start xs) (omega (arith, rest, there))

pub parts-whole : (start count : ℕ) (channels : List (Vec ℤ Global)) → All (λ channel. start + count ≤ length channel.items) channels
    → All (λ xs. length xs ≡ count) (map (λ channel. take count (drop start channel.items)) channels)
parts-whole start count channels there =
    All-map (λ xs. length xs ≡ count) (λ (channel : Vec ℤ Global). take count (drop start channel.items)) channels
    (All-weaker (λ (channel : Vec ℤ Global). start + count ≤ length channel.items)
    (λ channel. length (take count (drop start channel.items)) ≡ count) (λ channel long. part-size start count channel.items long)
    channels there)

pub parts-fit : (width start count : ℕ) (channels : List (Vec ℤ Global)) → All (λ channel. All (FitsSignedBits width) channel.items) channels
    → All (All (FitsSignedBits width)) (map (λ channel. take count (drop start channel.items)) channels)
parts-fit width start count channels fit =
    All-map (All (FitsSignedBits width)) (λ (channel : Vec ℤ Global). take count (drop start channel.items)) channels
    (All-weaker (λ (channel : Vec ℤ Global). All (FitsSignedBits width) channel.items)
    (λ channel. All (FitsSignedBits width) (take count (drop start channel.items)))
    (λ channel all. All-take (FitsSignedBits width) count (drop start channel.items)
    (All-drop (FitsSignedBits width) start channel.items all)) channels fit)

drop_nil : {A : Type 0} (n : ℕ) → drop {A = A} n [] ≡ []
drop_nil zero = refl
drop_nil (suc n) = refl

take_nil : {A : Type 0} (n : ℕ) → take {A = A} n [] ≡ []
take_nil zero = refl
take_nil (suc n) = refl

pub take-sum : {A : Type 0} (m n : ℕ) (xs : List A) → take (m + n) xs ≡ take m xs ++ take n (drop m xs)
take-sum zero n xs = ap (λ k. take k xs) (zero-add n)
take-sum (suc m) n [] = take_nil (suc m + n) ∙ sym (take_nil n)
take-sum (suc m) n (x ∷ xs) =
    let next : suc m + n ≡ suc (m + n) = omega arith in
    ap (λ k. take k (x ∷ xs)) next ∙ ap (λ ys. x ∷ ys) (take-sum m n xs)

part-at : (start count c : ℕ) (channels : List (Vec ℤ Global))
    → get_or (map (λ channel. take count (drop start channel.items)) channels) c []
    ≡ take count (drop start (get_or (map (λ channel. channel.items) channels) c []))
part-at start count c [] = sym (ap (take count) (drop_nil start) ∙ take_nil count)
part-at start count zero (channel ∷ channels) = refl
part-at start count (suc c) (channel ∷ channels) = part-at start count c channels

pub pieces-more : (blocks : List (List (List ℤ))) (channels : List (Vec ℤ Global)) (start size c : ℕ)
    → channel_of blocks c ≡ take start (get_or (map (λ channel. channel.items) channels) c [])
    → channel_of (blocks ++ map (λ channel. take size (drop start channel.items)) channels ∷ []) c
    ≡ take (start + size) (get_or (map (λ channel. channel.items) channels) c [])
pieces-more blocks channels start size c before =
    let block = map (λ (channel : Vec ℤ Global). take size (drop start channel.items)) channels in
    let samples = get_or (map (λ (channel : Vec ℤ Global). channel.items) channels) c [] in
    flat_map-append (λ (b : List (List ℤ)). get_or b c []) blocks (block ∷ [])
    ∙ ap (λ xs. channel_of blocks c ++ xs) (append-nil (get_or block c []))
    ∙ ap (λ xs. xs ++ get_or block c []) before
    ∙ ap (λ xs. take start samples ++ xs) (part-at start size c channels)
    ∙ sym (take-sum start size samples)

pub pieces-all : (blocks : List (List (List ℤ))) (channels : List (Vec ℤ Global)) (count : ℕ)
    → All (λ channel. length channel.items ≡ count) channels
    → ((c : ℕ) → channel_of blocks c ≡ take count (get_or (map (λ channel. channel.items) channels) c []))
    → channels_of blocks (length channels) ≡ map (λ channel. channel.items) channels
pieces-all blocks channels count whole each =
    let items = map (λ (channel : Vec ℤ Global). channel.items) channels in
    let size : length items ≡ length channels = length-map channels (λ (channel : Vec ℤ Global). channel.items) in
    channels-are blocks items (length channels) (omega (arith, size)) (λ c less.
    let all : length (get_or items c []) ≡ count =
    All-get_or (λ xs. length xs ≡ count) items c [] (omega (arith, size, less))
    (All-map (λ xs. length xs ≡ count) (λ (channel : Vec ℤ Global). channel.items) channels whole) in
    each c ∙ take_all count (get_or items c []) (omega (arith, all)))
    ∙ take_all (length channels) items (omega (arith, size))

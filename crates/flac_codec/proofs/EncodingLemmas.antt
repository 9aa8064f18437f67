-- A file that is encoded frame by frame: its start, its frames, and what a writer holds.
use Rattle.std.proofs.Common.{arith, inl, inr, ◌≡◌, ◌∙◌, ◌++◌, ◌+◌, ◌-◌, ◌*◌, ◌%◌, ◌≤◌, ◌==◌, ℕ, ℤ, if◌then◌else◌, true, false, Bool, List, [], ◌∷◌, None, Some, Ok, length, take, drop, refl, sym, ap, subst, append-nil, append_assoc, length-append, length-drop}
use Rattle.std.specs.Prelude.{nat_le}
use Rattle.std.specs.Int.NonZero.{non_zero_u8_get}
use Rattle.std.specs.Io.KnownBytes.{Appends, Keeps}
use Rattle.std.specs.declared.option.Option.{Option}
use Rattle.std.proofs.lemmas.Bool.{eq-eqb, le-ltb}
use Rattle.std.proofs.lemmas.List.{drop_at, take_all}
use Rattle.flac_codec.specs.Channels.{channel_count}
use Rattle.flac_codec.specs.Encoding.{EndsMetadata, IsFrameOf, IsLike, IsStartOf, IsZeroOr}
use Rattle.flac_codec.specs.File.{checked_frame_at, is_of_file, metadata_at, metadata_end, metadata_head, metadata_size, rate_of}
use Rattle.flac_codec.specs.Frame.{frame_at, width_of, IsFoundIn}
use Rattle.flac_codec.specs.Start.{frames_left, start_at}
use Rattle.flac_codec.specs.Written.{IsMetadata}
use Rattle.flac_codec.specs.declared.header.FrameHeader.{FrameHeader}
use Rattle.flac_codec.specs.declared.metadata.Metadata.{Metadata}
use Rattle.flac_codec.specs.declared.stream_info.StreamInfo.{StreamInfo}
use Rattle.flac_codec.proofs.FileLemmas.{metadata-end, metadata-next, same_either, take-sum}
use Rattle.flac_codec.proofs.FoundLemmas.{after-ok, rest-all}

-- ---- metadata

abbrev head_of : Bool → ℕ → ℕ → Metadata
head_of last kind size = record { last = last; kind = kind; size = size }

-- a header of a block is read as it was written
pub head-back : (block : Metadata) (a b c d : ℕ) (more : List ℕ) → nat_le 128 a ≡ block.last → a % 128 ≡ block.kind
    → 4 + 65536 * b + 256 * c + d ≡ block.size → metadata_head ((a ∷ b ∷ c ∷ d ∷ []) ++ more) ≡ block
head-back block a b c d more last kind size =
    ap (λ l. head_of l (a % 128) (4 + 65536 * b + 256 * c + d)) last
    ∙ ap (λ k. head_of block.last k (4 + 65536 * b + 256 * c + d)) kind
    ∙ ap (λ n. head_of block.last block.kind n) size

pub none-ends : EndsMetadata true []
none-ends = λ n more within. sym (metadata-end n more)

-- a block before others
pub block-ends : (head body rest : List ℕ) (block : Metadata) → ((more : List ℕ) → metadata_head (head ++ more) ≡ block)
    → length head ≡ 4 → block.size ≡ 4 + length body → EndsMetadata block.last rest → EndsMetadata false ((head ++ body) ++ rest)
block-ends head body rest block back four long ends = λ n more within.
    let all = ((head ++ body) ++ rest) ++ more in
    let parts : all ≡ (head ++ body) ++ (rest ++ more) = append_assoc (head ++ body) rest more in
    let here : metadata_head all ≡ block =
    ap metadata_head (parts ∙ append_assoc head body (rest ++ more)) ∙ back (body ++ (rest ++ more)) in
    let size : metadata_size all ≡ block.size = ap (λ (m : Metadata). m.size) here in
    let first : length (head ++ body) ≡ 4 + length body = let sum = length-append head body in omega (arith, sum, four) in
    let enough : block.size ≤ length all =
    let sum = ap length parts ∙ length-append (head ++ body) (rest ++ more) in omega (arith, sum, first, long) in
    let found : Ok block ≡ metadata_at all =
    ap Ok (sym here) ∙ rw (le-ltb (length all) (metadata_size all) (omega (arith, enough, size))) refl in
    let next = metadata-next n all within (omega (arith, long)) enough found in
    let left : drop block.size all ≡ rest ++ more =
    ap (drop block.size) parts ∙ drop_at (head ++ body) (rest ++ more) block.size (first ∙ sym long) in
    next.2 ∙ ap (metadata_end next.0 block.last) left
    ∙ ends next.0 more (let count = ap length left in let few = next.1 in omega (arith, count, few))

pub start-found : (info : StreamInfo) (last : Bool) (first rest : List ℕ) → IsMetadata info last first
    → EndsMetadata last rest → IsStartOf info (first ++ rest)
start-found info last first rest metadata ends = λ more.
    let left : drop 42 (first ++ (rest ++ more)) ≡ rest ++ more = drop_at first (rest ++ more) 42 metadata.0 in
    let end : Ok more ≡ frames_left last (drop 42 (first ++ (rest ++ more))) =
    rw left (sym (ends (length (rest ++ more)) more (omega arith))) in
    let whole : Ok (info, more) ≡ start_at (first ++ (rest ++ more)) =
    after-ok _ (sym (metadata.1 (rest ++ more))) (after-ok _ end refl) in
    ap start_at (append_assoc first rest more) ∙ sym whole

-- ---- frames

pub stated-as : (number stated : ℕ) → IsZeroOr number stated → (if stated == 0 then number else stated) ≡ number
stated-as number stated (inl none) = rw (eq-eqb stated 0 none) refl
stated-as number stated (inr same) =
    subst (λ s. (if s == 0 then number else s) ≡ number) (sym same) (same_either (number == 0) number)

of-like : (info other : StreamInfo) (header : FrameHeader) → IsLike info other
    → channel_count header.channels ≡ non_zero_u8_get info.channels
    → rate_of info.sample_rate header ≡ info.sample_rate
    → width_of (non_zero_u8_get info.bits_per_sample) header ≡ non_zero_u8_get info.bits_per_sample
    → Ok tt ≡ is_of_file other header
of-like info other header like counted rate width =
    let same_rate : rate_of other.sample_rate header ≡ other.sample_rate =
    subst (λ n. rate_of n header ≡ n) (sym like.rate) rate in
    let same_width : width_of (non_zero_u8_get other.bits_per_sample) header ≡ non_zero_u8_get other.bits_per_sample =
    subst (λ n. width_of n header ≡ n) (sym like.bits) width in
    rw (
      eq-eqb (channel_count header.channels) (non_zero_u8_get other.channels) (counted ∙ sym like.channels),
      eq-eqb (width_of (non_zero_u8_get other.bits_per_sample) header) (non_zero_u8_get other.bits_per_sample) same_width,
      eq-eqb (rate_of other.sample_rate header) other.sample_rate same_rate,
    ) refl

pub frame-like : (info : StreamInfo) (header : FrameHeader) (number : ℕ) (bytes : List ℕ) (channels : List (List ℤ))
    → header.number ≡ number → channel_count header.channels ≡ non_zero_u8_get info.channels
    → rate_of info.sample_rate header ≡ info.sample_rate
    → width_of (non_zero_u8_get info.bits_per_sample) header ≡ non_zero_u8_get info.bits_per_sample
    → IsFoundIn (frame_at (non_zero_u8_get info.bits_per_sample)) bytes (header, channels) → IsFrameOf info number bytes channels
frame-like info header number bytes channels named counted rate width inside = (
  header,
  named,
  λ other like more.
      let here : frame_at (non_zero_u8_get other.bits_per_sample) (bytes ++ more) ≡ Ok ((header, channels), length bytes) =
      ap (λ n. frame_at n (bytes ++ more)) like.bits ∙ inside more in
      let whole : Ok ((header, channels), length bytes) ≡ checked_frame_at other (bytes ++ more) =
      after-ok _ (sym here) (after-ok _ (of-like info other header like counted rate width) refl) in
      sym whole,
)

-- ---- what a writer holds

pub appends-none : (a : Option (List ℕ)) (bytes : List ℕ) → Appends a a (take 0 bytes)
appends-none None bytes = tt
appends-none (Some xs) bytes = sym (append-nil xs)

pub appends-more : (a b c : Option (List ℕ)) (bytes : List ℕ) (k n : ℕ) → Appends a b (take k bytes)
    → Appends b c (take n (drop k bytes)) → Appends a c (take (k + n) bytes)
appends-more None b c bytes k n one two = tt
appends-more (Some xs) None c bytes k n one two = absurd one
appends-more (Some xs) (Some ys) None bytes k n one two = absurd two
appends-more (Some xs) (Some ys) (Some zs) bytes k n one two =
    two ∙ ap (λ l. l ++ take n (drop k bytes)) one ∙ append_assoc xs (take k bytes) (take n (drop k bytes))
    ∙ ap (λ l. xs ++ l) (sym (take-sum k n bytes))

pub appends-kept : (a b c : Option (List ℕ)) (bytes : List ℕ) → Appends a b bytes → Keeps b c → Appends a c bytes
appends-kept None b c bytes one kept = tt
appends-kept (Some xs) None c bytes one kept = absurd one
appends-kept (Some xs) (Some ys) None bytes one kept = absurd kept
appends-kept (Some xs) (Some ys) (Some zs) bytes one kept = kept ∙ one

pub appends-all : (a b : Option (List ℕ)) (bytes : List ℕ) (k : ℕ) → length bytes ≤ k → Appends a b (take k bytes)
    → Appends a b bytes
appends-all a b bytes k all one = subst (Appends a b) (take_all k bytes all) one

-- a request that wrote n bytes after the first k
pub wrote-more : (a b c : Option (List ℕ)) (bytes : List ℕ) (k n m : ℕ) → k ≤ length bytes → Appends a b (take k bytes)
    → n ≤ length (take (length bytes - k) (drop k bytes)) → Appends b c (take n (take (length bytes - k) (drop k bytes)))
    → m ≡ k + n → (m ≤ length bytes) × Appends a c (take m bytes)
wrote-more a b c bytes k n m within one few two is =
    let rest = rest-all bytes k in
    let size = ap length rest in
    let left = length-drop k bytes in (
      omega (arith, within, few, size, left, is),
      subst (λ i. Appends a c (take i bytes)) (sym is)
          (appends-more a b c bytes k n one (subst (λ xs. Appends b c (take n xs)) rest two)),
    )

-- a request that wrote none
pub wrote-none : (a b c : Option (List ℕ)) (bytes : List ℕ) (k m : ℕ) → k ≤ length bytes → Appends a b (take k bytes)
    → Keeps b c → m ≡ k → (m ≤ length bytes) × Appends a c (take m bytes)
wrote-none a b c bytes k m within one kept is =
    (omega (arith, within, is), subst (λ i. Appends a c (take i bytes)) (sym is) (appends-kept a b c (take k bytes) one kept))

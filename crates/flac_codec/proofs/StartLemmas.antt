-- The start of a file of a reader: bytes that were fetched, and those that follow them.
use Rattle.std.proofs.Common.{arith, inl, inr, ◌≡◌, ◌∙◌, ◌++◌, ◌+◌, ◌-◌, ◌<◌, ◌≤◌, ◌==◌, ℕ, true, false, Bool, List, [], None, Some, IfSome, Result, Ok, Err, length, take, drop, refl, sym, ap, subst, get_or, length-append, length-drop}
use Rattle.std.specs.Prelude.{if◌then◌else◌, nat_lt}
use Rattle.std.specs.Io.KnownBytes.{prepend_known, IsAtEnd, Keeps}
use Rattle.std.specs.declared.option.Option.{Option}
use Rattle.std.proofs.Math.ListN.{get_or-append as get_or-before}
use Rattle.std.proofs.lemmas.Bool.{and_parts, cases_lt, eqb-true, le-ltb, lt-ltb}
use Rattle.std.proofs.lemmas.List.{drop-append-le, drop-drop, take-append-le}
use Rattle.bitstream_io.specs.Callers.{bits, sure_answer, EndOfInput, High}
use Rattle.flac_codec.specs.File.{as_flac, bytes_there, file_at, frames_at, has_marker, info_at, is_stream_info, metadata_at, metadata_end, metadata_head, metadata_size, stream_info_in}
use Rattle.flac_codec.specs.Frame.{after}
use Rattle.flac_codec.specs.Outside.{IsUnlessFailure}
use Rattle.flac_codec.specs.Start.{frames_left, marker_at, start_at, with_left}
use Rattle.flac_codec.specs.StreamInfo.{stream_info_decoder}
use Rattle.flac_codec.specs.declared.error.FlacError.{FlacError}
use Rattle.flac_codec.specs.declared.error.FlacError.TheVariants.{NoFlac, NoStreamInfo, Reader}
use Rattle.flac_codec.specs.declared.metadata.Metadata.{Metadata}
use Rattle.flac_codec.specs.declared.stream_info.StreamInfo.{StreamInfo}
use Rattle.flac_codec.proofs.FileLemmas.{metadata-end, metadata-next, metadata-stop, same-value}
use Rattle.flac_codec.proofs.FoundLemmas.{after-err, after-ok, not-refused, refused-as}

-- ---- bytes that are known

-- what holds of the bytes left after they were kept
pub from-kept : (old new : Option (List ℕ)) (P : List ℕ → Type 0) → Keeps old new → IfSome new P → IfSome old P
from-kept None new P kept is = tt
from-kept (Some xs) None P kept is = absurd kept
from-kept (Some xs) (Some ys) P kept is = subst P kept is

-- what holds of the bytes that were fetched and those after them
pub with-fetched : (fetched : List ℕ) (rest : Option (List ℕ)) (P : List ℕ → Type 0)
    → ((xs : List ℕ) → rest ≡ Some xs → P (fetched ++ xs)) → IfSome (prepend_known fetched rest) P
with-fetched fetched None P is = tt
with-fetched fetched (Some xs) P is = is xs refl

pub end-known : {rest : Option (List ℕ)} {xs : List ℕ} → rest ≡ Some xs → IsAtEnd rest → xs ≡ []
end-known {xs = xs} is end = subst IsAtEnd is end

-- ---- parts of bytes that were fetched

module _ (fetched rest : List ℕ) where
  byte-further : (n : ℕ) → n < length fetched → get_or (fetched ++ rest) n 0 ≡ get_or fetched n 0
  byte-further n less = get_or-before fetched rest 0 n less

  pub marker-further : 4 ≤ length fetched → has_marker (fetched ++ rest) ≡ has_marker fetched
  marker-further enough =
      let size = length-append fetched rest in
      let inner : nat_lt (length fetched) 4 ≡ false = le-ltb _ _ enough in
      let outer : nat_lt (length (fetched ++ rest)) 4 ≡ false = le-ltb _ _ (omega (arith, size)) in
      rw (
        inner,
        outer,
        byte-further 0 (omega arith),
        byte-further 1 (omega arith),
        byte-further 2 (omega arith),
        byte-further 3 (omega arith),
      ) refl

  pub head-further : 4 ≤ length fetched → metadata_head (fetched ++ rest) ≡ metadata_head fetched
  head-further enough =
      rw (
        byte-further 0 (omega arith),
        byte-further 1 (omega arith),
        byte-further 2 (omega arith),
        byte-further 3 (omega arith),
      ) refl

  pub info-further : 38 ≤ length fetched → stream_info_in (fetched ++ rest) ≡ stream_info_in fetched
  info-further enough =
      let size = length-drop 4 fetched in
      let same : take 34 (drop 4 (fetched ++ rest)) ≡ take 34 (drop 4 fetched) =
      ap (take 34) (drop-append-le 4 fetched rest (omega arith)) ∙ take-append-le 34 (drop 4 fetched) rest (omega (arith, size)) in
      ap (λ xs. as_flac (sure_answer ((stream_info_decoder High).reads 0 (bits High xs)))) same

-- ---- a block of metadata that is skipped

pub few-bytes : (bytes : List ℕ) → length bytes < 4 → Err (Reader EndOfInput) ≡ metadata_at bytes
few-bytes bytes few = rw (lt-ltb (length bytes) (metadata_size bytes) (omega arith)) refl

pub too-few : (n : ℕ) (bytes : List ℕ) → length bytes < n → Err (Reader EndOfInput) ≡ bytes_there n bytes
too-few n bytes few = rw (lt-ltb (length bytes) n few) refl

pub enough-bytes : (n : ℕ) (bytes : List ℕ) → n ≤ length bytes → Ok tt ≡ bytes_there n bytes
enough-bytes n bytes enough = rw (le-ltb (length bytes) n enough) refl

pub skip-ok : (bytes : List ℕ) {u : Unit {0}} → Ok u ≡ bytes_there (metadata_size bytes) bytes
    → Ok (metadata_head bytes) ≡ metadata_at bytes
skip-ok bytes is = elim (cases_lt (length bytes) (metadata_size bytes)) [
  | inl few ↦ absurd (not-refused (is ∙ sym (too-few (metadata_size bytes) bytes few)))
  | inr enough ↦ rw (le-ltb (length bytes) (metadata_size bytes) enough) refl
]

pub skip-err : (bytes : List ℕ) {x : FlacError} → Err x ≡ bytes_there (metadata_size bytes) bytes → Err x ≡ metadata_at bytes
skip-err bytes is = elim (cases_lt (length bytes) (metadata_size bytes)) [
  | inl few ↦
      let refused : metadata_at bytes ≡ Err (Reader EndOfInput) = rw (lt-ltb (length bytes) (metadata_size bytes) few) refl in
      ap Err (refused-as (is ∙ sym (too-few (metadata_size bytes) bytes few)) refl) ∙ sym refused
  | inr enough ↦ absurd (not-refused (enough-bytes (metadata_size bytes) bytes enough ∙ sym is))
]

-- a block has its header, and lies within the bytes
pub block-within : (bytes : List ℕ) {block : Metadata} → Ok block ≡ metadata_at bytes → (4 ≤ block.size) × (block.size ≤ length bytes)
block-within bytes {block = block} is = elim (cases_lt (length bytes) (metadata_size bytes)) [
  | inl few ↦
      let refused : metadata_at bytes ≡ Err (Reader EndOfInput) = rw (lt-ltb (length bytes) (metadata_size bytes) few) refl in
      absurd (not-refused (is ∙ refused))
  | inr enough ↦
      let same : Ok block ≡ Ok (metadata_head bytes) = is ∙ rw (le-ltb (length bytes) (metadata_size bytes) enough) refl in
      let size : block.size ≡ metadata_size bytes = cc in
      (omega (arith, size), omega (arith, size, enough))
]

-- ---- STREAMINFO that is looked at

abbrev info_found : StreamInfo → List ℕ → Type 0
info_found info bytes = 38 ≤ length bytes → IsUnlessFailure (stream_info_in bytes) (Ok info)

pub peek-found : (old : Option (List ℕ)) (fetched : List ℕ) (rest : Option (List ℕ)) (info : StreamInfo)
    → Keeps old (prepend_known fetched rest) → 38 ≤ length fetched → Ok info ≡ stream_info_in fetched
    → IfSome old (λ bytes. 38 ≤ length bytes → IsUnlessFailure (stream_info_in bytes) (Ok info))
peek-found old fetched rest info kept enough found =
    from-kept old (prepend_known fetched rest) (info_found info) kept
    (with-fetched fetched rest (info_found info) (λ xs is more. inl (found ∙ sym (info-further fetched xs enough))))

-- ---- the marker and STREAMINFO that are taken

-- what is found after the marker
abbrev behind_marker : Bool → Result (StreamInfo × Bool) FlacError → Result (StreamInfo × Bool) FlacError
behind_marker there found = if there then found else Err NoFlac

abbrev marker_is : Bool → Result (Unit {0}) FlacError
marker_is there = if there then Ok tt else Err NoFlac

abbrev info_of : List ℕ → Metadata → Result (StreamInfo × Bool) FlacError
info_of xs block =
    if is_stream_info block then after (stream_info_in xs) (λ info. Ok (info, block.last)) else Err NoStreamInfo

abbrev first_info : List ℕ → Result (StreamInfo × Bool) FlacError
first_info xs = after (metadata_at xs) (info_of xs)

marker_stops : (there : Bool) (found : Result (StreamInfo × Bool) FlacError) {x : FlacError} → Err x ≡ marker_is there
    → Err x ≡ behind_marker there found
marker_stops true found is = absurd (not-refused (sym is))
marker_stops false found is = ap Err (refused-as is refl)

marker_goes : (there : Bool) (found : Result (StreamInfo × Bool) FlacError) {u : Unit {0}} {x : FlacError}
    → Ok u ≡ marker_is there → Err x ≡ found → Err x ≡ behind_marker there found
marker_goes true found there is = is
marker_goes false found there is = absurd (not-refused there)

pub start-no_marker : (old : Option (List ℕ)) (x : FlacError)
    → IfSome old (λ bytes. IsUnlessFailure {A = Unit {0}} (marker_at bytes) (Err x))
    → IfSome old (λ bytes. IsUnlessFailure {A = StreamInfo × Bool} (info_at bytes) (Err x))
start-no_marker None x meant = tt
start-no_marker (Some bytes) x meant =
    let found : IsUnlessFailure {A = Unit {0}} (marker_at bytes) (Err x) = meant in
    elim found [
      | inl same ↦ inl (marker_stops (has_marker bytes) (first_info (drop 4 bytes)) same)
      | inr failed ↦ inr failed
    ]

pub start-no_block : (old now new : Option (List ℕ)) (u : Unit {0}) (x : FlacError)
    → IfSome old (λ bytes. IsUnlessFailure {A = Unit {0}} (marker_at bytes) (Ok u))
    → IfSome old (λ bytes. now ≡ Some (drop 4 bytes)) → Keeps now new
    → IfSome new (λ xs. IsUnlessFailure {A = Metadata} (metadata_at xs) (Err x))
    → IfSome old (λ bytes. IsUnlessFailure {A = StreamInfo × Bool} (info_at bytes) (Err x))
start-no_block None now new u x marker left kept meant = tt
start-no_block (Some bytes) now new u x marker left kept meant =
    let P : List ℕ → Type 0 = λ xs. IsUnlessFailure {A = Metadata} (metadata_at xs) (Err x) in
    let there : IsUnlessFailure {A = Unit {0}} (marker_at bytes) (Ok u) = marker in
    let found : IsUnlessFailure {A = Metadata} (metadata_at (drop 4 bytes)) (Err x) =
    subst (λ (o : Option (List ℕ)). IfSome o P) left (from-kept now new P kept meant) in
    elim there [
      | inl marked ↦ elim found [
        | inl same ↦
            let stop : Err x ≡ first_info (drop 4 bytes) = after-err (info_of (drop 4 bytes)) same in
            inl (marker_goes (has_marker bytes) (first_info (drop 4 bytes)) marked stop)
        | inr failed ↦ inr failed
      ]
      | inr failed ↦ absurd failed
    ]

info_stops : (xs : List ℕ) (block : Metadata) {x : FlacError} → is_stream_info block ≡ true → Err x ≡ stream_info_in xs
    → Err x ≡ info_of xs block
info_stops xs block is same = rw is (after-err (λ (info : StreamInfo). Ok (info, block.last)) same)

pub start-no_info : (old now new : Option (List ℕ)) (u : Unit {0}) (block : Metadata) (x : FlacError)
    → IfSome old (λ bytes. IsUnlessFailure {A = Unit {0}} (marker_at bytes) (Ok u))
    → IfSome old (λ bytes. now ≡ Some (drop 4 bytes)) → Keeps now new
    → IfSome new (λ xs. IsUnlessFailure {A = Metadata} (metadata_at xs) (Ok block)) → is_stream_info block ≡ true
    → IfSome now (λ xs. 38 ≤ length xs → IsUnlessFailure {A = StreamInfo} (stream_info_in xs) (Err x))
    → IfSome old (λ bytes. IsUnlessFailure {A = StreamInfo × Bool} (info_at bytes) (Err x))
start-no_info None now new u block x marker left kept meant kind info = tt
start-no_info (Some bytes) now new u block x marker left kept meant kind info =
    let P : List ℕ → Type 0 = λ xs. IsUnlessFailure {A = Metadata} (metadata_at xs) (Ok block) in
    let Q : List ℕ → Type 0 = λ xs. 38 ≤ length xs → IsUnlessFailure {A = StreamInfo} (stream_info_in xs) (Err x) in
    let xs : List ℕ = drop 4 bytes in
    let there : IsUnlessFailure {A = Unit {0}} (marker_at bytes) (Ok u) = marker in
    let found : IsUnlessFailure {A = Metadata} (metadata_at xs) (Ok block) =
    subst (λ (o : Option (List ℕ)). IfSome o P) left (from-kept now new P kept meant) in
    let stops : 38 ≤ length xs → IsUnlessFailure {A = StreamInfo} (stream_info_in xs) (Err x) =
    subst (λ (o : Option (List ℕ)). IfSome o Q) left info in
    elim there [
      | inl marked ↦ elim found [
        | inl same ↦
            let parts = and_parts (block.kind == 0) (block.size == 38) kind in
            let size = eqb-true block.size 38 parts.1 in
            let within = block-within xs same in
            elim (stops (omega (arith, size, within.1))) [
              | inl error ↦
                  let stop : Err x ≡ first_info xs = after-ok (info_of xs) same (info_stops xs block kind error) in
                  inl (marker_goes (has_marker bytes) (first_info xs) marked stop)
              | inr failed ↦ inr failed
            ]
        | inr failed ↦ absurd failed
      ]
      | inr failed ↦ absurd failed
    ]

-- ---- bytes that are skipped, a piece at a time

abbrev pub Skips : ℕ → Option (List ℕ) → List ℕ → Type 0
Skips n now bytes = (now ≡ Some (drop n bytes)) × (n ≤ length bytes)

pub skips-none : (n : ℕ) (old : Option (List ℕ)) → IfSome old (Skips (n - n) old)
skips-none n None = tt
skips-none n (Some bytes) =
    let none : n - n ≡ 0 = omega arith in
    rw none (refl, omega arith)

pub skips-more : (old now : Option (List ℕ)) (fetched : List ℕ) (rest : Option (List ℕ)) (n size : ℕ) → IfSome old (Skips n now)
    → Keeps now (prepend_known fetched rest) → size ≤ length fetched
    → IfSome old (Skips (n + size) (prepend_known (drop size fetched) rest))
skips-more None now fetched rest n size is kept within = tt
skips-more (Some bytes) now fetched None n size is kept within =
    absurd (subst (λ (o : Option (List ℕ)). Keeps o None) is.0 kept)
skips-more (Some bytes) now fetched (Some xs) n size is kept within =
    let same : fetched ++ xs ≡ drop n bytes = subst (λ (o : Option (List ℕ)). Keeps o (Some (fetched ++ xs))) is.0 kept in
    let whole = length-append fetched xs in
    let less = length-drop n bytes in
    let sizes : length (fetched ++ xs) ≡ length (drop n bytes) = ap length same in
    let next : drop size fetched ++ xs ≡ drop (n + size) bytes =
    sym (drop-append-le size fetched xs within) ∙ ap (drop size) same ∙ drop-drop size n bytes in
    (ap Some next, let few = is.1 in omega (arith, whole, less, sizes, within, few))

-- the same, for bytes that are seen in another way
pub skips-after : (old now new : Option (List ℕ)) (fetched : List ℕ) (rest : Option (List ℕ)) (n size m : ℕ)
    → IfSome old (Skips n now) → Keeps now (prepend_known fetched rest) → size ≤ length fetched
    → new ≡ prepend_known (drop size fetched) rest → m ≡ n + size → IfSome old (Skips m new)
skips-after old now new fetched rest n size m is kept within left count =
    subst (λ (o : Option (List ℕ)). IfSome old (Skips m o)) (sym left)
    (subst (λ (k : ℕ). IfSome old (Skips k (prepend_known (drop size fetched) rest))) (sym count)
    (skips-more old now fetched rest n size is kept within))

pub skips-end : (old now : Option (List ℕ)) (fetched : List ℕ) (rest : Option (List ℕ)) (n count : ℕ) → IfSome old (Skips n now)
    → Keeps now (prepend_known fetched rest) → length fetched < 1 → IsAtEnd rest → n < count
    → IfSome old (λ bytes. IsUnlessFailure (bytes_there count bytes) (Err (Reader EndOfInput)))
skips-end None now fetched rest n count is kept none end less = tt
skips-end (Some bytes) now fetched None n count is kept none end less =
    absurd (subst (λ (o : Option (List ℕ)). Keeps o None) is.0 kept)
skips-end (Some bytes) now fetched (Some xs) n count is kept none end less =
    let same : fetched ++ xs ≡ drop n bytes = subst (λ (o : Option (List ℕ)). Keeps o (Some (fetched ++ xs))) is.0 kept in
    let whole = length-append fetched xs in
    let fewer = length-drop n bytes in
    let sizes : length (fetched ++ xs) ≡ length (drop n bytes) = ap length same in
    let ends : length xs ≡ 0 = ap length end in
    inl (too-few count bytes (omega (arith, whole, fewer, sizes, none, ends, less)))

pub skips-done : (old now : Option (List ℕ)) (n : ℕ) → IfSome old (Skips n now)
    → IfSome old (λ bytes. IsUnlessFailure (bytes_there n bytes) (Ok tt))
skips-done None now n is = tt
skips-done (Some bytes) now n is = inl (enough-bytes n bytes is.1)

pub skips-left : (old now : Option (List ℕ)) (n : ℕ) → IfSome old (Skips n now) → IfSome old (λ bytes. now ≡ Some (drop n bytes))
skips-left None now n is = tt
skips-left (Some bytes) now n is = is.0

-- ---- blocks of metadata that are skipped

abbrev pub BlocksLeft : Bool → Bool → Option (List ℕ) → List ℕ → Type 0
BlocksLeft done last now bytes =
    (n : ℕ) × (xs : List ℕ) × (now ≡ Some xs) × (length xs ≤ n) × (frames_left done bytes ≡ metadata_end n last xs)

pub left-first : (old : Option (List ℕ)) (done : Bool) → IfSome old (BlocksLeft done done old)
left-first None done = tt
left-first (Some bytes) done = (length bytes, bytes, refl, omega arith, refl)

pub left-next : (old now new : Option (List ℕ)) (done last : Bool) (block : Metadata) → last ≡ false
    → IfSome old (BlocksLeft done last now) → IfSome now (λ bytes. IsUnlessFailure (metadata_at bytes) (Ok block))
    → IfSome now (λ bytes. new ≡ Some (drop block.size bytes)) → IfSome old (BlocksLeft done block.last new)
left-next None now new done last block more is meant left = tt
left-next (Some bytes) now new done last block more is meant left =
    let xs = is.1 in
    let found : IsUnlessFailure (metadata_at xs) (Ok block) =
    subst (λ (o : Option (List ℕ)). IfSome o (λ ys. IsUnlessFailure (metadata_at ys) (Ok block))) is.2 meant in
    let rest : new ≡ Some (drop block.size xs) =
    subst (λ (o : Option (List ℕ)). IfSome o (λ ys. new ≡ Some (drop block.size ys))) is.2 left in
    elim found [
      | inl same ↦
          let within = block-within xs same in
          let next = metadata-next is.0 xs is.3 within.0 within.1 same in
          (next.0, drop block.size xs, rest, next.1, is.4 ∙ ap (λ b. metadata_end is.0 b xs) more ∙ next.2)
      | inr failed ↦ absurd failed
    ]

pub left-stop : (old now : Option (List ℕ)) (done last : Bool) (x : FlacError) → last ≡ false
    → IfSome old (BlocksLeft done last now) → IfSome now (λ bytes. IsUnlessFailure (metadata_at bytes) (Err x))
    → IfSome old (λ bytes. IsUnlessFailure {A = Option (List ℕ)} (after (frames_left done bytes) (λ frames. Ok (Some frames))) (Err x))
left-stop None now done last x more is meant = tt
left-stop (Some bytes) now done last x more is meant =
    let xs = is.1 in
    let found : IsUnlessFailure (metadata_at xs) (Err x) =
    subst (λ (o : Option (List ℕ)). IfSome o (λ ys. IsUnlessFailure (metadata_at ys) (Err x))) is.2 meant in
    elim found [
      | inl same ↦ inl (after-err _ (metadata-stop is.0 xs is.3 same ∙ sym (is.4 ∙ ap (λ b. metadata_end is.0 b xs) more)))
      | inr failed ↦ inr failed
    ]

pub left-end : (old now : Option (List ℕ)) (done last : Bool) → last ≡ true → IfSome old (BlocksLeft done last now)
    → IfSome old (λ bytes. IsUnlessFailure (after (frames_left done bytes) (λ frames. Ok (Some frames))) (Ok now))
left-end None now done last all is = tt
left-end (Some bytes) now done last all is =
    let whole : Ok is.1 ≡ frames_left done bytes =
    metadata-end is.0 is.1 ∙ sym (is.4 ∙ ap (λ b. metadata_end is.0 b is.1) all) in
    inl (after-ok _ whole (ap Ok is.2))

-- ---- a file, from its start

abbrev behind : {A : Type 0} → (StreamInfo → List ℕ → Result A FlacError) → StreamInfo → Result (List ℕ) FlacError
    → Result A FlacError
behind finds info found = after found (λ frames. finds info frames)

abbrev with_start : StreamInfo → List ℕ → Result (StreamInfo × List ℕ) FlacError
with_start info frames = Ok (info, frames)

pub start-behind : (old now : Option (List ℕ)) (info : StreamInfo) (done : Bool) (r : Result (StreamInfo × Option (List ℕ)) FlacError)
    → IfSome old (λ bytes. IsUnlessFailure {A = StreamInfo × Bool} (info_at bytes) (Ok (info, done)))
    → IfSome old (λ bytes. now ≡ Some (drop 42 bytes))
    → IfSome now (λ xs. IsUnlessFailure (with_left (after (frames_left done xs) (λ frames. Ok (info, frames)))) r)
    → IfSome old (λ bytes. IsUnlessFailure (with_left (start_at bytes)) r)
start-behind None now info done r meant left frames = tt
start-behind (Some bytes) now info done r meant left frames =
    let P : List ℕ → Type 0 = λ xs. IsUnlessFailure (with_left (behind with_start info (frames_left done xs))) r in
    let found : IsUnlessFailure {A = StreamInfo × Bool} (info_at bytes) (Ok (info, done)) = meant in
    let here : IsUnlessFailure (with_left (behind with_start info (frames_left done (drop 42 bytes)))) r =
    subst (λ (o : Option (List ℕ)). IfSome o P) left frames in
    elim found [
      | inl same ↦
          let whole : behind with_start info (frames_left done (drop 42 bytes)) ≡ start_at bytes = after-ok _ same refl in
          elim here [
            | inl is ↦ inl (is ∙ ap with_left whole)
            | inr failed ↦ inr failed
          ]
      | inr failed ↦ absurd failed
    ]

stops_behind : (info : StreamInfo) (found : Result (List ℕ) FlacError) {x : FlacError} → Err x ≡ behind with_start info found
    → Err x ≡ behind frames_at info found
stops_behind info (Err y) is = ap Err (refused-as is refl)
stops_behind info (Ok frames) is = absurd (not-refused (sym is))

goes_behind : (info : StreamInfo) (found : Result (List ℕ) FlacError) {value : StreamInfo × List ℕ}
    → Ok value ≡ behind with_start info found → behind frames_at info found ≡ frames_at value.0 value.1
goes_behind info (Err y) is = absurd (not-refused is)
goes_behind info (Ok frames) is = let same = same-value is in sym (ap (λ (v : StreamInfo × List ℕ). frames_at v.0 v.1) same)

start_stops : (start : Result (StreamInfo × Bool) FlacError) (rest : List ℕ) {x : FlacError}
    → Err x ≡ after start (λ (info, last). behind with_start info (frames_left last rest))
    → Err x ≡ after start (λ (info, last). behind frames_at info (frames_left last rest))
start_stops (Err y) rest is = ap Err (refused-as is refl)
start_stops (Ok (info, last)) rest is = stops_behind info (frames_left last rest) is

start_goes : (start : Result (StreamInfo × Bool) FlacError) (rest : List ℕ) {value : StreamInfo × List ℕ}
    → Ok value ≡ after start (λ (info, last). behind with_start info (frames_left last rest))
    → after start (λ (info, last). behind frames_at info (frames_left last rest)) ≡ frames_at value.0 value.1
start_goes (Err y) rest is = absurd (not-refused is)
start_goes (Ok (info, last)) rest is = goes_behind info (frames_left last rest) is

pub file-stops : (bytes : List ℕ) {x : FlacError} → Err x ≡ start_at bytes → Err x ≡ file_at bytes
file-stops bytes is = start_stops (info_at bytes) (drop 42 bytes) is

pub file-goes : (bytes : List ℕ) {value : StreamInfo × List ℕ} → Ok value ≡ start_at bytes
    → file_at bytes ≡ frames_at value.0 value.1
file-goes bytes is = start_goes (info_at bytes) (drop 42 bytes) is

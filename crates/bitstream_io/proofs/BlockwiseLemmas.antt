-- What a request does to the bytes that are known, where some of them are held.
use Rattle.std.proofs.Common.{◌≡◌, ℕ, ◌+◌, ◌≤◌, List, [], ◌++◌, length, take, drop, Option, Result, Ok, Err, OnOk, sym, ap, ◌∙◌, subst, arith, append-nil, length-append}
use Rattle.std.specs.Prelude.{IfErr}
use Rattle.std.specs.Io.KnownBytes.{Appends, Keeps, append_known}
use Rattle.std.specs.declared.io.ErrorKind.{ErrorKind}
use Rattle.std.proofs.KnownBytes.{append_known-grown, append_known-moved, append_known-passed}
use Rattle.std.proofs.lemmas.List.{drop-append-le, drop-drop, take-append-drop}
use Rattle.bitstream_order.specs.Streaming.Growing.{GrowthRefused, growing_bytes, growing_contents}
use Rattle.bitstream_order.specs.declared.streams.growing.Growing.{Growing}

-- A request that is held appends its bytes to the known ones.
pub held-grown : {X E : Type 0} (r : Result X E) (before known : Option (List ℕ)) (sent : ℕ) (old new bytes : List ℕ)
    → Keeps before (append_known known (drop sent old)) → sent ≤ length old → OnOk r (new ≡ old ++ bytes)
    → OnOk r (Appends before (append_known known (drop sent new)) bytes)
held-grown (Err e) before known sent old new bytes kept few grown = tt
held-grown (Ok x) before known sent old new bytes kept few grown =
    append_known-grown before known (drop sent old) (drop sent new) bytes kept
    (ap (drop sent) grown ∙ drop-append-le sent old bytes few)

-- The first bytes of those that are held are sent.
pub held-moved : (old new : Option (List ℕ)) (sent count : ℕ) (held piece : List ℕ) → piece ≡ drop sent held
    → Appends old new (take count piece)
    → Keeps (append_known old (drop sent held)) (append_known new (drop (sent + count) held))
held-moved old new sent count held piece all moved =
    let left = drop sent held in
    append_known-moved old new (take count left) (drop (sent + count) held) left
    (subst (λ some. Appends old new (take count some)) all moved)
    (sym (take-append-drop count left) ∙ ap (λ rest. take count left ++ rest) (drop-drop count sent held))

-- A block grows by at most the bytes of a request.
pub block-grown : {X E A : Type 0} (kind : E → ErrorKind) (r : Result X E) (old new : Growing A) (bytes : List ℕ)
    → OnOk r (Appends (growing_contents old) (growing_contents new) bytes)
    → IfErr r (λ e. GrowthRefused old (length bytes) (kind e) new)
    → (length (growing_bytes old) ≤ length (growing_bytes new))
    × (length (growing_bytes new) ≤ length (growing_bytes old) + length bytes)
block-grown kind (Ok x) old new bytes grown refused =
    let all = ap (λ (l : List ℕ). length l) grown ∙ length-append (growing_bytes old) bytes in
    (omega (arith, all), omega (arith, all))
block-grown kind (Err e) old new bytes grown refused =
    let same = ap (λ (l : List ℕ). length l) refused.same in
    (omega (arith, same), omega (arith, same))

-- Bytes that are sent while none is held are appended to the known ones.
pub held-passed : {X E : Type 0} (r : Result X E) (before old new : Option (List ℕ)) (held bytes : List ℕ)
    → Keeps before (append_known old held) → held ≡ [] → OnOk r (Appends old new bytes)
    → OnOk r (Appends before (append_known new held) bytes)
held-passed (Err e) before old new held bytes kept none grown = tt
held-passed (Ok x) before old new held bytes kept none grown =
    subst (λ all. Appends before (append_known new held) all) (append-nil bytes)
    (append_known-passed before old new held held bytes [] kept none grown (sym (append-nil held)))

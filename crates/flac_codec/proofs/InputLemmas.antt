-- What an input fetches is at the end of its bytes.
use Rattle.std.proofs.Common.{arith, ◌≡◌, ◌∙◌, ◌++◌, ◌+◌, ◌≤◌, ℕ, List, None, Some, length, take, drop, refl, sym, ap, append_assoc}
use Rattle.std.proofs.lemmas.List.{drop-append-le, take-append-le, take-take, take_all}
use Rattle.std.proofs.Math.Seq.{take-append-add, take-append_seam}
use Rattle.std.specs.declared.option.Option.{Option}
use Rattle.std.specs.Io.KnownBytes.{Consumes, Keeps, prepend_known}

-- of the room after the bytes so far, the first n bytes were written and are kept
pub written_front : (old buf post rest : List ℕ) (n size : ℕ) → n ≤ length buf → length old + n ≤ size
    → take (length old + n) (take size (old ++ (buf ++ post) ++ rest)) ≡ old ++ take n buf
written_front old buf post rest n size few room =
    take-take (length old + n) size (old ++ (buf ++ post) ++ rest) room
    ∙ ap (take (length old + n)) (append_assoc old (buf ++ post) rest)
    ∙ take-append-add old ((buf ++ post) ++ rest) n
    ∙ ap (λ l. old ++ take n l) (append_assoc buf post rest)
    ∙ ap (λ l. old ++ l) (take-append-le n buf (post ++ rest) few)

-- the front of bytes that grew
pub grown_front : (old zeros all : List ℕ) (size : ℕ) → length old ≤ size → all ≡ take size old ++ zeros → take (length old) all ≡ old
grown_front old zeros all size long is =
    ap (take (length old)) (is ∙ ap (λ l. l ++ zeros) (take_all size old long)) ∙ take-append_seam old zeros

-- the bytes left stay the same if those that the reader lost are appended
pub Keeps-fetched : (a b : Option (List ℕ)) (old new more : List ℕ) (start : ℕ) → start ≤ length old → new ≡ old ++ more
    → Consumes a b more → Keeps (prepend_known (drop start old) a) (prepend_known (drop start new) b)
Keeps-fetched None b old new more start within is took = tt
Keeps-fetched (Some x) None old new more start within is took = absurd took
Keeps-fetched (Some x) (Some y) old new more start within is took =
    ap (λ l. drop start l ++ y) is
    ∙ ap (λ l. l ++ y) (drop-append-le start old more within)
    ∙ append_assoc (drop start old) more y
    ∙ ap (λ l. drop start old ++ l) (sym took)

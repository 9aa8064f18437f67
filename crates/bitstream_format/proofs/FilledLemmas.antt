-- Lists that fill a stated size: what the loop in code returns.
use Rattle.std.proofs.Common.{◌≡◌, ◌∙◌, inl, inr, ℕ, suc, ◌+◌, ◌-◌, ◌<◌, ◌≤◌, Bool, true, false, List, [], ◌∷◌, ◌++◌, length, append-nil, Some, Result, Ok, Err, refl, sym, ap, subst, arith}
use Rattle.std.specs.Prelude.{◌↔◌, IsTrue, IfSome, option_map}
use Rattle.bitstream_count.specs.declared.error.Error.{Error}
use Rattle.bitstream_count.specs.declared.error.Error.TheVariants.{EndOfInput, OutOfMemory}
use Rattle.bitstream_count.specs.Codec.{Prefix, Incomplete}
use Rattle.bitstream_stream.specs.Reading.Reads.{BitSource, ReadsGrowing}
use Rattle.bitstream_stream.specs.Reading.ReadTable.{bytes_decoder}
use Rattle.bitstream_stream.specs.Reading.Reads.{had_failed as r_had_failed, was_done as r_was_done, was_refused as r_was_refused, memory_refused as r_memory_refused}
use Rattle.bitstream_stream.specs.Reading.Reader.{new_reader_state}
use Rattle.bitstream_stream.proofs.Reading.ReadsLemmas.{Consumes-known, parts_left}
use Rattle.bitstream_value.specs.Grows.{GrowingOutcome, by_reads, in_a_read, between_reads}
use Rattle.bitstream_value.proofs.GrowsLemmas.{own_grown-answer, go_grown, vec-grown}
use Rattle.bitstream_io.specs.Refusal.{TrueEnds}
use Rattle.bitstream_io.specs.Callers.{Decoder, Done, Order, GrowsOwn, OwnAnswer, Reads, bits, bits_left, sure_answer}
use Rattle.bitstream_format.specs.Within.{UnlessMemory}
use Rattle.bitstream_format.proofs.WithinLemmas.{fine_by, stored-by}
use Rattle.bitstream_format.specs.SizeLaws.{items_and, items_and-push, none_left, items-next, items-none, items-step}
use Rattle.bitstream_format.specs.Filled.{next_item, items_from, filled_decoder}

-- ---- the loop over items

-- the items so far: what the bits left are read as, after them, is what all bits are
pub record ItemsSoFar {R A E : Type 0} (K : BitSource R) (decoder : Decoder (Result A E)) (err : E) (own : Error → E)
    (ended : E → E) (w : List Bool) (most count : ℕ) (found : List A) (reader : R) : Type 0 where
  pub bytes : List ℕ
  pub known : (K.state reader).bytes ≡ Some bytes
  pub fine : (K.state reader).failed ≡ false
  pub same : items_from decoder err own ended 0 w most ≡ items_and found (items_from decoder err own ended
      (K.state reader).taken ((K.state reader).queue ++ bits K.order bytes) (most - count))

start : {A E : Type 0} (r : Result (List A) E) → r ≡ items_and [] r
start (Ok xs) = refl
start (Err e) = refl

ended-by : {A E : Type 0} (err : E) (own : Error → E) (ended : E → E) {x : E} (rest : ℕ → Result (List A) E)
    → ended (own EndOfInput) ≡ err → (p : Prefix (Result A E))
    → OwnAnswer (λ error y. y ≡ own error) (λ y. y) (sure_answer p) (Err x)
    → Err (ended x) ≡ next_item err own ended p rest
ended-by err own ended rest ends Incomplete is = ap (λ z. Err (ended z)) is ∙ ap Err ends
ended-by err own ended rest ends (Done m (Ok (Ok a))) is = cc
ended-by err own ended {x = x} rest ends (Done m (Ok (Err y))) is = let same : x ≡ y = cc in ap (λ z. Err (ended z)) same
ended-by err own ended rest ends (Done m (Err y)) is = ap (λ z. Err (ended z)) is

module _ {R A E : Type 0} {K : BitSource R} (decoder : Decoder (Result A E)) (err : E) (own : Error → E) (ended : E → E)
    (w : List Bool) (most count : ℕ) {found : List A} {s : R} where
  pub so_far-begin : {xs : List ℕ} → K.state s ≡ new_reader_state (Some xs) [] → w ≡ bits K.order xs → found ≡ [] → count ≡ 0
      → ItemsSoFar K decoder err own ended w most count found s
  so_far-begin {xs = xs} new is none first = record {
    bytes = xs;
    known = ap (λ z. z.bytes) new;
    fine = ap (λ z. z.failed) new;
    same =
        start (items_from decoder err own ended 0 w most)
        ∙ ap (λ v. items_and [] (items_from decoder err own ended 0 v most)) is
        ∙ ap (λ z. items_and [] (items_from decoder err own ended z.taken (z.queue ++ bits K.order xs) most)) (sym new)
        ∙ ap (λ l. items_and l (items_from decoder err own ended (K.state s).taken ((K.state s).queue ++ bits K.order xs) most)) (sym none)
        ∙ ap (λ k. items_and found (items_from decoder err own ended (K.state s).taken ((K.state s).queue ++ bits K.order xs) k))
        (omega (arith, first));
  }

  module _ (so : ItemsSoFar K decoder err own ended w most count found s) where
    left : List Bool
    left = (K.state s).queue ++ bits K.order so.bytes

    -- by whether any bit is left
    left-by : (at_end : Bool) → ((K.state s).failed ≡ false → IfSome (bits_left K.order (K.state s)) (λ l. IsTrue at_end ↔ (length l ≡ 0)))
        → (IsTrue at_end ↔ (length ((K.state s).queue ++ bits K.order so.bytes) ≡ 0))
    left-by at_end end =
        subst (λ o. IfSome o (λ l. IsTrue at_end ↔ (length l ≡ 0)))
        (ap (λ b. option_map (λ xs. (K.state s).queue ++ bits K.order xs) b) so.known) (end so.fine)

    pub so_far-end : ((K.state s).failed ≡ false → IfSome (bits_left K.order (K.state s)) (λ l. IsTrue true ↔ (length l ≡ 0)))
        → Ok found ≡ items_from decoder err own ended 0 w most
    so_far-end end =
        let none = none_left _ ((left-by true end).0 refl) in
        sym (so.same ∙ ap (λ l. items_and found (items_from decoder err own ended (K.state s).taken l (most - count))) none
        ∙ ap Ok (append-nil found))

    pub so_far-more : most ≤ count
        → ((K.state s).failed ≡ false → IfSome (bits_left K.order (K.state s)) (λ l. IsTrue false ↔ (length l ≡ 0)))
        → Err err ≡ items_from decoder err own ended 0 w most
    so_far-more all end =
        let some : length ((K.state s).queue ++ bits K.order so.bytes) ≡ 0 → ⊥ =
        λ none. (let no : false ≡ true = (left-by false end).1 none in cc) in
        let last : most - count ≡ 0 = omega (arith, all) in
        sym (so.same ∙ ap (λ k. items_and found (items_from decoder err own ended (K.state s).taken ((K.state s).queue ++ bits K.order so.bytes) k)) last
        ∙ ap (items_and found) (items-none decoder err own ended (K.state s).taken ((K.state s).queue ++ bits K.order so.bytes) some))

    module _ (less : count < most)
        (end : (K.state s).failed ≡ false → IfSome (bits_left K.order (K.state s)) (λ l. IsTrue false ↔ (length l ≡ 0))) where
      some-left : length ((K.state s).queue ++ bits K.order so.bytes) ≡ 0 → ⊥
      some-left none = let no : false ≡ true = (left-by false end).1 none in cc

      one-more : most - count ≡ suc (most - (count + 1))
      one-more = omega (arith, less)

      -- an item
      pushed-by : (x : A) (ys : List A) (t : R) → ys ≡ found ++ x ∷ [] → Reads K decoder s (Ok (Ok x)) t
          → ItemsSoFar K decoder err own ended w most (count + 1) ys t
      pushed-by x ys t is (r_was_done h) =
          let lost = Consumes-known (K.state s).bytes (K.state t).bytes h.gone so.bytes h.loses so.known in
          let all : (K.state s).queue ++ bits K.order so.bytes ≡ h.word ++ (h.rest ++ bits K.order lost.0) =
          ap (λ l. (K.state s).queue ++ bits K.order l) lost.2
          ∙ parts_left K.order (K.state s).queue h.rest h.word h.gone lost.0 h.parts in
          let step = items-step decoder err own ended x (K.state s).taken (most - (count + 1)) ((K.state s).queue ++ bits K.order so.bytes) h.word (h.rest ++ bits K.order lost.0) all some-left
          (h.decides (h.rest ++ bits K.order lost.0)) in
          record {
            bytes = lost.0;
            known = lost.1;
            fine = h.failed;
            same =
                so.same
                ∙ ap (λ k. items_and found (items_from decoder err own ended (K.state s).taken ((K.state s).queue ++ bits K.order so.bytes) k)) one-more
                ∙ ap (items_and found) step
                ∙ items_and-push found x _
                ∙ ap (λ l. items_and l (items_from decoder err own ended ((K.state s).taken + length h.word) (h.rest ++ bits K.order lost.0) (most - (count + 1)))) (sym is)
                ∙ ap (λ p. items_and ys (items_from decoder err own ended p (h.rest ++ bits K.order lost.0) (most - (count + 1)))) (sym h.taken)
                ∙ ap (λ q. items_and ys (items_from decoder err own ended (K.state t).taken (q ++ bits K.order lost.0) (most - (count + 1)))) (sym h.queue);
          }
      pushed-by x ys t is (r_had_failed h) = let p = so.fine in let q = h.failed in cc
      pushed-by x ys t is (r_was_refused h) = let p = h.answer in cc
      pushed-by x ys t is (r_memory_refused g h) = let p = h.answer in cc

      grown-by : (x : A) (ys : List A) (t : R) (plain : Result (Result A E) Error) → ys ≡ found ++ x ∷ []
          → GrowingOutcome K decoder s plain t → OwnAnswer (λ error y. y ≡ own error) (λ y. y) plain (Ok x)
          → ItemsSoFar K decoder err own ended w most (count + 1) ys t
      grown-by x ys t (Ok (Ok v)) more (by_reads h) is =
          let same : v ≡ x = cc in
          pushed-by x ys t more (subst (λ z. Reads K decoder s (Ok (Ok z)) t) same h)
      grown-by x ys t (Ok (Err v)) more (by_reads h) is = cc
      grown-by x ys t (Err v) more h is = absurd is
      grown-by x ys t (Ok v) more (in_a_read h) is = let p = h.refused.answer in cc
      grown-by x ys t (Ok v) more (between_reads h) is = let p = h.answer in cc

      pub so_far-push : (x : A) (ys : List A) (t : R) → ys ≡ found ++ x ∷ []
          → GrowsOwn K (λ error y. y ≡ own error) decoder s (Ok x) t
          → ItemsSoFar K decoder err own ended w most (count + 1) ys t
      so_far-push x ys t more h = grown-by x ys t h.plain more h.called h.answer

      -- an error
      pub so_far-stop : (x : E) (t : R) → TrueEnds K.may → ended (own EndOfInput) ≡ err → ended (own OutOfMemory) ≡ own OutOfMemory
          → GrowsOwn K (λ error y. y ≡ own error) decoder s (Err x) t
          → UnlessMemory own (items_from decoder err own ended 0 w most) (Err (ended x))
      so_far-stop x t sure ends memory h = elim (own_grown-answer {s = s} {t = t} sure so.bytes so.fine so.known h) [
        | inl answered ↦
            inl (ap (items_and found) (ended-by err own ended _ ends (decoder.reads (K.state s).taken ((K.state s).queue ++ bits K.order so.bytes)) answered)
            ∙ sym (so.same ∙ ap (λ k. items_and found (items_from decoder err own ended (K.state s).taken ((K.state s).queue ++ bits K.order so.bytes) k)) one-more
            ∙ ap (items_and found) (items-next decoder err own ended (K.state s).taken (most - (count + 1)) ((K.state s).queue ++ bits K.order so.bytes) some-left)))
        | inr lack ↦ inr (ap (λ z. Err (ended z)) lack.0 ∙ ap Err memory)
      ]

-- the bytes of items, and then the items
pub filled-grown : {R A E : Type 0} {K : BitSource R} {own : Error → E} {r : Result (List A) E}
    (decoder : Order → Decoder (Result A E)) (err : E) (ended : E → E) {o p : Order} (n : ℕ) {xs : List ℕ} {s t : R}
    → o ≡ p → ReadsGrowing K (bytes_decoder o n) s (Ok xs) t
    → UnlessMemory own (items_from (decoder p) err own ended 0 (bits p xs) n) r
    → GrowsOwn K (λ error y. y ≡ own error) (filled_decoder decoder err own ended o n) s r t
filled-grown {own = own} {r = r} decoder err ended {o = o} n {xs = xs} same read told =
    go_grown _ (vec-grown o n read) (stored-by (fine_by o n read)
    (subst (λ q. UnlessMemory own (items_from (decoder q) err own ended 0 (bits q xs) n) r) (sym same) told))

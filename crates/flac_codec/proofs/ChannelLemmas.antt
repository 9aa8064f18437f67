-- Channels: the steps of the loops over two of them, and what goes back.
use Rattle.std.proofs.Common.{◌≡◌, ◌∙◌, ◌++◌, ◌+◌, ◌<◌, ◌≤◌, ℕ, ℤ, List, [], ◌∷◌, Err, length, drop, refl, sym, ap, append-nil, append_assoc, get_or}
use Rattle.std.proofs.lemmas.List.{drop_all, drop_more}
use Rattle.bitstream_io.specs.Codec.{and_then}
use Rattle.bitstream_io.specs.Callers.{Failed, Order}
use Rattle.flac_codec.specs.Channels.{combined}
use Rattle.flac_codec.specs.Subframe.{subframe_decoder}

pub subframe-on_failed : (o : Order) (width block_size : ℕ) → (subframe_decoder o width block_size).on_failed ≡ Err Failed
unfolding and_then
subframe-on_failed o width block_size = refl

module _ (f : ℤ → ℤ → ℤ) (xs ys : List ℤ) (i : ℕ) where
  pub combined-step : (left new : List ℤ) (d e : ℤ) → i < length xs → i < length ys
      → new ≡ left ++ f (get_or xs i d) (get_or ys i e) ∷ []
      → new ++ combined f (drop (i + 1) xs) (drop (i + 1) ys) ≡ left ++ combined f (drop i xs) (drop i ys)
  combined-step left new d e one two is =
      let there = combined f (drop (i + 1) xs) (drop (i + 1) ys) in
      ap (λ zs. zs ++ there) is ∙ append_assoc left (f (get_or xs i d) (get_or ys i e) ∷ []) there
      ∙ sym (rw (drop_more xs i d one, drop_more ys i e two) refl)

  pub combined-end : (left : List ℤ) → length xs ≤ i → left ≡ left ++ combined f (drop i xs) (drop i ys)
  combined-end left all = rw (drop_all i xs all) (sym (append-nil left))

  pub combined-short : (left : List ℤ) (d : ℤ) → i < length xs → length ys ≤ i
      → left ≡ left ++ combined f (drop i xs) (drop i ys)
  combined-short left d one all = rw (drop_more xs i d one, drop_all i ys all) (sym (append-nil left))

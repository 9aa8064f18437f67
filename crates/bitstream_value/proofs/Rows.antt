-- Worked rows, by the definitions alone.
use Rattle.std.specs.Prelude.{map, replicate}
use Rattle.std.proofs.Common.{◌≡◌, ◌==◌, ℕ, List, [], ◌∷◌, ◌++◌, true, false, Some, None, Ok, refl}
use Rattle.bitstream_count.specs.Codec.{Done, and_then}
use Rattle.bitstream_number.specs.Word.{High, Low, digits, bits}
use Rattle.bitstream_stream.specs.Sequence.{read_sequence}
use Rattle.bitstream_value.specs.LimitedUnary.{limited_unary, limited_tree}
use Rattle.bitstream_value.specs.Tree.{Tree, leaf, node, path_decoder, symbol_word}

-- ---- prefix codes

-- [0, [1, [2, 5]]]
one_sided : Tree ℕ
one_sided = node (leaf 0) (node (leaf 1) (node (leaf 2) (leaf 5)))

one_sided_run : read_sequence (map path_decoder (replicate 5 one_sided)) 0 (bits High (177 ∷ 237 ∷ []))
    ≡ (Ok 1, 2) ∷ (Ok 2, 5) ∷ (Ok 0, 6) ∷ (Ok 0, 7) ∷ (Ok 5, 10) ∷ []
unfolding one_sided path_decoder and_then digits
one_sided_run = refl

unknown_symbol : symbol_word (λ x y. x == y) one_sided 7 ≡ []
unfolding one_sided symbol_word
unknown_symbol = refl

-- [[[4, 3], 2], [1, 0]]
two_sided : Tree ℕ
two_sided = node (node (node (leaf 4) (leaf 3)) (leaf 2)) (node (leaf 1) (leaf 0))

-- B1 ED 3B C1
four_bytes : List ℕ
four_bytes = 177 ∷ 237 ∷ 59 ∷ 193 ∷ []

high_run : read_sequence (map path_decoder (replicate 15 two_sided)) 0 (bits High four_bytes)
    ≡ (Ok 1, 2) ∷ (Ok 0, 4) ∷ (Ok 4, 7) ∷ (Ok 0, 9) ∷ (Ok 0, 11) ∷ (Ok 2, 13) ∷ (Ok 1, 15) ∷ (Ok 1, 17) ∷ (
      Ok 2,
      19,
    ) ∷ (Ok 0, 21) ∷ (Ok 2, 23) ∷ (Ok 0, 25) ∷ (Ok 1, 27) ∷ (Ok 4, 30) ∷ (Ok 2, 32) ∷ []
unfolding two_sided four_bytes path_decoder and_then digits
high_run = refl

low_run : read_sequence (map path_decoder (replicate 14 two_sided)) 0 (bits Low four_bytes)
    ≡ (Ok 1, 2) ∷ (Ok 3, 5) ∷ (Ok 1, 7) ∷ (Ok 0, 9) ∷ (Ok 2, 11) ∷ (Ok 1, 13) ∷ (Ok 0, 15) ∷ (Ok 0, 17) ∷ (
      Ok 1,
      19,
    ) ∷ (Ok 0, 21) ∷ (Ok 1, 23) ∷ (Ok 2, 25) ∷ (Ok 4, 28) ∷ (Ok 3, 31) ∷ []
unfolding two_sided four_bytes path_decoder and_then digits
low_run = refl

first_of_two : symbol_word (λ x y. x == y) (node (leaf 7) (node (leaf 7) (leaf 8))) 7 ≡ false ∷ []
unfolding symbol_word
first_of_two = refl

no_bits : (path_decoder {S = ℕ} (leaf 9)).reads 0 [] ≡ Done 0 (Ok 9)
unfolding path_decoder
no_bits = refl

-- ---- limited unary, of at most three digits

three_ones : (path_decoder (limited_tree false 0 3)).reads 0 (bits High (255 ∷ [])) ≡ Done 3 (Ok None)
unfolding path_decoder limited_tree and_then digits
three_ones = refl

-- two, none, and three, which has no encoding
limited_words : limited_unary true 3 (Some 2) ++ limited_unary true 3 None ++ limited_unary true 3 (Some 3)
    ≡ false ∷ false ∷ true ∷ false ∷ false ∷ false ∷ []
limited_words = refl

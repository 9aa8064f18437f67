-- Which prefixes decoders take, and which decoders read the same.
use Rattle.std.proofs.Common.{◌≡◌, ℕ, ◌+◌, ◌<◌, ◌⊎◌, inl, inr, Bool, List, ◌∷◌, ◌++◌, length, take, drop, Result, Ok, Err, refl, sym, ap, ◌∙◌, append_assoc, length-append, length-take, take-append-drop, arith, add-zero}
use Rattle.std.proofs.Math.Seq.{drop-append_seam, take-append_seam}
use Rattle.std.proofs.lemmas.Bool.{le-leb, lt-leb}
use Rattle.std.proofs.lemmas.Bool.Decides.{leb_tells}
use Rattle.bitstream_count.specs.declared.error.Error.{Error}
use Rattle.std.specs.Prelude.{nat_le, if◌then◌else◌}
use Rattle.bitstream_count.specs.Codec.{Decoder, Prefix, Incomplete, Done, word_prefix, advance, result_then, and_then, pure, consume}

-- decoders that read the same
pub record Same {A : Type 0} (d e : Decoder A) : Type 0 where
  pub reads : (p : ℕ) (b : List Bool) → d.reads p b ≡ e.reads p b
  pub on_failed : d.on_failed ≡ e.on_failed

pub Same-trans : {A : Type 0} {d e f : Decoder A} → Same d e → Same e f → Same d f
Same-trans h k = record { reads = λ p b. h.reads p b ∙ k.reads p b; on_failed = h.on_failed ∙ k.on_failed }

pub and_then-ok : {A B : Type 0} (e : Decoder A) (f : A → Decoder B) (p : ℕ) (bits : List Bool) (n : ℕ) (a : A)
    → e.reads p bits ≡ Done n (Ok a) → (and_then e f).reads p bits ≡ advance n ((f a).reads (p + n) (drop n bits))
unfolding and_then
and_then-ok e f p bits n a h = rw h refl

pub and_then-err : {A B : Type 0} (e : Decoder A) (f : A → Decoder B) (p : ℕ) (bits : List Bool) (n : ℕ) (x : Error)
    → e.reads p bits ≡ Done n (Err x) → (and_then e f).reads p bits ≡ Done n (Err x)
unfolding and_then
and_then-err e f p bits n x h = rw h refl

pub and_then-none : {A B : Type 0} (e : Decoder A) (f : A → Decoder B) (p : ℕ) (bits : List Bool) → e.reads p bits
    ≡ Incomplete → (and_then e f).reads p bits ≡ Incomplete
unfolding and_then
and_then-none e f p bits h = rw h refl

pub and_then-failed : {A B : Type 0} (e : Decoder A) (f : A → Decoder B) → (and_then e f).on_failed
    ≡ result_then e.on_failed (λ a. (f a).on_failed)
unfolding and_then
and_then-failed e f = refl

-- a list with a prefix of n
pub record Split (n : ℕ) (b : List Bool) : Type 0 where
  pub word : List Bool
  pub rest : List Bool
  pub parts : b ≡ word ++ rest
  pub len : length word ≡ n

pub split : (n : ℕ) (b : List Bool) → (length b < n) ⊎ Split n b
split n b = elim (leb_tells n (length b)) [
  | inl h ↦ inr (record {
    word = take n b;
    rest = drop n b;
    parts = sym (take-append-drop n b);
    len = let le = h.1 in
        simp length-take (omega arith);
  })
  | inr h ↦ inl h.1
]

-- a prefix of n bits, or of n bytes
abbrev pub prefix_of : {X A : Type 0} → ℕ → (List X → Result A Error) → List X → Prefix A
prefix_of n g xs = if nat_le n (length xs) then Done n (g (take n xs)) else Incomplete

pub word_prefix-some : {X A : Type 0} (n : ℕ) (g : List X → Result A Error) (w more : List X) → length w ≡ n
    → prefix_of n g (w ++ more) ≡ Done n (g w)
word_prefix-some n g w more h = rw (
  ← h,
  le-leb (length w) (length (w ++ more)) (omega (arith, length-append w more)),
  take-append_seam w more,
) refl

pub word_prefix-none : {X A : Type 0} (n : ℕ) (g : List X → Result A Error) (b : List X) → length b < n → prefix_of n g b
    ≡ Incomplete
word_prefix-none n g b h = rw (lt-leb n (length b) h) refl

-- a proper beginning of an encoding is too short for it
pub word_needs : {X A : Type 0} (n : ℕ) (g : List X → Result A Error) (w : List X) → length w ≡ n
    → (prefix : List X) (b : X) (back : List X) → w ≡ prefix ++ b ∷ back → prefix_of n g prefix ≡ Incomplete
word_needs n g w len prefix b back is =
    let size : length w ≡ length prefix + (length back + 1) = ap (λ l. length l) is ∙ length-append prefix (b ∷ back)
    ∙ ap (λ k. length prefix + k) (omega arith) in
    word_prefix-none n g prefix (omega arith)

-- one encoding and then another are the two as one
pub and_then_takes : {A B : Type 0} (m n : ℕ) (g : List Bool → A) (k : A → List Bool → Result B Error) (h : List Bool
    → Result B Error)
    → ((u v : List Bool) → length u ≡ m → length v ≡ n → h (u ++ v) ≡ k (g u) v)
    → Same (and_then (consume m (λ w. Ok (g w))) (λ a. consume n (k a))) (consume (m + n) h)
and_then_takes m n g k h e = record {
  reads = λ p b. elim (split m b) [
    | inl short ↦ rw (
      and_then-none (consume m (λ w. Ok (g w))) (λ a. consume n (k a)) p b
          (word_prefix-none m (λ w. Ok (g w)) b short),
      word_prefix-none (m + n) h b (omega arith),
    ) refl
    | inr s ↦
        let first : (consume m (λ w. Ok (g w))).reads p b ≡ Done m (Ok (g s.word)) =
        rw s.parts (word_prefix-some m (λ w. Ok (g w)) s.word s.rest s.len) in
        let rest : drop m b ≡ s.rest = rw (s.parts, ← s.len) (drop-append_seam s.word s.rest) in
        let left : (and_then (consume m (λ w. Ok (g w))) (λ a. consume n (k a))).reads p b
        ≡ advance m (word_prefix n (k (g s.word)) s.rest) =
        and_then-ok (consume m (λ w. Ok (g w))) (λ a. consume n (k a)) p b m (g s.word) first
        ∙ ap (λ l. advance m (word_prefix n (k (g s.word)) l)) rest in
        elim (split n s.rest) [
          | inl short ↦
              let long : length b < m + n = rw s.parts (omega (arith, length-append s.word s.rest, s.len)) in
              left ∙ ap (advance m) (word_prefix-none n (k (g s.word)) s.rest short)
              ∙ sym (word_prefix-none (m + n) h b long)
          | inr t ↦
              let some : word_prefix n (k (g s.word)) s.rest ≡ Done n (k (g s.word) t.word) =
              rw t.parts (word_prefix-some n (k (g s.word)) t.word t.rest t.len) in
              let whole : b ≡ (s.word ++ t.word) ++ t.rest = s.parts ∙ ap (λ l. s.word ++ l) t.parts
              ∙ sym (append_assoc s.word t.word t.rest) in
              let size : length (s.word ++ t.word) ≡ m + n = length-append s.word t.word
              ∙ ap (λ x. x + length t.word) s.len ∙ ap (λ x. m + x) t.len in
              let right : word_prefix (m + n) h b ≡ Done (m + n) (h (s.word ++ t.word)) =
              rw whole (word_prefix-some (m + n) h (s.word ++ t.word) t.rest size) in
              left ∙ ap (advance m) some ∙ ap (Done (m + n)) (sym (e s.word t.word s.len t.len)) ∙ sym right
        ]
  ];
  on_failed = and_then-failed (consume m (λ w. Ok (g w))) (λ a. consume n (k a));
}

-- an encoding whose result is then changed
pub map_takes : {A B : Type 0} (n : ℕ) (g : List Bool → A) (f : A → B) (h : List Bool → Result B Error)
    → ((w : List Bool) → length w ≡ n → h w ≡ Ok (f (g w)))
    → Same (and_then (consume n (λ w. Ok (g w))) (λ a. pure (f a))) (consume n h)
map_takes n g f h e = record {
  reads = λ p b. elim (split n b) [
    | inl short ↦ rw (
      and_then-none (consume n (λ w. Ok (g w))) (λ a. pure (f a)) p b
          (word_prefix-none n (λ w. Ok (g w)) b short),
      word_prefix-none n h b short,
    ) refl
    | inr s ↦
        let first : (consume n (λ w. Ok (g w))).reads p b ≡ Done n (Ok (g s.word)) =
        rw s.parts (word_prefix-some n (λ w. Ok (g w)) s.word s.rest s.len) in
        let right : word_prefix n h b ≡ Done n (h s.word) = rw s.parts (word_prefix-some n h s.word s.rest s.len) in
        and_then-ok (consume n (λ w. Ok (g w))) (λ a. pure (f a)) p b n (g s.word) first
        ∙ rw (add-zero n) (ap (Done n) (sym (e s.word s.len))) ∙ sym right
  ];
  on_failed = and_then-failed (consume n (λ w. Ok (g w))) (λ a. pure (f a));
}

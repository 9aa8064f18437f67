-- Values that are written one after another, and bytes that hold them.
use Rattle.std.proofs.Common.{arith, inl, inr, ◌⊎◌, ◌≡◌, ◌∙◌, ◌++◌, ◌+◌, ◌<◌, ◌≤◌, ℕ, ℤ, suc, false, List, [], ◌∷◌, None, Result, Ok, Err, length, take, refl, sym, ap, subst, append-nil, get_or, add-one, w64, SFits}
use Rattle.std.specs.Prelude.{map}
use Rattle.std.specs.List.{All}
use Rattle.std.specs.Result.{IsErrAnd}
use Rattle.std.proofs.lemmas.List.{map-append, take_more}
use Rattle.std.proofs.lemmas.List.Elements.{All-get_or, All-weaker}
use Rattle.bitstream_io.specs.Codec.{and_then}
use Rattle.bitstream_io.specs.Sequence.{accepted_bits}
use Rattle.bitstream_io.specs.Callers.{align, part_then, stores, AllAccepted, Decoder, Encoder, Error, FitsSignedBits, OutOfMemory, Sink}
use Rattle.bitstream_io.specs.Fault.{refusal_of}
use Rattle.bitstream_io.specs.Grows.{parts_decoder}
use Rattle.bitstream_io.specs.ReadBack.{IsReadAs}
use Rattle.bitstream_io.specs.Refusal.{Refusal}
use Rattle.bitstream_io.specs.Sink.{Writes}
use Rattle.bitstream_io.proofs.CallerLemmas.{RoundTrip, part-back}
use Rattle.bitstream_io.proofs.PackIntoLemmas.{accepted-run, align_error, all_error}
use Rattle.bitstream_io.proofs.WriteParts.{all_append, all_none}
use Rattle.bitstream_io.proofs.WriteSteps.{sequence_appended}
use Rattle.flac_codec.specs.Channels.{joined, less, more, pair_decoder}
use Rattle.flac_codec.specs.Subframe.{subframe_decoder, Encodes, WritesValue}
use Rattle.flac_codec.specs.Written.{MakesCalls, WritesPart}
use Rattle.flac_codec.proofs.LosslessLemmas.{encoded}
use Rattle.flac_codec.specs.declared.header.Channels.TheVariants.{MidSide}
use Rattle.flac_codec.proofs.StereoLemmas.{combined-length, left-back, middle-back}
use Rattle.flac_codec.proofs.SubframeLemmas.{fits_wide, stored-back}

-- ---- calls

pub accepted_append : (es fs : List Encoder) (from : ℕ) → AllAccepted es from → ((at : ℕ) → AllAccepted fs at)
    → AllAccepted (es ++ fs) from
accepted_append [] fs from first second = second from
accepted_append (e ∷ es) fs from first second =
    (first.0, accepted_append es fs (from + length (accepted_bits (e from))) first.1 second)

module _ {S : Type 0} {K : Sink S} {s m t : S} where
  pub calls_append : {r : Result (Unit {0}) Error} → MakesCalls K s (Ok tt) m → MakesCalls K m r t → MakesCalls K s r t
  calls_append {r = r} h k = record {
    calls = h.calls ++ k.calls;
    written = all_append K h.calls k.calls s m r t h.written k.written;
    accepted = λ from. accepted_append h.calls k.calls from (h.accepted from) k.accepted;
  }

pub value_calls : {S A E : Type 0} {K : Sink S} {s t : S} {e : Decoder (Result A E)} {value : A} {r : Result (Unit {0}) Error}
    → WritesValue K e value s r t → MakesCalls K s r t
value_calls h = record { calls = h.calls; written = h.written; accepted = h.accepted }

-- a value that was not written: calls before it, and then what its encoder says
module _ {S A E : Type 0} {K : Sink S} {e : Decoder (Result A E)} {value : A} {s m t : S} where
  pub stopped : (x : Error) → MakesCalls K s (Ok tt) m → Encodes K e value m (Err x) t
      → MakesCalls K s (Err x) t ⊎ (x ≡ OutOfMemory)
  stopped x h (inl written) = inl (calls_append h (value_calls written))
  stopped x h (inr refused) = inr (let same = refused.0 in cc)

-- the first value was not written
pub first_stopped : {S A E : Type 0} {K : Sink S} {e : Decoder (Result A E)} {value : A} {s t : S} (x : Error)
    → Encodes K e value s (Err x) t → MakesCalls K s (Err x) t ⊎ (x ≡ OutOfMemory)
first_stopped x (inl written) = inl (value_calls written)
first_stopped x (inr refused) = inr (let same = refused.0 in cc)

-- ---- parts in a loop

module _ {A E : Type 0} (e : Decoder (Result A E)) where
  parts-suc : (n : ℕ) → parts_decoder e (suc n)
      ≡ and_then (parts_decoder e n) (part_then (λ xs. and_then e (part_then (λ x. stores (Ok (xs ++ x ∷ []))))))
  unfolding parts_decoder
  parts-suc n = refl

  pub none-read : IsReadAs [] (parts_decoder e 0) (Ok [])
  unfolding parts_decoder
  none-read len p more = refl

  pub more-read : (n : ℕ) (ws vs : List Encoder) (xs : List A) (x : A) → IsReadAs ws (parts_decoder e n) (Ok xs)
      → IsReadAs vs e (Ok x) → IsReadAs (ws ++ vs) (parts_decoder e (suc n)) (Ok (xs ++ x ∷ []))
  more-read n ws vs xs x first second =
      let last : RoundTrip (and_then e (part_then (λ y. stores {A = Result (List A) E} (Ok (xs ++ y ∷ []))))) vs (Ok (xs ++ x ∷ [])) =
      subst (λ us. RoundTrip (and_then e (part_then (λ y. stores {A = Result (List A) E} (Ok (xs ++ y ∷ []))))) us (Ok (xs ++ x ∷ [])))
      (append-nil vs)
      (part-back e (part_then (λ y. stores (Ok (xs ++ y ∷ [])))) vs [] (Ok x) (Ok (xs ++ x ∷ [])) second (stored-back _ _ refl)) in
      rw (parts-suc n)
      (part-back (parts_decoder e n) (part_then (λ xs. and_then e (part_then (λ x. stores (Ok (xs ++ x ∷ []))))))
      ws vs (Ok xs) (Ok (xs ++ x ∷ [])) first last).back

  module _ {S : Type 0} (K : Sink S) where
    pub parts-none : (s : S) → WritesValue K (parts_decoder e 0) [] s (Ok tt) s
    parts-none s = record { calls = []; written = all_none K s; accepted = λ from. tt; read = none-read }

    pub parts-more : (n : ℕ) {xs : List A} {x : A} {s m t : S} → WritesValue K (parts_decoder e n) xs s (Ok tt) m
        → WritesValue K e x m (Ok tt) t → WritesValue K (parts_decoder e (n + 1)) (xs ++ x ∷ []) s (Ok tt) t
    parts-more n {xs = xs} {x = x} {s = s} {m = m} {t = t} h k =
        rw (add-one n) (record {
          calls = h.calls ++ k.calls;
          written = all_append K h.calls k.calls s m (Ok tt) t h.written k.written;
          accepted = λ from. accepted_append h.calls k.calls from (h.accepted from) k.accepted;
          read = more-read n h.calls k.calls xs x h.read k.read;
        })

-- ---- two values

abbrev both : {A B E : Type 0} → Decoder (Result A E) → Decoder (Result A E) → (A → A → B) → Decoder (Result B E)
both first second make = and_then first (part_then (λ a. and_then second (part_then (λ b. stores (Ok (make a b))))))

both-read : {A B E : Type 0} (first second : Decoder (Result A E)) (make : A → A → B) (x y : A) (ws vs : List Encoder)
    → IsReadAs ws first (Ok x) → IsReadAs vs second (Ok y) → IsReadAs (ws ++ vs) (both first second make) (Ok (make x y))
both-read {B = B} {E = E} first second make x y ws vs one two =
    let last : RoundTrip (and_then second (part_then (λ b. stores {A = Result B E} (Ok (make x b))))) vs (Ok (make x y)) =
    subst (λ us. RoundTrip (and_then second (part_then (λ b. stores {A = Result B E} (Ok (make x b))))) us (Ok (make x y)))
    (append-nil vs)
    (part-back second (part_then (λ b. stores (Ok (make x b)))) vs [] (Ok y) (Ok (make x y)) two (stored-back _ _ refl)) in
    (part-back first (part_then (λ a. and_then second (part_then (λ b. stores (Ok (make a b)))))) ws vs (Ok x) (Ok (make x y))
    one last).back

pub both-written : {S A B E : Type 0} {K : Sink S} {first second : Decoder (Result A E)} {x y : A} {s m t : S} (make : A → A → B)
    (r : Result (Unit {0}) Error) → WritesValue K first x s (Ok tt) m → Encodes K second y m r t
    → WritesPart K (both first second make) (make x y) s r t
both-written {K = K} {first = first} {second = second} {x = x} {y = y} {s = s} {m = m} {t = t} make (Ok u) h k =
    let two = encoded K second y m t k in record {
      calls = h.calls ++ two.calls;
      written = all_append K h.calls two.calls s m (Ok tt) t h.written two.written;
      accepted = λ from. accepted_append h.calls two.calls from (h.accepted from) two.accepted;
      read = both-read first second make x y h.calls two.calls h.read two.read;
    }
both-written make (Err x) h k = stopped x (value_calls h) k

-- the error that a `?` returned
pub part_stopped : {S A E : Type 0} {K : Sink S} (e : Decoder (Result A E)) (value : A) {s t : S} (r : Result (Unit {0}) Error)
    (x : Error) → IsErrAnd r (λ y. y ≡ x) → MakesCalls K s (Err x) t ⊎ (x ≡ OutOfMemory) → WritesPart K e value s r t
part_stopped e value (Ok u) x is h = absurd is
part_stopped {K = K} e value {s = s} {t = t} (Err y) x is h =
    subst (λ z. MakesCalls K s (Err z) t ⊎ (z ≡ OutOfMemory)) (sym is) h

-- ---- a sink that refuses only memory

module _ {S : Type 0} (K : Sink S) (free : K.limit ≡ None) (memory : (x : Refusal) → K.may x → refusal_of x.kind
    ≡ OutOfMemory) (s : S) (sound : K.failed s ≡ false) where
  pub calls_error : (x : Error) (t : S) → MakesCalls K s (Err x) t → x ≡ OutOfMemory
  calls_error x t h = elim (all_error K free h.calls s x t sound h.written) [
    | inl own ↦ let none = sym own ∙ accepted-run h.calls (K.len s) (h.accepted (K.len s)) in cc
    | inr fault ↦ fault.2 ∙ memory fault.0 fault.1
  ]

  pub part_error : (x : Error) (t : S) → MakesCalls K s (Err x) t ⊎ (x ≡ OutOfMemory) → x ≡ OutOfMemory
  part_error x t (inl h) = calls_error x t h
  part_error x t (inr is) = is

  pub align_refused : {m : S} (x : Error) (t : S) → MakesCalls K s (Ok tt) m → Writes {T = Unit {0}} K align m (Err x) t
      → x ≡ OutOfMemory
  align_refused {m = m} x t h k =
      let fault = align_error K free m x t (sequence_appended K h.calls s m sound h.written).sound k in
      fault.2 ∙ memory fault.0 fault.1

-- ---- samples of few bits

pub all_wide : (n : ℕ) (xs : List ℤ) → n ≤ 64 → All (FitsSignedBits n) xs → All (SFits w64) xs
all_wide n xs within fit = All-weaker (FitsSignedBits n) (SFits w64) (λ x fits. fits_wide n x within fits) xs fit

pub encoded_first : {S A E : Type 0} {K : Sink S} {e : Decoder (Result A E)} {value : A} {s t : S} → Encodes K e value s (Ok tt) t
    → WritesValue K e value s (Ok tt) t
encoded_first {K = K} {e = e} {value = value} {s = s} {t = t} h = encoded K e value s t h

-- ---- an item of a list

pub item-holds : {X : Type 0} (P : X → Type 0) (xs : List X) (i : ℕ) (x : X) → i < length xs → x ≡ get_or xs i x → All P xs → P x
item-holds P xs i x less is all = subst P (sym is) (All-get_or P xs i x less all)

pub map-take : {X Y : Type 0} (f : X → Y) (xs : List X) (i : ℕ) (x : X) → i < length xs → x ≡ get_or xs i x
    → map f (take (i + 1) xs) ≡ map f (take i xs) ++ f x ∷ []
map-take f xs i x less is =
    rw (take_more xs i x less)
    (map-append f (take i xs) (get_or xs i x ∷ []) ∙ ap (λ y. map f (take i xs) ++ f y ∷ []) (sym is))

-- ---- two channels by their mean and their difference

pub middle-written : {S : Type 0} {K : Sink S} (width : ℕ) (left right middle side : List ℤ) {s m t : S}
    (r : Result (Unit {0}) Error) → width ≤ 32 → length left ≡ length right → All (FitsSignedBits width) left
    → All (FitsSignedBits width) right → side ≡ less 0 left right → middle ≡ more 1 right side
    → Encodes K (subframe_decoder K.order width (length middle)) middle s (Ok tt) m
    → Encodes K (subframe_decoder K.order (width + 1) (length side)) side m r t
    → WritesPart K (pair_decoder K.order MidSide width (length left)) (left ∷ right ∷ []) s r t
middle-written {K = K} width left right middle side {s = s} {m = m} {t = t} r within same fit_left fit_right is mean one two =
    let size : length side ≡ length left = ap length is ∙ combined-length _ left right same in
    let middle_size : length middle ≡ length left =
    ap length mean ∙ combined-length _ right side (sym (size ∙ same)) ∙ sym same in
    let wide = all_wide width left (omega (arith, within)) fit_left in
    let wide_right = all_wide width right (omega (arith, within)) fit_right in
    let first = subst (λ n. Encodes K (subframe_decoder K.order width n) middle s (Ok tt) m) middle_size one in
    let second = subst (λ n. Encodes K (subframe_decoder K.order (width + 1) n) side m r t) size two in
    let right_again : less 1 middle side ≡ right =
    rw (mean, is) (middle-back left right same wide_right) in
    let left_again : more 0 (less 1 middle side) side ≡ left =
    ap (λ ys. more 0 ys side) right_again ∙ rw is (left-back left right same wide wide_right) in
    let value : joined MidSide middle side ≡ left ∷ right ∷ [] =
    ap (λ xs. xs ∷ less 1 middle side ∷ []) left_again ∙ ap (λ ys. left ∷ ys ∷ []) right_again in
    subst (λ v. WritesPart K (pair_decoder K.order MidSide width (length left)) v s r t) value
    (both-written (joined MidSide) r (encoded_first first) second)

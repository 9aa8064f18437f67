-- Parts of a stated size, as `./format` prints them: the size before a part, and the part over the bytes of its size alone.
use Rattle.std.proofs.Common.{◌≡◌, ℕ, ◌+◌, ◌*◌, ◌/◌, ◌^◌, ◌<◌, ◌≤◌, true, List, [], ◌∷◌, length, Ok, refl, sym, subst, arith}
use Rattle.std.specs.Prelude.{nat_le, nat_lt, flat_map}
use Rattle.std.specs.List.{All}
use Rattle.std.proofs.Math.Nat.{mul-le-mul_right}
use Rattle.std.proofs.lemmas.Bool.{leb-true, ltb-true, lt-ltb}
use Rattle.std.proofs.lemmas.List.Elements.{All-weaker}
use Rattle.bitstream_io.specs.Callers.{Encoder, Error, Order, High, and_then, unsigned_decoder, vec_decoder, buffer, write_sequence}
use Rattle.bitstream_io.specs.Loop.{parts_size}
use Rattle.bitstream_io.specs.ReadBack.{IsReadAs}
use Rattle.bitstream_io.proofs.CallerLemmas.{Packs, packs-is, bytes-written}
use Rattle.bitstream_format.specs.AtomLaws.{bytes-goes, one-packs}
use Rattle.bitstream_format.specs.Format.{Format, AllOf, Fits, Plain, Own, Part}
use Rattle.bitstream_format.specs.Lists.{packs_each}
use Rattle.bitstream_format.specs.Chosen.{Choice}
use Rattle.bitstream_format.specs.Within.{sized_decoder, size_encoder}
use Rattle.bitstream_format.specs.Stated.{stated_decoder, stored_encoder, stored_size}
use Rattle.bitstream_format.specs.Filled.{filled_decoder}
use Rattle.bitstream_format.specs.SizeLaws.{sized-read, size-written, size-back, stored-whole, stored-written, stored-back, stated-read, filled-read}
use Rattle.bitstream_format.specs.Varint.{varint_decoder, varint_writes, varint_size}
use Rattle.bitstream_format.specs.VarintLaws.{varint-back, varint-packs}

-- a number of 1, 2, 4 or 8 bytes, as in QUIC
abbrev pub varint : Plain ℕ
varint = record {
  read = varint_decoder;
  write = varint_writes;
  size = varint_size;
  facts = λ v. (v < 2 ^ 62) ∷ [];
  round_trip = varint-back;
  packs = varint-packs;
  besides = λ v. (v < 2 ^ 62) ∷ [];
  accepted = λ o v at fits all. fits;
}

-- n bytes, whose read may allocate as they come
abbrev pub vec : ℕ → Plain (List ℕ)
vec n = record {
  read = λ o. vec_decoder o n;
  write = λ o xs. buffer o xs ∷ [];
  size = λ xs. 8 * length xs;
  facts = λ xs. All (λ b. b < 256) xs ∷ (length xs ≡ n) ∷ [];
  round_trip = λ o xs fits. record { back = (bytes-goes o n xs fits.1 fits.0).back };
  packs = λ o xs fits. one-packs (bytes-written o (length xs) xs refl);
  besides = λ xs. All (λ b. b < 256) xs ∷ (length xs ≡ n) ∷ [];
  accepted = λ o xs at fits all. fits;
}

-- ---- a size before a part

-- what is written of a value, and its number of bits
pub record Written (A : Type 0) : Type 1 where
  pub write : Order → A → List Encoder
  pub size : A → ℕ
  pub fits : A → Type 0
  pub packs : (o : Order) (a : A) → fits a → Packs (write o a) (size a)

-- of a format
abbrev pub of_format : {A V : Type 0} {ok : A → V} → Format A V ok → Written A
of_format F = record { write = F.write; size = F.size; fits = λ a. AllOf (F.facts a); packs = F.packs }

-- of a choice
abbrev pub of_choice : {A V : Type 0} {ok : A → V} → Choice A V ok → Written A
of_choice C = record { write = C.write; size = C.size; fits = C.fits; packs = λ o a fits. (C.goes o a fits).packs }

-- of items
abbrev pub of_items : {A V : Type 0} {ok : A → V} → Format A V ok → Written (List A)
of_items F = record {
  write = λ o xs. flat_map (F.write o) xs;
  size = λ xs. parts_size F.size xs;
  fits = λ xs. All (λ x. Fits F x) xs;
  packs = λ o xs fits. packs_each F o xs fits;
}

pub size-most : (width m : ℕ) → nat_le (8 * 2 ^ width) 18446744073709551615 ≡ true → m / 8 < 2 ^ width → m ≤ 18446744073709551615
size-most width m room small = let most = leb-true _ _ room in omega (arith, most, small)

-- the number of bytes of a later part, in `width` bits
abbrev pub size_of_part : {S W A : Type 0} (width : ℕ) → nat_le width 64 ≡ true
    → nat_le (8 * 2 ^ width) 18446744073709551615 ≡ true → Written A → (S → A) → Part S W ℕ
size_of_part width wide room P get = record {
  read = λ o f. and_then (unsigned_decoder o 64 width) f;
  get = λ s. P.size (get s) / 8;
  write = λ o s. size_encoder o width (P.write High (get s)) ∷ [];
  size = λ s. width;
  facts = λ s. (P.size (get s) / 8 < 2 ^ width) ∷ P.fits (get s) ∷ [];
  made = λ s. [];
  round_trip = λ o s f es w fits made rest.
      size-back o width (P.write High (get s)) es w (P.size (get s)) f (P.packs High (get s) fits.1)
      (size-most width (P.size (get s)) room fits.0) wide fits.0 rest;
  packs = λ o s fits made.
      one-packs (size-written o width (P.write High (get s)) (P.size (get s)) (P.packs High (get s) fits.1)
      (size-most width (P.size (get s)) room fits.0) wide fits.0);
  besides = λ s. (P.size (get s) / 8 < 2 ^ width) ∷ P.fits (get s) ∷ [];
  accepted = λ o s at fits all. fits;
}

module _ (width unit plus less m : ℕ) (low : nat_le (2 ^ width) 18446744073709551615 ≡ true)
    (room : nat_lt (8 * (2 ^ width * unit + less)) 18446744073709551615 ≡ true)
    (small : stored_size unit plus less (m / 8) < 2 ^ width) where
  pub units-room : nat_lt (2 ^ width * unit + less) 18446744073709551615 ≡ true
  units-room = lt-ltb _ _ (let most = ltb-true _ _ room in omega (arith, most))

  pub stored-most : m ≤ 18446744073709551615
  stored-most =
      let whole : m / 8 + plus ≡ stored_size unit plus less (m / 8) * unit + less =
      stored-whole unit plus less (m / 8) (2 ^ width) small low units-room in
      let fewer : stored_size unit plus less (m / 8) * unit ≤ 2 ^ width * unit = mul-le-mul_right unit (omega (arith, small)) in
      let most = ltb-true _ _ room in
      omega (arith, whole, fewer, most)

-- the number that states the bytes of a later part in units, in `width` bits
abbrev pub stored_of_part : {S W A : Type 0} (width unit plus less : ℕ) → nat_le width 64 ≡ true
    → nat_le (2 ^ width) 18446744073709551615 ≡ true
    → nat_lt (8 * (2 ^ width * unit + less)) 18446744073709551615 ≡ true → Written A → (S → A) → Part S W ℕ
stored_of_part width unit plus less wide low room P get = record {
  read = λ o f. and_then (unsigned_decoder o 64 width) f;
  get = λ s. stored_size unit plus less (P.size (get s) / 8);
  write = λ o s. stored_encoder o width unit plus less (P.write High (get s)) ∷ [];
  size = λ s. width;
  facts = λ s. (stored_size unit plus less (P.size (get s) / 8) < 2 ^ width) ∷ P.fits (get s) ∷ [];
  made = λ s. [];
  round_trip = λ o s f es w fits made rest.
      stored-back o width unit plus less (P.write High (get s)) es w (P.size (get s)) f (P.packs High (get s) fits.1)
      (stored-most width unit plus less (P.size (get s)) low room fits.0) wide fits.0 rest;
  packs = λ o s fits made.
      one-packs (stored-written o width unit plus less (P.write High (get s)) (P.size (get s)) (P.packs High (get s) fits.1)
      (stored-most width unit plus less (P.size (get s)) low room fits.0) wide fits.0);
  besides = λ s. (stored_size unit plus less (P.size (get s) / 8) < 2 ^ width) ∷ P.fits (get s) ∷ [];
  accepted = λ o s at fits all. fits;
}

-- ---- the part

pub filled-goes : {A E : Type 0} (F : Own E A) (err : E) (own : Error → E) (ended : E → E) (n : ℕ) → ((a : A) → 8 ≤ F.size a)
    → (o : Order) (xs : List A) → All (λ x. Fits F x) xs → parts_size F.size xs ≡ 8 * n
    → IsReadAs (flat_map (F.write o) xs) (filled_decoder F.read err own ended o n) (Ok xs)
filled-goes {A = A} F err own ended n wide o xs fits whole =
    let one = λ (x : A) (h : Fits F x) (at : ℕ). let long = (F.packs o x h).size at in subst (λ (k : ℕ). 8 ≤ k) (sym long) (wide x) in
    filled-read F.read err own ended o n (F.write o) xs (packs-is (packs_each F o xs fits) whole)
    (All-weaker (λ x. Fits F x) (λ x. IsReadAs (F.write o x) (F.read o) (Ok x)) (λ x h. (F.round_trip o x h).back) xs fits)
    (All-weaker (λ x. Fits F x) (λ x. (at : ℕ) → 8 ≤ length (write_sequence (F.write o x) at)) one xs fits)

module _ {A E : Type 0} (F : Own E A) (err : E) (own : Error → E) (ended : E → E) (n : ℕ) where
  -- a part over n bytes alone
  abbrev pub over_bytes : Own E A
  over_bytes = record {
    read = λ o. sized_decoder F.read err own ended o n;
    write = F.write;
    size = F.size;
    facts = λ a. AllOf (F.facts a) ∷ (F.size a ≡ 8 * n) ∷ [];
    round_trip = λ o a fits. record {
      back =
          sized-read F.read err own ended o n (F.write o a) a (packs-is (F.packs o a fits.0) fits.1)
          (F.round_trip o a fits.0).back;
    };
    packs = λ o a fits. F.packs o a fits.0;
    besides = λ a. AllOf (F.facts a) ∷ (F.size a ≡ 8 * n) ∷ [];
    accepted = λ o a at fits all. fits;
  }

  -- items over n bytes alone, each of at least one byte
  abbrev pub filling : ((a : A) → 8 ≤ F.size a) → Own E (List A)
  filling wide = record {
    read = λ o. filled_decoder F.read err own ended o n;
    write = λ o xs. flat_map (F.write o) xs;
    size = λ xs. parts_size F.size xs;
    facts = λ xs. All (λ x. Fits F x) xs ∷ (parts_size F.size xs ≡ 8 * n) ∷ [];
    round_trip = λ o xs fits. record { back = filled-goes F err own ended n wide o xs fits.0 fits.1 };
    packs = λ o xs fits. packs_each F o xs fits.0;
    besides = λ xs. All (λ x. Fits F x) xs ∷ (parts_size F.size xs ≡ 8 * n) ∷ [];
    accepted = λ o xs at fits all. fits;
  }

-- a part by the number that states its bytes in units: `bytes` is how many a value has, and F the format of n bytes
abbrev pub in_units : {A E : Type 0} (unit plus less most : ℕ) → nat_le most 18446744073709551615 ≡ true
    → nat_lt (most * unit + less) 18446744073709551615 ≡ true → E → (bytes : A → ℕ) (F : ℕ → Own E A) → ℕ → Own E A
in_units unit plus less most low room err bytes F number = record {
  read = λ o. stated_decoder unit plus less err (λ p n. (F n).read p) o number;
  write = λ o a. (F (bytes a)).write o a;
  size = λ a. (F (bytes a)).size a;
  facts = λ a. AllOf ((F (bytes a)).facts a) ∷ (stored_size unit plus less (bytes a) < most)
      ∷ (stored_size unit plus less (bytes a) ≡ number) ∷ [];
  round_trip = λ o a fits. record {
    back =
        subst (λ (k : ℕ). IsReadAs ((F (bytes a)).write o a) (stated_decoder unit plus less err (λ p n. (F n).read p) o k) (Ok a))
        fits.1.1
        (stated-read unit plus less (bytes a) most fits.1.0 low room err (λ p n. (F n).read p) o ((F (bytes a)).write o a) (Ok a)
        ((F (bytes a)).round_trip o a fits.0).back);
  };
  packs = λ o a fits. (F (bytes a)).packs o a fits.0;
  besides = λ a. AllOf ((F (bytes a)).facts a) ∷ (stored_size unit plus less (bytes a) < most)
      ∷ (stored_size unit plus less (bytes a) ≡ number) ∷ [];
  accepted = λ o a at fits all. fits;
}

-- One of several cases by a number, as `./format` prints it: a function reads the case with a number, and another writes a case.
use Rattle.std.proofs.Common.{◌≡◌, ℕ, ◌*◌, ◌/◌, ◌<◌, List, [], ◌∷◌, length, Result, Ok, refl, subst, arith}
use Rattle.std.specs.List.{All}
use Rattle.bitstream_io.specs.Callers.{Decoder, Encoder, Order, and_then, pure, part_then, vec_decoder, buffer}
use Rattle.bitstream_io.proofs.CallsBack.{then_made-read, mapped-read}
use Rattle.bitstream_io.proofs.CallerLemmas.{RoundTrip, Packs, pure-back, packs-none, bytes-written}
use Rattle.bitstream_format.specs.AtomLaws.{bytes-goes, one-packs}
use Rattle.bitstream_format.specs.Format.{Format, Plain, Own, Fits}

-- the laws of one value: it is read back as `v`, and its calls are accepted and append n bits
pub record Goes {V : Type 0} (read : Decoder V) (write : List Encoder) (v : V) (n : ℕ) : Type 0 where
  pub back : RoundTrip read write v
  pub packs : Packs write n

-- a case that holds a value of a format with errors of its own
pub held-goes : {P S E : Type 0} (F : Own E P) (wrap : P → S) (o : Order) (p : P) → Fits F p
    → Goes (and_then (F.read o) (part_then {E = E} (λ v. pure (Ok (wrap v))))) (F.write o p) (Ok (wrap p)) (F.size p)
held-goes F wrap o p fits = record {
  back = record { back = then_made-read (F.read o) wrap (F.write o p) p (F.round_trip o p fits).back };
  packs = F.packs o p fits;
}

-- the same of a format whose read has no error but the reader's
pub plain_held-goes : {P V : Type 0} (F : Plain P) (make : P → V) (o : Order) (p : P) → Fits F p
    → Goes (and_then (F.read o) (λ v. pure (make v))) (F.write o p) (make p) (F.size p)
plain_held-goes F make o p fits = record {
  back = record { back = mapped-read make (F.write o p) (F.read o) p (F.round_trip o p fits).back };
  packs = F.packs o p fits;
}

-- a case that holds nothing
pub alone-goes : {V : Type 0} (v : V) → Goes (pure v) [] v 0
alone-goes v = record { back = pure-back v; packs = packs-none }

-- a case that holds bytes
pub bytes_held-goes : {P S E : Type 0} (make : List ℕ → P) (wrap : P → S) (o : Order) (bytes : List ℕ)
    → All (λ b. b < 256) bytes → Goes
    (and_then (and_then (vec_decoder o (8 * length bytes / 8)) (λ xs. pure (Ok (make xs)))) (part_then {E = E} (λ v. pure (Ok (wrap v)))))
    (buffer o bytes ∷ []) (Ok (wrap (make bytes))) (8 * length bytes)
bytes_held-goes {P = P} {E = E} make wrap o bytes fit =
    let n = 8 * length bytes / 8 in
    let same : length bytes ≡ n = omega arith in
    let answer : List ℕ → Result P E = λ xs. Ok (make xs) in
    let read = mapped-read answer (buffer o bytes ∷ []) (vec_decoder o n) bytes (bytes-goes o n bytes same fit).back in
    record {
      back = record {
        back =
            then_made-read (and_then (vec_decoder o n) (λ xs. pure (answer xs))) wrap (buffer o bytes ∷ []) (make bytes) read;
      };
      packs = one-packs (bytes-written o (length bytes) bytes refl);
    }

-- a choice of A: the number of a case, what is read by a number, what is written of a case, and its laws
pub record Choice (A V : Type 0) (ok : A → V) : Type 1 where
  pub number : A → ℕ
  pub read : Order → ℕ → Decoder V
  pub write : Order → A → List Encoder
  pub size : A → ℕ
  pub fits : A → Type 0
  pub goes : (o : Order) (a : A) → fits a → Goes (read o (number a)) (write o a) (ok a) (size a)

-- the case with the number n
abbrev pub chosen : {A V : Type 0} {ok : A → V} → Choice A V ok → ℕ → Format A V ok
chosen {V = V} {ok = ok} C n = record {
  read = λ o. C.read o n;
  write = C.write;
  size = C.size;
  facts = λ a. C.fits a ∷ (C.number a ≡ n) ∷ [];
  round_trip = λ o a fits.
      subst (λ (k : ℕ). RoundTrip {A = V} (C.read o k) (C.write o a) (ok a)) fits.1 (C.goes o a fits.0).back;
  packs = λ o a fits. (C.goes o a fits.0).packs;
  besides = λ a. C.fits a ∷ (C.number a ≡ n) ∷ [];
  accepted = λ o a at fits all. fits;
}

-- a choice whose other numbers keep as many bytes as their size states: it is read by the number and this size
abbrev pub by_size : {A V : Type 0} {ok : A → V} (number : A → ℕ) (read : Order → ℕ → ℕ → Decoder V)
    (write : Order → A → List Encoder) (size : A → ℕ) (fits : A → Type 0)
    → ((o : Order) (a : A) → fits a → Goes (read o (number a) (size a / 8)) (write o a) (ok a) (size a)) → ℕ → Choice A V ok
by_size {ok = ok} number read write size fits goes k = record {
  number = number;
  read = λ o n. read o n k;
  write = write;
  size = size;
  fits = λ a. fits a × (size a / 8 ≡ k);
  goes = λ o a fits.
      subst (λ (j : ℕ). Goes (read o (number a) j) (write o a) (ok a) (size a)) fits.1 (goes o a fits.0);
}

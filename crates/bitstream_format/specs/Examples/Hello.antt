-- The first message of a TLS connection (RFC 8446, 4.1.2). Of its extensions two are known, and the others keep their bytes.
use Rattle.std.proofs.Common.{◌≡◌, ℕ, ◌+◌, ◌*◌, ◌/◌, ◌==◌, List, [], ◌∷◌, length, Option, Some, None, Result, Ok, refl, arith}
use Rattle.std.specs.Prelude.{◌<◌, ◌^◌, ◌≢◌}
use Rattle.std.specs.List.{All}
use Rattle.std.proofs.lemmas.Bool.{ne_eqb}
use Rattle.std.proofs.lemmas.List.Elements.{All-weaker}
use Rattle.bitstream_io.specs.Callers.{Error}
use Rattle.bitstream_io.specs.Loop.{parts_size}
use Rattle.bitstream_format.specs.Format.{◌>>=◌, Own, Parts, Fits, format, format_if_made, named, field, own_field, const, own_done}
use Rattle.bitstream_format.specs.Atoms as atom
use Rattle.bitstream_format.specs.Lists.{own, byte_list}
use Rattle.bitstream_format.specs.Choices.{case, choose}
use Rattle.bitstream_format.specs.Sizes.{growing_sized, fill}

-- the errors of reading a message
pub data HelloError : Type 0 where
  Reader : Error → HelloError
  OtherMessage : HelloError
  WrongSize : HelloError

-- the algorithms of signatures that a client takes, a flag, or the bytes of another extension
pub data Extension : Type 0 where
  Algorithms : List ℕ → Extension
  ExtendedSecret : Extension
  Other : ℕ → List ℕ → Extension

-- a message; the compressions are bytes, and the suites and algorithms numbers
pub record Hello : Type 0 where
  pub version : ℕ
  pub random : List ℕ
  pub session : List ℕ
  pub suites : List ℕ
  pub compressions : List ℕ
  pub extensions : List Extension

-- ---- an extension

-- the type of an extension
abbrev pub type_of : Extension → ℕ
type_of (Algorithms xs) = 13
type_of ExtendedSecret = 23
type_of (Other type bytes) = type

-- the algorithms of an extension, if it has them
abbrev pub algorithms_in : Extension → Option (List ℕ)
algorithms_in (Algorithms xs) = Some xs
algorithms_in ExtendedSecret = None
algorithms_in (Other type bytes) = None

-- the bytes of an extension that is not known
abbrev pub bytes_in : Extension → List ℕ
bytes_in (Algorithms xs) = []
bytes_in ExtendedSecret = []
bytes_in (Other type bytes) = bytes

-- the bytes after the size
abbrev pub count_of : Extension → ℕ
count_of (Algorithms xs) = 2 + 2 * length xs
count_of ExtendedSecret = 0
count_of (Other type bytes) = length bytes

-- numbers of 16 bits, after the number of their bytes
abbrev pub numbers : Own HelloError (List ℕ)
numbers = format (do
  size ← field (atom.unsigned 64 16 refl) (λ s. 2 * length s)
  found ← own_field (fill size (own (atom.unsigned 16 16 refl)) WrongSize Reader) (λ s. s)
  own_done found) (λ s. refl {a = s})

-- what an extension holds, by its type and size
abbrev pub inside : ℕ → ℕ → Parts Extension (Result Extension HelloError) (λ s. Ok s)
inside type count =
    choose (type == 13) (case numbers Algorithms algorithms_in) (choose (type == 23) (own_done ExtendedSecret)
    (do
      bytes ← byte_list count bytes_in
      own_done (Other type bytes)))

-- each number fits its bits, and another type is another one
abbrev pub ExtensionFits : Extension → Type 0
ExtensionFits (Algorithms xs) = (length xs < 32767) × All (λ x. x < 2 ^ 16) xs
ExtensionFits ExtendedSecret = Unit {0}
ExtensionFits (Other type bytes) =
    (type < 2 ^ 16) × (type ≢ 13) × (type ≢ 23) × (length bytes < 2 ^ 16) × All (λ b. b < 256) bytes

-- an extension: a type, a size in bytes, and what it holds
abbrev pub extension_parts : Own HelloError Extension
extension_parts = format (do
  type ← field (atom.unsigned 16 16 refl) type_of
  count ← field (atom.unsigned 64 16 refl) count_of
  found ← own_field (growing_sized count (format_if_made (inside type count)) WrongSize Reader) (λ s. s)
  own_done found) (λ s. refl {a = s})

pub size_of_numbers : (xs : List ℕ) → parts_size {A = ℕ} (λ x. 16) xs ≡ 8 * (2 * length xs)
size_of_numbers [] = refl
size_of_numbers (x ∷ xs) = let others = size_of_numbers xs in omega arith

pub extension_facts : (s : Extension) → ExtensionFits s → Fits extension_parts s
extension_facts (Algorithms xs) fits =
    let size = size_of_numbers xs in
    let some = All-weaker (λ x. x < 2 ^ 16) (λ x. 0 < 16) (λ x h. omega arith) xs fits.1 in
    let fewer = fits.0 in
    (omega arith, (omega arith, (omega arith, ((omega arith, (size, (fits.1, some))), refl))))
extension_facts ExtendedSecret fits = (omega arith, (omega arith, (refl, (tt, refl))))
extension_facts (Other type bytes) fits =
    rw (ne_eqb type 13 fits.1, ne_eqb type 23 fits.2) (fits.0, (fits.3, (omega arith, (fits.4, (refl, refl)))))

-- an extension, with the facts that must fit by name
abbrev pub extension : Own HelloError Extension
extension = named ExtensionFits extension_parts extension_facts

-- ---- the message

-- the message after its type and size
abbrev pub body : Own HelloError Hello
body = format (do
  version ← field (atom.unsigned 16 16 refl) (λ s. s.version)
  random ← field (atom.bytes 32) (λ s. s.random)
  session_count ← field (atom.unsigned 64 8 refl) (λ s. length s.session)
  session ← byte_list session_count (λ s. s.session)
  suites ← own_field numbers (λ s. s.suites)
  compressions_count ← field (atom.unsigned 64 8 refl) (λ s. length s.compressions)
  compressions ← byte_list compressions_count (λ s. s.compressions)
  count ← field (atom.unsigned 64 16 refl) (λ s. parts_size extension.size s.extensions / 8)
  extensions ← own_field (fill count extension WrongSize Reader) (λ s. s.extensions)
  own_done (record {
    version = version;
    random = random;
    session = session;
    suites = suites;
    compressions = compressions;
    extensions = extensions;
  })) (λ s. (refl, (refl, refl {a = s})))

-- the message: a type, a size in bytes, and the rest
abbrev pub hello : Own HelloError Hello
hello = format (do
  type ← const 8 1 refl OtherMessage
  count ← field (atom.unsigned 64 24 refl) (λ s. body.size s / 8)
  found ← own_field (growing_sized count body WrongSize Reader) (λ s. s)
  own_done found) (λ s. refl {a = s})

-- The first message of a TLS connection.
use Rattle.bitstream_callers.specs.declared.client_hello.ClientHello.{ClientHello}
use Rattle.bitstream_callers.specs.declared.client_hello.ClientHelloError.{ClientHelloError}
use Rattle.bitstream_callers.specs.declared.client_hello.ClientHelloError.TheVariants.{Reader, OtherMessage, NoCompression}
use Rattle.bitstream_callers.specs.declared.client_hello.Compression.{Compression}
use Rattle.bitstream_callers.specs.declared.client_hello.Compression.TheVariants.{Null, Deflate}
use Rattle.std.proofs.Common.{refl, true}
use Rattle.bitstream_format.specs.Format.{◌>>=◌, Own as OwnFormat, Parts as FormatParts, format, named, field, const, sure, ◌&◌, own_done}
use Rattle.bitstream_format.specs.Lists.{own_even_list, byte_list}
use Rattle.bitstream_format.specs.Cases.{cases}
use Rattle.std.specs.Prelude.{◌≡◌, ◌^◌, ◌<◌, ◌++◌, ◌∷◌, [], ◌==◌, if◌then◌else◌, ℕ, Bool, List, Result, Ok, Err, length, nat_lt}
use Rattle.std.specs.List.{All}
use Rattle.bitstream_io.specs.Callers.{Decoder, Encoder, pure, Error, Order, High, and_then, unsigned_decoder, align, write_sequence}
use Rattle.bitstream_format.specs.Atoms as atom

-- Made by `./format` from formats/client_hello.fields: edit that file and make this one anew.

-- an error of the reader is one of the type's
abbrev pub becomes_client_hello : Error → ClientHelloError → Type 0
becomes_client_hello error own = own ≡ Reader error

-- the case of a number
abbrev pub compression_of : ℕ → (Result Compression ClientHelloError)
compression_of n = if n == 0 then Ok Null else if n == 1 then Ok Deflate else Err NoCompression

-- the number of a case
abbrev pub compression_number : Compression → ℕ
compression_number Null = 0
compression_number Deflate = 1

-- the read of a case
abbrev pub compression_read : Order → Decoder (Result Compression ClientHelloError)
compression_read o = and_then (unsigned_decoder o 8 8) (λ v. pure (compression_of v))

-- the number of each case fits its bits, and decodes to that case
pub compression_small : (it : Compression) → nat_lt (compression_number it) (2 ^ 8) ≡ true
compression_small Null = refl
compression_small Deflate = refl

pub compression_again : (it : Compression) → compression_of (compression_number it) ≡ Ok it
compression_again Null = refl
compression_again Deflate = refl

-- the cases, by their numbers
abbrev pub compression_cases : OwnFormat ClientHelloError Compression
compression_cases = cases 8 8 refl compression_of compression_number compression_small compression_again

-- the lines, in order
abbrev pub client_hello_lines : FormatParts ClientHello (Result ClientHello ClientHelloError) (λ s. Ok s)
client_hello_lines = do
  constant_0 ← const 8 1 refl OtherMessage
  size ← field (atom.unsigned 32 24 refl) (λ s. s.size)
  version ← field (atom.unsigned 16 16 refl) (λ s. s.version)
  random ← field (atom.bytes 32) (λ s. s.random)
  session_count ← field (atom.unsigned 64 8 refl) (λ s. length s.session)
  session ← byte_list session_count (λ s. s.session)
  suites_count ← field (atom.unsigned 64 16 refl) (λ s. length s.suites)
  suites ← byte_list suites_count (λ s. s.suites)
  compressions_count ← field (atom.unsigned 64 8 refl) (λ s. length s.compressions)
  compressions ← sure (own_even_list compressions_count 8 compression_cases (λ x. refl) (λ s. s.compressions)) (λ s. λ k
      d below. tt)
  extensions_count ← field (atom.unsigned 64 16 refl) (λ s. length s.extensions)
  extensions ← byte_list extensions_count (λ s. s.extensions)
  own_done (record {
    size = size;
    version = version;
    random = random;
    session = session;
    suites = suites;
    compressions =
        compressions;
    extensions = extensions;
  })

-- the reads, in order
abbrev pub client_hello_decoder : Order → Decoder (Result ClientHello ClientHelloError)
client_hello_decoder o = client_hello_lines.read o

-- the writes, in order
abbrev pub client_hello_writes : Order → ClientHello → List Encoder
client_hello_writes o value = client_hello_lines.write o value

-- each field fits its bits
pub record Fits (value : ClientHello) : Type 0 where
  pub size : value.size < 2 ^ 24
  pub version : value.version < 2 ^ 16
  pub random_count : length value.random ≡ 32
  pub random : All (λ b. b < 256) value.random
  pub session_count : length value.session < 2 ^ 8
  pub session : All (λ b. b < 256) value.session
  pub suites_count : length value.suites < 2 ^ 16
  pub suites : All (λ b. b < 256) value.suites
  pub compressions_count : length value.compressions < 2 ^ 8
  pub extensions_count : length value.extensions < 2 ^ 16
  pub extensions : All (λ b. b < 256) value.extensions

-- the number of bits
abbrev pub client_hello_size : Order → ClientHello → ℕ
client_hello_size o value = client_hello_lines.size value

-- the format, with the facts that must fit by name
abbrev pub client_hello_format : OwnFormat ClientHelloError ClientHello
client_hello_format = named Fits (format client_hello_lines (λ s. (refl, (refl, (refl, (refl, refl {a = s}))))))
    (λ s fits. fits.size & fits.version & fits.random_count & fits.random & fits.session_count & fits.session &
    fits.suites_count & fits.suites & fits.compressions_count & fits.extensions_count & fits.extensions)

-- the bits of all fields, up to a whole byte
unfoldable pub client_hello_bits : ClientHello → List Bool
client_hello_bits value = write_sequence (client_hello_writes High value ++ align ∷ []) 0

-- The first message of a TLS 1.2 client, with typed extensions (RFC 5246, 7.4.1.2).
use Rattle.bitstream_messages.specs.declared.hello.Hello.{Hello}
use Rattle.bitstream_messages.specs.declared.hello.HelloError.{HelloError}
use Rattle.bitstream_messages.specs.declared.hello.HelloError.TheVariants.{Reader, OtherMessage, InExtensions}
use Rattle.bitstream_messages.specs.declared.extensions.Extensions.{Extensions}
use Rattle.bitstream_messages.specs.declared.extensions.ExtensionsError.{ExtensionsError}
use Rattle.bitstream_messages.specs.declared.extensions.ExtensionsError.TheVariants.{Reader as ExtensionsReader, Overlong as ExtensionsOverlong, InExtension as ExtensionsInExtension}
use Rattle.bitstream_messages.specs.Extensions.{extensions_decoder, extensions_format, Fits as ExtensionsFits}
use Rattle.std.proofs.Common.{refl}
use Rattle.bitstream_format.specs.Format.{◌>>=◌, Own as OwnFormat, Parts as FormatParts, format, named, field, own_field, const, ◌&◌, own_done}
use Rattle.bitstream_format.specs.Lists.{byte_list, with_error, error_of}
use Rattle.std.specs.Prelude.{◌≡◌, ◌^◌, ◌<◌, ◌++◌, ◌∷◌, [], ℕ, Bool, List, Result, Ok, length}
use Rattle.std.specs.List.{All}
use Rattle.bitstream_io.specs.Callers.{Decoder, Encoder, pure, Error, Order, High, and_then, align, write_sequence}
use Rattle.bitstream_format.specs.Atoms as atom

-- Made by `./format` from formats/hello.fields: edit that file and make this one anew.

-- an error of the reader is one of the type's
abbrev pub becomes_hello : Error → HelloError → Type 0
becomes_hello error own = own ≡ Reader error

-- an error of a `Extensions`, as an error of the type
abbrev pub extensions_error : ExtensionsError → HelloError
extensions_error (ExtensionsReader error) = Reader error
extensions_error ExtensionsOverlong = InExtensions ExtensionsOverlong
extensions_error (ExtensionsInExtension error) = InExtensions (ExtensionsInExtension error)

-- a result with these errors
abbrev pub extensions_answer : Result Extensions ExtensionsError → Result Extensions HelloError
extensions_answer = error_of extensions_error

-- the reads of a `Extensions`, with the errors of the type
abbrev pub extensions_here : Order → Decoder (Result Extensions HelloError)
extensions_here o = and_then (extensions_decoder o) (λ answer. pure (extensions_answer answer))

-- the lines, in order
abbrev pub hello_lines : FormatParts Hello (Result Hello HelloError) (λ s. Ok s)
hello_lines = do
  constant_0 ← const 8 1 refl OtherMessage
  length_ ← field (atom.unsigned 32 24 refl) (λ s. s.length)
  version ← field (atom.unsigned 16 16 refl) (λ s. s.version)
  random ← field (atom.bytes 32) (λ s. s.random)
  session_count ← field (atom.unsigned 64 8 refl) (λ s. length s.session)
  session ← byte_list session_count (λ s. s.session)
  suites_count ← field (atom.unsigned 64 16 refl) (λ s. length s.suites)
  suites ← byte_list suites_count (λ s. s.suites)
  compressions_count ← field (atom.unsigned 64 8 refl) (λ s. length s.compressions)
  compressions ← byte_list compressions_count (λ s. s.compressions)
  extensions ← own_field (with_error extensions_error extensions_format) (λ s. s.extensions)
  own_done (record {
    length = length_;
    version = version;
    random = random;
    session = session;
    suites = suites;
    compressions = compressions;
    extensions = extensions;
  })

-- the reads, in order
abbrev pub hello_decoder : Order → Decoder (Result Hello HelloError)
hello_decoder o = hello_lines.read o

-- the writes, in order
abbrev pub hello_writes : Order → Hello → List Encoder
hello_writes o value = hello_lines.write o value

-- each field fits its bits
pub record Fits (value : Hello) : Type 0 where
  pub length_ : value.length < 2 ^ 24
  pub version : value.version < 2 ^ 16
  pub random_count : length value.random ≡ 32
  pub random : All (λ b. b < 256) value.random
  pub session_count : length value.session < 2 ^ 8
  pub session : All (λ b. b < 256) value.session
  pub suites_count : length value.suites < 2 ^ 16
  pub suites : All (λ b. b < 256) value.suites
  pub compressions_count : length value.compressions < 2 ^ 8
  pub compressions : All (λ b. b < 256) value.compressions
  pub extensions : ExtensionsFits value.extensions

-- the number of bits
abbrev pub hello_size : Order → Hello → ℕ
hello_size o value = hello_lines.size value

-- the format, with the facts that must fit by name
abbrev pub hello_format : OwnFormat HelloError Hello
hello_format = named Fits (format hello_lines (λ s. (refl, (refl, (refl, refl {a = s})))))
    (λ s fits. fits.length_ & fits.version & fits.random_count & fits.random & fits.session_count & fits.session &
    fits.suites_count & fits.suites & fits.compressions_count & fits.compressions & fits.extensions)

-- the bits of all fields, up to a whole byte
unfoldable pub hello_bits : Hello → List Bool
hello_bits value = write_sequence (hello_writes High value ++ align ∷ []) 0

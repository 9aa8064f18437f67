-- The name and the password of a user, as a client of SOCKS sends them (RFC 1929, section 2).
use Rattle.protocols.specs.declared.socks_login.SocksLogin.{SocksLogin}
use Rattle.protocols.specs.declared.socks_login.SocksLoginError.{SocksLoginError}
use Rattle.protocols.specs.declared.socks_login.SocksLoginError.TheVariants.{Reader, OtherVersion}
use Rattle.std.proofs.Common.{refl}
use Rattle.bitstream_format.specs.Format.{◌>>=◌, Own as OwnFormat, Parts as FormatParts, format, named, field, const, ◌&◌, own_done}
use Rattle.bitstream_format.specs.Measured.{vec}
use Rattle.std.specs.Prelude.{◌≡◌, ◌^◌, ◌<◌, ◌++◌, ◌∷◌, [], ℕ, Bool, List, Result, Ok, length}
use Rattle.std.specs.List.{All}
use Rattle.bitstream_io.specs.Callers.{Decoder, Encoder, Error, Order, High, align, write_sequence}
use Rattle.bitstream_format.specs.Atoms as atom

-- Made by `./format` from formats/socks_login.fields: edit that file and make this one anew.

-- an error of the reader is one of the type's
abbrev pub becomes_socks_login : Error → SocksLoginError → Type 0
becomes_socks_login error own = own ≡ Reader error

-- the lines, in order
abbrev pub socks_login_lines : FormatParts SocksLogin (Result SocksLogin SocksLoginError) (λ s. Ok s)
socks_login_lines = do
  constant_0 ← const 8 1 refl OtherVersion
  name_bytes ← field (atom.unsigned 64 8 refl) (λ s. length s.name)
  name ← field (vec name_bytes) (λ s. s.name)
  password_bytes ← field (atom.unsigned 64 8 refl) (λ s. length s.password)
  password ← field (vec password_bytes) (λ s. s.password)
  own_done (record { name = name; password = password })

-- the reads, in order
abbrev pub socks_login_decoder : Order → Decoder (Result SocksLogin SocksLoginError)
socks_login_decoder o = socks_login_lines.read o

-- the writes, in order
abbrev pub socks_login_writes : Order → SocksLogin → List Encoder
socks_login_writes o value = socks_login_lines.write o value

-- each field fits its bits
pub record Fits (value : SocksLogin) : Type 0 where
  pub name_bytes : length value.name < 2 ^ 8
  pub name : All (λ b. b < 256) value.name
  pub password_bytes : length value.password < 2 ^ 8
  pub password : All (λ b. b < 256) value.password

-- the number of bits
abbrev pub socks_login_size : Order → SocksLogin → ℕ
socks_login_size o value = socks_login_lines.size value

-- the format, with the facts that must fit by name
abbrev pub socks_login_format : OwnFormat SocksLoginError SocksLogin
socks_login_format = named Fits (format socks_login_lines (λ s. refl {a = s}))
    (λ s fits. fits.name_bytes & fits.name & refl & fits.password_bytes & fits.password & refl)

-- the bits of all fields, up to a whole byte
unfoldable pub socks_login_bits : SocksLogin → List Bool
socks_login_bits value = write_sequence (socks_login_writes High value ++ align ∷ []) 0

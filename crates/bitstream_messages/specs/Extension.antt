-- An extension of a TLS hello (RFC 8446, 4.2).
use Rattle.bitstream_messages.specs.declared.extension.Extension.{Extension}
use Rattle.bitstream_messages.specs.declared.extension.ExtensionError.{ExtensionError}
use Rattle.bitstream_messages.specs.declared.extension.ExtensionError.TheVariants.{Reader, OtherSize}
use Rattle.bitstream_messages.specs.declared.extension.Body.{Body}
use Rattle.bitstream_messages.specs.declared.extension.Body.TheVariants.{ExtendedSecret as BodyExtendedSecret, Renegotiation as BodyRenegotiation, Other as BodyOther}
use Rattle.bitstream_messages.specs.declared.extension.OtherBody.{OtherBody}
use Rattle.bitstream_messages.specs.declared.renegotiation.Renegotiation.{Renegotiation}
use Rattle.bitstream_format.specs.Within.{is_end, sized_decoder}
use Rattle.bitstream_messages.specs.Renegotiation.{renegotiation_decoder, renegotiation_writes, renegotiation_size, renegotiation_format, Fits as RenegotiationFits}
use Rattle.std.proofs.Common.{refl, arith}
use Rattle.std.proofs.lemmas.Bool.{ne_eqb}
use Rattle.bitstream_format.specs.Format.{◌>>=◌, Own as OwnFormat, Parts as FormatParts, format, named, field, own_field, ◌&◌, own_done}
use Rattle.bitstream_format.specs.Lists.{with_error, error_of}
use Rattle.bitstream_format.specs.Chosen.{Choice as FormatChoice, chosen, by_size, Goes as CaseGoes, held-goes, alone-goes, bytes_held-goes}
use Rattle.bitstream_format.specs.Measured.{Written as WrittenPart, size_of_part, over_bytes}
use Rattle.std.specs.Prelude.{◌≡◌, ◌≢◌, ◌^◌, ◌<◌, ◌*◌, ◌/◌, ◌++◌, ◌∷◌, [], ◌==◌, if◌then◌else◌, ℕ, Bool, List, Result, Ok, length, ⊤}
use Rattle.std.specs.List.{All}
use Rattle.bitstream_io.specs.Callers.{Decoder, Encoder, pure, Error, Order, High, number, and_then, vec_decoder, buffer, align, write_sequence, part_then}
use Rattle.bitstream_format.specs.Atoms as atom

-- Made by `./format` from formats/extension.fields: edit that file and make this one anew.

-- an error of the reader is one of the type's
abbrev pub becomes_extension : Error → ExtensionError → Type 0
becomes_extension error own = own ≡ Reader error

-- an error of a `Renegotiation`, as an error of the type
abbrev pub renegotiation_error : Error → ExtensionError
renegotiation_error error = Reader error

-- a result with these errors
abbrev pub renegotiation_answer : Result Renegotiation Error → Result Renegotiation ExtensionError
renegotiation_answer = error_of renegotiation_error

-- the reads of a `Renegotiation`, with the errors of the type
abbrev pub renegotiation_here : Order → Decoder (Result Renegotiation ExtensionError)
renegotiation_here o = and_then (renegotiation_decoder o) (λ answer. pure (renegotiation_answer answer))

-- the number of the case of a `Body`
abbrev pub body_number : Body → ℕ
body_number BodyExtendedSecret = 23
body_number (BodyRenegotiation it) = 65281
body_number (BodyOther it) = it.number

-- the reads of k bytes after another number
abbrev pub other_body_read : Order → ℕ → ℕ → Decoder (Result OtherBody ExtensionError)
other_body_read o n k = and_then (vec_decoder o k) (λ bytes. pure (Ok (record { number = n; bytes = bytes })))

-- the reads of the case with the number n
abbrev pub body_read : Order → ℕ → ℕ → Decoder (Result Body ExtensionError)
body_read o n k = if n == 23 then pure (Ok (BodyExtendedSecret)) else if n == 65281 then and_then (renegotiation_here o)
    (part_then (λ it. pure (Ok (BodyRenegotiation it)))) else and_then (other_body_read o n k) (part_then (λ it. pure
    (Ok (BodyOther it))))

-- the writes behind the number
abbrev pub body_writes : Order → Body → List Encoder
body_writes o BodyExtendedSecret = []
body_writes o (BodyRenegotiation it) = renegotiation_writes o it
body_writes o (BodyOther it) = buffer o it.bytes ∷ []

-- the number of their bits
abbrev pub body_size : Order → Body → ℕ
body_size o BodyExtendedSecret = 0
body_size o (BodyRenegotiation it) = renegotiation_size o it
body_size o (BodyOther it) = 8 * length it.bytes

-- the case fits its bits
abbrev pub body_fits : Body → Type 0
body_fits BodyExtendedSecret = ⊤
body_fits (BodyRenegotiation it) = RenegotiationFits it
body_fits (BodyOther it) = (it.number < 2 ^ 16) × (it.number ≢ 23) × (it.number ≢ 65281) × (All (λ b. b < 256) it.bytes)

-- an error inside the bytes of `body`: their end is `OtherSize`
abbrev pub body_ended : ExtensionError → ExtensionError
body_ended (Reader error) = if is_end error then OtherSize else Reader error
body_ended OtherSize = OtherSize

-- the reads of `body`, of n bytes, over these bytes alone
abbrev pub body_sized : Order → ℕ → ℕ → Decoder (Result Body ExtensionError)
body_sized o number n = sized_decoder (λ o. body_read o number n) OtherSize (λ error. Reader error) body_ended o n

-- the number of each case fits its bits
pub body_small : (it : Body) → body_fits it → body_number it < 2 ^ 16
body_small BodyExtendedSecret fits = omega arith
body_small (BodyRenegotiation it) fits = omega arith
body_small (BodyOther it) fits = fits.0

-- each case is read back behind its number, and its writes are accepted
pub body_goes : (o : Order) (it : Body) → body_fits it
    → CaseGoes (body_read o (body_number it) (body_size High it / 8)) (body_writes o it) (Ok it) (body_size High it)
body_goes o BodyExtendedSecret fits = alone-goes (Ok BodyExtendedSecret)
body_goes o (BodyRenegotiation it) fits = held-goes (with_error renegotiation_error renegotiation_format) (λ v.
    BodyRenegotiation v) o it fits
body_goes o (BodyOther it) fits = rw (ne_eqb it.number 23 fits.1, ne_eqb it.number 65281 fits.2) (bytes_held-goes {P =
    OtherBody} (λ bytes. record { number = it.number; bytes = bytes }) (λ v. BodyOther v) o it.bytes fits.3)

-- the choice
abbrev pub body_choice : ℕ → FormatChoice Body (Result Body ExtensionError) (λ it. Ok it)
body_choice = by_size body_number body_read body_writes (body_size High) body_fits body_goes

-- what is written of a `Body`
abbrev pub body_written : WrittenPart Body
body_written = record {
  write = body_writes;
  size = body_size High;
  fits = body_fits;
  packs = λ o it fits. (body_goes o
      it fits).packs;
}

-- the lines, in order
abbrev pub extension_lines : FormatParts Extension (Result Extension ExtensionError) (λ s. Ok s)
extension_lines = do
  body_tag ← field (atom.unsigned 16 16 refl) (λ s. body_number s.body)
  body_bytes ← size_of_part 16 refl refl body_written (λ s. s.body)
  body ← own_field (over_bytes (chosen (body_choice body_bytes) body_tag) OtherSize (λ error. Reader error) body_ended
      body_bytes) (λ s. s.body)
  own_done (record { body = body })

-- the reads, in order
abbrev pub extension_decoder : Order → Decoder (Result Extension ExtensionError)
extension_decoder o = extension_lines.read o

-- the writes, in order
abbrev pub extension_writes : Order → Extension → List Encoder
extension_writes o value = extension_lines.write o value

-- each field fits its bits
pub record Fits (value : Extension) : Type 0 where
  pub body_bytes : body_size High value.body / 8 < 2 ^ 16
  pub body : body_fits value.body
  pub body_whole : (o : Order) → body_size o value.body ≡ 8 * (body_size High value.body / 8)

-- the number of bits
abbrev pub extension_size : Order → Extension → ℕ
extension_size o value = extension_lines.size value

-- the format, with the facts that must fit by name
abbrev pub extension_format : OwnFormat ExtensionError Extension
extension_format = named Fits (format extension_lines (λ s. refl {a = s}))
    (λ s fits. body_small s.body fits.body & fits.body_bytes & fits.body & ((fits.body, refl), refl) & fits.body_whole
    High)

-- the bits of all fields, up to a whole byte
unfoldable pub extension_bits : Extension → List Bool
extension_bits value = write_sequence (extension_writes High value ++ align ∷ []) 0

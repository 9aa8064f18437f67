-- A metadata block of a FLAC file (RFC 9639, 8.1).
use Rattle.media_messages.specs.declared.flac_block.FlacBlock.{FlacBlock}
use Rattle.media_messages.specs.declared.flac_block.FlacBlockError.{FlacBlockError}
use Rattle.media_messages.specs.declared.flac_block.FlacBlockError.TheVariants.{Reader, OtherSize}
use Rattle.media_messages.specs.declared.flac_block.Body.{Body}
use Rattle.media_messages.specs.declared.flac_block.Body.TheVariants.{Info as BodyInfo, Other as BodyOther}
use Rattle.media_messages.specs.declared.flac_block.OtherBody.{OtherBody}
use Rattle.bitstream_format.specs.Within.{is_end, sized_decoder}
use Rattle.media_messages.specs.FlacInfo.{flac_info_decoder, flac_info_writes, flac_info_size, flac_info_format, Fits as FlacInfoFits}
use Rattle.std.proofs.Common.{refl, arith}
use Rattle.std.proofs.lemmas.Bool.{ne_eqb}
use Rattle.bitstream_format.specs.Format.{◌>>=◌, Own as OwnFormat, Parts as FormatParts, format, named, field, own_field, ◌&◌, own_done}
use Rattle.bitstream_format.specs.Chosen.{Choice as FormatChoice, chosen, by_size, Goes as CaseGoes, plain_held-goes, bytes_held-goes}
use Rattle.bitstream_format.specs.Measured.{Written as WrittenPart, size_of_part, over_bytes}
use Rattle.std.specs.Prelude.{◌≡◌, ◌≢◌, ◌^◌, ◌<◌, ◌*◌, ◌/◌, ◌++◌, ◌∷◌, [], ◌==◌, if◌then◌else◌, ℕ, Bool, List, Result, Ok, length}
use Rattle.std.specs.List.{All}
use Rattle.bitstream_io.specs.Callers.{Decoder, Encoder, pure, Error, Order, High, number, and_then, vec_decoder, buffer, align, write_sequence, part_then}
use Rattle.bitstream_format.specs.Atoms as atom

-- Made by `./format` from formats/flac_block.fields: edit that file and make this one anew.

-- an error of the reader is one of the type's
abbrev pub becomes_flac_block : Error → FlacBlockError → Type 0
becomes_flac_block error own = own ≡ Reader error

-- the number of the case of a `Body`
abbrev pub body_number : Body → ℕ
body_number (BodyInfo it) = 0
body_number (BodyOther it) = it.number

-- the reads of k bytes after another number
abbrev pub other_body_read : Order → ℕ → ℕ → Decoder (Result OtherBody FlacBlockError)
other_body_read o n k = and_then (vec_decoder o k) (λ bytes. pure (Ok (record { number = n; bytes = bytes })))

-- the reads of the case with the number n
abbrev pub body_read : Order → ℕ → ℕ → Decoder (Result Body FlacBlockError)
body_read o n k = if n == 0 then and_then (flac_info_decoder o) (λ it. pure (Ok (BodyInfo it))) else and_then
    (other_body_read o n k) (part_then (λ it. pure (Ok (BodyOther it))))

-- the writes behind the number
abbrev pub body_writes : Order → Body → List Encoder
body_writes o (BodyInfo it) = flac_info_writes o it
body_writes o (BodyOther it) = buffer o it.bytes ∷ []

-- the number of their bits
abbrev pub body_size : Order → Body → ℕ
body_size o (BodyInfo it) = flac_info_size o it
body_size o (BodyOther it) = 8 * length it.bytes

-- the case fits its bits
abbrev pub body_fits : Body → Type 0
body_fits (BodyInfo it) = FlacInfoFits it
body_fits (BodyOther it) = (it.number < 2 ^ 7) × (it.number ≢ 0) × (All (λ b. b < 256) it.bytes)

-- an error inside the bytes of `body`: their end is `OtherSize`
abbrev pub body_ended : FlacBlockError → FlacBlockError
body_ended (Reader error) = if is_end error then OtherSize else Reader error
body_ended OtherSize = OtherSize

-- the reads of `body`, of n bytes, over these bytes alone
abbrev pub body_sized : Order → ℕ → ℕ → Decoder (Result Body FlacBlockError)
body_sized o number n = sized_decoder (λ o. body_read o number n) OtherSize (λ error. Reader error) body_ended o n

-- the number of each case fits its bits
pub body_small : (it : Body) → body_fits it → body_number it < 2 ^ 7
body_small (BodyInfo it) fits = omega arith
body_small (BodyOther it) fits = fits.0

-- each case is read back behind its number, and its writes are accepted
pub body_goes : (o : Order) (it : Body) → body_fits it
    → CaseGoes (body_read o (body_number it) (body_size High it / 8)) (body_writes o it) (Ok it) (body_size High it)
body_goes o (BodyInfo it) fits = plain_held-goes flac_info_format (λ v. Ok (BodyInfo v)) o it fits
body_goes o (BodyOther it) fits = rw (ne_eqb it.number 0 fits.1) (bytes_held-goes {P = OtherBody} (λ bytes. record {
  number = it.number;
  bytes = bytes;
}) (λ v. BodyOther v) o it.bytes fits.2)

-- the choice
abbrev pub body_choice : ℕ → FormatChoice Body (Result Body FlacBlockError) (λ it. Ok it)
body_choice = by_size body_number body_read body_writes (body_size High) body_fits body_goes

-- what is written of a `Body`
abbrev pub body_written : WrittenPart Body
body_written = record {
  write = body_writes;
  size = body_size High;
  fits = body_fits;
  packs = λ o it fits. (body_goes o
      it fits).packs;
}

-- the lines, in order
abbrev pub flac_block_lines : FormatParts FlacBlock (Result FlacBlock FlacBlockError) (λ s. Ok s)
flac_block_lines = do
  last ← field atom.bool (λ s. s.last)
  body_tag ← field (atom.unsigned 8 7 refl) (λ s. body_number s.body)
  body_bytes ← size_of_part 24 refl refl body_written (λ s. s.body)
  body ← own_field (over_bytes (chosen (body_choice body_bytes) body_tag) OtherSize (λ error. Reader error) body_ended
      body_bytes) (λ s. s.body)
  own_done (record { last = last; body = body })

-- the reads, in order
abbrev pub flac_block_decoder : Order → Decoder (Result FlacBlock FlacBlockError)
flac_block_decoder o = flac_block_lines.read o

-- the writes, in order
abbrev pub flac_block_writes : Order → FlacBlock → List Encoder
flac_block_writes o value = flac_block_lines.write o value

-- each field fits its bits
pub record Fits (value : FlacBlock) : Type 0 where
  pub body_bytes : body_size High value.body / 8 < 2 ^ 24
  pub body : body_fits value.body
  pub body_whole : (o : Order) → body_size o value.body ≡ 8 * (body_size High value.body / 8)

-- the number of bits
abbrev pub flac_block_size : Order → FlacBlock → ℕ
flac_block_size o value = flac_block_lines.size value

-- the format, with the facts that must fit by name
abbrev pub flac_block_format : OwnFormat FlacBlockError FlacBlock
flac_block_format = named Fits (format flac_block_lines (λ s. refl {a = s}))
    (λ s fits. body_small s.body fits.body & fits.body_bytes & fits.body & ((fits.body, refl), refl) & fits.body_whole
    High)

-- the bits of all fields, up to a whole byte
unfoldable pub flac_block_bits : FlacBlock → List Bool
flac_block_bits value = write_sequence (flac_block_writes High value ++ align ∷ []) 0

-- The extensions of a TLS hello, after their size (RFC 8446, 4.2).
use Rattle.bitstream_messages.specs.declared.extensions.Extensions.{Extensions}
use Rattle.bitstream_messages.specs.declared.extensions.ExtensionsError.{ExtensionsError}
use Rattle.bitstream_messages.specs.declared.extensions.ExtensionsError.TheVariants.{Reader, Overlong, InExtension}
use Rattle.bitstream_messages.specs.declared.extension.Extension.{Extension}
use Rattle.bitstream_messages.specs.declared.extension.ExtensionError.{ExtensionError}
use Rattle.bitstream_messages.specs.declared.extension.ExtensionError.TheVariants.{Reader as ExtensionReader, OtherSize as ExtensionOtherSize}
use Rattle.bitstream_format.specs.Within.{is_end}
use Rattle.bitstream_format.specs.Filled.{filled_decoder}
use Rattle.bitstream_messages.specs.Extension.{extension_decoder, extension_size, extension_format, Fits as ExtensionFits}
use Rattle.std.proofs.Common.{refl, arith}
use Rattle.bitstream_format.specs.Format.{◌>>=◌, Own as OwnFormat, Parts as FormatParts, format, named, own_field, ◌&◌, own_done}
use Rattle.bitstream_format.specs.Lists.{with_error, error_of}
use Rattle.bitstream_format.specs.Measured.{of_items, size_of_part, filling}
use Rattle.std.specs.Prelude.{◌≡◌, ◌^◌, ◌<◌, ◌≤◌, ◌*◌, ◌/◌, ◌++◌, ◌∷◌, [], if◌then◌else◌, ℕ, Bool, List, Result, Ok}
use Rattle.std.specs.List.{All}
use Rattle.bitstream_io.specs.Callers.{Decoder, Encoder, pure, Error, Order, High, and_then, align, write_sequence}
use Rattle.bitstream_io.specs.Loop.{parts_size}

-- Made by `./format` from formats/extensions.fields: edit that file and make this one anew.

-- an error of the reader is one of the type's
abbrev pub becomes_extensions : Error → ExtensionsError → Type 0
becomes_extensions error own = own ≡ Reader error

-- an error of a `Extension`, as an error of the type
abbrev pub extension_error : ExtensionError → ExtensionsError
extension_error (ExtensionReader error) = Reader error
extension_error ExtensionOtherSize = InExtension ExtensionOtherSize

-- a result with these errors
abbrev pub extension_answer : Result Extension ExtensionError → Result Extension ExtensionsError
extension_answer = error_of extension_error

-- the reads of a `Extension`, with the errors of the type
abbrev pub extension_here : Order → Decoder (Result Extension ExtensionsError)
extension_here o = and_then (extension_decoder o) (λ answer. pure (extension_answer answer))

-- an error inside the bytes of `items`: their end is `Overlong`
abbrev pub items_ended : ExtensionsError → ExtensionsError
items_ended (Reader error) = if is_end error then Overlong else Reader error
items_ended Overlong = Overlong
items_ended (InExtension error) = InExtension error

-- the reads of `items`, of n bytes, over these bytes alone
abbrev pub items_sized : Order → ℕ → Decoder (Result (List Extension) ExtensionsError)
items_sized o n = filled_decoder (λ o. extension_here o) Overlong (λ error. Reader error) items_ended o n

-- each item has a byte or more
pub items_wide : (it : Extension) → 8 ≤ extension_size High it
items_wide it = omega arith

-- the lines, in order
abbrev pub extensions_lines : FormatParts Extensions (Result Extensions ExtensionsError) (λ s. Ok s)
extensions_lines = do
  items_bytes ← size_of_part 16 refl refl (of_items extension_format) (λ s. s.items)
  items ← own_field (filling (with_error extension_error extension_format) Overlong (λ error. Reader error) items_ended
      items_bytes items_wide) (λ s. s.items)
  own_done (record { items = items })

-- the reads, in order
abbrev pub extensions_decoder : Order → Decoder (Result Extensions ExtensionsError)
extensions_decoder o = extensions_lines.read o

-- the writes, in order
abbrev pub extensions_writes : Order → Extensions → List Encoder
extensions_writes o value = extensions_lines.write o value

-- each field fits its bits
pub record Fits (value : Extensions) : Type 0 where
  pub items_bytes : parts_size (extension_size High) value.items / 8 < 2 ^ 16
  pub items : All ExtensionFits value.items
  pub items_whole : (o : Order) → parts_size (extension_size o) value.items ≡ 8 * (parts_size (extension_size High)
      value.items / 8)

-- the number of bits
abbrev pub extensions_size : Order → Extensions → ℕ
extensions_size o value = extensions_lines.size value

-- the format, with the facts that must fit by name
abbrev pub extensions_format : OwnFormat ExtensionsError Extensions
extensions_format = named Fits (format extensions_lines (λ s. refl {a = s}))
    (λ s fits. fits.items_bytes & fits.items & fits.items & fits.items_whole High)

-- the bits of all fields, up to a whole byte
unfoldable pub extensions_bits : Extensions → List Bool
extensions_bits value = write_sequence (extensions_writes High value ++ align ∷ []) 0

-- The header of a packet of whole bytes.
use Rattle.std.specs.Prelude.{◌≡◌, ℕ, ◌==◌, if◌then◌else◌, List, [], ◌∷◌, Result, Ok, Err}
use Rattle.bitstream_io.specs.ByteReads.{ByteDecoder}
use Rattle.bitstream_io.specs.ByteSteps.{◌>>=◌, number_bytes}
use Rattle.bitstream_io.specs.ByteTypes.{byte_pure}
use Rattle.bitstream_io.specs.Callers.{Error, Order, High, Low, bytes}
use Rattle.bitstream_io.specs.Parts.{value_bytes}
use Rattle.bitstream_callers.specs.declared.packet_header.PacketError.{PacketError}
use Rattle.bitstream_callers.specs.declared.packet_header.PacketError.TheVariants.{Stream, UnsupportedVersion}
use Rattle.bitstream_callers.specs.declared.packet_header.PacketHeader.{PacketHeader}

-- an error of the reader is one of the type's
abbrev pub becomes_stream : Error → PacketError → Type 0
becomes_stream error own = own ≡ Stream error

-- the part that follows a supported version
abbrev pub length_reads : Order → ByteDecoder (Result PacketHeader PacketError)
length_reads o = do
  length ← number_bytes o 2
  byte_pure (Ok (record { length = length }))

-- a byte that states the version, and the length if it is 1
abbrev pub packet_reads : Order → ByteDecoder (Result PacketHeader PacketError)
packet_reads o = do
  version ← number_bytes o 1
  if version == 1 then length_reads o else byte_pure (Err UnsupportedVersion)

-- the n bytes of a number, in the order of bytes
abbrev pub bytes_in : Order → ℕ → ℕ → List ℕ
bytes_in o n v = value_bytes o (λ x. bytes High n x) (λ x. bytes Low n x) v

-- the bytes of the version and of the length
abbrev pub packet_writes : Order → PacketHeader → List (List ℕ)
packet_writes o header = bytes_in o 1 1 ∷ bytes_in o 2 header.length ∷ []

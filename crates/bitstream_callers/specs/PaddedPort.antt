-- A port with bytes of padding after it.
use Rattle.std.specs.Prelude.{ℕ, List, [], ◌∷◌, replicate, Result, Ok}
use Rattle.bitstream_io.specs.ByteReads.{ByteDecoder, skipped_bytes}
use Rattle.bitstream_io.specs.ByteSteps.{◌>>=◌, number_bytes}
use Rattle.bitstream_io.specs.ByteTypes.{byte_pure}
use Rattle.bitstream_io.specs.Callers.{Error, Order, High, Low, bytes}
use Rattle.bitstream_io.specs.Parts.{value_bytes}
use Rattle.bitstream_callers.specs.declared.padded_port.PaddedPort.{PaddedPort}

-- the bytes of the port's number in the order of bytes, and then zeros
abbrev pub port_writes : Order → PaddedPort → ℕ → List (List ℕ)
port_writes o port padding =
    value_bytes o (λ v. bytes High 2 v) (λ v. bytes Low 2 v) port.number ∷ replicate padding 0 ∷ []

-- two bytes, with the port's number as the result, and then bytes whatever they are
abbrev pub port_reads : Order → ℕ → ByteDecoder (Result PaddedPort Error)
port_reads o padding = do
  number ← number_bytes o 2
  skipped ← skipped_bytes padding
  byte_pure (Ok (record { number = number }))

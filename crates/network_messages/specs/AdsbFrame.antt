-- An ADS-B message with its checksum (ICAO Annex 10, volume IV, section 3.1.2.8.6).
use Rattle.network_messages.specs.declared.adsb_frame.AdsbFrame.{AdsbFrame}
use Rattle.network_messages.specs.declared.adsb_frame.AdsbFrameError.{AdsbFrameError}
use Rattle.network_messages.specs.declared.adsb_frame.AdsbFrameError.TheVariants.{Reader, OtherFormat, WrongCrc}
use Rattle.std.specs.Prelude.{◌≡◌, ◌^◌, ◌<◌, ◌++◌, ◌∷◌, [], ◌==◌, if◌then◌else◌, ℕ, Bool, List, Result, Ok, Err}
use Rattle.bitstream_io.specs.Callers.{◌>>=◌, Decoder, Encoder, pure, Error, Order, High, word, unsigned_decoder, const_decoder, plain, unsigned, align, write_sequence}
use Rattle.bitstream_format.specs.Checks.{crc24_adsb}
use Rattle.bitstream_format.specs.Summed.{lines_sum}

-- Made by `./format` from formats/adsb_frame.fields: edit that file and make this one anew.

-- an error of the reader is one of the type's
abbrev pub becomes_adsb_frame : Error → AdsbFrameError → Type 0
becomes_adsb_frame error own = own ≡ Reader error

-- the writes that the crc24_adsb covers, in order
abbrev pub crc24_adsb_writes : Order → AdsbFrame → List Encoder
crc24_adsb_writes o value =
    plain (word o 5 17)
    ∷ unsigned o 8 3 value.capability
    ∷ unsigned o 32 24 value.aircraft
    ∷ unsigned o 8 5 value.kind
    ∷ unsigned o 64 51 value.message
    ∷ []

-- the crc24-adsb of these lines
abbrev pub crc24_adsb_sum : AdsbFrame → ℕ
crc24_adsb_sum value = lines_sum crc24_adsb High (crc24_adsb_writes High value)

-- the reads, in order, after 2 that may be refused
abbrev pub adsb_frame_decoder_2 : Order → ℕ → ℕ → ℕ → ℕ → ℕ → Decoder (Result AdsbFrame AdsbFrameError)
adsb_frame_decoder_2 o capability aircraft kind message stored_crc24_adsb = pure (Ok (record {
  capability = capability;
  aircraft = aircraft;
  kind = kind;
  message = message;
}))

-- the reads, in order, after 1 that may be refused
abbrev pub adsb_frame_decoder_1 : Order → Decoder (Result AdsbFrame AdsbFrameError)
adsb_frame_decoder_1 o = do
  capability ← unsigned_decoder o 8 3
  aircraft ← unsigned_decoder o 32 24
  kind ← unsigned_decoder o 8 5
  message ← unsigned_decoder o 64 51
  stored_crc24_adsb ← unsigned_decoder o 64 24
  if stored_crc24_adsb == crc24_adsb_sum (record {
    capability = capability;
    aircraft = aircraft;
    kind = kind;
    message =
        message;
  }) then adsb_frame_decoder_2 o capability aircraft kind message stored_crc24_adsb else pure (Err WrongCrc)

-- the reads, in order
abbrev pub adsb_frame_decoder : Order → Decoder (Result AdsbFrame AdsbFrameError)
adsb_frame_decoder o = do
  is_0 ← const_decoder o 5 17
  if is_0 then adsb_frame_decoder_1 o else pure (Err OtherFormat)

-- the writes, in order
abbrev pub adsb_frame_writes : Order → AdsbFrame → List Encoder
adsb_frame_writes o value =
    plain (word o 5 17)
    ∷ unsigned o 8 3 value.capability
    ∷ unsigned o 32 24 value.aircraft
    ∷ unsigned o 8 5 value.kind
    ∷ unsigned o 64 51 value.message
    ∷ unsigned o 64 24 (crc24_adsb_sum value)
    ∷ []

-- each field fits its bits
pub record Fits (value : AdsbFrame) : Type 0 where
  pub capability : value.capability < 2 ^ 3
  pub aircraft : value.aircraft < 2 ^ 24
  pub kind : value.kind < 2 ^ 5
  pub message : value.message < 2 ^ 51

-- the number of bits
abbrev pub adsb_frame_size : Order → AdsbFrame → ℕ
adsb_frame_size o value = 112

-- the bits of all fields, up to a whole byte
unfoldable pub adsb_frame_bits : AdsbFrame → List Bool
adsb_frame_bits value = write_sequence (adsb_frame_writes High value ++ align ∷ []) 0

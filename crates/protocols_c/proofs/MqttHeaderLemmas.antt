-- Made by `./format --c` from ../protocols/formats/mqtt_header.fields: edit that file and make this one anew.
-- When a parse of a `MqttHeader` succeeds.
use Rattle.protocols_c.specs.MqttHeader.{mqtt_header_parsed, mqtt_header_answer, mqtt_header_bytes}
use Rattle.protocols_c.specs.Varied.{IsDecided}
use Rattle.protocols.specs.MqttHeader.{mqtt_header_decoder, mqtt_header_writes, mqtt_header_size, mqtt_header_bits, Fits, becomes_mqtt_header}
use Rattle.protocols.specs.declared.mqtt_header.MqttHeader.{MqttHeader}
use Rattle.protocols.specs.declared.mqtt_header.MqttError.{MqttError}
use Rattle.protocols.specs.declared.mqtt_header.MqttError.TheVariants.{Reader, NoPacket}
use Rattle.protocols.proofs.MqttHeaderLemmas.{mqtt_header_packs, mqtt_header_goes, told}
use Rattle.protocols_c.proofs.VariedLemmas.{groups_most, padded}
use Rattle.std.proofs.Common.{◌≡◌, ◌≤◌, ◌∙◌, ◌+◌, ◌/◌, ℕ, List, Result, Ok, Err, ap, ap₂, subst, arith}
use Rattle.std.specs.Prelude.{take}
use Rattle.bitstream_io.proofs.CallerLemmas.{is_error}
use Rattle.bitstream_io.specs.Callers.{EndOfInput, Error, High, OwnAnswer, bits}
use Rattle.bitstream_io.specs.Codec.{Prefix, Incomplete, Done}

-- what C gets is decided by what the decoder says
answered : (plain : Result (Result MqttHeader MqttError) Error) (r : Result MqttHeader MqttError) (taken n : ℕ)
    → OwnAnswer becomes_mqtt_header (λ y. y) plain r → taken ≡ (n + 7) / 8
    → mqtt_header_parsed taken r ≡ mqtt_header_answer (Done n plain)
answered (Ok x) r taken n is count = ap₂ mqtt_header_parsed count is
answered (Err e) r taken n is count = ap (mqtt_header_parsed taken) (is_error r (Reader e) is)

pub decided : (prefix : Prefix (Result MqttHeader MqttError)) (plain : Result (Result MqttHeader MqttError) Error) (r : Result MqttHeader MqttError) (taken : ℕ)
    → IsDecided prefix taken plain → OwnAnswer becomes_mqtt_header (λ y. y) plain r
    → mqtt_header_parsed taken r ≡ mqtt_header_answer prefix
decided Incomplete plain r taken is own =
    ap (mqtt_header_parsed taken) (is_error r (Reader EndOfInput)
    (subst (λ x. OwnAnswer becomes_mqtt_header (λ y. y) x r) is own))
decided (Done n x) plain r taken is own =
    answered x r taken n (subst (λ y. OwnAnswer becomes_mqtt_header (λ z. z) y r) is.0 own) is.1

-- the bytes taken are some of the bytes
pub within : (r : Result MqttHeader MqttError) (taken : ℕ) → (mqtt_header_parsed taken r).taken ≤ taken
within (Ok value) taken = omega arith
within (Err (Reader e)) taken = omega arith
within (Err NoPacket) taken = omega arith

-- packed bytes are parsed again
pub packed : (value : MqttHeader) (bytes : List ℕ) → Fits value → bits High (take (mqtt_header_bytes value) bytes) ≡ mqtt_header_bits value
    → mqtt_header_answer ((mqtt_header_decoder High).reads 0 (bits High bytes)) ≡ mqtt_header_parsed (mqtt_header_bytes value) (Ok value)
packed value bytes fits is =
    let all = mqtt_header_packs High value fits in
    let parts = padded High (mqtt_header_writes High value) (mqtt_header_bytes value) bytes _ (told value) is in
    ap (λ b. mqtt_header_answer ((mqtt_header_decoder High).reads 0 b)) parts
    ∙ ap mqtt_header_answer ((mqtt_header_goes High value fits).back 0 0 _)
    ∙ ap (λ k. mqtt_header_answer (Done k (Ok (Ok value)))) (all.size 0)

-- the fields have no more bits
pub mqtt_header_most : (value : MqttHeader) → Fits value → mqtt_header_size High value ≤ 48
mqtt_header_most value fits =
    let remaining_most = groups_most High 8 32 value.remaining (omega arith) (omega arith) fits.remaining in
    omega (arith, fits, remaining_most.1, remaining_most.2)

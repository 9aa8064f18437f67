-- Made by `./format --c` from ../protocols/formats/mqtt_header.fields: edit that file and make this one anew.
use Rattle.protocols_c.specs.MqttHeader.{mqtt_header_parsed}
use Rattle.protocols_c.specs.declared.mqtt_header.MqttHeaderParsed.{MqttHeaderParsed}
use Rattle.protocols_c.proofs.MqttHeaderLemmas.{decided, packed, within}
use Rattle.protocols_c.proofs.VariedLemmas.{read_decided}
use Rattle.std.proofs.Common.{◌≡◌, ◌∙◌, ◌-◌, length, ap, arith}
use Rattle.bitstream_io.proofs.CallerLemmas.{slice_ends}
use Rattle.protocols_c.proofs.mqtt_header.proved_mqtt_header_parse.Goals as goal

pub returns-clause-answer : goal.returns-clause-answer
returns-clause-answer c =
    let count : c.saturating_sub-taken.result ≡ length c.args.bytes.now - length c.rest.result.now =
    omega (arith, c.saturating_sub-taken.ensures) in
    c.parsed.ensures ∙ decided _ c.read-answer.ensures.plain _ _ (read_decided slice_ends c.over-reader.ensures.state c.rest.ensures count c.read-answer.ensures.called) c.read-answer.ensures.answer

pub returns-clause-within : goal.returns-clause-within
returns-clause-within c =
    let few = within c.read-answer.result c.saturating_sub-taken.result in
    let same : c.parsed.result.taken ≡ (mqtt_header_parsed c.saturating_sub-taken.result c.read-answer.result).taken =
    ap (λ (it : MqttHeaderParsed). it.taken) c.parsed.ensures in
    omega (arith, few, same, c.saturating_sub-taken.ensures)

pub returns-clause-round_trip : goal.returns-clause-round_trip
returns-clause-round_trip c = λ value fits is.
    let count : c.saturating_sub-taken.result ≡ length c.args.bytes.now - length c.rest.result.now =
    omega (arith, c.saturating_sub-taken.ensures) in
    c.parsed.ensures ∙ decided _ c.read-answer.ensures.plain _ _ (read_decided slice_ends c.over-reader.ensures.state c.rest.ensures count c.read-answer.ensures.called) c.read-answer.ensures.answer
    ∙ packed value c.args.bytes.now fits is

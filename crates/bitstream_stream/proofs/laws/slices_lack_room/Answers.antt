use Rattle.std.proofs.Common.{◌∙◌, ap}
use Rattle.bitstream_order.specs.Fault.{refusal_of}
use Rattle.bitstream_stream.proofs.laws.slices_lack_room.Goals as goal

pub returns : goal.returns
returns g c = λ old new x error h. h.answer ∙ ap refusal_of h.allowed.refused.0

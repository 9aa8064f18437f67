use Rattle.std.proofs.Common.{◌≡◌, ◌≤◌, length, arith, ap, length-append}
use Rattle.bitfields_core.specs.declared.fault.Reason.{Reason}
use Rattle.bitfields_core.specs.declared.fault.Reason.TheVariants.{BadArguments, TooManyFields, BadLayout, ValueMissing, ValueMisspelt, ValueDoesNotFit, ValueLeftOver, BitsEnded, ConstantDiffers, LimitPassed, PaddingNotZero, BytesLeftOver, StreamFault, OutOfMemory}
use Rattle.bitfields_core.specs.Fault.{reason_text}
use Rattle.bitfields_core.proofs.fault_line.FaultLine.of.Goals as goal

text : (why : Reason) → length (reason_text why) ≤ 18
text BadArguments = omega arith
text TooManyFields = omega arith
text BadLayout = omega arith
text ValueMissing = omega arith
text ValueMisspelt = omega arith
text ValueDoesNotFit = omega arith
text ValueLeftOver = omega arith
text BitsEnded = omega arith
text ConstantDiffers = omega arith
text LimitPassed = omega arith
text PaddingNotZero = omega arith
text BytesLeftOver = omega arith
text StreamFault = omega arith
text OutOfMemory = omega arith

pub push_text-requires-2 : goal.push_text-requires-2
push_text-requires-2 c =
    let first : length c.push_text.new.self ≡ 17 = ap length c.push_text.ensures in
    omega arith

pub push_text-requires-3 : goal.push_text-requires-3
push_text-requires-3 c =
    let first : length c.push_text.new.self ≡ 17 = ap length c.push_text.ensures in
    let second = simp length-append at (ap length c.push_text-2.ensures) in
    let why = text c.args.fault.reason in
    let is = ap length c.text.ensures in
    omega arith

pub push-requires : goal.push-requires
push-requires c =
    let first : length c.push_text.new.self ≡ 17 = ap length c.push_text.ensures in
    let second = simp length-append at (ap length c.push_text-2.ensures) in
    let third = simp length-append at (ap length c.push_text-3.ensures) in
    let why = text c.args.fault.reason in
    let is = ap length c.text.ensures in
    omega arith

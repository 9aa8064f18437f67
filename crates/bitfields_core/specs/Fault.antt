-- Faults, and their printed text.
use Rattle.std.specs.Prelude.{ℕ, List, [], ◌∷◌, ◌++◌, codes}
use Rattle.std.specs.Fmt.{decimal}
use Rattle.std.specs.declared.io.ErrorKind.{ErrorKind}
use Rattle.std.specs.declared.io.ErrorKind.TheVariants as kinds
use Rattle.bitfields_core.specs.declared.fault.Reason.{Reason}
use Rattle.bitfields_core.specs.declared.fault.Reason.TheVariants.{BadArguments, TooManyFields, BadLayout, ValueMissing, ValueMisspelt, ValueDoesNotFit, ValueLeftOver, BitsEnded, ConstantDiffers, LimitPassed, PaddingNotZero, BytesLeftOver, StreamFault, OutOfMemory}
use Rattle.bitfields_core.specs.declared.fault.Fault.{Fault}

-- the status that the program ends with
abbrev pub reason_status : Reason → ℕ
reason_status BadArguments = 2
reason_status TooManyFields = 2
reason_status BadLayout = 2
reason_status ValueMissing = 3
reason_status ValueMisspelt = 3
reason_status ValueDoesNotFit = 3
reason_status ValueLeftOver = 3
reason_status BitsEnded = 4
reason_status ConstantDiffers = 4
reason_status LimitPassed = 4
reason_status PaddingNotZero = 4
reason_status BytesLeftOver = 4
reason_status StreamFault = 5
reason_status OutOfMemory = 5

-- the fault of field k (0 if none is named)
abbrev pub fault : ℕ → Reason → Fault
fault k why = record { status = reason_status why; field = k; reason = why }

-- the reason for a refusal of a stream, by its kind
abbrev pub refusal_reason : ErrorKind → Reason
refusal_reason kinds.OutOfMemory = OutOfMemory
refusal_reason kind = StreamFault

-- the printed text of a reason
abbrev pub reason_text : Reason → List ℕ
reason_text BadArguments = codes "bad arguments"
reason_text TooManyFields = codes "too many fields"
reason_text BadLayout = codes "bad layout"
reason_text ValueMissing = codes "value missing"
reason_text ValueMisspelt = codes "value misspelt"
reason_text ValueDoesNotFit = codes "value does not fit"
reason_text ValueLeftOver = codes "value left over"
reason_text BitsEnded = codes "bits ended"
reason_text ConstantDiffers = codes "constant differs"
reason_text LimitPassed = codes "limit passed"
reason_text PaddingNotZero = codes "padding not zero"
reason_text BytesLeftOver = codes "bytes left over"
reason_text StreamFault = codes "stream fault"
reason_text OutOfMemory = codes "out of memory"

-- `bitfields: field K: REASON`, and LF
abbrev pub fault_line : Fault → List ℕ
fault_line f = codes "bitfields: field " ++ decimal f.field ++ codes ": " ++ reason_text f.reason ++ 10 ∷ []

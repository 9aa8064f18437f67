use Rattle.std.proofs.Common.{◌≡◌, ◌≢◌, ◌⊎◌, inl, inr, refl}
use Rattle.bitstream_io.specs.Error.{Error}
use Rattle.bitstream_io.specs.Error.TheVariants as errors
use Rattle.bitfields_core.specs.declared.fault.Reason.TheVariants.{LimitPassed, StreamFault}
use Rattle.bitfields_core.specs.Unpacking.{read_reason as read_reason_of}
use Rattle.bitfields_core.proofs.unpacking.read_reason.Goals as goal

-- the errors of a number that passes its limit
past_limit : {error : Error}
    → (error ≡ errors.RunTooLong) ⊎ (error ≡ errors.VariableWidthOverflow) ⊎ (error ≡ errors.RedundantGroup)
    → LimitPassed ≡ read_reason_of error
past_limit (inl is) = rw is refl
past_limit (inr (inl is)) = rw is refl
past_limit (inr (inr is)) = rw is refl

-- any error but those that are named
another : (error : Error) → error ≢ errors.EndOfInput → error ≢ errors.OutOfMemory → error ≢ errors.RunTooLong
    → error ≢ errors.VariableWidthOverflow → error ≢ errors.RedundantGroup → StreamFault ≡ read_reason_of error
another errors.EndOfInput ended memory run number group = absurd (ended refl)
another errors.OutOfMemory ended memory run number group = absurd (memory refl)
another errors.RunTooLong ended memory run number group = absurd (run refl)
another errors.VariableWidthOverflow ended memory run number group = absurd (number refl)
another errors.RedundantGroup ended memory run number group = absurd (group refl)
another error ended memory run number group = refl

pub returns-in-EndOfInput : goal.returns-in-EndOfInput
returns-in-EndOfInput c = rw c.in-EndOfInput.is refl

pub returns-in-OutOfMemory : goal.returns-in-OutOfMemory
returns-in-OutOfMemory c = rw c.in-OutOfMemory.is refl

pub returns-in-RunTooLong : goal.returns-in-RunTooLong
returns-in-RunTooLong c = past_limit c.in-RunTooLong.is

pub returns-in_default : goal.returns-in_default
returns-in_default c = another c.args.error c.in_default.not-EndOfInput c.in_default.not-OutOfMemory
    c.in_default.not-RunTooLong c.in_default.not-VariableWidthOverflow c.in_default.not-RedundantGroup

use Rattle.std.proofs.Common.{◌≡◌, ◌⊎◌, inl, inr, refl}
use Rattle.bitfields_core.specs.declared.fault.Reason.{Reason}
use Rattle.bitfields_core.specs.declared.fault.Reason.TheVariants.{BitsEnded, ConstantDiffers, LimitPassed, PaddingNotZero, BytesLeftOver}
use Rattle.bitfields_core.specs.Fault.{reason_status}
use Rattle.bitfields_core.proofs.fault.Reason.status.Goals as goal

-- the status of a fault in the bits
of_bits : {why : Reason}
    → (why ≡ BitsEnded) ⊎ (why ≡ ConstantDiffers) ⊎ (why ≡ LimitPassed) ⊎ (why ≡ PaddingNotZero) ⊎ (why ≡ BytesLeftOver)
    → 4 ≡ reason_status why
of_bits (inl is) = rw is refl
of_bits (inr (inl is)) = rw is refl
of_bits (inr (inr (inl is))) = rw is refl
of_bits (inr (inr (inr (inl is)))) = rw is refl
of_bits (inr (inr (inr (inr is)))) = rw is refl

pub returns-in-BitsEnded : goal.returns-in-BitsEnded
returns-in-BitsEnded c = of_bits c.in-BitsEnded.is

-- An answer that is the expected one, unless memory was refused.
use Rattle.std.proofs.Common.{◌≡◌, ◌⊎◌, Result, Ok, Err, inl, inr, sym}
use Rattle.bitfields_core.specs.declared.fault.Reason.TheVariants.{OutOfMemory}
use Rattle.bitfields_core.specs.declared.fault.Fault.{Fault}
use Rattle.bitfields_core.specs.Fault.{fault}
use Rattle.bitfields_core.specs.Layout.{IsUnlessMemory}

module _ {A : Type 0} {expected : Result A Fault} where
  -- a value is the expected one
  pub value_expected : {x : A} → IsUnlessMemory expected (Ok x) → expected ≡ Ok x
  value_expected (inl h) = absurd (cc)
  value_expected (inr h) = sym h

  -- a fault is that of the memory, or the expected one
  pub fault_expected : {f : Fault} → IsUnlessMemory expected (Err f) → (f ≡ fault 0 OutOfMemory) ⊎ (expected ≡ Err f)
  fault_expected (inl h) = inl (cc)
  fault_expected (inr h) = inr (sym h)

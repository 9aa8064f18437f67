use Rattle.std.proofs.Common.{rules, ap, inl, inr, refl, ◌≡◌, ◌⊎◌, ◌-◌, ◌^◌, ℕ, ℤ, pos, negsuc, w64}
use lib.Signed.{shr_z}
use Rattle.std.proofs.Math.Nat.{div-eq_of_lt}
use Rattle.std.proofs.lemmas.Int.{to_z-of_z}
use Rattle.bitstream_io.specs.Callers.{FitsSignedBits}
use Rattle.flac_codec.proofs.fits.sample_fits.Goals as goal

shifted : (n : ℕ) (x : ℤ) → FitsSignedBits n x → (shr_z x (2 ^ (n - 1)) ≡ pos 0) ⊎ (shr_z x (2 ^ (n - 1)) ≡ negsuc 0)
shifted n (pos k) fits = inl (ap pos (div-eq_of_lt fits))
shifted n (negsuc k) fits = inr (ap negsuc (div-eq_of_lt fits))

pub returns-else-rest-eq0 : goal.returns-else-rest-eq0
returns-else-rest-eq0 c = (
  search rules,
  λ fits.
      let some = c.if-rest-eq0.false in
      let same = to_z-of_z w64 c.args.sample c.ranges.sample in
      elim (shifted c.args.width c.args.sample fits) [
        | inl zero ↦ absurd (some (rw (same, zero) refl))
        | inr minus ↦ rw (same, minus) refl
      ],
)

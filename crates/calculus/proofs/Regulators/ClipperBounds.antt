-- The clipper's totals keep every bound G(s,t), and do not fall where G does not fall with t.
use mathlib.Core.Path.{◌≡◌}
use Prim.Native.Nat.{ℕ, zero, suc, ◌+◌, ◌-◌, ◌≤◌, ◌<◌}
use native.Mathlib.Decide.{dec_le}
use native.Mathlib.Omega.{arith}
use Rattle.calculus.specs.Numbers.Limit.{Limit, at_most, map_limit, cut}
use Rattle.calculus.specs.Regulators.Clipper.{arrived, clipped}
use Rattle.calculus.proofs.Numbers.Rising.{rising}
use Rattle.calculus.proofs.Numbers.Least.{least_below}
use Rattle.calculus.proofs.Numbers.Limit.{Within, cut_within, within_mapped}
use Rattle.calculus.proofs.Regulators.Clipper.{clipped-rule, clipped_above}

module _ (G : ℕ → ℕ → Limit) (a : ℕ → ℕ) where
  -- X(t) is at most X(s) + G(s,t) for s below t.
  pub clipped_within : (s t : ℕ) → s < t → (n : ℕ) → G s t ≡ at_most n → clipped G a t ≤ clipped G a s + n
  clipped_within s zero p n e = absurd (omega arith)
  clipped_within s (suc t) p n e =
      omega (
        arith,
        clipped-rule G a t,
        least_below 0 t (λ s. cut (clipped G a t + (arrived a (suc t) - arrived a t)) (map_limit (λ g. clipped G a s + g) (G s (suc t)))) s (omega arith) (omega arith),
        within_mapped (λ n. clipped G a s + n) (G s (suc t)) _ n
            (cut_within (clipped G a t + (arrived a (suc t) - arrived a t)) (map_limit (λ n. clipped G a s + n) (G s (suc t)))) e,
      )

  -- Where G does not fall with t, neither do the clipper's totals.
  pub clipped_rises : ((s t x : ℕ) → s < t → Within x (G s t) → Within x (G s (suc t))) → (i j : ℕ) → i ≤ j → clipped G a i ≤ clipped G a j
  clipped_rises rises i j p = rising (clipped G a) j (λ t q. one t) i j p (omega arith)
    where
      one : (t : ℕ) → clipped G a t ≤ clipped G a (suc t)
      one t =
          clipped_above G a t (clipped G a t) (omega arith)
          (λ s n st e.
          elim (dec_le t s) [
            | yes q ↦ let same : s ≡ t = omega arith in rw same (omega arith)
            | no q ↦ omega (arith, rises s t (clipped G a t - clipped G a s) (omega arith) (λ m f. omega (arith, clipped_within s t (omega arith) m f)) n e)
          ])

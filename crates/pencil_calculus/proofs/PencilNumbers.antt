-- The pencil's numbers keep its two rules.
use mathlib.Core.Path.{◌≡◌, refl, ap, ap₂, ◌∙◌}
use Prim.Native.Nat.{ℕ, zero, suc, ◌+◌, ◌-◌, ◌≤◌}
use native.Mathlib.Omega.{arith}
use Rattle.calculus.specs.Numbers.Limit.{Limit, cut}
use Rattle.calculus.specs.Envelopes.Envelope.{windows}
use Rattle.calculus.specs.Regulators.Regulator.{convolution}
use Rattle.calculus.specs.Regulators.BoundedPast.{forecast, next_admitted}
use Rattle.pencil_calculus.specs.Pencil.{Pencil, pencilling, pencil_admitted, pencil_departed}
use Rattle.calculus.proofs.Numbers.Least.{least_cong}
use Rattle.calculus.proofs.Numbers.Course.{LooksBack, course-keeps}
use Rattle.calculus.proofs.Numbers.Limit.{map_limit_cong}
use Rattle.calculus.proofs.Regulators.Convolution.{convolution_cong}

-- Equal pasts have equal forecasts, and the same is admitted.
forecast_cong : (M : ℕ) (f past other : ℕ → ℕ) (h : ℕ) → 1 ≤ M → ((k : ℕ) → 1 ≤ k → k ≤ M → past k ≡ other k) → forecast M f past h ≡ forecast M f other h
unfolding forecast
forecast_cong M f past other h some same = least_cong 1 M _ _ some (λ k p q. ap (λ (z : ℕ). z + f (k + h)) (same k p q))

pub next_admitted_cong : (M : ℕ) (f : ℕ → ℕ) (d q : Limit) (past other : ℕ → ℕ) (x n : ℕ) → 1 ≤ M → ((k : ℕ) → 1 ≤ k → k ≤ M → past k ≡ other k)
    → next_admitted M f d q past x n ≡ next_admitted M f d q other x n
unfolding next_admitted
next_admitted_cong M f d q past other x n some same =
    ap₂ (λ (l m : Limit). cut (cut (x + n) l) m)
    (map_limit_cong _ _ d (λ h e. forecast_cong M f past other h some same))
    (map_limit_cong _ _ q (λ b e. ap (λ (z : ℕ). z + b) (same 1 (omega arith) some)))

pencilling_looks_back : (f : ℕ → ℕ) (d q : Limit) (a : ℕ → ℕ) → LooksBack (pencilling f d q a)
unfolding pencilling
pencilling_looks_back f d q a X Z zero same = refl
pencilling_looks_back f d q a X Z (suc t) same =
    next_admitted_cong (suc t) f d q (λ k. convolution X (windows f) (suc t - k)) (λ k. convolution Z (windows f) (suc t - k)) (X t) (a (suc t)) (omega arith)
    (λ k k1 kt. convolution_cong X Z (windows f) (windows f) (suc t - k) (λ s w. same s (omega arith)) (λ s w. refl))
    ∙ ap (λ (x : ℕ). next_admitted (suc t) f d q (λ k. convolution Z (windows f) (suc t - k)) x (a (suc t))) (same t (omega arith))

pub pencil-numbers : (f : ℕ → ℕ) (d q : Limit) (a : ℕ → ℕ) (T : ℕ) → Pencil f d q a T (pencil_admitted f d q a) (pencil_departed f d q a)
unfolding pencil_admitted pencil_departed pencilling
pencil-numbers f d q a T =
    record {
      admits_none = course-keeps (pencilling f d q a) (pencilling_looks_back f d q a) 0;
      admits = λ t p. course-keeps (pencilling f d q a) (pencilling_looks_back f d q a) (suc t);
      departs = λ t p. refl;
    }

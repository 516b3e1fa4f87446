-- Envelopes of windows are closed envelopes where f is 0 at window 0, does not fall and is subadditive.
use mathlib.Core.Path.{◌≡◌, ap, ◌∙◌}
use Prim.Native.Nat.{ℕ, ◌+◌, ◌-◌, ◌≤◌}
use native.Mathlib.Omega.{arith}
use Rattle.calculus.specs.Envelopes.Closure.{closure, Table}
use Rattle.calculus.specs.Envelopes.Envelope.{windows, ClosedEnvelope}
use Rattle.calculus.proofs.Envelopes.Closure.{closure-zero, closure_rises, closure_adds}

-- f(0) is 0, f does not fall, and f(i) + f(j) is at least f(i+j): then F(s,t) = f(t-s) is closed.
pub windows_closed : (f : ℕ → ℕ) → f 0 ≡ 0 → ((i j : ℕ) → i ≤ j → f i ≤ f j) → ((i j : ℕ) → f (i + j) ≤ f i + f j) → ClosedEnvelope (windows f)
unfolding windows
windows_closed f starts rises adds =
    record {
      starts = λ s. let e : s - s ≡ 0 = omega arith in ap f e ∙ starts;
      rises = λ s t r p. rises (t - s) (r - s) (omega arith);
      chains = λ s t r p q.
          let e : t - s + (r - t) ≡ r - s = omega arith in
          omega (arith, ap f e, adds (t - s) (r - t));
    }

-- The closure of a table is a closed envelope.
pub closure_envelope : (L : ℕ) (table : ℕ → ℕ) → Table L table → ClosedEnvelope (windows (closure L table))
closure_envelope L table given =
    windows_closed (closure L table) (closure-zero L table given.nonempty) (closure_rises L table given) (closure_adds L table given)

-- The bounded past, for any input and any memory: what may still depart follows from the last M departed totals, where M is at
-- least L or reaches back to slot 0. M = L is the live regulator, M = t+1 looks at all earlier departures, and a stage of a path
-- has what the stage before let go for its input.
-- It holds because a cheapest way to make up the window from any slot s has a cut in the last L slots.
use mathlib.Core.Path.{◌≡◌, ap}
use Prim.Native.Nat.{ℕ, suc, ◌+◌, ◌-◌, ◌≤◌, min}
use native.Mathlib.Nat.{le_antisymm}
use native.Mathlib.Omega.{arith}
use Rattle.calculus.specs.Numbers.Limit.{Limit}
use Rattle.calculus.specs.Envelopes.Closure.{closure, Table}
use Rattle.calculus.specs.Envelopes.Envelope.{windows}
use Rattle.calculus.specs.Regulators.Clipper.{admitted}
use Rattle.calculus.specs.Regulators.Regulator.{convolution, departed}
use Rattle.calculus.specs.Regulators.Ahead.{ahead}
use Rattle.calculus.specs.Regulators.BoundedPast.{forecast, next_admitted, next_departed}
use Rattle.calculus.proofs.Numbers.Least.{least_below, least_above}
use Rattle.calculus.proofs.Envelopes.Closure.{closure_rises, closure_adds, closure-cut}
use Rattle.calculus.proofs.Envelopes.Envelope.{closure_envelope}
use Rattle.calculus.proofs.Regulators.Convolution.{convolution_below, convolution_attained}
use Rattle.calculus.proofs.Regulators.Ahead.{ahead_below, ahead_above, admitted-ahead, convolution-ahead}

module _ (L : ℕ) (table : ℕ → ℕ) (given : Table L table) where
  abbrev f : ℕ → ℕ
  f = closure L table

  module _ (X : ℕ → ℕ) where
    -- what a regulator with the envelope f lets go of X
    abbrev Y : ℕ → ℕ
    Y = convolution X (windows f)

    -- the departed total k slots before slot t+1; before slot 0 it is Y(0)
    abbrev past : ℕ → ℕ → ℕ
    past t k = Y (suc t - k)

    output_below : (s m : ℕ) → s ≤ m → Y m ≤ X s + f (m - s)
    unfolding windows
    output_below s m p = convolution_below X (windows f) s m p

    -- For every slot s of the entire history there is a departed total of the last L whose bound is at most that of s.
    memory-cut : (t h s : ℕ) → s ≤ t → (k : ℕ) × (1 ≤ k) × (k ≤ L) × (k ≤ suc t) × (past t k + f (k + h) ≤ X s + f (suc t + h - s))
    memory-cut t h s st =
        let (j, jp, pj, le) = closure-cut L table given (suc t + h - s) (suc t - s) (omega arith) (omega arith) in
        let k : ℕ = suc t - s - j in
        let slot : suc t - k ≡ s + j = omega arith in
        let window : s + j - s ≡ j = omega arith in
        let rest : suc t + h - s - j ≡ k + h = omega arith in
        (k, omega arith, omega arith, omega arith, omega (arith, ap Y slot, output_below s (s + j) (omega arith), ap f window, ap f rest))

    -- The forecast over the last M departed totals is what may still depart.
    pub memory-ahead : (M t : ℕ) → min L (suc t) ≤ M → (h : ℕ) → forecast M f (past t) h ≡ ahead X (windows f) t (suc t + h)
    unfolding forecast windows
    memory-ahead M t enough h =
        le_antisymm
        (ahead_above X (windows f) t (suc t + h) _
        (λ s st.
        let (k, k1, k_l, kt, le) = memory-cut t h s st in
        omega (arith, least_below 1 M (λ k. past t k + f (k + h)) k k1 (omega arith))))
        (least_above 1 M (λ k. past t k + f (k + h)) _ (omega (arith, given.nonempty))
        (λ k k1 k_m.
        let (s, sk, e) = convolution_attained X (windows f) (suc t - k) in
        omega (
          arith,
          ahead_below X (windows f) t (suc t + h) s (omega arith),
          closure_adds L table given (suc t - k - s) (k + h),
          closure_rises L table given (suc t + h - s) (suc t - k - s + (k + h)) (omega arith),
        )))

    -- Y(t+1) follows from X(t+1) and the last M departed totals.
    pub output_next : (M t : ℕ) → min L (suc t) ≤ M → Y (suc t) ≡ next_departed M f (past t) (X (suc t))
    unfolding next_departed
    output_next M t enough =
        convolution-ahead (windows f) X t (forecast M f (past t)) (memory-ahead M t enough) (closure_envelope L table given)

  -- X(t+1) follows from X(t), the arrivals of slot t+1 and the last M departed totals.
  pub input_next : (d q : Limit) (a : ℕ → ℕ) (M t : ℕ) → min L (suc t) ≤ M
      → admitted (windows f) d q a (suc t)
      ≡ next_admitted M f d q (past (admitted (windows f) d q a) t) (admitted (windows f) d q a t) (a (suc t))
  unfolding next_admitted
  input_next d q a M t enough =
      let X : ℕ → ℕ = admitted (windows f) d q a in
      let e : suc t - 1 ≡ t = omega arith in
      rw e (unfold departed in admitted-ahead (windows f) (closure_envelope L table given) d q a t (forecast M f (past X t)) (memory-ahead X M t enough))

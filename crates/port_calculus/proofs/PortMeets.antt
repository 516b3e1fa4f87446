-- If some schedule meets all deadlines that fall in the run, this one does; and where no packet is late, it does.
use mathlib.Core.Path.{◌≡◌, ap, ◌∙◌}
use Prim.Native.Nat.{ℕ, zero, suc, ◌+◌, ◌-◌, ◌≤◌, ◌<◌, min}
use native.Mathlib.Decide.{dec_le}
use native.Mathlib.Omega.{arith}
use Rattle.calculus.specs.Regulators.Clipper.{arrived}
use Rattle.port_calculus.specs.Port.{sum_below, due_before, waiting, late}
use Rattle.port_calculus.specs.Schedules.{Schedule, Meets}
use Rattle.port_calculus.proofs.Sums.{sum_below_none, sum_below_add, sum_below_mono}
use Rattle.port_calculus.proofs.Waiting.{ahead_before, late_due}
use Rattle.port_calculus.proofs.Serving.{before, new, before_soon, before-late, waiting_due, waiting-first, due_before_none}

module _ (n : ℕ) (D : ℕ → ℕ) (a : ℕ → ℕ → ℕ) (c T : ℕ) where
  module _ (S : ℕ → ℕ → ℕ) (schedule : Schedule n D a c T S) where
    -- packets of stream i, due before slot v, that the schedule has not sent after slot t
    abbrev behind : ℕ → ℕ → ℕ → ℕ
    behind t v i = before D a t v i - S i t

    behind_next : (t v i : ℕ) → i < n → t < T → behind t v i + new D a t v i ≤ behind (suc t) v i + (S i (suc t) - S i t)
    behind_next t v i r p =
        elim (dec_le v (suc t + D i)) [
          | yes q ↦ omega (arith, before-late n D a c t v i q)
          | no q ↦ let e : min t (v - suc (D i)) ≡ t = omega arith in
              omega (arith, before_soon n D a c t v i (omega arith), ap (arrived (a i)) e, schedule.comes_first i t r (omega arith), schedule.rises i t r p)
        ]

    -- After every slot the port has no more left that is due before slot v than the schedule.
    pub port-ahead : (v t : ℕ) → t ≤ T → due_before n (waiting n D a c t) v ≤ sum_below (behind t v) n
    port-ahead v zero p =
        omega (arith, due_before_none n c (waiting n D a c 0) v (λ u i p q. waiting-first n D a c u i))
    port-ahead v (suc t) p =
        omega (
          arith,
          waiting_due n D a c t v,
          port-ahead v t (omega arith),
          sum_below_add (behind t v) (new D a t v) n,
          sum_below_mono (λ i. behind t v i + new D a t v i) (λ i. behind (suc t) v i + (S i (suc t) - S i t)) n (λ i r. behind_next t v i r p),
          sum_below_add (behind (suc t) v) (λ i. S i (suc t) - S i t) n,
          schedule.capacity t p,
        )

    module _ (meets : Meets n D a c T S) where
      -- Nothing that is due by slot u is left after it.
      pub due-gone : (u : ℕ) → u ≤ T → due_before n (waiting n D a c u) (suc u) ≡ 0
      unfolding Meets
      due-gone u p =
          omega (
            arith,
            port-ahead (suc u) u p,
            sum_below_none (behind u (suc u)) n
                (λ i q. let e : min u (suc u - suc (D i)) ≡ u - D i = omega arith in omega (arith, ap (arrived (a i)) e, meets i u q p)),
          )

      -- If some schedule meets all deadlines that fall in the run, no packet of the port is late.
      pub port_meets : (i : ℕ) → i < n → late n D a c T i ≡ 0
      port_meets i p =
          late_due n D a c T i
          ∙ sum_below_none (λ t. waiting n D a c (suc t) (suc t) i) T
          (λ t q. omega (arith, due-gone (suc t) q, ahead_before n c (waiting n D a c (suc t)) (suc t) (suc (suc t)) i (omega arith) p))

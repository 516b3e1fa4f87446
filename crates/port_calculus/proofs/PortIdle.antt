-- A slot before which nothing waits and whose arrivals are at most c: all of them are sent in it, and nothing waits after it.
use mathlib.Core.Path.{◌≡◌}
use Prim.Native.Nat.{ℕ, suc, ◌+◌, ◌≤◌, ◌<◌}
use native.Mathlib.Decide.{dec_le}
use native.Mathlib.Omega.{arith}
use Rattle.port_calculus.specs.Port.{sum_below, sent, waiting, sent_of}
use Rattle.port_calculus.proofs.Sums.{sum_below-suc, sum_below_mono, sum_below_none}
use Rattle.port_calculus.proofs.Waiting.{ahead_before}
use Rattle.port_calculus.proofs.Serving.{new, before_soon, before-late, due_before_none, waiting_due, sent_or-waiting}

module _ (n : ℕ) (D : ℕ → ℕ) (a : ℕ → ℕ → ℕ) (c t : ℕ)
    (idle : (u i : ℕ) → i < n → waiting n D a c t u i ≡ 0) (room : sum_below (λ i. a i (suc t)) n ≤ c) where
  new_few : (v i : ℕ) → new D a t v i ≤ a i (suc t)
  new_few v i =
      elim (dec_le v (suc t + D i)) [
        | yes p ↦ omega (arith, before-late n D a c t v i p)
        | no p ↦ omega (arith, before_soon n D a c t v i (omega arith))
      ]

  pub idle-waiting : (u i : ℕ) → i < n → waiting n D a c (suc t) u i ≡ 0
  idle-waiting u i p =
      omega (
        arith,
        ahead_before n c (waiting n D a c (suc t)) u (suc u) i (omega arith) p,
        waiting_due n D a c t (suc u),
        due_before_none n c (waiting n D a c t) (suc u) (λ v j q r. idle v j r),
        sum_below_mono (new D a t (suc u)) (λ j. a j (suc t)) n (λ j r. new_few (suc u) j),
        room,
      )

  pub idle-sends : (i : ℕ) → i < n → D i ≤ 64 → sent_of n D a c i (suc t) ≡ a i (suc t)
  unfolding sent_of
  idle-sends i p timely =
      let v : ℕ = suc t + 65 in
      omega (
        arith,
        sent_or-waiting n D a c i v t,
        sent_or-waiting n D a c i v (suc t),
        sum_below-suc (λ s. sum_below (λ u. sent n D a c (suc s) u i) v) t,
        sum_below_none (λ u. waiting n D a c t u i) v (λ u r. idle u i p),
        sum_below_none (λ u. waiting n D a c (suc t) u i) v (λ u r. idle-waiting u i p),
        before_soon n D a c t v i (omega arith),
      )

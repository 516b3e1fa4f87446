-- What the port does in a slot: the earliest due first, the lower stream first among equals, and fewer than c only if nothing is then left
-- waiting.
use mathlib.Core.Path.{◌≡◌}
use Prim.Native.Nat.{ℕ, suc, ◌+◌, ◌≤◌, ◌<◌}
use native.Mathlib.Decide.{dec_le}
use native.Mathlib.Omega.{arith}
use Rattle.port_calculus.specs.Port.{sum_below, due_before, sends, keeps, offered, sent, waiting, sent_of}
use Rattle.port_calculus.proofs.Sums.{sum_below-suc, sum_below_rises}
use Rattle.port_calculus.proofs.Waiting.{ahead_before, waiting_later}
use Rattle.port_calculus.proofs.Serving.{due_before_streams, sends-earliest, sends_lower, sends_fewer}

module _ (n : ℕ) (D : ℕ → ℕ) (a : ℕ → ℕ → ℕ) (c t : ℕ) where
  -- Where a packet due by slot u is sent, none that is due earlier waits on,
  pub port-earliest : (u i v j : ℕ) → 1 ≤ sent n D a c t u i → v < u → j < n → waiting n D a c t v j ≡ 0
  unfolding sent waiting
  port-earliest u i v j some p q =
      omega (arith, sends-earliest n c (offered n D a c t) u i some, ahead_before n c (keeps n c (offered n D a c t)) v u j p q)

  -- and where one of stream i is sent, none of a lower stream that is due by the same slot.
  pub port_lower : (u i j : ℕ) → 1 ≤ sent n D a c t u i → j < i → waiting n D a c t u j ≡ 0
  unfolding sent waiting
  port_lower u i j some p =
      omega (
        arith,
        sends_lower n c (offered n D a c t) u i some,
        sum_below-suc (keeps n c (offered n D a c t) u) j,
        sum_below_rises (keeps n c (offered n D a c t) u) (suc j) i p,
      )

  -- Where fewer than c packets are sent, nothing waits.
  pub port_busy : ((i : ℕ) → i < n → D i ≤ 64) → sum_below (λ i. sent_of n D a c i t) n < c → (u j : ℕ) → j < n → waiting n D a c t u j ≡ 0
  port_busy timely few u j p =
      elim (dec_le (t + 65) u) [
        | yes q ↦ waiting_later n D a c t u j (omega (arith, timely j p))
        | no q ↦ omega (arith, none few, ahead_before n c (waiting n D a c t) u (t + 65) j (omega arith) p)
      ]
    where
      none : sum_below (λ i. sent_of n D a c i t) n < c → due_before n (waiting n D a c t) (t + 65) ≡ 0
      none few = unfold waiting in sends_fewer n c (offered n D a c t) (t + 65) (omega (arith, all))
        where
          all : due_before n (sends n c (offered n D a c t)) (t + 65) ≡ sum_below (λ i. sent_of n D a c i t) n
          all = unfold sent_of sent in due_before_streams n c (sends n c (offered n D a c t)) (t + 65)

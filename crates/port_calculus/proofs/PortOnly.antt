-- What keeps the words of request 2.11 is the port, slot by slot.
use mathlib.Core.Path.{◌≡◌, refl, ap₂}
use Prim.Native.Nat.{ℕ, zero, suc, ◌+◌, ◌-◌, ◌≤◌, ◌<◌, min}
use native.Mathlib.Decide.{dec_le}
use native.Mathlib.Omega.{arith}
use Rattle.port_calculus.specs.Port.{sum_below, due_before, ahead, sends, keeps, coming, offered, sent}
use Rattle.port_calculus.specs.PortWords.{SlotWords, offers, RunWords}
use Rattle.port_calculus.proofs.Sums.{sum_below-suc, sum_below_none, sum_below_rises, sum_below_stops}
use Rattle.port_calculus.proofs.Waiting.{ahead_before}
use Rattle.port_calculus.proofs.PortWords.{words_cong}

module _ (n : ℕ) (x : ℕ → ℕ → ℕ) where
  ahead-first : ahead n x 0 0 ≡ 0
  unfolding ahead due_before sum_below
  ahead-first = refl

  -- A place goes before the next stream's, and the last stream's before the next due slot's.
  ahead_stream : (u i : ℕ) → ahead n x u (suc i) ≡ ahead n x u i + x u i
  unfolding ahead sum_below
  ahead_stream u i = omega arith

  ahead-slot : (u : ℕ) → ahead n x (suc u) 0 ≡ ahead n x u n
  unfolding ahead due_before sum_below
  ahead-slot u = omega arith

  -- Where nothing is sent after a place, all is sent up to it.
  ahead-last : (u i : ℕ) → i < n → ((j : ℕ) → i < j → j < n → x u j ≡ 0) → ((v : ℕ) → u < v → (j : ℕ) → j < n → x v j ≡ 0)
      → (v : ℕ) → due_before n x v ≤ ahead n x u i + x u i
  unfolding ahead due_before
  ahead-last u i p among later v =
      elim (dec_le v u) [
        | yes r ↦ omega (arith, sum_below_rises (λ w. sum_below (x w) n) v u r)
        | no r ↦ omega (
          arith,
          sum_below_stops (λ w. sum_below (x w) n) (suc u) v (omega arith) (λ w s y. sum_below_none (x w) n (later w s)),
          sum_below-suc (λ w. sum_below (x w) n) u,
          sum_below_stops (x u) (suc i) n p among,
          sum_below-suc (x u) i,
        )
      ]

-- One slot: what is sent up to any place is as much as can be.
module _ (n c : ℕ) (q x : ℕ → ℕ → ℕ) (words : SlotWords n c q x) where
  -- Where packets of a place are left, c packets are sent up to it.
  left_full : (u i : ℕ) → i < n → x u i < q u i → c ≤ ahead n x u i + x u i
  left_full u i p left =
      elim (dec_le c (ahead n x u i + x u i)) [
        | yes r ↦ r
        | no r ↦ absurd (omega (arith, words.fewer (λ v. omega (arith, upto v)) u i p))
      ]
    where
      upto : (v : ℕ) → due_before n x v ≤ ahead n x u i + x u i
      upto = ahead-last n x u i p (λ j r s. words.lower u j i s r left) (λ v r j s. words.earliest v j u i s p r left)

  ahead_next : (u i : ℕ) → i < n → ahead n x u i ≡ min (ahead n q u i) c → ahead n x u (suc i) ≡ min (ahead n q u (suc i)) c
  ahead_next u i p e =
      let most : ahead n x u i + x u i ≤ c = omega (arith, ahead_before n c x u (suc u) i (omega arith) p, words.capacity (suc u)) in
      elim (dec_le (q u i) (x u i)) [
        | yes r ↦ omega (arith, ahead_stream n x u i, ahead_stream n q u i, words.there u i p)
        | no r ↦ omega (arith, ahead_stream n x u i, ahead_stream n q u i, left_full u i p (omega arith))
      ]

  ahead_streams : (u : ℕ) → ahead n x u 0 ≡ min (ahead n q u 0) c → (i : ℕ) → i ≤ n → ahead n x u i ≡ min (ahead n q u i) c
  ahead_streams u e zero p = e
  ahead_streams u e (suc i) p = ahead_next u i p (ahead_streams u e i (omega arith))

  ahead-slots : (u : ℕ) → ahead n x u 0 ≡ min (ahead n q u 0) c
  ahead-slots zero = omega (arith, ahead-first n x, ahead-first n q)
  ahead-slots (suc u) = omega (arith, ahead-slot n x u, ahead-slot n q u, ahead_streams u (ahead-slots u) n (omega arith))

  ahead_all : (u i : ℕ) → i ≤ n → ahead n x u i ≡ min (ahead n q u i) c
  ahead_all u i p = ahead_streams u (ahead-slots u) i p

  -- So it is what the port sends.
  pub words_only : (u i : ℕ) → i < n → x u i ≡ sends n c q u i
  unfolding sends
  words_only u i p = omega (arith, ahead_all u i (omega arith), ahead_all u (suc i) p, ahead_stream n x u i, ahead_stream n q u i)

-- The whole run.
module _ (n : ℕ) (D : ℕ → ℕ) (a : ℕ → ℕ → ℕ) (c T : ℕ) (x : ℕ → ℕ → ℕ → ℕ) (words : RunWords D a x n c T) where
  -- Of the same queue the same is sent,
  sends_only : (t : ℕ) → t < T → ((u i : ℕ) → i < n → offers D a x (suc t) u i ≡ offered n D a c (suc t) u i)
      → (u i : ℕ) → i < n → x (suc t) u i ≡ sent n D a c (suc t) u i
  unfolding RunWords sent
  sends_only t p same =
      words_only n c (offered n D a c (suc t)) (x (suc t)) (words_cong n c (offers D a x (suc t)) (offered n D a c (suc t)) (x (suc t)) same (words t p))

  -- and so the same may be sent in the next slot.
  offers_only : (t : ℕ) → t < T → (u i : ℕ) → i < n → offers D a x (suc t) u i ≡ offered n D a c (suc t) u i
  unfolding offers offered keeps sent
  offers_only zero p u i r = omega arith
  offers_only (suc t) p u i r =
      ap₂ (λ (queue out : ℕ). queue - out + coming D a (suc (suc t)) u i)
      (offers_only t (omega arith) u i r) (sends_only t (omega arith) (offers_only t (omega arith)) u i r)

  -- What keeps the words is the port.
  pub port_only : (t : ℕ) → t < T → (u i : ℕ) → i < n → x (suc t) u i ≡ sent n D a c (suc t) u i
  port_only t p = sends_only t p (offers_only t p)

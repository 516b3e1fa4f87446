-- Laws of the port's queue, slot by slot.
use mathlib.Core.Path.{◌≡◌, refl, ap₂}
use Prim.Native.Nat.{ℕ, zero, suc, ◌+◌, ◌≤◌, ◌<◌}
use native.Mathlib.Decide.{ℕ_discrete}
use native.Mathlib.Omega.{arith}
use borrow.Author.Tests.{eq-eqb, ne_eqb}
use Rattle.port_calculus.specs.Port.{sum_below, due_before, ahead, sends, keeps, coming, offered, sent, waiting, late}
use Rattle.port_calculus.proofs.Sums.{sum_below_cong, sum_below_rises}

module _ (n c : ℕ) (q : ℕ → ℕ → ℕ) where
  -- What goes before a later due slot has all that goes before an earlier one, and its packets.
  pub ahead_before : (u v i : ℕ) → u < v → i < n → ahead n q u i + q u i ≤ due_before n q v
  unfolding ahead due_before sum_below
  ahead_before u v i p r =
      omega (arith, sum_below_rises (λ w. sum_below (q w) n) (suc u) v p, sum_below_rises (q u) (suc i) n r)

  -- Where c packets are enough for all that is due before slot v, all of it is sent;
  pub sends_all : (u v i : ℕ) → due_before n q v ≤ c → u < v → i < n → sends n c q u i ≡ q u i
  unfolding sends
  sends_all u v i enough p r = omega (arith, ahead_before u v i p r)

  -- where they are not more, nothing else is.
  pub sends_nothing : (u v i : ℕ) → c ≤ due_before n q v → v ≤ u → sends n c q u i ≡ 0
  unfolding sends ahead due_before
  sends_nothing u v i short p = omega (arith, sum_below_rises (λ w. sum_below (q w) n) v u p)

  pub sends_none : (u i : ℕ) → q u i ≡ 0 → sends n c q u i ≡ 0
  unfolding sends
  sends_none u i e = omega arith

  -- What does not wait is not kept, and what waits and is not sent is.
  pub keeps_none : (u i : ℕ) → q u i ≡ 0 → keeps n c q u i ≡ 0
  unfolding keeps
  keeps_none u i e = omega arith

  pub keeps_unsent : (u i : ℕ) → sends n c q u i ≡ 0 → keeps n c q u i ≡ q u i
  unfolding keeps
  keeps_unsent u i e = omega arith

-- Queues that agree on the streams are served alike.
module _ (n c : ℕ) (q r : ℕ → ℕ → ℕ) (same : (u i : ℕ) → i < n → q u i ≡ r u i) where
  ahead_cong : (u i : ℕ) → i < n → ahead n q u i ≡ ahead n r u i
  unfolding ahead due_before
  ahead_cong u i p =
      ap₂ ◌+◌ (sum_below_cong _ _ u (λ v s. sum_below_cong (q v) (r v) n (same v))) (sum_below_cong (q u) (r u) i (λ j s. same u j (omega arith)))

  pub sends_cong : (u i : ℕ) → i < n → sends n c q u i ≡ sends n c r u i
  unfolding sends
  sends_cong u i p = omega (arith, ahead_cong u i p, same u i p)

  pub keeps_cong : (u i : ℕ) → i < n → keeps n c q u i ≡ keeps n c r u i
  unfolding keeps
  keeps_cong u i p = omega (arith, sends_cong u i p, same u i p)

module _ (n : ℕ) (D : ℕ → ℕ) (a : ℕ → ℕ → ℕ) (c : ℕ) where
  pub coming_elsewhere : (t u i : ℕ) → (u ≡ t + D i → ⊥) → coming D a t u i ≡ 0
  unfolding coming
  coming_elsewhere t u i p = rw (ne_eqb u (t + D i) p) refl

  pub coming_there : (t u i : ℕ) → u ≡ t + D i → coming D a t u i ≡ a i t
  unfolding coming
  coming_there t u i e = rw (eq-eqb u (t + D i) e) refl

  -- What is offered is what waited, and what comes.
  pub offered_there : (t u i : ℕ) → u ≡ suc t + D i → offered n D a c (suc t) u i ≡ waiting n D a c t u i + a i (suc t)
  unfolding offered waiting
  offered_there t u i e = omega (arith, coming_there (suc t) u i e)

  pub offered_elsewhere : (t u i : ℕ) → (u ≡ suc t + D i → ⊥) → offered n D a c (suc t) u i ≡ waiting n D a c t u i
  unfolding offered waiting
  offered_elsewhere t u i p = omega (arith, coming_elsewhere (suc t) u i p)

  pub waiting-offered : (t u i : ℕ) → waiting n D a c t u i ≤ offered n D a c t u i
  unfolding waiting keeps
  waiting-offered t u i = omega arith

  -- No packet that came by slot t is due later than a deadline after it.
  pub offered_later : (t u i : ℕ) → t + D i < u → offered n D a c t u i ≡ 0
  offered_later zero u i p = unfold offered in refl
  offered_later (suc t) u i p =
      omega (arith, offered_elsewhere t u i (λ e. omega arith), waiting-offered t u i, offered_later t u i (omega arith))

  pub waiting_later : (t u i : ℕ) → t + D i < u → waiting n D a c t u i ≡ 0
  waiting_later t u i p = omega (arith, waiting-offered t u i, offered_later t u i p)

  -- Packets of one stream that are due by one slot came in one slot.
  pub offered_few : (m : ℕ) → ((i t : ℕ) → a i t ≤ m) → (t u i : ℕ) → offered n D a c t u i ≤ m
  offered_few m few zero u i = unfold offered in omega arith
  offered_few m few (suc t) u i =
      elim (ℕ_discrete u (suc t + D i)) [
        | yes e ↦ omega (arith, offered_there t u i e, waiting_later t u i (omega arith), few i (suc t))
        | no p ↦ omega (arith, offered_elsewhere t u i p, waiting-offered t u i, offered_few m few t u i)
      ]

  pub waiting_few : (m : ℕ) → ((i t : ℕ) → a i t ≤ m) → (t u i : ℕ) → waiting n D a c t u i ≤ m
  waiting_few m few t u i = omega (arith, waiting-offered t u i, offered_few m few t u i)

  -- Packets that are due before a slot are sent in it or wait on.
  sent-waiting : (t i k : ℕ) → k ≤ suc t
      → sum_below (λ u. sent n D a c (suc t) u i) k + sum_below (λ u. waiting n D a c (suc t) u i) k ≡ sum_below (λ u. waiting n D a c t u i) k
  unfolding sum_below
  sent-waiting t i zero p = refl
  sent-waiting t i (suc k) p =
      omega (arith, sent-waiting t i k (omega arith), offered_elsewhere t k i (λ e. omega arith), served t k i)
    where
      served : (t u i : ℕ) → sent n D a c (suc t) u i + waiting n D a c (suc t) u i ≡ offered n D a c (suc t) u i
      served t u i = unfold sent waiting keeps sends in omega arith

  -- A packet is late exactly where it waits after its due slot.
  pub late_due : (T i : ℕ) → late n D a c T i ≡ sum_below (λ t. waiting n D a c (suc t) (suc t) i) T
  unfolding late sum_below
  late_due zero i =
      let none : offered n D a c 0 0 i ≡ 0 = unfold offered in refl in
      omega (arith, waiting-offered 0 0 i)
  late_due (suc T) i = omega (arith, late_due T i, sent-waiting T i (suc T) (omega arith))

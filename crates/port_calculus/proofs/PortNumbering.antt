-- How many packets are late in all does not depend on how the streams are numbered.
use mathlib.Core.Path.{◌≡◌, refl, sym, ap, ◌∙◌}
use mathlib.Core.Bool.{cond}
use Prim.Native.Nat.{ℕ, zero, suc, ◌+◌, ◌-◌, ◌<◌}
use native.Mathlib.Omega.{arith}
use borrow.Author.Tests.{eq-eqb, ne_eqb}
use lib.Dec.{eqb}
use Rattle.port_calculus.specs.Port.{sum_below, due_before, coming, offered, waiting, late}
use Rattle.port_calculus.proofs.Sums.{sum_below_cong, sum_below_none, sum_below_swap, sum_below_one}
use Rattle.port_calculus.proofs.Waiting.{late_due}
use Rattle.port_calculus.proofs.Serving.{due_before-suc, keeps_due}
use Rattle.port_calculus.proofs.PacketSchedules.{due_before_add}

module _ (n : ℕ) (D : ℕ → ℕ) (a : ℕ → ℕ → ℕ) (c : ℕ) where
  waiting-taken : (t v : ℕ) → due_before n (waiting n D a c t) v ≡ due_before n (offered n D a c t) v - c
  unfolding waiting
  waiting-taken t v = keeps_due n c (offered n D a c t) v

  offered_due : (t v : ℕ) → due_before n (offered n D a c (suc t)) v ≡ due_before n (waiting n D a c t) v + due_before n (coming D a (suc t)) v
  unfolding offered waiting
  offered_due t v = due_before_add n c (waiting n D a c t) (coming D a (suc t)) v

  -- All late packets, slot by slot.
  late_all : (T : ℕ) → sum_below (late n D a c T) n ≡ sum_below (λ t. sum_below (waiting n D a c (suc t) (suc t)) n) T
  late_all T = sum_below_cong _ _ n (λ i p. late_due n D a c T i) ∙ sym (sum_below_swap (λ t. waiting n D a c (suc t) (suc t)) T n)

-- Two ports of c packets a slot to which as many packets come in all, slot by slot and due slot by due slot.
module _ (n : ℕ) (D : ℕ → ℕ) (a : ℕ → ℕ → ℕ) (n' : ℕ) (D' : ℕ → ℕ) (a' : ℕ → ℕ → ℕ) (c : ℕ)
    (alike : (t u : ℕ) → sum_below (coming D a t u) n ≡ sum_below (coming D' a' t u) n') where
  coming_alike : (t v : ℕ) → due_before n (coming D a t) v ≡ due_before n' (coming D' a' t) v
  unfolding due_before
  coming_alike t v = sum_below_cong _ _ v (λ u p. alike t u)

  offered_alike : (t v : ℕ) → due_before n (offered n D a c t) v ≡ due_before n' (offered n' D' a' c t) v
  offered_alike zero v = unfold due_before offered in
      sum_below_cong _ _ v (λ u p. sum_below_none _ n (λ i q. refl) ∙ sym (sum_below_none _ n' (λ i q. refl)))
  offered_alike (suc t) v =
      omega (
        arith,
        offered_due n D a c t v,
        offered_due n' D' a' c t v,
        waiting-taken n D a c t v,
        waiting-taken n' D' a' c t v,
        offered_alike t v,
        coming_alike (suc t) v,
      )

  waiting_alike : (t v : ℕ) → due_before n (waiting n D a c t) v ≡ due_before n' (waiting n' D' a' c t) v
  waiting_alike t v = omega (arith, waiting-taken n D a c t v, waiting-taken n' D' a' c t v, offered_alike t v)

  -- After every slot as many packets wait in all that are due by any one slot,
  pub waiting_same : (t u : ℕ) → sum_below (waiting n D a c t u) n ≡ sum_below (waiting n' D' a' c t u) n'
  waiting_same t u =
      omega (
        arith,
        due_before-suc n c (waiting n D a c t) u,
        due_before-suc n' c (waiting n' D' a' c t) u,
        waiting_alike t u,
        waiting_alike t (suc u),
      )

  -- and as many are late in all.
  pub late_same : (T : ℕ) → sum_below (late n D a c T) n ≡ sum_below (late n' D' a' c T) n'
  late_same T = late_all n D a c T ∙ sum_below_cong _ _ T (λ t p. waiting_same (suc t) (suc t)) ∙ sym (late_all n' D' a' c T)

-- Streams numbered anew: number i is for stream σ(i), and stream j has number τ(j).
module _ (n : ℕ) (σ τ : ℕ → ℕ) (stream : (i : ℕ) → i < n → σ i < n) (number : (j : ℕ) → j < n → τ j < n)
    (back : (i : ℕ) → i < n → τ (σ i) ≡ i) (forth : (j : ℕ) → j < n → σ (τ j) ≡ j) where
  -- h(j) where it is stream i's, else 0
  abbrev its : (ℕ → ℕ) → ℕ → ℕ → ℕ
  its h i j = cond (eqb (σ i) j) (h j) 0

  its_here : (h : ℕ → ℕ) (i j : ℕ) → σ i ≡ j → its h i j ≡ h j
  its_here h i j e = rw (eq-eqb (σ i) j e) refl

  its_elsewhere : (h : ℕ → ℕ) (i j : ℕ) → (σ i ≡ j → ⊥) → its h i j ≡ 0
  its_elsewhere h i j p = rw (ne_eqb (σ i) j p) refl

  -- A sum does not depend on the numbering.
  pub sum_below_renumbered : (h : ℕ → ℕ) → sum_below (λ i. h (σ i)) n ≡ sum_below h n
  sum_below_renumbered h =
      sum_below_cong _ _ n (λ i p. sym (row i p)) ∙ sum_below_swap (its h) n n ∙ sum_below_cong _ _ n column
    where
      row : (i : ℕ) → i < n → sum_below (its h i) n ≡ h (σ i)
      row i p = sum_below_one (its h i) (σ i) n (stream i p) (λ j q r. its_elsewhere h i j (λ e. r (sym e))) ∙ its_here h i (σ i) refl

      column : (j : ℕ) → j < n → sum_below (λ i. its h i j) n ≡ h j
      column j p =
          sum_below_one (λ i. its h i j) (τ j) n (number j p) (λ i q r. its_elsewhere h i j (λ e. r (sym (back i q) ∙ ap τ e)))
          ∙ its_here h (τ j) j (forth j p)

  -- Numbered anew, the streams have as many late packets in all.
  pub late_renumbered : (D : ℕ → ℕ) (a : ℕ → ℕ → ℕ) (c T : ℕ) → sum_below (late n (λ i. D (σ i)) (λ i. a (σ i)) c T) n ≡ sum_below (late n D a c T) n
  late_renumbered D a c T = late_same n (λ i. D (σ i)) (λ i. a (σ i)) n D a c (λ t u. unfold coming in sum_below_renumbered (coming D a t u)) T

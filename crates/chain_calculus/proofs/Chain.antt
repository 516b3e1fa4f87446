-- Every chain that the checker accepts bounds what is admitted (document 02, request 2.8).
use mathlib.Core.Path.{◌≡◌, ap}
use mathlib.Core.Logic.{◌⊎◌, inl, inr}
use mathlib.Core.Bool.{Bool, true, false, cond}
use mathlib.Core.List.{List}
use Prim.Native.Nat.{ℕ, zero, suc, ◌+◌, ◌-◌, ◌≤◌, ◌<◌}
use native.Mathlib.Omega.{arith}
use lib.Dec.{T, eqb}
use lib.ListN.{get_or}
use Rattle.calculus.proofs.Numbers.Distinct.{zero_one}
use Rattle.calculus.specs.Numbers.Limit.{Limit, none, at_most}
use Rattle.calculus.specs.Envelopes.Envelope.{windows, ClosedEnvelope}
use Rattle.calculus.specs.Regulators.Clipper.{arrived, clipped, delay_bound, buffer_bound, clipper_window, admitted}
use Rattle.calculus.specs.Losses.Permitted.{Permitted, Quiet}
use Rattle.calculus.specs.Regulators.Trace.{sum_to}
use Rattle.chain_calculus.specs.Chain.{amount, Chain, chain_sound}
use Rattle.calculus.proofs.Numbers.Limit.{Within, within_left, within_right}
use Rattle.calculus.proofs.Regulators.Clipper.{clipped-zero, clipped-arrived, clipped-loss_rises}
use Rattle.calculus.proofs.Regulators.ClipperBounds.{clipped_within}
use Rattle.calculus.proofs.Regulators.Regulator.{admitted_by-windows}
use Rattle.calculus.proofs.Losses.LowestLoss.{admitted_most}
use Rattle.chain_calculus.proofs.ChainChecker.{accepted_chain}

-- An amount is that of one of the three marks.
one_of : (b c e : Bool) (l m n : Limit) (v : ℕ) → cond b l (cond c m (cond e n none)) ≡ at_most v → (l ≡ at_most v) ⊎ ((m ≡ at_most v) ⊎ (n ≡ at_most v))
one_of true c e l m n v h = inl h
one_of false true e l m n v h = inr (inl h)
one_of false false true l m n v h = inr (inr h)
one_of false false false l m n v h = absurd (zero_one cc)

module _ (f : ℕ → ℕ) (d q : Limit) (a : ℕ → ℕ) where
  abbrev G : ℕ → ℕ → Limit
  G s t = clipper_window f d q (t - s)

  abbrev X : ℕ → ℕ
  X = admitted (windows f) d q a

  X-clipped : (t : ℕ) → X t ≡ clipped G a t
  X-clipped = admitted_by-windows f d q a

  -- A link's amount bounds what is admitted over it.
  pub amount_bounds : (mark s t v : ℕ) → s < t → amount f d q a mark s t ≡ at_most v → X t ≤ X s + v
  unfolding amount clipper_window
  amount_bounds mark s t v st e =
      let kept : Within (clipped G a t - clipped G a s) (G s t) = λ n g. omega (arith, clipped_within G a s t st n g) in
      elim (one_of (eqb mark 1) (eqb mark 2) (eqb mark 3) _ _ _ v e) [
        | inl h ↦ let same : arrived a t - arrived a s ≡ v = cc in
            omega (arith, X-clipped s, X-clipped t, clipped-loss_rises G a s t (omega arith), clipped-arrived G a s, clipped-arrived G a t)
        | inr (inl h) ↦ omega (arith, X-clipped s, X-clipped t, within_left _ (buffer_bound f q (t - s)) _ kept v h)
        | inr (inr h) ↦ omega (arith, X-clipped s, X-clipped t, within_right (delay_bound f d (t - s)) _ _ kept v h)
      ]

  module _ (t : ℕ) (slots marks amounts : List ℕ) (places : ℕ) where
    -- The links of a sound chain bound what is admitted by the slot that they lead to.
    links-bound : Chain f d q a t slots marks amounts places → (n : ℕ) → n < places → X (get_or slots n 0) ≤ sum_to amounts (suc n)
    unfolding sum_to
    links-bound chain zero p = omega (arith, ap X chain.starts.0, X-clipped 0, clipped-zero G a)
    links-bound chain (suc n) p =
        omega (
          arith,
          links-bound chain n (omega arith),
          amount_bounds (get_or marks (suc n) 0) (get_or slots n 0) (get_or slots (suc n) 0) (get_or amounts (suc n) 0) (chain.rises n p) (chain.amounts_right n p),
        )

    -- An accepted chain's sum is never below X(t).
    pub chain_bounds : T (chain_sound f d q a t slots marks amounts places) → X t ≤ sum_to amounts places
    chain_bounds sound =
        let chain = accepted_chain f d q a slots marks amounts t places sound in
        let e : suc (places - 1) ≡ places = omega (arith, chain.some) in
        omega (arith, links-bound chain (places - 1) (omega arith), ap X chain.ends, ap (sum_to amounts) e)

    -- Under demand 3's premises no permitted pair admits more by slot t than an accepted chain's sum.
    pub chain_bounds_permitted : ClosedEnvelope (windows f) → (N : ℕ) (u v : ℕ → ℕ) → Permitted (windows f) d q a N u v → Quiet d a N
        → t ≤ N → T (chain_sound f d q a t slots marks amounts places) → u t ≤ sum_to amounts places
    chain_bounds_permitted closed N u v permitted quiet t_n sound =
        omega (arith, admitted_most (windows f) closed d q a N u v permitted quiet t t_n, chain_bounds sound)

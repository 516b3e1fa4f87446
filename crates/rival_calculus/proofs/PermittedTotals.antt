-- Totals that break no rule in the slots 1 to T are permitted, and the other way round: windows of 1 to L are enough.
use mathlib.Core.Path.{◌≡◌, ap}
use mathlib.Core.List.{List}
use Prim.Native.Nat.{ℕ, zero, suc, ◌+◌, ◌-◌, ◌≤◌, ◌<◌}
use native.Mathlib.Decide.{dec_le}
use native.Mathlib.Omega.{arith}
use lib.ListN.{get_or}
use Rattle.calculus.specs.Numbers.Limit.{Limit, at_most}
use Rattle.calculus.specs.Envelopes.Closure.{Table, KeepsWindows, KeepsTable}
use Rattle.calculus.specs.Envelopes.Envelope.{windows}
use Rattle.calculus.specs.Regulators.Rows.{envelope_of}
use Rattle.calculus.specs.Losses.Permitted.{Permitted}
use Rattle.calculus.proofs.Envelopes.Closure.{table-kept-keeps-closure, closure-kept-keeps-table}
use Rattle.calculus.proofs.Losses.Permitted.{permitted-bound}
use Rattle.calculus.proofs.Losses.AlsoPermitted.{rules_permitted, permitted_rules}
use Rattle.refusals.specs.Table.{last_window}
use Rattle.rival_calculus.specs.Breaks.{Breaks, over_arrivals, over_admitted, over_envelope, over_buffer, over_delay}

module _ (table : List ℕ) (given : Table (last_window table) (λ k. get_or table k 0)) (d q : Limit) (a : ℕ → ℕ) (T : ℕ) (u v : ℕ → ℕ) where
  abbrev F : ℕ → ℕ → ℕ
  F = windows (envelope_of table)

  -- no rule is broken in the slots 1 to T
  abbrev pub Kept : Type 0
  Kept = (t r : ℕ) → 1 ≤ t → t ≤ T → Breaks table d q a u v t r → ⊥

  module _ (kept : Kept) where
    -- What is not above is at most.
    not_above : (x y : ℕ) → (x < y → ⊥) → y ≤ x
    not_above x y fails = elim (dec_le y x) [ yes p ↦ p | no p ↦ absurd (fails (omega arith)) ]

    kept-arrivals : (t : ℕ) → t < T → u (suc t) ≤ u t + a (suc t)
    kept-arrivals t p =
        let back : suc t - 1 ≡ t = omega arith in
        not_above (u t + a (suc t)) (u (suc t)) (λ over. kept (suc t) 1 (omega arith) p (over_arrivals (omega (arith, ap u back))))

    kept-admitted : (t : ℕ) → 1 ≤ t → t ≤ T → v t ≤ u t
    kept-admitted t some p = not_above (u t) (v t) (λ over. kept t 2 some p (over_admitted over))

    kept_table : KeepsTable (last_window table) (λ k. get_or table k 0) T v
    unfolding KeepsTable
    kept_table s k p r within =
        let back : s + k - k ≡ s = omega arith in
        not_above (v s + get_or table k 0) (v (s + k))
        (λ over.
        kept (s + k) 3 (omega arith) within
        (over_envelope k (record { from = p; to = r; back = omega arith; over = omega (arith, ap v back) })))

    kept-windows : (s t : ℕ) → s < t → t ≤ T → v t ≤ v s + F s t
    unfolding windows envelope_of KeepsWindows
    kept-windows s t st p = table-kept-keeps-closure (last_window table) (λ k. get_or table k 0) given T v kept_table s t (omega arith) p

    kept_buffer : (n : ℕ) → q ≡ at_most n → (t : ℕ) → t < T → u (suc t) ≤ v t + n
    kept_buffer n e t p =
        let back : suc t - 1 ≡ t = omega arith in
        not_above (v t + n) (u (suc t)) (λ over. kept (suc t) 4 (omega arith) p (over_buffer n e (omega (arith, ap v back))))

    kept-delay : (n : ℕ) → d ≡ at_most n → (t : ℕ) → 1 ≤ t → t + n ≤ T → u t ≤ v (t + n)
    kept-delay n e t some p =
        let back : t + n - n ≡ t = omega arith in
        not_above (v (t + n)) (u t) (λ over. kept (t + n) 5 (omega arith) p (over_delay n e (omega arith) (omega (arith, ap u back))))

    -- Totals that start at 0 and never fall are then permitted.
    pub kept_permitted : (u 0 ≡ 0) × (v 0 ≡ 0) → ((t : ℕ) → t < T → (u t ≤ u (suc t)) × (v t ≤ v (suc t))) → Permitted F d q a T u v
    kept_permitted starts rises =
        rules_permitted F d q a T u v starts
        (λ t p. ((rises t p).0, (rises t p).1, kept-arrivals t p))
        (elim [ zero ↦ λ p. omega arith | suc t ↦ λ p. kept-admitted (suc t) (omega arith) p ])
        kept-windows
        kept_buffer
        (λ n e. elim [ zero ↦ λ p. omega arith | suc t ↦ λ p. kept-delay n e (suc t) (omega arith) p ])

  permitted-table : Permitted F d q a T u v → (s k : ℕ) → 1 ≤ k → k ≤ last_window table → s + k ≤ T → v (s + k) ≤ v s + get_or table k 0
  unfolding windows envelope_of KeepsWindows KeepsTable
  permitted-table ok =
      closure-kept-keeps-table (last_window table) (λ k. get_or table k 0) given T v (λ s t st p. permitted-bound F d q a T u v ok s t st p)

  -- A permitted pair breaks none.
  pub permitted-kept : Permitted F d q a T u v → Kept
  permitted-kept ok t r some within (over_arrivals over) =
      let back : suc (t - 1) ≡ t = omega arith in
      omega (arith, ((permitted_rules F d q a T u v ok).1 (t - 1) (omega arith)).2, ap u back, ap a back)
  permitted-kept ok t r some within (over_admitted over) = omega (arith, ok.departs-admitted t within)
  permitted-kept ok t r some within (over_envelope k over) =
      let back : t - k + k ≡ t = omega (arith, over.back) in
      omega (arith, over.over, permitted-table ok (t - k) k over.from over.to (omega arith), ap v back)
  permitted-kept ok t r some within (over_buffer n e over) =
      let back : suc (t - 1) ≡ t = omega arith in
      omega (arith, (permitted_rules F d q a T u v ok).4 n e (t - 1) (omega arith), ap u back)
  permitted-kept ok t r some within (over_delay n e due over) =
      let back : t - n + n ≡ t = omega arith in
      omega (arith, ok.delay n e (t - n) (omega arith), ap v back)

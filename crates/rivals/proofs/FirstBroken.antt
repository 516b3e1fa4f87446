-- The slot named is the first in which a rule is broken.
use mathlib.Core.Path.{◌≡◌, refl}
use mathlib.Core.Bool.{Bool, false}
use mathlib.Core.List.{List}
use Prim.Native.Nat.{ℕ, zero, suc, ◌≤◌}
use native.Mathlib.Decide.{dec_le}
use native.Mathlib.Omega.{arith}
use lib.Dec.{ltb, eqb}
use borrow.Author.Tests.{ltb-true, ltb-false, le-ltb, eq-eqb, ne_eqb}
use Rattle.calculus.specs.Numbers.Limit.{Limit}
use Rattle.orders.specs.Refusal.{pick}
use Rattle.rivals.specs.declared.judge.Judgement.{Judgement}
use Rattle.rival_calculus.specs.Broken.{broken_window, rule_at, broken_slot}
use Rattle.rival_calculus.specs.Breaks.{Breaks}
use Rattle.rivals.specs.BrokenFirst.{BrokenFirst}
use Rattle.rivals.specs.Judgement.{broken_at}
use Rattle.rival_calculus.proofs.FirstUpTo.{first_none, none_first, first_some}
use Rattle.rival_calculus.proofs.LowestRule.{rule-lowest, rule_broken, rule-window, window-smallest}

module _ (table : List ℕ) (d q : Limit) (a : ℕ → ℕ) (T : ℕ) (u v : ℕ → ℕ) where
  abbrev rule : ℕ → ℕ
  rule = rule_at table d q a u v

  abbrev breaks : ℕ → Bool
  breaks t = ltb 0 (rule t)

  abbrev slot : ℕ
  slot = broken_slot table d q a T u v

  rule_none : (t r : ℕ) → breaks t ≡ false → Breaks table d q a u v t r → ⊥
  rule_none t r e broken = omega (arith, ltb-false 0 (rule t) e, (rule-lowest table d q a u v t r broken).0)

  -- It is 0 exactly where no rule is broken in the slots 1 to T.
  pub slot_kept : slot ≡ 0 → (t r : ℕ) → 1 ≤ t → t ≤ T → Breaks table d q a u v t r → ⊥
  unfolding broken_slot
  slot_kept e t r p within = rule_none t r (first_none breaks T e t p within)

  pub kept_slot : ((t r : ℕ) → 1 ≤ t → t ≤ T → Breaks table d q a u v t r → ⊥) → slot ≡ 0
  unfolding broken_slot
  kept_slot kept =
      none_first breaks T
      (λ t p within.
      elim (dec_le (rule t) 0) [
        | yes low ↦ le-ltb 0 (rule t) low
        | no high ↦ absurd (kept t (rule t) p within (rule_broken table d q a u v t (λ z. omega arith)))
      ])

  -- What is answered of a slot that is not 0.
  module _ (s : ℕ) (some : 1 ≤ s) where
    abbrev answer : Judgement
    answer = broken_at table d q a u v s

    at_fields : (s : ℕ) → 1 ≤ s → ((broken_at table d q a u v s).rule ≡ rule s) × ((broken_at table d q a u v s).slot ≡ s) × ((broken_at table d q a u v s).window ≡ pick (eqb (rule s) 3) (broken_window table v s) 0)
    unfolding broken_at
    at_fields zero p = absurd (omega arith)
    at_fields (suc t) p = (refl, refl, refl)

    at-rule : answer.rule ≡ rule s
    at-rule = (at_fields s some).0

    at_slot : answer.slot ≡ s
    at_slot = (at_fields s some).1

    at-window : rule s ≡ 3 → answer.window ≡ broken_window table v s
    unfolding pick
    at-window e = rw (eq-eqb (rule s) 3 e) at (at_fields s some).2

    at_none : (rule s ≡ 3 → ⊥) → answer.window ≡ 0
    unfolding pick
    at_none other = rw (ne_eqb (rule s) 3 other) at (at_fields s some).2

  -- Where it is not 0, what is answered of it is broken first.
  pub slot_broken : (slot ≡ 0 → ⊥) → BrokenFirst table d q a T u v (broken_at table d q a u v slot)
  unfolding broken_slot
  slot_broken some =
      let (low, high, there, before) = first_some breaks T some in
      let holds : 1 ≤ rule slot = ltb-true 0 (rule slot) there in
      rw (at-rule slot low, at_slot slot low)
      (record {
        within = (low, high);
        broken = rule_broken table d q a u v slot (λ z. omega arith);
        none_before = λ s r p q. rule_none s r (before s p q);
        none_lower = λ r p broken. omega (arith, (rule-lowest table d q a u v slot r broken).1);
        windowed = λ e. rw (at-window slot low e) (rule-window table d q a u v slot e);
        smallest = λ e k p. window-smallest table v slot k (rw (at-window slot low e) at p);
        windowless = at_none slot low;
      })

  -- The rule answered is 0 exactly where the slot is.
  pub rule-slot : (broken_at table d q a u v slot).rule ≡ 0 → slot ≡ 0
  unfolding broken_slot
  rule-slot e =
      elim (dec_le slot 0) [
        | yes p ↦ omega arith
        | no p ↦ let (low, high, there, before) = first_some breaks T (λ z. omega arith) in
            absurd (omega (arith, ltb-true 0 (rule slot) there, at-rule slot low))
      ]

-- Laws of the first of 1, 2, .., n of which a test holds.
use mathlib.Core.Path.{◌≡◌, refl, sym, ap, ap₂, ◌∙◌}
use mathlib.Core.Bool.{Bool, true, false}
use Prim.Native.Nat.{ℕ, zero, suc, ◌+◌, ◌≤◌, ◌<◌}
use native.Mathlib.Decide.{dec_le}
use native.Mathlib.Omega.{arith}
use native.Mathlib.Numerals.{add-one}
use Rattle.orders.specs.Refusal.{◌when◌, ◌or_else◌}
use Rattle.orders.proofs.Refusals.{or_else_none, or_else-first, when_none, or_else_second}
use Rattle.rival_calculus.specs.Broken.{first_up_to}

-- The first that is found stays the first.
first_stays : (test : ℕ → Bool) (n : ℕ) → (first_up_to test n ≡ 0 → ⊥) → first_up_to test (suc n) ≡ first_up_to test n
unfolding first_up_to
first_stays test n some = or_else-first (first_up_to test n) (suc n when test (suc n)) some

-- It holds of none up to n exactly where the first is 0.
pub first_none : (test : ℕ → Bool) (n : ℕ) → first_up_to test n ≡ 0 → (k : ℕ) → 1 ≤ k → k ≤ n → test k ≡ false
unfolding first_up_to
first_none test zero e k p q = absurd (omega arith)
first_none test (suc n) e k p q =
    let (before, last) = or_else_none (first_up_to test n) _ e in
    elim (dec_le k n) [
      | yes r ↦ first_none test n before k p r
      | no r ↦ let here : k ≡ suc n = omega arith in
          rw here (when_none n (test (suc n)) last)
    ]

pub none_first : (test : ℕ → Bool) (n : ℕ) → ((k : ℕ) → 1 ≤ k → k ≤ n → test k ≡ false) → first_up_to test n ≡ 0
unfolding first_up_to ◌when◌ ◌or_else◌
none_first test zero fails = refl
none_first test (suc n) fails =
    rw (none_first test n (λ k p q. fails k p (omega arith)), fails (suc n) (omega arith) (omega arith)) refl

-- A number that is given where a test holds, and is no 0.
when_some : (n : ℕ) (b : Bool) → (suc n when b ≡ 0 → ⊥) → (b ≡ true) × (suc n when b ≡ suc n)
unfolding ◌when◌
when_some n true some = (refl, refl)
when_some n false some = absurd (some refl)

-- Where it is no 0, it is one of them, the test holds of it and of none before.
abbrev First : (ℕ → Bool) → ℕ → ℕ → Type 0
First test n v = (1 ≤ v) × (v ≤ n) × (test v ≡ true) × ((k : ℕ) → 1 ≤ k → k < v → test k ≡ false)

pub first_some : (test : ℕ → Bool) (n : ℕ) → (first_up_to test n ≡ 0 → ⊥) → First test n (first_up_to test n)
unfolding first_up_to
first_some test zero some = absurd (some refl)
first_some test (suc n) some =
    elim (dec_le (first_up_to test n) 0) [
      | yes p ↦ let none : first_up_to test n ≡ 0 = omega arith in
          let at = or_else_second (first_up_to test n) (suc n when test (suc n)) none in
          let (holds, here) = when_some n (test (suc n)) (λ z. some (at ∙ z)) in
          rw (at ∙ here) (omega arith, omega arith, holds, λ k p q. first_none test n none k p (omega arith))
      | no p ↦ let (low, high, there, before) = first_some test n (λ z. omega arith) in
          rw (first_stays test n (λ z. omega arith)) (low, omega arith, there, before)
    ]

-- Looked for from 1 on: none so far, and not here either; or here, whatever comes after.
pub first_next : (test : ℕ → Bool) (k : ℕ) → first_up_to test k ≡ 0 → test (k + 1) ≡ false → first_up_to test (k + 1) ≡ 0
unfolding first_up_to ◌when◌ ◌or_else◌
first_next test k none fails =
    let here : test (suc k) ≡ false = ap test (sym (add-one k)) ∙ fails in
    rw add-one (rw (none, here) refl)

pub first_here : (test : ℕ → Bool) (k n : ℕ) → k + 1 ≤ n → first_up_to test k ≡ 0 → test (k + 1) ≡ true → first_up_to test n ≡ k + 1
unfolding first_up_to ◌when◌
first_here test k zero p none holds = absurd (omega arith)
first_here test k (suc n) p none holds =
    elim (dec_le (k + 1) n) [
      | yes r ↦ let before : first_up_to test n ≡ k + 1 = first_here test k n r none holds in
          first_stays test n (λ z. omega arith) ∙ before
      | no r ↦ let same : n ≡ k = omega arith in
          let here : test (suc n) ≡ true = ap test (omega arith) ∙ holds in
          or_else_second (first_up_to test n) (suc n when test (suc n)) (ap (first_up_to test) same ∙ none) ∙ ap (λ (b : Bool). suc n when b) here ∙ omega arith
    ]

-- Tests that agree have the same first.
pub first_cong : (test other : ℕ → Bool) (n : ℕ) → ((k : ℕ) → 1 ≤ k → k ≤ n → test k ≡ other k) → first_up_to test n ≡ first_up_to other n
unfolding first_up_to
first_cong test other zero same = refl
first_cong test other (suc n) same =
    ap₂ (λ (m : ℕ) (b : Bool). m or_else suc n when b) (first_cong test other n (λ k p q. same k p (omega arith))) (same (suc n) (omega arith) (omega arith))

-- It is at most n.
pub first_within : (test : ℕ → Bool) (n : ℕ) → first_up_to test n ≤ n
first_within test n =
    elim (dec_le (first_up_to test n) 0) [
      | yes p ↦ omega arith
      | no p ↦ (first_some test n (λ z. omega arith)).1
    ]

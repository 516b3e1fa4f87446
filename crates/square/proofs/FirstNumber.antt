-- Laws of judging a square: the first number that applies, place by place.
use mathlib.Core.Path.{◌≡◌, refl, sym, ap, ◌∙◌}
use mathlib.Core.List.{List}
use Prim.Native.Nat.{ℕ, zero, suc, ◌+◌, ◌<◌}
use native.Mathlib.Decide.{dec_le}
use native.Mathlib.Omega.{arith}
use native.Mathlib.Numerals.{add-one}
use lib.ListN.{get_or}
use borrow.Author.Tests.{eq-eqb, ne_eqb}
use Rattle.std.proofs.Common.{Result, Err}
use Rattle.orders.specs.declared.refusal.Refusal.{Refusal}
use Rattle.orders.specs.Refusal.{◌when◌}
use Rattle.orders.specs.Answered.{refusal_number, number_given}
use Rattle.orders.proofs.Given.{refusal_numbered, given_number}
use Rattle.orders.proofs.Refusals.{or_else-first, or_else_none, or_else_second}
use Rattle.square.specs.Refusals.{first_of, below_diagonal_refusal, entry_refusal}

module _ (h : ℕ → ℕ) where
  pub first_none : first_of h 0 ≡ 0
  unfolding first_of
  first_none = refl

  -- One place more, where nothing was refused before it.
  pub first_next : (n : ℕ) → first_of h n ≡ 0 → first_of h (n + 1) ≡ h n
  unfolding first_of
  first_next n e = rw (add-one n) (or_else_second (first_of h n) (h n) e)

  -- What is refused at a place is refused of all.
  pub first_found : (n : ℕ) → first_of h n ≡ 0 → (h n ≡ 0 → ⊥) → (m : ℕ) → n < m → first_of h m ≡ h n
  unfolding first_of
  first_found n e some zero p = absurd (omega arith)
  first_found n e some (suc m) p =
      elim (dec_le (suc n) m) [
        | yes q ↦ let before : first_of h m ≡ h n = first_found n e some m q in
            or_else-first (first_of h m) (h m) (λ z. some (sym before ∙ z)) ∙ before
        | no q ↦ let same : n ≡ m = omega arith in
            rw (sym same) (or_else_second (first_of h n) (h n) e)
      ]

  -- Where nothing is refused, nothing is refused at any place.
  pub first-each : (n : ℕ) → first_of h n ≡ 0 → (k : ℕ) → k < n → h k ≡ 0
  unfolding first_of
  first-each zero e k p = absurd (omega arith)
  first-each (suc n) e k p =
      let (before, last) = or_else_none (first_of h n) (h n) e in
      elim (dec_le (suc k) n) [
        | yes q ↦ first-each n before k q
        | no q ↦ let same : k ≡ n = omega arith in rw same last
      ]

pub zero_found : (entry : ℕ) → (entry ≡ 0 → ⊥) → below_diagonal_refusal entry ≡ 19
unfolding below_diagonal_refusal ◌when◌
zero_found entry p = rw (ne_eqb entry 0 p) refl

pub zero_fine : (entry : ℕ) → entry ≡ 0 → below_diagonal_refusal entry ≡ 0
unfolding below_diagonal_refusal ◌when◌
zero_fine entry p = rw (eq-eqb entry 0 p) refl

-- A place that is judged, those before it being fine: what it is refused for is what all are refused for, or they go on.
module _ (h : ℕ → ℕ) (n : ℕ) (before : first_of h n ≡ 0) where
  pub refused_at : {A : Type 0} {B : Type 0} (given : Result A Refusal) (answer : Result B Refusal) (r : Refusal) → number_given given ≡ h n → given ≡ Err r → answer ≡ Err r
      → (m : ℕ) → n < m → number_given answer ≡ first_of h m
  unfolding number_given
  refused_at given answer r numbered refused answered m p =
      let here : refusal_number r ≡ h n = given_number given r (h n) numbered refused in
      ap number_given answered ∙ here ∙ sym (first_found h n before (λ z. refusal_numbered r (here ∙ z)) m p)

  pub fine_at : h n ≡ 0 → first_of h (n + 1) ≡ 0
  fine_at none = first_next h n before ∙ none

-- The entry after the one at slot t.
pub entry-after : (row : List ℕ) (t v : ℕ) → v ≡ entry_refusal (get_or row t 0) (get_or row (t + 1) 0) → v ≡ entry_refusal (get_or row t 0) (get_or row (suc t) 0)
entry-after row t v e = e ∙ ap (λ (k : ℕ). entry_refusal (get_or row t 0) (get_or row k 0)) (add-one t)

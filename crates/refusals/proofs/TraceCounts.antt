-- Laws of judging a trace's counts.
use mathlib.Core.Path.{◌≡◌, refl, sym, ◌∙◌}
use mathlib.Core.Logic.{◌⊎◌, inl, inr}
use mathlib.Core.List.{List, [], ◌∷◌}
use Prim.Native.Nat.{ℕ, zero, suc, ◌+◌, ◌≤◌, ◌<◌}
use native.Mathlib.Numerals.{add-one}
use native.Mathlib.Omega.{arith}
use lib.ListN.{length, get_or, drop, drop_of_length-le}
use lib.Seq.{drop-cons}
use borrow.Author.Tests.{lt-ltb, le-ltb}
use Rattle.orders.specs.Refusal.{◌when◌, ◌or_else◌}
use Rattle.orders.proofs.Refusals.{or_else_none}
use Rattle.refusals.specs.Limits.{arrivals_refusal}
use Rattle.refusals.proofs.AcceptedSettings.{arrivals-accepted}
use Rattle.refusals.specs.Lengths.{counts_refusal}

-- What the counts of the first slots give: no number yet, the judgment being left to the slots after them, or 8.
abbrev pub Judged : List ℕ → ℕ → ℕ → Type 0
Judged trace i number = ((number ≡ 0) × (counts_refusal trace ≡ counts_refusal (drop i trace))) ⊎ ((number ≡ 8) × (counts_refusal trace ≡ 8))

module _ (trace : List ℕ) (i : ℕ) where
  -- A count above 1,000,000 gets 8.
  counts_large : i < length trace → 1000000 < get_or trace i 0 → counts_refusal (drop i trace) ≡ 8
  unfolding counts_refusal arrivals_refusal ◌when◌ ◌or_else◌
  counts_large inside p = rw (drop-cons trace i 0) (simp (lt-ltb 1000000 (get_or trace i 0)))

  -- Any other leaves the judgment to the slots after it.
  counts_fine : i < length trace → get_or trace i 0 ≤ 1000000 → counts_refusal (drop i trace) ≡ counts_refusal (drop (i + 1) trace)
  unfolding counts_refusal arrivals_refusal ◌when◌ ◌or_else◌
  counts_fine inside p = rw (drop-cons trace i 0, add-one i) (simp (le-ltb 1000000 (get_or trace i 0)))

  pub judged_large : (number : ℕ) → i < length trace → 1000000 < get_or trace i 0 → Judged trace i number → Judged trace (i + 1) 8
  judged_large number inside p (inl (_, left)) = inr (refl, left ∙ counts_large inside p)
  judged_large number inside p (inr (_, large)) = inr (refl, large)

  pub judged_fine : (number : ℕ) → i < length trace → get_or trace i 0 ≤ 1000000 → Judged trace i number → Judged trace (i + 1) number
  judged_fine number inside p (inl (none, left)) = inl (none, left ∙ counts_fine inside p)
  judged_fine number inside p (inr large) = inr large

  -- Past the last slot nothing is wrong.
  pub counts_done : length trace ≤ i → counts_refusal (drop i trace) ≡ 0
  unfolding counts_refusal
  counts_done p = rw drop_of_length-le

  pub judged_done : (number : ℕ) → length trace ≤ i → Judged trace i number → number ≡ counts_refusal trace
  judged_done number p (inl (none, left)) = none ∙ sym (left ∙ counts_done p)
  judged_done number p (inr (eight, large)) = eight ∙ sym large

-- A trace that gets no number has at most 1,000,000 arrivals in each slot.
pub counts_few : (trace : List ℕ) → counts_refusal trace ≡ 0 → (i : ℕ) → get_or trace i 0 ≤ 1000000
unfolding counts_refusal
counts_few [] e = λ i. omega arith
counts_few (n ∷ trace) e =
    let (here, later) = or_else_none (arrivals_refusal n) _ e in
    elim [ zero ↦ arrivals-accepted n here | suc i ↦ counts_few trace later i ]

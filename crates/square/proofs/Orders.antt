-- The refusal numbers that are judged here are the first that apply in their places' orders.
use mathlib.Core.Path.{◌≡◌, refl}
use mathlib.Core.Bool.{Bool, true, false}
use mathlib.Core.Logic.{◌≢◌, ◌⊎◌, inl, inr}
use mathlib.Core.List.{List, [], ◌∷◌}
use Prim.Native.Nat.{ℕ, zero, suc, ◌+◌, ◌<◌}
use native.Mathlib.Omega.{arith}
use lib.Dec.{eqb, ltb}
use lib.ListN.{length}
use borrow.Author.Tests.{ltb-true, ltb-false, eqb-true, eqb-false}
use Rattle.orders.specs.Order.{Order, ◌if◌, through, FirstThatApplies}
use Rattle.orders.specs.Places.{square_order, square_run_order}
use Rattle.square_calculus.specs.Square.{square_entry}
use Rattle.orders.specs.Refusal.{pick, ◌or_else◌}
use Rattle.refusals.proofs.OrderedRefusals.{◌and_then◌, judged_when, judged_below, judged_unequal}
use Rattle.refusals.proofs.Orders.{limits_order_lem, list_order, counts_order_lem}
use Rattle.square.specs.Refusals.{first_of, below_diagonal_refusal, entry_refusal, diagonal_refusal, rows_refusal, square_refusal}
use Rattle.square.specs.RunRefusals.{reach_refusal, square_run_refusal}

-- Numbers judged one after another are judged by their rows in turn.
through_order : (rows : ℕ → Order) (h : ℕ → ℕ) → ((k : ℕ) → FirstThatApplies (rows k) (h k)) → (n : ℕ) → FirstThatApplies (through rows n) (first_of h (suc n))
unfolding through first_of ◌or_else◌
through_order rows h each zero = each 0
through_order rows h each (suc n) = through_order rows h each n and_then each (suc n)

entry_order : (before entry : ℕ) → FirstThatApplies (3 if (1000000 < entry) ∷ 4 if (entry < before) ∷ []) (entry_refusal before entry)
unfolding entry_refusal
entry_order before entry = judged_below 2 1000000 entry and_then judged_below 3 entry before

zero_order : (entry : ℕ) → FirstThatApplies (19 if (entry ≢ 0) ∷ []) (below_diagonal_refusal entry)
unfolding below_diagonal_refusal
zero_order entry = judged_unequal 18 entry 0

-- Square: 19, then 3 and 4 along the rows.
pub square_order_lem : (square : List (List ℕ)) → FirstThatApplies (square_order (square_entry square)) (square_refusal square)
unfolding square_refusal diagonal_refusal rows_refusal
square_order_lem square =
    let F = square_entry square in
    through_order _ _ (λ s. through_order _ _ (λ t. zero_order (F s t)) s) 32
    and_then through_order _ _ (λ s. through_order _ _ (λ t. entry_order (F s t) (F s (suc t))) 31) 32

reach_order : (d slots : ℕ) → FirstThatApplies (20 if ((32 < slots) ⊎ ((d ≢ 255) × (32 < slots + d))) ∷ []) (reach_refusal d slots)
unfolding reach_refusal pick
reach_order d slots = judged_when _ 19 (ltb 32 (slots + pick (eqb d 255) 0 d)) (holds (eqb d 255) (eqb-false d 255)) (fails (eqb d 255) (eqb-true d 255))
  where
    holds : (mark : Bool) → (mark ≡ false → d ≢ 255) → ltb 32 (slots + pick mark 0 d) ≡ true → (32 < slots) ⊎ ((d ≢ 255) × (32 < slots + d))
    holds true m e = inl (omega (arith, ltb-true 32 (slots + 0) e))
    holds false m e = inr (m refl, ltb-true 32 (slots + d) e)

    fails : (mark : Bool) → (mark ≡ true → d ≡ 255) → ltb 32 (slots + pick mark 0 d) ≡ false → ((32 < slots) ⊎ ((d ≢ 255) × (32 < slots + d))) → ⊥
    fails true m e (inl p) = omega (arith, ltb-false 32 (slots + 0) e)
    fails true m e (inr (other, p)) = other (m refl)
    fails false m e (inl p) = omega (arith, ltb-false 32 (slots + d) e)
    fails false m e (inr (other, p)) = omega (arith, ltb-false 32 (slots + d) e)

-- Run over a square: the square, 6, 7, 23, 20, 11, 8.
pub square-run_order : (square : List (List ℕ)) (d q : ℕ) (trace : List ℕ) (ins drops outs : ℕ)
    → FirstThatApplies (square_run_order (square_entry square) d q trace ins drops outs) (square_run_refusal square d q trace ins drops outs)
unfolding square_run_refusal
square-run_order square d q trace ins drops outs =
    let T = length trace in
    square_order_lem square and_then limits_order_lem d q and_then reach_order d T
    and_then (list_order ins T and_then list_order drops T and_then list_order outs T) and_then counts_order_lem trace

-- Laws of ordered refusals: how the first number that applies is put together, that it is the only one, and when it is none.
use mathlib.Core.Path.{◌≡◌, refl, sym, ◌∙◌}
use mathlib.Core.Logic.{◌⊎◌, inl, inr}
use mathlib.Core.Bool.{Bool, true, false, not, ◌&&◌, ◌||◌}
use mathlib.Core.List.{[], ◌∷◌}
use Prim.Native.Nat.{ℕ, zero, suc, ◌≤◌, ◌<◌}
use native.Mathlib.Omega.{arith}
use lib.Dec.{ltb, leb, eqb}
use borrow.Author.Tests.{ltb-true, ltb-false, leb-true, leb-false, eqb-true, eqb-false, not-true, not-false}
use Rattle.orders.specs.Refusal.{pick, ◌when◌, ◌or_else◌}
use Rattle.orders.specs.Order.{◌if◌, Order, ◌then◌, FirstThatApplies, nothing, this, after, NoneApplies, Judged}

-- No rows give no number.
pub judged_none : FirstThatApplies [] 0
judged_none = nothing refl

given : (k : ℕ) (P : Type 0) → P → FirstThatApplies (suc k if P ∷ []) (suc k)
given k P p = let few : 0 < suc k = omega arith in this p refl few

withheld : (k : ℕ) (P : Type 0) → ¬ P → FirstThatApplies (suc k if P ∷ []) 0
withheld k P p = after p (nothing refl)

-- A number that is given where a test holds is judged by the condition that the test tells.
pub judged_when : (P : Type 0) (k : ℕ) (test : Bool) → (test ≡ true → P) → (test ≡ false → ¬ P) → FirstThatApplies (suc k if P ∷ []) (suc k when test)
unfolding ◌when◌
judged_when P k true holds fails = given k P (holds refl)
judged_when P k false holds fails = withheld k P (fails refl)

-- `or_else` is one order after the other.
first_then : (first second : Order) (m n : ℕ) → FirstThatApplies first m → FirstThatApplies second n → FirstThatApplies (first then second) (m or_else n)
unfolding ◌or_else◌
first_then [] second m n (nothing e) q = rw e q
first_then (row ∷ rest) second zero n (this holds e given) q = absurd (omega arith)
first_then (row ∷ rest) second (suc m) n (this holds e given) q = this holds e given
first_then (row ∷ rest) second m n (after fails p) q = after fails (first_then rest second m n p q)

infixr 20 ◌and_then◌
pub ◌and_then◌ : {first second : Order} {m n : ℕ} → FirstThatApplies first m → FirstThatApplies second n → FirstThatApplies (first then second) (m or_else n)
◌and_then◌ {first} {second} {m} {n} p q = first_then first second m n p q

-- No two numbers are the first that applies.
first_only : (o : Order) (m n : ℕ) → FirstThatApplies o m → FirstThatApplies o n → m ≡ n
first_only [] m n (nothing e) (nothing e') = e ∙ sym e'
first_only (row ∷ rest) m n (this holds e given) (this holds' e' given') = e ∙ sym e'
first_only (row ∷ rest) m n (this holds e given) (after fails q) = absurd (fails holds)
first_only (row ∷ rest) m n (after fails p) (this holds e given) = absurd (fails holds)
first_only (row ∷ rest) m n (after fails p) (after fails' q) = first_only rest m n p q

-- No number exactly when no condition holds.
none_applies : (o : Order) (n : ℕ) → FirstThatApplies o n → n ≡ 0 → NoneApplies o
unfolding NoneApplies
none_applies [] n (nothing z) e = tt
none_applies (row ∷ rest) n (this holds same given) e = absurd (omega arith)
none_applies (row ∷ rest) n (after fails p) e = (fails, none_applies rest n p e)

applies_none : (o : Order) (n : ℕ) → FirstThatApplies o n → NoneApplies o → n ≡ 0
unfolding NoneApplies
applies_none [] n (nothing e) none = e
applies_none (row ∷ rest) n (this holds same given) (fails, none) = absurd (fails holds)
applies_none (row ∷ rest) n (after fails p) (fails', none) = applies_none rest n p none

-- The first number that applies is settled.
pub judged : (o : Order) (n : ℕ) → FirstThatApplies o n → Judged o n
judged o n p = record { first = p; only = λ m q. first_only o m n q p; accepted = (none_applies o n p, applies_none o n p) }

-- The tests of numbers tell: below, at most, unequal.
pub judged_below : (k a b : ℕ) → FirstThatApplies (suc k if (a < b) ∷ []) (suc k when ltb a b)
judged_below k a b = judged_when _ k (ltb a b) (ltb-true a b) (λ e p. absurd (omega (arith, ltb-false a b e)))

pub judged_upto : (k a b : ℕ) → FirstThatApplies (suc k if (a ≤ b) ∷ []) (suc k when leb a b)
judged_upto k a b = judged_when _ k (leb a b) (leb-true a b) (λ e p. absurd (omega (arith, leb-false a b e)))

pub judged_unequal : (k a b : ℕ) → FirstThatApplies (suc k if (¬ (a ≡ b)) ∷ []) (suc k when not (eqb a b))
judged_unequal k a b = judged_when _ k (not (eqb a b)) (λ e. eqb-false a b (not-true (eqb a b) e)) (λ e differ. differ (eqb-true a b (not-false (eqb a b) e)))

-- A limit that is neither 0 to the most nor the mark for none.
pub judged_neither : (k most mark x : ℕ) → FirstThatApplies (suc k if ((most < x) × (¬ (x ≡ mark))) ∷ []) (pick (leb x most) 0 (pick (eqb x mark) 0 (suc k)))
unfolding pick
judged_neither k most mark x = by (leb x most) (eqb x mark) (leb-true x most) (leb-false x most) (eqb-true x mark) (eqb-false x mark)
  where
    by : (small noted : Bool) → (small ≡ true → x ≤ most) → (small ≡ false → most < x) → (noted ≡ true → x ≡ mark) → (noted ≡ false → ¬ (x ≡ mark))
        → FirstThatApplies (suc k if ((most < x) × (¬ (x ≡ mark))) ∷ []) (pick small 0 (pick noted 0 (suc k)))
    by true noted s s' n n' = withheld k _ (λ p. absurd (omega (arith, s refl, p.0)))
    by false true s s' n n' = withheld k _ (λ p. p.1 (n refl))
    by false false s s' n n' = given k _ (s' refl, n' refl)

-- Two numbers, each at its mark.
pub judged_both : (k x mark y other : ℕ) → FirstThatApplies (suc k if ((x ≡ mark) × (y ≡ other)) ∷ []) (suc k when (eqb x mark && eqb y other))
unfolding ◌when◌
judged_both k x mark y other = by (eqb x mark) (eqb y other) (eqb-true x mark) (eqb-false x mark) (eqb-true y other) (eqb-false y other)
  where
    by : (one both : Bool) → (one ≡ true → x ≡ mark) → (one ≡ false → ¬ (x ≡ mark)) → (both ≡ true → y ≡ other) → (both ≡ false → ¬ (y ≡ other))
        → FirstThatApplies (suc k if ((x ≡ mark) × (y ≡ other)) ∷ []) (suc k when (one && both))
    by true true m m' o o' = given k _ (m refl, o refl)
    by true false m m' o o' = withheld k _ (λ p. o' refl p.1)
    by false both m m' o o' = withheld k _ (λ p. m' refl p.0)

-- A slot number 0, above the most, or not above the one before.
pub judged_any : (k slot most before : ℕ) → FirstThatApplies (suc k if ((slot ≡ 0) ⊎ (most < slot) ⊎ (slot ≤ before)) ∷ []) (suc k when (eqb slot 0 || ltb most slot || leb slot before))
unfolding ◌when◌
judged_any k slot most before = by (eqb slot 0) (ltb most slot) (leb slot before) (eqb-true slot 0) (eqb-false slot 0) (ltb-true most slot) (ltb-false most slot) (leb-true slot before) (leb-false slot before)
  where
    by : (none far low : Bool) → (none ≡ true → slot ≡ 0) → (none ≡ false → ¬ (slot ≡ 0)) → (far ≡ true → most < slot) → (far ≡ false → slot ≤ most)
        → (low ≡ true → slot ≤ before) → (low ≡ false → before < slot)
        → FirstThatApplies (suc k if ((slot ≡ 0) ⊎ (most < slot) ⊎ (slot ≤ before)) ∷ []) (suc k when (none || far || low))
    by true far low z z' m m' l l' = given k _ (inl (z refl))
    by false true low z z' m m' l l' = given k _ (inr (inl (m refl)))
    by false false true z z' m m' l l' = given k _ (inr (inr (l refl)))
    by false false false z z' m m' l l' =
        withheld k _ (elim [ inl e ↦ z' refl e | inr r ↦ elim r [ inl q ↦ absurd (omega (arith, m' refl)) | inr q ↦ absurd (omega (arith, l' refl)) ] ])

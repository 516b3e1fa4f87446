-- A machine that has taken 1,000,000 slots takes no more: it answers every call with 8 or 9, and no list of calls changes it.
use mathlib.Core.Path.{◌≡◌, refl, sym, ap, ◌∙◌}
use mathlib.Core.Logic.{◌⊎◌, inl, inr}
use mathlib.Core.List.{List, [], ◌∷◌, map}
use Prim.Native.Nat.{ℕ, ◌≤◌, ◌<◌}
use native.Mathlib.Decide.{dec_le}
use native.Mathlib.Omega.{arith}
use Rattle.refusals.specs.Limits.{slot_refusal}
use Rattle.live_step.specs.Answer.{SlotAnswer, Refused}
use Rattle.calls.specs.Calls.{Machine, answers, after, counted}
use Rattle.calls.proofs.AcceptedCalls.{slot_eight, slot_nine}
use Rattle.calls.proofs.CallRecords.{TakesSlots}

module _ {S : Type 0} (m : Machine S) (takes : TakesSlots m) (s : S) (spent : 1000000 ≤ m.slots s) where
  -- 8 for more than 1,000,000 arrivals, else 9
  pub spent-number : (n : ℕ) → ((1000000 < n) × (slot_refusal n (m.slots s) ≡ 8)) ⊎ ((n ≤ 1000000) × (slot_refusal n (m.slots s) ≡ 9))
  spent-number n =
      elim (dec_le n 1000000) [
        | yes few ↦ inr (few, slot_nine n (m.slots s) few spent)
        | no many ↦ inl (omega arith, slot_eight n (m.slots s) (omega arith))
      ]

  spent_call : (n : ℕ) → (m.answer s n ≡ Refused (slot_refusal n (m.slots s))) × (m.next s n ≡ s)
  spent_call n =
      elim (spent-number n) [
        | inl (many, number) ↦ let (answered, same) = takes.refuses s n 7 number in (answered ∙ ap Refused (sym number), same)
        | inr (few, number) ↦ let (answered, same) = takes.refuses s n 8 number in (answered ∙ ap Refused (sym number), same)
      ]

  pub spent-answers : (calls : List ℕ) → answers m s calls ≡ map (λ n. Refused (slot_refusal n (m.slots s))) calls
  unfolding answers
  spent-answers [] = refl
  spent-answers (n ∷ calls) = let (answered, same) = spent_call n in rw (same, answered) (ap (λ (l : List SlotAnswer). Refused (slot_refusal n (m.slots s)) ∷ l) (spent-answers calls))

  pub spent_left : (calls : List ℕ) → after m s calls ≡ s
  unfolding after
  spent_left [] = refl
  spent_left (n ∷ calls) = rw (spent_call n).1 (spent_left calls)

  refused_none : (calls : List ℕ) → counted (map (λ n. Refused (slot_refusal n (m.slots s))) calls) ≡ []
  unfolding counted
  refused_none [] = refl
  refused_none (n ∷ calls) = refused_none calls

  -- So no slot is ever answered.
  pub spent_none : (calls : List ℕ) → counted (answers m s calls) ≡ []
  spent_none calls = ap counted (spent-answers calls) ∙ refused_none calls

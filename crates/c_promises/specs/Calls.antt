-- A list of slot calls, judged call by call (document 01, "The lowest loss curve"): a call is accepted exactly when it has at most 1,000,000 arrivals and fewer
-- than 1,000,000 calls before it in the list were accepted; a refused call adds no slot.
use Rattle.std.specs.Prelude.{List, [], ◌∷◌, ℕ, suc}
use Rattle.orders.specs.Order.{Judged}
use Rattle.orders.specs.Places.{slot_order}

-- the calls' numbers, `taken` calls having been accepted before
pub data CallsJudged : ℕ → List ℕ → List ℕ → Type 1 where
  done : {taken : ℕ} → CallsJudged taken [] []
  accepted : {taken n : ℕ} {calls numbers : List ℕ} → Judged (slot_order n taken) 0 → CallsJudged (suc taken) calls numbers → CallsJudged taken (n ∷ calls) (0 ∷ numbers)
  refused : {taken n k : ℕ} {calls numbers : List ℕ} → Judged (slot_order n taken) (suc k) → CallsJudged taken calls numbers → CallsJudged taken (n ∷ calls) (suc k ∷ numbers)

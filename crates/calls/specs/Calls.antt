-- A list of slot calls on one machine that takes slots (document 01, "The lowest loss curve"): a live regulator, or any other
-- that answers slots.
use Rattle.std.specs.Prelude.{ℕ, zero, suc, List, [], ◌∷◌, map, leb, ltb}
use Rattle.calculus.specs.Numbers.Sizes.{most_packets, most_slots}
use Rattle.orders.specs.Refusal.{pick}
use Rattle.refusals.specs.Limits.{slot_refusal}
use Rattle.live_step.specs.declared.record.SlotRecord.{SlotRecord}
use Rattle.live_step.specs.Answer.{SlotAnswer, Counted, Refused}

-- a machine of states S: its answer to a call with n arrivals and the state that the call leaves, and what a state tells: the
-- slots taken, the packets admitted and the peaks of the order form's and the bench's fill
pub record Machine (S : Type 0) : Type 0 where
  pub answer : S → ℕ → SlotAnswer
  pub next : S → ℕ → S
  pub slots : S → ℕ
  pub admits : S → ℕ
  pub form_peak : S → ℕ
  pub bench_peak : S → ℕ

-- Each call gets the state as the call before left it: the answers, in the calls' order.
unfoldable pub answers : {S : Type 0} → Machine S → S → List ℕ → List SlotAnswer
answers m s [] = []
answers m s (n ∷ calls) = m.answer s n ∷ answers m (m.next s n) calls

-- the state after the calls
unfoldable pub after : {S : Type 0} → Machine S → S → List ℕ → S
after m s [] = s
after m s (n ∷ calls) = after m (m.next s n) calls

-- A call is accepted exactly when it has at most 1,000,000 arrivals and fewer than 1,000,000 calls before it were
-- accepted. The accepted calls' arrivals in order, `taken` calls having been accepted before.
unfoldable pub accepted_from : ℕ → List ℕ → List ℕ
accepted_from taken [] = []
accepted_from taken (n ∷ calls) =
    pick (leb n most_packets) (pick (ltb taken most_slots) (n ∷ accepted_from (suc taken) calls) (accepted_from taken calls)) (accepted_from taken calls)

-- the trace: slots 1 to T are the accepted calls in order
unfoldable pub trace_of : List ℕ → List ℕ
trace_of calls = accepted_from 0 calls

-- the records answered, slot by slot: a refused call adds no slot
unfoldable pub counted : List SlotAnswer → List SlotRecord
counted [] = []
counted (Counted c ∷ l) = c ∷ counted l
counted (Refused n ∷ l) = counted l

-- packets admitted, dropped and departed, as they were answered for each slot
unfoldable pub admitted_in : List SlotAnswer → List ℕ
admitted_in l = map (λ (c : SlotRecord). c.admitted) (counted l)

unfoldable pub dropped_in : List SlotAnswer → List ℕ
dropped_in l = map (λ (c : SlotRecord). c.dropped) (counted l)

unfoldable pub departed_in : List SlotAnswer → List ℕ
departed_in l = map (λ (c : SlotRecord). c.departed) (counted l)

-- how many calls have been accepted, once a call got a number
unfoldable pub taken_after : ℕ → ℕ → ℕ
taken_after zero taken = suc taken
taken_after (suc k) taken = taken

-- the number of each call by the rules alone, 0 for an accepted one, `taken` calls having been accepted before
unfoldable pub numbers_from : ℕ → List ℕ → List ℕ
numbers_from taken [] = []
numbers_from taken (n ∷ calls) = slot_refusal n taken ∷ numbers_from (taken_after (slot_refusal n taken) taken) calls

-- the number that an answer stands for
unfoldable pub number_of : SlotAnswer → ℕ
number_of (Counted c) = 0
number_of (Refused n) = n

-- the calls whose number is 0
unfoldable pub unrefused : List ℕ → List ℕ → List ℕ
unrefused [] calls = []
unrefused (k ∷ ks) [] = []
unrefused (zero ∷ ks) (n ∷ calls) = n ∷ unrefused ks calls
unrefused (suc k ∷ ks) (n ∷ calls) = unrefused ks calls

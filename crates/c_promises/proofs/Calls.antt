-- The numbers that the rules give a list of calls are those that the order of a slot settles, call by call.
use mathlib.Core.List.{List, [], ◌∷◌}
use Prim.Native.Nat.{ℕ, zero, suc}
use Rattle.orders.specs.Order.{FirstThatApplies}
use Rattle.orders.specs.Places.{slot_order}
use Rattle.refusals.proofs.OrderedRefusals.{judged}
use Rattle.refusals.specs.Limits.{slot_refusal}
use Rattle.refusals.proofs.Orders.{slot_order_lem}
use Rattle.calls.specs.Calls.{taken_after, numbers_from}
use Rattle.c_promises.specs.Calls.{CallsJudged, done, accepted, refused}

pub numbers_judged : (taken : ℕ) (calls : List ℕ) → CallsJudged taken calls (numbers_from taken calls)
unfolding numbers_from taken_after
numbers_judged taken [] = done
numbers_judged taken (n ∷ calls) = by (slot_refusal n taken) (slot_order_lem n taken) (λ m. numbers_judged m calls)
  where
    by : (k : ℕ) → FirstThatApplies (slot_order n taken) k → ((m : ℕ) → CallsJudged m calls (numbers_from m calls))
        → CallsJudged taken (n ∷ calls) (k ∷ numbers_from (taken_after k taken) calls)
    by zero p others = accepted (judged _ _ p) (others (suc taken))
    by (suc k) p others = refused (judged _ _ p) (others taken)

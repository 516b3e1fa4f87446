-- Which calls of a list are accepted: each call is judged alike by its number and by the trace.
use mathlib.Core.Path.{◌≡◌, refl, sym, ap, ◌∙◌}
use mathlib.Core.Logic.{◌⊎◌, inl, inr, ⊎_elim}
use mathlib.Core.List.{List, [], ◌∷◌}
use Prim.Native.Nat.{ℕ, zero, suc, ◌+◌, ◌≤◌, ◌<◌}
use native.Mathlib.Decide.{dec_le}
use native.Mathlib.Omega.{arith}
use lib.ListN.{length, get_or}
use borrow.Author.Tests.{le-leb, lt-leb, lt-ltb, le-ltb}
use Rattle.orders.specs.Refusal.{pick, ◌when◌, ◌or_else◌}
use Rattle.refusals.specs.Limits.{arrivals_refusal, slots_refusal, slot_refusal}
use Rattle.calls.specs.Calls.{accepted_from, taken_after, numbers_from, unrefused}

-- At most 1,000,000 arrivals and fewer than 1,000,000 slots before: no number.
pub slot_fine : (n taken : ℕ) → n ≤ 1000000 → taken < 1000000 → slot_refusal n taken ≡ 0
unfolding slot_refusal arrivals_refusal slots_refusal ◌when◌ ◌or_else◌
slot_fine n taken p q = rw (le-ltb 1000000 n p, lt-leb 1000000 taken q)

-- More arrivals get 8, whatever was taken before; else 1,000,000 slots taken get 9.
pub slot_eight : (n taken : ℕ) → 1000000 < n → slot_refusal n taken ≡ 8
unfolding slot_refusal arrivals_refusal slots_refusal ◌when◌ ◌or_else◌
slot_eight n taken p = rw (lt-ltb 1000000 n p)

pub slot_nine : (n taken : ℕ) → n ≤ 1000000 → 1000000 ≤ taken → slot_refusal n taken ≡ 9
unfolding slot_refusal arrivals_refusal slots_refusal ◌when◌ ◌or_else◌
slot_nine n taken p q = rw (le-ltb 1000000 n p, le-leb 1000000 taken q)

-- a call that gets no number, and is the trace's next slot
pub record Taken (taken n : ℕ) (calls : List ℕ) : Type 0 where
  pub fine : slot_refusal n taken ≡ 0
  pub few : n ≤ 1000000
  pub free : taken < 1000000
  pub next : accepted_from taken (n ∷ calls) ≡ n ∷ accepted_from (suc taken) calls

-- a call that gets a number, and adds no slot to the trace
pub record Turned (taken n : ℕ) (calls : List ℕ) : Type 0 where
  pub less_one : ℕ
  pub number : slot_refusal n taken ≡ suc less_one
  pub same : accepted_from taken (n ∷ calls) ≡ accepted_from taken calls

-- Every call is one or the other.
pub call_judged : (taken n : ℕ) (calls : List ℕ) → Taken taken n calls ⊎ Turned taken n calls
unfolding accepted_from pick slot_refusal arrivals_refusal slots_refusal ◌when◌ ◌or_else◌
call_judged taken n calls =
    elim (dec_le n 1000000) [
      | yes p ↦ elim (dec_le (suc taken) 1000000) [
        | yes q ↦ inl (record {
          fine = slot_fine n taken p q;
          few = p;
          free = q;
          next = rw (le-leb n 1000000 p, lt-ltb taken 1000000 q);
        })
        | no q ↦ inr (record {
          less_one = 8;
          number = rw (le-ltb 1000000 n p, le-leb 1000000 taken (omega arith));
          same = rw (le-leb n 1000000 p, le-ltb taken 1000000 (omega arith));
        })
      ]
      | no p ↦ inr (record { less_one = 7; number = rw (lt-ltb 1000000 n (omega arith)); same = rw (lt-leb n 1000000 (omega arith)) })
    ]

-- Every slot of a trace of accepted calls has at most 1,000,000 arrivals.
pub accepted_few : (taken : ℕ) (calls : List ℕ) (i : ℕ) → get_or (accepted_from taken calls) i 0 ≤ 1000000
accepted_few taken [] i = unfold accepted_from in omega arith
accepted_few taken (n ∷ calls) i =
    ⊎_elim (λ t. rw t.next (first n t.few (accepted_from (suc taken) calls) (accepted_few (suc taken) calls) i))
    (λ t. rw t.same (accepted_few taken calls i)) (call_judged taken n calls)
  where
    first : (n : ℕ) → n ≤ 1000000 → (l : List ℕ) → ((i : ℕ) → get_or l i 0 ≤ 1000000) → (i : ℕ) → get_or (n ∷ l) i 0 ≤ 1000000
    first n p l q zero = p
    first n p l q (suc i) = q i

-- It has at most 1,000,000 slots.
pub accepted_short : (taken : ℕ) (calls : List ℕ) → taken ≤ 1000000 → taken + length (accepted_from taken calls) ≤ 1000000
accepted_short taken [] p = unfold accepted_from in omega arith
accepted_short taken (n ∷ calls) p =
    ⊎_elim (λ t. rw t.next (omega (arith, accepted_short (suc taken) calls t.free))) (λ t. rw t.same (accepted_short taken calls p)) (call_judged taken n calls)

-- What a call adds to the calls whose number is 0.
unrefused_here : (taken n : ℕ) (calls : List ℕ) → slot_refusal n taken ≡ 0
    → unrefused (numbers_from taken (n ∷ calls)) (n ∷ calls) ≡ n ∷ unrefused (numbers_from (suc taken) calls) calls
unfolding unrefused numbers_from taken_after
unrefused_here taken n calls e = rw e

unrefused_not : (taken n k : ℕ) (calls : List ℕ) → slot_refusal n taken ≡ suc k
    → unrefused (numbers_from taken (n ∷ calls)) (n ∷ calls) ≡ unrefused (numbers_from taken calls) calls
unfolding unrefused numbers_from taken_after
unrefused_not taken n k calls e = rw e

-- The trace is the calls whose number is 0.
pub accepted-unrefused : (taken : ℕ) (calls : List ℕ) → accepted_from taken calls ≡ unrefused (numbers_from taken calls) calls
accepted-unrefused taken [] = unfold accepted_from numbers_from unrefused in refl
accepted-unrefused taken (n ∷ calls) =
    ⊎_elim
    (λ t. t.next ∙ ap (λ (l : List ℕ). n ∷ l) (accepted-unrefused (suc taken) calls) ∙ sym (unrefused_here taken n calls t.fine))
    (λ t. t.same ∙ accepted-unrefused taken calls ∙ sym (unrefused_not taken n t.less_one calls t.number)) (call_judged taken n calls)

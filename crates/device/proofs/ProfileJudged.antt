-- Laws of judging a profile: what each number adds, and what an accepted profile is.
use mathlib.Core.Path.{◌≡◌, refl}
use mathlib.Core.List.{List, [], ◌∷◌}
use Prim.Native.Nat.{ℕ, zero, suc, ◌+◌, ◌*◌, ◌/◌, ◌%◌, ◌≤◌, ◌<◌}
use mathlib.Core.Bool.{Bool, true, false, not, ◌||◌}
use Rattle.std.specs.List.{list_any}
use native.Mathlib.Decide.{dec_le, ℕ_discrete}
use native.Mathlib.Omega.{arith}
use lib.ListN.{length, get_or}
use lib.Dec.{ltb, eqb}
use borrow.Author.Tests.{lt-ltb, le-ltb, ltb-false, eq-eqb, ne_eqb}
use Rattle.calculus.specs.Numbers.Lists.{list_of}
use Rattle.orders.specs.Refusal.{◌when◌, ◌or_else◌}
use Rattle.orders.proofs.Refusals.{or_else_none, when_none}
use Rattle.device.specs.Profile.{rate_of, burst_of, bucket_count, buckets_refusal, numbers_refusal, profile_refusal}

-- 15 where the entries are odd in number or their half is not 1 to 4.
pub buckets_wrong : (n : ℕ) → (n % 2 ≡ 0 → 1 ≤ n / 2 → 4 < n / 2) → 15 ≡ buckets_refusal n
unfolding buckets_refusal ◌when◌ ◌or_else◌
buckets_wrong n wrong =
    elim (ℕ_discrete (n % 2) 0) [
      | yes even ↦ elim (dec_le 1 (n / 2)) [
        | yes some ↦ rw (eq-eqb (n % 2) 0 even, le-ltb (n / 2) 1 some, lt-ltb 4 (n / 2) (wrong even some)) refl
        | no none ↦ rw (eq-eqb (n % 2) 0 even, lt-ltb (n / 2) 1 (omega arith)) refl
      ]
      | no odd ↦ rw (ne_eqb (n % 2) 0 odd) refl
    ]

pub buckets_fine : (n : ℕ) → n % 2 ≡ 0 → 1 ≤ n / 2 → n / 2 ≤ 4 → 0 ≡ buckets_refusal n
unfolding buckets_refusal ◌when◌ ◌or_else◌
buckets_fine n even some few = rw (eq-eqb (n % 2) 0 even, le-ltb (n / 2) 1 some, le-ltb 4 (n / 2) few) refl

-- 16 where any number is above 1,000,000.
any_more : (number : ℕ) (large : Bool) (rest : ℕ) (later : Bool) → rest ≡ suc number when later → suc number when large or_else rest ≡ suc number when (large || later)
unfolding ◌when◌ ◌or_else◌
any_more number true rest later e = refl
any_more number false rest later e = e

pub numbers_any : (profile : List ℕ) → numbers_refusal profile ≡ 16 when list_any (ltb 1000000) profile
unfolding numbers_refusal
numbers_any [] = unfold ◌when◌ in refl
numbers_any (x ∷ later) = any_more 15 (ltb 1000000 x) _ _ (numbers_any later)

-- A list of four numbers, each the function's.
pub list_of_four : (h : ℕ → ℕ) (a b c d : ℕ) → a ≡ h 0 → b ≡ h 1 → c ≡ h 2 → d ≡ h 3 → a ∷ b ∷ c ∷ d ∷ [] ≡ list_of h 4
unfolding list_of
list_of_four h a b c d ea eb ec ed = rw (ea, eb, ec, ed)

-- what an accepted profile is
pub record AcceptedProfile (profile : List ℕ) : Type 0 where
  pub count_from : 1 ≤ bucket_count profile
  pub count_to : bucket_count profile ≤ 4
  pub small : (k : ℕ) → get_or profile k 0 ≤ 1000000

-- Numbers that nothing is wrong with are at most 1,000,000.
numbers-accepted : (l : List ℕ) → numbers_refusal l ≡ 0 → (k : ℕ) → get_or l k 0 ≤ 1000000
unfolding numbers_refusal
numbers-accepted [] e = λ k. omega arith
numbers-accepted (x ∷ l) e =
    let (first, rest) = or_else_none (16 when ltb 1000000 x) _ e in
    elim [ zero ↦ ltb-false 1000000 x (when_none 15 (ltb 1000000 x) first) | suc k ↦ numbers-accepted l rest k ]

-- A profile that gets no number is accepted in every respect.
pub profile-accepted : (profile : List ℕ) → profile_refusal profile ≡ 0 → AcceptedProfile profile
unfolding buckets_refusal
profile-accepted profile e =
    let (counted, numbers) = or_else_none (buckets_refusal (length profile)) _ e in
    let (even, count) = or_else_none (15 when not (eqb (length profile % 2) 0)) _ counted in
    let (low, high) = or_else_none (15 when ltb (bucket_count profile) 1) _ count in
    record {
      count_from = ltb-false (bucket_count profile) 1 (when_none 14 (ltb (bucket_count profile) 1) low);
      count_to = ltb-false 4 (bucket_count profile) (when_none 14 (ltb 4 (bucket_count profile)) high);
      small = numbers-accepted profile numbers;
    }

module _ (profile : List ℕ) (ok : AcceptedProfile profile) (i : ℕ) where
  -- Its rates and bursts are at most 1,000,000.
  pub rate_small : rate_of profile i ≤ 1000000
  unfolding rate_of
  rate_small = ok.small (2 * i)

  pub burst_small : burst_of profile i ≤ 1000000
  unfolding burst_of
  burst_small = ok.small (2 * i + 1)

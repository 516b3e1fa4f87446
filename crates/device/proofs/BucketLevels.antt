-- One more bucket: what each turn over the buckets adds to the totals and to the levels.
use mathlib.Core.Path.{◌≡◌, refl, ap, ◌∙◌}
use mathlib.Core.List.{List}
use Prim.Native.Nat.{ℕ, ◌+◌, ◌*◌, ◌≤◌, ◌<◌, min}
use native.Mathlib.Nat.{mul-le-mul}
use native.Mathlib.Omega.{arith}
use native.Mathlib.Numerals.{add-one}
use lib.ListN.{length, get_or, take, set, length-set}
use lib.Seq.{get_or-set_other}
use Rattle.calculus.specs.Numbers.Limit.{Limit}
use Rattle.calculus.specs.Numbers.Lists.{list_of}
use Rattle.calculus.proofs.Numbers.Lists.{list_of_filled, list_of_full}
use Rattle.device.specs.Levels.{buckets_of, gained, bucket_admits, buckets_admit, buckets_let, level_after, levels_after}

-- A device of 1 to 4 buckets has them all.
pub buckets_all : (n : ℕ) → 1 ≤ n → n ≤ 4 → buckets_of n ≡ n
buckets_all n from to = omega arith

-- The product of two numbers of 32 bits has 64.
pub product_fits : (a b : ℕ) → a < 0x1_0000_0000 → b < 0x1_0000_0000 → a * b < 0x1_0000_0000_0000_0000
product_fits a b p q =
    let most : a * b ≤ 0xffff_ffff * 0xffff_ffff = mul-le-mul {n₂ = 0xffff_ffff} {m₂ = 0xffff_ffff} (omega arith) (omega arith) in
    omega arith

-- One bucket more cuts the admitted total once more ..
pub admit_next : (d : Limit) (levels rates : List ℕ) (total i before after : ℕ) → before ≡ buckets_admit d levels rates total i
    → after ≡ bucket_admits d (get_or levels i 0) (get_or rates i 0) before → after ≡ buckets_admit d levels rates total (i + 1)
unfolding buckets_admit
admit_next d levels rates total i before after e1 e2 =
    rw add-one (e2 ∙ ap (bucket_admits d (get_or levels i 0) (get_or rates i 0)) e1)

-- .. and what departs.
pub depart_next : (levels rates : List ℕ) (total i before after : ℕ) → before ≡ buckets_let levels rates total i
    → after ≡ min before (gained (get_or levels i 0) (get_or rates i 0)) → after ≡ buckets_let levels rates total (i + 1)
unfolding buckets_let
depart_next levels rates total i before after e1 e2 = rw add-one (e2 ∙ ap (λ (x : ℕ). min x (gained (get_or levels i 0) (get_or rates i 0))) e1)

module _ (levels rates bursts : List ℕ) (x : ℕ) where
  -- bucket i's level after the slot
  abbrev after_at : ℕ → ℕ
  after_at i = level_after (get_or levels i 0) (get_or rates i 0) (get_or bursts i 0) x

  -- levels that are raised below place i, and as they were from there on
  pub record Raised (i : ℕ) (now : List ℕ) : Type 0 where
    pub long : length now ≡ 4
    pub filled : take i now ≡ list_of after_at i
    pub kept : (k : ℕ) → i ≤ k → get_or now k 0 ≡ get_or levels k 0

  pub raised-first : length levels ≡ 4 → Raised 0 levels
  unfolding list_of
  raised-first long = record { long = long; filled = refl; kept = λ k p. refl }

  pub raised_next : (i : ℕ) (now : List ℕ) → Raised i now → i < 4 → (v : ℕ) → v ≡ level_after (get_or now i 0) (get_or rates i 0) (get_or bursts i 0) x
      → Raised (i + 1) (set now i v)
  raised_next i now raised inside v e =
      record {
        long = length-set now i v ∙ raised.long;
        filled = list_of_filled after_at now i v (omega (arith, raised.long)) raised.filled
            (e ∙ ap (λ (level : ℕ). level_after level (get_or rates i 0) (get_or bursts i 0) x) (raised.kept i (omega arith)));
        kept = λ k p. get_or-set_other now i k v 0 (omega arith) ∙ raised.kept k (omega arith);
      }

  pub raised-last : (i : ℕ) (now : List ℕ) → Raised i now → i ≤ 4 → 4 ≤ i → now ≡ levels_after levels rates bursts x
  unfolding levels_after
  raised-last i now raised p q = list_of_full after_at now 4 i p q raised.long raised.filled

-- Rows that are filled from their first place on, the rest being 0.
use mathlib.Core.Path.{◌≡◌, sym, ◌∙◌}
use mathlib.Core.List.{List}
use Prim.Native.Nat.{ℕ, suc, ◌+◌, ◌<◌}
use native.Mathlib.Decide.{dec_le, ℕ_discrete}
use native.Mathlib.Omega.{arith}
use lib.Dec.{ltb}
use lib.ListN.{length, get_or, set, length-set}
use lib.Seq.{ext_get_or, get_or-set_same, get_or-set_other}
use borrow.Author.Tests.{lt-ltb, le-ltb}
use Rattle.calculus.specs.Numbers.Lists.{list_of}
use Rattle.calculus.proofs.Numbers.Lists.{list_of_at, length-list_of}
use Rattle.orders.specs.Refusal.{pick}

-- a row of n places that has h at its first k
pub record Begun (h : ℕ → ℕ) (n k : ℕ) (row : List ℕ) : Type 0 where
  pub long : length row ≡ n
  pub places : (i : ℕ) → get_or row i 0 ≡ pick (ltb i k) (h i) 0

module _ (h : ℕ → ℕ) (n : ℕ) where
  pub begun_none : (row : List ℕ) → (length row ≡ n) × ((i : ℕ) → get_or row i 0 ≡ 0) → Begun h n 0 row
  unfolding pick
  begun_none row (long, blank) = record { long = long; places = λ i. rw (le-ltb i 0 (omega arith)) (blank i) }

  -- One place more.
  pub begun_more : (k v : ℕ) (row : List ℕ) → k < n → v ≡ h k → Begun h n k row → Begun h n (k + 1) (set row k v)
  unfolding pick
  begun_more k v row inside value before =
      record {
        long = simp length-set before.long;
        places = λ i. elim (ℕ_discrete i k) [
          | yes e ↦ rw (e, lt-ltb k (k + 1) (omega arith)) (get_or-set_same row k v 0 (omega (arith, before.long)) ∙ value)
          | no q ↦ elim (dec_le (suc i) k) [
            | yes r ↦ rw (lt-ltb i (k + 1) (omega arith)) (get_or-set_other row k i v 0 q ∙ rw (lt-ltb i k r) at (before.places i))
            | no r ↦ rw (le-ltb i (k + 1) (omega arith)) (get_or-set_other row k i v 0 q ∙ rw (le-ltb i k (omega arith)) at (before.places i))
          ]
        ];
      }

  pub begun_all : (k : ℕ) (row : List ℕ) → Begun h n k row → row ≡ list_of (λ i. pick (ltb i k) (h i) 0) n
  begun_all k row begun =
      let g : ℕ → ℕ = λ i. pick (ltb i k) (h i) 0 in
      ext_get_or 0 row (list_of g n) (begun.long ∙ sym (length-list_of g n)) (λ i p. begun.places i ∙ sym (list_of_at g n i (omega (arith, begun.long))))

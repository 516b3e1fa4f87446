-- Laws of putting a slot's arrivals in their places.
use mathlib.Core.Path.{◌≡◌, ◌∙◌}
use mathlib.Core.List.{List}
use Prim.Native.Nat.{ℕ, ◌+◌, ◌*◌, ◌<◌}
use native.Mathlib.Decide.{ℕ_discrete}
use native.Mathlib.Omega.{arith}
use lib.ListN.{length, get_or, set, length-set}
use lib.Seq.{get_or-set_same, get_or-set_other}
use Rattle.port.specs.PortWork.{Arrived}

module _ (deadlines : List ℕ) (slots : ℕ) (input : List ℕ) (t : ℕ) (row : List ℕ) where
  -- One stream more is put in its place.
  pub arrived_next : (i from : ℕ) (row' : List ℕ) → Arrived deadlines slots input t i row row' → i < 8 → 8 * (t + 1 + get_or deadlines i 0) + i < length row → from ≡ i * slots + t
      → Arrived deadlines slots input t (i + 1) row (set row' (8 * (t + 1 + get_or deadlines i 0) + i) (get_or input from 0))
  arrived_next i from row' done few inside read =
      let place : ℕ = 8 * (t + 1 + get_or deadlines i 0) + i in
      let value : ℕ = get_or input from 0 in
      record {
        long = length-set row' place value ∙ done.long;
        there = λ j p. elim (ℕ_discrete j i) [
          | yes e ↦ rw (e, ← read) (get_or-set_same row' place value 0 (omega (arith, done.long)))
          | no q ↦ get_or-set_other row' place (8 * (t + 1 + get_or deadlines j 0) + j) value 0 (λ e. q (omega arith)) ∙ done.there j (omega arith)
        ];
        elsewhere = λ u j p q. elim (ℕ_discrete j i) [
          | yes e ↦ get_or-set_other row' place (8 * u + j) value 0 (λ f. q (omega arith) (ahead u j e f)) ∙ done.elsewhere u j p (λ r s. absurd (omega arith))
          | no r ↦ get_or-set_other row' place (8 * u + j) value 0 (λ f. r (omega arith)) ∙ done.elsewhere u j p (λ s. q (omega arith))
        ];
      }
    where
      ahead : (u j : ℕ) → j ≡ i → 8 * u + j ≡ 8 * (t + 1 + get_or deadlines i 0) + i → u ≡ t + 1 + get_or deadlines j 0
      ahead u j e f = rw e (omega arith)

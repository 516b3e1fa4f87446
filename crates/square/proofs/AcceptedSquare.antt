-- An accepted square: its rows are 0 up to the diagonal and do not fall after it, and no entry is above 1,000,000.
use mathlib.Core.Path.{◌≡◌, refl, ◌∙◌}
use mathlib.Core.List.{List}
use Prim.Native.Nat.{ℕ, zero, suc, ◌≤◌, ◌<◌}
use mathlib.Core.Bool.{not}
use native.Mathlib.Decide.{dec_le}
use native.Mathlib.Omega.{arith}
use lib.Dec.{eqb, ltb}
use borrow.Author.Tests.{ltb-false, le-ltb, eqb-true, not-false}
use Rattle.calculus.specs.Envelopes.Envelope.{windows}
use Rattle.calculus.specs.Regulators.Rows.{envelope_of}
use Rattle.square_calculus.specs.Square.{square_entry, Square, square_of}
use Rattle.calculus.proofs.Numbers.Rising.{rising}
use Rattle.square_calculus.proofs.SquareRows.{made_ok, made_small}
use Rattle.refusals.specs.Table.{table_refusal}
use Rattle.refusals.proofs.TableJudged.{table_given, table-accepted}
use Rattle.orders.specs.Refusal.{◌when◌, ◌or_else◌}
use Rattle.orders.proofs.Refusals.{or_else_none, when_none, or_else_second}
use Rattle.square.specs.Refusals.{first_of, below_diagonal_refusal, entry_refusal, diagonal_refusal, rows_refusal, square_refusal, Small}
use Rattle.square.proofs.FirstNumber.{first-each, zero_fine}

zero_none : (entry : ℕ) → below_diagonal_refusal entry ≡ 0 → entry ≡ 0
unfolding below_diagonal_refusal
zero_none entry e = eqb-true entry 0 (not-false (eqb entry 0) (when_none 18 (not (eqb entry 0)) e))

entry_none : (before entry : ℕ) → entry_refusal before entry ≡ 0 → (entry ≤ 1000000) × (before ≤ entry)
unfolding entry_refusal
entry_none before entry e =
    let (low, rise) = or_else_none (3 when ltb 1000000 entry) (4 when ltb entry before) e in
    (ltb-false 1000000 entry (when_none 2 (ltb 1000000 entry) low), ltb-false entry before (when_none 3 (ltb entry before) rise))

module _ (square : List (List ℕ)) (fine : square_refusal square ≡ 0) where
  parts : (diagonal_refusal (square_entry square) ≡ 0) × (rows_refusal (square_entry square) ≡ 0)
  unfolding square_refusal
  parts = or_else_none (diagonal_refusal (square_entry square)) (rows_refusal (square_entry square)) fine

  below : (s t : ℕ) → t ≤ s → s ≤ 32 → square_entry square s t ≡ 0
  unfolding diagonal_refusal
  below s t p q =
      zero_none (square_entry square s t)
      (first-each (λ t. below_diagonal_refusal (square_entry square s t)) (suc s)
      (first-each (λ s. first_of (λ t. below_diagonal_refusal (square_entry square s t)) (suc s)) 33 parts.0 s (omega arith)) t (omega arith))

  along : (s t : ℕ) → s ≤ 32 → t < 32 → (square_entry square s (suc t) ≤ 1000000) × (square_entry square s t ≤ square_entry square s (suc t))
  unfolding rows_refusal
  along s t p q =
      entry_none (square_entry square s t) (square_entry square s (suc t))
      (first-each (λ t. entry_refusal (square_entry square s t) (square_entry square s (suc t))) 32
      (first-each (λ s. first_of (λ t. entry_refusal (square_entry square s t) (square_entry square s (suc t))) 32) 33 parts.1 s (omega arith)) t q)

  pub accepted_square : Square square
  accepted_square =
      record {
        starts = λ s t p q. below s t p q;
        rises = λ s t r st tr q. rising (square_entry square s) 32 (λ k k32. (along s k (omega arith) k32).1) t r tr q;
      }

  pub accepted_small : Small square
  unfolding Small
  accepted_small s zero p q = omega (arith, below s 0 (omega arith) p)
  accepted_small s (suc t) p q = (along s t p q).0

-- A square that keeps the rules gets no number.
first_all : (h : ℕ → ℕ) (n : ℕ) → ((k : ℕ) → k < n → h k ≡ 0) → first_of h n ≡ 0
unfolding first_of
first_all h zero none = refl
first_all h (suc n) none = or_else_second (first_of h n) (h n) (first_all h n (λ k p. none k (omega arith))) ∙ none n (omega arith)

entry_fine : (before entry : ℕ) → before ≤ entry → entry ≤ 1000000 → entry_refusal before entry ≡ 0
unfolding entry_refusal ◌when◌ ◌or_else◌
entry_fine before entry p q = rw (le-ltb 1000000 entry q, le-ltb entry before p) refl

pub square_fine : (square : List (List ℕ)) → Square square → Small square → square_refusal square ≡ 0
unfolding square_refusal diagonal_refusal rows_refusal Small
square_fine square ok small =
    or_else_second (first_of (λ s. first_of (λ t. below_diagonal_refusal (square_entry square s t)) (suc s)) 33) _
    (first_all _ 33 (λ s p. first_all _ (suc s) (λ t q. zero_fine (square_entry square s t) (ok.starts s t (omega arith) (omega arith)))))
    ∙ first_all _ 33 (λ s p. first_all _ 32 (λ t q. entry_fine (square_entry square s t) (square_entry square s (suc t)) (along-row s t (omega arith) q) (small s (suc t) (omega arith) q)))
  where
    along-row : (s t : ℕ) → s ≤ 32 → t < 32 → square_entry square s t ≤ square_entry square s (suc t)
    along-row s t p q =
        elim (dec_le s t) [
          | yes r ↦ ok.rises s t (suc t) r (omega arith) q
          | no r ↦ omega (arith, ok.starts s t (omega arith) p)
        ]

made_low : (table : List ℕ) → table_refusal table ≡ 0 → envelope_of table 32 ≤ 1000000 → Small (square_of (windows (envelope_of table)))
unfolding Small
made_low table fine low s t p q = omega (arith, made_small table (table_given table (table-accepted table fine)) s t p q)

-- So one that is made from a closed table, none of its entries above 1,000,000, is accepted.
pub made_fine : (table : List ℕ) → table_refusal table ≡ 0 → envelope_of table 32 ≤ 1000000 → square_refusal (square_of (windows (envelope_of table))) ≡ 0
made_fine table fine low =
    let given = table_given table (table-accepted table fine) in
    square_fine (square_of (windows (envelope_of table))) (made_ok table given) (made_low table fine low)

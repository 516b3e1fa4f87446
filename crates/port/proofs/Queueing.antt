-- Laws of a queue's totals, the packets that are due by each slot, beside its row.
use mathlib.Core.Path.{◌≡◌, sym, ap, ◌∙◌}
use mathlib.Core.List.{List}
use Prim.Native.Nat.{ℕ, zero, suc, ◌+◌, ◌-◌, ◌*◌, ◌≤◌, ◌<◌}
use native.Mathlib.Decide.{ℕ_discrete, dec_le}
use native.Mathlib.Omega.{arith}
use lib.ListN.{length, get_or, set, length-set}
use lib.Seq.{get_or-set_same, get_or-set_other}
use Rattle.port_calculus.specs.Port.{sum_below}
use Rattle.port_calculus.proofs.Sums.{sum_below-suc, sum_below_cong, sum_below_none, sum_below_most, sum_below_rises, sum_below_stops}
use Rattle.port.specs.PortWork.{queue_of, Queue, SentDue, SentWhole}

-- A sum in which a 0 becomes x has x more.
sum_put : (h k : ℕ → ℕ) (n i x : ℕ) → i < n → h i ≡ 0 → k i ≡ x → ((j : ℕ) → j < n → (j ≡ i → ⊥) → k j ≡ h j) → sum_below k n ≡ sum_below h n + x
sum_put h k zero i x p none there same = absurd (omega arith)
sum_put h k (suc n) i x p none there same =
    elim (ℕ_discrete i n) [
      | yes e ↦ omega (arith, sum_below-suc h n, sum_below-suc k n, sum_below_cong k h n (λ j r. same j (omega arith) (λ f. omega arith)), ap h e, ap k e)
      | no q ↦ omega (arith, sum_below-suc h n, sum_below-suc k n, sum_put h k n i x (omega arith) none there (λ j r. same j (omega arith)), same n (omega arith) (λ f. q (sym f)))
    ]

-- What is kept of numbers of which the first `left` go is their sum less that.
sum_kept : (h k : ℕ → ℕ) (left n : ℕ) → ((i : ℕ) → i < n → k i ≡ h i - (left - sum_below h i)) → sum_below k n ≡ sum_below h n - left
unfolding sum_below
sum_kept h k left zero kept = omega arith
sum_kept h k left (suc n) kept = omega (arith, sum_kept h k left n (λ i p. kept i (omega arith)), kept n (omega arith))

-- One of the numbers of a due slot is at most their sum.
pub due-part : (row : List ℕ) (u i : ℕ) → i < 8 → queue_of row u i ≤ sum_below (queue_of row u) 8
due-part row u i p = omega (arith, sum_below-suc (queue_of row u) i, sum_below_rises (queue_of row u) (suc i) 8 p)

-- An empty queue.
pub queue_blank : (row totals : List ℕ) → (length row ≡ 2568) × ((k : ℕ) → get_or row k 0 ≡ 0) → (length totals ≡ 321) × ((k : ℕ) → get_or totals k 0 ≡ 0) → Queue row totals
queue_blank row totals (long, blank) (long_totals, none) =
    record {
      long = long;
      long_totals = long_totals;
      small = λ k. omega (arith, blank k);
      totalled = λ u. none u ∙ sym (sum_below_none (queue_of row u) 8 (λ i p. blank (8 * u + i)));
    }

module _ (row totals : List ℕ) (queue : Queue row totals) where
  pub queue_low : (u : ℕ) → get_or totals u 0 ≤ 8000000
  queue_low u = omega (arith, queue.totalled u, sum_below_most (queue_of row u) 1000000 8 (λ i. queue.small (8 * u + i)))

  -- Packets are put at a place that has none.
  pub queue_put : (u i x : ℕ) → u < 321 → i < 8 → x ≤ 1000000 → queue_of row u i ≡ 0 → Queue (set row (8 * u + i) x) (set totals u (get_or totals u 0 + x))
  queue_put u i x inside few low none =
      record {
        long = length-set row (8 * u + i) x ∙ queue.long;
        long_totals = length-set totals u (get_or totals u 0 + x) ∙ queue.long_totals;
        small = λ k. elim (ℕ_discrete k (8 * u + i)) [
          | yes e ↦ rw e (omega (arith, there))
          | no q ↦ omega (arith, get_or-set_other row (8 * u + i) k x 0 q, queue.small k)
        ];
        totalled = λ v. elim (ℕ_discrete v u) [
          | yes e ↦ rw e
              (get_or-set_same totals u (get_or totals u 0 + x) 0 (omega (arith, queue.long_totals)) ∙ ap (λ (n : ℕ). n + x) (queue.totalled u)
              ∙ sym (sum_put (queue_of row u) (queue_of (set row (8 * u + i) x) u) 8 i x few none there
              (λ j p q. get_or-set_other row (8 * u + i) (8 * u + j) x 0 (λ f. q (omega arith)))))
          | no q ↦ get_or-set_other totals u v (get_or totals u 0 + x) 0 q ∙ queue.totalled v
              ∙ sum_below_cong _ _ 8 (λ j p. sym (get_or-set_other row (8 * u + i) (8 * v + j) x 0 (λ f. q (omega arith))))
        ];
      }
    where
      there : get_or (set row (8 * u + i) x) (8 * u + i) 0 ≡ x
      there = get_or-set_same row (8 * u + i) x 0 (omega (arith, queue.long))

  -- One due slot's packets change, and its total with them.
  queue-slot : (u total : ℕ) (row' : List ℕ) → u < 321 → length row' ≡ length row → ((k : ℕ) → get_or row' k 0 ≤ get_or row k 0)
      → ((v i : ℕ) → i < 8 → (v ≡ u → ⊥) → queue_of row' v i ≡ queue_of row v i) → total ≡ sum_below (queue_of row' u) 8 → Queue row' (set totals u total)
  queue-slot u total row' inside long fewer others here =
      record {
        long = long ∙ queue.long;
        long_totals = length-set totals u total ∙ queue.long_totals;
        small = λ k. omega (arith, fewer k, queue.small k);
        totalled = λ v. elim (ℕ_discrete v u) [
          | yes e ↦ rw e (get_or-set_same totals u total 0 (omega (arith, queue.long_totals)) ∙ here)
          | no q ↦ get_or-set_other totals u v total 0 q ∙ queue.totalled v ∙ sum_below_cong _ _ 8 (λ i p. sym (others v i p q))
        ];
      }

  -- All packets of a due slot are sent.
  pub queue_whole : (u : ℕ) (counts row' counts' : List ℕ) → u < 321 → SentWhole (8 * u) 8 row counts row' counts' → Queue row' (set totals u 0)
  queue_whole u counts row' counts' inside whole =
      queue-slot u 0 row' inside whole.long fewer
      (λ v i p q. whole.others (8 * v + i) (λ r. elim (dec_le (suc u) v) [ yes w ↦ omega arith | no w ↦ absurd (omega (arith, q (omega arith))) ]))
      (sym (sum_below_none (queue_of row' u) 8 (λ i p. whole.gone i p)))
    where
      fewer : (k : ℕ) → get_or row' k 0 ≤ get_or row k 0
      fewer k =
          elim (dec_le (8 * u) k) [
            | yes p ↦ elim (dec_le (8 * u + 8) k) [
              | yes r ↦ omega (arith, whole.others k (λ s. r))
              | no r ↦ let e : 8 * u + (k - 8 * u) ≡ k = omega arith in rw (← e) (omega (arith, whole.gone (k - 8 * u) (omega arith)))
            ]
            | no p ↦ omega (arith, whole.others k (λ s. absurd (p s)))
          ]

  -- `left` packets of a due slot are sent, and more were due; places without a stream have none.
  pub queue_due : (u streams left left' : ℕ) (counts row' counts' : List ℕ) → u < 321 → streams ≤ 8 → ((i : ℕ) → streams ≤ i → i < 8 → queue_of row u i ≡ 0)
      → SentDue (8 * u) streams left row counts left' row' counts' → Queue row' (set totals u (get_or totals u 0 - left))
  queue_due u streams left left' counts row' counts' inside few absent sent =
      queue-slot u (get_or totals u 0 - left) row' inside sent.long fewer
      (λ v i p q. sent.others (8 * v + i) (λ r. elim (dec_le (suc u) v) [ yes w ↦ omega arith | no w ↦ absurd (omega (arith, q (omega arith))) ]))
      total
    where
      here : (i : ℕ) → streams ≤ i → queue_of row' u i ≡ queue_of row u i
      here i p = sent.others (8 * u + i) (λ r. omega arith)

      total : get_or totals u 0 - left ≡ sum_below (queue_of row' u) 8
      total =
          omega (
            arith,
            queue.totalled u,
            sum_below_stops (queue_of row u) streams 8 few absent,
            sum_below_stops (queue_of row' u) streams 8 few (λ i p r. here i p ∙ absent i p r),
            sum_kept (queue_of row u) (queue_of row' u) left streams sent.kept,
          )

      fewer : (k : ℕ) → get_or row' k 0 ≤ get_or row k 0
      fewer k =
          elim (dec_le (8 * u) k) [
            | yes p ↦ elim (dec_le (8 * u + streams) k) [
              | yes r ↦ omega (arith, sent.others k (λ s. r))
              | no r ↦ let e : 8 * u + (k - 8 * u) ≡ k = omega arith in rw (← e) (omega (arith, sent.kept (k - 8 * u) (omega arith)))
            ]
            | no p ↦ omega (arith, sent.others k (λ s. absurd (p s)))
          ]

-- Laws of judging a table: what each entry adds, and what an accepted table is.
use mathlib.Core.Path.{◌≡◌, ap, ◌∙◌}
use mathlib.Core.List.{List, [], ◌∷◌}
use Prim.Native.Nat.{ℕ, zero, suc, ◌+◌, ◌≤◌, ◌<◌}
use mathlib.Core.Bool.{not}
use native.Mathlib.Omega.{arith}
use native.Mathlib.Numerals.{add-one}
use lib.ListN.{length, get_or, drop, length-drop, drop_of_length-le}
use lib.Seq.{drop-cons, get_or-drop}
use lib.Dec.{ltb, eqb}
use borrow.Author.Tests.{lt-ltb, le-ltb, ltb-false, not-false, eqb-true}
use Rattle.calculus.specs.Envelopes.Closure.{Table}
use Rattle.orders.specs.Refusal.{◌when◌, ◌or_else◌}
use Rattle.refusals.specs.Table.{last_window, last_refusal, zero_refusal, entries_refusal, table_refusal}
use Rattle.orders.proofs.Refusals.{or_else_none, when_none}

module _ (before : ℕ) (table : List ℕ) (i : ℕ) where
  -- Past the last entry nothing is wrong.
  pub entries_done : length table ≤ i → entries_refusal before (drop i table) ≡ 0
  unfolding entries_refusal ◌when◌ ◌or_else◌
  entries_done p = rw drop_of_length-le

  module _ (inside : i < length table) where
    -- An entry above 1,000,000 gets 3.
    pub entries_large : 1000000 < get_or table i 0 → entries_refusal before (drop i table) ≡ 3
    unfolding entries_refusal ◌when◌ ◌or_else◌
    entries_large p = rw (drop-cons table i 0) (simp (lt-ltb 1000000 (get_or table i 0)))

    -- Any other entry below the one before gets 4.
    pub entries_falls : get_or table i 0 ≤ 1000000 → get_or table i 0 < before → entries_refusal before (drop i table) ≡ 4
    unfolding entries_refusal ◌when◌ ◌or_else◌
    entries_falls p q = rw (drop-cons table i 0) (simp (le-ltb 1000000 (get_or table i 0), lt-ltb (get_or table i 0) before))

    -- And any other leaves the judgment to the entries after it.
    pub entries_fine : get_or table i 0 ≤ 1000000 → before ≤ get_or table i 0 → entries_refusal before (drop i table) ≡ entries_refusal (get_or table i 0) (drop (i + 1) table)
    unfolding entries_refusal ◌when◌ ◌or_else◌
    entries_fine p q = rw (drop-cons table i 0, add-one i) (simp (le-ltb 1000000 (get_or table i 0), le-ltb (get_or table i 0) before))

-- What an accepted table is.
pub record AcceptedTable (table : List ℕ) : Type 0 where
  pub last_from : 1 ≤ last_window table
  pub last_to : last_window table ≤ 64
  pub starts : get_or table 0 0 ≡ 0
  pub small : (k : ℕ) → get_or table k 0 ≤ 1000000
  pub rises : (i j : ℕ) → i ≤ j → j ≤ last_window table → get_or table i 0 ≤ get_or table j 0

-- entries that nothing is wrong with are at most 1,000,000, at least the one before the first, and do not fall
entries-accepted : (before : ℕ) (l : List ℕ) → entries_refusal before l ≡ 0
    → ((k : ℕ) → get_or l k 0 ≤ 1000000) × ((k : ℕ) → k < length l → before ≤ get_or l k 0) × ((i j : ℕ) → i ≤ j → j < length l → get_or l i 0 ≤ get_or l j 0)
unfolding entries_refusal
entries-accepted before [] e = (λ k. omega arith, λ k p. absurd (omega arith), λ i j p q. absurd (omega arith))
entries-accepted before (x ∷ l) e =
    let (low, others) = or_else_none (3 when ltb 1000000 x) _ e in
    let (rise, rest) = or_else_none (4 when ltb x before) _ others in
    let small : x ≤ 1000000 = ltb-false 1000000 x (when_none 2 (ltb 1000000 x) low) in
    let above : before ≤ x = ltb-false x before (when_none 3 (ltb x before) rise) in
    let (smalls, lows, rises) = entries-accepted x l rest in (
      elim [ zero ↦ small | suc k ↦ smalls k ],
      elim [ zero ↦ λ p. above | suc k ↦ λ p. omega (arith, lows k (omega arith)) ],
      elim [
        | zero ↦ elim [ zero ↦ λ p q. omega arith | suc j ↦ λ p q. lows j (omega arith) ]
        | suc i ↦ elim [ zero ↦ λ p q. absurd (omega arith) | suc j ↦ λ p q. rises i j (omega arith) (omega arith) ]
      ],
    )

-- A last window that gets no number is 1 to 64.
pub last-accepted : (last : ℕ) → last_refusal last ≡ 0 → (1 ≤ last) × (last ≤ 64)
unfolding last_refusal
last-accepted last e =
    let (low, high) = or_else_none (1 when ltb last 1) _ e in
    (ltb-false last 1 (when_none 0 (ltb last 1) low), ltb-false 64 last (when_none 0 (ltb 64 last) high))

zero-accepted : (table : List ℕ) → zero_refusal table ≡ 0 → get_or table 0 0 ≡ 0
unfolding zero_refusal
zero-accepted table e =
    eqb-true (get_or table 0 0) 0 (not-false (eqb (get_or table 0 0) 0) (when_none 1 (not (eqb (get_or table 0 0) 0)) e))

-- A table that gets no number is accepted in every respect.
pub table-accepted : (table : List ℕ) → table_refusal table ≡ 0 → AcceptedTable table
table-accepted table e =
    let (last, values) = or_else_none (last_refusal (last_window table)) _ e in
    let (first, entries) = or_else_none (zero_refusal table) _ values in
    let starts = zero-accepted table first in
    let (smalls, lows, rises) = entries-accepted 0 (drop 1 table) entries in
    record {
      last_from = (last-accepted (last_window table) last).0;
      last_to = (last-accepted (last_window table) last).1;
      starts = starts;
      small = elim [ zero ↦ omega arith | suc k ↦ omega (arith, smalls k, later table k) ];
      rises = elim [
        | zero ↦ λ j p q. omega arith
        | suc i ↦ elim [
          | zero ↦ λ p q. absurd (omega arith)
          | suc j ↦ λ p q. omega (arith, rises i j (omega arith) (omega (arith, length-drop 1 table)), later table i, later table j)
        ]
      ];
    }
  where
    later : (table : List ℕ) (k : ℕ) → get_or (drop 1 table) k 0 ≡ get_or table (suc k) 0
    later table k = get_or-drop 1 table k 0 ∙ ap (λ (i : ℕ). get_or table i 0) (omega arith)

-- So it is a table as the closure's laws take one.
pub table_given : (table : List ℕ) → AcceptedTable table → Table (last_window table) (λ k. get_or table k 0)
table_given table ok = record { nonempty = ok.last_from; starts = ok.starts; rises = ok.rises }

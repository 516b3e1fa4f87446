-- How the rows are filled, place by place.
use Rattle.std.proofs.Common.{◌≡◌, ℕ, suc, ◌+◌, ◌-◌, ◌%◌, ◌<◌, ◌≤◌, min, List, ◌++◌, length, get_or, take, drop, set, sym, refl, ap, ◌∙◌, add-one, arith, length-drop, length-take-le, get_or-set_other, get_or-take, get_or-set_same, get_or-append-add, ext_get_or, le-leb}
use native.Mathlib.Decide.{dec_le}
use lib.ListN.{get_or-append}
use borrow.Author.Tests.{lt-leb}
use Rattle.orders.specs.Refusal.{pick}
use Rattle.orders.specs.Verdict.{Verdict}
use Rattle.settings.specs.Taken.{taken, Taken}
use Rattle.calculus.specs.Numbers.Lists.{newest_first}
use Rattle.calculus.proofs.Numbers.Lists.{length-newest_first, newest_first_at, length-list_of, list_of_at}
use Rattle.chain.specs.Links.{at_window}
use Rattle.envelope.specs.Envelope.{bound}
use Rattle.question.specs.Windows.{WindowsAnswered}
use Rattle.question.proofs.WindowRow.{windows_bounds}
use Rattle.chain.specs.Rows.{total_at, Filled, summed_over}

-- A row of which the places from one on are f of the envelope that was taken, window 0 last.
pub windows_filled : (table row pieces : List ℕ) (n from : ℕ) → n ≤ 4160 → from ≡ 4160 - n → length row ≡ 4161 → length pieces ≡ 4161 - from
    → (answer : Verdict) (part pieces' rest : List ℕ) (t : Taken) → t ≡ taken table
    → WindowsAnswered t.envelope (take (4161 - from) (drop from row)) pieces answer part pieces' → Filled table row (take from row ++ (part ++ rest)) n
unfolding at_window
windows_filled table row pieces n from inside back long same answer part pieces' rest t made answered =
    let lent : length (take (4161 - from) (drop from row)) ≡ 4161 - from =
    length-take-le (4161 - from) (drop from row) (omega (arith, length-drop from row)) in
    let head : length (take from row) ≡ from = length-take-le from row (omega arith) in
    let bounds : part ≡ newest_first (bound (taken table).envelope) (4161 - from) =
    (windows_bounds answered (omega arith) (omega arith)).0 ∙ ap (newest_first (bound t.envelope)) lent ∙ ap (λ (z : Taken). newest_first (bound z.envelope) (4161 - from)) made in
    let count : length part ≡ 4161 - from = ap length bounds ∙ length-newest_first (bound (taken table).envelope) (4161 - from) in
    record {
      filled = λ w p.
          let place_back : 4161 - from - suc (4160 - w - from) ≡ w = omega arith in
          let place : 4160 - w ≡ length (take from row) + (4160 - w - from) = omega arith in
          ap (λ (k : ℕ). get_or (take from row ++ (part ++ rest)) k 0) place
          ∙ get_or-append-add (take from row) (part ++ rest) (4160 - w - from) 0
          ∙ get_or-append part rest 0 (4160 - w - from) (omega arith)
          ∙ ap (λ (l : List ℕ). get_or l (4160 - w - from) 0) bounds
          ∙ newest_first_at (bound (taken table).envelope) (4161 - from) (4160 - w - from) (omega arith)
          ∙ ap (bound (taken table).envelope) place_back;
      kept = λ w p r. get_or-append (take from row) (part ++ rest) 0 (4160 - w) (omega arith) ∙ get_or-take from row (4160 - w) 0 (omega arith);
    }

-- The totals of the first n counts are put at the places 0 to n, and the rest is untouched.
pub record Summed (counts totals totals' : List ℕ) (n : ℕ) : Type 0 where
  pub summed : (k : ℕ) → k ≤ n → get_or totals' k 0 ≡ total_at counts k
  pub kept : (k : ℕ) → n < k → get_or totals' k 0 ≡ get_or totals k 0

-- The first total is 0, and each count makes the next.
pub summed-first : (counts totals : List ℕ) → 0 < length totals → Summed counts (set totals 0 0) (set totals 0 0) 0
unfolding total_at
summed-first counts totals some =
    record {
      summed = λ k p. let e : k ≡ 0 = omega arith in rw e (get_or-set_same totals 0 0 0 some);
      kept = λ k p. refl;
    }

pub total_next : (counts : List ℕ) (n sum v : ℕ) → sum ≡ total_at counts n → v ≡ (sum + get_or counts n 0) % 0x1_0000_0000 → v ≡ total_at counts (n + 1)
unfolding total_at
total_next counts n sum v so made = rw add-one (rw (← so) made)

pub summed_next : (counts before totals : List ℕ) (n v : ℕ) → Summed counts before totals n → n + 1 < length totals → v ≡ total_at counts (n + 1)
    → Summed counts before (set totals (n + 1) v) (n + 1)
summed_next counts before totals n v done fits made =
    record {
      summed = λ k p.
          elim (dec_le k n) [
            | yes w ↦ get_or-set_other totals (n + 1) k v 0 (λ e. omega arith) ∙ done.summed k w
            | no w ↦ let e : k ≡ n + 1 = omega arith in rw e (get_or-set_same totals (n + 1) v 0 fits ∙ made)
          ];
      kept = λ k p. get_or-set_other totals (n + 1) k v 0 (λ e. omega arith) ∙ done.kept k (omega arith);
    }

pub summed_whole : (counts totals totals' : List ℕ) (n v : ℕ) → Summed counts (set totals 0 v) totals' n → Summed counts totals totals' n
summed_whole counts totals totals' n v done =
    record {
      summed = done.summed;
      kept = λ k p. done.kept k p ∙ get_or-set_other totals 0 k v 0 (λ e. omega arith);
    }

-- With every count put, the row is as promised ..
pub summed_over_lem : (counts totals totals' : List ℕ) → length totals' ≡ 4161 → Summed counts totals totals' (min (length counts) 4160) → totals' ≡ summed_over counts totals
unfolding summed_over pick
summed_over_lem counts totals totals' long done =
    ext_get_or 0 totals' _ (long ∙ sym (length-list_of _ 4161))
    (λ k p.
    let inside : k < 4161 = omega arith in
    elim (dec_le k (length counts)) [
      | yes r ↦ done.summed k (omega arith) ∙ sym (list_of_at _ 4161 k inside ∙ rw (le-leb k (length counts) r) refl)
      | no r ↦ done.kept k (omega arith) ∙ sym (list_of_at _ 4161 k inside ∙ rw (lt-leb k (length counts) (omega arith)) refl)
    ])

-- .. and its places have the totals.
pub over_summed : (counts totals : List ℕ) (k : ℕ) → k ≤ length counts → k ≤ 4160 → get_or (summed_over counts totals) k 0 ≡ total_at counts k
unfolding summed_over pick
over_summed counts totals k p q = list_of_at _ 4161 k (omega arith) ∙ rw (le-leb k (length counts) p) refl

-- Working the closure window by window: the least sum over the values before is the next value.
use mathlib.Core.Path.{◌≡◌, refl, sym, ap, ap₂, ◌∙◌}
use mathlib.Core.List.{List, [], ◌∷◌}
use Prim.Native.Nat.{ℕ, zero, suc, ◌+◌, ◌-◌, ◌*◌, ◌≤◌, ◌<◌, min}
use native.Mathlib.Omega.{arith}
use native.Mathlib.Numerals.{add-one}
use mir.Syntax.{w32, w64}
use mir.Val.{Fits}
use lib.ListN.{length, get_or, take, drop, set, length-set, length-drop, drop_of_length-le}
use lib.Seq.{drop-cons, get_or-drop, get_or-set_same, drop-set-lt}
use Rattle.calculus.specs.Numbers.Lists.{newest_first}
use Rattle.calculus.specs.Numbers.Least.{least}
use Rattle.calculus.proofs.Numbers.Lists.{length-newest_first, newest_first_at}
use Rattle.calculus.proofs.Envelopes.Closure.{closure-zero, closure-rule, closure-bound}
use Rattle.numbers.specs.LeastSum.{least_with}
use Rattle.envelope.specs.ClosureRow.{closed_by}
use Rattle.numbers.proofs.LeastSum.{drop_whole, least_with_more, least_with_none, least_with-last, least_with-least}

-- Where m windows are summed, m not 1, what is read is in range: of a row that is `long` long from the place after `at` on, of a table
-- that is `wide` long from window 2 on.
pub record InRange (at m wide long : ℕ) : Type 0 where
  pub from : Fits w64 (at + 1)
  pub from_bytes : Fits w64 ((at + 1) * 4)
  pub from_within : at + 1 ≤ long
  pub two_within : 2 ≤ wide
  pub two : 2 ≤ m
  pub past_end : Fits w64 (at + m)
  pub some : 1 ≤ at + m
  pub end_bytes : Fits w64 ((at + m - 1) * 4)
  pub end_within : at + m - 1 < long
  pub last_bytes : Fits w64 (m * 4)
  pub last_within : m < wide

pub in_range : (at n last m wide long : ℕ) → 1 ≤ last → last ≤ 64 → last < wide → 1 ≤ n → at + n ≡ long → long * 4 < 9223372036854775808
    → m ≡ min n last → (m ≡ 1 → ⊥) → InRange at m wide long
in_range at n last m wide long pos few inside some all fits fewest other =
    let two : 2 ≤ m = omega arith in
    let less : m ≤ last = omega arith in
    let more : m ≤ n = omega arith in
    record {
      from = omega arith;
      from_bytes = omega arith;
      from_within = omega arith;
      two_within = omega arith;
      two = two;
      past_end = omega arith;
      some = omega arith;
      end_bytes = omega arith;
      end_within = omega arith;
      last_bytes = omega arith;
      last_within = omega arith;
    }

module _ (table : List ℕ) (last : ℕ) (pos : 1 ≤ last) (small : (k : ℕ) → get_or table k 0 ≤ 1000000) where
  -- The closure at the windows that are asked is below 32 bits.
  pub closed_by_small : (n : ℕ) → closed_by table last n ≤ n * 1000000
  unfolding closed_by
  closed_by_small n = closure-bound last (λ k. get_or table k 0) pos 1000000 (small 1) n

  pub first_fits : (n newest : ℕ) → n ≤ 4160 → newest ≡ closed_by table last (n - 1) → Fits w32 (newest + get_or table 1 0)
  first_fits n newest few before = omega (arith, small 1, closed_by_small (n - 1))

  pub closed_by-zero : closed_by table last 0 ≡ 0
  unfolding closed_by
  closed_by-zero = closure-zero last (λ k. get_or table k 0) pos

  -- The rule, for windows from 1 on.
  rule : (n : ℕ) → 1 ≤ n → least 1 (min last n) (λ k. get_or table k 0 + closed_by table last (n - k)) ≡ closed_by table last n
  unfolding closed_by
  rule zero p = absurd (omega arith)
  rule (suc m) p = sym (closure-rule last (λ k. get_or table k 0) pos m)

  module _ (row : List ℕ) (at n : ℕ) (before : drop at row ≡ newest_first (closed_by table last) n) where
    -- the value i+2 windows before window n, and the table's entry beside it
    pub past_at : (i : ℕ) → suc i < n → get_or (drop (at + 1) row) i 0 ≡ closed_by table last (n - suc (suc i))
    past_at i p =
        let e : at + 1 + i ≡ at + suc i = omega arith in
        get_or-drop (at + 1) row i 0 ∙ ap (λ (k : ℕ). get_or row k 0) e ∙ sym (get_or-drop at row (suc i) 0)
        ∙ ap (λ (l : List ℕ). get_or l (suc i) 0) before ∙ newest_first_at (closed_by table last) n (suc i) p

    pub entry_at : (i : ℕ) → get_or (drop 2 table) i 0 ≡ get_or table (suc (suc i)) 0
    entry_at i = get_or-drop 2 table i 0 ∙ ap (λ (k : ℕ). get_or table k 0) (omega arith)

    -- No sum leaves 32 bits.
    past_fits : n ≤ 4160 → (i : ℕ) → i < min n last - 1 → get_or (drop (at + 1) row) i 0 + get_or (drop 2 table) i 0 < 4294967296
    past_fits q i p =
        omega (arith, past_at i (omega arith), closed_by_small (n - suc (suc i)), entry_at i, small (suc (suc i)))

    -- The parts of the row and of the table that are summed have the places, and their sums fit.
    pub between_fits : n ≤ 4160 → at + n ≡ length row → last < length table → (m : ℕ) → m ≡ min n last
        → (m - 2 ≤ length (take (length row - (at + 1)) (drop (at + 1) row))) × (m - 2 ≤ length (take (length table - 2) (drop 2 table)))
        × ((i : ℕ) → i < m - 2 → get_or (take (length row - (at + 1)) (drop (at + 1) row)) i 0 + get_or (take (length table - 2) (drop 2 table)) i 0 < 4294967296)
    between_fits q long inside m e =
        rw (drop_whole (at + 1) row, drop_whole 2 table)
        (omega (arith, length-drop (at + 1) row), omega (arith, length-drop 2 table), λ i p. past_fits q i (omega arith))

    -- The least of the entries plus the values before, the newest of them taken last, is the next value.
    pub closed_by_next : 1 ≤ n → n ≤ 4160
        → min (least_with 4294967295 (drop (at + 1) row) (drop 2 table) (min n last - 1)) (closed_by table last (n - 1) + get_or table 1 0) ≡ closed_by table last n
    closed_by_next p q =
        let fits : closed_by table last (n - 1) + get_or table 1 0 ≤ 4294967295 = omega (arith, closed_by_small (n - 1), small 1) in
        let count : suc (min n last - 1) ≡ min last n = omega arith in
        least_with-last 4294967295 (drop (at + 1) row) (drop 2 table) _ (min n last - 1) fits
        ∙ least_with-least _ (drop (at + 1) row) (drop 2 table) (λ k. get_or table k 0 + closed_by table last (n - k)) (min n last - 1) (omega arith)
        (λ i r.
        let e : 1 + suc i ≡ suc (suc i) = omega arith in
        rw e (omega (arith, past_at i (omega arith), entry_at i)))
        ∙ ap (λ (c : ℕ). least 1 c (λ k. get_or table k 0 + closed_by table last (n - k))) count
        ∙ rule n p

    -- The sum with the last window stands apart.
    end-sum : (m : ℕ) → 2 ≤ m → get_or row (at + m - 1) 0 + get_or table m 0 ≡ get_or (drop (at + 1) row) (m - 2) 0 + get_or (drop 2 table) (m - 2) 0
    end-sum m p =
        let place : at + 1 + (m - 2) ≡ at + m - 1 = omega arith in
        let entry : 2 + (m - 2) ≡ m = omega arith in
        omega (arith, ap (λ (k : ℕ). get_or row k 0) place, ap (λ (k : ℕ). get_or table k 0) entry, get_or-drop (at + 1) row (m - 2) 0, get_or-drop 2 table (m - 2) 0)

    pub end_fits : (m : ℕ) → m ≡ min n last → 2 ≤ m → n ≤ 4160 → Fits w32 (get_or row (at + m - 1) 0 + get_or table m 0)
    end_fits m e p q = omega (arith, end-sum m p, past_fits q (m - 2) (omega arith))

    pub closed_by_ends : (m : ℕ) → m ≡ min n last → 2 ≤ m → 1 ≤ n → n ≤ 4160
        → min (min (least_with 4294967295 (drop (at + 1) row) (drop 2 table) (m - 2)) (get_or row (at + m - 1) 0 + get_or table m 0)) (closed_by table last (n - 1) + get_or table 1 0)
        ≡ closed_by table last n
    closed_by_ends m e p some q =
        let count : m - 2 + 1 ≡ min n last - 1 = omega arith in
        ap (λ (l : ℕ). min l (closed_by table last (n - 1) + get_or table 1 0))
        (ap (min (least_with 4294967295 (drop (at + 1) row) (drop 2 table) (m - 2))) (end-sum m p)
        ∙ least_with_more 4294967295 (drop (at + 1) row) (drop 2 table) (m - 2)
        ∙ ap (least_with 4294967295 (drop (at + 1) row) (drop 2 table)) count)
        ∙ closed_by_next some q

    -- Where there is one value to add to, no least is taken.
    pub closed_by-alone : 1 ≤ n → n ≤ 4160 → min n last ≡ 1 → closed_by table last (n - 1) + get_or table 1 0 ≡ closed_by table last n
    closed_by-alone p q e =
        let none : min n last - 1 ≡ 0 = omega arith in
        omega (arith, rw none at (closed_by_next p q), least_with_none 4294967295 (drop (at + 1) row) (drop 2 table), closed_by_small (n - 1), small 1)

drop-set : (l : List ℕ) (i v : ℕ) → i < length l → drop i (set l i v) ≡ v ∷ drop (suc i) l
drop-set l i v p =
    let q : i < length (set l i v) = omega (arith, length-set l i v) in
    drop-cons (set l i v) i 0 q ∙ ap₂ (λ (x : ℕ) (r : List ℕ). x ∷ r) (get_or-set_same l i v 0 p) (drop-set-lt (suc i) l i v (omega arith))

-- A row whose places after one hold the earlier values, newest first, holds one more from that place on after the next is written there.
newest_first_put : (h : ℕ → ℕ) (row : List ℕ) (place v : ℕ) → place < length row → drop (place + 1) row ≡ newest_first h (length row - 1 - place) → v ≡ h (length row - 1 - place)
    → drop place (set row place v) ≡ newest_first h (length row - place)
unfolding newest_first
newest_first_put h row place v p before e =
    let all : suc (length row - 1 - place) ≡ length row - place = omega arith in
    drop-set row place v p ∙ ap₂ (λ (x : ℕ) (r : List ℕ). x ∷ r) e (ap (λ (k : ℕ). drop k row) (sym (add-one place)) ∙ before) ∙ ap (newest_first h) all

-- The part of the row from that place on then holds them all.
module _ (h : ℕ → ℕ) (row : List ℕ) (place v : ℕ) (inside : place < length row) (before : drop (place + 1) row ≡ newest_first h (length row - 1 - place)) (value : v ≡ h (length row - 1 - place)) where
  abbrev part : List ℕ
  part = take (length (set row place v) - place) (drop place (set row place v))

  values : part ≡ newest_first h (length row - place)
  values = drop_whole place (set row place v) ∙ newest_first_put h row place v inside before value

  long : length part ≡ length row - place
  long = ap length values ∙ length-newest_first h (length row - place)

  pub part-window : length part - 1 ≡ length row - 1 - place
  part-window = omega (arith, long)

  pub part_filled : length row ≤ 4161 → (1 ≤ length part) × (length part ≤ 4161) × (part ≡ newest_first h (length part))
  part_filled short = (omega (arith, long), omega (arith, long), rw long values)

module _ (h : ℕ → ℕ) (len n : ℕ) (row : List ℕ) (long : length row ≡ len) (some : n < len) (before : drop (len - n) row ≡ newest_first h n) where
  -- Before the newest n values at its end a row has the place of the next one, window n's ..
  pub next-window : length row - 1 - (len - n - 1) ≡ n
  next-window = omega arith

  pub next_place : (len - n - 1 < length row) × (drop (len - n - 1 + 1) row ≡ newest_first h (length row - 1 - (len - n - 1)))
  next_place = let later : len - n - 1 + 1 ≡ len - n = omega arith in (omega arith, rw (later, next-window) before)

  -- .. and with it there it holds n + 1.
  pub next_put : {v : ℕ} {row' : List ℕ} → v ≡ h n → row' ≡ set row (len - n - 1) v → (length row' ≡ len) × (drop (len - (n + 1)) row' ≡ newest_first h (n + 1))
  next_put {v} value put =
      let place : len - (n + 1) ≡ len - n - 1 = omega arith in
      let many : length row - (len - n - 1) ≡ n + 1 = omega arith in
      (ap length put ∙ length-set row (len - n - 1) v ∙ long, rw (put, place) (newest_first_put h row (len - n - 1) v next_place.0 next_place.1 (rw next-window value) ∙ ap (newest_first h) many))

-- A row that holds as many values as it has places holds nothing else.
pub newest_first_full : (h : ℕ → ℕ) (row : List ℕ) (len n : ℕ) → n ≤ len → len ≤ n → drop (len - n) row ≡ newest_first h n → row ≡ newest_first h len
newest_first_full h row len n p q before =
    let all : len - n ≡ 0 = omega arith in
    let end : n ≡ len = omega arith in
    rw (← end) (rw all at before)

-- A row without places holds no value, nor does a row past its end.
pub no-places : (h : ℕ → ℕ) (row : List ℕ) → length row ≡ 0 → row ≡ newest_first h (length row)
unfolding newest_first
no-places h [] e = refl
no-places h (x ∷ row) e = absurd (omega arith)

past_end : (h : ℕ → ℕ) (row : List ℕ) (i : ℕ) → length row ≤ i → drop i row ≡ newest_first h 0
unfolding newest_first
past_end h row i p = drop_of_length-le row {i = i} p

-- The last place of a row that has places is window 0's ..
module _ (h : ℕ → ℕ) (row : List ℕ) (some : length row ≡ 0 → ⊥) where
  pub last-window : length row - 1 - (length row - 1) ≡ 0
  last-window = omega arith

  pub last_place : (length row - 1 < length row) × (drop (length row - 1 + 1) row ≡ newest_first h (length row - 1 - (length row - 1)))
  last_place = (omega arith, rw last-window (past_end h row (length row - 1 + 1) (omega arith)))

  -- .. and with its value there the row holds one.
  pub last_put : {row' : List ℕ} → 0 ≡ h 0 → row' ≡ set row (length row - 1) 0 → (1 ≤ length row) × (length row' ≡ length row) × (drop (length row - 1) row' ≡ newest_first h 1)
  last_put value put =
      let none : length row - 0 - 1 ≡ length row - 1 = omega arith in
      let (long, values) = next_put h (length row) 0 row refl (omega arith) (past_end h row (length row - 0) (omega arith)) value (put ∙ ap (λ (k : ℕ). set row k 0) (sym none)) in
      (omega arith, long, values)

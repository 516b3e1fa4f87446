-- The entrance's envelope: the closure of the pointwise least of the closed envelopes is the merged table's closure. It is at most every
-- stage's envelope, and totals that keep all of those keep it.
use mathlib.Core.Path.{◌≡◌, refl}
use mathlib.Core.List.{List, []}
use Prim.Native.Nat.{ℕ, zero, suc, ◌+◌, ◌-◌, ◌≤◌, ◌<◌}
use native.Mathlib.Nat.{le_antisymm}
use native.Mathlib.Omega.{arith}
use lib.ListN.{length, get_or}
use Rattle.calculus.specs.Numbers.Course.{course}
use Rattle.calculus.specs.Envelopes.Closure.{closing, closure, Table, Closed, KeepsWindows, KeepsTable}
use Rattle.calculus.specs.Envelopes.Envelope.{windows, ClosedEnvelope}
use Rattle.calculus.specs.Regulators.Rows.{envelope_of}
use Rattle.path_calculus.specs.Path.{Stages, stage_envelope, least_envelope, path_envelope}
use Rattle.path_calculus.specs.Merged.{merged}
use Rattle.calculus.proofs.Numbers.Least.{least_below, least_above}
use Rattle.calculus.proofs.Envelopes.Closure.{closure-zero, closure_under, closure_rises, closure_ends, closure_below, closure_closed, closure_largest, table-kept-keeps-closure, closure-kept-keeps-table}
use Rattle.calculus.proofs.Envelopes.Envelope.{closure_envelope}
use Rattle.path_calculus.proofs.Merged.{merged_under, merged_one, merged-table}

module _ (tables : List (List ℕ)) (ok : Stages tables) where
  -- A stage's envelope is at most its table, and closed.
  stage_under : (i : ℕ) → i < length tables → (k : ℕ) → k < length (get_or tables i []) → stage_envelope tables i k ≤ get_or (get_or tables i []) k 0
  unfolding stage_envelope envelope_of
  stage_under i p k q = closure_under _ (λ k. get_or (get_or tables i []) k 0) (ok.given i p) k (omega arith)

  pub stage_closed : (i : ℕ) → i < length tables → ClosedEnvelope (windows (stage_envelope tables i))
  unfolding stage_envelope envelope_of
  stage_closed i p = closure_envelope _ (λ k. get_or (get_or tables i []) k 0) (ok.given i p)

  -- The merged table's closure is closed, and at most every stage's.
  pub merged_closed : ClosedEnvelope (windows (envelope_of (merged tables)))
  unfolding envelope_of
  merged_closed = closure_envelope _ (λ k. get_or (merged tables) k 0) (merged-table tables ok)

  pub merged-least : (i : ℕ) → i < length tables → (n : ℕ) → envelope_of (merged tables) n ≤ stage_envelope tables i n
  unfolding stage_envelope envelope_of
  merged-least i p =
      closure_below _ (λ k. get_or (merged tables) k 0) (merged-table tables ok) _ _ (ok.given i p)
      (λ k q.
      let (r, under) = merged_under tables i k p (omega (arith, (ok.given i p).nonempty)) in
      omega (arith, closure_under _ (λ k. get_or (merged tables) k 0) (merged-table tables ok) k (omega arith)))

  -- Totals that keep every stage's envelope keep the merged table's closure.
  pub stages-kept : (T : ℕ) (v : ℕ → ℕ) → ((i : ℕ) → i < length tables → KeepsWindows (stage_envelope tables i) T v)
      → KeepsWindows (envelope_of (merged tables)) T v
  unfolding envelope_of stage_envelope KeepsTable
  stages-kept T v keeps =
      table-kept-keeps-closure _ (λ k. get_or (merged tables) k 0) (merged-table tables ok) T v
      (λ s k p q b.
      let (i, ip, reach, e) = merged_one tables k (omega arith) in
      omega (arith, closure-kept-keeps-table _ (λ k. get_or (get_or tables i []) k 0) (ok.given i ip) T v (keeps i ip) s k p (omega arith) b))

  -- The least of the closed envelopes is 0 at window 0 and does not fall.
  least_under : (i : ℕ) → i < length tables → (k : ℕ) → least_envelope tables k ≤ stage_envelope tables i k
  unfolding least_envelope
  least_under i p k = omega (arith, least_below 0 (length tables - 1) (λ i. stage_envelope tables i k) i (omega arith) (omega arith))

  least_over : (k z : ℕ) → ((i : ℕ) → i < length tables → z ≤ stage_envelope tables i k) → z ≤ least_envelope tables k
  unfolding least_envelope
  least_over k z p = least_above 0 (length tables - 1) (λ i. stage_envelope tables i k) z (omega arith) (λ i _ q. p i (omega (arith, ok.some)))

  stage_rises : (x : ℕ) → x < length tables → (i j : ℕ) → i ≤ j → stage_envelope tables x i ≤ stage_envelope tables x j
  unfolding stage_envelope envelope_of
  stage_rises x p = closure_rises _ (λ k. get_or (get_or tables x []) k 0) (ok.given x p)

  stage-zero : (x : ℕ) → x < length tables → stage_envelope tables x 0 ≡ 0
  unfolding stage_envelope envelope_of
  stage-zero x p = closure-zero _ (λ k. get_or (get_or tables x []) k 0) (ok.given x p).nonempty

  least-table : (N : ℕ) → 1 ≤ N → Table N (least_envelope tables)
  least-table N pos =
      record {
        nonempty = pos;
        starts = omega (arith, least_under 0 ok.some 0, stage-zero 0 ok.some);
        rises = λ i j p q. least_over j (least_envelope tables i) (λ x r. omega (arith, least_under x r i, stage_rises x r i j p));
      }

  -- The closure of the pointwise least of the closed envelopes is the merged table's closure.
  pub path_envelope_lem : (n : ℕ) → path_envelope tables n ≡ envelope_of (merged tables) n
  unfolding path_envelope envelope_of
  path_envelope_lem zero = unfold closure course closing in refl
  path_envelope_lem (suc n) =
      let given = merged-table tables ok in
      let N : ℕ = suc n + length (merged tables) in
      let h = least-table N (omega arith) in
      le_antisymm
      (omega (
        arith,
        closure_ends (suc n) N (least_envelope tables) (suc n) (omega arith) (omega arith),
        closure_below N (least_envelope tables) h _ _ given
            (λ k p.
            let (i, ip, reach, e) = merged_one tables k (omega (arith, given.nonempty)) in
            omega (arith, closure_under N (least_envelope tables) h k (omega arith), least_under i ip k, stage_under i ip k reach)) (suc n),
      ))
      (closure_below _ _ given (suc n) (least_envelope tables) (least-table (suc n) (omega arith))
      (λ k p. least_over k _ (λ i q. unfold envelope_of in merged-least i q k)) (suc n))

  merged-adds : (i j : ℕ) → envelope_of (merged tables) (i + j) ≤ envelope_of (merged tables) i + envelope_of (merged tables) j
  unfolding envelope_of
  merged-adds i j = (closure_closed _ (λ k. get_or (merged tables) k 0) (merged-table tables ok)).subadditive i j

  -- It is what document 01 calls a closure: 0 at window 0, nowhere above the least, subadditive, and the largest such function.
  pub path_closed : (N : ℕ) → Closed N (least_envelope tables) (path_envelope tables)
  path_closed N =
      record {
        zero_at_zero = unfold path_envelope closure course closing in refl;
        under_table = λ k p. under k;
        subadditive = λ i j. omega (arith, path_envelope_lem (i + j), path_envelope_lem i, path_envelope_lem j, merged-adds i j);
      }
    where
      under : (k : ℕ) → path_envelope tables k ≤ least_envelope tables k
      under zero = unfold path_envelope closure course closing in omega arith
      under (suc k) = unfold path_envelope in closure_under (suc k) (least_envelope tables) (least-table (suc k) (omega arith)) (suc k) (omega arith)

  pub path_largest : (g : ℕ → ℕ) → ((N : ℕ) → Closed N (least_envelope tables) g) → (n : ℕ) → g n ≤ path_envelope tables n
  unfolding path_envelope
  path_largest g closed zero = omega (arith, (closed 0).zero_at_zero)
  path_largest g closed (suc n) = closure_largest (suc n) (least_envelope tables) (least-table (suc n) (omega arith)) g (closed (suc n)) (suc n)

-- The table's entries and f give the same verdict: before the slot that is named f is kept over every window, at that slot too where a
-- rule after the envelope's is named, and where the envelope's is, the window named is the smallest that breaks f.
use mathlib.Core.Path.{◌≡◌, ap}
use mathlib.Core.List.{List}
use Prim.Native.Nat.{ℕ, zero, suc, ◌+◌, ◌-◌, ◌≤◌, ◌<◌}
use native.Mathlib.Decide.{dec_le}
use native.Mathlib.Omega.{arith}
use lib.ListN.{length, get_or}
use Rattle.calculus.specs.Envelopes.Closure.{Table}
use Rattle.calculus.specs.Regulators.Trace.{sum_to}
use Rattle.calculus.specs.Regulators.Rows.{envelope_of}
use Rattle.calculus.proofs.Numbers.Course.{strongly}
use Rattle.calculus.proofs.Envelopes.Closure.{closure_under, closure_attained}
use Rattle.refusals.specs.Table.{last_window}
use Rattle.refusals.proofs.TableJudged.{table_given}
use Rattle.refusals.proofs.AcceptedSettings.{set_up-accepted}
use Rattle.rival_calculus.specs.Breaks.{BreaksWindow, over_envelope}
use Rattle.rivals.specs.Judgement.{rival_refusal, judgement_of}
use Rattle.rivals.proofs.RivalAnswer.{rival-accepted}
use Rattle.rivals.proofs.JudgedFirst.{judged-first}

module _ (table : List ℕ) (given : Table (last_window table) (λ k. get_or table k 0)) (v : ℕ → ℕ) (t : ℕ) where
  abbrev f : ℕ → ℕ
  f = envelope_of table

  -- A window that breaks the table breaks f.
  broken_closed : (k : ℕ) → BreaksWindow table v t k → v (t - k) + f k < v t
  unfolding envelope_of
  broken_closed k broken = omega (arith, broken.over, closure_under (last_window table) (λ k. get_or table k 0) given k broken.to)

  -- What is not above is at most.
  window_under : (s k : ℕ) → 1 ≤ k → k ≤ last_window table → k ≤ s → (BreaksWindow table v s k → ⊥) → v s ≤ v (s - k) + get_or table k 0
  window_under s k from to back fails =
      elim (dec_le (v s) (v (s - k) + get_or table k 0)) [
        | yes p ↦ p
        | no p ↦ absurd (fails (record { from = from; to = to; back = back; over = omega arith }))
      ]

  -- Where the slots before t keep the table, and slot t keeps it over the windows below w, slot t keeps f over them.
  module _ (w : ℕ) (before : (s k : ℕ) → s < t → BreaksWindow table v s k → ⊥) (here : (k : ℕ) → k < w → BreaksWindow table v t k → ⊥) where
    piece-kept : (n k : ℕ) → suc n < w → suc n ≤ t → 1 ≤ k → k ≤ last_window table → k ≤ suc n → v (t - (suc n - k)) ≤ v (t - suc n) + get_or table k 0
    piece-kept n k p r from to part =
        elim (dec_le (suc n) k) [
          | yes whole ↦ let all : k ≡ suc n = omega arith in
              let back : t - (suc n - k) ≡ t = omega arith in
              omega (arith, window_under t k from to (omega arith) (here k (omega arith)), ap v back, ap (λ (j : ℕ). v (t - j)) all)
          | no less ↦ let back : t - (suc n - k) - k ≡ t - suc n = omega arith in
              omega (arith, window_under (t - (suc n - k)) k from to (omega arith) (before (t - (suc n - k)) k (omega arith)), ap v back)
        ]

    closed_below : (k : ℕ) → k < w → k ≤ t → v t ≤ v (t - k) + f k
    unfolding envelope_of
    closed_below =
        strongly (λ k. k < w → k ≤ t → v t ≤ v (t - k) + f k)
        (elim [
          | zero ↦ λ ih p r. let whole : t - 0 ≡ t = omega arith in omega (arith, ap v whole)
          | suc n ↦ λ ih p r. let (k, from, to, part, e) = closure_attained (last_window table) (λ k. get_or table k 0) given.nonempty n in
              omega (arith, e, ih (suc n - k) (omega arith) (omega arith) (omega arith), piece-kept n k p r from to part)
        ])

module _ (table : List ℕ) (d q : ℕ) (trace ins outs : List ℕ) (accepted : rival_refusal table d q trace (length ins) (length outs) ≡ 0)
    (broken : (judgement_of table d q trace ins outs).rule ≡ 0 → ⊥) where
  abbrev slot : ℕ
  slot = (judgement_of table d q trace ins outs).slot

  abbrev rule : ℕ
  rule = (judgement_of table d q trace ins outs).rule

  abbrev window : ℕ
  window = (judgement_of table d q trace ins outs).window

  abbrev gone : ℕ → ℕ
  gone = sum_to outs

  given-table : Table (last_window table) (λ k. get_or table k 0)
  given-table = table_given table (set_up-accepted table d q (rival-accepted table d q trace (length ins) (length outs) accepted).set_up).tabled

  before-kept : (s k : ℕ) → s < slot → BreaksWindow table gone s k → ⊥
  before-kept s k p over =
      (judged-first table d q trace ins outs accepted broken).none_before s 3 (omega (arith, over.from, over.back)) p (over_envelope k over)

  -- Before the slot named, f is kept over every window.
  pub closed-before : (t k : ℕ) → t < slot → k ≤ t → gone t ≤ gone (t - k) + envelope_of table k
  closed-before t k p r =
      closed_below table given-table gone t (suc k) (λ s j earlier. before-kept s j (omega arith)) (λ j _. before-kept t j p) k (omega arith) r

  -- At it too, where a rule after the envelope's is named.
  pub closed_after : 3 < rule → (k : ℕ) → k ≤ slot → gone slot ≤ gone (slot - k) + envelope_of table k
  closed_after p k r =
      closed_below table given-table gone slot (suc k) before-kept
      (λ j _ over. (judged-first table d q trace ins outs accepted broken).none_lower 3 p (over_envelope j over)) k (omega arith) r

  -- Where the envelope's is, the window named breaks f ..
  pub closed-window : rule ≡ 3 → gone (slot - window) + envelope_of table window < gone slot
  closed-window e = broken_closed table given-table gone slot window ((judged-first table d q trace ins outs accepted broken).windowed e)

  -- .. and no smaller window does.
  pub closed-smallest : rule ≡ 3 → (k : ℕ) → k < window → gone slot ≤ gone (slot - k) + envelope_of table k
  closed-smallest e k p =
      let first = judged-first table d q trace ins outs accepted broken in
      closed_below table given-table gone slot window before-kept (first.smallest e) k p (omega (arith, (first.windowed e).back))

-- A row and an admitted total that follow theorem 5.1 through slot t still do after a step: the step's forecasts over the
-- last L departed totals are those over the entire history, and no sum meets the bound of 64 bits.
use mathlib.Core.Path.{◌≡◌, refl, sym, ap, ap₂, ◌∙◌}
use mathlib.Core.List.{List}
use Prim.Native.Nat.{ℕ, zero, suc, ◌+◌, ◌-◌, ◌≤◌, ◌<◌, min}
use native.Mathlib.Omega.{arith}
use lib.ListN.{length, get_or, length-replicate, get_or-replicate}
use Rattle.calculus.specs.Numbers.Limit.{Limit, none, at_most, map_limit, cut}
use Rattle.calculus.specs.Envelopes.Envelope.{windows}
use Rattle.calculus.specs.Regulators.Clipper.{admitted}
use Rattle.calculus.specs.Regulators.Regulator.{departed}
use Rattle.calculus.specs.Regulators.Ahead.{ahead}
use Rattle.calculus.specs.Regulators.BoundedPast.{forecast, next_admitted, next_departed}
use Rattle.calculus.specs.Regulators.Rows.{envelope_of}
use Rattle.calculus.proofs.Envelopes.Envelope.{closure_envelope}
use Rattle.calculus.proofs.Regulators.Regulator.{admitted-zero, admitted-arrived, departed-zero, departed_under}
use Rattle.calculus.proofs.Regulators.Memory.{memory-ahead}
use Rattle.calculus.proofs.Regulators.BoundedPast.{admitted_next, departed_next}
use Rattle.refusals.specs.Table.{last_window}
use Rattle.numbers.specs.LeastSum.{top}
use Rattle.settings.specs.Taken.{envelope_from}
use Rattle.envelope.specs.Envelope.{near_row}
use Rattle.numbers.proofs.LeastSum.{least_sum_from-least}
use Rattle.refusals.proofs.TableJudged.{table_given}
use Rattle.settings.proofs.Accepted.{near-accepted, envelope_of-bound, length-near}
use Rattle.least_sum.specs.Pushed.{pushed}
use Rattle.live_step.specs.Step.{forecast_at, forecast_late, step_admitted, step_departed, step_row}
use Rattle.refusals.proofs.AcceptedSettings.{Accepted, arrived-bound}
use Rattle.regulator.specs.Regulator.{blank_row}
use Rattle.least_sum.proofs.Pushed.{pushed_newest, pushed_older}
use Rattle.live_step.proofs.StepRow.{length-step_row, step_row-past, step_row_rest, step_row_soon, step_row-late}

-- an admitted total and a row that are theorem 5.1's after slot t
pub record Follows (table : List ℕ) (d q : Limit) (a : ℕ → ℕ) (t x : ℕ) (row : List ℕ) : Type 0 where
  pub total : x ≡ admitted (windows (envelope_of table)) d q a t
  pub long : length row ≡ 192
  pub past : (k : ℕ) → k < last_window table → get_or row k 0 ≡ departed (windows (envelope_of table)) d q a (t - k)
  -- The places 64 and 65 hold the last slot's forecasts: what the packets admitted before it, and the envelope, let depart by it and by
  -- its deadline.
  pub soon : (s : ℕ) → t ≡ suc s → get_or row 64 0 ≡ ahead (admitted (windows (envelope_of table)) d q a) (windows (envelope_of table)) s (suc s)
  pub late : (s n : ℕ) → t ≡ suc s → d ≡ at_most n
      → get_or row 65 0 ≡ ahead (admitted (windows (envelope_of table)) d q a) (windows (envelope_of table)) s (suc s + n)
  -- All others are 0.
  pub rest : (k : ℕ) → last_window table ≤ k → k < 192 → (k ≡ 64 → ⊥) → (k ≡ 65 → ⊥) → get_or row k 0 ≡ 0

-- A row of zeros and no packet admitted follow through slot 0, and nothing has departed.
pub fresh_follows : (table : List ℕ) (d q : Limit) → Accepted table d q → (a : ℕ → ℕ) → Follows table d q a 0 0 blank_row
unfolding envelope_of
fresh_follows table d q ok a =
    let closed = closure_envelope _ _ (table_given table ok.tabled) in
    record {
      total = sym (admitted-zero _ closed d q a);
      long = length-replicate {A = ℕ} 192 0;
      past = λ k p.
          let e : 0 - k ≡ 0 = omega arith in
          get_or-replicate 192 k 0 0 (omega (arith, ok.tabled.last_to)) ∙ sym (ap (departed (windows (envelope_of table)) d q a) e ∙ departed-zero _ closed d q a);
      soon = λ s e. absurd (omega arith);
      late = λ s n e l. absurd (omega arith);
      rest = λ k p r _ _. get_or-replicate 192 k 0 0 r;
    }

module _ (table : List ℕ) (d q : Limit) (ok : Accepted table d q) (a : ℕ → ℕ) (t : ℕ) (few : (k : ℕ) → k ≤ suc t → a k ≤ 1000000) (early : t < 1000000)
    (x : ℕ) (row : List ℕ) (follows : Follows table d q a t x row) where
  abbrev f : ℕ → ℕ
  f = envelope_of table

  abbrev L : ℕ
  L = last_window table

  abbrev X : ℕ → ℕ
  X = admitted (windows f) d q a

  abbrev Y : ℕ → ℕ
  Y = departed (windows f) d q a

  abbrev near : List ℕ
  near = near_row (envelope_from table)

  admitted_small : (s : ℕ) → s ≤ suc t → X s ≤ 1000000000000
  unfolding envelope_of
  admitted_small s p =
      omega (arith, admitted-arrived (windows f) (closure_envelope L _ (table_given table ok.tabled)) d q a s, arrived-bound a s (λ k r. few k (omega arith)))

  departed_small : (s : ℕ) → s ≤ suc t → Y s ≤ 1000000000000
  unfolding envelope_of
  departed_small s p = omega (arith, departed_under (windows f) (closure_envelope L _ (table_given table ok.tabled)) d q a s, admitted_small s p)

  -- The forecast over the row is the one over the last L departed totals.
  forecast_follows : (h : ℕ) → h ≤ 64 → forecast_at L near row h ≡ forecast L f (λ k. Y (suc t - k)) h
  unfolding forecast_at forecast
  forecast_follows h p =
      least_sum_from-least row near 0 (h + 1) L (λ k. Y (suc t - k) + f (k + h)) ok.tabled.last_from
      (omega (arith, ok.tabled.last_to, follows.long)) (omega (arith, ok.tabled.last_to, length-near table ok.tabled))
      (λ i r.
      let here : 0 + i ≡ i = omega arith in
      let slot : t - i ≡ suc t - suc i = omega arith in
      let window : h + 1 + i ≡ suc i + h = omega arith in
      ap₂ ◌+◌ (ap (λ (k : ℕ). get_or row k 0) here ∙ follows.past i r ∙ ap Y slot)
      (ap (λ (k : ℕ). get_or near k 0) window ∙ near-accepted table ok.tabled (suc i + h) (omega (arith, ok.tabled.last_to))))
      (λ i r. omega (arith, departed_small (suc t - suc i) (omega arith), envelope_of-bound table ok.tabled (suc i + h), ok.tabled.last_to))

  -- The delay limit cuts as theorem 5.1 has it.
  late_follows : (l : Limit) → ((n : ℕ) → l ≡ at_most n → n ≤ 64)
      → min (min (x + a (suc t)) top) (forecast_late L l near row) ≡ cut (X t + a (suc t)) (map_limit (forecast L f (λ k. Y (suc t - k))) l)
  unfolding forecast_late cut map_limit
  late_follows none within = omega (arith, follows.total, admitted_small t (omega arith), few (suc t) (omega arith))
  late_follows (at_most n) within =
      omega (arith, follows.total, admitted_small t (omega arith), few (suc t) (omega arith), forecast_follows n (within n refl))

  -- The buffer limit cuts as theorem 5.1 has it.
  buffer_follows : (l : Limit) → ((n : ℕ) → l ≡ at_most n → n ≤ 1000000)
      → map_limit (λ b. min (get_or row 0 0 + b) top) l ≡ map_limit (λ b. Y (suc t - 1) + b) l
  unfolding map_limit
  buffer_follows none within = refl
  buffer_follows (at_most n) within =
      let slot : t - 0 ≡ suc t - 1 = omega arith in
      ap at_most (omega (arith, follows.past 0 ok.tabled.last_from, ap Y slot, departed_small (suc t - 1) (omega arith), within n refl))

  -- After the step the admitted total is X(t+1).
  pub step-admits : step_admitted L d q near row x (a (suc t)) ≡ X (suc t)
  unfolding step_admitted next_admitted envelope_of
  step-admits =
      ap₂ cut (late_follows d ok.delayed) (buffer_follows q ok.buffered)
      ∙ sym (admitted_next L (λ k. get_or table k 0) (table_given table ok.tabled) d q a t)

  -- The departed total is Y(t+1).
  pub step-departs : step_departed L near row (step_admitted L d q near row x (a (suc t))) ≡ Y (suc t)
  unfolding step_departed next_departed envelope_of
  step-departs =
      ap₂ min step-admits (forecast_follows 0 (omega arith))
      ∙ sym (departed_next L (λ k. get_or table k 0) (table_given table ok.tabled) d q a t)

  -- The past totals move on by one slot.
  step_past : (k : ℕ) → k < L → get_or (pushed L (step_departed L near row (step_admitted L d q near row x (a (suc t)))) row) k 0 ≡ Y (suc t - k)
  step_past zero p =
      let e : suc t - 0 ≡ suc t = omega arith in
      pushed_newest L _ row (omega arith) (omega (arith, follows.long)) ∙ step-departs ∙ ap Y (sym e)
  step_past (suc k) p =
      let e : t - k ≡ suc t - suc k = omega arith in
      pushed_older L _ row k p (omega (arith, follows.long, ok.tabled.last_to)) ∙ follows.past k (omega arith) ∙ ap Y e

  -- The forecasts are what may still depart.
  forecast-ahead : (h : ℕ) → h ≤ 64 → forecast_at L near row h ≡ ahead X (windows f) t (suc t + h)
  unfolding envelope_of departed
  forecast-ahead h p = forecast_follows h p ∙ memory-ahead L (λ k. get_or table k 0) (table_given table ok.tabled) X L t (omega arith) h

  late-ahead : (l : Limit) (n : ℕ) → l ≡ at_most n → n ≤ 64 → forecast_late L l near row ≡ ahead X (windows f) t (suc t + n)
  unfolding forecast_late
  late-ahead l n e p = rw e (forecast-ahead n p)

  -- And the row follows through slot t+1.
  pub step_follows : Follows table d q a (suc t) (step_admitted L d q near row x (a (suc t)))
      (step_row L d near row (step_departed L near row (step_admitted L d q near row x (a (suc t)))))
  step_follows =
      record {
        total = step-admits;
        long = length-step_row L d near row _ ∙ follows.long;
        past = λ k p. step_row-past L d near row _ k (omega (arith, ok.tabled.last_to)) ∙ step_past k p;
        soon = λ s e.
            let same : s ≡ t = omega arith in
            let now : suc t + 0 ≡ suc t = omega arith in
            rw same (step_row_soon L d near row _ follows.long ∙ forecast-ahead 0 (omega arith) ∙ ap (ahead X (windows f) t) now);
        late = λ s n e l.
            let same : s ≡ t = omega arith in
            rw same (step_row-late L d near row _ follows.long ∙ late-ahead d n l (ok.delayed n l));
        rest = λ k p r soon late. step_row_rest L d near row _ k p soon late ∙ follows.rest k p r soon late;
      }

-- No later slot rests on a forecast: regulators that differ at most past their last L departed totals answer every slot
-- alike, and still differ at most there after it.
use mathlib.Core.Path.{◌≡◌, refl, sym, ap₂, ◌∙◌, ap}
use mathlib.Core.List.{List, [], ◌∷◌}
use Prim.Native.Nat.{ℕ, zero, suc, ◌+◌, ◌≤◌, ◌<◌, min, max}
use native.Mathlib.Omega.{arith}
use lib.ListN.{length, get_or}
use Rattle.calculus.specs.Numbers.Limit.{Limit, none, at_most}
use Rattle.numbers.proofs.LeastSum.{least_sum_from_cong}
use Rattle.refusals.specs.Limits.{delay_limit, buffer_limit, slot_refusal}
use Rattle.least_sum.specs.Pushed.{pushed}
use Rattle.regulator.specs.Regulator.{next_admitted_of, next_departed_of, record_of, advanced, slot_of}
use Rattle.live_step.specs.Answer.{answer_by, SlotAnswer}
use Rattle.orders.specs.Answered.{unless_refused}
use Rattle.live_step.specs.Fill.{form_fill, bench_fill}
use Rattle.calls.specs.Calls.{answers}
use Rattle.regulator.specs.LiveRun.{live_regulator}
use Rattle.regulator.specs.declared.regulator.Settings.{Settings}
use Rattle.regulator.specs.declared.regulator.Regulator.{Regulator}
use Rattle.live_step.specs.Step.{forecast_at, forecast_late, step_admitted, step_departed, step_row}
use Rattle.least_sum.proofs.Pushed.{pushed_newest, pushed_older}
use Rattle.live_step.proofs.StepRow.{length-step_row, step_row-past}

-- rows that agree at the last L departed totals
pub record SamePast (last : ℕ) (row other : List ℕ) : Type 0 where
  pub long : length row ≡ length other
  pub places : last ≤ length row
  pub past : (k : ℕ) → k < last → get_or row k 0 ≡ get_or other k 0

module _ (last : ℕ) (some : 1 ≤ last) (most : last ≤ 64) (d q : Limit) (near row other : List ℕ) (same : SamePast last row other) (x n : ℕ) where
  forecast_alike : (h : ℕ) → forecast_at last near row h ≡ forecast_at last near other h
  unfolding forecast_at
  forecast_alike h = least_sum_from_cong row other near (h + 1) last same.long same.past

  late_alike : (l : Limit) → forecast_late last l near row ≡ forecast_late last l near other
  unfolding forecast_late
  late_alike none = refl
  late_alike (at_most m) = forecast_alike m

  -- The totals are the same.
  pub admitted_alike : step_admitted last d q near row x n ≡ step_admitted last d q near other x n
  unfolding step_admitted
  admitted_alike = rw (late_alike d, same.past 0 some)

  pub departed_alike : step_departed last near row (step_admitted last d q near row x n) ≡ step_departed last near other (step_admitted last d q near other x n)
  unfolding step_departed
  departed_alike = ap₂ min admitted_alike (forecast_alike 0)

  pushed_alike : (y k : ℕ) → k < last → get_or (pushed last y row) k 0 ≡ get_or (pushed last y other) k 0
  pushed_alike y zero p =
      pushed_newest last y row some (omega (arith, same.places)) ∙ sym (pushed_newest last y other some (omega (arith, same.places, same.long)))
  pushed_alike y (suc k) p =
      pushed_older last y row k p (omega (arith, same.places)) ∙ same.past k (omega arith)
      ∙ sym (pushed_older last y other k p (omega (arith, same.places, same.long)))

  -- And the rows agree at the last L departed totals again.
  pub past_alike : (y : ℕ) → SamePast last (step_row last d near row y) (step_row last d near other y)
  past_alike y =
      record {
        long = length-step_row last d near row y ∙ same.long ∙ sym (length-step_row last d near other y);
        places = omega (arith, length-step_row last d near row y, same.places);
        past = λ k p. step_row-past last d near row y k (omega arith) ∙ pushed_alike y k p ∙ sym (step_row-past last d near other y k (omega arith));
      }

-- a regulator of some settings, running totals and peaks, with a row
abbrev with_row : Settings → ℕ → ℕ → ℕ → ℕ → List ℕ → Regulator
with_row s slots x form bench row =
    record {
      settings = s;
      slots = record { 0 = slots };
      admitted = record { 0 = x };
      form_peak = record { 0 = form };
      bench_peak = record { 0 = bench };
      row = row;
    }

module _ (s : Settings) (some : 1 ≤ s.last.0) (most : s.last.0 ≤ 64) where
  abbrev D : Limit
  D = delay_limit s.delay.0

  abbrev Q : Limit
  Q = buffer_limit s.buffer.0

  -- The record answered is the same.
  record_alike : (slots x form bench n : ℕ) (row other : List ℕ) → SamePast s.last.0 row other
      → record_of (with_row s slots x form bench row) n ≡ record_of (with_row s slots x form bench other) n
  unfolding record_of next_admitted_of next_departed_of
  record_alike slots x form bench n row other same =
      let L : min s.last.0 64 ≡ s.last.0 = omega arith in
      rw (L, departed_alike s.last.0 some most D Q s.near row other same x n, admitted_alike s.last.0 some most D Q s.near row other same x n, same.past 0 some)

  -- So is the advanced regulator, but for the row past the last L departed totals.
  advanced_alike : (slots x form bench n : ℕ) (row other : List ℕ) → SamePast s.last.0 row other
      → (after : ℕ) × (y : ℕ) × (form' : ℕ) × (bench' : ℕ)
      × (advanced (with_row s slots x form bench row) n ≡ with_row s (slots + 1) after form' bench' (step_row s.last.0 D s.near row y))
      × (advanced (with_row s slots x form bench other) n ≡ with_row s (slots + 1) after form' bench' (step_row s.last.0 D s.near other y))
  unfolding advanced next_admitted_of next_departed_of
  advanced_alike slots x form bench n row other same =
      let L : min s.last.0 64 ≡ s.last.0 = omega arith in (
        step_admitted s.last.0 D Q s.near row x n,
        step_departed s.last.0 s.near row (step_admitted s.last.0 D Q s.near row x n),
        max form (form_fill (record_of (with_row s slots x form bench row) n)),
        max bench (bench_fill (record_of (with_row s slots x form bench row) n)),
        rw L,
        rw (
          L,
          record_alike slots x form bench n row other same,
          departed_alike s.last.0 some most D Q s.near row other same x n,
          admitted_alike s.last.0 some most D Q s.near row other same x n,
        ),
      )

  -- So every list of calls is answered alike.
  pub answers_alike : (calls : List ℕ) (slots x form bench : ℕ) (row other : List ℕ) → SamePast s.last.0 row other
      → answers live_regulator (with_row s slots x form bench row) calls ≡ answers live_regulator (with_row s slots x form bench other) calls
  unfolding answers live_regulator slot_of unless_refused answer_by
  answers_alike [] slots x form bench row other same = refl
  answers_alike (n ∷ calls) slots x form bench row other same = by (slot_refusal n slots) (answers_alike calls)
    where
      by : (k : ℕ)
          → ((slots x form bench : ℕ) (row other : List ℕ) → SamePast s.last.0 row other
          → answers live_regulator (with_row s slots x form bench row) calls ≡ answers live_regulator (with_row s slots x form bench other) calls)
          → answer_by k (record_of (with_row s slots x form bench row) n) ∷ answers live_regulator (unless_refused k (advanced (with_row s slots x form bench row) n) (with_row s slots x form bench row)) calls
          ≡ answer_by k (record_of (with_row s slots x form bench other) n) ∷ answers live_regulator (unless_refused k (advanced (with_row s slots x form bench other) n) (with_row s slots x form bench other)) calls
      by zero more =
          let (after, y, form', bench', one, two) = advanced_alike slots x form bench n row other same in
          rw (record_alike slots x form bench n row other same, one, two)
          (ap (λ (l : List SlotAnswer). answer_by 0 (record_of (with_row s slots x form bench other) n) ∷ l)
          (more (slots + 1) after form' bench' _ _ (past_alike s.last.0 some most D Q s.near row other same x n y)))
      by (suc k) more = ap (λ (l : List SlotAnswer). answer_by (suc k) (record_of (with_row s slots x form bench other) n) ∷ l) (more slots x form bench row other same)

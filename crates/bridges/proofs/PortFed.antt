-- The departures of whole-trace runs and of live regulators are input that the port accepts: a slot departs no more than f(1), so 8 never comes.
use mathlib.Core.Path.{◌≡◌, refl, sym, ap, ◌∙◌}
use mathlib.Core.List.{List, [], ◌∷◌, ◌++◌}
use Prim.Native.Nat.{ℕ, zero, suc, ◌-◌, ◌*◌, ◌≤◌, ◌<◌}
use native.Mathlib.Nat.{suc-mul}
use native.Mathlib.Omega.{arith}
use lib.ListN.{length, get_or, length-append}
use borrow.Author.Tests.{le-ltb}
use Rattle.calculus.specs.Numbers.Lists.{list_of}
use Rattle.calculus.specs.Envelopes.Envelope.{windows}
use Rattle.calculus.specs.Regulators.Trace.{arrivals, slot_counts}
use Rattle.calculus.specs.Regulators.Rows.{envelope_of, departed_by, departed_row}
use Rattle.calculus.proofs.Envelopes.Closure.{closure_under}
use Rattle.calculus.proofs.Regulators.Trace.{length-slot_counts}
use Rattle.calculus.proofs.Regulators.Regulator.{departed-keeps}
use Rattle.orders.specs.Refusal.{◌when◌, ◌or_else◌}
use Rattle.refusals.specs.Limits.{delay_limit, buffer_limit, arrivals_refusal}
use Rattle.refusals.specs.Lengths.{counts_refusal}
use Rattle.orders.proofs.Refusals.{or_else_none}
use Rattle.refusals.proofs.TableJudged.{table_given}
use Rattle.refusals.proofs.AcceptedSettings.{Accepted, set_up-accepted, envelope_closed}
use Rattle.trace.proofs.RunAnswer.{run-accepted}
use Rattle.trace.proofs.RunLowestLoss.{run_rows_lem}
use Rattle.orders.proofs.Answered.{verdict-accepted}
use Rattle.calls.specs.Calls.{trace_of}
use Rattle.port.specs.Refusals.{port_refusal}
use Rattle.port.proofs.RefusalParts.{port_fine}
use Rattle.regulator.proofs.FreshRegulator.{set_up_verdict}
use Rattle.regulator.proofs.LiveRows.{live-departed}
use Rattle.bridges.specs.PortFed.{Departures, of_run, of_calls, AllDepartures, joined}

-- Counts that get no number, one list after another, get none.
counts-append : (xs ys : List ℕ) → counts_refusal xs ≡ 0 → counts_refusal ys ≡ 0 → counts_refusal (xs ++ ys) ≡ 0
unfolding counts_refusal ◌or_else◌
counts-append [] ys e r = r
counts-append (x ∷ xs) ys e r =
    let (here, later) = or_else_none (arrivals_refusal x) _ e in
    rw here (counts-append xs ys later r)

counts-list_of : (h : ℕ → ℕ) (n : ℕ) → ((k : ℕ) → k < n → h k ≤ 1000000) → counts_refusal (list_of h n) ≡ 0
unfolding list_of
counts-list_of h zero few = unfold counts_refusal in refl
counts-list_of h (suc n) few =
    counts-append (list_of h n) (h n ∷ []) (counts-list_of h n (λ k p. few k (omega arith)))
    (unfold counts_refusal arrivals_refusal ◌when◌ ◌or_else◌ in rw (le-ltb 1000000 (h n) (few n (omega arith))) refl)

windows_one : (f : ℕ → ℕ) (t : ℕ) → windows f t (suc t) ≡ f 1
unfolding windows
windows_one f t = let e : suc t - t ≡ 1 = omega arith in ap f e

-- A slot departs no more than f(1), which is at most 1,000,000.
departed_few : (table : List ℕ) (d q : ℕ) (trace : List ℕ) → Accepted table (delay_limit d) (buffer_limit q) → (t : ℕ)
    → departed_by table (delay_limit d) (buffer_limit q) trace (suc t) - departed_by table (delay_limit d) (buffer_limit q) trace t ≤ 1000000
unfolding departed_by
departed_few table d q trace ok t =
    omega (
      arith,
      departed-keeps (windows (envelope_of table)) (envelope_closed table d q ok) (delay_limit d) (buffer_limit q) (arrivals trace) t (suc t) (omega arith),
      windows_one (envelope_of table) t,
      first,
      ok.tabled.small 1,
    )
  where
    first : envelope_of table 1 ≤ get_or table 1 0
    first = unfold envelope_of in closure_under _ _ (table_given table ok.tabled) 1 ok.tabled.last_from

-- what departures are known to be, whoever gave them: theorem 5.1's row of an accepted set-up and a trace of T slots
pub record Regulated (T : ℕ) (table row : List ℕ) : Type 0 where
  pub delay : ℕ
  pub buffer : ℕ
  pub trace : List ℕ
  pub settled : Accepted table (delay_limit delay) (buffer_limit buffer)
  pub slots : length trace ≡ T
  pub departs : row ≡ departed_row table (delay_limit delay) (buffer_limit buffer) trace

pub departures_regulated : (T : ℕ) (table row : List ℕ) → Departures T table row → Regulated T table row
departures_regulated T table row (of_run run) =
    record {
      delay = run.delay;
      buffer = run.buffer;
      trace = run.trace;
      settled = set_up-accepted _ _ _ (run-accepted table run.delay run.buffer run.trace _ _ _ (verdict-accepted _ (sym run.ran.answered))).set_up;
      slots = run.slots;
      departs = (run_rows_lem _ _ _ _ _ _ _ _ _ _ _ run.ran refl).2;
    }
departures_regulated T table row (of_calls live) =
    record {
      delay = live.delay;
      buffer = live.buffer;
      trace = trace_of live.calls;
      settled = set_up-accepted _ _ _ (set_up_verdict _ _ _ live.set_up).0;
      slots = omega arith;
      departs = live.answered ∙ live-departed table live.delay live.buffer live.set_up live.calls;
    }

module _ (T : ℕ) (table row : List ℕ) (fed : Departures T table row) where
  abbrev is : Regulated T table row
  is = departures_regulated T table row fed

  -- Departures are as long as their trace,
  pub departures_long : length row ≡ T
  unfolding departed_row
  departures_long = ap length is.departs ∙ length-slot_counts _ (length is.trace) ∙ is.slots

  -- and get no 8.
  pub departures_few : counts_refusal row ≡ 0
  unfolding departed_row slot_counts
  departures_few =
      ap counts_refusal is.departs
      ∙ counts-list_of _ (length is.trace) (λ t p. departed_few table is.delay is.buffer is.trace is.settled t)

module _ (T : ℕ) where
  joined_long : (tables : ℕ → List ℕ) (rows : List (List ℕ)) → AllDepartures T tables rows → length (joined rows) ≡ length rows * T
  unfolding joined AllDepartures
  joined_long tables [] fed = omega arith
  joined_long tables (row ∷ rows) fed =
      omega (
        arith,
        length-append row (joined rows),
        departures_long T (tables 0) row (fed 0 (omega arith)),
        joined_long (λ i. tables (suc i)) rows (λ i p. fed (suc i) (omega arith)),
        suc-mul (length rows) T,
      )

  -- Regulators' departures, one list after another, get no 8.
  pub joined_few : (tables : ℕ → List ℕ) (rows : List (List ℕ)) → AllDepartures T tables rows → counts_refusal (joined rows) ≡ 0
  unfolding joined AllDepartures
  joined_few tables [] fed = unfold counts_refusal in refl
  joined_few tables (row ∷ rows) fed =
      counts-append row (joined rows) (departures_few T (tables 0) row (fed 0 (omega arith))) (joined_few (λ i. tables (suc i)) rows (λ i p. fed (suc i) (omega arith)))

-- A port with a deadline for each of one to eight regulators takes their departures over at most 256 slots.
pub departures-accepted : (deadlines : List ℕ) (T : ℕ) (tables : ℕ → List ℕ) (rows : List (List ℕ)) (sent late : ℕ) → AllDepartures T tables rows
    → length deadlines ≡ length rows → 1 ≤ length rows → length rows ≤ 8 → T ≤ 256 → ((i : ℕ) → i < length deadlines → get_or deadlines i 0 ≤ 64)
    → sent ≡ length deadlines * T → late ≡ length deadlines → port_refusal deadlines T (joined rows) sent late ≡ 0
departures-accepted deadlines T tables rows sent late fed each some few short timely long_sent long_late =
    port_fine deadlines T (joined rows) sent late (omega arith) (omega arith) short timely
    (joined_long T tables rows fed ∙ ap (λ (n : ℕ). n * T) (sym each)) long_sent long_late (joined_few T tables rows fed)

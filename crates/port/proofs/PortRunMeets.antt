-- What an accepted run's two lists say of deadlines: the sent list is a schedule, which meets all deadlines that fall in the run if
-- some schedule does, and exactly where no packet is counted as late.
use mathlib.Core.Path.{◌≡◌, sym, ap, ◌∙◌}
use mathlib.Core.List.{List}
use Prim.Native.Nat.{ℕ, suc, ◌+◌, ◌-◌, ◌*◌, ◌≤◌, ◌<◌}
use native.Mathlib.Omega.{arith}
use lib.ListN.{length, get_or}
use Rattle.calculus.specs.Regulators.Clipper.{arrived}
use Rattle.calculus.proofs.Numbers.Lists.{list_of_at}
use Rattle.orders.specs.Verdict.{Verdict}
use Rattle.orders.specs.Answered.{unless_refused}
use Rattle.port_calculus.specs.Port.{sum_below, stream_arrivals, waiting, sent_of, port_rows, late_row, late}
use Rattle.port_calculus.specs.PortWords.{RunWords}
use Rattle.port_calculus.specs.Schedules.{Schedule, Meets, sent_by}
use Rattle.port_calculus.specs.PacketSchedules.{PacketSchedule, PacketsMeet}
use Rattle.port_calculus.proofs.Sums.{sum_below_cong}
use Rattle.port_calculus.proofs.PortMeets.{port_meets}
use Rattle.port_calculus.proofs.PortSchedule.{port_schedule, sent_and-waiting, port_meets_all, port-keeps}
use Rattle.port_calculus.proofs.PortOnly.{port_only}
use Rattle.port_calculus.proofs.PacketSchedules.{packets_meet}
use Rattle.port_calculus.proofs.PortRows.{stream_rows_at, stream_rows_total}
use Rattle.port.specs.Refusals.{port_refusal}
use Rattle.port.proofs.RefusalParts.{port-accepted}
use Rattle.port.specs.PortRun.{PortRan}

module _ (deadlines : List ℕ) (slots capacity : ℕ) (input sent late₀ : List ℕ) (verdict : Verdict) (sent' late' : List ℕ)
    (ran : PortRan deadlines slots capacity input sent late₀ verdict sent' late') (accepted : port_refusal deadlines slots input (length sent) (length late₀) ≡ 0) where
  abbrev n : ℕ
  n = length deadlines

  abbrev D : ℕ → ℕ
  D i = get_or deadlines i 0

  abbrev a : ℕ → ℕ → ℕ
  a = stream_arrivals slots input

  -- packets of stream i that the sent list has in slots 1 to t
  abbrev listed : ℕ → ℕ → ℕ
  listed i = arrived (stream_arrivals slots sent' i)

  late-listed : (i : ℕ) → i < n → get_or late' i 0 ≡ late n D a capacity slots i
  unfolding unless_refused late_row
  late-listed i p = ap (λ (l : List ℕ). get_or l i 0) (rw accepted at ran.lates) ∙ list_of_at (late n D a capacity slots) n i p

  listed-sent : (i t : ℕ) → i < n → t ≤ slots → listed i t ≡ sent_by n D a capacity slots i t
  unfolding unless_refused port_rows sent_by
  listed-sent i t p q =
      ap (λ (l : List ℕ). arrived (stream_arrivals slots l i) t) (rw accepted at ran.sends) ∙ stream_rows_total (sent_of n D a capacity) slots n i t p q

  timely : (i : ℕ) → i < n → D i ≤ 64
  timely i p = (port-accepted deadlines slots input (length sent) (length late₀) accepted).timely i

  listed_meets : Meets n D a capacity slots (sent_by n D a capacity slots) → Meets n D a capacity slots listed
  unfolding Meets
  listed_meets meets i u p q = omega (arith, meets i u p q, listed-sent i u p q)

  -- The sent list is a schedule: nothing is sent before it comes, and at most c in a slot.
  pub port_run_schedule : Schedule n D a capacity slots listed
  port_run_schedule =
      let ours = port_schedule n D a capacity slots in
      record {
        rises = λ i t p q. omega (arith, ours.rises i t p q, listed-sent i t p (omega arith), listed-sent i (suc t) p q);
        comes_first = λ i t p q. omega (arith, ours.comes_first i t p q, listed-sent i t p q);
        capacity = λ t p.
            omega (
              arith,
              ours.capacity t p,
              sum_below_cong (λ i. listed i (suc t) - listed i t) (λ i. sent_by n D a capacity slots i (suc t) - sent_by n D a capacity slots i t) n
                  (λ i q. omega (arith, listed-sent i t q (omega arith), listed-sent i (suc t) q p)),
            );
      }

  -- No packet is lost: what came of a stream is listed or waits.
  pub port_run-waiting : (i t : ℕ) → i < n → t ≤ slots → listed i t + sum_below (λ u. waiting n D a capacity t u i) (t + 65) ≡ arrived (a i) t
  port_run-waiting i t p q =
      ap (λ (sent : ℕ). sent + sum_below (λ u. waiting n D a capacity t u i) (t + 65)) (listed-sent i t p q)
      ∙ sent_and-waiting n D a capacity slots i (timely i p) t

  -- The words leave no freedom: whoever keeps them, slot by slot, has sent what is listed.
  pub port_run_only : (x : ℕ → ℕ → ℕ → ℕ) → RunWords D a x n capacity slots → (i t : ℕ) → i < n → t < slots
      → get_or sent' (i * slots + t) 0 ≡ sum_below (λ u. x (suc t) u i) (suc t + 65)
  unfolding unless_refused port_rows sent_of
  port_run_only x words i t p q =
      ap (λ (l : List ℕ). get_or l (i * slots + t) 0) (rw accepted at ran.sends)
      ∙ stream_rows_at (sent_of n D a capacity) slots n i t p q
      ∙ sym (sum_below_cong _ _ (suc t + 65) (λ u r. port_only n D a capacity slots x words t q u i p))

  -- Late counts that are all 0 mean that it meets every deadline in the run.
  pub port_run_met : ((i : ℕ) → i < length deadlines → get_or late' i 0 ≡ 0) → Meets n D a capacity slots listed
  port_run_met none = listed_meets (port_meets_all n D a capacity slots timely (λ i p. sym (late-listed i p) ∙ none i p))

  -- If some schedule meets all deadlines that fall in the run, the sent list does, and no packet is counted as late.
  module _ (S : ℕ → ℕ → ℕ) (schedule : Schedule (length deadlines) (λ i. get_or deadlines i 0) (stream_arrivals slots input) capacity slots S)
      (meets : Meets (length deadlines) (λ i. get_or deadlines i 0) (stream_arrivals slots input) capacity slots S) where
    pub port_run-keeps : Meets n D a capacity slots listed
    port_run-keeps = listed_meets (port-keeps n D a capacity slots timely S schedule meets)

    pub port_run_meets : (i : ℕ) → i < length deadlines → get_or late' i 0 ≡ 0
    port_run_meets i p = late-listed i p ∙ port_meets n D a capacity slots S schedule meets i p

  -- So too if some schedule does that sends a stream's packets in any order.
  pub port_run_packets : (x : ℕ → ℕ → ℕ → ℕ) → PacketSchedule n D a capacity slots x → PacketsMeet n D a capacity slots x
      → (i : ℕ) → i < length deadlines → get_or late' i 0 ≡ 0
  port_run_packets x schedule meets i p = late-listed i p ∙ packets_meet n D a capacity slots x schedule meets i p

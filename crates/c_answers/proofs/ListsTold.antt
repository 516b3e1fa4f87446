-- What C gets of a whole trace, a path, a port and a chain: from what a function promises with number 0 the final theorem about the lists that C
-- lent, in C's order of arguments, and with another number every list as it was.
use mathlib.Core.Path.{◌≡◌, sym, ap, ◌∙◌}
use mathlib.Core.List.{List}
use Prim.Native.Nat.{ℕ, ◌-◌, ◌*◌, ◌<◌}
use native.Mathlib.Omega.{arith}
use lib.ListN.{length, get_or}
use Rattle.calculus.specs.Envelopes.Envelope.{windows}
use Rattle.calculus.specs.Regulators.Clipper.{arrived}
use Rattle.calculus.specs.Regulators.Rows.{envelope_of}
use Rattle.calculus.specs.Losses.LossCurve.{LowestLoss}
use Rattle.port_calculus.specs.Port.{stream_arrivals}
use Rattle.port_calculus.specs.Schedules.{Schedule, Meets}
use Rattle.refusals.specs.Limits.{delay_limit, buffer_limit}
use Rattle.orders.specs.Verdict.{Accepted}
use Rattle.orders.specs.Answered.{verdict_of}
use Rattle.orders.proofs.Answered.{accepted-answer, filled_left}
use Rattle.trace.proofs.RunLowestLoss.{run-lowest-loss}
use Rattle.path.specs.Refusals.{tables_of}
use Rattle.path.specs.PathLoss.{stage_part, StagesKeep, PathLowestLoss}
use Rattle.path.proofs.PathRunLowestLoss.{path_run_stages, path_run-lowest-loss}
use Rattle.port.proofs.PortRunMeets.{port_run_schedule, port_run_meets}
use Rattle.port.proofs.RunAnswer.{port_left}
use Rattle.stream.specs.Format.{last, bursts}
use Rattle.stream.specs.Handed.{counts_from, counts_place, place_by}
use Rattle.stream.proofs.CountsPart.{part_length, refused-part}
use Rattle.c_answers.specs.Numbered.{part_of, RanByNumber, PathRanByNumber, PortRanByNumber}

-- Number 0 stands for a yes.
yes_verdict : (number : ℕ) → number ≡ 0 → verdict_of number ≡ Accepted
yes_verdict number none = sym (accepted-answer number none)

module _ (table : List ℕ) (d q : ℕ) (trace ins drops outs : List ℕ) (number : ℕ) (ins' drops' outs' : List ℕ)
    (by : RanByNumber table d q trace ins drops outs number ins' drops' outs') where
  pub run_told : number ≡ 0 → LowestLoss (windows (envelope_of table)) (delay_limit d) (buffer_limit q) trace ins' drops' outs'
  run_told none = run-lowest-loss table d q trace ins drops outs (verdict_of number) ins' drops' outs' by.ran (yes_verdict number none)

  pub run_left : (number ≡ 0 → ⊥) → (ins' ≡ ins) × (drops' ≡ drops) × (outs' ≡ outs)
  run_left some = filled_left _ _ _ _ ins drops outs verdict_of _ ins' drops' outs' by.ran (λ e. some (by.numbered ∙ e))

module _ (stages : ℕ) (first second third fourth : List ℕ) (d q : ℕ) (trace ins drops outs : List ℕ) (number : ℕ) (ins' drops' outs' : List ℕ)
    (by : PathRanByNumber stages (tables_of stages first second third fourth) d q trace ins drops outs number ins' drops' outs') where
  pub path_told : number ≡ 0
      → PathLowestLoss (tables_of stages first second third fourth) (delay_limit d) (buffer_limit q) trace ins' drops' (stage_part (length trace) (stages - 1) outs')
      × StagesKeep (tables_of stages first second third fourth) (length trace) ins' outs'
  path_told none = (
    path_run-lowest-loss stages first second third fourth d q trace ins drops outs (verdict_of number) ins' drops' outs' by.ran (yes_verdict number none),
    path_run_stages stages first second third fourth d q trace ins drops outs (verdict_of number) ins' drops' outs' by.ran (yes_verdict number none),
  )

  pub path_left : (number ≡ 0 → ⊥) → (ins' ≡ ins) × (drops' ≡ drops) × (outs' ≡ outs)
  path_left some = filled_left _ _ _ _ ins drops outs verdict_of _ ins' drops' outs' by.ran (λ e. some (by.numbered ∙ e))

module _ (deadlines : List ℕ) (slots capacity : ℕ) (input sent late : List ℕ) (number : ℕ) (sent' late' : List ℕ)
    (by : PortRanByNumber deadlines slots capacity input sent late number sent' late') where
  pub port_told : number ≡ 0
      → Schedule (length deadlines) (λ i. get_or deadlines i 0) (stream_arrivals slots input) capacity slots (λ i. arrived (stream_arrivals slots sent' i))
  port_told none = port_run_schedule deadlines slots capacity input sent late (verdict_of number) sent' late' by.ran (sym by.numbered ∙ none)

  pub port_told_meets : number ≡ 0 → (S : ℕ → ℕ → ℕ) → Schedule (length deadlines) (λ i. get_or deadlines i 0) (stream_arrivals slots input) capacity slots S
      → Meets (length deadlines) (λ i. get_or deadlines i 0) (stream_arrivals slots input) capacity slots S → (i : ℕ) → i < length deadlines → get_or late' i 0 ≡ 0
  port_told_meets none = port_run_meets deadlines slots capacity input sent late (verdict_of number) sent' late' by.ran (sym by.numbered ∙ none)

  pub port_told_left : (number ≡ 0 → ⊥) → (sent' ≡ sent) × (late' ≡ late)
  port_told_left some = port_left deadlines slots capacity input sent late (verdict_of number) sent' late' by.ran (λ e. some (by.numbered ∙ e))

-- The counts stand after the sizes, the table and the slots, four bytes each; of a refused file there are none, at its start.
module _ (file : List ℕ) where
  pub part_told : (part_of file).number ≡ 0 → ((part_of file).from ≡ counts_from (last file) (bursts file)) × ((part_of file).bytes ≡ 4 * bursts file)
  unfolding part_of counts_place place_by
  part_told none = (rw none (omega arith), omega (arith, part_length file none))

  pub part_left : ((part_of file).number ≡ 0 → ⊥) → ((part_of file).from ≡ 0) × ((part_of file).bytes ≡ 0)
  unfolding part_of
  part_left some =
      let (empty, start) = refused-part file some in
      (ap (λ (at : ℕ × ℕ). at.1) (start 0 0), omega (arith, ap length empty))

-- The judge says permitted exactly if the running totals of the rows are a permitted pair (document 01, "The lowest loss curve",
-- with request 2.9's fill), for every set-up, trace and pair of lists that gets no number.
use mathlib.Core.Path.{◌≡◌, refl, sym, ap, ◌∙◌}
use mathlib.Core.Logic.{◌↔◌}
use mathlib.Core.List.{List}
use Prim.Native.Nat.{ℕ, suc, ◌≤◌}
use native.Mathlib.Omega.{arith}
use lib.ListN.{length}
use Rattle.calculus.specs.Numbers.Limit.{delay_limit, buffer_limit}
use Rattle.calculus.specs.Envelopes.Envelope.{windows}
use Rattle.calculus.specs.Regulators.Trace.{arrivals, sum_to}
use Rattle.calculus.specs.Regulators.Rows.{envelope_of}
use Rattle.calculus.specs.Losses.Permitted.{Permitted}
use Rattle.refusals.proofs.TableJudged.{table_given}
use Rattle.refusals.proofs.AcceptedSettings.{set_up-accepted}
use Rattle.rivals.specs.declared.judge.Judgement.{Judgement}
use Rattle.rivals.specs.Judgement.{rival_refusal, judgement_of}
use Rattle.rivals.proofs.RivalAnswer.{rival-accepted, judged_broken, judged_none}
use Rattle.rivals.proofs.FirstBroken.{slot_kept, kept_slot, rule-slot}
use Rattle.rival_calculus.proofs.PermittedTotals.{kept_permitted, permitted-kept}

module _ (table : List ℕ) (d q : ℕ) (trace ins outs : List ℕ) (accepted : rival_refusal table d q trace (length ins) (length outs) ≡ 0) where
  abbrev PermittedRows : Type 0
  PermittedRows = Permitted (windows (envelope_of table)) (delay_limit d) (buffer_limit q) (arrivals trace) (length trace) (sum_to ins) (sum_to outs)

  sums_rise : (l : List ℕ) (t : ℕ) → sum_to l t ≤ sum_to l (suc t)
  unfolding sum_to
  sums_rise l t = omega arith

  sums-start : (l : List ℕ) → sum_to l 0 ≡ 0
  unfolding sum_to
  sums-start l = refl

  judged_permits : (judgement_of table d q trace ins outs).rule ≡ 0 → PermittedRows
  judged_permits e =
      let given = table_given table (set_up-accepted table d q (rival-accepted table d q trace (length ins) (length outs) accepted).set_up).tabled in
      let none = rule-slot table (delay_limit d) (buffer_limit q) (arrivals trace) (length trace) (sum_to ins) (sum_to outs) (sym (ap (λ (j : Judgement). j.rule) (judged_broken table d q trace ins outs accepted)) ∙ e) in
      kept_permitted table given (delay_limit d) (buffer_limit q) (arrivals trace) (length trace) (sum_to ins) (sum_to outs)
      (slot_kept table (delay_limit d) (buffer_limit q) (arrivals trace) (length trace) (sum_to ins) (sum_to outs) none)
      (sums-start ins, sums-start outs) (λ t p. (sums_rise ins t, sums_rise outs t))

  -- Permitted rows are answered with 0 throughout.
  pub permitted_judged : PermittedRows → judgement_of table d q trace ins outs ≡ record { number = 0; rule = 0; slot = 0; window = 0 }
  permitted_judged ok =
      let given = table_given table (set_up-accepted table d q (rival-accepted table d q trace (length ins) (length outs) accepted).set_up).tabled in
      judged_none table d q trace ins outs accepted
      (kept_slot table (delay_limit d) (buffer_limit q) (arrivals trace) (length trace) (sum_to ins) (sum_to outs)
      (permitted-kept table given (delay_limit d) (buffer_limit q) (arrivals trace) (length trace) (sum_to ins) (sum_to outs) ok))

  pub judged_permitted : ((judgement_of table d q trace ins outs).rule ≡ 0)
      ↔ Permitted (windows (envelope_of table)) (delay_limit d) (buffer_limit q) (arrivals trace) (length trace) (sum_to ins) (sum_to outs)
  judged_permitted = (judged_permits, λ ok. ap (λ (j : Judgement). j.rule) (permitted_judged ok))

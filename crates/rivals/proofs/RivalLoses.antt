-- What a permitted rival can claim beside our run on the same set-up and trace: its rows are any that the judge says are permitted, and
-- ours are the lists that an accepted run leaves.
use mathlib.Core.Path.{◌≡◌, sym, ◌∙◌}
use mathlib.Core.List.{List}
use Prim.Native.Nat.{ℕ, ◌+◌, ◌-◌, ◌≤◌}
use lib.ListN.{length}
use Rattle.calculus.specs.Numbers.Limit.{at_most, delay_limit, buffer_limit}
use Rattle.calculus.specs.Envelopes.Envelope.{windows}
use Rattle.calculus.specs.Regulators.Clipper.{arrived}
use Rattle.calculus.specs.Regulators.Trace.{arrivals, sum_to}
use Rattle.calculus.specs.Regulators.Rows.{envelope_of}
use Rattle.calculus.specs.Losses.Permitted.{Permitted, Quiet}
use Rattle.orders.specs.Verdict.{Verdict, Accepted}
use Rattle.trace.specs.WholeTrace.{Ran}
use Rattle.trace.proofs.RunLowestLoss.{run-lowest-loss}
use Rattle.rivals.specs.Judgement.{rival_refusal, judgement_of}
use Rattle.rivals.proofs.RivalAnswer.{judged-number}
use Rattle.rivals.proofs.JudgedPermitted.{judged_permitted}

module _ (table : List ℕ) (d q : ℕ) (trace ins drops outs : List ℕ) (verdict : Verdict) (ins' drops' outs' : List ℕ)
    (ran : Ran table d q trace ins drops outs verdict ins' drops' outs') (accepted : verdict ≡ Accepted) (admitted departed : List ℕ)
    (taken : (judgement_of table d q trace admitted departed).number ≡ 0) (permitted : (judgement_of table d q trace admitted departed).rule ≡ 0) where
  abbrev F : ℕ → ℕ → ℕ
  F = windows (envelope_of table)

  number_none : rival_refusal table d q trace (length admitted) (length departed) ≡ 0
  number_none = sym (judged-number table d q trace admitted departed) ∙ taken

  rival_permitted : Permitted F (delay_limit d) (buffer_limit q) (arrivals trace) (length trace) (sum_to admitted) (sum_to departed)
  rival_permitted = (judged_permitted table d q trace admitted departed number_none).0 permitted

  -- Under demand 3's premise, that d is none or the trace ends in at least d slots without arrivals, its admitted and departed totals are
  -- at most ours and its loss is at least ours, after every slot.
  pub rival_loses : Quiet (delay_limit d) (arrivals trace) (length trace) → (t : ℕ) → t ≤ length trace
      → (sum_to admitted t ≤ sum_to ins' t) × (sum_to departed t ≤ sum_to outs' t) × (sum_to drops' t ≤ arrived (arrivals trace) t - sum_to admitted t)
  rival_loses quiet =
      (run-lowest-loss table d q trace ins drops outs verdict ins' drops' outs' ran accepted).lowest quiet (sum_to admitted) (sum_to departed) rival_permitted

  -- Without it, its departed totals are at most ours ..
  pub rival-departs : (t : ℕ) → t ≤ length trace → sum_to departed t ≤ sum_to outs' t
  rival-departs =
      (run-lowest-loss table d q trace ins drops outs verdict ins' drops' outs' ran accepted).departed_most (sum_to admitted) (sum_to departed) rival_permitted

  -- .. and so are its admitted totals of slots whose deadline lies in the trace.
  pub rival-admits_due : (t n : ℕ) → delay_limit d ≡ at_most n → t + n ≤ length trace → sum_to admitted t ≤ sum_to ins' t
  rival-admits_due =
      (run-lowest-loss table d q trace ins drops outs verdict ins' drops' outs' ran accepted).admitted_most_due (sum_to admitted) (sum_to departed) rival_permitted

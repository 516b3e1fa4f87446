-- Anyone's chain that the checker accepts (document 02, request 2.8): its sum is never below X(t), nor below what any permitted pair admits.
-- Nothing is assumed of the functions but their contracts.
use Rattle.std.proofs.Common.{◌≡◌, ℕ, ◌≤◌, T, List, length, sym, ◌∙◌}
use Rattle.calculus.specs.Envelopes.Envelope.{windows}
use Rattle.calculus.specs.Losses.Permitted.{Permitted, Quiet}
use Rattle.calculus.specs.Regulators.Trace.{arrivals, sum_to}
use Rattle.calculus.specs.Regulators.Rows.{envelope_of, admitted_by}
use Rattle.chain_calculus.proofs.Chain.{chain_bounds, chain_bounds_permitted}
use Rattle.refusals.specs.Limits.{delay_limit, buffer_limit}
use Rattle.refusals.proofs.AcceptedSettings.{envelope_closed, set_up-accepted}
use Rattle.chain.specs.Refusals.{chain_refusal}
use Rattle.chain.specs.Chains.{sound_to}
use Rattle.chain.specs.CheckerAnswer.{checked_of}
use Rattle.chain.specs.CheckerAnswer.{Checked}
use Rattle.chain.specs.CheckerAnswer as checked
use Rattle.chain.proofs.ChainJudged.{chain-taken}
use Rattle.chain.proofs.AcceptedChains.{checked_sound}

module _ (table : List ℕ) (d q : ℕ) (trace : List ℕ) (t : ℕ) (slots marks amounts : List ℕ) (places : ℕ) (answer : Checked)
    (answers : answer ≡ checked_of table d q trace t slots marks amounts places) (accepted : answer ≡ checked.Sound) where
  taken : (chain_refusal table d q trace t (length slots) (length marks) (length amounts) ≡ 0) × T (sound_to table d q trace t slots marks amounts places)
  unfolding checked_of
  taken = checked_sound _ _ (sym answers ∙ accepted)

  -- The sum is never below X(t) ..
  pub accepted_bounds : admitted_by table (delay_limit d) (buffer_limit q) trace t ≤ sum_to amounts places
  unfolding admitted_by
  accepted_bounds = chain_bounds (envelope_of table) (delay_limit d) (buffer_limit q) (arrivals trace) t slots marks amounts places taken.1

  -- .. and under demand 3's premises no permitted pair admits more than it by slot t.
  pub accepted_bounds_permitted : Quiet (delay_limit d) (arrivals trace) (length trace) → (u v : ℕ → ℕ)
      → Permitted (windows (envelope_of table)) (delay_limit d) (buffer_limit q) (arrivals trace) (length trace) u v → u t ≤ sum_to amounts places
  accepted_bounds_permitted quiet u v permitted =
      let ok = chain-taken table d q trace t (length slots) (length marks) (length amounts) taken.0 in
      chain_bounds_permitted (envelope_of table) (delay_limit d) (buffer_limit q) (arrivals trace) t slots marks amounts places
      (envelope_closed table d q (set_up-accepted table d q ok.set_up)) (length trace) u v permitted quiet ok.inside taken.1

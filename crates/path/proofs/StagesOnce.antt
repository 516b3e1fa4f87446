-- What each stage lets go is fixed by the packets admitted: two lists of stages that are kept have the same totals, stage by stage and slot by slot.
use mathlib.Core.Path.{◌≡◌, refl, sym, ◌∙◌}
use mathlib.Core.List.{List}
use Prim.Native.Nat.{ℕ, zero, suc, ◌≤◌, ◌<◌}
use native.Mathlib.Omega.{arith}
use lib.ListN.{length}
use Rattle.calculus.specs.Envelopes.Envelope.{windows}
use Rattle.calculus.specs.Regulators.Trace.{sum_to}
use Rattle.calculus.proofs.Regulators.Convolution.{convolution_cong}
use Rattle.path_calculus.specs.Path.{stage_envelope}
use Rattle.path.specs.PathLoss.{stage_part, StagesKeep}

module _ (tables : List (List ℕ)) (T : ℕ) (ins outs others : List ℕ) (one : StagesKeep tables T ins outs) (other : StagesKeep tables T ins others) where
  pub stages_once : (i : ℕ) → i < length tables → (t : ℕ) → t ≤ T → sum_to (stage_part T i outs) t ≡ sum_to (stage_part T i others) t
  stages_once zero p t r = one.first_fed t r ∙ sym (other.first_fed t r)
  stages_once (suc i) p t r =
      one.fed i p t r
      ∙ convolution_cong _ _ (windows (stage_envelope tables (suc i))) (windows (stage_envelope tables (suc i))) t (λ s q. stages_once i (omega arith) s (omega arith)) (λ s q. refl)
      ∙ sym (other.fed i p t r)

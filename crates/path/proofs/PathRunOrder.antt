-- The order of a path's stages is no matter for what is admitted, dropped and departed from the last one: where a run is accepted, so is
-- every run over the same tables in another order, and it leaves the same. Nothing is assumed of a run but what its contract says.
use mathlib.Core.Path.{◌≡◌, refl, sym, ap, ◌∙◌}
use mathlib.Core.List.{List, Permᴰ}
use Prim.Native.Nat.{ℕ, ◌-◌}
use lib.ListN.{length}
use Rattle.calculus.specs.Regulators.Clipper.{arrived}
use Rattle.calculus.specs.Numbers.Limit.{Limit}
use Rattle.calculus.specs.Regulators.Trace.{arrivals}
use Rattle.path_calculus.specs.Path.{Stages, path_lost, path_admitted_row, path_dropped_row, path_stage_rows}
use Rattle.calculus.proofs.Regulators.Trace.{slot_counts_cong}
use Rattle.path_calculus.proofs.PathStages.{path_order_lem}
use Rattle.orders.specs.Verdict.{Verdict, Accepted}
use Rattle.refusals.specs.Limits.{delay_limit, buffer_limit}
use Rattle.orders.specs.Answered.{verdict_of}
use Rattle.orders.proofs.Answered.{verdict-accepted}
use Rattle.path.specs.Refusals.{tables_of}
use Rattle.path.specs.PathRun.{PathRan}
use Rattle.path.specs.PathLoss.{stage_part}
use Rattle.path.proofs.AcceptedPaths.{path_order-taken}
use Rattle.path.proofs.PathLowest.{last_path}
use Rattle.path.proofs.PathRunLowestLoss.{run_stages, run-counted, path_run_rows}

-- The path's rows, but for those of the stages before the last, are those of any other order.
module _ (tables others : List (List ℕ)) (order : Permᴰ tables others) (ok : Stages tables) (fine : Stages others) (d q : Limit) (trace : List ℕ) where
  order-admitted : path_admitted_row tables d q trace ≡ path_admitted_row others d q trace
  unfolding path_admitted_row
  order-admitted = slot_counts_cong _ _ (length trace) (λ t p. (path_order_lem tables others order ok d q (arrivals trace) t).0)

  order_dropped : path_dropped_row tables d q trace ≡ path_dropped_row others d q trace
  unfolding path_dropped_row path_lost
  order_dropped =
      slot_counts_cong _ _ (length trace) (λ t p. ap (λ (x : ℕ). arrived (arrivals trace) t - x) (path_order_lem tables others order ok d q (arrivals trace) t).0)

  order-last : stage_part (length trace) (length tables - 1) (path_stage_rows tables d q trace) ≡ stage_part (length trace) (length others - 1) (path_stage_rows others d q trace)
  order-last =
      last_path tables ok d q trace
      ∙ slot_counts_cong _ _ (length trace) (λ t p. (path_order_lem tables others order ok d q (arrivals trace) t).1)
      ∙ sym (last_path others fine d q trace)

-- the first run is accepted, and the second's lists are as long as the first's
module _ (stages d q : ℕ) (trace : List ℕ)
    (first second third fourth ins drops outs ins' drops' outs' : List ℕ)
    (ran : PathRan stages (tables_of stages first second third fourth) d q trace ins drops outs Accepted ins' drops' outs')
    (first₂ second₂ third₂ fourth₂ ins₂ drops₂ outs₂ : List ℕ) (verdict₂ : Verdict) (ins₂' drops₂' outs₂' : List ℕ)
    (ran₂ : PathRan stages (tables_of stages first₂ second₂ third₂ fourth₂) d q trace ins₂ drops₂ outs₂ verdict₂ ins₂' drops₂' outs₂')
    (long_ins : length ins₂ ≡ length ins) (long_drops : length drops₂ ≡ length drops) (long_outs : length outs₂ ≡ length outs)
    (order : Permᴰ (tables_of stages first second third fourth) (tables_of stages first₂ second₂ third₂ fourth₂)) where
  also-accepted : verdict₂ ≡ Accepted
  unfolding verdict_of
  also-accepted =
      let none = path_order-taken stages _ _ d q trace (length ins) (length drops) (length outs) order (verdict-accepted _ (sym ran.answered)) in
      ran₂.answered ∙ rw (long_ins, long_drops, long_outs, none) refl

  pub path-run_order : (verdict₂ ≡ Accepted) × (ins' ≡ ins₂') × (drops' ≡ drops₂')
      × (stage_part (length trace) (stages - 1) outs' ≡ stage_part (length trace) (stages - 1) outs₂')
  path-run_order =
      let rows = path_run_rows stages first second third fourth d q trace ins drops outs Accepted ins' drops' outs' ran refl in
      let rows₂ = path_run_rows stages first₂ second₂ third₂ fourth₂ d q trace ins₂ drops₂ outs₂ verdict₂ ins₂' drops₂' outs₂' ran₂ also-accepted in
      let ok = run_stages stages first second third fourth d q trace ins drops outs Accepted ins' drops' outs' ran refl in
      let fine = run_stages stages first₂ second₂ third₂ fourth₂ d q trace ins₂ drops₂ outs₂ verdict₂ ins₂' drops₂' outs₂' ran₂ also-accepted in
      let count = run-counted stages first second third fourth d q trace ins drops outs Accepted ins' drops' outs' ran refl in
      let count₂ = run-counted stages first₂ second₂ third₂ fourth₂ d q trace ins₂ drops₂ outs₂ verdict₂ ins₂' drops₂' outs₂' ran₂ also-accepted in (
        also-accepted,
        rows.0 ∙ order-admitted _ _ order ok fine (delay_limit d) (buffer_limit q) trace ∙ sym rows₂.0,
        rows.1 ∙ order_dropped _ _ order ok fine (delay_limit d) (buffer_limit q) trace ∙ sym rows₂.1,
        part count rows.2 ∙ order-last _ _ order ok fine (delay_limit d) (buffer_limit q) trace ∙ sym (part count₂ rows₂.2),
      )
    where
      part : {n : ℕ} {l m : List ℕ} → n ≡ stages → l ≡ m → stage_part (length trace) (stages - 1) l ≡ stage_part (length trace) (n - 1) m
      part e s = cc

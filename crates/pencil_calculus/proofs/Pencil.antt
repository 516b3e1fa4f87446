-- The pencil's totals are theorem 5.1's, and its lists the whole-trace run's.
use mathlib.Core.Path.{◌≡◌, refl, sym, ap, ◌∙◌}
use mathlib.Core.List.{List}
use Prim.Native.Nat.{ℕ, zero, suc, ◌-◌, ◌≤◌, ◌<◌}
use native.Mathlib.Omega.{arith}
use lib.ListN.{length, get_or}
use Rattle.calculus.specs.Numbers.Limit.{Limit}
use Rattle.calculus.specs.Envelopes.Closure.{closure, Table}
use Rattle.calculus.specs.Envelopes.Envelope.{windows}
use Rattle.calculus.specs.Regulators.Clipper.{arrived, admitted}
use Rattle.calculus.specs.Regulators.Regulator.{convolution, departed, lost}
use Rattle.calculus.specs.Regulators.BoundedPast.{next_admitted}
use Rattle.calculus.specs.Regulators.Trace.{arrivals}
use Rattle.calculus.specs.Regulators.Rows.{envelope_of, admitted_by, lost_by, departed_by, admitted_row, dropped_row, departed_row}
use Rattle.pencil_calculus.specs.Pencil.{Pencil, pencil_admitted, pencil_departed, pencil_admitted_row, pencil_dropped_row, pencil_departed_row}
use Rattle.pencil_calculus.proofs.PencilNumbers.{next_admitted_cong, pencil-numbers}
use Rattle.calculus.proofs.Numbers.Course.{strongly}
use Rattle.calculus.proofs.Envelopes.Envelope.{closure_envelope}
use Rattle.calculus.proofs.Regulators.Convolution.{convolution_cong}
use Rattle.calculus.proofs.Regulators.Regulator.{admitted-zero}
use Rattle.calculus.proofs.Regulators.Memory.{input_next}
use Rattle.calculus.proofs.Regulators.Trace.{slot_counts_cong}

module _ (L : ℕ) (table : ℕ → ℕ) (given : Table L table) (d q : Limit) (a : ℕ → ℕ) where
  abbrev f : ℕ → ℕ
  f = closure L table

  abbrev In : ℕ → ℕ
  In = admitted (windows f) d q a

  -- Theorem 5.1's totals keep the pencil's two rules.
  pub pencil_ours : (T : ℕ) → Pencil f d q a T In (departed (windows f) d q a)
  unfolding departed
  pencil_ours T =
      record {
        admits_none = admitted-zero (windows f) (closure_envelope L table given) d q a;
        admits = λ t p. input_next L table given d q a (suc t) t (omega arith);
        departs = λ t p. refl;
      }

  module _ (T : ℕ) (X Y : ℕ → ℕ) (pencil : Pencil f d q a T X Y) where
    -- one slot more, the totals admitted through slot t being theorem 5.1's
    pencil_next : (t : ℕ) → t < T → ((k : ℕ) → k ≤ t → X k ≡ In k) → X (suc t) ≡ In (suc t)
    pencil_next t p same =
        pencil.admits t p
        ∙ next_admitted_cong (suc t) f d q (λ k. Y (suc t - k)) (λ k. convolution In (windows f) (suc t - k)) (X t) (a (suc t)) (omega arith)
        (λ k k1 kt. pencil.departs (suc t - k) (omega arith) ∙ convolution_cong X In (windows f) (windows f) (suc t - k) (λ s w. same s (omega arith)) (λ s w. refl))
        ∙ ap (λ (x : ℕ). next_admitted (suc t) f d q (λ k. convolution In (windows f) (suc t - k)) x (a (suc t))) (same t (omega arith))
        ∙ sym (input_next L table given d q a (suc t) t (omega arith))

    -- Whatever is worked by the pencil's two rules is theorem 5.1's total.
    pub pencil-admitted : (t : ℕ) → t ≤ T → X t ≡ In t
    pencil-admitted = strongly (λ t. t ≤ T → X t ≡ In t) step
      where
        step : (t : ℕ) → ((k : ℕ) → k < t → k ≤ T → X k ≡ In k) → t ≤ T → X t ≡ In t
        step zero ih p = pencil.admits_none ∙ sym (admitted-zero (windows f) (closure_envelope L table given) d q a)
        step (suc t) ih p = pencil_next t p (λ k r. ih k (omega arith) (omega arith))

    pub pencil-departed : (t : ℕ) → t ≤ T → Y t ≡ departed (windows f) d q a t
    unfolding departed
    pencil-departed t p =
        pencil.departs t p ∙ convolution_cong X In (windows f) (windows f) t (λ s r. pencil-admitted s (omega arith)) (λ s r. refl)

-- For every accepted set-up and every trace the pencil's counts, slot by slot, are the whole-trace run's lists.
module _ (table : List ℕ) (given : Table (length table - 1) (λ k. get_or table k 0)) (d q : Limit) (trace : List ℕ) where
  worked : Pencil (envelope_of table) d q (arrivals trace) (length trace) (pencil_admitted (envelope_of table) d q (arrivals trace)) (pencil_departed (envelope_of table) d q (arrivals trace))
  worked = pencil-numbers (envelope_of table) d q (arrivals trace) (length trace)

  pub pencil-admitted_row : pencil_admitted_row table d q trace ≡ admitted_row table d q trace
  unfolding pencil_admitted_row admitted_row admitted_by envelope_of
  pencil-admitted_row = slot_counts_cong _ _ (length trace) (pencil-admitted _ _ given d q (arrivals trace) (length trace) _ _ worked)

  pub pencil-dropped_row : pencil_dropped_row table d q trace ≡ dropped_row table d q trace
  unfolding pencil_dropped_row dropped_row lost_by lost envelope_of
  pencil-dropped_row =
      slot_counts_cong _ _ (length trace)
      (λ t p. ap (λ (x : ℕ). arrived (arrivals trace) t - x) (pencil-admitted _ _ given d q (arrivals trace) (length trace) _ _ worked t p))

  pub pencil-departed_row : pencil_departed_row table d q trace ≡ departed_row table d q trace
  unfolding pencil_departed_row departed_row departed_by envelope_of
  pencil-departed_row = slot_counts_cong _ _ (length trace) (pencil-departed _ _ given d q (arrivals trace) (length trace) _ _ worked)

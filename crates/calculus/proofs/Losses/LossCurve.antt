-- Lists that hold theorem 5.1's counts are the least loss that there is, for every closed envelope.
use mathlib.Core.Path.{◌≡◌}
use Prim.Native.Nat.{ℕ, suc, ◌+◌, ◌-◌, ◌≤◌}
use native.Mathlib.Omega.{arith}
use mathlib.Core.List.{List}
use lib.ListN.{length}
use Rattle.calculus.specs.Numbers.Limit.{Limit}
use Rattle.calculus.specs.Envelopes.Envelope.{ClosedEnvelope}
use Rattle.calculus.specs.Regulators.Clipper.{arrived, admitted}
use Rattle.calculus.specs.Regulators.Regulator.{departed, lost}
use Rattle.calculus.specs.Losses.Permitted.{Permitted}
use Rattle.calculus.specs.Regulators.Trace.{arrivals, sum_to, slot_counts}
use Rattle.calculus.specs.Losses.LossCurve.{LowestAmong, LowestLoss}
use Rattle.calculus.proofs.Regulators.Trace.{length-slot_counts, slot_counts-sum}
use Rattle.calculus.proofs.Regulators.Regulator.{admitted-zero, admitted_rises, departed-zero, departed_rises, lost_rises}
use Rattle.calculus.proofs.Losses.LowestLoss.{ours_permitted, admitted_most, departed_most, admitted_most_due}

-- Pairs with equal totals for the slots 0 to T are permitted alike.
permitted_cong : (F : ℕ → ℕ → ℕ) (d q : Limit) (a : ℕ → ℕ) (T : ℕ) (u v x y : ℕ → ℕ)
    → ((t : ℕ) → t ≤ T → x t ≡ u t) → ((t : ℕ) → t ≤ T → y t ≡ v t) → Permitted F d q a T u v → Permitted F d q a T x y
permitted_cong F d q a T u v x y same_u same_v p =
    record {
      admitted_starts = omega (arith, same_u 0 (omega arith), p.admitted_starts);
      departed_starts = omega (arith, same_v 0 (omega arith), p.departed_starts);
      admitted_rises = λ t r. omega (arith, same_u t (omega arith), same_u (suc t) r, p.admitted_rises t r);
      departed_rises = λ t r. omega (arith, same_v t (omega arith), same_v (suc t) r, p.departed_rises t r);
      admits_arrivals = λ t r. omega (arith, same_u t (omega arith), same_u (suc t) r, p.admits_arrivals t r);
      departs-admitted = λ t r. omega (arith, same_u t r, same_v t r, p.departs-admitted t r);
      envelope = λ s t st r. omega (arith, same_v s (omega arith), same_v t r, p.envelope s t st r);
      buffer = λ n e t r. omega (arith, same_u (suc t) r, same_v t (omega arith), p.buffer n e t r);
      delay = λ n e t r. omega (arith, same_u t (omega arith), same_v (t + n) r, p.delay n e t r);
    }

module _ (F : ℕ → ℕ → ℕ) (closed : ClosedEnvelope F) (d q : Limit) (trace : List ℕ) where
  abbrev a : ℕ → ℕ
  a = arrivals trace

  abbrev T : ℕ
  T = length trace

  admitted-sum : (t : ℕ) → t ≤ T → sum_to (slot_counts (admitted F d q a) T) t ≡ admitted F d q a t
  admitted-sum t p = slot_counts-sum (admitted F d q a) T (admitted-zero F closed d q a) (admitted_rises F closed d q a) t p

  departed-sum : (t : ℕ) → t ≤ T → sum_to (slot_counts (departed F d q a) T) t ≡ departed F d q a t
  departed-sum t p = slot_counts-sum (departed F d q a) T (departed-zero F closed d q a) (departed_rises F closed d q a) t p

  lost-sum : (t : ℕ) → t ≤ T → sum_to (slot_counts (lost F d q a) T) t ≡ arrived a t - admitted F d q a t
  unfolding lost arrived
  lost-sum t p = slot_counts-sum (lost F d q a) T (omega (arith, admitted-zero F closed d q a)) (lost_rises F closed d q a) t p

  -- Theorem 5.1's counts are the least loss.
  pub counts-lowest : LowestLoss F d q trace (slot_counts (admitted F d q a) T) (slot_counts (lost F d q a) T) (slot_counts (departed F d q a) T)
  counts-lowest =
      record {
        long_ins = length-slot_counts (admitted F d q a) T;
        long_drops = length-slot_counts (lost F d q a) T;
        long_outs = length-slot_counts (departed F d q a) T;
        admitted_total = admitted-sum;
        departed_total = departed-sum;
        dropped_total = lost-sum;
        permitted = permitted_cong F d q a T (admitted F d q a) (departed F d q a) _ _ admitted-sum departed-sum (ours_permitted F closed d q a T);
        lowest = λ quiet u v p t r. (
          omega (arith, admitted-sum t r, admitted_most F closed d q a T u v p quiet t r),
          omega (arith, departed-sum t r, departed_most F closed d q a T u v p t r),
          omega (arith, lost-sum t r, admitted_most F closed d q a T u v p quiet t r),
        );
        departed_most = λ u v p t r. omega (arith, departed-sum t r, departed_most F closed d q a T u v p t r);
        admitted_most_due = λ u v p t n e r. omega (arith, admitted-sum t (omega arith), admitted_most_due F closed d q a T u v p t n e r);
      }

-- The least loss among some pairs is the least among fewer, if ours is one of these.
pub lowest_among_fewer : (Among Fewer : (ℕ → ℕ) → (ℕ → ℕ) → Type 0) (d : Limit) (X Y : ℕ → ℕ) (trace ins drops outs : List ℕ)
    → ((u v : ℕ → ℕ) → Fewer u v → Among u v) → Fewer (sum_to ins) (sum_to outs)
    → LowestAmong Among d X Y trace ins drops outs → LowestAmong Fewer d X Y trace ins drops outs
lowest_among_fewer Among Fewer d X Y trace ins drops outs fewer ours least =
    record {
      long_ins = least.long_ins;
      long_drops = least.long_drops;
      long_outs = least.long_outs;
      admitted_total = least.admitted_total;
      departed_total = least.departed_total;
      dropped_total = least.dropped_total;
      permitted = ours;
      lowest = λ quiet u v p. least.lowest quiet u v (fewer u v p);
      departed_most = λ u v p. least.departed_most u v (fewer u v p);
      admitted_most_due = λ u v p. least.admitted_most_due u v (fewer u v p);
    }

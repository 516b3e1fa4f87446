-- What is asked of a schedule, in plain rules without differences (request 2.11): whatever keeps them is a schedule, and a schedule keeps
-- them. So a schedule may idle, and may send a stream's packets in any order.
use Prim.Native.Nat.{ℕ, zero, suc, ◌+◌, ◌-◌, ◌≤◌, ◌<◌}
use mathlib.Core.Path.{◌≡◌, refl}
use native.Mathlib.Omega.{arith}
use Rattle.calculus.specs.Regulators.Clipper.{arrived}
use Rattle.port_calculus.specs.Port.{sum_below, due_before, coming}
use Rattle.port_calculus.specs.PortWords.{offers, leaves}
use Rattle.port_calculus.specs.Schedules.{Schedule}
use Rattle.port_calculus.specs.PacketSchedules.{PacketSchedule}
use Rattle.port_calculus.proofs.Sums.{sum_below-suc, sum_below_add, sum_below_cong}

-- What the streams send in a slot makes their totals after it out of those before.
slot-sum : (before after : ℕ → ℕ) (n : ℕ) → ((i : ℕ) → i < n → before i ≤ after i)
    → sum_below (λ i. after i - before i) n + sum_below before n ≡ sum_below after n
slot-sum before after n rises =
    omega (
      arith,
      sum_below_add (λ i. after i - before i) before n,
      sum_below_cong (λ i. after i - before i + before i) after n (λ i p. omega (arith, rises i p)),
    )

module _ (n : ℕ) (D : ℕ → ℕ) (a : ℕ → ℕ → ℕ) (c T : ℕ) where
  -- No stream's total falls, none is above what came, and in a slot all totals together grow by at most c.
  pub rules_schedule : (S : ℕ → ℕ → ℕ) → ((i t : ℕ) → i < n → t < T → S i t ≤ S i (suc t))
      → ((i t : ℕ) → i < n → t ≤ T → S i t ≤ arrived (a i) t)
      → ((t : ℕ) → t < T → sum_below (λ i. S i (suc t)) n ≤ sum_below (λ i. S i t) n + c) → Schedule n D a c T S
  rules_schedule S rises comes capacity =
      record {
        rises = rises;
        comes_first = comes;
        capacity = λ t p. omega (arith, capacity t p, slot-sum (λ i. S i t) (λ i. S i (suc t)) n (λ i q. rises i t q p));
      }

  pub schedule_rules : (S : ℕ → ℕ → ℕ) → Schedule n D a c T S
      → ((i t : ℕ) → i < n → t < T → S i t ≤ S i (suc t)) × ((i t : ℕ) → i < n → t ≤ T → S i t ≤ arrived (a i) t)
      × ((t : ℕ) → t < T → sum_below (λ i. S i (suc t)) n ≤ sum_below (λ i. S i t) n + c)
  schedule_rules S ok = (
    ok.rises,
    ok.comes_first,
    λ t p. omega (arith, ok.capacity t p, slot-sum (λ i. S i t) (λ i. S i (suc t)) n (λ i q. ok.rises i t q p)),
  )

  module _ (x : ℕ → ℕ → ℕ → ℕ) where
    -- packets of stream i, due by slot u, that came and that were sent in slots 1 to t
    abbrev come : ℕ → ℕ → ℕ → ℕ
    come t u i = sum_below (λ s. coming D a (suc s) u i) t

    abbrev gone : ℕ → ℕ → ℕ → ℕ
    gone t u i = sum_below (λ s. x (suc s) u i) t

    offers_next : (t u i : ℕ) → offers D a x (suc t) u i ≡ leaves D a x t u i + coming D a (suc t) u i
    unfolding offers leaves
    offers_next t u i = refl

    leaves-first : (u i : ℕ) → leaves D a x 0 u i ≡ 0
    unfolding offers leaves
    leaves-first u i = omega arith

    leaves_now : (t u i : ℕ) → leaves D a x t u i ≡ offers D a x t u i - x t u i
    unfolding leaves
    leaves_now t u i = refl

    -- What is left is what came less what was sent, where no more was sent than came.
    leaves_rest : (u i t : ℕ) → t ≤ T → ((s : ℕ) → s ≤ t → gone s u i ≤ come s u i) → leaves D a x t u i + gone t u i ≡ come t u i
    unfolding sum_below
    leaves_rest u i zero p fits = omega (arith, leaves-first u i)
    leaves_rest u i (suc t) p fits =
        omega (arith, leaves_rest u i t (omega arith) (λ s q. fits s (omega arith)), leaves_now (suc t) u i, offers_next t u i, fits (suc t) (omega arith))

    -- Of the packets of a stream that are due by one slot, no more are sent by any slot than came by then, and at most c in all in a slot.
    pub rules_packets : ((t u i : ℕ) → t ≤ T → i < n → gone t u i ≤ come t u i) → ((t v : ℕ) → t < T → due_before n (x (suc t)) v ≤ c)
        → PacketSchedule n D a c T x
    rules_packets fits capacity =
        record {
          there = λ t u i p r.
              omega (
                arith,
                fits (suc t) u i p r,
                leaves_rest u i t (omega arith) (λ s q. fits s u i (omega arith) r),
                offers_next t u i,
                sum_below-suc (λ s. x (suc s) u i) t,
                sum_below-suc (λ s. coming D a (suc s) u i) t,
              );
          capacity = capacity;
        }

    leaves_left : PacketSchedule n D a c T x → (u i t : ℕ) → t ≤ T → i < n → leaves D a x t u i + gone t u i ≡ come t u i
    unfolding sum_below
    leaves_left ok u i zero p r = omega (arith, leaves-first u i)
    leaves_left ok u i (suc t) p r =
        omega (arith, leaves_left ok u i t (omega arith) r, leaves_now (suc t) u i, offers_next t u i, ok.there t u i p r)

    pub packets_rules : PacketSchedule n D a c T x
        → ((t u i : ℕ) → t ≤ T → i < n → gone t u i ≤ come t u i) × ((t v : ℕ) → t < T → due_before n (x (suc t)) v ≤ c)
    packets_rules ok = (λ t u i p r. omega (arith, leaves_left ok u i t p r), ok.capacity)

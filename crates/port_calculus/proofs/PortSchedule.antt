-- The port is a schedule itself, loses no packet, and meets all deadlines that fall in the run where no packet is late.
use mathlib.Core.Path.{◌≡◌, ap}
use Prim.Native.Nat.{ℕ, suc, ◌+◌, ◌-◌, ◌≤◌, ◌<◌, min}
use native.Mathlib.Decide.{dec_le}
use native.Mathlib.Omega.{arith}
use Rattle.calculus.specs.Regulators.Clipper.{arrived}
use Rattle.calculus.proofs.Regulators.Clipper.{arrived_rises}
use Rattle.port_calculus.specs.Port.{sum_below, sends, offered, sent, waiting, sent_of, late}
use Rattle.port_calculus.specs.Schedules.{Schedule, Meets, sent_by}
use Rattle.port_calculus.proofs.Sums.{sum_below-suc, sum_below_cong, sum_below_mono, sum_below_rises, sum_below_stops}
use Rattle.port_calculus.proofs.Waiting.{offered_later, late_due}
use Rattle.port_calculus.proofs.PortMeets.{port_meets}
use Rattle.port_calculus.proofs.Serving.{due_before_streams, sends_due, sent_or-waiting}

module _ (n : ℕ) (D : ℕ → ℕ) (a : ℕ → ℕ → ℕ) (c T : ℕ) where
  sent_by-suc : (i t : ℕ) → sent_by n D a c T i (suc t) ≡ sent_by n D a c T i t + sent_of n D a c i (suc t)
  unfolding sent_by
  sent_by-suc i t = sum_below-suc (λ s. sent_of n D a c i (suc s)) t

  -- All streams together send at most c packets in a slot.
  sent_of_all : (t : ℕ) → sum_below (λ i. sent_of n D a c i t) n ≤ c
  unfolding sent_of sent
  sent_of_all t =
      omega (arith, due_before_streams n c (sends n c (offered n D a c t)) (t + 65), sends_due n c (offered n D a c t) (t + 65))

  -- packets of stream i sent in slots 1 to t that are due before slot v
  abbrev sent_due : ℕ → ℕ → ℕ → ℕ
  sent_due i v t = sum_below (λ s. sum_below (λ u. sent n D a c (suc s) u i) v) t

  sent_by_most : (i t : ℕ) → sent_by n D a c T i t ≤ sent_due i (t + 65) t
  unfolding sent_by sent_of
  sent_by_most i t = sum_below_mono _ _ t (λ s p. sum_below_rises (λ u. sent n D a c (suc s) u i) (suc s + 65) (t + 65) (omega arith))

  module _ (i : ℕ) (timely : D i ≤ 64) where
    sent_none : (t u : ℕ) → t + 65 ≤ u → sent n D a c t u i ≡ 0
    sent_none t u p = omega (arith, unfolded t u, offered_later n D a c t u i (omega arith))
      where
        unfolded : (t u : ℕ) → sent n D a c t u i ≤ offered n D a c t u i
        unfolded t u = unfold sent sends in omega arith

    sent_due_most : (v t : ℕ) → sent_due i v t ≤ sent_by n D a c T i t
    unfolding sent_by sent_of
    sent_due_most v t =
        sum_below_mono _ _ t (λ s p. elim (dec_le v (suc s + 65)) [
          | yes q ↦ sum_below_rises (λ u. sent n D a c (suc s) u i) v (suc s + 65) q
          | no q ↦ omega (arith, sum_below_stops (λ u. sent n D a c (suc s) u i) (suc s + 65) v (omega arith) (λ u r w. sent_none (suc s) u r))
        ])

    -- No packet is lost: those of a stream that came are sent or wait.
    pub sent_and-waiting : (t : ℕ) → sent_by n D a c T i t + sum_below (λ u. waiting n D a c t u i) (t + 65) ≡ arrived (a i) t
    sent_and-waiting t =
        let e : min t (t + 65 - suc (D i)) ≡ t = omega arith in
        omega (arith, sent_by_most i t, sent_due_most (t + 65) t, sent_or-waiting n D a c i (t + 65) t, ap (arrived (a i)) e)

    -- Where no packet of a stream is late in the run, none is late in a part of it.
    late-part : (u : ℕ) → u ≤ T → late n D a c u i ≤ late n D a c T i
    late-part u p =
        omega (arith, late_due n D a c u i, late_due n D a c T i, sum_below_rises (λ t. waiting n D a c (suc t) (suc t) i) u T p)

    waits-late : (u : ℕ) → sum_below (λ w. waiting n D a c u w i) (suc u) ≤ late n D a c u i
    unfolding late
    waits-late u = omega arith

    meets_stream : late n D a c T i ≡ 0 → (u : ℕ) → u ≤ T → arrived (a i) (u - D i) ≤ sent_by n D a c T i u
    meets_stream none u p =
        let e : min u (suc u - suc (D i)) ≡ u - D i = omega arith in
        omega (arith, ap (arrived (a i)) e, sent_or-waiting n D a c i (suc u) u, waits-late u, late-part u p, sent_due_most (suc u) u)

  pub port_schedule : Schedule n D a c T (sent_by n D a c T)
  port_schedule =
      record {
        rises = λ i t p q. omega (arith, sent_by-suc i t);
        comes_first = λ i t p q. omega (arith, sent_by_most i t, sent_or-waiting n D a c i (t + 65) t, arrived_rises (a i) (min t (t + 65 - suc (D i))) t (omega arith));
        capacity = λ t p.
            omega (arith, sent_of_all (suc t), sum_below_cong (λ i. sent_by n D a c T i (suc t) - sent_by n D a c T i t) (λ i. sent_of n D a c i (suc t)) n (λ i q. omega (arith, sent_by-suc i t)));
      }

  -- Where no packet is late, the port meets all deadlines that fall in the run.
  pub port_meets_all : ((i : ℕ) → i < n → D i ≤ 64) → ((i : ℕ) → i < n → late n D a c T i ≡ 0) → Meets n D a c T (sent_by n D a c T)
  unfolding Meets
  port_meets_all timely none i u p q = meets_stream i (timely i p) (none i p) u q

  -- If some schedule meets all deadlines that fall in the run, this one does.
  pub port-keeps : ((i : ℕ) → i < n → D i ≤ 64) → (S : ℕ → ℕ → ℕ) → Schedule n D a c T S → Meets n D a c T S → Meets n D a c T (sent_by n D a c T)
  port-keeps timely S schedule meets = port_meets_all timely (port_meets n D a c T S schedule meets)

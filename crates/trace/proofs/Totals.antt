-- What is known of an accepted run: its limits, and its totals, each within 32 bits.
use mathlib.Core.Path.{◌≡◌}
use mathlib.Core.List.{List}
use Prim.Native.Nat.{ℕ, zero, suc, ◌+◌, ◌-◌, ◌*◌, ◌≤◌, ◌<◌}
use native.Mathlib.Decide.{dec_le}
use native.Mathlib.Omega.{arith}
use lib.Dec.{eqb}
use lib.ListN.{get_or}
use borrow.Author.Tests.{ne_eqb}
use Rattle.calculus.specs.Numbers.Limit.{Limit, at_most, limit_unless}
use Rattle.calculus.specs.Envelopes.Envelope.{windows, ClosedEnvelope}
use Rattle.calculus.specs.Regulators.Trace.{arrivals}
use Rattle.calculus.specs.Regulators.Rows.{envelope_of, admitted_by, departed_by, lost_by}
use Rattle.calculus.proofs.Envelopes.Envelope.{closure_envelope}
use Rattle.calculus.proofs.Regulators.Regulator.{admitted-arrived, admitted-arrivals, admitted_rises, departed_under, departed_rises, lost-slot}
use Rattle.refusals.proofs.TableJudged.{table_given}
use Rattle.refusals.specs.Limits.{delay_limit, buffer_limit}
use Rattle.refusals.proofs.AcceptedSettings.{Accepted, limit-number, arrived-bound}

module _ (table : List ℕ) (delay buffer : ℕ) (ok : Accepted table (delay_limit delay) (buffer_limit buffer)) where
  -- Where the delay limit is a number, it is the one given.
  pub limit_looks : (ahead : ℕ) → (delay ≤ 64 → ahead ≡ delay) → (m : ℕ) → delay_limit delay ≡ at_most m → ahead ≡ m
  unfolding delay_limit
  limit_looks ahead same m e =
      let n : delay ≡ m = limit-number (eqb delay 255) delay m e in
      omega (arith, same (omega (arith, ok.delayed m e)))

  -- A buffer limit that is not none is small.
  pub buffer_small : (buffer ≡ 4294967295 → ⊥) → buffer ≤ 1000000
  unfolding buffer_limit limit_unless
  buffer_small p = ok.buffered buffer (rw (ne_eqb buffer 4294967295 p))

  pub buffer_fits : buffer < 4294967296
  buffer_fits = elim (dec_le buffer 4294967295) [ yes p ↦ omega arith | no p ↦ omega (arith, buffer_small (λ e. omega arith)) ]

module _ (table : List ℕ) (d q : Limit) (ok : Accepted table d q) where
  module _ (trace : List ℕ) (few : (k : ℕ) → get_or trace k 0 ≤ 1000000) where
    abbrev F : ℕ → ℕ → ℕ
    F = windows (envelope_of table)

    abbrev X : ℕ → ℕ
    X = admitted_by table d q trace

    abbrev Y : ℕ → ℕ
    Y = departed_by table d q trace

    arrivals_few : (k : ℕ) → arrivals trace k ≤ 1000000
    unfolding arrivals
    arrivals_few zero = omega arith
    arrivals_few (suc k) = few k

    closed : ClosedEnvelope F
    unfolding envelope_of
    closed = closure_envelope _ _ (table_given table ok.tabled)

    -- What is known of the totals.
    pub total_small : (t : ℕ) → X t ≤ t * 1000000
    unfolding admitted_by
    total_small t = omega (arith, admitted-arrived F closed d q (arrivals trace) t, arrived-bound (arrivals trace) t (λ k _. arrivals_few k))

    pub total_rises : (t : ℕ) → X t ≤ X (suc t)
    unfolding admitted_by
    total_rises t = admitted_rises F closed d q (arrivals trace) t (suc t) (omega arith)

    pub total_arrives : (t : ℕ) → X (suc t) ≤ X t + get_or trace t 0
    unfolding admitted_by arrivals
    total_arrives t = admitted-arrivals F closed d q (arrivals trace) t

    pub gone_small : (t : ℕ) → Y t ≤ t * 1000000
    unfolding admitted_by departed_by
    gone_small t = omega (arith, departed_under F closed d q (arrivals trace) t, total_small t)

    pub gone_rises : (t : ℕ) → Y t ≤ Y (suc t)
    unfolding departed_by
    gone_rises t = departed_rises F closed d q (arrivals trace) t (suc t) (omega arith)

    pub total_first : X 0 ≡ 0
    total_first = omega (arith, total_small 0)

    pub gone-first : Y 0 ≡ 0
    gone-first = omega (arith, gone_small 0)

    -- What arrives in a slot less what is admitted in it is what the loss grows by.
    pub slot-lost : (t : ℕ) → get_or trace t 0 - (X (suc t) - X t) ≡ lost_by table d q trace (suc t) - lost_by table d q trace t
    unfolding admitted_by lost_by arrivals
    slot-lost t = lost-slot F closed d q (arrivals trace) t

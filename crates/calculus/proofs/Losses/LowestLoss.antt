-- Theorem 5.1 in document 01's words: our pair is permitted, and no permitted pair is above it.
use mathlib.Core.Path.{◌≡◌, ap}
use Prim.Native.Nat.{ℕ, zero, suc, ◌+◌, ◌-◌, ◌≤◌, ◌<◌}
use native.Mathlib.Decide.{dec_le}
use native.Mathlib.Omega.{arith}
use Rattle.calculus.specs.Numbers.Limit.{Limit, at_most, map_limit, cut}
use Rattle.calculus.specs.Envelopes.Envelope.{ClosedEnvelope}
use Rattle.calculus.specs.Regulators.Clipper.{arrived, clipper_envelope, admitted}
use Rattle.calculus.specs.Regulators.Regulator.{departed, lost}
use Rattle.calculus.specs.Losses.Permitted.{Permitted, Quiet}
use Rattle.calculus.proofs.Numbers.Limit.{cut_under, cut_within, cut_above, within-map, within_mapped}
use Rattle.calculus.proofs.Numbers.Rising.{rising}
use Rattle.calculus.proofs.Regulators.Clipper.{arrived-slot, clipped_largest, bound-kept}
use Rattle.calculus.proofs.Regulators.Convolution.{convolution_largest}
use Rattle.calculus.proofs.Losses.Permitted.{permitted-bound}
use Rattle.calculus.proofs.Regulators.Regulator.{admitted-zero, admitted-arrivals, admitted_rises, departed-zero, departed_under, departed_rises, departed-keeps, buffer-kept, delay-kept}

module _ (F : ℕ → ℕ → ℕ) (closed : ClosedEnvelope F) (d q : Limit) (a : ℕ → ℕ) (T : ℕ) where
  -- Our pair is permitted, whatever the trace ends in.
  pub ours_permitted : Permitted F d q a T (admitted F d q a) (departed F d q a)
  ours_permitted =
      record {
        admitted_starts = admitted-zero F closed d q a;
        departed_starts = departed-zero F closed d q a;
        admitted_rises = λ t p. admitted_rises F closed d q a t (suc t) (omega arith);
        departed_rises = λ t p. departed_rises F closed d q a t (suc t) (omega arith);
        admits_arrivals = λ t p. omega (arith, admitted-arrivals F closed d q a t, arrived-slot a t);
        departs-admitted = λ t p. departed_under F closed d q a t;
        envelope = λ s t p r. omega (arith, departed-keeps F closed d q a s t (omega arith));
        buffer = λ n e t p. omega (arith, buffer-kept F closed d q a n e t);
        delay = λ n e t p. delay-kept F closed d q a n e t;
      }

  module _ (u v : ℕ → ℕ) (permitted : Permitted F d q a T u v) where
    admitted_climbs : (i j : ℕ) → i ≤ j → j ≤ T → u i ≤ u j
    admitted_climbs = rising u T permitted.admitted_rises

    departed_climbs : (i j : ℕ) → i ≤ j → j ≤ T → v i ≤ v j
    departed_climbs = rising v T permitted.departed_rises

    departed-bound : (s t : ℕ) → s ≤ t → t ≤ T → v t ≤ v s + F s t
    departed-bound = permitted-bound F d q a T u v permitted

    -- The admitted packets that count: with a delay limit, those that have left by slot T.
    counted : ℕ → ℕ
    counted t = cut (u t) (map_limit (λ n. v T) d)

    counted_under : (t : ℕ) → counted t ≤ u t
    unfolding counted
    counted_under t = cut_under (u t) (map_limit (λ n. v T) d)

    counted_left : (t n : ℕ) → d ≡ at_most n → counted t ≤ v T
    unfolding counted
    counted_left t n e = within_mapped (λ n. v T) d _ n (cut_within (u t) (map_limit (λ n. v T) d)) e

    counted_above : (t z : ℕ) → z ≤ u t → ((n : ℕ) → d ≡ at_most n → z ≤ v T) → z ≤ counted t
    unfolding counted
    counted_above t z p r = cut_above (u t) (map_limit (λ n. v T) d) z p (within-map (λ n. v T) d z r)

    departed-counted : (t : ℕ) → t ≤ T → v t ≤ counted t
    departed-counted t p = counted_above t (v t) (permitted.departs-admitted t p) (λ n e. departed_climbs t T p (omega arith))

    counted-arrivals : (t : ℕ) → t < T → counted (suc t) ≤ counted t + a (suc t)
    counted-arrivals t p =
        omega (
          arith,
          counted_above t (counted (suc t) - a (suc t))
              (omega (arith, counted_under (suc t), permitted.admits_arrivals t p, arrived-slot a t))
              (λ n e. omega (arith, counted_left (suc t) n e)),
        )

    counted-delay : (s t n : ℕ) → s < t → t ≤ T → d ≡ at_most n → counted t ≤ counted s + F s (t + n)
    counted-delay s t n st t_t e =
        elim (dec_le (t + n) T) [
          | yes w ↦ omega (arith, counted_under t, permitted.delay n e t (omega arith), departed-bound s (t + n) (omega arith) w, departed-counted s (omega arith))
          | no w ↦ omega (arith, counted_left t n e, departed-bound s T (omega arith) (omega arith), departed-counted s (omega arith), closed.rises s T (t + n) (omega arith))
        ]

    counted-buffer : (s t n : ℕ) → s < t → t ≤ T → q ≡ at_most n → counted t ≤ counted s + F s (t - 1) + n
    counted-buffer s zero n st t_t e = absurd (omega arith)
    counted-buffer s (suc t) n st t_t e =
        let back : suc t - 1 ≡ t = omega arith in
        omega (arith, counted_under (suc t), permitted.buffer n e t t_t, departed-bound s t (omega arith) (omega arith), departed-counted s (omega arith), ap (F s) back)

    counted-least : (t : ℕ) → t ≤ T → counted t ≤ admitted F d q a t
    unfolding admitted
    counted-least =
        clipped_largest (clipper_envelope F d q) a T counted (omega (arith, counted_under 0, permitted.admitted_starts)) counted-arrivals
        (λ s t m st t_t e.
        omega (
          arith,
          bound-kept F d q s t (counted t - counted s) (λ n e. omega (arith, counted-delay s t n st t_t e))
              (λ n e. omega (arith, counted-buffer s t n st t_t e)) m e,
        ))

    -- Needs no premise: no permitted pair has more departures.
    pub departed_most : (t : ℕ) → t ≤ T → v t ≤ departed F d q a t
    unfolding departed
    departed_most =
        convolution_largest (admitted F d q a) F closed T v
        (λ t p. omega (arith, departed-counted t p, counted-least t p)) departed-bound

    -- Needs no premise: no permitted pair has admitted more by a slot whose deadline lies in the trace.
    pub admitted_most_due : (t n : ℕ) → d ≡ at_most n → t + n ≤ T → u t ≤ admitted F d q a t
    admitted_most_due t n e p =
        omega (
          arith,
          counted-least t (omega arith),
          counted_above t (u t) (omega arith)
              (λ m same. omega (arith, permitted.delay n e t (omega arith), departed_climbs (t + n) T p (omega arith))),
        )

    -- Where d is none or the trace ends in at least d empty slots, no permitted pair has admitted more at any slot.
    pub admitted_most : Quiet d a T → (t : ℕ) → t ≤ T → u t ≤ admitted F d q a t
    unfolding Quiet
    admitted_most quiet t p =
        omega (
          arith,
          counted-least t p,
          counted_above t (u t) (omega arith)
              (λ n e. omega (arith, flat n e t p, permitted.delay n e (T - n) (omega (arith, (quiet n e).0)), ap v (back n e))),
        )
      where
        back : (n : ℕ) → d ≡ at_most n → T - n + n ≡ T
        back n e = omega (arith, (quiet n e).0)

        flat : (n : ℕ) → d ≡ at_most n → (t : ℕ) → t ≤ T → u t ≤ u (T - n)
        flat n e zero p = omega (arith, permitted.admitted_starts)
        flat n e (suc t) p =
            elim (dec_le (suc t) (T - n)) [
              | yes w ↦ admitted_climbs (suc t) (T - n) w (omega arith)
              | no w ↦ omega (arith, flat n e t (omega arith), permitted.admits_arrivals t p, arrived-slot a t, (quiet n e).1 (suc t) (omega arith) p)
            ]

    -- And its loss is at least ours.
    pub loss-least : Quiet d a T → (t : ℕ) → t ≤ T → lost F d q a t ≤ arrived a t - u t
    unfolding lost
    loss-least quiet t p = omega (arith, admitted_most quiet t p)

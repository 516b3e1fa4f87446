-- The pair that is certified whatever a trace of T slots ends in: theorem 5.1's, with a delay limit that binds only the slots whose deadline
-- lies in the trace.
use mathlib.Core.Path.{◌≡◌, refl, ap}
use mathlib.Core.Logic.{inl, inr}
use Prim.Native.Nat.{ℕ, zero, suc, ◌+◌, ◌-◌, ◌≤◌, ◌<◌}
use native.Mathlib.Decide.{dec_le}
use native.Mathlib.Omega.{arith}
use Rattle.calculus.specs.Numbers.Limit.{Limit, at_most, smaller}
use Rattle.calculus.specs.Envelopes.Envelope.{windows, ClosedEnvelope}
use Rattle.calculus.specs.Regulators.Clipper.{arrived, delay_bound, buffer_bound, clipped}
use Rattle.calculus.specs.Regulators.Regulator.{convolution}
use Rattle.calculus.specs.Losses.Permitted.{Permitted}
use Rattle.calculus.proofs.Numbers.Limit.{Within, map_limit-from, within-map, within_mapped, within-smaller, within_left, within_right, smaller_attained}
use Rattle.calculus.proofs.Regulators.Clipper.{arrived-slot, clipped-zero, clipped-arrivals, clipped_attained}
use Rattle.calculus.proofs.Regulators.ClipperBounds.{clipped_within, clipped_rises}
use Rattle.calculus.proofs.Regulators.Convolution.{convolution_attained, convolution_under, convolution-keeps, convolution_rises}
use Rattle.calculus.proofs.Losses.AlsoPermitted.{rules_permitted}
use Rattle.certificate_calculus.specs.Certificate.{by_arrivals, by_delay, by_buffer, AdmittedLink, Certified}
use Rattle.certificate_calculus.specs.LinkTests.{due_delay}
use Rattle.certificate_calculus.specs.FoundLinks.{found_links}
use Rattle.certificate_calculus.proofs.LinkTests.{due_within_lem, within_due}
use Rattle.certificate_calculus.proofs.FoundLinks.{found-holds, found-departs}

module _ (f : ℕ → ℕ) (d q : Limit) (a : ℕ → ℕ) (T : ℕ) where
  -- the smaller of f(t-s+d), where the deadline of slot t lies in the trace, and f(t-s-1) + q
  abbrev G : ℕ → ℕ → Limit
  G s t = smaller (delay_bound f (due_delay d T t) (t - s)) (buffer_bound f q (t - s))

  -- what a clipper that keeps this bound has let in by slot t, and what a regulator has let go of it
  abbrev pub due_admitted : ℕ → ℕ
  due_admitted = clipped G a

  abbrev pub due_departed : ℕ → ℕ
  due_departed = convolution due_admitted (windows f)

  abbrev X : ℕ → ℕ
  X = due_admitted

  abbrev Y : ℕ → ℕ
  Y = due_departed

  -- What keeps G keeps both bounds, and the other way round.
  keeps-delay : (s t x n : ℕ) → Within x (G s t) → d ≡ at_most n → t + n ≤ T → x ≤ f (t - s + n)
  unfolding delay_bound
  keeps-delay s t x n w e due = within_mapped (λ n. f (t - s + n)) (due_delay d T t) x n (within_left _ (buffer_bound f q (t - s)) x w) (within_due d T t n e due)

  keeps-buffer : (s t x n : ℕ) → Within x (G s t) → q ≡ at_most n → x ≤ f (t - s - 1) + n
  unfolding buffer_bound
  keeps-buffer s t x n w e = within_mapped (λ n. f (t - s - 1) + n) q x n (within_right (delay_bound f (due_delay d T t) (t - s)) _ x w) e

  keeps_both : (s t x : ℕ) → ((n : ℕ) → d ≡ at_most n → t + n ≤ T → x ≤ f (t - s + n)) → ((n : ℕ) → q ≡ at_most n → x ≤ f (t - s - 1) + n) → Within x (G s t)
  unfolding delay_bound buffer_bound
  keeps_both s t x delay buffer =
      within-smaller _ _ x
      (within-map _ (due_delay d T t) x (λ n e. let (limit, due) = due_within_lem d T t n e in delay n limit due))
      (within-map _ q x buffer)

  within-G : (s t : ℕ) → s < t → Within (X t - X s) (G s t)
  within-G s t p n e = omega (arith, clipped_within G a s t p n e)

  -- Y(t) is some X(r) + f(t-r).
  some-departed : (t : ℕ) → (r : ℕ) × (r ≤ t) × (Y t ≡ X r + f (t - r))
  unfolding windows
  some-departed t = convolution_attained X (windows f) t

  module _ (closed : ClosedEnvelope (windows f)) where
    f_rises : (i j : ℕ) → i ≤ j → f i ≤ f j
    unfolding windows
    f_rises i j p =
        let e : i - 0 ≡ i = omega arith in
        let g : j - 0 ≡ j = omega arith in
        omega (arith, closed.rises 0 i j p, ap f e, ap f g)

    -- A deadline that lies beyond the trace stays beyond it, so the bound does not fall, nor do the totals.
    admitted_rises : (i j : ℕ) → i ≤ j → X i ≤ X j
    admitted_rises =
        clipped_rises G a
        (λ s t x p w.
        keeps_both s (suc t) x
        (λ n e due. omega (arith, keeps-delay s t x n w e (omega arith), f_rises (t - s + n) (suc t - s + n) (omega arith)))
        (λ n e. omega (arith, keeps-buffer s t x n w e, f_rises (t - s - 1) (suc t - s - 1) (omega arith))))

    buffered : (n : ℕ) → q ≡ at_most n → (t : ℕ) → t < T → X (suc t) ≤ Y t + n
    buffered n e t p =
        let (r, rt, same) = some-departed t in
        let back : suc t - r - 1 ≡ t - r = omega arith in
        omega (arith, keeps-buffer r (suc t) _ n (within-G r (suc t) (omega arith)) e, ap f back)

    timely : (n : ℕ) → d ≡ at_most n → (t : ℕ) → t + n ≤ T → X t ≤ Y (t + n)
    timely n e t due =
        let (r, rt, same) = some-departed (t + n) in
        elim (dec_le t r) [
          | yes p ↦ omega (arith, admitted_rises t r p)
          | no p ↦
              let back : t + n - r ≡ t - r + n = omega arith in
              omega (arith, keeps-delay r t _ n (within-G r t (omega arith)) e due, ap f back)
        ]

    due_permitted : Permitted (windows f) d q a T X Y
    due_permitted =
        let first : X 0 ≡ 0 = clipped-zero G a in
        rules_permitted (windows f) d q a T X Y (first, omega (arith, convolution_under X (windows f) closed 0))
        (λ t p. (admitted_rises t (suc t) (omega arith), convolution_rises X (windows f) closed admitted_rises t (suc t) (omega arith), clipped-arrivals G a t))
        (λ t p. convolution_under X (windows f) closed t)
        (λ s t st p. convolution-keeps X (windows f) closed s t (omega arith))
        buffered
        timely

  -- X(t) is X(t-1) + a(t), or some X(s) + G(s,t): a usable link either way.
  some-link : (t : ℕ) → 1 ≤ t → (s m : ℕ) × AdmittedLink f d q a T X t s m
  unfolding delay_bound buffer_bound
  some-link zero p = absurd (omega arith)
  some-link (suc t) p =
      elim (clipped_attained G a t) [
        | inl e ↦ (t, 1, record { earlier = omega arith; packets = arrived a (suc t) - arrived a t; amounts = by_arrivals refl; makes = omega (arith, arrived-slot a t) })
        | inr (s, n, st, l, e) ↦
            elim (smaller_attained (delay_bound f (due_delay d T (suc t)) (suc t - s)) (buffer_bound f q (suc t - s)) n l) [
              | inl h ↦ let (k, from, same) = map_limit-from (λ k. f (suc t - s + k)) (due_delay d T (suc t)) n h in
                  let (limit, due) = due_within_lem d T (suc t) k from in
                  (s, 2, record { earlier = omega arith; packets = n; amounts = by_delay k limit due same; makes = e })
              | inr h ↦ let (k, limit, same) = map_limit-from (λ k. f (suc t - s - 1) + k) q n h in
                  (s, 3, record { earlier = omega arith; packets = n; amounts = by_buffer k limit same; makes = e })
            ]
      ]

  pub due_certified : ClosedEnvelope (windows f) → Certified f d q a T due_admitted due_departed (found_links f d q a T due_admitted due_departed)
  due_certified closed =
      record {
        permitted = due_permitted closed;
        admitted_link = λ t p within. let (s, m, link) = some-link t p in found-holds f d q a T X t s m link;
        departed_link = λ t p within. let (r, rt, same) = some-departed t in found-departs f X Y t r (record { by = rt; makes = same });
      }

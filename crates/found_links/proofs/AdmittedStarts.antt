-- The first slots of a permitted pair's admitted links, read off its losses and its departed links: an arrivals link starts where the loss is
-- the same; a delay link is a departed link to the deadline, where V(t+d) is U(t); a buffer link is a departed link to the slot before, where
-- U(t) is V(t-1) + q.
use mathlib.Core.Path.{◌≡◌, refl, ap}
use Prim.Native.Nat.{ℕ, suc, ◌+◌, ◌-◌, ◌≤◌, ◌<◌, min}
use native.Mathlib.Decide.{dec_le}
use native.Mathlib.Omega.{arith}
use Rattle.calculus.specs.Numbers.Limit.{Limit, at_most}
use Rattle.calculus.specs.Envelopes.Envelope.{windows}
use Rattle.calculus.specs.Regulators.Clipper.{arrived}
use Rattle.calculus.specs.Losses.Permitted.{Permitted}
use Rattle.calculus.proofs.Regulators.Clipper.{arrived_rises}
use Rattle.certificate_calculus.specs.Certificate.{Usable, by_arrivals, by_delay, by_buffer, AdmittedLink, DepartedLink}
use Rattle.certificate_calculus.specs.FoundLinks.{FirstDeparted}
use Rattle.found_links.specs.FoundRows.{Earliest}
use Rattle.certificate_calculus.proofs.UsableLinks.{permitted-arrived, departed-bound}

module _ (f : ℕ → ℕ) (d q : Limit) (a : ℕ → ℕ) (T : ℕ) (u v : ℕ → ℕ) (permitted : Permitted (windows f) d q a T u v) where
  abbrev Link : ℕ → ℕ → ℕ → Type 0
  Link t s m = AdmittedLink f d q a T u t s m

  abbrev lost : ℕ → ℕ
  lost t = arrived a t - u t

  -- What each mark's link says.
  arrivals_read : (s t p : ℕ) → Usable f d q a T s t p 1 → p ≡ arrived a t - arrived a s
  arrivals_read s t p (by_arrivals same) = same

  delay_read : (s t p : ℕ) → Usable f d q a T s t p 2 → (n : ℕ) × (d ≡ at_most n) × (t + n ≤ T) × (p ≡ f (t - s + n))
  delay_read s t p (by_delay n limit due same) = (n, limit, due, same)

  buffer_read : (s t p : ℕ) → Usable f d q a T s t p 3 → (n : ℕ) × (q ≡ at_most n) × (p ≡ f (t - s - 1) + n)
  buffer_read s t p (by_buffer n limit same) = (n, limit, same)

  -- Arrivals.
  arrivals-lost : (s t : ℕ) → t ≤ T → Link t s 1 → lost s ≡ lost t
  arrivals-lost s t within link =
      omega (
        arith,
        link.makes,
        arrivals_read s t link.packets link.amounts,
        permitted-arrived f d q a T u v permitted s (omega (arith, link.earlier)),
        permitted-arrived f d q a T u v permitted t within,
        arrived_rises a s t (omega (arith, link.earlier)),
      )

  lost-arrivals : (s t : ℕ) → s < t → t ≤ T → lost s ≡ lost t → Link t s 1
  lost-arrivals s t up within same =
      record {
        earlier = up;
        packets = arrived a t - arrived a s;
        amounts = by_arrivals refl;
        makes = omega (
          arith,
          permitted-arrived f d q a T u v permitted s (omega arith),
          permitted-arrived f d q a T u v permitted t within,
          arrived_rises a s t (omega arith),
        );
      }

  pub arrivals-start : (t s : ℕ) → t ≤ T → s ≤ t → lost s ≡ lost t → ((r : ℕ) → r < s → lost r ≡ lost t → ⊥) → Earliest f d q a T u 1 t s
  arrivals-start t s within low same before =
      record {
        within = low;
        link = λ up. lost-arrivals s t up within same;
        earliest = λ r link. elim (dec_le s r) [ yes p ↦ p | no p ↦ absurd (before r (omega arith) (arrivals-lost r t within link)) ];
      }

  -- Delay.
  delay-departs : (s t n : ℕ) → d ≡ at_most n → Link t s 2 → (t + n ≤ T) × (v (t + n) ≡ u t) × DepartedLink f u v (t + n) s
  delay-departs s t n limit link =
      let (m, number, due, same) = delay_read s t link.packets link.amounts in
      let one : m ≡ n = cc in
      let inside : t + n ≤ T = omega arith in
      let window : t - s + m ≡ t + n - s = omega (arith, link.earlier) in
      let sum : u t ≡ u s + f (t + n - s) = omega (arith, link.makes, ap f window) in
      let most = departed-bound f d q a T u v permitted s (t + n) (omega (arith, link.earlier)) inside in
      let all : v (t + n) ≡ u t = omega (arith, permitted.delay n limit t inside) in
      (inside, all, record { by = omega (arith, link.earlier); makes = omega arith })

  departs-delay : (s t n : ℕ) → d ≡ at_most n → s < t → t + n ≤ T → v (t + n) ≡ u t → DepartedLink f u v (t + n) s → Link t s 2
  departs-delay s t n limit up due same link =
      let window : t + n - s ≡ t - s + n = omega arith in
      record { earlier = up; packets = f (t - s + n); amounts = by_delay n limit due refl; makes = omega (arith, link.makes, ap f window) }

  pub delay-start : (t n r : ℕ) → d ≡ at_most n → t + n ≤ T → v (t + n) ≡ u t → FirstDeparted f u v (t + n) r → Earliest f d q a T u 2 t (min r t)
  delay-start t n r limit due same first =
      record {
        within = omega arith;
        link = λ up. let s : min r t ≡ r = omega arith in rw s (departs-delay r t n limit (omega arith) due same first.link);
        earliest = λ s link. omega (arith, first.earliest s (delay-departs s t n limit link).2);
      }

  -- There is none where the deadline lies beyond the trace, or more than U(t) departs by it.
  pub delay_none : (t : ℕ) → ((n : ℕ) → d ≡ at_most n → t + n ≤ T → v (t + n) ≡ u t → ⊥) → Earliest f d q a T u 2 t t
  delay_none t never =
      record {
        within = omega arith;
        link = λ up. absurd (omega arith);
        earliest = λ s link.
            let (n, limit, due, _) = delay_read s t link.packets link.amounts in
            let (_, same, _) = delay-departs s t n limit link in
            absurd (never n limit due same);
      }

  -- Buffer.
  buffer-departs : (s t n : ℕ) → suc t ≤ T → q ≡ at_most n → Link (suc t) s 3 → (u (suc t) ≡ v t + n) × DepartedLink f u v t s
  buffer-departs s t n within limit link =
      let (m, number, same) = buffer_read s (suc t) link.packets link.amounts in
      let one : m ≡ n = cc in
      let window : suc t - s - 1 ≡ t - s = omega arith in
      let sum : u (suc t) ≡ u s + (f (t - s) + n) = omega (arith, link.makes, ap f window) in
      let most = departed-bound f d q a T u v permitted s t (omega (arith, link.earlier)) (omega arith) in
      let all : u (suc t) ≡ v t + n = omega (arith, permitted.buffer n limit t within) in
      (all, record { by = omega (arith, link.earlier); makes = omega arith })

  departs-buffer : (s t n : ℕ) → q ≡ at_most n → u (suc t) ≡ v t + n → DepartedLink f u v t s → Link (suc t) s 3
  departs-buffer s t n limit same link =
      let window : t - s ≡ suc t - s - 1 = omega arith in
      record { earlier = omega (arith, link.by); packets = f (suc t - s - 1) + n; amounts = by_buffer n limit refl; makes = omega (arith, link.makes, ap f window) }

  pub buffer-start : (t n r : ℕ) → suc t ≤ T → q ≡ at_most n → u (suc t) ≡ v t + n → FirstDeparted f u v t r → Earliest f d q a T u 3 (suc t) r
  buffer-start t n r within limit same first =
      record {
        within = omega (arith, first.link.by);
        link = λ up. departs-buffer r t n limit same first.link;
        earliest = λ s link. first.earliest s (buffer-departs s t n within limit link).1;
      }

  -- There is none where the buffer is not full.
  pub buffer_none : (t : ℕ) → suc t ≤ T → ((n : ℕ) → q ≡ at_most n → u (suc t) ≡ v t + n → ⊥) → Earliest f d q a T u 3 (suc t) (suc t)
  buffer_none t within never =
      record {
        within = omega arith;
        link = λ up. absurd (omega arith);
        earliest = λ s link.
            let (n, limit, _) = buffer_read s (suc t) link.packets link.amounts in
            absurd (never n limit (buffer-departs s t n within limit link).0);
      }

-- Theorem 5.1's pair is certified by its found links under demand 3's premise, that d is none or the trace ends in at least d slots without
-- arrivals. Without it every slot whose deadline lies in the trace counts, and every slot has its departed link.
use mathlib.Core.Path.{◌≡◌}
use Prim.Native.Nat.{ℕ, ◌+◌, ◌≤◌}
use native.Mathlib.Omega.{arith}
use Rattle.calculus.specs.Numbers.Limit.{Limit, at_most}
use Rattle.calculus.specs.Envelopes.Envelope.{windows, ClosedEnvelope}
use Rattle.calculus.specs.Regulators.Clipper.{admitted}
use Rattle.calculus.specs.Regulators.Regulator.{departed}
use Rattle.calculus.specs.Losses.Permitted.{Quiet}
use Rattle.calculus.proofs.Regulators.Convolution.{convolution_attained}
use Rattle.calculus.proofs.Losses.LowestLoss.{ours_permitted, departed_most, admitted_most}
use Rattle.certificate_calculus.specs.Certificate.{DepartedLink, Certified, Counts}
use Rattle.certificate_calculus.specs.FoundLinks.{found_departed, found_links}
use Rattle.certificate_calculus.proofs.CertifiedSlots.{slots_count}
use Rattle.certificate_calculus.proofs.CertifiedLowest.{certified-lowest}
use Rattle.certificate_calculus.proofs.FoundLinks.{found-holds, found-departs}
use Rattle.certificate_calculus.proofs.AgreeingTotals.{admitted_alike}
use Rattle.certificate_calculus.proofs.LowestPair.{lowest_due}
use Rattle.certificate_calculus.proofs.LowestCertified.{lowest_certified}
use Rattle.certificate_calculus.proofs.DuePair.{due_certified}

module _ (f : ℕ → ℕ) (closed : ClosedEnvelope (windows f)) (d q : Limit) (a : ℕ → ℕ) (T : ℕ) where
  abbrev X : ℕ → ℕ
  X = admitted (windows f) d q a

  abbrev Y : ℕ → ℕ
  Y = departed (windows f) d q a

  pub ours_certified : Quiet d a T → Certified f d q a T X Y (found_links f d q a T X Y)
  ours_certified quiet =
      (lowest_certified f closed d q a T X Y).0
      (record {
        permitted = ours_permitted (windows f) closed d q a T;
        lowest = λ x y permitted t p.
            let most = admitted_most (windows f) closed d q a T x y permitted quiet t p in
            (most, departed_most (windows f) closed d q a T x y permitted t p, omega arith);
      })

  pub ours_counts : (n : ℕ) → d ≡ at_most n → (t : ℕ) → t + n ≤ T → Counts f d q a T X (found_links f d q a T X Y) t
  ours_counts n limit t due =
      let certified = due_certified f d q a T closed in
      let lowest = certified-lowest f d q a T _ _ _ certified in
      slots_count f d q a T X (found_links f d q a T X Y) t
      (λ s p within.
      found-holds f d q a T X s _ _
      (admitted_alike f d q a T _ X s _ _ (λ k low. lowest_due f closed d q a T _ _ lowest k n limit (omega arith)) (certified.admitted_link s p (omega arith))))
      t (omega arith)

  -- Every slot has its departed link, whatever the trace ends in.
  pub ours-departs : (t : ℕ) → DepartedLink f X Y t (found_departed f X Y t)
  unfolding departed windows
  ours-departs t =
      let (r, by, made) = convolution_attained X (windows f) t in
      found-departs f X Y t r (record { by = by; makes = made })

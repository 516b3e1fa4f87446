-- The first slots of departed links, worked slot after slot from the table's entries: where what departs in the last k slots is the table's
-- entry at k, the departed links to slot t-k go on to slot t, and every departed link that does not start in slot t comes so.
use mathlib.Core.Path.{◌≡◌, refl, ap}
use Prim.Native.Nat.{ℕ, zero, suc, ◌+◌, ◌-◌, ◌≤◌, ◌<◌}
use native.Mathlib.Omega.{arith}
use Rattle.calculus.specs.Envelopes.Closure.{closure}
use Rattle.calculus.specs.Envelopes.Envelope.{windows}
use Rattle.calculus.specs.Regulators.Regulator.{convolution}
use Rattle.calculus.proofs.Envelopes.Closure.{closure_within, closure_attained}
use Rattle.calculus.proofs.Regulators.Convolution.{convolution_below, convolution_attained}
use Rattle.certificate_calculus.specs.Certificate.{DepartedLink}

module _ (L : ℕ) (table : ℕ → ℕ) (some : 1 ≤ L) (u : ℕ → ℕ) where
  abbrev f : ℕ → ℕ
  f = closure L table

  abbrev v : ℕ → ℕ
  v = convolution u (windows f)

  abbrev Link : ℕ → ℕ → Type 0
  Link t r = DepartedLink f u v t r

  -- V(t) is some U(r) + f(t-r), and at most each.
  pub some-link : (t : ℕ) → (r : ℕ) × Link t r
  unfolding windows
  some-link t =
      let (r, low, same) = convolution_attained u (windows f) t in
      (r, record { by = low; makes = same })

  pub below : (r t : ℕ) → r ≤ t → v t ≤ u r + f (t - r)
  unfolding windows
  below r t p = convolution_below u (windows f) r t p

  -- A link to slot t-k and the entry at k bound what departs by slot t ..
  pub window-bound : (t k r : ℕ) → 1 ≤ k → k ≤ L → k ≤ t → Link (t - k) r → u r + f (t - r) ≤ v (t - k) + table k
  window-bound t k r one last low link =
      let back : t - r - k ≡ t - k - r = omega arith in
      omega (arith, link.makes, closure_within L table some (t - r) k one last (omega (arith, link.by)), ap f back)

  -- .. so where that is attained, the link goes on to slot t ..
  pub link_on : (t k r : ℕ) → 1 ≤ k → k ≤ L → k ≤ t → v (t - k) + table k ≡ v t → Link (t - k) r → Link t r
  link_on t k r one last low same link =
      record { by = omega (arith, link.by); makes = omega (arith, below r t (omega (arith, link.by)), window-bound t k r one last low link) }

  -- .. and a link to slot t comes from one that does.
  pub link_back : (t r : ℕ) → r < t → Link t r → (k : ℕ) × (1 ≤ k) × (k ≤ L) × (k ≤ t) × (v (t - k) + table k ≡ v t) × Link (t - k) r
  link_back t r early link =
      let (j, past) = before (t - r) (omega arith) in
      let (k, one, last, low, e) = closure_attained L table some j in
      let whole : suc j ≡ t - r = omega arith in
      let rest : suc j - k ≡ t - k - r = omega arith in
      let made : v t ≡ u r + (table k + f (t - k - r)) = omega (arith, link.makes, ap f whole, ap f rest) in
      let (s, other) = some-link (t - k) in
      let most = window-bound t k s one last (omega arith) other in
      let least = below r (t - k) (omega arith) in
      let within = below s t (omega (arith, other.by)) in
      (k, one, last, omega arith, omega arith, record { by = omega arith; makes = omega arith })
    where
      before : (n : ℕ) → 0 < n → (j : ℕ) × (n ≡ suc j)
      before zero p = absurd (omega arith)
      before (suc j) p = (j, refl)

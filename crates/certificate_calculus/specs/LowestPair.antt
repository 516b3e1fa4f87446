-- The lowest loss curve of a trace, whoever has it.
use Rattle.std.specs.Prelude.{◌≡◌, ℕ, ◌-◌, ◌≤◌}
use Rattle.calculus.specs.Numbers.Limit.{Limit}
use Rattle.calculus.specs.Envelopes.Envelope.{windows}
use Rattle.calculus.specs.Regulators.Clipper.{arrived, admitted}
use Rattle.calculus.specs.Regulators.Regulator.{departed}
use Rattle.calculus.specs.Losses.Permitted.{Permitted, Quiet}
use Rattle.certificate_calculus.specs.Certificate.{Certified}
use Rattle.certificate_calculus.specs.FoundLinks.{found_links}

module _ (f : ℕ → ℕ) (d q : Limit) (a : ℕ → ℕ) (T : ℕ) where
  -- A lowest pair: it is permitted, and no permitted pair, of anyone, has admitted or departed more or lost fewer by any slot.
  pub record LowestPair (u v : ℕ → ℕ) : Type 0 where
    pub permitted : Permitted (windows f) d q a T u v
    pub lowest : (x y : ℕ → ℕ) → Permitted (windows f) d q a T x y → (t : ℕ) → t ≤ T
        → (x t ≤ u t) × (y t ≤ v t) × (arrived a t - u t ≤ arrived a t - x t)

  -- There is one lowest pair. It is certified, and under demand 3's premise it is theorem 5.1's.
  pub record OneLowest : Type 0 where
    pub u : ℕ → ℕ
    pub v : ℕ → ℕ
    pub lowest : LowestPair u v
    pub only : (x y : ℕ → ℕ) → LowestPair x y → (t : ℕ) → t ≤ T → (x t ≡ u t) × (y t ≡ v t)
    pub certified : Certified f d q a T u v (found_links f d q a T u v)
    pub ours : Quiet d a T → (t : ℕ) → t ≤ T → (u t ≡ admitted (windows f) d q a t) × (v t ≡ departed (windows f) d q a t)

-- Schedules of a port's packets (document 02, request 2.11): "If some schedule meets all deadlines that fall in the run, this one does."
use Rattle.std.specs.Prelude.{ℕ, suc, ◌-◌, ◌≤◌, ◌<◌}
use Rattle.calculus.specs.Regulators.Clipper.{arrived}
use Rattle.port_calculus.specs.Port.{sum_below, sent_of}

module _ (n : ℕ) (D : ℕ → ℕ) (a : ℕ → ℕ → ℕ) (c T : ℕ) where
  -- any schedule: S(i,t) packets of stream i are sent in slots 1 to t, none before it comes, and at most c in a slot
  pub record Schedule (S : ℕ → ℕ → ℕ) : Type 0 where
    pub rises : (i t : ℕ) → i < n → t < T → S i t ≤ S i (suc t)
    pub comes_first : (i t : ℕ) → i < n → t ≤ T → S i t ≤ arrived (a i) t
    pub capacity : (t : ℕ) → t < T → sum_below (λ i. S i (suc t) - S i t) n ≤ c

  -- It meets all deadlines that fall in the run: by slot u it has sent all of stream i that came by slot u - D(i).
  unfoldable pub Meets : (ℕ → ℕ → ℕ) → Type 0
  Meets S = (i u : ℕ) → i < n → u ≤ T → arrived (a i) (u - D i) ≤ S i u

  -- what the port has sent of stream i in slots 1 to t
  unfoldable pub sent_by : ℕ → ℕ → ℕ
  sent_by i t = sum_below (λ s. sent_of n D a c i (suc s)) t

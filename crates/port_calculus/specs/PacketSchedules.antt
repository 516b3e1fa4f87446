-- Schedules packet by packet (document 02, request 2.11): "If some schedule meets all deadlines that fall in the run, this one does."
-- A stream's packets need not be sent in the order in which they came.
use Rattle.std.specs.Prelude.{◌≡◌, ℕ, suc, ◌≤◌, ◌<◌}
use Rattle.port_calculus.specs.Port.{due_before}
use Rattle.port_calculus.specs.PortWords.{offers, leaves}

module _ (n : ℕ) (D : ℕ → ℕ) (a : ℕ → ℕ → ℕ) (c T : ℕ) (x : ℕ → ℕ → ℕ → ℕ) where
  -- any schedule: x(t,u,i) packets of stream i that are due by slot u are sent in slot t, only such as are there, and at most c in a slot
  pub record PacketSchedule : Type 0 where
    pub there : (t u i : ℕ) → t < T → i < n → x (suc t) u i ≤ offers D a x (suc t) u i
    pub capacity : (t v : ℕ) → t < T → due_before n (x (suc t)) v ≤ c

  -- It meets all deadlines that fall in the run: after a slot of the run no packet is left that is due by it.
  unfoldable pub PacketsMeet : Type 0
  PacketsMeet = (t i : ℕ) → t < T → i < n → leaves D a x (suc t) (suc t) i ≡ 0

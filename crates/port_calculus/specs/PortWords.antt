-- The words of document 02, request 2.11, about any way of sending: "The port sends the earliest due first, the lower stream first
-- among equals, and fewer than c only if nothing is then left waiting."
use Rattle.std.specs.Prelude.{◌≡◌, ℕ, zero, suc, ◌+◌, ◌-◌, ◌≤◌, ◌<◌}
use Rattle.port_calculus.specs.Port.{due_before, coming}

-- One slot: q(u,i) packets of stream i that are due by slot u may be sent, and x(u,i) are.
pub record SlotWords (n c : ℕ) (q x : ℕ → ℕ → ℕ) : Type 0 where
  pub there : (u i : ℕ) → i < n → x u i ≤ q u i
  -- up to c packets a slot
  pub capacity : (v : ℕ) → due_before n x v ≤ c
  -- the earliest due first: none is sent while one that is due earlier is left
  pub earliest : (u i v j : ℕ) → i < n → j < n → v < u → x v j < q v j → x u i ≡ 0
  -- the lower stream first among equals: none is sent while one of a lower stream is left that is due by the same slot
  pub lower : (u i j : ℕ) → i < n → j < i → x u j < q u j → x u i ≡ 0
  -- fewer than c only if nothing is then left waiting
  pub fewer : ((v : ℕ) → due_before n x v < c) → (u i : ℕ) → i < n → x u i ≡ q u i

module _ (D : ℕ → ℕ) (a : ℕ → ℕ → ℕ) (x : ℕ → ℕ → ℕ → ℕ) where
  -- x(t,u,i) packets of stream i that are due by slot u are sent in slot t. What may be sent in slot t: what was left, and what comes.
  unfoldable pub offers : ℕ → ℕ → ℕ → ℕ
  offers zero u i = 0
  offers (suc t) u i = offers t u i - x t u i + coming D a (suc t) u i

  -- what is left after slot t
  unfoldable pub leaves : ℕ → ℕ → ℕ → ℕ
  leaves t u i = offers t u i - x t u i

  -- The words hold in the slots 1 to T.
  unfoldable pub RunWords : ℕ → ℕ → ℕ → Type 0
  RunWords n c T = (t : ℕ) → t < T → SlotWords n c (offers (suc t)) (x (suc t))

-- Envelopes of pairs of slots (document 000): F(s,t) bounds what departs in slots s+1 to t.
use Rattle.std.specs.Prelude.{◌≡◌, ℕ, ◌+◌, ◌-◌, ◌≤◌}

-- Document 01's f of windows, as an envelope of pairs of slots: F(s,t) is f(t-s).
unfoldable pub windows : (ℕ → ℕ) → ℕ → ℕ → ℕ
windows f s t = f (t - s)

-- a closed envelope: F(s,s) is 0, F(s,t) does not fall with t, and F(s,r) is at most F(s,t) + F(t,r)
pub record ClosedEnvelope (F : ℕ → ℕ → ℕ) : Type 0 where
  pub starts : (s : ℕ) → F s s ≡ 0
  pub rises : (s t r : ℕ) → t ≤ r → F s t ≤ F s r
  pub chains : (s t r : ℕ) → s ≤ t → t ≤ r → F s r ≤ F s t + F t r

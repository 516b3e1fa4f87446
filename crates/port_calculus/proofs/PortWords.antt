-- The port keeps the words of request 2.11 in every slot.
use mathlib.Core.Path.{◌≡◌, refl, sym, ap, ◌∙◌}
use Prim.Native.Nat.{ℕ, zero, suc, ◌+◌, ◌-◌, ◌≤◌, ◌<◌}
use native.Mathlib.Omega.{arith}
use Rattle.port_calculus.specs.Port.{due_before, ahead, sends, keeps, coming, offered, sent}
use Rattle.port_calculus.specs.PortWords.{SlotWords, offers, RunWords}
use Rattle.port_calculus.proofs.Sums.{sum_below-suc, sum_below_rises}
use Rattle.port_calculus.proofs.Waiting.{ahead_before}
use Rattle.port_calculus.proofs.Serving.{sends-keeps, sends_due, sends_fewer}

module _ (n c : ℕ) (q : ℕ → ℕ → ℕ) where
  -- All that is due earlier goes before, and all of lower streams among equals.
  pub ahead_due : (u i : ℕ) → due_before n q u ≤ ahead n q u i
  unfolding ahead
  ahead_due u i = omega arith

  pub ahead_lower : (u i j : ℕ) → j < i → ahead n q u j + q u j ≤ ahead n q u i
  unfolding ahead
  ahead_lower u i j p = omega (arith, sum_below-suc (q u) j, sum_below_rises (q u) (suc j) i p)

  -- Where some packets of a place are left, c packets went before the next.
  left_full : (u i : ℕ) → sends n c q u i < q u i → c ≤ ahead n q u i + q u i
  unfolding sends
  left_full u i left = omega arith

  full_none : (u i : ℕ) → c ≤ ahead n q u i → sends n c q u i ≡ 0
  unfolding sends
  full_none u i full = omega arith

  -- Of any queue the port sends by the words.
  pub sends_words : SlotWords n c q (sends n c q)
  sends_words =
      record {
        there = λ u i p. omega (arith, sends-keeps n c q u i);
        capacity = λ v. omega (arith, sends_due n c q v);
        earliest = λ u i v j p r s left. full_none u i (omega (arith, left_full v j left, ahead_before n c q v u j s r, ahead_due u i));
        lower = λ u i j p s left. full_none u i (omega (arith, left_full u j left, ahead_lower u i j s));
        fewer = λ few u i p. omega (arith, sends-keeps n c q u i, sends_fewer n c q (suc u) (few (suc u)), ahead_before n c (keeps n c q) u (suc u) i (omega arith) p);
      }

-- Queues that agree on the streams ask the same.
pub words_cong : (n c : ℕ) (q r x : ℕ → ℕ → ℕ) → ((u i : ℕ) → i < n → q u i ≡ r u i) → SlotWords n c q x → SlotWords n c r x
words_cong n c q r x same words =
    record {
      there = λ u i p. omega (arith, same u i p, words.there u i p);
      capacity = λ v. words.capacity v;
      earliest = λ u i v j p s w left. words.earliest u i v j p s w (omega (arith, same v j s));
      lower = λ u i j p s left. words.lower u i j p s (omega (arith, same u j (omega arith)));
      fewer = λ few u i p. words.fewer few u i p ∙ same u i p;
    }

module _ (n : ℕ) (D : ℕ → ℕ) (a : ℕ → ℕ → ℕ) (c : ℕ) where
  -- What the port may send is what it left, and what comes.
  pub offered_left : (t u i : ℕ) → offers D a (sent n D a c) t u i ≡ offered n D a c t u i
  unfolding offers offered sent keeps
  offered_left zero u i = refl
  offered_left (suc t) u i = ap (λ (left : ℕ). left - sends n c (offered n D a c t) u i + coming D a (suc t) u i) (offered_left t u i)

  -- It keeps the words in every slot.
  pub port_words : (T : ℕ) → RunWords D a (sent n D a c) n c T
  unfolding RunWords
  port_words T t p =
      words_cong n c (offered n D a c (suc t)) (offers D a (sent n D a c) (suc t)) (sent n D a c (suc t))
      (λ u i r. sym (offered_left (suc t) u i)) (one (suc t))
    where
      one : (t : ℕ) → SlotWords n c (offered n D a c t) (sent n D a c t)
      one t = unfold sent in sends_words n c (offered n D a c t)

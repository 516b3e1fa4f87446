-- The smallest limit found by halving: what is known of the limits while a search goes on.
use mathlib.Core.Path.{◌≡◌, sym}
use Prim.Native.Nat.{ℕ, ◌+◌, ◌≤◌, ◌<◌}
use native.Mathlib.Nat.{le_antisymm}
use native.Mathlib.Decide.{dec_le}
use native.Mathlib.Omega.{arith}
use Rattle.size_calculus.specs.Smallest.{smallest}
use Rattle.size_calculus.proofs.Smallest.{NeverGrows, smallest_found, smallest-is, smallest_most}

-- Every limit below low loses more than N, and none from high on up to the most does.
pub record Between (most : ℕ) (loss : ℕ → ℕ) (N low high : ℕ) : Type 0 where
  pub ordered : low ≤ high
  pub within : high ≤ most + 1
  pub more_below : (n : ℕ) → n < low → N < loss n
  pub few_from : (n : ℕ) → high ≤ n → n ≤ most → loss n ≤ N

module _ (most : ℕ) (loss : ℕ → ℕ) (N : ℕ) where
  -- Nothing is known at first.
  pub between_first : Between most loss N 0 (most + 1)
  between_first =
      record { ordered = omega arith; within = omega arith; more_below = λ n p. absurd (omega arith); few_from = λ n p r. absurd (omega arith) }

  module _ (grows : NeverGrows loss) (low high : ℕ) (known : Between most loss N low high) (limit : ℕ) (lower : low ≤ limit) (under : limit < high) where
    -- A limit that loses at most N is the new high ..
    pub between_lower : loss limit ≤ N → Between most loss N low limit
    between_lower few =
        record {
          ordered = lower;
          within = omega (arith, known.within);
          more_below = known.more_below;
          few_from = λ n p r. omega (arith, grows limit n p);
        }

    -- .. and from one that loses more, the next is the new low.
    pub between_higher : N < loss limit → Between most loss N (limit + 1) high
    between_higher more =
        record {
          ordered = omega arith;
          within = known.within;
          more_below = λ n p. omega (arith, grows n limit (omega arith));
          few_from = known.few_from;
        }

  -- Where the two meet, the smallest limit is found, or there is none.
  pub between_met : (limit : ℕ) → Between most loss N limit limit → limit ≡ smallest most loss N
  between_met limit known =
      elim (dec_le limit most) [
        | yes p ↦ sym (smallest_found most loss N limit (record { within = p; loses = known.few_from limit (omega arith) p; none_smaller = known.more_below }))
        | no p ↦ le_antisymm (omega (arith, known.within, beyond p)) (omega (arith, smallest_most most loss N, known.within))
      ]
    where
      beyond : (limit ≤ most → ⊥) → most < smallest most loss N
      beyond p =
          elim (dec_le (smallest most loss N) most) [
            | yes r ↦ absurd (omega (arith, (smallest-is most loss N r).loses, known.more_below (smallest most loss N) (omega arith)))
            | no r ↦ omega arith
          ]

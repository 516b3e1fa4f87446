-- The smallest limit is one alone, and the number that is defined is it.
use mathlib.Core.Path.{◌≡◌, refl}
use mathlib.Core.Bool.{Bool, true, false, cond}
use mathlib.Core.List.{List}
use Prim.Native.Nat.{ℕ, zero, suc, ◌+◌, ◌≤◌, ◌<◌}
use native.Mathlib.Nat.{le_antisymm}
use native.Mathlib.Decide.{dec_le}
use native.Mathlib.Omega.{arith}
use lib.Dec.{leb, leb→le, le→leb}
use lib.ListN.{length}
use Rattle.calculus.specs.Numbers.Limit.{Limit, at_most}
use Rattle.calculus.specs.Numbers.FirstWhere.{first_where}
use Rattle.calculus.specs.Envelopes.Envelope.{windows, ClosedEnvelope}
use Rattle.calculus.specs.Regulators.Trace.{arrivals}
use Rattle.calculus.specs.Regulators.Rows.{envelope_of, lost_by}
use Rattle.calculus.proofs.Numbers.FirstWhere.{first_where_below, first_where-holds}
use Rattle.calculus.proofs.Numbers.Least.{least_attained}
use Rattle.size_calculus.specs.Looser.{to_number}
use Rattle.size_calculus.specs.Smallest.{Smallest, NoneDoes, smallest, loss_with_buffer, loss_with_delay}
use Rattle.size_calculus.proofs.Looser.{lost_less-buffer, lost_less-delay}

-- a loss that does not grow with the limit
abbrev pub NeverGrows : (ℕ → ℕ) → Type 0
NeverGrows loss = (i j : ℕ) → i ≤ j → loss j ≤ loss i

pub buffer_never_grows : (table : List ℕ) (d : Limit) (trace : List ℕ) → NeverGrows (loss_with_buffer table d trace)
unfolding loss_with_buffer lost_by
buffer_never_grows table d trace i j p =
    lost_less-buffer (arrivals trace) (length trace) (windows (envelope_of table)) d (at_most i) (at_most j) (to_number i j p)

pub delay_never_grows : (table : List ℕ) (q : Limit) (trace : List ℕ) → ClosedEnvelope (windows (envelope_of table)) → NeverGrows (loss_with_delay table q trace)
unfolding loss_with_delay lost_by
delay_never_grows table q trace closed i j p =
    lost_less-delay (arrivals trace) (length trace) (windows (envelope_of table)) closed (at_most i) (at_most j) q (to_number i j p)

module _ (most : ℕ) (loss : ℕ → ℕ) (N : ℕ) where
  -- No two limits are the smallest.
  pub only : (limit other : ℕ) → Smallest most loss N limit → Smallest most loss N other → limit ≡ other
  only limit other this that =
      elim (dec_le limit other) [
        | yes p ↦ elim (dec_le other limit) [
          | yes r ↦ le_antisymm p r
          | no r ↦ absurd (omega (arith, that.none_smaller limit (omega arith), this.loses))
        ]
        | no p ↦ absurd (omega (arith, this.none_smaller other (omega arith), that.loses))
      ]

  -- Where it is at most the most, the number defined is the smallest limit ..
  pub smallest-is : smallest most loss N ≤ most → Smallest most loss N (smallest most loss N)
  unfolding smallest
  smallest-is found =
      let (low, there) = first_where-holds 0 most (λ n. leb (loss n) N) (omega arith) found in
      record {
        within = found;
        loses = leb→le (loss (smallest most loss N)) N there;
        none_smaller = λ n p.
            elim (dec_le (loss n) N) [
              | yes r ↦ absurd (omega (arith, first_where_below 0 most (λ n. leb (loss n) N) n (omega arith) (omega arith) (le→leb (loss n) N r)))
              | no r ↦ omega arith
            ];
      }

  -- .. and where it is not, there is none.
  pub smallest_none : most < smallest most loss N → NoneDoes most loss N
  unfolding smallest NoneDoes
  smallest_none over n p =
      elim (dec_le (loss n) N) [
        | yes r ↦ absurd (omega (arith, first_where_below 0 most (λ n. leb (loss n) N) n (omega arith) p (le→leb (loss n) N r)))
        | no r ↦ omega arith
      ]

  -- A smallest limit is that number.
  pub smallest_found : (limit : ℕ) → Smallest most loss N limit → smallest most loss N ≡ limit
  smallest_found limit this =
      elim (dec_le (smallest most loss N) most) [
        | yes p ↦ only (smallest most loss N) limit (smallest-is p) this
        | no p ↦ absurd (omega (arith, nowhere (omega arith), this.loses))
      ]
    where
      nowhere : most < smallest most loss N → N < loss limit
      nowhere over = unfold NoneDoes in smallest_none over limit this.within

  -- Where the loss never grows, it is enough to look at the limit one below ..
  pub smallest_here : NeverGrows loss → (limit : ℕ) → limit ≤ most → loss limit ≤ N → ((n : ℕ) → limit ≡ suc n → N < loss n) → Smallest most loss N limit
  smallest_here grows zero p here below = record { within = p; loses = here; none_smaller = λ n q. absurd (omega arith) }
  smallest_here grows (suc limit) p here below =
      record { within = p; loses = here; none_smaller = λ n q. omega (arith, below limit refl, grows n limit (omega arith)) }

  -- .. and at the greatest.
  pub none_does : NeverGrows loss → N < loss most → NoneDoes most loss N
  unfolding NoneDoes
  none_does grows more n p = omega (arith, grows n most p)

  -- The number is at most one more than the most.
  pub smallest_most : smallest most loss N ≤ most + 1
  unfolding smallest first_where
  smallest_most =
      let (k, low, high, e) = least_attained 0 most (λ k. cond (leb (loss k) N) k (suc most)) (omega arith) in
      omega (arith, either (leb (loss k) N) k high)
    where
      either : (b : Bool) (k : ℕ) → k ≤ most → cond b k (suc most) ≤ most + 1
      either true k p = omega arith
      either false k p = omega arith

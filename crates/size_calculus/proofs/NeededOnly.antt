-- The buffer that any regulator needs is one number, and so is the delay: what some pair does with one limit no pair does with a smaller one.
use mathlib.Core.Path.{◌≡◌}
use mathlib.Core.List.{List}
use Prim.Native.Nat.{ℕ, ◌≤◌}
use native.Mathlib.Nat.{le_antisymm}
use native.Mathlib.Decide.{dec_le}
use native.Mathlib.Omega.{arith}
use lib.ListN.{length}
use Rattle.calculus.specs.Numbers.Limit.{Limit, at_most}
use Rattle.calculus.specs.Regulators.Trace.{arrivals}
use Rattle.calculus.specs.Losses.Permitted.{Quiet}
use Rattle.size_calculus.specs.Smallest.{BufferNeeded, DelayNeeded}

pub buffer_needed_only : (table : List ℕ) (d : Limit) (trace : List ℕ) (N q r : ℕ) → Quiet d (arrivals trace) (length trace)
    → BufferNeeded table d trace N q → BufferNeeded table d trace N r → q ≡ r
buffer_needed_only table d trace N q r quiet one other = le_antisymm (upto q r one other) (upto r q other one)
  where
    upto : (q r : ℕ) → BufferNeeded table d trace N q → BufferNeeded table d trace N r → q ≤ r
    upto q r one other =
        elim (dec_le q r) [
          | yes p ↦ p
          | no p ↦ let (u, v, permitted, few) = other.one_does in absurd (omega (arith, few, one.nobody_smaller quiet r (omega arith) u v permitted))
        ]

-- The smaller of two delays is the one whose empty slots are asked for.
pub delay_needed_only : (table : List ℕ) (q : Limit) (trace : List ℕ) (N d e : ℕ) → Quiet (at_most d) (arrivals trace) (length trace)
    → Quiet (at_most e) (arrivals trace) (length trace) → DelayNeeded table q trace N d → DelayNeeded table q trace N e → d ≡ e
delay_needed_only table q trace N d e quiet still one other = le_antisymm (upto d e still one other) (upto e d quiet other one)
  where
    upto : (d e : ℕ) → Quiet (at_most e) (arrivals trace) (length trace) → DelayNeeded table q trace N d → DelayNeeded table q trace N e → d ≤ e
    upto d e still one other =
        elim (dec_le d e) [
          | yes p ↦ p
          | no p ↦ let (u, v, permitted, few) = other.one_does in absurd (omega (arith, few, one.nobody_smaller e (omega arith) still u v permitted))
        ]

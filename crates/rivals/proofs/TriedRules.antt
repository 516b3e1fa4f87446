-- Windows and slots are tried from the first on, and the rules of a slot in their order, on totals that stand in lists.
use mathlib.Core.Path.{◌≡◌, sym, ap, subst, ◌∙◌}
use mathlib.Core.Bool.{Bool, true, false}
use mathlib.Core.List.{List}
use Prim.Native.Nat.{ℕ, zero, suc, ◌+◌, ◌-◌, ◌≤◌}
use native.Mathlib.Omega.{arith}
use lib.Dec.{ltb}
use lib.ListN.{get_or}
use Rattle.calculus.specs.Numbers.Limit.{delay_limit, buffer_limit}
use Rattle.calculus.specs.Regulators.Trace.{arrivals}
use Rattle.orders.specs.Refusal.{◌when◌, ◌or_else◌}
use Rattle.rival_calculus.specs.Broken.{first_up_to, is_over_arrivals, is_over_admitted, is_over_envelope, is_over_buffer, is_over_delay, rule_at}
use Rattle.rival_calculus.proofs.FirstUpTo.{first_next, first_here}

-- the totals that a list holds
abbrev pub held : List ℕ → ℕ → ℕ
held totals k = get_or totals k 0

-- Looked for from 1 on, and not found before k: not here either ..
module _ (test : ℕ → Bool) (k : ℕ) (some : 1 ≤ k) (none : first_up_to test (k - 1) ≡ 0) where
  pub first_on : test k ≡ false → first_up_to test (k + 1 - 1) ≡ 0
  first_on e =
      let here : k - 1 + 1 ≡ k = omega arith in
      let next : k + 1 - 1 ≡ k = omega arith in
      rw next (subst (λ (n : ℕ). first_up_to test n ≡ 0) here (first_next test (k - 1) none (ap test here ∙ e)))

  pub first_last : (n : ℕ) → k ≡ n → test k ≡ false → first_up_to test n ≡ 0
  first_last n last e =
      let next : k + 1 - 1 ≡ n = omega arith in
      subst (λ (m : ℕ). first_up_to test m ≡ 0) next (first_on e)

  -- .. or here.
  pub first_at : (n : ℕ) → k ≤ n → test k ≡ true → k ≡ first_up_to test n
  first_at n within e =
      let here : k - 1 + 1 ≡ k = omega arith in
      sym (first_here test (k - 1) n (omega arith) none (ap test here ∙ e) ∙ here)

-- The arrivals of slot t stand at place t-1.
pub arrivals_at : (trace : List ℕ) (t : ℕ) → 1 ≤ t → arrivals trace t ≡ get_or trace (t - 1) 0
unfolding arrivals
arrivals_at trace zero p = absurd (omega arith)
arrivals_at trace (suc t) p = let e : suc t - 1 ≡ t = omega arith in rw e

module _ (table trace ins outs : List ℕ) (delay buffer : ℕ) where
  abbrev rule_of : ℕ → ℕ
  rule_of = rule_at table (delay_limit delay) (buffer_limit buffer) (arrivals trace) (held ins) (held outs)

  -- The rules of a slot, in their order.
  module _ (t : ℕ) where
    pub rule_one : is_over_arrivals (arrivals trace) (held ins) t ≡ true → 1 ≡ rule_of t
    unfolding rule_at ◌when◌ ◌or_else◌
    rule_one e = rw e

    module _ (one : is_over_arrivals (arrivals trace) (held ins) t ≡ false) where
      pub rule_two : is_over_admitted (held ins) (held outs) t ≡ true → 2 ≡ rule_of t
      unfolding rule_at ◌when◌ ◌or_else◌
      rule_two e = rw (one, e)

      module _ (two : is_over_admitted (held ins) (held outs) t ≡ false) where
        pub rule_three : is_over_envelope table (held outs) t ≡ true → 3 ≡ rule_of t
        unfolding rule_at ◌when◌ ◌or_else◌
        rule_three e = rw (one, two, e)

        module _ (three : is_over_envelope table (held outs) t ≡ false) where
          pub rule_four : is_over_buffer (buffer_limit buffer) (held ins) (held outs) t ≡ true → 4 ≡ rule_of t
          unfolding rule_at ◌when◌ ◌or_else◌
          rule_four e = rw (one, two, three, e)

          module _ (four : is_over_buffer (buffer_limit buffer) (held ins) (held outs) t ≡ false) where
            pub rule_five : is_over_delay (delay_limit delay) (held ins) (held outs) t ≡ true → 5 ≡ rule_of t
            unfolding rule_at ◌when◌ ◌or_else◌
            rule_five e = rw (one, two, three, four, e)

            pub rule_none : is_over_delay (delay_limit delay) (held ins) (held outs) t ≡ false → 0 ≡ rule_of t
            unfolding rule_at ◌when◌ ◌or_else◌
            rule_none e = rw (one, two, three, four, e)

  -- whether a rule is broken in slot t
  abbrev pub breaks : ℕ → Bool
  breaks t = ltb 0 (rule_of t)

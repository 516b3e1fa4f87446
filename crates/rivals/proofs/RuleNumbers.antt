-- The numbers of the rules, and of windows that may be none.
use Rattle.std.proofs.Common.{◌≡◌, ℕ, ◌≤◌, Option, Some, None, MatchOption, arith, refl, sym, ltb, lt-ltb}
use Rattle.std.specs.Option.{is_some, unwrap_or}
use Rattle.rivals.specs.Rules.{rule_number}
use Rattle.rivals.specs.declared.rules.Rule.{Rule}
use Rattle.rivals.specs.declared.rules.Rule.TheVariants.{Arrivals, Admitted, Envelope, Buffer, Delay}

-- None is 0, ..
pub rule_some : (r : Rule) → 1 ≤ rule_number r
rule_some Arrivals = omega arith
rule_some Admitted = omega arith
rule_some Envelope = omega arith
rule_some Buffer = omega arith
rule_some Delay = omega arith

-- .. and 3 is the envelope's alone.
pub rule_three : (r : Rule) → rule_number r ≡ 3 → r ≡ Envelope
rule_three Arrivals e = absurd (omega arith)
rule_three Admitted e = absurd (omega arith)
rule_three Envelope e = refl
rule_three Buffer e = absurd (omega arith)
rule_three Delay e = absurd (omega arith)

-- A number that is none where it is 0 is some where it is above.
pub some_told : (o : Option ℕ) (n : ℕ) → MatchOption o (n ≡ 0) (λ k. (k ≡ n) × (1 ≤ k)) → is_some o ≡ ltb 0 n
some_told None n e = rw e refl
some_told (Some k) n (e, some) = sym (lt-ltb 0 n (omega arith))

pub told_or : (o : Option ℕ) (n : ℕ) → MatchOption o (n ≡ 0) (λ k. (k ≡ n) × (1 ≤ k)) → unwrap_or o 0 ≡ n
told_or None n e = sym e
told_or (Some k) n (e, some) = e

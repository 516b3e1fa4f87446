-- A limit's number is the one that is given, unless that stands for none.
use mathlib.Core.Path.{◌≡◌, refl}
use Prim.Native.Nat.{ℕ}
use native.Mathlib.Decide.{ℕ_discrete}
use lib.Dec.{eqb}
use borrow.Author.Tests.{eq-eqb, ne_eqb}
use Rattle.calculus.proofs.Numbers.Distinct.{zero_one}
use Rattle.calculus.specs.Numbers.Limit.{none, at_most, limit_unless, delay_limit, buffer_limit}

limit_some : (mark d n : ℕ) → limit_unless (eqb d mark) d ≡ at_most n → (n ≡ d) × (d ≡ mark → ⊥)
unfolding limit_unless
limit_some mark d n e =
    elim (ℕ_discrete d mark) [
      | yes same ↦ let nothing : none ≡ at_most n = rw (eq-eqb d mark same) at e in absurd (zero_one cc)
      | no other ↦ let number : at_most d ≡ at_most n = rw (ne_eqb d mark other) at e in (cc, other)
    ]

pub delay_some : (d n : ℕ) → delay_limit d ≡ at_most n → (n ≡ d) × (d ≡ 255 → ⊥)
unfolding delay_limit
delay_some d n e = limit_some 255 d n e

pub buffer_some : (q n : ℕ) → buffer_limit q ≡ at_most n → (n ≡ q) × (q ≡ 4294967295 → ⊥)
unfolding buffer_limit
buffer_some q n e = limit_some 4294967295 q n e

pub some-delay : (d : ℕ) → (d ≡ 255 → ⊥) → delay_limit d ≡ at_most d
unfolding delay_limit limit_unless
some-delay d other = rw (ne_eqb d 255 other) refl

pub some-buffer : (q : ℕ) → (q ≡ 4294967295 → ⊥) → buffer_limit q ≡ at_most q
unfolding buffer_limit limit_unless
some-buffer q other = rw (ne_eqb q 4294967295 other) refl

-- A link's test passes exactly where the link holds.
use mathlib.Core.Path.{◌≡◌, refl, sym, ap}
use Prim.Native.Nat.{ℕ, zero, suc, ◌+◌, ◌-◌, ◌≤◌}
use native.Mathlib.Decide.{dec_le}
use native.Mathlib.Omega.{arith}
use lib.Dec.{T, ltb, leb, eqb→eq, eqb_refl, ltb→lt, lt→ltb, leb→le, le→leb}
use borrow.Author.Tests.{lt-ltb, le-ltb}
use Rattle.calculus.proofs.Numbers.Distinct.{zero_one}
use Rattle.calculus.specs.Numbers.Limit.{Limit, none, at_most, map_limit, limit_unless}
use Rattle.calculus.specs.Regulators.Clipper.{delay_bound, buffer_bound}
use Rattle.calculus.proofs.Numbers.Limit.{map_limit-from}
use Rattle.chain_calculus.specs.Chain.{amount}
use Rattle.chain_calculus.proofs.ChainChecker.{both, also, is_number-is, is-is_number}
use Rattle.chain_calculus.proofs.ChainLink.{mark_allowed}
use Rattle.certificate_calculus.specs.Certificate.{Usable, by_arrivals, by_delay, by_buffer, AdmittedLink, DepartedLink}
use Rattle.certificate_calculus.specs.LinkTests.{due_delay, admitted_holds, departed_holds}

-- The delay limit binds a slot exactly where its deadline lies in the trace.
pub due_within_lem : (d : Limit) (N t n : ℕ) → due_delay d N t ≡ at_most n → (d ≡ at_most n) × (t + n ≤ N)
unfolding due_delay limit_unless
due_within_lem none N t n e = absurd (zero_one cc)
due_within_lem (at_most m) N t n e =
    elim (dec_le (t + m) N) [
      | yes p ↦ let same : at_most m ≡ at_most n = rw (le-ltb N (t + m) p) at e in
          let number : m ≡ n = cc in
          (same, omega arith)
      | no p ↦ let nothing : none ≡ at_most n = rw (lt-ltb N (t + m) (omega arith)) at e in
          absurd (zero_one cc)
    ]

pub within_due : (d : Limit) (N t n : ℕ) → d ≡ at_most n → t + n ≤ N → due_delay d N t ≡ at_most n
unfolding due_delay limit_unless
within_due d N t n e p = rw (e, le-ltb N (t + n) p) refl

module _ (f : ℕ → ℕ) (d q : Limit) (a : ℕ → ℕ) (N : ℕ) where
  -- The amounts that the test uses are the usable ones.
  pub amount_usable : (mark s t v : ℕ) → amount f (due_delay d N t) q a mark s t ≡ at_most v → Usable f d q a N s t v mark
  unfolding amount delay_bound buffer_bound
  amount_usable zero s t v e = absurd (omega (arith, (mark_allowed f (due_delay d N t) q a 0 s t v e).0))
  amount_usable (suc zero) s t v e = by_arrivals cc
  amount_usable (suc (suc zero)) s t v e =
      let (n, from, same) = map_limit-from (λ n. f (t - s + n)) (due_delay d N t) v e in
      let (limit, due) = due_within_lem d N t n from in
      by_delay n limit due same
  amount_usable (suc (suc (suc zero))) s t v e =
      let (n, limit, same) = map_limit-from (λ n. f (t - s - 1) + n) q v e in
      by_buffer n limit same
  amount_usable (suc (suc (suc (suc m)))) s t v e =
      absurd (omega (arith, (mark_allowed f (due_delay d N t) q a (suc (suc (suc (suc m)))) s t v e).1))

  pub usable-amount : {mark : ℕ} (s t v : ℕ) → Usable f d q a N s t v mark → amount f (due_delay d N t) q a mark s t ≡ at_most v
  unfolding amount delay_bound buffer_bound map_limit
  usable-amount s t v (by_arrivals same) = ap at_most (sym same)
  usable-amount s t v (by_delay n limit due same) = rw (within_due d N t n limit due) (ap at_most (sym same))
  usable-amount s t v (by_buffer n limit same) = rw limit (ap at_most (sym same))

  module _ (u : ℕ → ℕ) where
    pub admitted_read : (t s mark : ℕ) → T (admitted_holds f d q a N u t s mark) → AdmittedLink f d q a N u t s mark
    unfolding admitted_holds
    admitted_read t s mark h =
        let (up, has) = both (ltb s t) _ h in
        let (v, e, same) = map_limit-from (λ n. u s + n) (amount f (due_delay d N t) q a mark s t) (u t) (is_number-is _ (u t) has) in
        record { earlier = ltb→lt s t up; packets = v; amounts = amount_usable mark s t v e; makes = same }

    pub admitted-made : (t s mark : ℕ) → AdmittedLink f d q a N u t s mark → T (admitted_holds f d q a N u t s mark)
    unfolding admitted_holds map_limit
    admitted-made t s mark link =
        also (ltb s t) _ (lt→ltb s t link.earlier)
        (is-is_number _ (u t) (rw (usable-amount s t link.packets link.amounts, link.makes) refl))

  -- Only the marks 1 to 3 have a usable amount.
  pub usable_marked : {mark : ℕ} (s t v : ℕ) → Usable f d q a N s t v mark → (1 ≤ mark) × (mark ≤ 3)
  usable_marked s t v (by_arrivals same) = (omega arith, omega arith)
  usable_marked s t v (by_delay n limit due same) = (omega arith, omega arith)
  usable_marked s t v (by_buffer n limit same) = (omega arith, omega arith)

module _ (f u v : ℕ → ℕ) (t r : ℕ) where
  pub departed_read : T (departed_holds f u v t r) → DepartedLink f u v t r
  unfolding departed_holds
  departed_read h =
      let (low, same) = both (leb r t) _ h in
      record { by = leb→le r t low; makes = sym (eqb→eq (u r + f (t - r)) (v t) same) }

  pub departed-made : DepartedLink f u v t r → T (departed_holds f u v t r)
  unfolding departed_holds
  departed-made link = also (leb r t) _ (le→leb r t link.by) (rw link.makes (eqb_refl (u r + f (t - r))))

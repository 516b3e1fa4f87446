-- A link in the words of request 2.8, mark by mark, is one whose amount is its mark's.
use mathlib.Core.Path.{◌≡◌, sym, ap}
use Prim.Native.Nat.{ℕ, zero, suc, ◌+◌, ◌-◌, ◌<◌}
use native.Mathlib.Omega.{arith}
use Rattle.calculus.specs.Numbers.Limit.{Limit, at_most, map_limit}
use Rattle.calculus.specs.Regulators.Clipper.{arrived, delay_bound, buffer_bound}
use Rattle.calculus.proofs.Numbers.Limit.{map_limit-from}
use Rattle.calculus.proofs.Regulators.Clipper.{arrived_rises}
use Rattle.chain_calculus.specs.Chain.{amount}
use Rattle.chain_calculus.specs.ChainWords.{LinkWords, arrivals_link, delay_link, buffer_link}
use Rattle.chain_calculus.proofs.ChainLink.{mark_allowed}

module _ (f : ℕ → ℕ) (d q : Limit) (a : ℕ → ℕ) where
  -- A link's amount is that of its mark, over any number of slots ..
  pub words-amount : {mark : ℕ} (s t v : ℕ) → LinkWords f d q a s t v mark → amount f d q a mark s t ≡ at_most v
  unfolding amount delay_bound buffer_bound map_limit
  words-amount s t v (arrivals_link same) = ap at_most (omega (arith, same))
  words-amount s t v (delay_link n limit same) = rw limit (ap at_most (sym same))
  words-amount s t v (buffer_link n limit same) = rw limit (ap at_most (sym same))

  -- .. and no other number marks a link.
  pub amount_words : (mark s t v : ℕ) → s < t → amount f d q a mark s t ≡ at_most v → LinkWords f d q a s t v mark
  unfolding amount delay_bound buffer_bound
  amount_words zero s t v up e = absurd (omega (arith, (mark_allowed f d q a 0 s t v e).0))
  amount_words (suc zero) s t v up e =
      let same : arrived a t - arrived a s ≡ v = cc in
      arrivals_link (omega (arith, arrived_rises a s t (omega arith)))
  amount_words (suc (suc zero)) s t v up e =
      let (n, limit, same) = map_limit-from (λ n. f (t - s + n)) d v e in
      delay_link n limit same
  amount_words (suc (suc (suc zero))) s t v up e =
      let (n, limit, same) = map_limit-from (λ n. f (t - s - 1) + n) q v e in
      buffer_link n limit same
  amount_words (suc (suc (suc (suc m)))) s t v up e = absurd (omega (arith, (mark_allowed f d q a (suc (suc (suc (suc m)))) s t v e).1))

-- The link found from a slot (document 02, request 2.8): some link is tight, so the earliest with the lowest mark is found, and its
-- amount makes up what is admitted over it.
use mathlib.Core.Path.{◌≡◌, refl}
use mathlib.Core.Logic.{inl, inr}
use Prim.Native.Nat.{ℕ, zero, suc, ◌+◌, ◌-◌, ◌≤◌, ◌<◌}
use native.Mathlib.Omega.{arith}
use lib.Dec.{T, leb, leb→le, le→leb}
use borrow.Author.Tests.{ne_eqb}
use Rattle.calculus.proofs.Numbers.Distinct.{zero_one}
use Rattle.calculus.specs.Numbers.Limit.{Limit, none, at_most, map_limit}
use Rattle.calculus.specs.Envelopes.Envelope.{windows}
use Rattle.calculus.specs.Regulators.Clipper.{arrived, delay_bound, buffer_bound, clipper_window, admitted}
use Rattle.chain_calculus.specs.Chain.{amount}
use Rattle.chain_calculus.specs.ChainFound.{number_of, tight, lowest_mark, link_first, link_mark, link_amount}
use Rattle.chain_calculus.specs.ChainDescribed.{Makes}
use Rattle.calculus.proofs.Numbers.Limit.{map_limit-from, smaller_attained}
use Rattle.calculus.proofs.Regulators.Clipper.{arrived-slot, clipped_attained}
use Rattle.calculus.proofs.Regulators.Regulator.{admitted_by-windows}
use Rattle.calculus.proofs.Numbers.FirstWhere.{first_where_below, first_where-holds}
use Rattle.chain_calculus.proofs.ChainChecker.{is_number-is, is-is_number}

number_of-is : (l : Limit) (v : ℕ) → l ≡ at_most v → number_of l ≡ v
unfolding number_of
number_of-is l v e = rw e refl

module _ (f : ℕ → ℕ) (d q : Limit) (a : ℕ → ℕ) where
  abbrev G : ℕ → ℕ → Limit
  G s t = clipper_window f d q (t - s)

  abbrev X : ℕ → ℕ
  X = admitted (windows f) d q a

  abbrev first : ℕ → ℕ
  first = link_first f d q a

  abbrev mark : ℕ → ℕ
  mark = link_mark f d q a

  -- A link is tight exactly where it has an amount, and that makes X at its last slot out of X at its first.
  tight_read : (m s t : ℕ) → T (tight f d q a m s t) → (v : ℕ) × (amount f d q a m s t ≡ at_most v) × (X t ≡ v + X s)
  unfolding tight
  tight_read m s t h = map_limit-from (λ n. n + X s) (amount f d q a m s t) (X t) (is_number-is (map_limit (λ n. n + X s) (amount f d q a m s t)) (X t) h)

  tight-made : (m s t v : ℕ) → amount f d q a m s t ≡ at_most v → X t ≡ v + X s → T (tight f d q a m s t)
  unfolding tight map_limit
  tight-made m s t v e same = is-is_number (map_limit (λ n. n + X s) (amount f d q a m s t)) (X t) (rw (e, same) refl)

  -- Some tight link ends in every slot: X(t+1) is X(t) + a(t+1), or some X(s) + g(t+1-s).
  tight_exists : (t : ℕ) → (s m : ℕ) × (s ≤ t) × (1 ≤ m) × (m ≤ 3) × T (tight f d q a m s (suc t))
  unfolding amount clipper_window
  tight_exists t =
      let now = admitted_by-windows f d q a (suc t) in
      elim (clipped_attained G a t) [
        | inl e ↦ let before = admitted_by-windows f d q a t in
            (t, 1, omega arith, omega arith, omega arith, tight-made 1 t (suc t) (arrived a (suc t) - arrived a t) refl (omega (arith, arrived-slot a t)))
        | inr (s, n, st, l, e) ↦ let before = admitted_by-windows f d q a s in
            elim (smaller_attained (delay_bound f d (suc t - s)) (buffer_bound f q (suc t - s)) n l) [
              | inl h ↦ (s, 2, st, omega arith, omega arith, tight-made 2 s (suc t) n h (omega arith))
              | inr h ↦ (s, 3, st, omega arith, omega arith, tight-made 3 s (suc t) n h (omega arith))
            ]
      ]

  -- No tight link between two slots has a lower mark, and none that ends in a slot starts earlier.
  pub mark-lowest : (m s t : ℕ) → 1 ≤ m → m ≤ 3 → T (tight f d q a m s t) → lowest_mark f d q a s t ≤ m
  unfolding lowest_mark
  mark-lowest m s t m1 m3 h = first_where_below 1 3 (λ m. tight f d q a m s t) m m1 m3 h

  pub link-earliest : (m s t : ℕ) → s ≤ t → 1 ≤ m → m ≤ 3 → T (tight f d q a m s (suc t)) → link_first f d q a (suc t) ≤ s
  unfolding link_first
  link-earliest m s t st m1 m3 h =
      first_where_below 0 t (λ s. leb (lowest_mark f d q a s (suc t)) 3) s (omega arith) st
      (le→leb (lowest_mark f d q a s (suc t)) 3 (omega (arith, mark-lowest m s (suc t) m1 m3 h)))

  -- Only the marks 1 to 3 have an amount.
  pub mark_allowed : (m s t v : ℕ) → amount f d q a m s t ≡ at_most v → (1 ≤ m) × (m ≤ 3)
  unfolding amount
  mark_allowed zero s t v e = absurd (zero_one cc)
  mark_allowed (suc zero) s t v e = (omega arith, omega arith)
  mark_allowed (suc (suc zero)) s t v e = (omega arith, omega arith)
  mark_allowed (suc (suc (suc zero))) s t v e = (omega arith, omega arith)
  mark_allowed (suc (suc (suc (suc m)))) s t v e =
      let nothing : none ≡ at_most v =
      rw (ne_eqb (suc (suc (suc (suc m)))) 1 (λ h. omega arith), ne_eqb (suc (suc (suc (suc m)))) 2 (λ h. omega arith), ne_eqb (suc (suc (suc (suc m)))) 3 (λ h. omega arith)) at e in
      absurd (zero_one cc)

  -- No link that ends in slot t starts earlier than the one found there, and none that starts where it does has a lower mark.
  pub first-least : (t : ℕ) → 1 ≤ t → (m s v : ℕ) → s < t → Makes f d q a m s t v → link_first f d q a t ≤ s
  first-least zero p m s v st makes = absurd (omega arith)
  first-least (suc t) p m s v st makes =
      let (m1, m3) = mark_allowed m s (suc t) v makes.marked in
      link-earliest m s t (omega arith) m1 m3 (tight-made m s (suc t) v makes.marked makes.made)

  pub mark-least : (t : ℕ) → 1 ≤ t → (m v : ℕ) → Makes f d q a m (link_first f d q a t) t v → link_mark f d q a t ≤ m
  unfolding link_mark
  mark-least zero p m v makes = absurd (omega arith)
  mark-least (suc t) p m v makes =
      let (m1, m3) = mark_allowed m (first (suc t)) (suc t) v makes.marked in
      mark-lowest m (first (suc t)) (suc t) m1 m3 (tight-made m (first (suc t)) (suc t) v makes.marked makes.made)

  -- The search ends within the slots and the marks, and what it ends at is tight.
  link-tight : (t : ℕ) → (first (suc t) ≤ t) × T (tight f d q a (mark (suc t)) (first (suc t)) (suc t))
  unfolding link_first link_mark lowest_mark
  link-tight t =
      let (s, m, st, m1, m3, h) = tight_exists t in
      let early : first (suc t) ≤ t = omega (arith, link-earliest m s t st m1 m3 h) in
      let found : lowest_mark f d q a (first (suc t)) (suc t) ≤ 3 =
      leb→le _ 3 (first_where-holds 0 t (λ s. leb (lowest_mark f d q a s (suc t)) 3) (omega arith) early).1 in
      (early, (first_where-holds 1 3 (λ m. tight f d q a m (first (suc t)) (suc t)) (omega arith) found).1)

  -- The link found from slot t starts before it, has the amount of its mark, and with X at its first slot that makes X at t.
  pub link_found : (t : ℕ) → 1 ≤ t → (link_first f d q a t < t) × (amount f d q a (link_mark f d q a t) (link_first f d q a t) t ≡ at_most (link_amount f d q a t))
      × (admitted (windows f) d q a t ≡ link_amount f d q a t + admitted (windows f) d q a (link_first f d q a t))
  unfolding link_amount
  link_found zero p = absurd (omega arith)
  link_found (suc t) p =
      let (early, h) = link-tight t in
      let (v, e, same) = tight_read (mark (suc t)) (first (suc t)) (suc t) h in
      let number : link_amount f d q a (suc t) ≡ v = number_of-is _ v e in
      (omega arith, rw number e, omega arith)

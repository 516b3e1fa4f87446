-- The search for links: where any link holds it ends at one, no link starts earlier, and none from the same slot has a lower mark.
use Prim.Native.Nat.{ℕ, ◌≤◌}
use native.Mathlib.Decide.{dec_le}
use native.Mathlib.Omega.{arith}
use lib.Dec.{leb, leb→le, le→leb}
use borrow.Author.Tests.{le-leb, lt-leb}
use Rattle.calculus.specs.Numbers.Limit.{Limit}
use Rattle.calculus.proofs.Numbers.FirstWhere.{first_where_below, first_where-holds}
use Rattle.certificate_calculus.specs.Certificate.{AdmittedLink, DepartedLink}
use Rattle.certificate_calculus.specs.LinkTests.{admitted_holds, departed_holds}
use Rattle.certificate_calculus.specs.FoundLinks.{lowest_by, earliest_from, found_from, found_mark, AdmittedFound, admitted_first, admitted_none, earliest_departed, found_departed, DepartedFound, departed_first, departed_none}
use Rattle.certificate_calculus.proofs.LinkTests.{admitted_read, admitted-made, usable_marked, departed_read, departed-made}

module _ (f : ℕ → ℕ) (d q : Limit) (a : ℕ → ℕ) (T : ℕ) (u : ℕ → ℕ) (t : ℕ) where
  abbrev Link : ℕ → ℕ → Type 0
  Link s m = AdmittedLink f d q a T u t s m

  abbrev lowest : ℕ → ℕ
  lowest = lowest_by f d q a T u t

  abbrev earliest : ℕ
  earliest = earliest_from f d q a T u t

  lowest_below : (s m : ℕ) → Link s m → (lowest s ≤ m) × (m ≤ 3)
  unfolding lowest_by
  lowest_below s m link =
      let (low, high) = usable_marked f d q a T s t link.packets link.amounts in
      (first_where_below 1 3 (λ m. admitted_holds f d q a T u t s m) m low high (admitted-made f d q a T u t s m link), high)

  earliest_below : (s m : ℕ) → Link s m → earliest ≤ s
  unfolding earliest_from
  earliest_below s m link =
      first_where_below 0 t (λ s. leb (lowest s) 3) s (omega arith) (omega (arith, link.earlier)) (le→leb (lowest s) 3 (omega (arith, lowest_below s m link)))

  earliest-link : earliest ≤ t → Link earliest (lowest earliest)
  unfolding earliest_from lowest_by
  earliest-link p =
      let marked : lowest earliest ≤ 3 = leb→le _ 3 (first_where-holds 0 t (λ s. leb (lowest s) 3) (omega arith) p).1 in
      admitted_read f d q a T u t earliest _ (first_where-holds 1 3 (λ m. admitted_holds f d q a T u t earliest m) (omega arith) marked).1

  -- What the search comes to.
  pub search-admitted : AdmittedFound f d q a T u t (found_from f d q a T u t) (found_mark f d q a T u t)
  unfolding found_from found_mark
  search-admitted =
      elim (dec_le earliest t) [
        | yes p ↦ rw (le-leb earliest t p) (admitted_first (record { link = earliest-link p; earliest = earliest_below; lowest = λ m link. (lowest_below earliest m link).0 }))
        | no p ↦ rw (lt-leb earliest t (omega arith)) (admitted_none (λ s m link. omega (arith, earliest_below s m link, link.earlier)))
      ]

  -- Where any link holds, the found one does.
  pub found-holds : (s m : ℕ) → AdmittedLink f d q a T u t s m → AdmittedLink f d q a T u t (found_from f d q a T u t) (found_mark f d q a T u t)
  found-holds s m link = by search-admitted
    where
      by : {r k : ℕ} → AdmittedFound f d q a T u t r k → Link r k
      by (admitted_first one) = one.link
      by (admitted_none fails) = absurd (fails s m link)

-- The same of departed links.
module _ (f u v : ℕ → ℕ) (t : ℕ) where
  abbrev smallest : ℕ
  smallest = earliest_departed f u v t

  smallest_below : (r : ℕ) → DepartedLink f u v t r → smallest ≤ r
  unfolding earliest_departed
  smallest_below r link = first_where_below 0 t (λ r. departed_holds f u v t r) r (omega arith) link.by (departed-made f u v t r link)

  smallest-link : smallest ≤ t → DepartedLink f u v t smallest
  unfolding earliest_departed
  smallest-link p = departed_read f u v t smallest (first_where-holds 0 t (λ r. departed_holds f u v t r) (omega arith) p).1

  pub search-departed : DepartedFound f u v t (found_departed f u v t)
  unfolding found_departed
  search-departed =
      elim (dec_le smallest t) [
        | yes p ↦ rw (le-leb smallest t p) (departed_first (record { link = smallest-link p; earliest = smallest_below }))
        | no p ↦ rw (lt-leb smallest t (omega arith)) (departed_none (λ r link. omega (arith, smallest_below r link, link.by)))
      ]

  pub found-departs : (r : ℕ) → DepartedLink f u v t r → DepartedLink f u v t (found_departed f u v t)
  found-departs r link = by search-departed
    where
      by : {k : ℕ} → DepartedFound f u v t k → DepartedLink f u v t k
      by (departed_first one) = one.link
      by (departed_none fails) = absurd (fails r link)

-- What the tests of one number against its bounds give.
use Rattle.std.proofs.Common.{◌≡◌, ◌≢◌, ◌⊎◌, inl, inr, ℕ, suc, ◌≤◌, ◌<◌, ltb, leb, eqb}
use borrow.Author.Tests.{lt-ltb, le-ltb, le-leb, lt-leb, eq-eqb, ne_eqb}
use Rattle.orders.specs.Refusal.{pick, ◌when◌, ◌or_else◌}
use Rattle.refusals.specs.Limits.{both_refusal}

module _ (number x most none : ℕ) where
  -- A limit up to its most, or none, is accepted.
  pub limit_accepted : (x ≤ most) ⊎ ((most < x) × (x ≡ none)) → 0 ≡ pick (leb x most) 0 (pick (eqb x none) 0 number)
  unfolding pick
  limit_accepted (inl low) = rw (le-leb x most low)
  limit_accepted (inr (high, marked)) = rw (lt-leb x most high, eq-eqb x none marked)

  pub limit_refused : (most < x) × (x ≢ none) → number ≡ pick (leb x most) 0 (pick (eqb x none) 0 number)
  unfolding pick
  limit_refused (high, other) = rw (lt-leb x most high, ne_eqb x none other)

module _ (n x low high : ℕ) where
  -- A number outside its bounds is refused.
  pub outside : (x < low) ⊎ ((low ≤ x) × (high < x)) → suc n ≡ suc n when ltb x low or_else suc n when ltb high x
  unfolding ◌when◌ ◌or_else◌
  outside (inl below) = rw (lt-ltb x low below)
  outside (inr (from, above)) = rw (le-ltb x low from, lt-ltb high x above)

  pub inside : (low ≤ x) × (x ≤ high) → 0 ≡ suc n when ltb x low or_else suc n when ltb high x
  unfolding ◌when◌ ◌or_else◌
  inside (from, to) = rw (le-ltb x low from, le-ltb high x to)

-- Where one of the limits is given, they are accepted.
pub not_both : (d q : ℕ) → ((d ≡ 255) × (q ≢ 4294967295)) ⊎ (d ≢ 255) → 0 ≡ both_refusal d q
unfolding both_refusal ◌when◌
not_both d q (inl (marked, given)) = rw (eq-eqb d 255 marked, ne_eqb q 4294967295 given)
not_both d q (inr given) = rw (ne_eqb d 255 given)

-- Placing a burst gives its slot its count and leaves every other slot as it is.
use mathlib.Core.Path.{◌≡◌, refl, sym, ap, ◌∙◌}
use mathlib.Core.List.{List, ◌∷◌}
use Prim.Native.Nat.{ℕ, zero, suc, ◌+◌, ◌-◌, ◌≤◌, ◌<◌}
use native.Mathlib.Omega.{arith}
use native.Mathlib.Decide.{ℕ_discrete}
use lib.ListN.{length, get_or, drop, set, replicate, length-set, length-replicate, drop_of_length-le}
use lib.Seq.{drop-cons, ext_get_or, get_or-set_same, get_or-set_other, set_out}
use borrow.Author.Tests.{eq-eqb, ne_eqb}
use Rattle.calculus.specs.Numbers.Lists.{list_of}
use Rattle.calculus.proofs.Numbers.Lists.{length-list_of, list_of_at, list_of_cong, all-zero}
use Rattle.orders.specs.Refusal.{pick}
use Rattle.stream.specs.Format.{number_at, last, slots, bursts, burst_slots, burst_counts, arrived_in, file_trace}
use Rattle.stream.specs.PlacedBurst.{placed, arrived_from}
use Rattle.stream.proofs.Bursts.{length-slots, length_counts, slot_at, count_at}

module _ (slot count : ℕ) (later counts : List ℕ) where
  -- The slot that the first burst names has its count.
  pub arrived_named : arrived_in (slot ∷ later) (count ∷ counts) slot ≡ count
  unfolding arrived_in pick
  arrived_named = rw (eq-eqb slot slot refl)

  -- Every other slot is left to the bursts after it.
  pub arrived_other : (t : ℕ) → (slot ≡ t → ⊥) → arrived_in (slot ∷ later) (count ∷ counts) t ≡ arrived_in later counts t
  unfolding arrived_in pick
  arrived_other t p = rw (ne_eqb slot t p)

-- Slot 0 has no place, and none has a slot past the end.
pub placed_none : (slot count : ℕ) (list : List ℕ) → slot ≡ 0 → list ≡ placed slot count list
unfolding placed
placed_none slot count list e = rw e

pub placed_past : (slot count : ℕ) (list : List ℕ) → (slot ≡ 0 → ⊥) → length list ≤ slot - 1 → list ≡ placed slot count list
unfolding placed
placed_past zero count list p q = absurd (p refl)
placed_past (suc t) count list p q = sym (set_out list t count (omega arith))

pub placed_there : (slot count : ℕ) (list : List ℕ) → (slot ≡ 0 → ⊥) → set list (slot - 1) count ≡ placed slot count list
unfolding placed
placed_there zero count list p = absurd (p refl)
placed_there (suc t) count list p = let back : suc t - 1 ≡ t = omega arith in rw back

-- A burst that is placed comes before those that were placed.
burst-placed : (slot count : ℕ) (later counts : List ℕ) (n : ℕ)
    → placed slot count (list_of (λ t. arrived_in later counts (suc t)) n) ≡ list_of (λ t. arrived_in (slot ∷ later) (count ∷ counts) (suc t)) n
unfolding placed
burst-placed zero count later counts n =
    list_of_cong _ _ n (λ t p. sym (arrived_other zero count later counts (suc t) (λ e. omega arith)))
burst-placed (suc s) count later counts n =
    let before : ℕ → ℕ = λ t. arrived_in later counts (suc t) in
    let after : ℕ → ℕ = λ t. arrived_in (suc s ∷ later) (count ∷ counts) (suc t) in
    let long = length-list_of before n in
    let set_long = length-set (list_of before n) s count in
    ext_get_or 0 (set (list_of before n) s count) (list_of after n) (set_long ∙ long ∙ sym (length-list_of after n)) (λ t p.
    let inside : t < n = omega arith in
    elim (ℕ_discrete t s) [
      | yes e ↦ rw e (get_or-set_same (list_of before n) s count 0 (omega arith) ∙ sym (list_of_at after n s (omega arith) ∙ arrived_named (suc s) count later counts))
      | no e ↦ get_or-set_other (list_of before n) s t count 0 e ∙ list_of_at before n t inside
          ∙ sym (list_of_at after n t inside ∙ arrived_other (suc s) count later counts (suc t) (λ same. e (omega arith)))
    ])

zeros : (n : ℕ) → replicate n 0 ≡ list_of (λ t. 0) n
zeros n =
    ext_get_or 0 (replicate n 0) (list_of (λ t. 0) n) (length-replicate {A = ℕ} n 0 ∙ sym (length-list_of (λ t. 0) n)) (λ t p.
    all-zero n t ∙ sym (list_of_at (λ t. 0) n t (omega (arith, length-replicate {A = ℕ} n 0))))

-- Past the last burst no slot is named.
pub cleared : (file list : List ℕ) (n k : ℕ) → list ≡ replicate n 0 → bursts file ≤ k → list ≡ arrived_from file k (length list)
unfolding arrived_from arrived_in
cleared file list n k e p =
    rw (drop_of_length-le (burst_slots file) {i = k} (omega (arith, length-slots file)))
    (e ∙ zeros n ∙ ap (list_of (λ t. 0)) (sym (ap length e ∙ length-replicate {A = ℕ} n 0)))

module _ (file : List ℕ) (n : ℕ) where
  -- Burst k is placed before those after it.
  pub arrived_next : (k slot count : ℕ) → 0 < k → k ≤ bursts file → slot ≡ number_at file (6 + last file + (k - 1))
      → count ≡ number_at file (6 + last file + bursts file + (k - 1)) → placed slot count (arrived_from file k n) ≡ arrived_from file (k - 1) n
  unfolding arrived_from
  arrived_next zero slot count p q r s = absurd (omega arith)
  arrived_next (suc k) slot count p q r s =
      let back : suc k - 1 ≡ k = omega arith in
      let first : get_or (burst_slots file) k 0 ≡ slot = slot_at file k (omega arith) ∙ sym (rw back at r) in
      let second : get_or (burst_counts file) k 0 ≡ count = count_at file k (omega arith) ∙ sym (rw back at s) in
      rw (back, drop-cons (burst_slots file) k 0 (omega (arith, length-slots file)), drop-cons (burst_counts file) k 0 (omega (arith, length_counts file)), first, second)
      (burst-placed slot count (drop (suc k) (burst_slots file)) (drop (suc k) (burst_counts file)) n)

  -- With all bursts placed the list is the trace.
  pub arrived_all : n ≡ slots file → arrived_from file 0 n ≡ file_trace file
  unfolding arrived_from file_trace
  arrived_all e = rw e

-- The trace of an accepted file is exactly what its bursts say: each named slot has its burst's count, and any other has 0.
use mathlib.Core.Path.{◌≡◌, refl, sym, ap, ◌∙◌}
use mathlib.Core.Bool.{Bool, true, false, ◌||◌}
use mathlib.Core.List.{List, [], ◌∷◌}
use Prim.Native.Nat.{ℕ, zero, suc, ◌+◌, ◌≤◌, ◌<◌}
use native.Mathlib.Omega.{arith}
use lib.ListN.{length, get_or}
use lib.Dec.{ltb, leb, eqb}
use borrow.Author.Tests.{ltb-false, leb-false}
use Rattle.calculus.proofs.Numbers.Distinct.{zero_one}
use Rattle.calculus.proofs.Numbers.Lists.{list_of_at}
use Rattle.orders.specs.Refusal.{◌when◌}
use Rattle.orders.proofs.Refusals.{or_else_none, when_none}
use Rattle.stream.specs.Format.{number_at, last, slots, bursts, burst_slots, burst_counts, arrived_in, file_trace}
use Rattle.stream.specs.Refusals.{bursts_refusal, file_refusal}
use Rattle.stream.proofs.FileJudged.{AcceptedFile, file-accepted}
use Rattle.stream.proofs.Bursts.{length-slots, length_counts, slot_at, count_at}
use Rattle.stream.proofs.PlacedBurst.{arrived_named, arrived_other}

neither : (p q : Bool) → (p || q) ≡ false → (p ≡ false) × (q ≡ false)
neither true q e = absurd (zero_one cc)
neither false q e = (refl, e)

-- A slot that gets no number is above the one before and at most T, and leaves the judgment to those after it.
slot_fine : (most before slot : ℕ) (later : List ℕ) → bursts_refusal most before (slot ∷ later) ≡ 0
    → (before < slot) × (slot ≤ most) × (bursts_refusal most slot later ≡ 0)
unfolding bursts_refusal
slot_fine most before slot later e =
    let (here, rest) = or_else_none (14 when (eqb slot 0 || ltb most slot || leb slot before)) _ e in
    let (low, above) = neither (eqb slot 0 || ltb most slot) (leb slot before) (when_none 13 _ here) in
    (leb-false slot before above, ltb-false most slot (neither (eqb slot 0) (ltb most slot) low).1, rest)

-- So every slot is above the one before the first, and at most T.
slots_between : (most before : ℕ) (named : List ℕ) → bursts_refusal most before named ≡ 0 → (k : ℕ) → k < length named → (before < get_or named k 0) × (get_or named k 0 ≤ most)
slots_between most before [] e k p = absurd (omega arith)
slots_between most before (slot ∷ later) e zero p = let (rises, high, rest) = slot_fine most before slot later e in (rises, high)
slots_between most before (slot ∷ later) e (suc k) p =
    let (rises, high, rest) = slot_fine most before slot later e in
    let (above, highest) = slots_between most slot later rest k (omega arith) in
    (omega arith, highest)

-- The burst that names a slot is the only one, so the slot has its count.
arrived_at : (most before : ℕ) (named counts : List ℕ) → bursts_refusal most before named ≡ 0 → length counts ≡ length named
    → (k : ℕ) → k < length named → arrived_in named counts (get_or named k 0) ≡ get_or counts k 0
arrived_at most before [] counts e long k p = absurd (omega arith)
arrived_at most before (slot ∷ later) [] e long k p = absurd (omega arith)
arrived_at most before (slot ∷ later) (count ∷ counts) e long zero p = arrived_named slot count later counts
arrived_at most before (slot ∷ later) (count ∷ counts) e long (suc k) p =
    let (rises, high, rest) = slot_fine most before slot later e in
    let above = (slots_between most slot later rest k (omega arith)).0 in
    arrived_other slot count later counts (get_or later k 0) (λ same. omega arith)
    ∙ arrived_at most slot later counts rest (omega arith) k (omega arith)

-- A slot not named has 0 arrivals.
arrived_none : (named counts : List ℕ) (t : ℕ) → ((k : ℕ) → k < length named → get_or named k 0 ≡ t → ⊥) → arrived_in named counts t ≡ 0
unfolding arrived_in
arrived_none [] counts t unnamed = refl
arrived_none (slot ∷ later) [] t unnamed = refl
arrived_none (slot ∷ later) (count ∷ counts) t unnamed =
    arrived_other slot count later counts t (unnamed 0 (omega arith))
    ∙ arrived_none later counts t (λ k p. unnamed (suc k) (omega arith))

module _ (file : List ℕ) (accepted : file_refusal file ≡ 0) where
  ok : AcceptedFile file
  ok = file-accepted file accepted

  -- Burst k's slot, slot t + 1, has burst k's count.
  pub named-slot : (k t : ℕ) → k < bursts file → number_at file (6 + last file + k) ≡ suc t
      → get_or (file_trace file) t 0 ≡ number_at file (6 + last file + bursts file + k)
  unfolding file_trace
  named-slot k t p e =
      let inside : k < length (burst_slots file) = omega (arith, length-slots file) in
      let slot : get_or (burst_slots file) k 0 ≡ suc t = slot_at file k p ∙ e in
      let few = (slots_between (slots file) 0 (burst_slots file) ok.ordered k inside).1 in
      list_of_at (λ t. arrived_in (burst_slots file) (burst_counts file) (suc t)) (slots file) t (omega arith)
      ∙ ap (arrived_in (burst_slots file) (burst_counts file)) (sym slot)
      ∙ arrived_at (slots file) 0 (burst_slots file) (burst_counts file) ok.ordered (length_counts file ∙ sym (length-slots file)) k inside
      ∙ count_at file k p

  -- Slot t + 1 has no arrivals where no burst names it.
  pub slot_not_named : (t : ℕ) → t < slots file → ((k : ℕ) → k < bursts file → number_at file (6 + last file + k) ≡ suc t → ⊥) → get_or (file_trace file) t 0 ≡ 0
  unfolding file_trace
  slot_not_named t p unnamed =
      list_of_at (λ t. arrived_in (burst_slots file) (burst_counts file) (suc t)) (slots file) t p
      ∙ arrived_none (burst_slots file) (burst_counts file) (suc t) (λ k q e. unnamed k (omega (arith, length-slots file)) (sym (slot_at file k (omega (arith, length-slots file))) ∙ e))

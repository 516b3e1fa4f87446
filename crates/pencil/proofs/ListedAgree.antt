-- Request 2.14: so on each listed one.
use mathlib.Core.Path.{◌≡◌, refl, sym, ◌∙◌}
use mathlib.Core.List.{List, [], ◌∷◌}
use Prim.Native.Nat.{ℕ, ◌^◌, ◌≤◌, ◌<◌}
use native.Mathlib.Omega.{arith}
use lib.ListN.{length}
use borrow.Author.Tests.{le-ltb}
use Rattle.pencil_calculus.specs.Traces.{Short, more, listed_trace, EveryTrace, all_traces}
use Rattle.calculus.proofs.Numbers.Lists.{length-list_of}
use Rattle.pencil_calculus.proofs.Traces.{every-trace}
use Rattle.orders.specs.Refusal.{◌when◌, ◌or_else◌}
use Rattle.orders.specs.Answered.{verdict_of, unless_refused}
use Rattle.orders.specs.Verdict.{Verdict, Accepted}
use Rattle.refusals.specs.Limits.{arrivals_refusal, set_up_refusal}
use Rattle.refusals.specs.Lengths.{counts_refusal}
use Rattle.orders.proofs.Answered.{accepted_none, refused_list}
use Rattle.refusals.proofs.Measured.{same_list, most_short}
use Rattle.pencil.specs.PencilRun.{pencil_refusal, PencilRan}
use Rattle.pencil.specs.Listing.{listing_refusal, Listed}
use Rattle.pencil.proofs.FilledListing.{listing-accepted}
use Rattle.pencil.specs.Agreed.{Agreed}
use Rattle.pencil.proofs.PencilAgrees.{or_else_both, pencil_agrees}

-- Counts of 0 to 3 get no 8.
short_counts : (trace : List ℕ) → Short trace → counts_refusal trace ≡ 0
unfolding counts_refusal arrivals_refusal ◌when◌ ◌or_else◌
short_counts [] short = refl
short_counts (n ∷ trace) (more few short) = rw (le-ltb 1000000 n (omega arith)) (short_counts trace short)

listed_long : (T : ℕ) (list : List ℕ) (k : ℕ) → length (listed_trace T list k) ≡ T
unfolding listed_trace
listed_long T list k = length-list_of _ T

-- A set-up, a short trace and lists of its length that get no number are taken.
pencil-taken : (table : List ℕ) (d q : ℕ) (trace : List ℕ) (a b c : ℕ) → set_up_refusal table d q ≡ 0 → length trace ≤ 5 → a ≡ length trace → b ≡ length trace → c ≡ length trace
    → counts_refusal trace ≡ 0 → pencil_refusal table d q trace a b c ≡ 0
unfolding pencil_refusal
pencil-taken table d q trace a b c set short e1 e2 e3 counts =
    let T = length trace in
    or_else_both _ _ set (or_else_both _ _ (most_short T short)
    (or_else_both _ _ (or_else_both _ _ (same_list T a e1) (or_else_both _ _ (same_list T b e2) (same_list T c e3))) counts))

-- A number other than 0 leaves the lent list as it was.
pub listing_left : (slots : ℕ) (list : List ℕ) (verdict : Verdict) (list' : List ℕ) → Listed slots list verdict list' → (listing_refusal slots (length list) ≡ 0 → ⊥) → list' ≡ list
listing_left slots list verdict list' listed some = listed.filled ∙ sym (refused_list _ _ some refl _ list)

module _ (slots : ℕ) (list list' : List ℕ) (listed : Listed slots list Accepted list') where
  taken : listing_refusal slots (length list) ≡ 0
  taken = accepted_none _ listed.answered

  -- The list that is left holds every trace, a single time each, in order.
  pub listed_every : EveryTrace slots list'
  unfolding unless_refused
  listed_every =
      let whole : list' ≡ all_traces slots = rw taken at listed.filled in
      rw whole (every-trace slots)

  -- For every accepted set-up the pencil takes each of them, lent lists as long as the trace, and its lists are the run's and the live regulator's.
  pub listed_agree : (table : List ℕ) (d q : ℕ) → set_up_refusal table d q ≡ 0 → (k : ℕ) → k < 4 ^ slots
      → (ins drops outs ins' drops' outs' : List ℕ) (verdict : Verdict) → length ins ≡ slots → length drops ≡ slots → length outs ≡ slots
      → PencilRan table d q (listed_trace slots list' k) ins drops outs verdict ins' drops' outs'
      → (verdict ≡ Accepted) × Agreed table d q (listed_trace slots list' k) ins' drops' outs'
  unfolding verdict_of
  listed_agree table d q set k inside ins drops outs ins' drops' outs' verdict l1 l2 l3 ran =
      let trace = listed_trace slots list' k in
      let long : length trace ≡ slots = listed_long slots list' k in
      let short : length trace ≤ 5 = omega (arith, (listing-accepted slots (length list) taken).0) in
      let fine : pencil_refusal table d q trace (length ins) (length drops) (length outs) ≡ 0 =
      pencil-taken table d q trace (length ins) (length drops) (length outs) set short (l1 ∙ sym long) (l2 ∙ sym long) (l3 ∙ sym long) (short_counts trace (listed_every.short k inside)) in
      let yes_verdict : verdict ≡ Accepted = rw fine at ran.answered in
      (yes_verdict, pencil_agrees table d q trace ins drops outs ins' drops' outs' (rw yes_verdict at ran))

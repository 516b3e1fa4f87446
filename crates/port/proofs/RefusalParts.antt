-- Laws of judging a port's run: its deadlines, and what a run without a number is known to have.
use mathlib.Core.Path.{◌≡◌, refl, sym}
use mathlib.Core.Bool.{true, false}
use mathlib.Core.List.{List, [], ◌∷◌}
use Prim.Native.Nat.{ℕ, zero, suc, ◌*◌, ◌≤◌, ◌<◌}
use native.Mathlib.Decide.{dec_lt}
use native.Mathlib.Omega.{arith}
use lib.Dec.{ltb}
use lib.ListN.{length, get_or}
use borrow.Author.Tests.{lt-ltb, le-ltb, ltb-false}
use Rattle.calculus.proofs.Numbers.Distinct.{zero_one}
use Rattle.orders.specs.Refusal.{◌when◌, ◌or_else◌}
use Rattle.orders.proofs.Refusals.{or_else-first, or_else_none, when_none}
use Rattle.refusals.specs.Lengths.{lists_refusal, counts_refusal}
use Rattle.refusals.proofs.Measured.{list_same, same_list}
use Rattle.refusals.proofs.TraceCounts.{counts_few}
use Rattle.port.specs.Refusals.{streams_refusal, deadlines_refusal, port_refusal}
use Rattle.port.specs.Accepted.{Accepted}

-- Deadlines that get no number are at most 64.
deadlines_timely : (deadlines : List ℕ) → deadlines_refusal deadlines ≡ 0 → (i : ℕ) → get_or deadlines i 0 ≤ 64
unfolding deadlines_refusal
deadlines_timely [] e = λ i. omega arith
deadlines_timely (d ∷ later) e =
    let (here, rest) = or_else_none (22 when ltb 64 d) _ e in
    elim [ zero ↦ ltb-false 64 d (when_none 21 (ltb 64 d) here) | suc i ↦ deadlines_timely later rest i ]

-- And deadlines of at most 64 get none.
pub timely_deadlines : (deadlines : List ℕ) → ((i : ℕ) → i < length deadlines → get_or deadlines i 0 ≤ 64) → deadlines_refusal deadlines ≡ 0
unfolding deadlines_refusal ◌when◌ ◌or_else◌
timely_deadlines [] p = refl
timely_deadlines (d ∷ later) p = rw (le-ltb 64 d (p 0 (omega arith))) (timely_deadlines later (λ i q. p (suc i) (omega arith)))

-- A deadline above 64 gets 22.
deadlines_number : (deadlines : List ℕ) → (deadlines_refusal deadlines ≡ 0 → ⊥) → 22 ≡ deadlines_refusal deadlines
unfolding deadlines_refusal ◌when◌ ◌or_else◌
deadlines_number [] some = absurd (some refl)
deadlines_number (d ∷ later) some =
    elim (dec_lt 64 d) [
      | yes p ↦ rw (lt-ltb 64 d p)
      | no p ↦ let fine : d ≤ 64 = omega arith in rw (le-ltb 64 d fine) (deadlines_number later (rw (le-ltb 64 d fine) at some))
    ]

pub late_deadlines : (deadlines : List ℕ) → (((i : ℕ) → i < length deadlines → get_or deadlines i 0 ≤ 64) → false ≡ true) → 22 ≡ deadlines_refusal deadlines
late_deadlines deadlines late = deadlines_number deadlines (λ e. let no = late (λ i p. deadlines_timely deadlines e i) in absurd (zero_one cc))

-- Streams and slots that get no number are 1 to 8 and at most 256.
pub streams-accepted : (streams slots : ℕ) → streams_refusal streams slots ≡ 0 → (1 ≤ streams) × (streams ≤ 8) × (slots ≤ 256)
unfolding streams_refusal
streams-accepted streams slots e =
    let (low, rest) = or_else_none (21 when ltb streams 1) _ e in
    let (high, long) = or_else_none (21 when ltb 8 streams) _ rest in
    (ltb-false streams 1 (when_none 20 (ltb streams 1) low), ltb-false 8 streams (when_none 20 (ltb 8 streams) high), ltb-false 256 slots (when_none 20 (ltb 256 slots) long))

module _ (deadlines : List ℕ) (slots : ℕ) (input : List ℕ) (sent late : ℕ) where
  abbrev lists : ℕ
  lists = lists_refusal (length deadlines * slots) (length input) or_else lists_refusal (length deadlines * slots) sent or_else lists_refusal (length deadlines) late

  pub port-accepted : port_refusal deadlines slots input sent late ≡ 0 → Accepted deadlines slots input sent late
  unfolding port_refusal
  port-accepted e =
      let (number, others) = or_else_none (streams_refusal (length deadlines) slots) _ e in
      let (timely, later) = or_else_none (deadlines_refusal deadlines) _ others in
      let (long, counts) = or_else_none lists _ later in
      let (first, rest) = or_else_none (lists_refusal (length deadlines * slots) (length input)) _ long in
      let (second, third) = or_else_none (lists_refusal (length deadlines * slots) sent) _ rest in
      let (some, few, short) = streams-accepted (length deadlines) slots number in
      record {
        some = some;
        few = few;
        short = short;
        timely = deadlines_timely deadlines timely;
        long_input = list_same (length deadlines * slots) (length input) first;
        long_sent = list_same (length deadlines * slots) sent second;
        long_late = list_same (length deadlines) late third;
        small = counts_few input counts;
      }

  -- And a run that has all of this gets no number.
  pub port_fine : 1 ≤ length deadlines → length deadlines ≤ 8 → slots ≤ 256 → ((i : ℕ) → i < length deadlines → get_or deadlines i 0 ≤ 64)
      → length input ≡ length deadlines * slots → sent ≡ length deadlines * slots → late ≡ length deadlines → counts_refusal input ≡ 0
      → port_refusal deadlines slots input sent late ≡ 0
  unfolding port_refusal streams_refusal ◌when◌ ◌or_else◌
  port_fine some few short timely long_input long_sent long_late counts =
      rw (
        le-ltb (length deadlines) 1 some,
        le-ltb 8 (length deadlines) few,
        le-ltb 256 slots short,
        timely_deadlines deadlines timely,
        same_list (length deadlines * slots) (length input) long_input,
        same_list (length deadlines * slots) sent long_sent,
        same_list (length deadlines) late long_late,
      )
      counts

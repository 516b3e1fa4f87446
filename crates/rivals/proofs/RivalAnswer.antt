-- What is answered of anyone's rows, refused or judged.
use mathlib.Core.Path.{◌≡◌, refl, sym, ap, ◌∙◌}
use mathlib.Core.List.{List}
use Prim.Native.Nat.{ℕ, zero, suc, ◌≤◌}
use native.Mathlib.Omega.{arith}
use lib.ListN.{length, get_or}
use borrow.Author.Tests.{eq-eqb, ne_eqb}
use Rattle.calculus.specs.Numbers.Limit.{Limit, delay_limit, buffer_limit}
use Rattle.calculus.specs.Regulators.Trace.{arrivals, sum_to}
use Rattle.orders.specs.Refusal.{pick, ◌or_else◌}
use Rattle.orders.proofs.Refusals.{or_else_none}
use Rattle.refusals.specs.Limits.{set_up_refusal}
use Rattle.refusals.specs.Lengths.{length_refusal, lists_refusal}
use Rattle.refusals.proofs.Measured.{list_same, length_most}
use Rattle.refusals.proofs.AcceptedSettings.{set_up-accepted}
use Rattle.refusals.proofs.TraceCounts.{counts_few}
use Rattle.rivals.specs.declared.judge.Judgement.{Judgement}
use Rattle.rival_calculus.specs.Broken.{rule_at, broken_window, broken_slot}
use Rattle.rivals.specs.Tallied.{Tallied}
use Rattle.rivals.specs.Judgement.{rival_refusal, broken_at, judgement_by, judgement_of}
use Rattle.rival_calculus.proofs.FirstUpTo.{first_within}
use Rattle.rivals.proofs.TriedRules.{held}
use Rattle.rivals.proofs.SameRules.{slot_cong, broken_cong}

-- what rows that get no number are known to have
pub record AcceptedRival (table : List ℕ) (d q : ℕ) (trace : List ℕ) (ins outs : ℕ) : Type 0 where
  pub set_up : set_up_refusal table d q ≡ 0
  pub small : length table ≤ 65
  pub short : length trace ≤ 4096
  pub long_ins : ins ≡ length trace
  pub long_outs : outs ≡ length trace
  pub few : (k : ℕ) → get_or trace k 0 ≤ 1000000

pub rival-accepted : (table : List ℕ) (d q : ℕ) (trace : List ℕ) (ins outs : ℕ) → rival_refusal table d q trace ins outs ≡ 0
    → AcceptedRival table d q trace ins outs
unfolding rival_refusal
rival-accepted table d q trace ins outs e =
    let (set, later) = or_else_none (set_up_refusal table d q) _ e in
    let (short, rest) = or_else_none (length_refusal (length trace)) _ later in
    let (lists, counts) = or_else_none (lists_refusal (length trace) ins or_else lists_refusal (length trace) outs) _ rest in
    let (first, second) = or_else_none (lists_refusal (length trace) ins) _ lists in
    record {
      set_up = set;
      small = omega (arith, (set_up-accepted table d q set).tabled.last_to);
      short = length_most (length trace) short;
      long_ins = list_same (length trace) ins first;
      long_outs = list_same (length trace) outs second;
      few = counts_few trace counts;
    }

module _ (table : List ℕ) (d q : Limit) (a u v : ℕ → ℕ) where
  -- No slot is broken: all is 0.
  pub answer_none : (s slot : ℕ) → s ≡ slot → s ≡ 0 → record { number = 0; rule = 0; slot = 0; window = 0 } ≡ broken_at table d q a u v slot
  unfolding broken_at
  answer_none s slot same none = rw (sym same ∙ none)

  -- A rule other than 3 has no window ..
  pub answer-rule : (s slot rule : ℕ) → s ≡ slot → (s ≡ 0 → ⊥) → rule ≡ rule_at table d q a u v s → (rule ≡ 3 → ⊥)
      → record { number = 0; rule = rule; slot = s; window = 0 } ≡ broken_at table d q a u v slot
  unfolding broken_at pick
  answer-rule zero slot rule same some e other = absurd (some refl)
  answer-rule (suc t) slot rule same some e other = rw (← same, ← e, ne_eqb rule 3 other)

  -- .. and rule 3 has the smallest that is broken.
  pub answer-window : (s slot rule window : ℕ) → s ≡ slot → (s ≡ 0 → ⊥) → rule ≡ rule_at table d q a u v s → rule ≡ 3 → window ≡ broken_window table v s
      → record { number = 0; rule = rule; slot = s; window = window } ≡ broken_at table d q a u v slot
  unfolding broken_at pick
  answer-window zero slot rule window same some e third w = absurd (some refl)
  answer-window (suc t) slot rule window same some e third w = rw (← same, ← e, eq-eqb rule 3 third, ← w)

module _ (table : List ℕ) (d q : ℕ) (trace ins outs : List ℕ) where
  -- A number is answered with 0 for the rest.
  pub answer_refused : (k : ℕ) → (k ≡ 0 → ⊥) → k ≡ rival_refusal table d q trace (length ins) (length outs)
      → record { number = k; rule = 0; slot = 0; window = 0 } ≡ judgement_of table d q trace ins outs
  unfolding judgement_of judgement_by
  answer_refused zero some e = absurd (some refl)
  answer_refused (suc k) some e = rw (← e)

  abbrev judged_by : (ℕ → ℕ) → (ℕ → ℕ) → Judgement
  judged_by u v =
      broken_at table (delay_limit d) (buffer_limit q) (arrivals trace) u v (broken_slot table (delay_limit d) (buffer_limit q) (arrivals trace) (length trace) u v)

  -- Rows that get no number are judged by the totals that were written down.
  pub answer_judged : (k : ℕ) → k ≡ 0 → k ≡ rival_refusal table d q trace (length ins) (length outs) → (admitted departed : List ℕ)
      → Tallied ins admitted (length ins) → Tallied outs departed (length outs)
      → judged_by (held admitted) (held departed) ≡ judgement_of table d q trace ins outs
  unfolding judgement_of judgement_by broken_slot
  answer_judged k none same admitted departed summed gone =
      let ok = rival-accepted table d q trace (length ins) (length outs) (sym same ∙ none) in
      let same_u : (t : ℕ) → t ≤ length trace → held admitted t ≡ sum_to ins t = λ t p. summed.sums t (omega (arith, ok.long_ins)) in
      let same_v : (t : ℕ) → t ≤ length trace → held departed t ≡ sum_to outs t = λ t p. gone.sums t (omega (arith, ok.long_outs)) in
      rw (sym same ∙ none)
      (broken_cong table (delay_limit d) (buffer_limit q) (arrivals trace) (length trace) (held admitted) (held departed) (sum_to ins) (sum_to outs) same_u same_v _ (first_within _ (length trace))
      ∙ ap (broken_at table (delay_limit d) (buffer_limit q) (arrivals trace) (sum_to ins) (sum_to outs))
      (slot_cong table (delay_limit d) (buffer_limit q) (arrivals trace) (length trace) (held admitted) (held departed) (sum_to ins) (sum_to outs) same_u same_v))

  -- Rows that get no number are answered with what their totals break first ..
  pub judged_broken : rival_refusal table d q trace (length ins) (length outs) ≡ 0 → judgement_of table d q trace ins outs ≡ judged_by (sum_to ins) (sum_to outs)
  unfolding judgement_of judgement_by
  judged_broken none = rw none

  -- .. and with 0 throughout where that is nothing.
  pub judged_none : rival_refusal table d q trace (length ins) (length outs) ≡ 0
      → broken_slot table (delay_limit d) (buffer_limit q) (arrivals trace) (length trace) (sum_to ins) (sum_to outs) ≡ 0
      → judgement_of table d q trace ins outs ≡ record { number = 0; rule = 0; slot = 0; window = 0 }
  unfolding broken_at
  judged_none none kept = judged_broken none ∙ ap (broken_at table (delay_limit d) (buffer_limit q) (arrivals trace) (sum_to ins) (sum_to outs)) kept

  -- The number answered is the one that refuses.
  pub judged-number : (judgement_of table d q trace ins outs).number ≡ rival_refusal table d q trace (length ins) (length outs)
  unfolding judgement_of
  judged-number = by_number (rival_refusal table d q trace (length ins) (length outs)) _ (at-number _)
    where
      at-number : (s : ℕ) → (broken_at table (delay_limit d) (buffer_limit q) (arrivals trace) (sum_to ins) (sum_to outs) s).number ≡ 0
      at-number zero = unfold broken_at in refl
      at-number (suc t) = unfold broken_at in refl

      by_number : (n : ℕ) (j : Judgement) → j.number ≡ 0 → (judgement_by n j).number ≡ n
      by_number zero j e = unfold judgement_by in e
      by_number (suc n) j e = unfold judgement_by in refl

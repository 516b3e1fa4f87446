-- Where the rows of an accepted call are not permitted, the judge names what is broken first: the slot, the rule, and for rule 3 the
-- smallest window.
use mathlib.Core.Path.{◌≡◌, sym, ap, ◌∙◌}
use mathlib.Core.List.{List}
use lib.ListN.{length}
use Prim.Native.Nat.{ℕ, ◌≤◌}
use native.Mathlib.Nat.{le_antisymm}
use native.Mathlib.Decide.{dec_le, ℕ_discrete}
use native.Mathlib.Omega.{arith}
use Rattle.calculus.specs.Numbers.Limit.{Limit, delay_limit, buffer_limit}
use Rattle.calculus.specs.Regulators.Trace.{arrivals, sum_to}
use Rattle.rivals.specs.declared.judge.Judgement.{Judgement}
use Rattle.rivals.specs.BrokenFirst.{BrokenFirst}
use Rattle.rivals.specs.Judgement.{rival_refusal, judgement_of}
use Rattle.rivals.proofs.RivalAnswer.{judged_broken, judged_none}
use Rattle.rivals.proofs.FirstBroken.{slot_broken}

pub judged-first : (table : List ℕ) (d q : ℕ) (trace ins outs : List ℕ) → rival_refusal table d q trace (length ins) (length outs) ≡ 0
    → ((judgement_of table d q trace ins outs).rule ≡ 0 → ⊥)
    → BrokenFirst table (delay_limit d) (buffer_limit q) (arrivals trace) (length trace) (sum_to ins) (sum_to outs) (judgement_of table d q trace ins outs)
judged-first table d q trace ins outs accepted broken =
    rw (judged_broken table d q trace ins outs accepted)
    (slot_broken table (delay_limit d) (buffer_limit q) (arrivals trace) (length trace) (sum_to ins) (sum_to outs)
    (λ none. broken (ap (λ (j : Judgement). j.rule) (judged_none table d q trace ins outs accepted none))))

-- No other slot, rule or window is what is broken first.
module _ (table : List ℕ) (d q : Limit) (a : ℕ → ℕ) (T : ℕ) (u v : ℕ → ℕ) where
  abbrev First : Judgement → Type 0
  First = BrokenFirst table d q a T u v

  none_earlier : (i j : Judgement) → First i → First j → i.slot ≤ j.slot
  none_earlier i j one other =
      elim (dec_le i.slot j.slot) [
        | yes p ↦ p
        | no p ↦ absurd (one.none_before j.slot j.rule other.within.0 (omega arith) other.broken)
      ]

  none_lower : (i j : Judgement) → First i → First j → i.slot ≡ j.slot → i.rule ≤ j.rule
  none_lower i j one other same =
      elim (dec_le i.rule j.rule) [
        | yes p ↦ p
        | no p ↦ absurd (one.none_lower j.rule (omega arith) (rw same other.broken))
      ]

  none_narrower : (i j : Judgement) → First i → First j → i.slot ≡ j.slot → i.rule ≡ 3 → j.rule ≡ 3 → i.window ≤ j.window
  none_narrower i j one other same third also =
      elim (dec_le i.window j.window) [
        | yes p ↦ p
        | no p ↦ absurd (one.smallest third j.window (omega arith) (rw same (other.windowed also)))
      ]

  pub broken_once : (i j : Judgement) → First i → First j → (i.slot ≡ j.slot) × (i.rule ≡ j.rule) × (i.window ≡ j.window)
  broken_once i j one other =
      let slots : i.slot ≡ j.slot = le_antisymm (none_earlier i j one other) (none_earlier j i other one) in
      let rules : i.rule ≡ j.rule = le_antisymm (none_lower i j one other slots) (none_lower j i other one (sym slots)) in (
        slots,
        rules,
        elim (ℕ_discrete i.rule 3) [
          | yes third ↦
              le_antisymm (none_narrower i j one other slots third (sym rules ∙ third)) (none_narrower j i other one (sym slots) (sym rules ∙ third) third)
          | no not ↦ one.windowless not ∙ sym (other.windowless (λ e. not (rules ∙ e)))
        ],
      )

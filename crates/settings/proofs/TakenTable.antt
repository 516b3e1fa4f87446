-- Laws of tables that are taken.
use mathlib.Core.Path.{◌≡◌, refl, sym, ap, ◌∙◌}
use Rattle.std.proofs.Common.{Result, Ok, Err}
use Rattle.std.specs.Result.{result_unwrap_or}
use mathlib.Core.List.{List, ◌++◌}
use Prim.Native.Nat.{ℕ, zero, suc, ◌+◌, ◌-◌, min}
use native.Mathlib.Decide.{dec_le}
use native.Mathlib.Omega.{arith}
use lib.ListN.{length, get_or, get_or-eq_default, take, drop, replicate, length-drop, length-replicate}
use lib.Seq.{length-take-le}
use Rattle.std.proofs.lemmas.List.{length-append, get_or_append_left, get_or-append_right, get_or-take, get_or-drop}
use Rattle.envelope.proofs.Answers.{list_of-places}
use Rattle.calculus.proofs.Numbers.Lists.{all-zero}
use Rattle.refusals.specs.Table.{table_refusal}
use Rattle.settings.specs.Taken.{padded_table, envelope_from, no_envelope, taken_by, taken, Taken, taken_given}
use Rattle.envelope.specs.declared.table.Envelope.{Envelope}
use Rattle.orders.specs.declared.refusal.Refusal.{Refusal}
use Rattle.orders.specs.Answered.{refusal_number, number_given, verdict_number}
use Rattle.orders.proofs.Given.{refusal_numbered, given_number}
use Rattle.orders.specs.Verdict.{Accepted, Refused}

-- A refused table gives its number and the envelope of zeros.
pub taken_refused : (table : List ℕ) (n : ℕ) → (n ≡ 0 → ⊥) → n ≡ table_refusal table
    → ◌≡◌ {A = Taken} (record { verdict = Refused n; envelope = no_envelope }) (taken table)
unfolding taken taken_by
taken_refused table zero p e = absurd (p refl)
taken_refused table (suc n) p e = ap (taken_by table) e

-- A call that refuses a table gives just that.
pub take_refused : (given : Result (Unit {0}) Refusal) (answer : Result Envelope Refusal) (r : Refusal) (table : List ℕ)
    → number_given given ≡ table_refusal table → given ≡ Err r → answer ≡ Err r → taken_given answer ≡ taken table
unfolding taken_given
take_refused given answer r table numbered refused answered =
    ap taken_given answered ∙ taken_refused table (refusal_number r) (refusal_numbered r) (given_number given r (table_refusal table) numbered refused)

-- An accepted table gives its envelope.
pub taken-accepted : (table : List ℕ) → table_refusal table ≡ 0 → ◌≡◌ {A = Taken} (record { verdict = Accepted; envelope = envelope_from table }) (taken table)
unfolding taken taken_by
taken-accepted table e = ap (taken_by table) (sym e)

-- What a call that takes an accepted table gives is its envelope.
pub take_ok : (given : Result Envelope Refusal) (table : List ℕ) → taken_given given ≡ taken table → table_refusal table ≡ 0 → given ≡ Ok (envelope_from table)
unfolding taken_given verdict_number
take_ok (Ok envelope) table made none = ap Ok (ap (λ (t : Taken). t.envelope) (made ∙ sym (taken-accepted table none)))
take_ok (Err refusal) table made none =
    absurd (refusal_numbered refusal (ap (λ (t : Taken). verdict_number t.verdict) (made ∙ sym (taken-accepted table none))))

-- Where a refused table is taken as none, the envelope is what is taken.
pub take_or_none : (given : Result Envelope Refusal) (envelope : Envelope) → envelope ≡ result_unwrap_or given no_envelope → envelope ≡ (taken_given given).envelope
unfolding taken_given
take_or_none (Ok x) envelope e = e
take_or_none (Err refusal) envelope e = e

-- The entries of a table, and 0 after them.
pub padded_all : (table : List ℕ) (n : ℕ) → n ≡ min (length table) 65 → take n table ++ drop n (replicate 65 0) ≡ padded_table table
unfolding padded_table
padded_all table n all =
    let front : length (take n table) ≡ n = length-take-le n table (omega arith) in
    list_of-places (λ i. get_or table i 0) 65 _ (length-append (take n table) _ ∙ omega (arith, front, length-drop {A = ℕ} n (replicate 65 0), length-replicate {A = ℕ} 65 0))
    (λ i p. elim (dec_le (suc i) n) [
      | yes q ↦ get_or_append_left (take n table) _ 0 i (omega arith) ∙ get_or-take n table i 0 q
      | no q ↦ get_or-append_right (take n table) _ n i 0 front (omega arith) ∙ get_or-drop n (replicate 65 0) _ 0 ∙ all-zero 65 (n + (i - n)) ∙ sym (get_or-eq_default table 0 {n = i} (omega arith))
    ])

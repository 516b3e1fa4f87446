-- What a port's run answers and leaves, refused or accepted.
use mathlib.Core.Path.{◌≡◌, refl, sym, ◌∙◌}
use mathlib.Core.List.{List}
use Prim.Native.Nat.{ℕ, zero, suc}
use lib.ListN.{length}
use Rattle.std.proofs.Common.{Result, Err}
use Rattle.orders.specs.declared.refusal.Refusal.{Refusal}
use Rattle.orders.specs.Verdict.{Verdict}
use Rattle.orders.specs.Verdict as verdict
use Rattle.orders.specs.Answered.{verdict_of, unless_refused, number_given, verdict_given}
use Rattle.orders.proofs.Answered.{refused_list}
use Rattle.orders.proofs.Given.{refusal_numbered, given_number, verdict_refused}
use Rattle.port_calculus.specs.Port.{port_rows, late_row}
use Rattle.port.specs.Refusals.{port_refusal}
use Rattle.port.specs.PortRun.{PortRan}

module _ (deadlines : List ℕ) (slots capacity : ℕ) (input sent late : List ℕ) where
  abbrev number : ℕ
  number = port_refusal deadlines slots input (length sent) (length late)

  -- A refused run gives its number, and the lists are as they were.
  pub port_refused : {A : Type 0} (given : Result A Refusal) (answer : Result (Unit {0}) Refusal) (r : Refusal) → number_given given ≡ number → given ≡ Err r → answer ≡ Err r
      → PortRan deadlines slots capacity input sent late (verdict_given answer) sent late
  port_refused given answer r numbered refused answered =
      let some : number ≡ 0 → ⊥ = λ none. refusal_numbered r (given_number given r number numbered refused ∙ none) in
      record {
        answered = verdict_refused given answer r number numbered refused answered;
        sends = refused_list number _ some refl _ sent;
        lates = refused_list number _ some refl _ late;
      }

  -- An accepted run fills the lists with the port's rows.
  pub port_answered : number ≡ 0 → (sent' late' : List ℕ) → (sent' ≡ port_rows deadlines slots capacity input) × (late' ≡ late_row deadlines slots capacity input)
      → PortRan deadlines slots capacity input sent late verdict.Accepted sent' late'
  unfolding verdict_of unless_refused
  port_answered none sent' late' (e1, e2) = record { answered = rw none; sends = rw none e1; lates = rw none e2 }

  -- A number other than 0 leaves both lists as they were.
  pub port_left : (verdict : Verdict) (sent' late' : List ℕ) → PortRan deadlines slots capacity input sent late verdict sent' late'
      → (port_refusal deadlines slots input (length sent) (length late) ≡ 0 → ⊥) → (sent' ≡ sent) × (late' ≡ late)
  port_left verdict sent' late' ran some = (ran.sends ∙ sym (refused_list _ _ some refl _ sent), ran.lates ∙ sym (refused_list _ _ some refl _ late))

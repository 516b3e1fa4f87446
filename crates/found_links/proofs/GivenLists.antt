-- What is answered and left where a certificate is asked for, refused or accepted.
use Rattle.std.proofs.Common.{◌≡◌, ℕ, List, length, sym, ap, ◌∙◌, Result, Ok, Err}
use Rattle.orders.specs.declared.refusal.Refusal.{Refusal}
use Rattle.orders.specs.Answered.{refusal_number, number_given, verdict_given, verdict_number, verdict_of}
use Rattle.orders.specs.Verdict.{Accepted}
use Rattle.orders.proofs.Answered.{refused_list, accepted-answer, accepted_list, number_of_verdict, filled_left}
use Rattle.orders.proofs.Given.{refusal_numbered, given_number, given_none, number_verdict}
use Rattle.refusals.specs.WholeTrace.{run_refusal}
use Rattle.trace.specs.WholeTrace.{Ran}
use Rattle.found_links.specs.Given.{Listed, our_links, Given}

module _ (table : List ℕ) (d q : ℕ) (trace from by gone : List ℕ) where
  abbrev number : ℕ
  number = run_refusal table d q trace (length from) (length by) (length gone)

  -- An accepted run's rows make way for its links.
  pub given_filled : number ≡ 0 → (from' by' gone' : List ℕ) → Listed (our_links table d q trace) (length trace) from' by' gone' → Given table d q trace from by gone 0 from' by' gone'
  given_filled none from' by' gone' (ef, eb, eg) =
      record {
        answered = sym none;
        from_filled = accepted_list number none from' _ from ef;
        by_filled = accepted_list number none by' _ by eb;
        gone_filled = accepted_list number none gone' _ gone eg;
      }

  module _ (from₁ by₁ gone₁ : List ℕ) where
    module _ (given : Result (Unit {0}) Refusal) (ran : Ran table d q trace from by gone (verdict_given given) from₁ by₁ gone₁) where
      run_numbered : number_given given ≡ number
      run_numbered = number_verdict given ∙ ap verdict_number ran.answered ∙ number_of_verdict number

      -- An accepted run has no number.
      pub given_accepted : (a : Unit {0}) → given ≡ Ok a → (number ≡ 0) × (verdict_given given ≡ Accepted)
      given_accepted a passed =
          let none = given_none given a number run_numbered passed in
          (none, ran.answered ∙ sym (accepted-answer number none))

      -- A refused run's number is answered, and the lists are as they were.
      pub given_refused : (answer : Result (Unit {0}) Refusal) (r : Refusal) → given ≡ Err r → answer ≡ Err r
          → Given table d q trace from by gone (number_given answer) from₁ by₁ gone₁
      unfolding number_given
      given_refused answer r refused answered =
          let numbered : refusal_number r ≡ number = given_number given r number run_numbered refused in
          let some = refusal_numbered r in
          let (ef, eb, eg) = filled_left number _ _ _ from by gone verdict_of _ from₁ by₁ gone₁ ran (λ e. some (numbered ∙ e)) in
          record {
            answered = ap number_given answered ∙ numbered;
            from_filled = ef ∙ refused_list _ number some numbered _ from;
            by_filled = eb ∙ refused_list _ number some numbered _ by;
            gone_filled = eg ∙ refused_list _ number some numbered _ gone;
          }

    -- A number other than 0 leaves every list as it was.
    pub given_left : (answer : ℕ) → Given table d q trace from by gone answer from₁ by₁ gone₁ → (answer ≡ 0 → ⊥) → (from₁ ≡ from) × (by₁ ≡ by) × (gone₁ ≡ gone)
    given_left answer given some = (
      given.from_filled ∙ sym (refused_list answer _ some given.answered _ from),
      given.by_filled ∙ sym (refused_list answer _ some given.answered _ by),
      given.gone_filled ∙ sym (refused_list answer _ some given.answered _ gone),
    )

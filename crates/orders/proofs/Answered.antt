-- What is answered and left in a lent list, by the number.
use mathlib.Core.Path.{◌≡◌, refl, sym, ◌∙◌}
use mathlib.Core.List.{List}
use Prim.Native.Nat.{ℕ, zero, suc}
use Rattle.calculus.proofs.Numbers.Distinct.{zero_one}
use Rattle.orders.specs.Verdict.{Accepted, Refused}
use Rattle.orders.specs.Answered.{verdict_of, verdict_number, unless_refused, ListsFilled}

-- A number that is one is answered, and a list stays as it was.
pub refused-answer : (k number : ℕ) → (k ≡ 0 → ⊥) → k ≡ number → Refused k ≡ verdict_of number
unfolding verdict_of
refused-answer zero number p e = absurd (p refl)
refused-answer (suc k) number p e = rw (← e)

pub refused_list : (k number : ℕ) → (k ≡ 0 → ⊥) → k ≡ number → (filled before : List ℕ) → before ≡ unless_refused number filled before
unfolding unless_refused
refused_list zero number p e filled before = absurd (p refl)
refused_list (suc k) number p e filled before = rw (← e)

-- The verdict that a number stands for has that number.
pub number_of_verdict : (n : ℕ) → verdict_number (verdict_of n) ≡ n
unfolding verdict_number verdict_of
number_of_verdict zero = refl
number_of_verdict (suc n) = refl

-- With none, the answer is yes, and a list is filled.
pub accepted-answer : (number : ℕ) → number ≡ 0 → Accepted ≡ verdict_of number
unfolding verdict_of
accepted-answer number none = rw none

pub accepted_list : (number : ℕ) → number ≡ 0 → (list filled before : List ℕ) → list ≡ filled → list ≡ unless_refused number filled before
unfolding unless_refused
accepted_list number none list filled before e = rw none e

-- A verdict that is yes has no number.
pub verdict-accepted : (k : ℕ) → verdict_of k ≡ Accepted → k ≡ 0
unfolding verdict_of
verdict-accepted zero e = refl
verdict-accepted (suc k) e = absurd (zero_one cc)

pub accepted_none : (number : ℕ) → Accepted ≡ verdict_of number → number ≡ 0
accepted_none number e = verdict-accepted number (sym e)

-- Of three lists that a call fills: refused, it answers its number and leaves them; accepted, it fills them with their rows.
module _ (number : ℕ) (admits-row drops-row departs-row ins drops outs : List ℕ) where
  pub filled_refused : (k : ℕ) → (k ≡ 0 → ⊥) → k ≡ number → ListsFilled verdict_of number admits-row drops-row departs-row ins drops outs (Refused k) ins drops outs
  filled_refused k some e =
      record {
        answered = refused-answer k number some e;
        admits = refused_list k number some e admits-row ins;
        dropped = refused_list k number some e drops-row drops;
        departs = refused_list k number some e departs-row outs;
      }

  pub filled-accepted : number ≡ 0 → (ins' drops' outs' : List ℕ) → (ins' ≡ admits-row) × (drops' ≡ drops-row) × (outs' ≡ departs-row)
      → ListsFilled verdict_of number admits-row drops-row departs-row ins drops outs Accepted ins' drops' outs'
  filled-accepted none ins' drops' outs' (e1, e2, e3) =
      record {
        answered = accepted-answer number none;
        admits = accepted_list number none ins' admits-row ins e1;
        dropped = accepted_list number none drops' drops-row drops e2;
        departs = accepted_list number none outs' departs-row outs e3;
      }

  -- Whatever is answered, a number other than 0 leaves every list as it was.
  pub filled_left : {A : Type 0} (answer : ℕ → A) (given : A) (ins' drops' outs' : List ℕ)
      → ListsFilled answer number admits-row drops-row departs-row ins drops outs given ins' drops' outs' → (number ≡ 0 → ⊥) → (ins' ≡ ins) × (drops' ≡ drops) × (outs' ≡ outs)
  filled_left answer given ins' drops' outs' ran some = (
    ran.admits ∙ sym (refused_list number number some refl admits-row ins),
    ran.dropped ∙ sym (refused_list number number some refl drops-row drops),
    ran.departs ∙ sym (refused_list number number some refl departs-row outs),
  )

-- What is answered of links, slot after slot.
use mathlib.Core.Path.{◌≡◌, refl, sym}
use mathlib.Core.Bool.{Bool, true, false}
use mathlib.Core.List.{List}
use Prim.Native.Nat.{ℕ, ◌+◌, ◌-◌, ◌≤◌, ◌<◌}
use native.Mathlib.Decide.{dec_le}
use native.Mathlib.Omega.{arith}
use lib.ListN.{get_or}
use borrow.Author.Tests.{le-leb, lt-leb}
use Rattle.calculus.specs.Numbers.Limit.{Limit}
use Rattle.certificate_calculus.specs.Certificate.{Links, at_slot}
use Rattle.certificate_calculus.specs.LinkTests.{admitted_holds, departed_holds}
use Rattle.certificate_calculus.specs.LackingLinks.{lack_at, lacking_slot}
use Rattle.certificate_calculus.proofs.LackingLinks.{slot_here, slot_beyond}
use Rattle.orders.specs.Refusal.{pick}
use Rattle.rivals.proofs.TriedRules.{arrivals_at}
use Rattle.std.proofs.Common.{Some}
use Rattle.certificate.specs.Checked.{accepted, lack_answer}
use Rattle.certificate.specs.Read.{lack_number}
use Rattle.certificate.specs.declared.check.Lack.{Lack}
use Rattle.certificate.specs.declared.check.Lack.TheVariants.{Admitted, Departed}

-- A slot's number stands at the place before it.
pub slot-number : (list : List ℕ) (t : ℕ) → 1 ≤ t → get_or list (t - 1) 0 ≡ at_slot list t
slot-number list t one = sym (arrivals_at list t one)

module _ (f : ℕ → ℕ) (d q : Limit) (a : ℕ → ℕ) (T : ℕ) (u v : ℕ → ℕ) (links : Links) where
  abbrev lack : ℕ → ℕ
  lack = lack_at f d q a T u v links

  -- What a slot lacks, test by test.
  module _ (t : ℕ) where
    abbrev admits : Bool
    admits = admitted_holds f d q a T u t (links.admitted_from t) (links.admitted_by t)

    abbrev departs : Bool
    departs = departed_holds f u v t (links.departed_from t)

    pub lack_six : false ≡ admits → 6 ≡ lack t
    unfolding lack_at
    lack_six e = rw (← e) refl

    pub lack_seven : true ≡ admits → false ≡ departs → 7 ≡ lack t
    unfolding lack_at
    lack_seven e h = rw (← e, ← h) refl

    pub lack_nothing : true ≡ admits → true ≡ departs → 0 ≡ lack t
    unfolding lack_at
    lack_nothing e h = rw (← e, ← h) refl

  -- no slot before t lacks a link
  abbrev pub NoneBefore : ℕ → Type 0
  NoneBefore t = (s : ℕ) → 1 ≤ s → s < t → lack s ≡ 0

  pub none_first : NoneBefore 1
  none_first s one low = absurd (omega arith)

  -- Slot t lacks none either ..
  pub none_next : (t : ℕ) → NoneBefore t → lack t ≡ 0 → NoneBefore (t + 1)
  none_next t before here s one low =
      elim (dec_le t s) [
        | yes p ↦ let last : s ≡ t = omega arith in rw last here
        | no p ↦ before s one (omega arith)
      ]

  -- .. or it is the first that does, and is answered with what it lacks ..
  pub answer_here : (t rule : ℕ) → 1 ≤ t → t ≤ T → NoneBefore t → rule ≡ lack t → (rule ≡ 0 → ⊥)
      → record { number = 0; rule = rule; slot = t; window = 0 } ≡ lack_answer f d q a T u v links
  unfolding lack_answer pick
  answer_here t rule one within none e some =
      let here = slot_here f d q a T u v links t one within (omega arith) (λ s one early. none s one early) in
      rw (here, le-leb t T within, ← e) refl

  -- .. or none does, and all is 0.
  pub answer_none : (t : ℕ) → T < t → NoneBefore t → accepted ≡ lack_answer f d q a T u v links
  unfolding lack_answer pick
  answer_none t end none =
      rw (lt-leb (lacking_slot f d q a T u v links) T (slot_beyond f d q a T u v links (λ s one low. none s one (omega arith)))) refl

-- What a slot lacks has a number.
pub lack_some : (k : Lack) → lack_number (Some k) ≡ 0 → ⊥
lack_some Admitted e = omega arith
lack_some Departed e = omega arith

-- The earliest slot with the loss of a slot, kept slot after slot: losses do not fall.
use mathlib.Core.Path.{◌≡◌, refl}
use mathlib.Core.Bool.{cond}
use mathlib.Core.List.{List}
use Prim.Native.Nat.{ℕ, ◌+◌, ◌-◌, ◌≤◌, ◌<◌}
use native.Mathlib.Decide.{ℕ_discrete}
use native.Mathlib.Omega.{arith}
use lib.Dec.{eqb}
use lib.ListN.{get_or}
use borrow.Author.Tests.{eq-eqb, ne_eqb}
use Rattle.calculus.specs.Numbers.Limit.{Limit}
use Rattle.calculus.specs.Regulators.Clipper.{arrived}
use Rattle.certificate_calculus.proofs.UsableLinks.{loss_rises}
use Rattle.found_links.proofs.AdmittedStarts.{arrivals-start}
use Rattle.found_links.specs.FoundRows.{FoundRows, Earliest}

-- The same where two losses are the same, else the slot itself.
pub loss_same : (x y same t : ℕ) → x ≡ y → same ≡ cond (eqb x y) same t
loss_same x y same t e = rw (eq-eqb x y e) refl

pub loss_other : (x y same t : ℕ) → (x ≡ y → ⊥) → t ≡ cond (eqb x y) same t
loss_other x y same t e = rw (ne_eqb x y e) refl

pub record SameLoss (a u : ℕ → ℕ) (t same : ℕ) : Type 0 where
  pub loses : arrived a same - u same ≡ arrived a t - u t
  pub earliest : (r : ℕ) → r < same → arrived a r - u r ≡ arrived a t - u t → ⊥

pub same_first : (a u : ℕ → ℕ) → SameLoss a u 0 0
same_first a u = record { loses = refl; earliest = λ r early e. omega arith }

module _ (f : ℕ → ℕ) (d q : Limit) (a : ℕ → ℕ) (T : ℕ) (u v : ℕ → ℕ) (admitted lost departed starts : List ℕ)
    (rows : FoundRows f d q a T u v admitted lost departed starts) (t same : ℕ) (low : same ≤ t) (now : SameLoss a u t same) where
  -- The next slot has the loss of the one before it, or more than any earlier slot.
  pub same_next : (next : ℕ) → t < T → next ≡ cond (eqb (get_or lost same 0) (get_or lost (t + 1) 0)) same (t + 1) → SameLoss a u (t + 1) next
  same_next next inside e =
      let here = rows.loses same (omega arith) in
      let after = rows.loses (t + 1) (omega arith) in
      elim (ℕ_discrete (get_or lost same 0) (get_or lost (t + 1) 0)) [
        | yes alike ↦
            rw (e, eq-eqb (get_or lost same 0) (get_or lost (t + 1) 0) alike)
            (record { loses = omega arith; earliest = λ r early h. now.earliest r early (omega (arith, now.loses)) })
        | no other ↦
            rw (e, ne_eqb (get_or lost same 0) (get_or lost (t + 1) 0) other)
            (record {
              loses = refl;
              earliest = λ r early h.
                  other (omega (
                    arith,
                    now.loses,
                    loss_rises f d q a T u v rows.permitted r t (omega arith) (omega arith),
                    loss_rises f d q a T u v rows.permitted t (t + 1) (omega arith) (omega arith),
                  ));
            })
      ]

  -- An arrivals link to the slot starts there.
  pub same_start : t ≤ T → Earliest f d q a T u 1 t same
  same_start inside = arrivals-start f d q a T u v rows.permitted t same inside low now.loses now.earliest

-- Looked for from the slot back: a slot with its loss, before which the loss is another.
module _ (f : ℕ → ℕ) (d q : Limit) (a : ℕ → ℕ) (T : ℕ) (u v : ℕ → ℕ) (admitted lost departed starts : List ℕ)
    (rows : FoundRows f d q a T u v admitted lost departed starts) (t s : ℕ) (inside : t ≤ T) (low : s ≤ t) (same : get_or lost s 0 ≡ get_or lost t 0)
    (other : 0 < s → get_or lost (s - 1) 0 ≡ get_or lost t 0 → ⊥) where
  back_same : SameLoss a u t s
  back_same =
      record {
        loses = omega (arith, rows.loses s (omega arith), rows.loses t inside);
        earliest = λ r early h.
            other (omega arith)
            (omega (
              arith,
              rows.loses (s - 1) (omega arith),
              rows.loses t inside,
              loss_rises f d q a T u v rows.permitted r (s - 1) (omega arith) (omega arith),
              loss_rises f d q a T u v rows.permitted (s - 1) t (omega arith) inside,
            ));
      }

  pub back_start : Earliest f d q a T u 1 t s
  back_start = same_start f d q a T u v admitted lost departed starts rows t s low back_same inside

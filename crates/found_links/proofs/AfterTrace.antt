-- The totals after a trace: nothing is admitted or lost where nothing arrives, and what departs is worked slot after slot from the table.
use mathlib.Core.Path.{◌≡◌, ◌∙◌}
use mathlib.Core.Logic.{◌⊎◌, inl, inr}
use mathlib.Core.List.{List}
use Prim.Native.Nat.{ℕ, ◌+◌, ◌-◌, ◌≤◌, ◌<◌, min}
use native.Mathlib.Decide.{dec_le}
use native.Mathlib.Nat.{le_antisymm}
use native.Mathlib.Omega.{arith}
use lib.ListN.{length, get_or, set, length-set}
use lib.Seq.{get_or-set_same, get_or-set_other}
use Rattle.calculus.specs.Envelopes.Closure.{closure}
use Rattle.calculus.specs.Envelopes.Envelope.{windows}
use Rattle.calculus.specs.Regulators.Clipper.{arrived}
use Rattle.calculus.specs.Regulators.Regulator.{convolution}
use Rattle.calculus.specs.Regulators.Rows.{envelope_of}
use Rattle.calculus.proofs.Envelopes.Closure.{closure-zero}
use Rattle.refusals.specs.Table.{last_window}
use Rattle.found_links.specs.FoundRows.{Totals, Ended, departed_within}
use Rattle.found_links.proofs.DepartedStarts.{some-link, below, window-bound, link_back}
use Rattle.found_links.proofs.LeastTo.{least_first, least_below, least_attained}

-- V(t) is the least of U(t) and, over the windows k of the table, of V(t-k) and the entry at k.
module _ (L : ℕ) (table : ℕ → ℕ) (some : 1 ≤ L) (u : ℕ → ℕ) where
  abbrev v : ℕ → ℕ
  v = convolution u (windows (closure L table))

  departed_total_lem : (t : ℕ) → v t ≤ u t
  departed_total_lem t =
      let same : t - t ≡ 0 = omega arith in
      omega (arith, rw (same, closure-zero L table) at (below L table some u t t (omega arith)))

  departed-window : (t k : ℕ) → 1 ≤ k → k ≤ L → k ≤ t → v t ≤ v (t - k) + table k
  departed-window t k one last low =
      let (r, link) = some-link L table some u (t - k) in
      omega (arith, below L table some u r t (omega (arith, link.by)), window-bound L table some u t k r one last low link)

  departed-made : (t : ℕ) → (v t ≡ u t) ⊎ ((k : ℕ) × (1 ≤ k) × (k ≤ L) × (k ≤ t) × (v (t - k) + table k ≡ v t))
  departed-made t =
      let (r, link) = some-link L table some u t in
      elim (dec_le t r) [
        | yes late ↦
            let here : r ≡ t = omega (arith, link.by) in
            let same : t - t ≡ 0 = omega arith in
            inl (omega (arith, rw (here, same, closure-zero L table) at link.makes))
        | no early ↦
            let (k, one, last, low, same, _) = link_back L table some u t r (omega arith) link in
            inr (k, one, last, low, same)
      ]

module _ (table departed : List ℕ) (u : ℕ → ℕ) (some : 1 ≤ last_window table) (t : ℕ)
    (before : (s : ℕ) → s < t → get_or departed s 0 ≡ convolution u (windows (envelope_of table)) s) where
  abbrev L : ℕ
  L = last_window table

  abbrev entry : ℕ → ℕ
  entry k = get_or table k 0

  abbrev sum : ℕ → ℕ
  sum k = get_or departed (t - k) 0 + entry k

  -- So is what is worked from the table and the totals before.
  departed-least : (total : ℕ) → total ≡ u t → departed_within table departed total t (min L t) ≡ convolution u (windows (envelope_of table)) t
  unfolding envelope_of
  departed-least total all =
      le_antisymm
      (elim (departed-made L entry some u t) [
        | inl e ↦ omega (arith, least_first total sum (min L t))
        | inr (k, one, last, low, e) ↦ omega (arith, least_below total sum (min L t) k one (omega arith), before (t - k) (omega arith))
      ])
      (elim (least_attained total sum (min L t)) [
        | inl e ↦ omega (arith, departed_total_lem L entry some u t)
        | inr (k, one, high, e) ↦ omega (arith, departed-window L entry some u t k one (omega arith) (omega arith), before (t - k) (omega arith))
      ])

-- The totals go on slot after slot.
pub record Going (table : List ℕ) (slots : ℕ) (admitted₀ lost₀ departed₀ admitted lost departed : List ℕ) (t : ℕ) : Type 0 where
  pub after : slots ≤ t
  pub long_admitted : length admitted ≡ 4161
  pub long_lost : length lost ≡ 4161
  pub long_departed : length departed ≡ 4161
  pub goes : (a u : ℕ → ℕ) → 1 ≤ last_window table → Ended a u slots → Totals table a u slots admitted₀ lost₀ departed₀
      → Totals table a u t admitted lost departed

module _ (table : List ℕ) (slots : ℕ) (admitted₀ lost₀ departed₀ : List ℕ) where
  pub going-first : length admitted₀ ≡ 4161 → length lost₀ ≡ 4161 → length departed₀ ≡ 4161
      → Going table slots admitted₀ lost₀ departed₀ admitted₀ lost₀ departed₀ slots
  going-first la ll ld = record { after = omega arith; long_admitted = la; long_lost = ll; long_departed = ld; goes = λ a u some ended totals. totals }

  module _ (admitted lost departed : List ℕ) (t : ℕ) (going : Going table slots admitted₀ lost₀ departed₀ admitted lost departed t) where
    pub going_next : (x y z : ℕ) → t + 1 ≤ 4160 → x ≡ get_or admitted₀ slots 0 → y ≡ get_or lost₀ slots 0
        → z ≡ departed_within table departed x (t + 1) (min (last_window table) (t + 1))
        → Going table slots admitted₀ lost₀ departed₀ (set admitted (t + 1) x) (set lost (t + 1) y) (set departed (t + 1) z) (t + 1)
    going_next x y z inside ex ey ez =
        record {
          after = omega (arith, going.after);
          long_admitted = length-set admitted (t + 1) x ∙ going.long_admitted;
          long_lost = length-set lost (t + 1) y ∙ going.long_lost;
          long_departed = length-set departed (t + 1) z ∙ going.long_departed;
          goes = λ a u some ended totals.
              let done = going.goes a u some ended totals in
              let past : slots ≤ t + 1 = omega (arith, going.after) in
              let all : x ≡ u (t + 1) = omega (arith, totals.admits slots (omega arith), ended.admits (t + 1) past) in
              let missed : y ≡ arrived a (t + 1) - u (t + 1) =
              omega (arith, totals.loses slots (omega arith), ended.admits (t + 1) past, ended.arrives (t + 1) past) in
              record {
                admits = after-set admitted x u t (omega (arith, going.long_admitted)) done.admits all;
                loses = after-set lost y (λ s. arrived a s - u s) t (omega (arith, going.long_lost)) done.loses missed;
                departs = after-set departed z _ t (omega (arith, going.long_departed)) done.departs
                    (ez ∙ departed-least table departed u some (t + 1) (λ s p. done.departs s (omega arith)) x all);
              };
        }
      where
        -- One total more.
        after-set : (row : List ℕ) (n : ℕ) (h : ℕ → ℕ) (t : ℕ) → t + 1 < length row → ((s : ℕ) → s ≤ t → get_or row s 0 ≡ h s) → n ≡ h (t + 1)
            → (s : ℕ) → s ≤ t + 1 → get_or (set row (t + 1) n) s 0 ≡ h s
        after-set row n h t fits before e s p =
            elim (dec_le s t) [
              | yes q ↦ get_or-set_other row (t + 1) s n 0 (λ r. omega arith) ∙ before s q
              | no q ↦ let last : s ≡ t + 1 = omega arith in rw last (get_or-set_same row (t + 1) n 0 fits ∙ e)
            ]

    pub going-last : (reach : ℕ) → reach ≤ t → (a u : ℕ → ℕ) → 1 ≤ last_window table → Ended a u slots → Totals table a u slots admitted₀ lost₀ departed₀
        → Totals table a u reach admitted lost departed
    going-last reach p a u some ended totals =
        let done = going.goes a u some ended totals in
        record {
          admits = λ s r. done.admits s (omega arith);
          loses = λ s r. done.loses s (omega arith);
          departs = λ s r. done.departs s (omega arith);
        }

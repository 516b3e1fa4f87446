-- The first slots of departed links, slot after slot in a row.
use mathlib.Core.Path.{◌≡◌, refl, sym, subst, ◌∙◌}
use mathlib.Core.Logic.{inl, inr}
use mathlib.Core.List.{List}
use Prim.Native.Nat.{ℕ, ◌+◌, ◌-◌, ◌≤◌, ◌<◌, min}
use native.Mathlib.Decide.{dec_le, ℕ_discrete}
use native.Mathlib.Omega.{arith}
use lib.ListN.{length, get_or, set}
use lib.Seq.{get_or-set_same, get_or-set_other}
use borrow.Author.Tests.{eq-eqb, ne_eqb}
use Rattle.calculus.specs.Envelopes.Envelope.{windows}
use Rattle.calculus.specs.Regulators.Regulator.{convolution}
use Rattle.calculus.specs.Regulators.Rows.{envelope_of}
use Rattle.certificate_calculus.specs.Certificate.{DepartedLink}
use Rattle.certificate_calculus.specs.FoundLinks.{FirstDeparted}
use Rattle.found_links.proofs.DepartedStarts.{some-link, link_on, link_back}
use Rattle.found_links.proofs.LeastTo.{least_first, least_below, least_attained}
use Rattle.refusals.specs.Table.{last_window}
use Rattle.found_links.specs.FoundRows.{StartsTo, start_via, start_within}

module _ (table departed starts : List ℕ) (t : ℕ) where
  abbrev via : ℕ → ℕ
  via = start_via table departed starts t

  abbrev entry : ℕ → Type 0
  entry k = get_or departed (t - k) 0 + get_or table k 0 ≡ get_or departed t 0

  -- By way of a slot: its start where the entry departs in between, else t.
  pub via-start : (k : ℕ) → entry k → get_or starts (t - k) 0 ≡ via k
  unfolding start_via
  via-start k e = rw (eq-eqb (get_or departed (t - k) 0 + get_or table k 0) (get_or departed t 0) e) refl

  pub via_none : (k : ℕ) → (entry k → ⊥) → t ≡ via k
  unfolding start_via
  via_none k e = rw (ne_eqb (get_or departed (t - k) 0 + get_or table k 0) (get_or departed t 0) e) refl

module _ (table departed : List ℕ) (slots : ℕ) (u : ℕ → ℕ) (some : 1 ≤ last_window table) where
  abbrev f : ℕ → ℕ
  f = envelope_of table

  abbrev v : ℕ → ℕ
  v = convolution u (windows f)

  module _ (totals : (t : ℕ) → t ≤ slots → get_or departed t 0 ≡ v t) (starts : List ℕ) (t : ℕ) (inside : t ≤ slots)
      (first : (s : ℕ) → s < t → FirstDeparted f u v s (get_or starts s 0)) where
    abbrev start : ℕ
    start = start_within table departed starts t (min (last_window table) t)

    -- No departed link starts earlier ..
    start_below : (r : ℕ) → DepartedLink f u v t r → start ≤ r
    unfolding envelope_of
    start_below r link =
        elim (dec_le t r) [
          | yes p ↦ omega (arith, least_first t (start_via table departed starts t) (min (last_window table) t))
          | no p ↦
              let (k, one, last, low, same, back) = link_back (last_window table) (λ k. get_or table k 0) some u t r (omega arith) link in
              omega (
                arith,
                least_below t (start_via table departed starts t) (min (last_window table) t) k one (omega arith),
                via-start table departed starts t k (omega (arith, totals t inside, totals (t - k) (omega arith))),
                (first (t - k) (omega arith)).earliest r back,
              )
        ]

    -- .. and this one holds.
    start-link : DepartedLink f u v t start
    unfolding envelope_of
    start-link =
        elim (least_attained t (start_via table departed starts t) (min (last_window table) t)) [
          | inl e ↦ last e
          | inr (k, one, high, e) ↦
              elim (ℕ_discrete (get_or departed (t - k) 0 + get_or table k 0) (get_or departed t 0)) [
                | yes same ↦
                    let here : start ≡ get_or starts (t - k) 0 = e ∙ sym (via-start table departed starts t k same) in
                    rw here
                    (link_on (last_window table) (λ k. get_or table k 0) some u t k _ one (omega arith) (omega arith)
                    (omega (arith, totals t inside, totals (t - k) (omega arith))) (first (t - k) (omega arith)).link)
                | no other ↦ last (e ∙ sym (via_none table departed starts t k other))
              ]
        ]
      where
        last : start ≡ t → DepartedLink f u v t start
        last e =
            let (r, link) = some-link (last_window table) (λ k. get_or table k 0) some u t in
            let same : r ≡ start = omega (arith, start_below r link, link.by) in
            rw (← same) link

    pub start_first : FirstDeparted f u v t start
    start_first = record { link = start-link; earliest = start_below }

-- The row, slot after slot.
module _ (table departed : List ℕ) (slots : ℕ) where
  pub starts_none : (starts : List ℕ) → get_or starts 0 0 ≡ 0 → StartsTo table departed slots starts 0
  unfolding envelope_of
  starts_none starts blank u some totals s p =
      let (r, link) = some-link (last_window table) (λ k. get_or table k 0) some u 0 in
      let none : r ≡ 0 = omega (arith, link.by) in
      let first : s ≡ 0 = omega arith in
      rw (first, blank) (record { link = rw none at link; earliest = λ k other. omega arith })

  pub starts_next : (starts : List ℕ) (t x : ℕ) → StartsTo table departed slots starts t → t < slots → slots ≤ 4160 → length starts ≡ 4161
      → x ≡ start_within table departed starts (t + 1) (min (last_window table) (t + 1)) → StartsTo table departed slots (set starts (t + 1) x) (t + 1)
  starts_next starts t x before inside short long e u some totals s p =
      elim (dec_le s t) [
        | yes q ↦ rw (get_or-set_other starts (t + 1) s x 0 (λ h. omega arith)) (before u some totals s q)
        | no q ↦ let last : s ≡ t + 1 = omega arith in
            rw (last, get_or-set_same starts (t + 1) x 0 (omega arith), e)
            (start_first table departed slots u some totals starts (t + 1) (omega arith) (λ k early. before u some totals k (omega arith)))
      ]

  -- The row at slot t, worked from the slots before it.
  pub starts_at : (starts : List ℕ) (t x : ℕ) → 1 ≤ t → StartsTo table departed slots starts (t - 1) → t ≤ slots → slots ≤ 4160 → length starts ≡ 4161
      → x ≡ start_within table departed starts t (min (last_window table) t) → StartsTo table departed slots (set starts t x) t
  starts_at starts t x one before inside short long e =
      let here : t - 1 + 1 ≡ t = omega arith in
      let worked : x ≡ start_within table departed starts (t - 1 + 1) (min (last_window table) (t - 1 + 1)) = rw here e in
      subst (λ (n : ℕ). StartsTo table departed slots (set starts n x) n) here (starts_next starts (t - 1) x before (omega arith) short long worked)

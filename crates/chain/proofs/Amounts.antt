-- A link's amount, read off the rows of a table and a trace, is that of document 02, request 2.8.
use Rattle.std.proofs.Common.{◌≡◌, ℕ, ◌+◌, ◌-◌, ◌<◌, ◌≤◌, false, eqb, List, sym, refl, ap, ◌∙◌, arith, le-ltb, lt-ltb, eq-eqb, ne_eqb}
use native.Mathlib.Decide.{dec_lt, ℕ_discrete}
use Rattle.calculus.specs.Numbers.Limit.{at_most, limit_unless, map_limit}
use Rattle.calculus.specs.Regulators.Clipper.{arrived, delay_bound, buffer_bound}
use Rattle.calculus.specs.Regulators.Trace.{arrivals}
use Rattle.calculus.specs.Regulators.Rows.{envelope_of}
use Rattle.chain_calculus.specs.Chain.{is_number, amount, link_sound}
use Rattle.calculus.proofs.Regulators.Clipper.{arrived_rises}
use Rattle.chain_calculus.specs.ChainFound.{number_of}
use Rattle.refusals.specs.Limits.{delay_limit, buffer_limit}
use Rattle.refusals.proofs.AcceptedSettings.{set_up-accepted}
use Rattle.chain.specs.Chains.{amount_in, link_in}
use Rattle.chain.specs.Links.{at_window, delay_makes, buffer_makes, row_sound}
use Rattle.chain.specs.Prepared.{Checkable}
use Rattle.chain.proofs.LinkTests.{delay_some, no-delay_makes, buffer_some, no-buffer_makes, sound_falls, sound-arrivals, sound-delay, sound-buffer, sound_unmarked}

-- Two tests that hold together are the same.
pub same_tests : (a b c d : ℕ) → (a ≡ b → c ≡ d) → (c ≡ d → a ≡ b) → eqb a b ≡ eqb c d
same_tests a b c d there back =
    elim (ℕ_discrete a b) [
      | yes e ↦ rw (eq-eqb a b e, eq-eqb c d (there e)) refl
      | no e ↦ rw (ne_eqb a b e, ne_eqb c d (λ r. e (back r))) refl
    ]

-- Windows of f as far as a link looks.
module _ (table : List ℕ) (d q : ℕ) (row : List ℕ) (far : ℕ) (windowed : (w : ℕ) → w ≤ far → at_window row w ≡ envelope_of table w) (w : ℕ) (near : w + number_of (delay_limit d) ≤ far) (v : ℕ) where
  pub delay_in : ((n : ℕ) → delay_limit d ≡ at_most n → n ≤ 64)
      → delay_makes row d w v ≡ is_number (delay_bound (envelope_of table) (delay_limit d) w) v
  unfolding delay_limit delay_bound limit_unless map_limit is_number number_of
  delay_in small =
      elim (ℕ_discrete d 255) [
        | yes e ↦ rw e (no-delay_makes row w v 255 (omega arith))
        | no e ↦
            let number : delay_limit d ≡ at_most d = rw (ne_eqb d 255 e) refl in
            let little = small d number in
            let itself : number_of (delay_limit d) ≡ d = ap number_of number in
            rw (ne_eqb d 255 e) (delay_some row w v d little ∙ ap (λ (x : ℕ). eqb x v) (windowed (w + d) (omega arith)))
      ]

  pub buffer_in : buffer_makes row q w v ≡ is_number (buffer_bound (envelope_of table) (buffer_limit q) w) v
  unfolding buffer_limit buffer_bound limit_unless map_limit is_number
  buffer_in =
      elim (ℕ_discrete q 4294967295) [
        | yes e ↦ rw e (no-buffer_makes row w v 4294967295 refl)
        | no e ↦ rw (ne_eqb q 4294967295 e) (buffer_some row w v q e ∙ ap (λ (x : ℕ). eqb (x + q) v) (windowed (w - 1) (omega arith)))
      ]

module _ (table : List ℕ) (d q : ℕ) (trace : List ℕ) (mark s t v : ℕ) where
  -- A limit that is none marks no link ..
  pub no-delay-amount : mark ≡ 2 → d ≡ 255 → false ≡ is_number (amount_in table d q trace mark s t) v
  unfolding amount is_number delay_bound map_limit delay_limit limit_unless
  no-delay-amount m e = rw (m, e) refl

  pub no-buffer-amount : mark ≡ 3 → q ≡ 4294967295 → false ≡ is_number (amount_in table d q trace mark s t) v
  unfolding amount is_number buffer_bound map_limit buffer_limit limit_unless
  no-buffer-amount m e = rw (m, e) refl

  -- .. and neither does any other number.
  pub no-mark-amount : (mark ≡ 1 → ⊥) → (mark ≡ 2 → ⊥) → (mark ≡ 3 → ⊥) → false ≡ is_number (amount_in table d q trace mark s t) v
  unfolding amount is_number
  no-mark-amount n1 n2 n3 = rw (ne_eqb mark 1 n1, ne_eqb mark 2 n2, ne_eqb mark 3 n3) refl

module _ (table : List ℕ) (d q : ℕ) (trace : List ℕ) (last : ℕ) (row totals : List ℕ) (ready : Checkable table d q trace last row totals) (s t : ℕ) (inside : t ≤ last) (mark v : ℕ) where
  abbrev A : ℕ → ℕ
  A = arrived (arrivals trace)

  near : t ≤ 4096
  near = omega (arith, ready.short)

  module _ (up : s < t) where
    -- Mark 1: the packets arrived after s through t.
    pub amount-arrivals : mark ≡ 1 → row_sound row totals d q s t mark v ≡ is_number (amount_in table d q trace mark s t) v
    unfolding amount is_number
    amount-arrivals e =
        let rises = arrived_rises (arrivals trace) s t (omega arith) in
        sound-arrivals row totals d q s t mark v up near e
        ∙ rw (e, ready.arrives s (omega arith), ready.arrives t inside) (same_tests (v + A s) (A t) (A t - A s) v (λ h. omega arith) (λ h. omega arith))

    -- Mark 2: f(w+d).
    pub amount-delay : mark ≡ 2 → row_sound row totals d q s t mark v ≡ is_number (amount_in table d q trace mark s t) v
    unfolding amount
    amount-delay e =
        sound-delay row totals d q s t mark v up near e
        ∙ delay_in table d q row _ ready.windowed (t - s) (omega arith) v (set_up-accepted table d q ready.set_up).delayed
        ∙ sym (rw e refl)

    -- Mark 3: f(w-1) + q.
    pub amount-buffer : mark ≡ 3 → row_sound row totals d q s t mark v ≡ is_number (amount_in table d q trace mark s t) v
    unfolding amount
    amount-buffer e =
        sound-buffer row totals d q s t mark v up near e
        ∙ buffer_in table d q row _ ready.windowed (t - s) (omega arith) v
        ∙ sym (rw e refl)

    has-amount : row_sound row totals d q s t mark v ≡ is_number (amount_in table d q trace mark s t) v
    has-amount =
        elim (ℕ_discrete mark 1) [
          | yes e ↦ amount-arrivals e
          | no n1 ↦
              elim (ℕ_discrete mark 2) [
                | yes e ↦ amount-delay e
                | no n2 ↦
                    elim (ℕ_discrete mark 3) [
                      | yes e ↦ amount-buffer e
                      | no n3 ↦ sound_unmarked row totals d q s t mark v up near n1 n2 n3 ∙ no-mark-amount table d q trace mark s t v n1 n2 n3
                    ]
              ]
        ]

  -- The checker's test of a link.
  pub sound_in : row_sound row totals d q s t mark v ≡ link_in table d q trace s t mark v
  unfolding link_sound
  sound_in =
      elim (dec_lt s t) [
        | yes up ↦ has-amount up ∙ sym (rw (lt-ltb s t up) refl)
        | no p ↦ sound_falls row totals d q s t mark v (omega arith) ∙ sym (rw (le-ltb s t (omega arith)) refl)
      ]

-- One pass over the places checks a chain.
use Rattle.std.proofs.Common.{◌≡◌, ℕ, suc, ◌+◌, ◌-◌, ◌<◌, ◌≤◌, Bool, true, false, T, eqb, ltb, List, length, get_or, sym, refl, ◌∙◌, add-one, arith, lt-ltb}
use Rattle.calculus.proofs.Numbers.Distinct.{zero_one}
use Rattle.calculus.specs.Numbers.Limit.{Limit}
use Rattle.calculus.specs.Regulators.Trace.{arrivals}
use Rattle.calculus.specs.Regulators.Rows.{envelope_of}
use Rattle.chain_calculus.specs.Chain.{is_number, amount, start_sound, Chain, link_sound, links_sound, chain_sound}
use Rattle.calculus.proofs.Numbers.Rising.{rising}
use Rattle.chain_calculus.proofs.ChainChecker.{is-is_number, accepted_chain}
use Rattle.refusals.specs.Limits.{delay_limit, buffer_limit}
use Rattle.chain.specs.Chains.{link_in, sound_to}
use Rattle.chain.specs.Links.{row_sound}
use Rattle.chain.specs.Prepared.{Checkable}
use Rattle.chain.proofs.Amounts.{sound_in}

-- What does not hold is false.
refuted : (b : Bool) → (T b → ⊥) → b ≡ false
refuted true h = absurd (h tt)
refuted false h = refl

passed : (b : Bool) → T b → b ≡ true
passed true h = refl
passed false h = absurd h

module _ (table : List ℕ) (d q : ℕ) (trace : List ℕ) where
  abbrev D : Limit
  D = delay_limit d

  abbrev Q : Limit
  Q = buffer_limit q

  abbrev Sound : ℕ → List ℕ → List ℕ → List ℕ → ℕ → Type 0
  Sound t slots marks amounts places = Chain (envelope_of table) D Q (arrivals trace) t slots marks amounts places

  module _ (t : ℕ) (slots marks amounts : List ℕ) where
    unsound : (places : ℕ) → (Sound t slots marks amounts places → ⊥) → sound_to table d q trace t slots marks amounts places ≡ false
    unsound places fails = refuted (sound_to table d q trace t slots marks amounts places) (λ h. fails (accepted_chain (envelope_of table) D Q (arrivals trace) slots marks amounts t places h))

    -- No places, more than the lists have, or another first place: no.
    pub none_unsound : (places : ℕ) → places ≡ 0 → sound_to table d q trace t slots marks amounts places ≡ false
    none_unsound places e = unsound places (λ c. omega (arith, c.some))

    pub more_unsound : (places : ℕ) → length slots < places → sound_to table d q trace t slots marks amounts places ≡ false
    more_unsound places p = unsound places (λ c. omega (arith, c.fits))

    pub start_unsound : (places : ℕ) → start_sound slots marks amounts ≡ false → sound_to table d q trace t slots marks amounts places ≡ false
    unfolding start_sound
    start_unsound places e =
        unsound places
        (λ c.
        let holds : start_sound slots marks amounts ≡ true = rw (c.starts.0, c.starts.1, c.starts.2) refl in
        let z : ◌≡◌ {A = Bool} true false = cc in
        zero_one cc)

    -- The slots of a sound chain are not above its last.
    slots_below : (places : ℕ) → Sound t slots marks amounts places → (n : ℕ) → n < places → get_or slots n 0 ≤ t
    slots_below places c n p =
        omega (
          arith,
          c.ends,
          rising (λ k. get_or slots k 0) (places - 1) (λ k r. omega (arith, c.rises k (omega arith))) n (places - 1) (omega arith) (omega arith),
        )

    pub above_unsound : (places n : ℕ) → n < places → t < get_or slots n 0 → sound_to table d q trace t slots marks amounts places ≡ false
    above_unsound places n p above = unsound places (λ c. omega (arith, slots_below places c n p))

    -- An unsound link: no.
    link_unsound : (places n : ℕ) → n + 1 < places
        → link_in table d q trace (get_or slots n 0) (get_or slots (n + 1) 0) (get_or marks (n + 1) 0) (get_or amounts (n + 1) 0) ≡ false
        → sound_to table d q trace t slots marks amounts places ≡ false
    unfolding link_sound
    link_unsound places n p e =
        let e' : link_in table d q trace (get_or slots n 0) (get_or slots (suc n) 0) (get_or marks (suc n) 0) (get_or amounts (suc n) 0) ≡ false = rw add-one at e in
        unsound places
        (λ c.
        let up : ltb (get_or slots n 0) (get_or slots (suc n) 0) ≡ true = lt-ltb _ _ (c.rises n (omega arith)) in
        let has : is_number (amount (envelope_of table) D Q (arrivals trace) (get_or marks (suc n) 0) (get_or slots n 0) (get_or slots (suc n) 0)) (get_or amounts (suc n) 0) ≡ true =
        passed _ (is-is_number _ _ (c.amounts_right n (omega arith))) in
        let z : ◌≡◌ {A = Bool} true false = rw (up, has) at e' in
        zero_one cc)

    -- No links are sound, and one more that is sound keeps them so.
    pub links_none : links_sound (envelope_of table) D Q (arrivals trace) slots marks amounts 0 ≡ true
    unfolding links_sound
    links_none = refl

    links_more : (n : ℕ) → links_sound (envelope_of table) D Q (arrivals trace) slots marks amounts n ≡ true
        → link_in table d q trace (get_or slots n 0) (get_or slots (n + 1) 0) (get_or marks (n + 1) 0) (get_or amounts (n + 1) 0) ≡ true
        → links_sound (envelope_of table) D Q (arrivals trace) slots marks amounts (n + 1) ≡ true
    unfolding links_sound
    links_more n before here = rw add-one (rw (before, rw add-one at here) refl)

    -- The same of a link that is read off rows.
    module _ (windows arrived : List ℕ) (ready : Checkable table d q trace t windows arrived) (n : ℕ) (reached : get_or slots (n + 1) 0 ≤ t) where
      abbrev link : Bool
      link = row_sound windows arrived d q (get_or slots n 0) (get_or slots (n + 1) 0) (get_or marks (n + 1) 0) (get_or amounts (n + 1) 0)

      same : link ≡ link_in table d q trace (get_or slots n 0) (get_or slots (n + 1) 0) (get_or marks (n + 1) 0) (get_or amounts (n + 1) 0)
      same = sound_in table d q trace t windows arrived ready (get_or slots n 0) (get_or slots (n + 1) 0) reached (get_or marks (n + 1) 0) (get_or amounts (n + 1) 0)

      pub row_unsound : (places : ℕ) → n + 1 < places → link ≡ false → sound_to table d q trace t slots marks amounts places ≡ false
      row_unsound places p e = link_unsound places n p (sym same ∙ e)

      pub row_more : links_sound (envelope_of table) D Q (arrivals trace) slots marks amounts n ≡ true → link ≡ true
          → links_sound (envelope_of table) D Q (arrivals trace) slots marks amounts (n + 1) ≡ true
      row_more before e = links_more n before (sym same ∙ e)

    -- Where all else is sound, the last slot settles it.
    pub links_sound_lem : (places n : ℕ) → places ≡ suc n → places ≤ length slots → start_sound slots marks amounts ≡ true
        → links_sound (envelope_of table) D Q (arrivals trace) slots marks amounts n ≡ true
        → sound_to table d q trace t slots marks amounts places ≡ eqb (get_or slots n 0) t
    unfolding chain_sound
    links_sound_lem places n e fits start links = rw (e, lt-ltb n (length slots) (omega arith), start, links) refl

-- The found chain is put link by link at the lists' first places, and the rest is untouched.
use mathlib.Core.Path.{◌≡◌, refl, sym, ap, ◌∙◌}
use mathlib.Core.List.{List, [], ◌∷◌, ◌++◌, append_assoc}
use Prim.Native.Nat.{ℕ, zero, suc, ◌+◌, ◌-◌, ◌≤◌, ◌<◌}
use native.Mathlib.Decide.{dec_le}
use native.Mathlib.Omega.{arith}
use native.Mathlib.Numerals.{add-one}
use lib.ListN.{length, get_or, drop, set, length-append, length-drop}
use lib.Seq.{drop-cons, set_at}
use Rattle.calculus.specs.Numbers.Limit.{Limit}
use Rattle.calculus.specs.Regulators.Trace.{arrivals}
use Rattle.calculus.specs.Regulators.Rows.{envelope_of, admitted_by}
use Rattle.calculus.proofs.Numbers.Distinct.{zero_one}
use Rattle.chain_calculus.specs.Chain.{amount}
use Rattle.chain_calculus.specs.ChainFound.{link_amount}
use Rattle.chain_calculus.proofs.ChainLink.{link_found}
use Rattle.chain_calculus.proofs.ChainSlots.{chain-start, chain_slots_next, chain_marks_next, chain_amounts_next, length-chain_marks, length-chain_amounts, places_most}
use Rattle.refusals.specs.Limits.{delay_limit, buffer_limit}
use Rattle.refusals.proofs.AcceptedSettings.{set_up-accepted}
use Rattle.chain.specs.Refusals.{chain_refusal}
use Rattle.chain.proofs.ChainJudged.{chain-taken}
use Rattle.chain.specs.Chains.{slots_to, marks_to, amounts_to, places_to, first_to, mark_to}
use Rattle.certificate_calculus.specs.FoundLinks.{AdmittedFound}
use Rattle.certificate_calculus.proofs.ChainLinks.{chain_links}
use Rattle.found_links.specs.FoundRows.{FoundRows}
use Rattle.found_links.specs.OurRows.{OurRows, ChainRows}
use Rattle.found_links.specs.Written.{written}
use Rattle.found_links.specs.Put.{Put}

-- Writing no more places than there are leaves the length.
pub length-written : (p l : List ℕ) → length p ≤ length l → length (written p l) ≡ length l
unfolding written
length-written p l fits = simp (length-append, length-drop) (omega arith)

-- One place is the first.
written-first : (l : List ℕ) (v : ℕ) → 0 < length l → set l 0 v ≡ written (v ∷ []) l
unfolding written
written-first [] v p = absurd (omega arith)
written-first (x ∷ l) v p = refl

-- One place more.
written_next : (p l : List ℕ) (v : ℕ) → length p < length l → set (written p l) (length p) v ≡ written (p ++ (v ∷ [])) l
unfolding written
written_next p l v fits =
    let more : length (p ++ (v ∷ [])) ≡ suc (length p) = length-append p (v ∷ []) ∙ add-one (length p) in
    ap (λ (r : List ℕ). set (p ++ r) (length p) v) (drop-cons l (length p) 0 fits)
    ∙ set_at p (get_or l (length p) 0) (drop (suc (length p)) l) v (length p) refl
    ∙ sym (append_assoc p (v ∷ []) (drop (suc (length p)) l))
    ∙ ap (λ (n : ℕ). (p ++ (v ∷ [])) ++ drop n l) (sym more)

module _ (table : List ℕ) (d q : ℕ) (trace : List ℕ) where
  abbrev D : Limit
  D = delay_limit d

  abbrev Q : Limit
  Q = buffer_limit q

  -- A chain has at most one place more than its last slot's number.
  pub places_fit : (t : ℕ) → places_to table d q trace t ≤ suc t
  places_fit = places_most (envelope_of table) D Q (arrivals trace)

  -- The link to a slot starts before it, and what X grows by over it is its amount.
  pub link-early : (t : ℕ) → 1 ≤ t → first_to table d q trace t < t
  link-early t p = (link_found (envelope_of table) D Q (arrivals trace) t p).0

  -- It has a mark.
  link-marked : (t : ℕ) → 1 ≤ t → mark_to table d q trace t ≡ 0 → ⊥
  unfolding amount
  link-marked t p e = let tight = rw e at (link_found (envelope_of table) D Q (arrivals trace) t p).1 in zero_one cc

  pub link_grows : (t : ℕ) → 1 ≤ t → (reach : ℕ) → t ≤ reach → (admitted lost departed starts : List ℕ)
      → OurRows table d q trace reach admitted lost departed starts
      → get_or admitted t 0 - get_or admitted (first_to table d q trace t) 0 ≡ link_amount (envelope_of table) D Q (arrivals trace) t
  unfolding admitted_by
  link_grows t p reach inside admitted lost departed starts rows =
      let (early, _, grows) = link_found (envelope_of table) D Q (arrivals trace) t p in
      omega (arith, rows.admits t inside, rows.admits (first_to table d q trace t) (omega arith))

-- Rows that reach 64 slots beyond a slot reach the deadline of each slot before it.
pub chain_rows_lem : (table : List ℕ) (d q : ℕ) (trace : List ℕ) (t slots marks amounts : ℕ) → chain_refusal table d q trace t slots marks amounts ≡ 0
    → (admitted lost departed starts : List ℕ) → OurRows table d q trace (t + 64) admitted lost departed starts
    → ChainRows table d q trace t (t + 64) admitted lost departed starts
chain_rows_lem table d q trace t slots marks amounts none admitted lost departed starts rows =
    let ok = chain-taken table d q trace t slots marks amounts none in
    record {
      rows = rows;
      within = omega arith;
      due = λ n limit. omega (arith, (set_up-accepted table d q ok.set_up).delayed n limit);
    }

module _ (table : List ℕ) (d q : ℕ) (trace slots marks amounts : List ℕ) where
  -- The chain to slot 0 is 0, 0, 0.
  pub put_first : 0 < length slots → 0 < length marks → 0 < length amounts → Put table d q trace 0 slots marks amounts 1 (set slots 0 0) (set marks 0 0) (set amounts 0 0)
  put_first s m v =
      let (ss, ms, vs) = chain-start (envelope_of table) (delay_limit d) (buffer_limit q) (arrivals trace) in
      record {
        placed = rw ss refl;
        slotted = rw ss (written-first slots 0 s);
        marked = rw ms (written-first marks 0 m);
        counted = rw vs (written-first amounts 0 v);
      }

  -- Any other slot's is that to its link's first slot, with the slot, the mark and the amount after it.
  pub put_next : (t places mark v : ℕ) (slots' marks' amounts' : List ℕ) → 1 ≤ t → t < length slots → t < length marks → t < length amounts
      → Put table d q trace (first_to table d q trace t) slots marks amounts places slots' marks' amounts'
      → mark ≡ mark_to table d q trace t → v ≡ link_amount (envelope_of table) (delay_limit d) (buffer_limit q) (arrivals trace) t
      → Put table d q trace t slots marks amounts (places + 1) (set slots' places t) (set marks' places mark) (set amounts' places v)
  put_next zero places mark v slots' marks' amounts' p ls lm lv put em ev = absurd (omega arith)
  put_next (suc t) places mark v slots' marks' amounts' p ls lm lv put em ev =
      let first = first_to table d q trace (suc t) in
      let few : places_to table d q trace first ≤ suc t = omega (arith, places_fit table d q trace first, link-early table d q trace (suc t) p) in
      let ms : length (marks_to table d q trace first) ≡ places_to table d q trace first = length-chain_marks (envelope_of table) (delay_limit d) (buffer_limit q) (arrivals trace) first in
      let vs : length (amounts_to table d q trace first) ≡ places_to table d q trace first = length-chain_amounts (envelope_of table) (delay_limit d) (buffer_limit q) (arrivals trace) first in
      record {
        placed = rw (chain_slots_next (envelope_of table) (delay_limit d) (buffer_limit q) (arrivals trace) t, length-append) (ap (λ (n : ℕ). n + 1) put.placed);
        slotted = rw (chain_slots_next (envelope_of table) (delay_limit d) (buffer_limit q) (arrivals trace) t, put.slotted, put.placed) (written_next (slots_to table d q trace first) slots (suc t) (omega arith));
        marked = rw (chain_marks_next (envelope_of table) (delay_limit d) (buffer_limit q) (arrivals trace) t, put.marked, put.placed, ← ms, em) (written_next (marks_to table d q trace first) marks (mark_to table d q trace (suc t)) (omega arith));
        counted = rw (chain_amounts_next (envelope_of table) (delay_limit d) (buffer_limit q) (arrivals trace) t, put.counted, put.placed, ← vs, ev) (written_next (amounts_to table d q trace first) amounts (link_amount (envelope_of table) (delay_limit d) (buffer_limit q) (arrivals trace) (suc t)) (omega arith));
      }

  -- The link that the rows give of a slot whose deadline they reach.
  module _ (last reach : ℕ) (admitted lost departed starts : List ℕ) (ready : ChainRows table d q trace last reach admitted lost departed starts)
      (t first mark : ℕ) (inside : t ≤ last)
      (found : (f a u v : ℕ → ℕ) → FoundRows f (delay_limit d) (buffer_limit q) a reach u v admitted lost departed starts → 1 ≤ t
      → AdmittedFound f (delay_limit d) (buffer_limit q) a reach u t first mark) where
    same : 1 ≤ t → (first ≡ first_to table d q trace t) × (mark ≡ mark_to table d q trace t)
    unfolding admitted_by
    same some =
        chain_links (envelope_of table) (delay_limit d) (buffer_limit q) (arrivals trace) reach t some (λ n limit. omega (arith, ready.due n limit)) first mark
        (found _ _ _ _ ready.rows some)

    -- Slot 0 alone ends none ..
    pub put-start : (slots' marks' amounts' : List ℕ) → mark ≡ 0 → 0 < length slots → 0 < length marks → 0 < length amounts
        → slots' ≡ set slots 0 0 → marks' ≡ set marks 0 0 → amounts' ≡ set amounts 0 0 → Put table d q trace t slots marks amounts 1 slots' marks' amounts'
    put-start slots' marks' amounts' none s m v es em ev =
        elim (dec_le 1 t) [
          | yes some ↦ absurd (link-marked table d q trace t some (sym (same some).1 ∙ none))
          | no w ↦ let e : t ≡ 0 = omega arith in rw (e, es, em, ev) (put_first s m v)
        ]

    -- .. and any other slot's is put after the chain to its first slot.
    pub put-link : (places v : ℕ) (slots₁ marks₁ amounts₁ slots' marks' amounts' : List ℕ) → first < t → t < length slots → t < length marks
        → t < length amounts → v ≡ get_or admitted t 0 - get_or admitted first 0
        → Put table d q trace first slots marks amounts places slots₁ marks₁ amounts₁
        → slots' ≡ set slots₁ places t → marks' ≡ set marks₁ places mark → amounts' ≡ set amounts₁ places v
        → Put table d q trace t slots marks amounts (places + 1) slots' marks' amounts'
    put-link places v slots₁ marks₁ amounts₁ slots' marks' amounts' early ls lm lv grows put es em ev =
        let (begins, marked) = same (omega arith) in
        rw (es, em, ev)
        (put_next t places mark v slots₁ marks₁ amounts₁ (omega arith) ls lm lv (rw begins at put) marked
        ((rw begins at grows) ∙ link_grows table d q trace t (omega arith) reach (omega (arith, ready.within)) admitted lost departed starts ready.rows))

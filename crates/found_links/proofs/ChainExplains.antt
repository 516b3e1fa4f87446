-- Each loss with its chain (document 02, request 2.8): what an accepted finder leaves in the lists is the chain described, the checker
-- accepts it and its sum is X(t), so that the loss by slot t is what the chain explains. Nothing is assumed of the functions but their
-- contracts.
use mathlib.Core.Path.{◌≡◌, refl, sym, ap, ◌∙◌}
use mathlib.Core.Bool.{Bool, true, false}
use mathlib.Core.List.{List}
use Prim.Native.Nat.{ℕ, zero, suc, ◌-◌, ◌≤◌}
use native.Mathlib.Omega.{arith}
use lib.Dec.{T}
use lib.ListN.{length, take}
use lib.Seq.{take_at}
use Rattle.calculus.proofs.Numbers.Distinct.{zero_one}
use Rattle.calculus.specs.Regulators.Clipper.{arrived}
use Rattle.calculus.specs.Regulators.Regulator.{lost}
use Rattle.calculus.specs.Regulators.Trace.{arrivals, sum_to}
use Rattle.calculus.specs.Regulators.Rows.{envelope_of, admitted_by, lost_by}
use Rattle.chain_calculus.specs.ChainDescribed.{Described}
use Rattle.chain_calculus.proofs.ChainFound.{chain_attains, chain_described}
use Rattle.chain_calculus.proofs.ChainSlots.{length-chain_marks, length-chain_amounts}
use Rattle.refusals.specs.Limits.{delay_limit, buffer_limit}
use Rattle.orders.specs.Answered.{unless_refused}
use Rattle.chain.specs.Refusals.{chain_refusal}
use Rattle.chain.specs.Chains.{slots_to, marks_to, amounts_to, places_to, sound_to}
use Rattle.found_links.specs.Written.{written}
use Rattle.chain.specs.CheckerAnswer.{checked_given, checked_of}
use Rattle.found_links.specs.FinderAnswer.{found_by, Finding}
use Rattle.found_links.specs.FinderAnswer as found
use Rattle.chain.specs.CheckerAnswer as checked
use Rattle.chain.proofs.ChainJudged.{chain-taken}
use Rattle.found_links.proofs.FoundLinksPut.{length-written, places_fit}
use Rattle.chain.proofs.CheckerAnswer.{check_told}

found-places : (k n places : ℕ) → found_by k n ≡ found.Places places → (k ≡ 0) × (places ≡ n)
unfolding found_by
found-places zero n places e = (refl, cc)
found-places (suc k) n places e = absurd (zero_one cc)

held : (b : Bool) → T b → true ≡ b
held true h = refl
held false h = absurd h

-- A written list begins with what was written.
begins : (p l : List ℕ) (n : ℕ) → length p ≡ n → take n (written p l) ≡ p
unfolding written
begins p l n e = take_at p _ n e

module _ (table : List ℕ) (d q : ℕ) (trace : List ℕ) (t : ℕ) where
  abbrev X : ℕ → ℕ
  X = admitted_by table (delay_limit d) (buffer_limit q) trace

  -- the finder, from lists of any numbers to what it leaves in them
  module _ (slots marks amounts : List ℕ) (places : ℕ) (slots' marks' amounts' : List ℕ)
      (finding : Finding table d q trace t slots marks amounts (found.Places places) slots' marks' amounts') where
    none₀ : chain_refusal table d q trace t (length slots) (length marks) (length amounts) ≡ 0
    none₀ = (found-places _ _ places (sym finding.answered)).0

    -- The lists are the found chain and then what they were.
    pub chain-listed : (places ≡ places_to table d q trace t) × (slots' ≡ written (slots_to table d q trace t) slots)
        × (marks' ≡ written (marks_to table d q trace t) marks) × (amounts' ≡ written (amounts_to table d q trace t) amounts)
    unfolding unless_refused
    chain-listed =
        ((found-places _ _ places (sym finding.answered)).1, rw none₀ at finding.slotted, rw none₀ at finding.marked, rw none₀ at finding.counted)

    long : (length slots ≡ suc (length trace)) × (length marks ≡ suc (length trace)) × (length amounts ≡ suc (length trace)) × (t ≤ length trace)
    long =
        let ok = chain-taken table d q trace t (length slots) (length marks) (length amounts) none₀ in
        (ok.long_slots, ok.long_marks, ok.long_amounts, ok.inside)

    marks_many : length (marks_to table d q trace t) ≡ places_to table d q trace t
    marks_many = length-chain_marks (envelope_of table) (delay_limit d) (buffer_limit q) (arrivals trace) t

    amounts_many : length (amounts_to table d q trace t) ≡ places_to table d q trace t
    amounts_many = length-chain_amounts (envelope_of table) (delay_limit d) (buffer_limit q) (arrivals trace) t

    -- No list is longer or shorter for it.
    same_long : (length slots' ≡ length slots) × (length marks' ≡ length marks) × (length amounts' ≡ length amounts)
    same_long =
        let (_, ss, ms, vs) = chain-listed in
        let few : places_to table d q trace t ≤ suc t = places_fit table d q trace t in
        let (ls, lm, lv, inside) = long in (
          ap length ss ∙ length-written _ slots (omega arith),
          ap length ms ∙ length-written _ marks (omega (arith, marks_many)),
          ap length vs ∙ length-written _ amounts (omega (arith, amounts_many)),
        )

    -- They begin with the found chain, which they have room for.
    begun : (take (places_to table d q trace t) slots' ≡ slots_to table d q trace t) × (take (places_to table d q trace t) marks' ≡ marks_to table d q trace t)
        × (take (places_to table d q trace t) amounts' ≡ amounts_to table d q trace t) × (places_to table d q trace t ≤ length slots')
    begun =
        let (_, ss, ms, vs) = chain-listed in
        let few : places_to table d q trace t ≤ suc t = places_fit table d q trace t in
        let (ls, _, _, inside) = long in
        let (ls', _, _) = same_long in
        (rw ss (begins _ slots _ refl), rw ms (begins _ marks _ marks_many), rw vs (begins _ amounts _ amounts_many), omega arith)

    -- They are the chain that document 02 describes ..
    pub chain-is_described : Described (envelope_of table) (delay_limit d) (buffer_limit q) (arrivals trace) t slots' marks' amounts' places
    chain-is_described =
        let (ss, ms, vs, fits) = begun in
        rw chain-listed.0 (chain_described (envelope_of table) (delay_limit d) (buffer_limit q) (arrivals trace) t slots' marks' amounts' ss ms vs fits)

    attained : T (sound_to table d q trace t slots' marks' amounts' places) × (sum_to amounts' places ≡ X t)
    unfolding admitted_by
    attained =
        let (ss, ms, vs, fits) = begun in
        rw chain-listed.0 (chain_attains (envelope_of table) (delay_limit d) (buffer_limit q) (arrivals trace) t slots' marks' amounts' ss ms vs fits)

    -- .. their sum is X(t) ..
    pub chain-sum : sum_to amounts' places ≡ admitted_by table (delay_limit d) (buffer_limit q) trace t
    chain-sum = attained.1

    -- .. so the loss by slot t is exactly what the chain explains ..
    pub chain-loss : lost_by table (delay_limit d) (buffer_limit q) trace t ≡ arrived (arrivals trace) t - sum_to amounts' places
    unfolding lost_by lost admitted_by
    chain-loss = rw chain-sum refl

    -- .. and the checker accepts it.
    pub chain_checks : checked_of table d q trace t slots' marks' amounts' places ≡ checked.Sound
    unfolding checked_given
    chain_checks =
        let (ls, lm, lv) = same_long in
        sym (check_told table d q trace t slots' marks' amounts' places (rw (ls, lm, lv) none₀) true (held _ attained.0))

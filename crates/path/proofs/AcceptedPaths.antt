-- Every path that has what is asked gets no number, whatever the order of its tables; tables beyond the number of stages are not
-- looked at.
use mathlib.Core.Path.{◌≡◌, refl}
use mathlib.Core.List.{List, [], ◌∷◌, Permᴰ}
use Prim.Native.Nat.{ℕ, suc, ◌*◌, ◌≤◌, ◌<◌}
use native.Mathlib.Omega.{arith}
use lib.ListN.{length, get_or}
use borrow.Author.Tests.{le-ltb, eq-eqb}
use Rattle.path_calculus.proofs.PathStages.{each_order}
use Rattle.orders.specs.Refusal.{◌when◌, ◌or_else◌}
use Rattle.refusals.specs.Table.{table_refusal}
use Rattle.refusals.specs.Lengths.{length_refusal, lists_refusal}
use Rattle.path.specs.Refusals.{stages_refusal, tables_of, tables_refusal, path_refusal}
use Rattle.path.proofs.Merging.{judged_at}
use Rattle.path.proofs.RefusalParts.{AcceptedPath, path-accepted}

stages-taken : (stages : ℕ) → 1 ≤ stages → stages ≤ 4 → stages_refusal stages ≡ 0
unfolding stages_refusal ◌when◌ ◌or_else◌
stages-taken stages some few = rw (le-ltb stages 1 some, le-ltb 4 stages few) refl

length_taken : (slots : ℕ) → slots ≤ 4096 → length_refusal slots ≡ 0
unfolding length_refusal ◌when◌
length_taken slots short = rw (le-ltb 4096 slots short) refl

list-taken : (places list : ℕ) → list ≡ places → lists_refusal places list ≡ 0
unfolding lists_refusal ◌when◌
list-taken places list same = rw (eq-eqb list places same) refl

pub path-taken : (stages : ℕ) (tables : List (List ℕ)) (d q : ℕ) (trace : List ℕ) (ins drops outs : ℕ)
    → AcceptedPath stages tables d q trace ins drops outs → path_refusal stages tables d q trace ins drops outs ≡ 0
unfolding path_refusal ◌or_else◌
path-taken stages tables d q trace ins drops outs ok =
    rw (
      stages-taken stages ok.some_stages ok.few_stages,
      ok.tabled,
      ok.limited,
      length_taken (length trace) ok.short,
      list-taken (length trace) ins ok.long_ins,
      list-taken (length trace) drops ok.long_drops,
      list-taken (stages * length trace) outs ok.long_outs,
    ) ok.counted

-- Tables of which each gets no number get none together, in any order.
tables-taken : (tables : List (List ℕ)) → ((i : ℕ) → i < length tables → table_refusal (get_or tables i []) ≡ 0) → tables_refusal tables ≡ 0
unfolding tables_refusal ◌or_else◌
tables-taken [] each = refl
tables-taken (table ∷ tables) each = rw (each 0 (omega arith)) (tables-taken tables (λ i p. each (suc i) (omega arith)))

pub path_order-taken : (stages : ℕ) (tables others : List (List ℕ)) (d q : ℕ) (trace : List ℕ) (ins drops outs : ℕ) → Permᴰ tables others
    → path_refusal stages tables d q trace ins drops outs ≡ 0 → path_refusal stages others d q trace ins drops outs ≡ 0
path_order-taken stages tables others d q trace ins drops outs order none =
    let ok = path-accepted stages tables d q trace ins drops outs none in
    path-taken stages others d q trace ins drops outs
    (record {
      some_stages = ok.some_stages;
      few_stages = ok.few_stages;
      tabled = tables-taken others (each_order (λ l. table_refusal l ≡ 0) order (judged_at tables ok.tabled));
      limited = ok.limited;
      short = ok.short;
      long_ins = ok.long_ins;
      long_drops = ok.long_drops;
      long_outs = ok.long_outs;
      counted = ok.counted;
    })

-- Tables beyond the number of stages are not looked at.
module _ (first second third fourth second₂ third₂ fourth₂ : List ℕ) where
  pub one_looked_at : tables_of 1 first second third fourth ≡ tables_of 1 first second₂ third₂ fourth₂
  unfolding tables_of
  one_looked_at = refl

  pub two_looked_at : tables_of 2 first second third fourth ≡ tables_of 2 first second third₂ fourth₂
  unfolding tables_of
  two_looked_at = refl

  pub three_looked_at : tables_of 3 first second third fourth ≡ tables_of 3 first second third fourth₂
  unfolding tables_of
  three_looked_at = refl

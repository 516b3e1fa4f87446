-- Laws of judging a path: its tables one by one, and what a path without a number is known to have.
use mathlib.Core.Path.{◌≡◌, refl, ap, ◌∙◌}
use mathlib.Core.List.{List, []}
use Prim.Native.Nat.{ℕ, zero, suc, ◌+◌, ◌*◌, ◌≤◌, ◌<◌}
use native.Mathlib.Omega.{arith}
use native.Mathlib.Numerals.{add-one}
use lib.ListN.{length, get_or, take, drop, length-take, drop_of_length-le}
use lib.Seq.{drop-cons, get_or-take}
use lib.Dec.{ltb}
use borrow.Author.Tests.{ltb-false}
use Rattle.orders.specs.Refusal.{◌when◌, ◌or_else◌}
use Rattle.refusals.specs.Table.{table_refusal}
use Rattle.orders.proofs.Refusals.{or_else_none, when_none}
use Rattle.refusals.specs.Limits.{limits_refusal}
use Rattle.refusals.specs.Lengths.{length_refusal, lists_refusal, counts_refusal}
use Rattle.refusals.proofs.Measured.{list_same}
use Rattle.path.specs.Refusals.{stages_refusal, tables_refusal, path_refusal}

-- The first number that applies, however it is grouped; no number adds nothing.
pub or_else_groups : (first second third : ℕ) → (first or_else second) or_else third ≡ first or_else second or_else third
unfolding ◌or_else◌
or_else_groups zero second third = refl
or_else_groups (suc first) second third = refl

pub or_else_nothing : (first : ℕ) → first or_else 0 ≡ first
unfolding ◌or_else◌
or_else_nothing zero = refl
or_else_nothing (suc first) = refl

-- A number of stages that gets no number is 1 to 4.
pub stages-accepted : (stages : ℕ) → stages_refusal stages ≡ 0 → (1 ≤ stages) × (stages ≤ 4)
unfolding stages_refusal
stages-accepted stages e =
    let (low, high) = or_else_none (17 when ltb stages 1) _ e in
    (ltb-false stages 1 (when_none 16 (ltb stages 1) low), ltb-false 4 stages (when_none 16 (ltb 4 stages) high))

-- The tables from one on are judged by its own number first.
tables_here : (tables : List (List ℕ)) (i : ℕ) → i < length tables
    → tables_refusal (drop i tables) ≡ table_refusal (get_or tables i []) or_else tables_refusal (drop (i + 1) tables)
unfolding tables_refusal
tables_here tables i p = rw (drop-cons tables i [] p, add-one i)

module _ (stages : ℕ) (all : List (List ℕ)) (i : ℕ) (inside : i < stages) (there : stages ≤ length all) where
  pub tables_left : tables_refusal (drop i (take stages all)) ≡ table_refusal (get_or all i []) or_else tables_refusal (drop (i + 1) (take stages all))
  tables_left =
      tables_here (take stages all) i (omega (arith, length-take stages all))
      ∙ ap (λ (n : ℕ). n or_else tables_refusal (drop (i + 1) (take stages all))) (ap table_refusal (get_or-take stages all i [] inside))

  -- A table that gets no number leaves the judgment to the tables after it.
  pub tables_fine : table_refusal (get_or all i []) ≡ 0 → tables_refusal (drop i (take stages all)) ≡ tables_refusal (drop (i + 1) (take stages all))
  unfolding ◌or_else◌
  tables_fine e = tables_left ∙ rw e

pub tables_done : (stages : ℕ) (all : List (List ℕ)) → tables_refusal (drop stages (take stages all)) ≡ 0
unfolding tables_refusal
tables_done stages all = rw (drop_of_length-le (take stages all) {i = stages} (omega (arith, length-take stages all)))

-- what a path that gets no number is known to have
pub record AcceptedPath (stages : ℕ) (tables : List (List ℕ)) (d q : ℕ) (trace : List ℕ) (ins drops outs : ℕ) : Type 0 where
  pub some_stages : 1 ≤ stages
  pub few_stages : stages ≤ 4
  pub tabled : tables_refusal tables ≡ 0
  pub limited : limits_refusal d q ≡ 0
  pub short : length trace ≤ 4096
  pub long_ins : ins ≡ length trace
  pub long_drops : drops ≡ length trace
  pub long_outs : outs ≡ stages * length trace
  pub counted : counts_refusal trace ≡ 0

-- A length that gets no number is at most 4,096, and a list that gets none is as long as it has to be.
pub length-accepted : (slots : ℕ) → length_refusal slots ≡ 0 → slots ≤ 4096
unfolding length_refusal
length-accepted slots e = ltb-false 4096 slots (when_none 9 (ltb 4096 slots) e)

pub path-accepted : (stages : ℕ) (tables : List (List ℕ)) (d q : ℕ) (trace : List ℕ) (ins drops outs : ℕ)
    → path_refusal stages tables d q trace ins drops outs ≡ 0 → AcceptedPath stages tables d q trace ins drops outs
unfolding path_refusal
path-accepted stages tables d q trace ins drops outs e =
    let T : ℕ = length trace in
    let (some, others) = or_else_none (stages_refusal stages) _ e in
    let (tabled, limits) = or_else_none (tables_refusal tables) _ others in
    let (limited, lengths) = or_else_none (limits_refusal d q) _ limits in
    let (short, later) = or_else_none (length_refusal T) _ lengths in
    let (lists, counted) = or_else_none (lists_refusal T ins or_else lists_refusal T drops or_else lists_refusal (stages * T) outs) _ later in
    let (first, rest) = or_else_none (lists_refusal T ins) _ lists in
    let (second, third) = or_else_none (lists_refusal T drops) _ rest in
    record {
      some_stages = (stages-accepted stages some).0;
      few_stages = (stages-accepted stages some).1;
      tabled = tabled;
      limited = limited;
      short = length-accepted T short;
      long_ins = list_same T ins first;
      long_drops = list_same T drops second;
      long_outs = list_same (stages * T) outs third;
      counted = counted;
    }

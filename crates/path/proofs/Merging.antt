-- The merged table in its room: each table lowers the places that it reaches, and after the last of them the room begins with the
-- merged table.
use mathlib.Core.Path.{◌≡◌, refl, ◌∙◌}
use mathlib.Core.List.{List, [], ◌∷◌, ◌++◌}
use Prim.Native.Nat.{ℕ, zero, suc, ◌≤◌, ◌<◌, min, max}
use native.Mathlib.Decide.{dec_le}
use native.Mathlib.Omega.{arith}
use lib.ListN.{length, get_or, take, length-take, get_or-eq_default}
use lib.Seq.{take-suc, get_or-take, length-take-le, ext_get_or}
use Rattle.path_calculus.specs.Merged.{merge, merged}
use Rattle.path_calculus.proofs.Merged.{merge_none, length-merge, merged_long}
use Rattle.orders.specs.Refusal.{◌or_else◌}
use Rattle.refusals.specs.Table.{table_refusal}
use Rattle.orders.proofs.Refusals.{or_else_none}
use Rattle.refusals.proofs.TableJudged.{table-accepted}
use Rattle.path.specs.Refusals.{tables_refusal}
use Rattle.path.specs.PathWork.{no_entry, LoweredBy}

-- Inside a list what stands for no entry is no matter.
pub get_d_any : (l : List ℕ) (k a b : ℕ) → k < length l → get_or l k a ≡ get_or l k b
get_d_any [] k a b p = absurd (omega arith)
get_d_any (x ∷ l) zero a b p = refl
get_d_any (x ∷ l) (suc k) a b p = get_d_any l k a b (omega arith)

-- no place is above the number for no entry
abbrev Small : List ℕ → Type 0
Small l = (k : ℕ) → get_or l k no_entry ≤ no_entry

-- An accepted table's entries are that small, and it fits the room.
table_small : (table : List ℕ) → table_refusal table ≡ 0 → Small table
table_small table e k =
    elim (dec_le (suc k) (length table)) [
      | yes p ↦ omega (arith, get_d_any table k no_entry 0 p, (table-accepted table e).small k)
      | no p ↦ omega (arith, get_or-eq_default table no_entry {n = k} (omega arith))
    ]

table_fits : (table : List ℕ) → table_refusal table ≡ 0 → length table ≤ 65
table_fits table e = omega (arith, (table-accepted table e).last_to)

-- Each of several accepted tables is accepted, and so are the first of them.
pub judged_at : (tables : List (List ℕ)) → tables_refusal tables ≡ 0 → (i : ℕ) → i < length tables → table_refusal (get_or tables i []) ≡ 0
unfolding tables_refusal
judged_at [] e i p = absurd (omega arith)
judged_at (table ∷ tables) e zero p = (or_else_none (table_refusal table) _ e).0
judged_at (table ∷ tables) e (suc i) p = judged_at tables (or_else_none (table_refusal table) _ e).1 i (omega arith)

judged_fewer : (n stages : ℕ) (all : List (List ℕ)) → n ≤ stages → tables_refusal (take stages all) ≡ 0 → tables_refusal (take n all) ≡ 0
unfolding tables_refusal ◌or_else◌
judged_fewer zero stages all p e = refl
judged_fewer (suc n) zero all p e = absurd (omega arith)
judged_fewer (suc n) (suc stages) [] p e = refl
judged_fewer (suc n) (suc stages) (table ∷ all) p e =
    let (here, later) = or_else_none (table_refusal table) _ e in
    rw here (judged_fewer n stages all (omega arith) later)

-- At each window the merged table has the smaller entry, none standing for a large one.
merge_at : (xs ys : List ℕ) → Small xs → Small ys → (k : ℕ) → get_or (merge xs ys) k no_entry ≡ min (get_or xs k no_entry) (get_or ys k no_entry)
unfolding merge
merge_at [] ys p q k = omega (arith, q k)
merge_at (x ∷ xs) [] p q k = omega (arith, p k)
merge_at (x ∷ xs) (y ∷ ys) p q zero = refl
merge_at (x ∷ xs) (y ∷ ys) p q (suc k) = merge_at xs ys (λ j. p (suc j)) (λ j. q (suc j)) k

merged_small : (tables : List (List ℕ)) → tables_refusal tables ≡ 0 → Small (merged tables)
unfolding merged tables_refusal
merged_small [] e k = omega arith
merged_small (table ∷ tables) e k =
    let (here, later) = or_else_none (table_refusal table) _ e in
    omega (arith, merge_at table (merged tables) (table_small table here) (merged_small tables later) k, table_small table here k)

-- One more table lowers the merged table's entries to its own where these are smaller.
merged_more : (tables : List (List ℕ)) (table : List ℕ) → tables_refusal tables ≡ 0 → table_refusal table ≡ 0
    → (length (merged (tables ++ (table ∷ []))) ≡ max (length (merged tables)) (length table))
    × ((k : ℕ) → get_or (merged (tables ++ (table ∷ []))) k no_entry ≡ min (get_or (merged tables) k no_entry) (get_or table k no_entry))
unfolding merged tables_refusal
merged_more [] table e t = rw (merge_none table) (omega arith, λ k. omega (arith, table_small table t k))
merged_more (first ∷ tables) table e t =
    let (here, later) = or_else_none (table_refusal first) _ e in
    let (long, each) = merged_more tables table later t in
    let rest : List ℕ = merged (tables ++ (table ∷ [])) in
    let small : Small rest = λ k. omega (arith, each k, table_small table t k) in (
      omega (arith, long, length-merge first rest, length-merge first (merged tables)),
      λ k. omega (arith, each k, merge_at first rest (table_small first here) small k, merge_at first (merged tables) (table_small first here) (merged_small tables later) k),
    )

-- the room after some tables: their merged table, and no entries behind it
pub record Lowered (tables : List (List ℕ)) (entries : ℕ) (room : List ℕ) : Type 0 where
  pub long : length room ≡ 65
  pub counted : entries ≡ length (merged tables)
  pub each : (k : ℕ) → k < 65 → get_or room k 0 ≡ get_or (merged tables) k no_entry

pub lowered_none : (room : List ℕ) → length room ≡ 65 → ((k : ℕ) → k < 65 → get_or room k 0 ≡ no_entry) → Lowered [] 0 room
unfolding merged
lowered_none room long blank = record { long = long; counted = refl; each = blank }

-- The room begins with the merged table, which fits it.
pub lowered-table : (tables : List (List ℕ)) (entries : ℕ) (room : List ℕ) → tables_refusal tables ≡ 0 → Lowered tables entries room
    → (entries ≤ 65) × (length room ≡ 65) × (take entries room ≡ merged tables)
lowered-table tables entries room judged low =
    let fits : entries ≤ 65 = omega (arith, low.counted, merged_long tables 65 (λ i p. table_fits (get_or tables i []) (judged_at tables judged i p))) in
    let front : length (take entries room) ≡ entries = length-take-le entries room (omega (arith, low.long)) in (
      fits,
      low.long,
      ext_get_or 0 (take entries room) (merged tables) (front ∙ low.counted)
          (λ k p.
          get_or-take entries room k 0 (omega arith) ∙ low.each k (omega arith) ∙ get_d_any (merged tables) k no_entry 0 (omega (arith, low.counted))),
    )

module _ (stages : ℕ) (all : List (List ℕ)) (judged : tables_refusal (take stages all) ≡ 0) (n : ℕ) (inside : n < stages) (there : n < length all)
    (entries : ℕ) (room : List ℕ) (low : Lowered (take n all) entries room) where
  fine : table_refusal (get_or all n []) ≡ 0
  fine =
      rw (get_or-take stages all n []) at (judged_at (take stages all) judged n (omega (arith, length-take stages all)))

  earlier : tables_refusal (take n all) ≡ 0
  earlier = judged_fewer n stages all (omega arith) judged

  -- The next table fits the room, whose places are small.
  pub lowered_asks : (length (get_or all n []) ≤ length room) × ((k : ℕ) → get_or room k 0 ≤ no_entry)
  lowered_asks = (
    omega (arith, low.long, table_fits (get_or all n []) fine),
    λ k. elim (dec_le (suc k) 65) [
      | yes p ↦ omega (arith, low.each k p, merged_small (take n all) earlier k)
      | no p ↦ omega (arith, get_or-eq_default room 0 {n = k} (omega (arith, low.long)))
    ],
  )

  -- Lowered by it, the room has the merged table of one table more.
  pub lowered_next : (more : ℕ) (room' : List ℕ) → LoweredBy (get_or all n []) entries room more room' → Lowered (take (suc n) all) more room'
  lowered_next more room' by =
      let (counted, merges) = merged_more (take n all) (get_or all n []) earlier fine in
      rw (take-suc all n [] there) (record {
        long = by.long ∙ low.long;
        counted = omega (arith, low.counted, by.counted);
        each = λ k p. omega (arith, by.each k, low.each k p, merges k);
      })

-- Laws of the merged table: it is below every table that reaches a window, and one of them; the order of the tables is no matter.
use mathlib.Core.Path.{◌≡◌, refl, ap₂, ◌∙◌}
use mathlib.Core.List.{List, [], ◌∷◌, Permᴰ}
use mathlib.Core.Logic.{◌⊎◌, inl, inr}
use Prim.Native.Nat.{ℕ, zero, suc, ◌-◌, ◌≤◌, ◌<◌, max}
use native.Mathlib.Decide.{dec_le}
use native.Mathlib.Omega.{arith}
use lib.ListN.{length, get_or}
use Rattle.calculus.specs.Envelopes.Closure.{Table}
use Rattle.path_calculus.specs.Path.{Stages}
use Rattle.path_calculus.specs.Merged.{merge, merged}

-- A table merged with none is itself.
pub merge_none : (xs : List ℕ) → merge xs [] ≡ xs
unfolding merge
merge_none [] = refl
merge_none (x ∷ xs) = refl

-- Two tables may change places.
merge_swap : (xs ys zs : List ℕ) → merge xs (merge ys zs) ≡ merge ys (merge xs zs)
unfolding merge
merge_swap [] ys zs = refl
merge_swap (x ∷ xs) [] zs = refl
merge_swap (x ∷ xs) (y ∷ ys) [] = ap₂ (λ (n : ℕ) (l : List ℕ). n ∷ l) (omega arith) (rw (merge_none xs, merge_none ys) at (merge_swap xs ys []))
merge_swap (x ∷ xs) (y ∷ ys) (z ∷ zs) = ap₂ (λ (n : ℕ) (l : List ℕ). n ∷ l) (omega arith) (merge_swap xs ys zs)

merge_comm : (xs ys : List ℕ) → merge xs ys ≡ merge ys xs
merge_comm xs ys = rw (merge_none xs, merge_none ys) at (merge_swap xs ys [])

-- Any order of the tables gives the same merged table.
pub merged_order : {tables others : List (List ℕ)} → Permᴰ tables others → merged tables ≡ merged others
unfolding merged
merged_order Permᴰ.nil = refl
merged_order (Permᴰ.cons e rest) = ap₂ merge e (merged_order rest)
merged_order (Permᴰ.swap {a = a} {b = b} {l = l} e f) = merge_swap a b (merged l) ∙ ap₂ (λ (x y : List ℕ). merge x (merge y (merged l))) f e
merged_order (Permᴰ.trans first then) = merged_order first ∙ merged_order then

-- A merged table ends where the longer one does.
pub length-merge : (xs ys : List ℕ) → length (merge xs ys) ≡ max (length xs) (length ys)
unfolding merge
length-merge [] ys = omega arith
length-merge (x ∷ xs) [] = omega arith
length-merge (x ∷ xs) (y ∷ ys) = omega (arith, length-merge xs ys)

-- It is at most either table where that has an entry ..
merge_left : (xs ys : List ℕ) (k : ℕ) → k < length xs → get_or (merge xs ys) k 0 ≤ get_or xs k 0
unfolding merge
merge_left [] ys k p = absurd (omega arith)
merge_left (x ∷ xs) [] k p = omega arith
merge_left (x ∷ xs) (y ∷ ys) zero p = omega arith
merge_left (x ∷ xs) (y ∷ ys) (suc k) p = merge_left xs ys k (omega arith)

merge_right : (xs ys : List ℕ) (k : ℕ) → k < length ys → get_or (merge xs ys) k 0 ≤ get_or ys k 0
merge_right xs ys k p = rw (merge_comm xs ys) (merge_left ys xs k p)

-- .. and one of the two.
merge_one : (xs ys : List ℕ) (k : ℕ) → k < length (merge xs ys)
    → ((k < length xs) × (get_or (merge xs ys) k 0 ≡ get_or xs k 0)) ⊎ ((k < length ys) × (get_or (merge xs ys) k 0 ≡ get_or ys k 0))
unfolding merge
merge_one [] ys k p = inr (p, refl)
merge_one (x ∷ xs) [] k p = inl (p, refl)
merge_one (x ∷ xs) (y ∷ ys) zero p =
    elim (dec_le x y) [
      | yes r ↦ inl (omega arith, omega arith)
      | no r ↦ inr (omega arith, omega arith)
    ]
merge_one (x ∷ xs) (y ∷ ys) (suc k) p =
    elim (merge_one xs ys k (omega arith)) [
      | inl (q, e) ↦ inl (omega arith, e)
      | inr (q, e) ↦ inr (omega arith, e)
    ]

-- The merged table reaches every window that a table reaches, and is not above it there.
pub merged_under : (tables : List (List ℕ)) (i k : ℕ) → i < length tables → k < length (get_or tables i [])
    → (k < length (merged tables)) × (get_or (merged tables) k 0 ≤ get_or (get_or tables i []) k 0)
unfolding merged
merged_under [] i k p q = absurd (omega arith)
merged_under (table ∷ tables) zero k p q =
    (omega (arith, length-merge table (merged tables)), merge_left table (merged tables) k q)
merged_under (table ∷ tables) (suc i) k p q =
    let (r, under) = merged_under tables i k (omega arith) q in
    (omega (arith, length-merge table (merged tables)), omega (arith, merge_right table (merged tables) k r))

-- At each of its windows it is the entry of some table.
pub merged_one : (tables : List (List ℕ)) (k : ℕ) → k < length (merged tables)
    → (i : ℕ) × (i < length tables) × (k < length (get_or tables i [])) × (get_or (merged tables) k 0 ≡ get_or (get_or tables i []) k 0)
unfolding merged
merged_one [] k p = absurd (omega arith)
merged_one (table ∷ tables) k p =
    elim (merge_one table (merged tables) k p) [
      | inl (q, e) ↦ (0, omega arith, q, e)
      | inr (q, e) ↦ let (i, r, s, same) = merged_one tables k q in (suc i, omega arith, s, omega arith)
    ]

-- The merged table of accepted tables is one.
pub merged-table : (tables : List (List ℕ)) → Stages tables → Table (length (merged tables) - 1) (λ k. get_or (merged tables) k 0)
merged-table tables ok =
    let (reach, under) = merged_under tables 0 1 ok.some (omega (arith, (ok.given 0 ok.some).nonempty)) in
    record {
      nonempty = omega arith;
      starts = omega (arith, (merged_under tables 0 0 ok.some (omega (arith, (ok.given 0 ok.some).nonempty))).1, (ok.given 0 ok.some).starts);
      rises = λ i j p q.
          let (x, xs, reach, e) = merged_one tables j (omega arith) in
          omega (arith, (merged_under tables x i xs (omega arith)).1, (ok.given x xs).rises i j p (omega arith));
    }

-- Its entries and its length stay within the tables' own bounds.
pub merged_small : (tables : List (List ℕ)) (n : ℕ) → ((i k : ℕ) → i < length tables → get_or (get_or tables i []) k 0 ≤ n)
    → (k : ℕ) → k < length (merged tables) → get_or (merged tables) k 0 ≤ n
merged_small tables n small k p = let (i, q, r, e) = merged_one tables k p in omega (arith, small i k q)

pub merged_long : (tables : List (List ℕ)) (n : ℕ) → ((i : ℕ) → i < length tables → length (get_or tables i []) ≤ n) → length (merged tables) ≤ n
merged_long tables n long =
    elim (dec_le (length (merged tables)) n) [
      | yes p ↦ p
      | no p ↦ let (i, q, r, e) = merged_one tables n (omega arith) in absurd (omega (arith, long i q))
    ]

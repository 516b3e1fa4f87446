-- An envelope that varies with time (document 02, request 2.10): F(s,t) bounds what departs in slots s+1 to t. Its closure is lemma
-- 2.1 (iv) of document 000, and a square of 33 rows by 33 numbers gives F for the slots 0 to 32.
use Rattle.std.specs.Prelude.{◌≡◌, List, [], ◌∷◌, ◌++◌, ℕ, zero, suc, ◌+◌, ◌-◌, ◌≤◌, ◌<◌, min, get_or}
use Rattle.calculus.specs.Numbers.Least.{least}
use Rattle.calculus.specs.Numbers.Course.{Rule, course}
use Rattle.calculus.specs.Numbers.Lists.{list_of}

-- F*(s,s) is 0, and F*(s,t) is the least of F*(s,r) + F(r,t) for r from s to t-1; here t is s+n, and r is s+k.
unfoldable pub closing_from : (ℕ → ℕ → ℕ) → ℕ → Rule
closing_from F s g zero = 0
closing_from F s g (suc n) = least 0 n (λ k. g k + F (s + k) (s + suc n))

-- F*
unfoldable pub closure_of : (ℕ → ℕ → ℕ) → ℕ → ℕ → ℕ
closure_of F s t = course (closing_from F s) (t - s)

-- slots that rise from s to t: s < t1 < .. < tn = t, and the sum of F over the steps between them
pub data SlotChain : ℕ → ℕ → List ℕ → Type 0 where
  stop : {s : ℕ} → SlotChain s s []
  link : {s t : ℕ} {rs : List ℕ} (r : ℕ) → s < r → SlotChain r t rs → SlotChain s t (r ∷ rs)

unfoldable pub slot_chain_sum : (ℕ → ℕ → ℕ) → ℕ → List ℕ → ℕ
slot_chain_sum F s [] = 0
slot_chain_sum F s (r ∷ rs) = F s r + slot_chain_sum F r rs

-- The last slot of a square.
abbrev pub last_slot : ℕ
last_slot = 32

-- the number of row s at slot t
unfoldable pub square_entry : List (List ℕ) → ℕ → ℕ → ℕ
square_entry square s t = get_or (get_or square s []) t 0

-- a square from an accepted one: each row is 0 up to the diagonal and does not fall after it
pub record Square (square : List (List ℕ)) : Type 0 where
  pub starts : (s t : ℕ) → t ≤ s → s ≤ last_slot → square_entry square s t ≡ 0
  pub rises : (s t r : ℕ) → s ≤ t → t ≤ r → r ≤ last_slot → square_entry square s t ≤ square_entry square s r

-- F, for a square: row s goes from F(s,0) to F(s,32). No run looks beyond slot 32; there nothing more may depart.
unfoldable pub square_envelope : List (List ℕ) → ℕ → ℕ → ℕ
square_envelope square s t = square_entry square (min s last_slot) (min t last_slot)

-- the first n rows of the square of an envelope, and the square
unfoldable pub square_rows : (ℕ → ℕ → ℕ) → ℕ → List (List ℕ)
square_rows F zero = []
square_rows F (suc n) = square_rows F n ++ (list_of (F n) (suc last_slot) ∷ [])

unfoldable pub square_of : (ℕ → ℕ → ℕ) → List (List ℕ)
square_of F = square_rows F (suc last_slot)

-- the closure of a square, as a square
unfoldable pub closed_square : List (List ℕ) → List (List ℕ)
closed_square square = square_of (closure_of (square_envelope square))

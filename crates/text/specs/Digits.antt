-- Numbers in base ten, as bytes (document 01: "All counts are whole and written in base ten").
use Rattle.std.specs.Prelude.{Bool, true, false, List, [], ◌∷◌, ◌++◌, ℕ, zero, suc, ◌+◌, ◌/◌, ◌%◌, ltb}

-- the byte of the last digit
unfoldable pub last_digit : ℕ → ℕ
last_digit n = 48 + n % 10

-- A number below ten is one digit; any other has those of its tenth before its last. The steps bound the depth.
unfoldable pub digits_within : ℕ → Bool → ℕ → List ℕ
digits_within zero below_ten n = last_digit n ∷ []
digits_within (suc steps) true n = last_digit n ∷ []
digits_within (suc steps) false n = digits_within steps (ltb (n / 10) 10) (n / 10) ++ (last_digit n ∷ [])

-- the decimal digits of n, most significant first, with no leading zeros; n steps are more than enough
unfoldable pub digits : ℕ → List ℕ
digits n = digits_within n (ltb n 10) n

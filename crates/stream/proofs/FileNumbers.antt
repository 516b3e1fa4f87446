-- Laws of the file's numbers: a number past the end is 0, and one within is made of four bytes.
use mathlib.Core.Path.{◌≡◌}
use mathlib.Core.List.{List}
use Prim.Native.Nat.{ℕ, ◌+◌, ◌*◌, ◌≤◌, ◌<◌}
use native.Mathlib.Omega.{arith}
use lib.ListN.{length, get_or, get_or-eq_default}
use Rattle.stream.specs.Format.{number_at}

-- A number past the end is 0.
pub number_past : (file : List ℕ) (i : ℕ) → length file ≤ 4 * i → number_at file i ≡ 0
unfolding number_at
number_past file i p =
    let zeroth : get_or file (4 * i) 0 ≡ 0 = get_or-eq_default file 0 (omega arith) in
    let first : get_or file (4 * i + 1) 0 ≡ 0 = get_or-eq_default file 0 (omega arith) in
    let second : get_or file (4 * i + 2) 0 ≡ 0 = get_or-eq_default file 0 (omega arith) in
    let third : get_or file (4 * i + 3) 0 ≡ 0 = get_or-eq_default file 0 (omega arith) in
    omega arith

-- Numbers whose four bytes are alike are equal.
pub number_alike : (one other : List ℕ) (i k : ℕ) → ((j : ℕ) → j < 4 → get_or one (4 * i + j) 0 ≡ get_or other (4 * k + j) 0) → number_at one i ≡ number_at other k
unfolding number_at
number_alike one other i k alike =
    let here : 4 * i + 0 ≡ 4 * i = omega arith in
    let there : 4 * k + 0 ≡ 4 * k = omega arith in
    omega (arith, rw (here, there) at (alike 0 (omega arith)), alike 1 (omega arith), alike 2 (omega arith), alike 3 (omega arith))

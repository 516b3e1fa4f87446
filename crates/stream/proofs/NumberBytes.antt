-- A number's four bytes, the least significant first.
use mathlib.Core.Path.{◌≡◌, refl}
use mathlib.Core.List.{List}
use Prim.Native.Nat.{ℕ, ◌+◌, ◌*◌}
use native.Mathlib.Omega.{arith}
use lib.ListN.{get_or}
use Rattle.stream.specs.Format.{number_at}
use Rattle.stream.specs.NumberSample.{NumberSample}

-- Each byte counts 256 times as much as the one before it.
pub number-bytes : (file : List ℕ) (i a b c d : ℕ) → get_or file (4 * i) 0 ≡ a → get_or file (4 * i + 1) 0 ≡ b → get_or file (4 * i + 2) 0 ≡ c
    → get_or file (4 * i + 3) 0 ≡ d → number_at file i ≡ a + 256 * (b + 256 * (c + 256 * d))
unfolding number_at
number-bytes file i a b c d e f g h = omega arith

-- A number with four different bytes.
pub number_sample : NumberSample
unfolding number_at
number_sample = record { first = refl; second = refl }

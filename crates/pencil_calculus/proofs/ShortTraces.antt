-- Each trace of the list is a trace of T slots with 0 to 3 arrivals in each.
use mathlib.Core.Path.{◌≡◌, refl, ap, ◌∙◌}
use mathlib.Core.List.{List, [], ◌∷◌, ◌++◌}
use Prim.Native.Nat.{ℕ, zero, suc, ◌+◌, ◌/◌, ◌%◌, ◌≤◌}
use native.Mathlib.Omega.{arith}
use native.Mathlib.Numerals.{add-one}
use lib.ListN.{length, length-append}
use Rattle.pencil_calculus.specs.Traces.{Short, none, more, trace_at}

short_end : {xs : List ℕ} → Short xs → (x : ℕ) → x ≤ 3 → Short (xs ++ (x ∷ []))
short_end none x p = more p none
short_end (more q rest) x p = more q (short_end rest x p)

pub trace_at_long : (T k : ℕ) → length (trace_at T k) ≡ T
unfolding trace_at
trace_at_long zero k = refl
trace_at_long (suc T) k = length-append (trace_at T (k / 4)) _ ∙ ap (λ (n : ℕ). n + 1) (trace_at_long T (k / 4)) ∙ add-one T

pub trace_at_short : (T k : ℕ) → Short (trace_at T k)
unfolding trace_at
trace_at_short zero k = none
trace_at_short (suc T) k = short_end (trace_at_short T (k / 4)) (k % 4) (omega arith)

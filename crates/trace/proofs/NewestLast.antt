-- A forecast whose newest total is taken last.
use mathlib.Core.Path.{◌≡◌, ap, ◌∙◌}
use mathlib.Core.List.{List}
use Prim.Native.Nat.{ℕ, ◌+◌, ◌-◌, ◌≤◌, min}
use lib.ListN.{length, get_or, take, drop}
use Rattle.numbers.specs.LeastSum.{least_with}
use Rattle.numbers.proofs.LeastSum.{drop_whole, least_with-last}
use Rattle.trace.specs.RunWork.{forecast_from}

-- The least sum of the older totals, and then the newest one's.
pub newest-last : (windows older : List ℕ) (last newest ahead least both : ℕ) → newest + get_or windows (ahead + 1) 0 ≤ 4294967295
    → least ≡ least_with 4294967295 older (take (length windows - (ahead + 2)) (drop (ahead + 2) windows)) (last - 1)
    → both ≡ min least (newest + get_or windows (ahead + 1) 0) → both ≡ forecast_from windows older last newest ahead
unfolding forecast_from
newest-last windows older last newest ahead least both fits found made =
    made
    ∙ ap (λ (n : ℕ). min n (newest + get_or windows (ahead + 1) 0))
    (found ∙ ap (λ (l : List ℕ). least_with 4294967295 older l (last - 1)) (drop_whole (ahead + 2) windows))
    ∙ least_with-last 4294967295 older (drop (ahead + 2) windows) (newest + get_or windows (ahead + 1) 0) (last - 1) fits

-- A burst placed into a list of slots: how the reader makes a trace of the bursts, from the last to the first.
use Rattle.std.specs.Prelude.{ℕ, zero, suc, List, drop, set}
use Rattle.calculus.specs.Numbers.Lists.{list_of}
use Rattle.stream.specs.Format.{burst_slots, burst_counts, arrived_in}

-- Slot t + 1 stands at place t. There is no slot 0, and none past the list's end.
unfoldable pub placed : ℕ → ℕ → List ℕ → List ℕ
placed zero count list = list
placed (suc t) count list = set list t count

-- the arrivals of slots 1 to n by the bursts from burst k on
unfoldable pub arrived_from : List ℕ → ℕ → ℕ → List ℕ
arrived_from file k n = list_of (λ t. arrived_in (drop k (burst_slots file)) (drop k (burst_counts file)) (suc t)) n

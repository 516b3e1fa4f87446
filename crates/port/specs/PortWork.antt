-- What a port's run works: a row of waiting packets, those of stream i due by slot u at place 8·u + i.
use Rattle.std.specs.Prelude.{◌≡◌, ℕ, suc, ◌+◌, ◌-◌, ◌*◌, ◌≤◌, ◌<◌, min, List, length, get_or}
use Rattle.port_calculus.specs.Port.{sum_below, sends, keeps, stream_arrivals, waiting, sent_of}

-- a row's queue
abbrev pub queue_of : List ℕ → ℕ → ℕ → ℕ
queue_of row u i = get_or row (8 * u + i) 0

-- A queue as it is worked: the row for due slots 0 to 320, no count above 1,000,000, and how many packets are due by each slot.
pub record Queue (row totals : List ℕ) : Type 0 where
  pub long : length row ≡ 2568
  pub long_totals : length totals ≡ 321
  pub small : (k : ℕ) → get_or row k 0 ≤ 1000000
  pub totalled : (u : ℕ) → get_or totals u 0 ≡ sum_below (queue_of row u) 8

-- the least and the greatest of the first streams' deadlines, or bounds of them
pub record Deadlines (deadlines : List ℕ) (streams nearest furthest : ℕ) : Type 0 where
  pub least : (i : ℕ) → i < streams → nearest ≤ get_or deadlines i 0
  pub most : (i : ℕ) → i < streams → get_or deadlines i 0 ≤ furthest
  pub near : nearest ≤ 64
  pub far : furthest ≤ 64

-- the first of some streams' arrivals in slot t+1 are in their places, and no other place is changed
pub record Arrived (deadlines : List ℕ) (slots : ℕ) (input : List ℕ) (t streams : ℕ) (row row' : List ℕ) : Type 0 where
  pub long : length row' ≡ length row
  pub there : (i : ℕ) → i < streams → queue_of row' (t + 1 + get_or deadlines i 0) i ≡ get_or input (i * slots + t) 0
  pub elsewhere : (u i : ℕ) → i < 8 → (i < streams → u ≡ t + 1 + get_or deadlines i 0 → ⊥) → queue_of row' u i ≡ queue_of row u i

-- no packets are due by slots from `from` on and before `to`
pub record NoneDue (totals : List ℕ) (from to : ℕ) : Type 0 where
  pub ordered : from ≤ to
  pub none : (u : ℕ) → from ≤ u → u < to → get_or totals u 0 ≡ 0

-- of `left` packets, the streams' that are due by one slot are sent; they stand from place `base` on
pub record SentDue (base streams left : ℕ) (row counts : List ℕ) (left' : ℕ) (row' counts' : List ℕ) : Type 0 where
  pub rest : left' ≡ left - sum_below (λ j. get_or row (base + j) 0) streams
  pub long : length row' ≡ length row
  pub long_counts : length counts' ≡ length counts
  pub kept : (i : ℕ) → i < streams → get_or row' (base + i) 0 ≡ get_or row (base + i) 0 - (left - sum_below (λ j. get_or row (base + j) 0) i)
  pub others : (k : ℕ) → (base ≤ k → base + streams ≤ k) → get_or row' k 0 ≡ get_or row k 0
  pub counted : (i : ℕ) → i < streams → get_or counts' i 0 ≡ get_or counts i 0 + min (get_or row (base + i) 0) (left - sum_below (λ j. get_or row (base + j) 0) i)
  pub uncounted : (i : ℕ) → streams ≤ i → get_or counts' i 0 ≡ get_or counts i 0

-- all that is due by one slot is sent, of the first streams
pub record SentWhole (base streams : ℕ) (row counts row' counts' : List ℕ) : Type 0 where
  pub long : length row' ≡ length row
  pub long_counts : length counts' ≡ length counts
  pub gone : (i : ℕ) → i < streams → get_or row' (base + i) 0 ≡ 0
  pub others : (k : ℕ) → (base ≤ k → base + streams ≤ k) → get_or row' k 0 ≡ get_or row k 0
  pub counted : (i : ℕ) → i < streams → get_or counts' i 0 ≡ get_or counts i 0 + get_or row (base + i) 0
  pub uncounted : (i : ℕ) → streams ≤ i → get_or counts' i 0 ≡ get_or counts i 0

-- what a slot's sending asks: due slots before `from` and from `to` on have no packets
pub record Sendable (streams from to : ℕ) (row totals counts : List ℕ) : Type 0 where
  pub few : streams ≤ 8
  pub ordered : from ≤ to
  pub inside : to ≤ 321
  pub queue : Queue row totals
  pub long_counts : length counts ≡ 8
  pub zeros : (i : ℕ) → get_or counts i 0 ≡ 0
  pub absent : (u i : ℕ) → streams ≤ i → i < 8 → queue_of row u i ≡ 0
  pub before : (u i : ℕ) → u < from → i < streams → queue_of row u i ≡ 0
  pub after : (u i : ℕ) → to ≤ u → i < streams → queue_of row u i ≡ 0

-- what it leaves: the queue, the packets sent of each stream, and a due slot before which nothing waits
pub record SentAll (streams capacity to : ℕ) (row : List ℕ) (first : ℕ) (row' totals' counts' : List ℕ) : Type 0 where
  pub queue : Queue row' totals'
  pub long_counts : length counts' ≡ 8
  pub kept : (u i : ℕ) → i < streams → queue_of row' u i ≡ keeps streams capacity (queue_of row) u i
  pub counted : (i : ℕ) → i < streams → get_or counts' i 0 ≡ sum_below (λ u. sends streams capacity (queue_of row) u i) to
  pub gone : (u i : ℕ) → u < first → i < streams → queue_of row' u i ≡ 0
  pub absent : (u i : ℕ) → streams ≤ i → i < 8 → queue_of row' u i ≡ 0

-- the first streams' counts of slot t+1 are in their places of the sent list, and no other place is changed
pub record Written (slots t streams : ℕ) (count : ℕ → ℕ) (sent sent' : List ℕ) : Type 0 where
  pub long : length sent' ≡ length sent
  pub there : (i : ℕ) → i < streams → get_or sent' (i * slots + t) 0 ≡ count i
  pub elsewhere : (i s : ℕ) → s < slots → (i < streams → s ≡ t → ⊥) → get_or sent' (i * slots + s) 0 ≡ get_or sent (i * slots + s) 0

-- what the first streams bring in slot t+1 is listed as sent, and added up
pub record Passed (slots t streams : ℕ) (input sent : List ℕ) (comes : ℕ) (sent' : List ℕ) : Type 0 where
  pub written : Written slots t streams (λ i. get_or input (i * slots + t) 0) sent sent'
  pub total : comes ≡ sum_below (λ i. get_or input (i * slots + t) 0) streams

-- what waits of the first streams after slot t+1 and was due by it is counted as late
pub record Overdue (t streams : ℕ) (row late late' : List ℕ) : Type 0 where
  pub long : length late' ≡ length late
  pub counted : (i : ℕ) → i < streams → get_or late' i 0 ≡ get_or late i 0 + queue_of row (t + 1) i
  pub others : (i : ℕ) → streams ≤ i → get_or late' i 0 ≡ get_or late i 0

-- a run after t slots
pub record Standing (deadlines : List ℕ) (slots capacity : ℕ) (input : List ℕ) (t first : ℕ) (row totals sent late : List ℕ) : Type 0 where
  pub queue : Queue row totals
  pub long_sent : length sent ≡ length deadlines * slots
  pub long_late : length late ≡ length deadlines
  pub waits : (u i : ℕ) → i < length deadlines
      → queue_of row u i ≡ waiting (length deadlines) (λ i. get_or deadlines i 0) (stream_arrivals slots input) capacity t u i
  pub gone : (u i : ℕ) → u < first → i < length deadlines → queue_of row u i ≡ 0
  pub absent : (u i : ℕ) → length deadlines ≤ i → i < 8 → queue_of row u i ≡ 0
  pub listed : (i s : ℕ) → i < length deadlines → s < t
      → get_or sent (i * slots + s) 0 ≡ sent_of (length deadlines) (λ i. get_or deadlines i 0) (stream_arrivals slots input) capacity i (suc s)
  pub overdue : (i : ℕ) → i < length deadlines
      → get_or late i 0 ≡ sum_below (λ s. waiting (length deadlines) (λ i. get_or deadlines i 0) (stream_arrivals slots input) capacity (suc s) (suc s) i) t

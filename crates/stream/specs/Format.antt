-- The stream file's format (document 01, "The stream file"): what each number of a file means, whatever its bytes are.
use Rattle.std.specs.Prelude.{ℕ, suc, ◌+◌, ◌*◌, List, [], ◌∷◌, get_or, eqb}
use Rattle.calculus.specs.Numbers.Lists.{list_of}
use Rattle.orders.specs.Refusal.{pick}

-- Unsigned 32-bit numbers, least significant byte first: the number at place i. A byte past the end counts as 0.
unfoldable pub number_at : List ℕ → ℕ → ℕ
number_at file i =
    get_or file (4 * i) 0 + 256 * get_or file (4 * i + 1) 0 + 65536 * get_or file (4 * i + 2) 0 + 16777216 * get_or file (4 * i + 3) 0

-- First the sizes L, T (slots) and m (bursts), then d and q;
abbrev pub last : List ℕ → ℕ
last file = number_at file 0

abbrev pub slots : List ℕ → ℕ
slots file = number_at file 1

abbrev pub bursts : List ℕ → ℕ
bursts file = number_at file 2

abbrev pub delay : List ℕ → ℕ
delay file = number_at file 3

abbrev pub buffer : List ℕ → ℕ
buffer file = number_at file 4

-- then the L+1 table entries;
unfoldable pub table_of : List ℕ → List ℕ
table_of file = list_of (λ k. number_at file (5 + k)) (last file + 1)

-- then two parallel arrays of m numbers: the slots that have arrivals,
unfoldable pub burst_slots : List ℕ → List ℕ
burst_slots file = list_of (λ k. number_at file (6 + last file + k)) (bursts file)

-- and the packets that arrived in each.
unfoldable pub burst_counts : List ℕ → List ℕ
burst_counts file = list_of (λ k. number_at file (6 + last file + bursts file + k)) (bursts file)

-- The arrivals of slot t: the count of the burst that names it. A slot not named has 0 arrivals.
unfoldable pub arrived_in : List ℕ → List ℕ → ℕ → ℕ
arrived_in [] counts t = 0
arrived_in (slot ∷ later) [] t = 0
arrived_in (slot ∷ later) (count ∷ counts) t = pick (eqb slot t) count (arrived_in later counts t)

-- the file's trace: the arrivals of slots 1 to T
unfoldable pub file_trace : List ℕ → List ℕ
file_trace file = list_of (λ t. arrived_in (burst_slots file) (burst_counts file) (suc t)) (slots file)

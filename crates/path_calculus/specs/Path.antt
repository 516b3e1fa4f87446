-- Regulators in a row (document 02, request 2.5): each stage with its own table, and one delay and one buffer limit for the path.
-- Stages are numbered from 0; a path is the list of its tables.
use Rattle.std.specs.Prelude.{List, [], ◌++◌, ℕ, zero, suc, ◌-◌, ◌≤◌, ◌<◌, length, get_or}
use Rattle.calculus.specs.Numbers.Least.{least}
use Rattle.calculus.specs.Numbers.Limit.{Limit}
use Rattle.calculus.specs.Envelopes.Closure.{closure, Table}
use Rattle.calculus.specs.Envelopes.Envelope.{windows}
use Rattle.calculus.specs.Regulators.Clipper.{arrived, admitted}
use Rattle.calculus.specs.Regulators.Regulator.{convolution}
use Rattle.calculus.specs.Losses.Permitted.{Permitted}
use Rattle.calculus.specs.Regulators.Trace.{arrivals, slot_counts}
use Rattle.calculus.specs.Regulators.Rows.{envelope_of}

-- at least one stage, each with a table from an accepted list
pub record Stages (tables : List (List ℕ)) : Type 0 where
  pub some : 1 ≤ length tables
  pub given : (i : ℕ) → i < length tables → Table (length (get_or tables i []) - 1) (λ k. get_or (get_or tables i []) k 0)

-- the closed envelope of stage i
unfoldable pub stage_envelope : List (List ℕ) → ℕ → ℕ → ℕ
stage_envelope tables i = envelope_of (get_or tables i [])

-- the pointwise least of the closed envelopes
unfoldable pub least_envelope : List (List ℕ) → ℕ → ℕ
least_envelope tables k = least 0 (length tables - 1) (λ i. stage_envelope tables i k)

-- the closure of the pointwise least of the closed envelopes; at window n only windows up to n count
unfoldable pub path_envelope : List (List ℕ) → ℕ → ℕ
path_envelope tables n = closure n (least_envelope tables) n

-- X(t): only the entrance drops, and it clips for that closure.
unfoldable pub path_admitted : List (List ℕ) → Limit → Limit → (ℕ → ℕ) → ℕ → ℕ
path_admitted tables d q a = admitted (windows (path_envelope tables)) d q a

-- the path's loss by slot t: arrived less admitted
unfoldable pub path_lost : List (List ℕ) → Limit → Limit → (ℕ → ℕ) → ℕ → ℕ
path_lost tables d q a t = arrived a t - path_admitted tables d q a t

-- what has left the first i stages, X being let in: each stage is a regulator fed by the stage before
unfoldable pub stage_departed : List (List ℕ) → (ℕ → ℕ) → ℕ → ℕ → ℕ
stage_departed tables X zero = X
stage_departed tables X (suc i) = convolution (stage_departed tables X i) (windows (stage_envelope tables i))

-- what has left the last stage
unfoldable pub path_departed : List (List ℕ) → Limit → Limit → (ℕ → ℕ) → ℕ → ℕ
path_departed tables d q a = stage_departed tables (path_admitted tables d q a) (length tables)

-- departures in slots 1 to T of the first i stages, stage after stage
unfoldable pub stage_rows : List (List ℕ) → (ℕ → ℕ) → ℕ → ℕ → List ℕ
stage_rows tables X T zero = []
stage_rows tables X T (suc i) = stage_rows tables X T i ++ slot_counts (stage_departed tables X (suc i)) T

-- The run's lists: admitted, dropped, and each stage's departures in turn.
unfoldable pub path_admitted_row : List (List ℕ) → Limit → Limit → List ℕ → List ℕ
path_admitted_row tables d q trace = slot_counts (path_admitted tables d q (arrivals trace)) (length trace)

unfoldable pub path_dropped_row : List (List ℕ) → Limit → Limit → List ℕ → List ℕ
path_dropped_row tables d q trace = slot_counts (path_lost tables d q (arrivals trace)) (length trace)

unfoldable pub path_stage_rows : List (List ℕ) → Limit → Limit → List ℕ → List ℕ
path_stage_rows tables d q trace = stage_rows tables (path_admitted tables d q (arrivals trace)) (length trace) (length tables)

-- Permitted on the path: a permitted pair whose departures keep every stage's envelope.
unfoldable pub PathPermitted : List (List ℕ) → Limit → Limit → (ℕ → ℕ) → ℕ → (ℕ → ℕ) → (ℕ → ℕ) → Type 0
PathPermitted tables d q a T u v = (i : ℕ) → i < length tables → Permitted (windows (stage_envelope tables i)) d q a T u v

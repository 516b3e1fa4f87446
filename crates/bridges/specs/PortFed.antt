-- A port that is fed by regulators (document 02, request 2.11): "One customer feeds the departures of one to eight regulators into a port."
use Rattle.std.specs.Prelude.{◌≡◌, List, [], ◌∷◌, ◌++◌, ℕ, ◌<◌, length, get_or}
use Rattle.orders.specs.Verdict.{Accepted}
use Rattle.trace.specs.WholeTrace.{Ran}
use Rattle.calls.specs.Calls.{answers, trace_of, departed_in}
use Rattle.regulator.specs.Regulator.{set_up_of}
use Rattle.regulator.specs.LiveRun.{live_regulator}

-- A list that an accepted whole-trace run of T slots with a table left as its departures.
pub record RunDepartures (T : ℕ) (table row : List ℕ) : Type 0 where
  pub delay : ℕ
  pub buffer : ℕ
  pub trace : List ℕ
  pub ins : List ℕ
  pub drops : List ℕ
  pub outs : List ℕ
  pub ins' : List ℕ
  pub drops' : List ℕ
  pub slots : length trace ≡ T
  pub ran : Ran table delay buffer trace ins drops outs Accepted ins' drops' row

-- What a fresh live regulator with a table answered as departed, slot by slot, to calls of which T were accepted.
pub record LiveDepartures (T : ℕ) (table row : List ℕ) : Type 0 where
  pub delay : ℕ
  pub buffer : ℕ
  pub calls : List ℕ
  pub slots : length (trace_of calls) ≡ T
  pub set_up : (set_up_of table delay buffer).verdict ≡ Accepted
  pub answered : row ≡ departed_in (answers live_regulator (set_up_of table delay buffer).regulator calls)

-- The departures of a regulator with a table over T slots are the one or the other.
pub data Departures (T : ℕ) (table row : List ℕ) : Type 0 where
  of_run : RunDepartures T table row → Departures T table row
  of_calls : LiveDepartures T table row → Departures T table row

-- Each of some lists is one, of the regulator with its table.
unfoldable pub AllDepartures : ℕ → (ℕ → List ℕ) → List (List ℕ) → Type 0
AllDepartures T tables rows = (i : ℕ) → i < length rows → Departures T (tables i) (get_or rows i [])

-- lists one after another
unfoldable pub joined : List (List ℕ) → List ℕ
joined [] = []
joined (row ∷ rows) = row ++ joined rows

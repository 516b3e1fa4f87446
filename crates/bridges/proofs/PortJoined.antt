-- Which stream of a port is which regulator: stream i's packets of slot t in the joined input are the i-th list's in slot t. So no packet is
-- late where theorem 7.4's condition holds for the envelopes of the regulators' tables.
use mathlib.Core.Path.{◌≡◌, refl, ap, ◌∙◌}
use mathlib.Core.List.{List, [], ◌∷◌, ◌++◌}
use Prim.Native.Nat.{ℕ, zero, suc, ◌+◌, ◌*◌, ◌≤◌, ◌<◌}
use native.Mathlib.Nat.{suc-mul}
use native.Mathlib.Omega.{arith}
use lib.ListN.{length, get_or, get_or-append}
use lib.Seq.{get_or-append-add}
use Rattle.calculus.specs.Regulators.Trace.{arrivals}
use Rattle.calculus.specs.Regulators.Rows.{envelope_of, departed_by, departed_row}
use Rattle.calculus.proofs.Numbers.Lists.{list_of_at}
use Rattle.calculus.proofs.Regulators.Trace.{slot_counts_at}
use Rattle.orders.specs.Verdict.{Verdict, Accepted}
use Rattle.refusals.specs.Limits.{delay_limit, buffer_limit}
use Rattle.orders.specs.Answered.{verdict_of, unless_refused}
use Rattle.refusals.proofs.AcceptedSettings.{envelope_closed}
use Rattle.port_calculus.specs.Port.{stream_arrivals, late_row}
use Rattle.port_calculus.specs.PortEnvelopes.{KeepsEnvelope, Admissible}
use Rattle.port_calculus.proofs.PortEnvelopes.{envelopes_in_time}
use Rattle.port_calculus.proofs.PortRegulators.{regulator-keeps}
use Rattle.port.specs.PortRun.{PortRan}
use Rattle.bridges.specs.PortFed.{Departures, AllDepartures, joined}
use Rattle.bridges.proofs.PortFed.{departures_regulated, departures_long, departures-accepted}

-- Two streams of two slots.
pub joined_sample : joined ((1 ∷ 2 ∷ []) ∷ (3 ∷ 4 ∷ []) ∷ []) ≡ 1 ∷ 2 ∷ 3 ∷ 4 ∷ []
unfolding joined
joined_sample = refl

module _ (T : ℕ) where
  joined_at : (rows : List (List ℕ)) → ((i : ℕ) → i < length rows → length (get_or rows i []) ≡ T) → (i t : ℕ) → i < length rows → t < T
      → get_or (joined rows) (i * T + t) 0 ≡ get_or (get_or rows i []) t 0
  unfolding joined
  joined_at [] long i t p q = absurd (omega arith)
  joined_at (row ∷ rows) long zero t p q =
      let place : 0 * T + t ≡ t = omega arith in
      ap (λ (at : ℕ). get_or (row ++ joined rows) at 0) place ∙ get_or-append row (joined rows) 0 t (omega (arith, long 0 (omega arith)))
  joined_at (row ∷ rows) long (suc i) t p q =
      let place : suc i * T + t ≡ length row + (i * T + t) = omega (arith, suc-mul i T, long 0 (omega arith)) in
      ap (λ (at : ℕ). get_or (row ++ joined rows) at 0) place
      ∙ get_or-append-add row (joined rows) (i * T + t) 0
      ∙ joined_at rows (λ j r. long (suc j) (omega arith)) i t (omega arith) q

  pub joined_stream : (rows : List (List ℕ)) → ((i : ℕ) → i < length rows → length (get_or rows i []) ≡ T) → (i t : ℕ) → i < length rows → t < T
      → stream_arrivals T (joined rows) i (suc t) ≡ get_or (get_or rows i []) t 0
  unfolding stream_arrivals
  joined_stream = joined_at

-- Departures keep the envelope of their table.
departures_keep : (T : ℕ) (table row : List ℕ) → Departures T table row → (b : ℕ → ℕ) → ((t : ℕ) → t < T → b (suc t) ≡ get_or row t 0) → KeepsEnvelope (envelope_of table) b T
unfolding departed_row departed_by
departures_keep T table row fed b counts =
    let is = departures_regulated T table row fed in
    regulator-keeps (envelope_of table) (envelope_closed table is.delay is.buffer is.settled) (delay_limit is.delay) (buffer_limit is.buffer) (arrivals is.trace) b T
    (λ t p. counts t p ∙ ap (λ (l : List ℕ). get_or l t 0) is.departs ∙ slot_counts_at _ (length is.trace) t (omega (arith, is.slots)))

-- What the regulators listed or answered and the envelopes of their tables are enough: no late count is above 0.
pub joined_in_time : (deadlines : List ℕ) (c T : ℕ) (tables : ℕ → List ℕ) (rows : List (List ℕ)) → AllDepartures T tables rows → length deadlines ≡ length rows
    → Admissible (length deadlines) (λ i. get_or deadlines i 0) (λ i. envelope_of (tables i)) c T
    → (i : ℕ) → i < length deadlines → get_or (late_row deadlines T c (joined rows)) i 0 ≡ 0
unfolding AllDepartures late_row
joined_in_time deadlines c T tables rows fed each admissible i p =
    list_of_at _ (length deadlines) i p
    ∙ envelopes_in_time (length deadlines) (λ j. get_or deadlines j 0) (λ j. envelope_of (tables j)) (stream_arrivals T (joined rows)) c T admissible keeps i p
  where
    keeps : (j : ℕ) → j < length deadlines → KeepsEnvelope (envelope_of (tables j)) (stream_arrivals T (joined rows) j) T
    keeps j q =
        departures_keep T (tables j) (get_or rows j []) (fed j (omega arith)) (stream_arrivals T (joined rows) j)
        (λ t r. joined_stream T rows (λ k s. departures_long T (tables k) (get_or rows k []) (fed k s)) j t (omega arith) r)

-- The port's own contract with them: a run of at most 256 slots with a deadline of 0 to 64 for each of one to eight regulators is accepted, and
-- no packet is late.
pub fed_in_time : (deadlines : List ℕ) (T c : ℕ) (tables : ℕ → List ℕ) (rows : List (List ℕ)) (sent late : List ℕ) (verdict : Verdict) (sent' late' : List ℕ)
    → PortRan deadlines T c (joined rows) sent late verdict sent' late' → AllDepartures T tables rows → length deadlines ≡ length rows
    → 1 ≤ length rows → length rows ≤ 8 → T ≤ 256 → ((i : ℕ) → i < length deadlines → get_or deadlines i 0 ≤ 64)
    → length sent ≡ length deadlines * T → length late ≡ length deadlines
    → Admissible (length deadlines) (λ i. get_or deadlines i 0) (λ i. envelope_of (tables i)) c T
    → (verdict ≡ Accepted) × ((i : ℕ) → i < length deadlines → get_or late' i 0 ≡ 0)
unfolding verdict_of unless_refused
fed_in_time deadlines T c tables rows sent late verdict sent' late' ran fed each some few short timely long_sent long_late admissible =
    let none = departures-accepted deadlines T tables rows (length sent) (length late) fed each some few short timely long_sent long_late in
    (rw none at ran.answered, λ i p. ap (λ (l : List ℕ). get_or l i 0) (rw none at ran.lates) ∙ joined_in_time deadlines c T tables rows fed each admissible i p)

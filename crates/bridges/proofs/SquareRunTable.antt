-- A square made from a closed table gives that table's lists: its run is accepted where the table's is, and both leave the same.
use mathlib.Core.Path.{◌≡◌, refl, sym, ◌∙◌}
use mathlib.Core.List.{List}
use Prim.Native.Nat.{ℕ, ◌≤◌}
use lib.ListN.{length}
use Rattle.calculus.specs.Envelopes.Envelope.{windows}
use Rattle.calculus.specs.Regulators.Rows.{envelope_of}
use Rattle.square_calculus.specs.Square.{square_of}
use Rattle.calculus.specs.Numbers.Limit.{delay_limit}
use Rattle.square_calculus.specs.SquareRows.{Reached}
use Rattle.orders.specs.Verdict.{Verdict, Accepted}
use Rattle.orders.proofs.Answered.{accepted_none}
use Rattle.refusals.proofs.AcceptedSettings.{set_up-table}
use Rattle.orders.specs.Answered.{verdict_of}
use Rattle.trace.specs.WholeTrace.{Ran}
use Rattle.trace.proofs.RunAnswer.{run-accepted}
use Rattle.trace.proofs.RunLowestLoss.{run_rows_lem}
use Rattle.square.specs.SquareRun.{SquareRan}
use Rattle.square.proofs.SquareRunLowestLoss.{square_run-made}
use Rattle.square.proofs.SquareRunTaken.{square_run-taken}

pub square_run-table : (table : List ℕ) (d q : ℕ) (trace ins drops outs ins' drops' outs' a b c a' b' c' : List ℕ)
    → SquareRan (square_of (windows (envelope_of table))) d q trace ins drops outs Accepted ins' drops' outs'
    → Ran table d q trace a b c Accepted a' b' c' → (ins' ≡ a') × (drops' ≡ b') × (outs' ≡ c')
square_run-table table d q trace ins drops outs ins' drops' outs' a b c a' b' c' squared ran =
    let ok = run-accepted table d q trace (length a) (length b) (length c) (accepted_none _ ran.answered) in
    let made = square_run-made (square_of (windows (envelope_of table))) d q trace ins drops outs Accepted ins' drops' outs' squared refl table (set_up-table table d q ok.set_up) refl in
    let rows = run_rows_lem table d q trace a b c Accepted a' b' c' ran refl in
    (made.0 ∙ sym rows.0, made.1 ∙ sym rows.1, made.2 ∙ sym rows.2)

-- Where the table's run is accepted, f(32) is at most 1,000,000, the square reaches the trace and the lists are as long as it, the square's
-- run is accepted too, and leaves the same lists.
pub square_run_same : (table : List ℕ) (d q : ℕ) (trace ins drops outs : List ℕ) (verdict : Verdict) (ins' drops' outs' a b c a' b' c' : List ℕ)
    → SquareRan (square_of (windows (envelope_of table))) d q trace ins drops outs verdict ins' drops' outs'
    → Ran table d q trace a b c Accepted a' b' c' → envelope_of table 32 ≤ 1000000 → Reached (delay_limit d) (length trace)
    → length ins ≡ length trace → length drops ≡ length trace → length outs ≡ length trace
    → (verdict ≡ Accepted) × (ins' ≡ a') × (drops' ≡ b') × (outs' ≡ c')
unfolding verdict_of
square_run_same table d q trace ins drops outs verdict ins' drops' outs' a b c a' b' c' squared ran low reached long_ins long_drops long_outs =
    let none = square_run-taken table d q trace (length a) (length b) (length c) (length ins) (length drops) (length outs) (accepted_none _ ran.answered) low reached long_ins long_drops long_outs in
    let taken : verdict ≡ Accepted = rw none at squared.answered in
    let same = square_run-table table d q trace ins drops outs ins' drops' outs' a b c a' b' c' (rw taken at squared) ran in
    (taken, same.0, same.1, same.2)

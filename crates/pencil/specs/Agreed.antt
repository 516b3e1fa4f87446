-- What it is for lists to be agreed on (document 02, request 2.14): the whole-trace run fills them, and a fresh live regulator answers them
-- slot by slot.
use Rattle.std.specs.Prelude.{◌≡◌, List, ℕ, length}
use Rattle.orders.specs.Verdict.{Verdict, Accepted}
use Rattle.regulator.specs.LiveRows.{LiveRows}
use Rattle.trace.specs.WholeTrace.{Ran}

pub record Agreed (table : List ℕ) (d q : ℕ) (trace ins drops outs : List ℕ) : Type 0 where
  -- The whole-trace run, lent lists as long as the trace, accepts and fills them with these.
  pub run : (a b c a' b' c' : List ℕ) (verdict : Verdict) → length a ≡ length trace → length b ≡ length trace → length c ≡ length trace
      → Ran table d q trace a b c verdict a' b' c' → (verdict ≡ Accepted) × (a' ≡ ins) × (b' ≡ drops) × (c' ≡ outs)
  -- The set-up gives a live regulator; it accepts the trace's slots, call by call, and answers these counts.
  pub live : LiveRows table d q trace ins drops outs

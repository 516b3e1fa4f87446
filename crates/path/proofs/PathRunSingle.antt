-- A path of one stage answers and leaves what the whole-trace run with its table does, refusals included. Nothing is assumed of a
-- run but what its contract says.
use mathlib.Core.Path.{◌≡◌, refl, sym, ◌∙◌}
use mathlib.Core.List.{List, [], ◌∷◌}
use Prim.Native.Nat.{ℕ, zero, suc, ◌*◌}
use native.Mathlib.Omega.{arith}
use lib.ListN.{length}
use Rattle.path_calculus.specs.Path.{Stages}
use Rattle.path_calculus.proofs.PathRows.{path_single}
use Rattle.orders.specs.Refusal.{◌when◌, ◌or_else◌}
use Rattle.refusals.specs.Table.{table_refusal}
use Rattle.orders.specs.Verdict.{Verdict}
use Rattle.refusals.specs.Limits.{delay_limit, buffer_limit, limits_refusal, set_up_refusal}
use Rattle.refusals.specs.Lengths.{length_refusal, lists_refusal, counts_refusal}
use Rattle.refusals.specs.WholeTrace.{trace_refusal, run_refusal}
use Rattle.trace.specs.WholeTrace.{Ran}
use Rattle.orders.specs.Answered.{unless_refused}
use Rattle.path.specs.Refusals.{stages_refusal, tables_of, tables_refusal, path_refusal}
use Rattle.path.specs.PathRun.{PathRan}
use Rattle.path.proofs.RefusalParts.{or_else_groups, or_else_nothing, path-accepted}
use Rattle.path.proofs.Entrance.{path_stages}

-- One stage gets the whole-trace run's number.
single-number : (table : List ℕ) (d q : ℕ) (trace : List ℕ) (ins drops outs : ℕ)
    → path_refusal 1 (table ∷ []) d q trace ins drops outs ≡ run_refusal table d q trace ins drops outs
unfolding path_refusal run_refusal trace_refusal set_up_refusal tables_refusal stages_refusal ◌when◌ ◌or_else◌
single-number table d q trace ins drops outs =
    let T : ℕ = length trace in
    let one : 1 * T ≡ T = omega arith in
    let lists : ℕ = lists_refusal T ins or_else lists_refusal T drops or_else lists_refusal T outs in
    let rest : ℕ = length_refusal T or_else lists or_else counts_refusal trace in
    rw (one, or_else_nothing (table_refusal table)) (sym (or_else_groups (table_refusal table) (limits_refusal d q) rest))

-- Equal rows leave equal lists.
list_same : (k : ℕ) (rows others before : List ℕ) → (k ≡ 0 → rows ≡ others) → unless_refused k rows before ≡ unless_refused k others before
unfolding unless_refused
list_same zero rows others before same = same refl
list_same (suc k) rows others before same = refl

module _ (first second third fourth : List ℕ) (d q : ℕ) (trace ins drops outs : List ℕ) (verdict : Verdict) (ins' drops' outs' : List ℕ) where
  single_stages : path_refusal 1 (first ∷ []) d q trace (length ins) (length drops) (length outs) ≡ 0 → Stages (first ∷ [])
  single_stages e = path_stages (first ∷ []) (omega arith) (path-accepted 1 (first ∷ []) d q trace (length ins) (length drops) (length outs) e).tabled

  pub path_run_single : PathRan 1 (tables_of 1 first second third fourth) d q trace ins drops outs verdict ins' drops' outs'
      → Ran first d q trace ins drops outs verdict ins' drops' outs'
  unfolding tables_of
  path_run_single ran =
      let k : ℕ = path_refusal 1 (first ∷ []) d q trace (length ins) (length drops) (length outs) in
      let number : k ≡ run_refusal first d q trace (length ins) (length drops) (length outs) = single-number first d q trace (length ins) (length drops) (length outs) in
      record {
        answered = rw (← number) ran.answered;
        admits = rw (← number) (ran.admits ∙ list_same k _ _ ins (λ e. (path_single first (single_stages e) (delay_limit d) (buffer_limit q) trace).0));
        dropped = rw (← number) (ran.dropped ∙ list_same k _ _ drops (λ e. (path_single first (single_stages e) (delay_limit d) (buffer_limit q) trace).1));
        departs = rw (← number) (ran.departs ∙ list_same k _ _ outs (λ e. (path_single first (single_stages e) (delay_limit d) (buffer_limit q) trace).2));
      }

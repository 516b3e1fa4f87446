-- What is accepted is run with every limit that is looked at, and what is answered.
use Rattle.std.proofs.Common.{Result, Err}
use mathlib.Core.Path.{◌≡◌, refl, ap, ◌∙◌}
use mathlib.Core.Bool.{Bool, true, false, ◌&&◌}
use mathlib.Core.List.{List}
use Prim.Native.Nat.{ℕ, zero, suc, ◌≤◌, ◌<◌}
use native.Mathlib.Omega.{arith}
use lib.Dec.{eqb}
use lib.ListN.{length}
use borrow.Author.Tests.{le-leb, lt-leb, ne_eqb}
use Rattle.calculus.specs.Numbers.Limit.{Limit}
use Rattle.calculus.specs.Envelopes.Envelope.{windows, ClosedEnvelope}
use Rattle.calculus.specs.Regulators.Rows.{envelope_of, lost_by}
use Rattle.calculus.proofs.Numbers.Limit.{delay-number, buffer-number}
use Rattle.calculus.proofs.Envelopes.Envelope.{closure_envelope}
use Rattle.size_calculus.specs.Smallest.{loss_with_buffer, loss_with_delay, smallest}
use Rattle.orders.specs.Refusal.{pick, ◌when◌, ◌or_else◌}
use Rattle.refusals.specs.Table.{table_refusal}
use Rattle.refusals.specs.Limits.{delay_limit, buffer_limit, delay_refusal, buffer_refusal, both_refusal, limits_refusal, set_up_refusal}
use Rattle.orders.proofs.Refusals.{or_else_none}
use Rattle.refusals.proofs.TableJudged.{table-accepted, table_given}
use Rattle.refusals.proofs.Measured.{same_list}
use Rattle.refusals.specs.WholeTrace.{trace_refusal, run_refusal}
use Rattle.orders.specs.declared.refusal.Refusal.{Refusal}
use Rattle.orders.specs.Answered.{refusal_number, number_given}
use Rattle.orders.proofs.Given.{refusal_numbered, given_number}
use Rattle.size.specs.declared.Size.{Size}
use Rattle.size.specs.Size.{counted_refusal, buffer_size_refusal, delay_size_refusal, sized, size_answer, size_given}
use Rattle.size.specs.Size as answer

-- Limits of which one is a small number are not both none.
both-buffer : (d q : ℕ) → q ≤ 1000000 → both_refusal d q ≡ 0
unfolding both_refusal ◌when◌
both-buffer d q p = rw (ne_eqb q 4294967295 (λ e. omega arith)) (never (eqb d 255))
  where
    never : (b : Bool) → 23 when (b && false) ≡ 0
    never true = unfold ◌when◌ in refl
    never false = unfold ◌when◌ in refl

both-delay : (d q : ℕ) → d ≤ 64 → both_refusal d q ≡ 0
unfolding both_refusal ◌when◌
both-delay d q p = rw (ne_eqb d 255 (λ e. omega arith)) refl

buffer_fine : (q : ℕ) → q ≤ 1000000 → buffer_refusal q ≡ 0
unfolding buffer_refusal pick
buffer_fine q p = rw (le-leb q 1000000 p) refl

delay_fine : (d : ℕ) → d ≤ 64 → delay_refusal d ≡ 0
unfolding delay_refusal pick
delay_fine d p = rw (le-leb d 64 p) refl

-- A table, limits and a trace that get no number one by one are run, in lists of the trace's length.
runs : (table : List ℕ) (d q : ℕ) (trace : List ℕ) → table_refusal table ≡ 0 → delay_refusal d ≡ 0 → buffer_refusal q ≡ 0 → both_refusal d q ≡ 0 → counted_refusal trace ≡ 0
    → run_refusal table d q trace (length trace) (length trace) (length trace) ≡ 0
unfolding run_refusal set_up_refusal limits_refusal trace_refusal counted_refusal ◌or_else◌
runs table d q trace tabled delayed buffered both counted =
    rw (tabled, delayed, buffered, both, same_list (length trace) (length trace) refl) counted

-- The envelope of a table that gets no number is closed.
table_closed : (table : List ℕ) → table_refusal table ≡ 0 → ClosedEnvelope (windows (envelope_of table))
unfolding envelope_of
table_closed table tabled = closure_envelope _ _ (table_given table (table-accepted table tabled))

-- What a search for a buffer limit is known to have.
module _ (table : List ℕ) (d : ℕ) (trace : List ℕ) (none : buffer_size_refusal table d trace ≡ 0) where
  pub buffer_runs : (q : ℕ) → q ≤ 1000000 → run_refusal table d q trace (length trace) (length trace) (length trace) ≡ 0
  unfolding buffer_size_refusal
  buffer_runs q p =
      let (tabled, later) = or_else_none (table_refusal table) _ none in
      let (delayed, counted) = or_else_none (delay_refusal d) _ later in
      runs table d q trace tabled delayed (buffer_fine q p) (both-buffer d q p) counted

  pub buffer-loss : (q v : ℕ) → q ≤ 1000000 → v ≡ lost_by table (delay_limit d) (buffer_limit q) trace (length trace) → v ≡ loss_with_buffer table (delay_limit d) trace q
  unfolding loss_with_buffer
  buffer-loss q v p e = e ∙ ap (λ (l : Limit). lost_by table (delay_limit d) l trace (length trace)) (buffer-number q p)

  pub buffer_closed : ClosedEnvelope (windows (envelope_of table))
  unfolding buffer_size_refusal
  buffer_closed = table_closed table (or_else_none (table_refusal table) _ none).0

-- What a search for a delay limit is known to have.
module _ (table : List ℕ) (q : ℕ) (trace : List ℕ) (none : delay_size_refusal table q trace ≡ 0) where
  pub delay_runs : (d : ℕ) → d ≤ 64 → run_refusal table d q trace (length trace) (length trace) (length trace) ≡ 0
  unfolding delay_size_refusal
  delay_runs d p =
      let (tabled, later) = or_else_none (table_refusal table) _ none in
      let (buffered, counted) = or_else_none (buffer_refusal q) _ later in
      runs table d q trace tabled (delay_fine d p) buffered (both-delay d q p) counted

  pub delay-loss : (d v : ℕ) → d ≤ 64 → v ≡ lost_by table (delay_limit d) (buffer_limit q) trace (length trace) → v ≡ loss_with_delay table (buffer_limit q) trace d
  unfolding loss_with_delay
  delay-loss d v p e = e ∙ ap (λ (l : Limit). lost_by table l (buffer_limit q) trace (length trace)) (delay-number d p)

  pub delay_closed : ClosedEnvelope (windows (envelope_of table))
  unfolding delay_size_refusal
  delay_closed = table_closed table (or_else_none (table_refusal table) _ none).0

-- What is answered.
module _ (number most : ℕ) (loss : ℕ → ℕ) (N : ℕ) where
  pub size_refused : (k : ℕ) → (k ≡ 0 → ⊥) → k ≡ number → answer.Refused k ≡ size_answer number most loss N
  unfolding size_answer
  size_refused zero r e = absurd (r refl)
  size_refused (suc k) r e = rw (← e)

  pub call_refused : {A : Type 0} (given : Result A Refusal) (answered : Result Size Refusal) (r : Refusal)
      → number_given given ≡ number → given ≡ Err r → answered ≡ Err r → size_given answered ≡ size_answer number most loss N
  unfolding size_given
  call_refused given answered r numbered refused e =
      ap size_given e ∙ size_refused (refusal_number r) (refusal_numbered r) (given_number given r number numbered refused)

  module _ (none : number ≡ 0) (limit v : ℕ) (same : limit ≡ smallest most loss N) where
    pub size_found : (g : ℕ) → g ≡ most → limit ≤ g → v ≡ loss limit → answer.Found (record { limit = limit; lost = v }) ≡ size_answer number most loss N
    unfolding size_answer sized
    size_found g is p e = rw (none, ← same, le-leb limit most (omega arith), e) refl

    pub size_none : (g : ℕ) → g ≡ most → g < limit → v ≡ loss g → answer.NotFound (record { limit = g; lost = v }) ≡ size_answer number most loss N
    unfolding size_answer sized
    size_none g is p e = rw (none, ← same, lt-leb limit most (omega arith), e ∙ ap loss is, is) refl

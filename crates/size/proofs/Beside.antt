-- What is known of the limits that are looked through, whichever limit is kept.
use mathlib.Core.Path.{◌≡◌, refl, ◌∙◌}
use mathlib.Core.List.{List}
use Prim.Native.Nat.{ℕ, ◌≤◌}
use native.Mathlib.Omega.{arith}
use Rattle.size_calculus.proofs.Smallest.{NeverGrows, buffer_never_grows, delay_never_grows}
use Rattle.orders.specs.Refusal.{◌or_else◌}
use Rattle.refusals.specs.Table.{table_refusal}
use Rattle.refusals.specs.Limits.{delay_limit, buffer_limit}
use Rattle.numbers.specs.declared.count.Slots.{Slots}
use Rattle.numbers.specs.declared.count.Packets.{Packets}
use Rattle.trace_loss.specs.TraceLoss.{trace_loss}
use Rattle.trace_loss.proofs.TraceLoss.{loss-accepted}
use Rattle.size.specs.Size.{counted_refusal, buffer_size_refusal, delay_size_refusal}
use Rattle.size.specs.Beside.{kept_refusal, beside_refusal, greatest_beside, loss_beside}
use Rattle.size.specs.declared.Kept.{Kept}
use Rattle.size.specs.declared.Kept.TheVariants as kept
use Rattle.size.proofs.SizeSearched.{buffer_runs, buffer-loss, delay_runs, delay-loss, delay_closed}

-- The table, then the limit that is kept, then the trace.
pub size-first : (table : List ℕ) (beside : Kept) (trace : List ℕ) → table_refusal table or_else kept_refusal beside or_else counted_refusal trace ≡ beside_refusal table beside trace
unfolding kept_refusal beside_refusal buffer_size_refusal delay_size_refusal
size-first table (kept.Delay d) trace = refl
size-first table (kept.Buffer q) trace = refl

pub greatest_few : (beside : Kept) → greatest_beside beside ≤ 1000000
unfolding greatest_beside
greatest_few (kept.Delay d) = omega arith
greatest_few (kept.Buffer q) = omega arith

-- What is lost never grows with the limit.
pub beside_never_grows : (table : List ℕ) (beside : Kept) (trace : List ℕ) → beside_refusal table beside trace ≡ 0 → NeverGrows (loss_beside table beside trace)
unfolding loss_beside beside_refusal
beside_never_grows table (kept.Delay d) trace none = buffer_never_grows table (delay_limit d.0) trace
beside_never_grows table (kept.Buffer q) trace none =
    delay_never_grows table (buffer_limit q.0) trace (delay_closed table q.0 trace none)

-- The run's loss with a limit, beside a delay limit ..
pub buffer_beside : (table : List ℕ) (beside : Kept) (trace : List ℕ) → beside_refusal table beside trace ≡ 0 → (d : Slots) → beside ≡ kept.Delay d
    → (limit v : ℕ) → limit ≤ greatest_beside beside → v ≡ trace_loss table d.0 limit trace → v ≡ loss_beside table beside trace limit
unfolding loss_beside beside_refusal greatest_beside
buffer_beside table beside trace none d e limit v p lost =
    let fine : buffer_size_refusal table d.0 trace ≡ 0 = rw e at none in
    let few : limit ≤ 1000000 = rw e at p in
    rw e (buffer-loss table d.0 trace fine limit v few (lost ∙ loss-accepted table d.0 limit trace (buffer_runs table d.0 trace fine limit few)))

-- .. and beside a buffer limit.
pub delay_beside : (table : List ℕ) (beside : Kept) (trace : List ℕ) → beside_refusal table beside trace ≡ 0 → (q : Packets) → beside ≡ kept.Buffer q
    → (limit v : ℕ) → limit ≤ greatest_beside beside → v ≡ trace_loss table limit q.0 trace → v ≡ loss_beside table beside trace limit
unfolding loss_beside beside_refusal greatest_beside
delay_beside table beside trace none q e limit v p lost =
    let fine : delay_size_refusal table q.0 trace ≡ 0 = rw e at none in
    let few : limit ≤ 64 = rw e at p in
    rw e (delay-loss table q.0 trace fine limit v few (lost ∙ loss-accepted table limit q.0 trace (delay_runs table q.0 trace fine limit few)))

-- The sizes by hand are so: the definitions compute to the losses at a limit and at the one below it.
use mathlib.Core.Path.{◌≡◌, refl}
use mathlib.Core.List.{List, [], ◌∷◌}
use Prim.Native.Nat.{ℕ, zero, suc, ◌≤◌, ◌<◌}
use native.Mathlib.Omega.{arith}
use lib.ListN.{get_or}
use Rattle.calculus.specs.Numbers.Least.{least_of, least}
use Rattle.calculus.specs.Numbers.Course.{course_below, course}
use Rattle.calculus.specs.Numbers.Limit.{Limit, none, at_most, map_limit, smaller, cut}
use Rattle.calculus.specs.Envelopes.Closure.{closing, closure}
use Rattle.calculus.specs.Envelopes.Envelope.{windows, ClosedEnvelope}
use Rattle.calculus.specs.Regulators.Clipper.{arrived, clipping, clipped, delay_bound, buffer_bound, clipper_window, clipper_envelope, admitted}
use Rattle.calculus.specs.Regulators.Regulator.{convolution, departed, lost}
use Rattle.calculus.specs.Regulators.Fill.{bench_fill_at, greatest}
use Rattle.calculus.specs.Regulators.Trace.{arrivals}
use Rattle.calculus.specs.Regulators.Rows.{envelope_of, lost_by}
use Rattle.calculus.proofs.Envelopes.Envelope.{closure_envelope}
use Rattle.size_calculus.specs.Looser.{to_none}
use Rattle.size_calculus.specs.Smallest.{SmallestBuffer, SmallestDelay, NoneDoes, loss_with_buffer, loss_with_delay}
use Rattle.size_calculus.specs.PeakBuffer.{peak_alone}
use Rattle.size_calculus.specs.SizeSample.{sample_table, sample_trace, SizeSample}
use Rattle.size_calculus.proofs.Looser.{lost_less-buffer}
use Rattle.size_calculus.proofs.Smallest.{smallest_here, buffer_never_grows, delay_never_grows}

sample_closed : ClosedEnvelope (windows (envelope_of sample_table))
unfolding envelope_of
sample_closed = closure_envelope 2 _ (record { nonempty = omega arith; starts = refl; rises = rises })
  where
    rises : (i j : ℕ) → i ≤ j → j ≤ 2 → get_or sample_table i 0 ≤ get_or sample_table j 0
    rises zero j p q = omega arith
    rises (suc zero) zero p q = absurd (omega arith)
    rises (suc zero) (suc zero) p q = omega arith
    rises (suc zero) (suc (suc zero)) p q = omega arith
    rises (suc zero) (suc (suc (suc j))) p q = absurd (omega arith)
    rises (suc (suc zero)) zero p q = absurd (omega arith)
    rises (suc (suc zero)) (suc zero) p q = absurd (omega arith)
    rises (suc (suc zero)) (suc (suc zero)) p q = omega arith
    rises (suc (suc zero)) (suc (suc (suc j))) p q = absurd (omega arith)
    rises (suc (suc (suc i))) j p q = absurd (omega arith)

one_closed : ClosedEnvelope (windows (envelope_of (0 ∷ 1 ∷ [])))
unfolding envelope_of
one_closed = closure_envelope 1 _ (record { nonempty = omega arith; starts = refl; rises = rises })
  where
    rises : (i j : ℕ) → i ≤ j → j ≤ 1 → get_or (0 ∷ 1 ∷ []) i 0 ≤ get_or (0 ∷ 1 ∷ []) j 0
    rises zero j p q = omega arith
    rises (suc zero) zero p q = absurd (omega arith)
    rises (suc zero) (suc zero) p q = omega arith
    rises (suc zero) (suc (suc j)) p q = absurd (omega arith)
    rises (suc (suc i)) j p q = absurd (omega arith)

-- With a delay limit of 1, no buffer limit loses 9, and limits of 1, 2 and 3 lose 7, 5 and 3, as does no limit at all.
pub buffer_losses : (loss_with_buffer sample_table (at_most 1) sample_trace 0 ≡ 9) × (loss_with_buffer sample_table (at_most 1) sample_trace 1 ≡ 7)
    × (loss_with_buffer sample_table (at_most 1) sample_trace 2 ≡ 5) × (loss_with_buffer sample_table (at_most 1) sample_trace 3 ≡ 3)
    × (lost_by sample_table (at_most 1) none sample_trace 4 ≡ 3)
unfolding least_of least course_below course map_limit smaller cut closing closure windows arrived clipping clipped delay_bound buffer_bound clipper_window clipper_envelope admitted lost arrivals envelope_of lost_by loss_with_buffer
buffer_losses = (refl, refl, refl, refl, refl)

-- With a buffer limit of 9, delay limits of 0 to 3 lose 5, 3, 1 and 0.
pub delay_losses : (loss_with_delay sample_table (at_most 9) sample_trace 0 ≡ 5) × (loss_with_delay sample_table (at_most 9) sample_trace 1 ≡ 3)
    × (loss_with_delay sample_table (at_most 9) sample_trace 2 ≡ 1) × (loss_with_delay sample_table (at_most 9) sample_trace 3 ≡ 0)
unfolding least_of least course_below course map_limit smaller cut closing closure windows arrived clipping clipped delay_bound buffer_bound clipper_window clipper_envelope admitted lost arrivals envelope_of lost_by loss_with_delay
delay_losses = (refl, refl, refl, refl)

-- Without the empty end: limits of 2 and 3 lose 5 and 3, and delay limits of 0 and 1 lose 5 and 3.
last_losses : (loss_with_buffer sample_table (at_most 1) (5 ∷ 0 ∷ 4 ∷ []) 2 ≡ 5) × (loss_with_buffer sample_table (at_most 1) (5 ∷ 0 ∷ 4 ∷ []) 3 ≡ 3)
    × (loss_with_delay sample_table (at_most 9) (5 ∷ 0 ∷ 4 ∷ []) 0 ≡ 5) × (loss_with_delay sample_table (at_most 9) (5 ∷ 0 ∷ 4 ∷ []) 1 ≡ 3)
unfolding least_of least course_below course map_limit smaller cut closing closure windows arrived clipping clipped delay_bound buffer_bound clipper_window clipper_envelope admitted lost arrivals envelope_of lost_by loss_with_buffer loss_with_delay
last_losses = (refl, refl, refl, refl)

-- The greatest limits lose nothing, and those below them a packet.
greatest_losses : (loss_with_buffer (0 ∷ 0 ∷ []) none (1000000 ∷ []) 999999 ≡ 1) × (loss_with_buffer (0 ∷ 0 ∷ []) none (1000000 ∷ []) 1000000 ≡ 0)
    × (loss_with_delay (0 ∷ 1 ∷ []) none (65 ∷ []) 63 ≡ 1) × (loss_with_delay (0 ∷ 1 ∷ []) none (65 ∷ []) 64 ≡ 0)
unfolding least_of least course_below course map_limit smaller cut closing closure windows arrived clipping clipped delay_bound buffer_bound clipper_window clipper_envelope admitted lost arrivals envelope_of lost_by loss_with_buffer loss_with_delay
greatest_losses = (refl, refl, refl, refl)

-- The bench's fills with a delay limit of 1 and no buffer limit are 3, 1, 3 and 1.
sample_peak : (peak_alone sample_table (at_most 1) sample_trace ≡ 3) × (peak_alone sample_table (at_most 1) (0 ∷ 5 ∷ []) ≡ 3)
unfolding least_of least course_below course map_limit smaller cut closing closure windows arrived clipping clipped delay_bound buffer_bound clipper_window clipper_envelope admitted convolution departed bench_fill_at greatest arrivals envelope_of peak_alone
sample_peak = (refl, refl)

abbrev loss_b : ℕ → ℕ
loss_b = loss_with_buffer sample_table (at_most 1) sample_trace

-- A limit that is not 0 is the smallest where it loses at most N and the one before loses more.
buffer-first : (table : List ℕ) (d : Limit) (trace : List ℕ) (N q : ℕ) → suc q ≤ 1000000 → loss_with_buffer table d trace (suc q) ≤ N → N < loss_with_buffer table d trace q
    → SmallestBuffer table d trace N (suc q)
buffer-first table d trace N q p few more =
    smallest_here 1000000 _ N (buffer_never_grows table d trace) (suc q) p few (λ n e. let same : q ≡ n = omega arith in rw (← same) more)

delay-first : (table : List ℕ) → ClosedEnvelope (windows (envelope_of table)) → (q : Limit) (trace : List ℕ) (N d : ℕ) → suc d ≤ 64 → loss_with_delay table q trace (suc d) ≤ N
    → N < loss_with_delay table q trace d → SmallestDelay table q trace N (suc d)
delay-first table closed q trace N d p few more =
    smallest_here 64 _ N (delay_never_grows table q trace closed) (suc d) p few (λ n e. let same : d ≡ n = omega arith in rw (← same) more)

no_buffer : NoneDoes 1000000 loss_b 2
unfolding NoneDoes loss_with_buffer lost_by
no_buffer n p =
    omega (arith, buffer_losses.4, lost_less-buffer (arrivals sample_trace) 4 (windows (envelope_of sample_table)) (at_most 1) (at_most n) none (to_none (at_most n)))

pub size_sample : SizeSample
size_sample =
    let (b0, b1, b2, b3, _) = buffer_losses in
    let (d0, d1, d2, d3) = delay_losses in
    let (l0, l1, l2, l3) = last_losses in
    let (g0, g1, g2, g3) = greatest_losses in
    record {
      buffer_9 = record { within = omega arith; loses = omega arith; none_smaller = λ n p. absurd (omega arith) };
      buffer_8 = buffer-first sample_table (at_most 1) sample_trace 8 0 (omega arith) (omega arith) (omega arith);
      buffer_7 = buffer-first sample_table (at_most 1) sample_trace 7 0 (omega arith) (omega arith) (omega arith);
      buffer_6 = buffer-first sample_table (at_most 1) sample_trace 6 1 (omega arith) (omega arith) (omega arith);
      buffer_5 = buffer-first sample_table (at_most 1) sample_trace 5 1 (omega arith) (omega arith) (omega arith);
      buffer_4 = buffer-first sample_table (at_most 1) sample_trace 4 2 (omega arith) (omega arith) (omega arith);
      buffer_3 = buffer-first sample_table (at_most 1) sample_trace 3 2 (omega arith) (omega arith) (omega arith);
      buffer_2 = no_buffer;
      delay_5 = record { within = omega arith; loses = omega arith; none_smaller = λ n p. absurd (omega arith) };
      delay_4 = delay-first sample_table sample_closed (at_most 9) sample_trace 4 0 (omega arith) (omega arith) (omega arith);
      delay_3 = delay-first sample_table sample_closed (at_most 9) sample_trace 3 0 (omega arith) (omega arith) (omega arith);
      delay_2 = delay-first sample_table sample_closed (at_most 9) sample_trace 2 1 (omega arith) (omega arith) (omega arith);
      delay_1 = delay-first sample_table sample_closed (at_most 9) sample_trace 1 1 (omega arith) (omega arith) (omega arith);
      delay_0 = delay-first sample_table sample_closed (at_most 9) sample_trace 0 2 (omega arith) (omega arith) (omega arith);
      buffer_last = buffer-first sample_table (at_most 1) (5 ∷ 0 ∷ 4 ∷ []) 3 2 (omega arith) (omega arith) (omega arith);
      delay_last = delay-first sample_table sample_closed (at_most 9) (5 ∷ 0 ∷ 4 ∷ []) 3 0 (omega arith) (omega arith) (omega arith);
      buffer_greatest = buffer-first (0 ∷ 0 ∷ []) none (1000000 ∷ []) 0 999999 (omega arith) (omega arith) (omega arith);
      delay_greatest = delay-first (0 ∷ 1 ∷ []) one_closed none (65 ∷ []) 0 63 (omega arith) (omega arith) (omega arith);
      peak = sample_peak.0;
      peak_last = sample_peak.1;
    }

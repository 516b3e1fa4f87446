-- The rules by hand: each number is worked out from its definition.
use mathlib.Core.Path.{refl}
use Rattle.calculus.specs.Regulators.Trace.{arrivals, sum_to}
use Rattle.orders.specs.Refusal.{◌when◌, ◌or_else◌}
use Rattle.rival_calculus.specs.Broken.{first_up_to, is_over_arrivals, is_over_admitted, over_window, broken_window, is_over_envelope, is_over_buffer, is_over_delay, rule_at}
use Rattle.rival_calculus.specs.BrokenSample.{sample_rule, BrokenSample}

pub broken_sample : BrokenSample
unfolding arrivals sum_to ◌when◌ ◌or_else◌ first_up_to is_over_arrivals is_over_admitted over_window broken_window is_over_envelope is_over_buffer is_over_delay rule_at sample_rule
broken_sample =
    record {
      ours_first = refl;
      ours_second = refl;
      arrivals_broken = refl;
      admitted_broken = refl;
      envelope_broken = refl;
      buffer_broken = refl;
      delay_broken = refl;
      both_broken = refl;
    }

-- The path by hand holds: the definitions compute to it.
use mathlib.Core.Path.{refl}
use Rattle.calculus.specs.Numbers.Least.{least_of, least}
use Rattle.calculus.specs.Numbers.Course.{course_below, course}
use Rattle.calculus.specs.Numbers.Limit.{map_limit, smaller, cut}
use Rattle.calculus.specs.Numbers.Lists.{list_of}
use Rattle.calculus.specs.Envelopes.Closure.{closing, closure}
use Rattle.calculus.specs.Envelopes.Envelope.{windows}
use Rattle.calculus.specs.Regulators.Clipper.{arrived, clipping, clipped, delay_bound, buffer_bound, clipper_window, clipper_envelope, admitted}
use Rattle.calculus.specs.Regulators.Regulator.{convolution}
use Rattle.calculus.specs.Regulators.Trace.{arrivals, slot_counts}
use Rattle.calculus.specs.Regulators.Rows.{envelope_of}
use Rattle.path_calculus.specs.Path.{stage_envelope, least_envelope, path_envelope, path_admitted, path_lost, stage_departed, stage_rows, path_admitted_row, path_dropped_row, path_stage_rows}
use Rattle.path_calculus.specs.PathSample.{PathSample}

pub path_sample : PathSample
unfolding least_of least course_below course map_limit smaller cut list_of closing closure windows arrived clipping clipped delay_bound buffer_bound clipper_window clipper_envelope admitted convolution arrivals slot_counts envelope_of stage_envelope least_envelope path_envelope path_admitted path_lost stage_departed stage_rows path_admitted_row path_dropped_row path_stage_rows
path_sample = record { least = refl; closed = refl; admitted = refl; dropped = refl; departed = refl; turned = refl; buffered = refl }

-- The cable link's rows, computed.
use mathlib.Core.Path.{refl}
use Rattle.calculus.specs.Numbers.Limit.{map_limit, smaller, cut}
use Rattle.calculus.specs.Numbers.Least.{least_of, least}
use Rattle.calculus.specs.Numbers.Course.{course_below, course}
use Rattle.calculus.specs.Numbers.Lists.{list_of}
use Rattle.calculus.specs.Regulators.Clipper.{arrived, clipped, clipping, clipper_envelope, delay_bound, buffer_bound, clipper_window, admitted}
use Rattle.calculus.specs.Regulators.Regulator.{convolution, departed, lost}
use Rattle.calculus.specs.Regulators.Trace.{arrivals, slot_counts}
use Rattle.square_calculus.specs.Square.{closing_from, closure_of, square_entry, square_envelope}
use Rattle.square_calculus.specs.SquareRows.{closed_envelope, square_admitted_row, square_dropped_row, square_departed_row}
use Rattle.square_calculus.specs.SquareSample.{cable_link, SquareSample}

pub square_sample : SquareSample
unfolding least_of least course_below course map_limit smaller cut list_of arrived clipping clipped delay_bound buffer_bound clipper_window clipper_envelope admitted convolution departed lost arrivals slot_counts closing_from closure_of square_entry square_envelope closed_envelope square_admitted_row square_dropped_row square_departed_row cable_link
square_sample =
    record {
      row_0 = refl;
      row_1 = refl;
      buffer_admits = refl;
      buffer_drops = refl;
      buffer-departs = refl;
      delay_admits = refl;
      delay-departs = refl;
      slot_two = refl;
      slot_two_more = refl;
    }

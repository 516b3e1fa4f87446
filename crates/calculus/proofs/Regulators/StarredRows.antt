-- The starred rows of documents 01 and 02 hold: the definitions compute to them.
use mathlib.Core.Path.{refl}
use Rattle.calculus.specs.Numbers.Least.{least_of, least}
use Rattle.calculus.specs.Numbers.Course.{course_below, course}
use Rattle.calculus.specs.Numbers.Limit.{map_limit, smaller, cut, limit_unless, delay_limit, buffer_limit}
use Rattle.calculus.specs.Envelopes.Closure.{closing, closure}
use Rattle.calculus.specs.Envelopes.Envelope.{windows}
use Rattle.calculus.specs.Numbers.FirstWhere.{first_where}
use Rattle.calculus.specs.Envelopes.Piece.{piece_of, first_piece, table_piece}
use Rattle.calculus.specs.Regulators.Clipper.{arrived, clipping, clipped, delay_bound, buffer_bound, clipper_window, clipper_envelope, admitted}
use Rattle.calculus.specs.Regulators.Regulator.{convolution, departed, lost, held}
use Rattle.calculus.specs.Numbers.Lists.{list_of}
use Rattle.calculus.specs.Regulators.Trace.{arrivals, slot_counts, slot_totals}
use Rattle.calculus.specs.Regulators.Rows.{envelope_of, admitted_by, lost_by, departed_by, held_by, admitted_row, dropped_row, departed_row, held_row}
use Rattle.calculus.specs.Regulators.StarredRows.{closes_to, StarredRows}

pub starred_rows : StarredRows
unfolding least_of least course_below course map_limit smaller cut limit_unless delay_limit buffer_limit closing closure first_where piece_of first_piece table_piece windows arrived clipping clipped delay_bound buffer_bound clipper_window clipper_envelope admitted convolution departed lost held arrivals list_of slot_counts slot_totals envelope_of admitted_by lost_by departed_by held_by admitted_row dropped_row departed_row held_row closes_to
starred_rows =
    record {
      closes_025 = (refl, (refl, (refl, tt)));
      closes_005 = (refl, (refl, (refl, tt)));
      closes_05620 = (refl, (refl, (refl, (refl, tt))));
      beyond_023 = (refl, (refl, tt));
      piece_023 = (refl, refl);
      piece_025 = (refl, refl);
      piece_none = (refl, refl);
      delay_1_buffer_9 = record { admits = refl; dropping = refl; departs = refl; holding = refl };
      delay_0_buffer_9 = record { admits = refl; dropping = refl; departs = refl; holding = refl };
      delay_1_buffer_0 = record { admits = refl; dropping = refl; departs = refl; holding = refl };
      no_limits = record { admits = refl; dropping = refl; departs = refl; holding = refl };
      nothing_departs = record { admits = refl; dropping = refl; departs = refl; holding = refl };
      six_packet-burst = record { admits = refl; dropping = refl; departs = refl; holding = refl };
      six_packet_totals = record { arrives = refl; admits = refl; dropping = refl; departs = refl; holding = refl };
    }

-- The chain by hand holds: the definitions compute to it.
use mathlib.Core.Path.{refl}
use Rattle.calculus.specs.Numbers.Least.{least_of, least}
use Rattle.calculus.specs.Numbers.Course.{course_below, course}
use Rattle.calculus.specs.Numbers.Limit.{map_limit, smaller, cut}
use Rattle.calculus.specs.Envelopes.Closure.{closing, closure}
use Rattle.calculus.specs.Envelopes.Envelope.{windows}
use Rattle.calculus.specs.Regulators.Clipper.{arrived, clipping, clipped, delay_bound, buffer_bound, clipper_window, clipper_envelope, admitted}
use Rattle.calculus.specs.Regulators.Trace.{arrivals}
use Rattle.calculus.specs.Regulators.Rows.{envelope_of}
use Rattle.calculus.specs.Numbers.FirstWhere.{first_where}
use Rattle.chain_calculus.specs.Chain.{is_number, amount, start_sound, link_sound, links_sound, chain_sound}
use Rattle.chain_calculus.specs.ChainFound.{number_of, tight, lowest_mark, link_first, link_mark, link_amount, slots_back, chain_slots, chain_marks, chain_amounts}
use Rattle.chain_calculus.specs.ChainSample.{sample_sound, ChainSample}

pub chain_sample : ChainSample
unfolding least_of least course_below course map_limit smaller cut closing closure windows arrived clipping clipped delay_bound buffer_bound clipper_window clipper_envelope admitted arrivals envelope_of first_where is_number amount start_sound link_sound links_sound chain_sound number_of tight lowest_mark link_first link_mark link_amount slots_back chain_slots chain_marks chain_amounts sample_sound
chain_sample =
    record {
      slots = refl;
      marks = refl;
      amounts = refl;
      tie = refl;
      buffer_marks = refl;
      buffer_amounts = refl;
      accepts = refl;
      accepts_looser = refl;
      refuses_amount = refl;
      refuses_mark = refl;
      refuses_standstill = refl;
      refuses_end = refl;
      refuses_none = refl;
      refuses_more = refl;
    }

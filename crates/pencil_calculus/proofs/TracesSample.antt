-- The traces of two slots, computed.
use mathlib.Core.Path.{refl}
use Rattle.calculus.specs.Numbers.Lists.{list_of}
use Rattle.pencil_calculus.specs.Traces.{listed_trace, trace_at, traces_to, all_traces, TracesSample}

pub traces_sample : TracesSample
unfolding list_of listed_trace trace_at traces_to all_traces
traces_sample = record { two-slots = refl; fifth = refl }

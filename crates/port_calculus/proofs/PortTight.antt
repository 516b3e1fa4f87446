-- The port of one packet a slot is in time with deadlines 1 and 3 and not with 1 and 2: the definitions compute to it.
use mathlib.Core.Path.{refl}
use Rattle.calculus.specs.Numbers.Lists.{list_of}
use Rattle.port_calculus.specs.Port.{sum_below, due_before, ahead, sends, keeps, coming, stream_arrivals, offered, sent, waiting, late, late_row}
use Rattle.port_calculus.specs.PortEnvelopes.{due_within}
use Rattle.port_calculus.specs.PortTight.{two_packets, two_due, PortTight}

pub port-tight : PortTight
unfolding sum_below due_before ahead sends keeps coming stream_arrivals offered sent waiting late late_row list_of due_within two_packets two_due
port-tight = record { two = refl; four = refl; in_time = refl; three = refl; late = refl }

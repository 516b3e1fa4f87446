-- The two readers of a slot's record (document 02, 2.1), for any record whatever; 64 bits hold at most `top`.
use Rattle.std.specs.Prelude.{ℕ, ◌+◌, ◌-◌, min}
use Rattle.numbers.specs.LeastSum.{top}
use Rattle.live_step.specs.declared.record.SlotRecord.{SlotRecord}

-- The order form's reader sees the fill at the slot's end: held before, plus admitted, less departed.
abbrev pub form_fill_of : ℕ → ℕ → ℕ → ℕ
form_fill_of before admitted departed = min (before + admitted - departed) top

unfoldable pub form_fill : SlotRecord → ℕ
form_fill c = form_fill_of c.held_before c.admitted c.departed

-- The bench's sees that before departures: held before plus admitted.
abbrev pub bench_fill_of : ℕ → ℕ → ℕ
bench_fill_of before admitted = min (before + admitted) top

unfoldable pub bench_fill : SlotRecord → ℕ
bench_fill c = bench_fill_of c.held_before c.admitted

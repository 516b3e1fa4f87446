-- `work` runs the entrance with the last stage, then the stages before it.
use lib.ListN.{length}
use Rattle.path.proofs.PathRows.{work_stages, last_small, last_ends, enter_asks, inner_asks, path_filled}
use borrow.Author.Rules.{rules}
use Rattle.path.proofs.run.work.Goals as goal

pub slice_bounds-enter-start : goal.slice_bounds-enter-start
slice_bounds-enter-start c =
    let z = c.args in
    let ends = last_ends z.tables.first.now z.tables.second.now z.tables.third.now z.tables.fourth.now z.stages z.delay.0 z.buffer.0
    z.arrivals.now (length z.admitted.now) (length z.dropped.now) z.departed.now c.requires in
    search rules

pub enter-requires : goal.enter-requires
enter-requires c =
    let z = c.args in
    enter_asks z.tables.first.now z.tables.second.now z.tables.third.now z.tables.fourth.now z.stages z.delay.0 z.buffer.0 z.arrivals.now
    (length z.admitted.now) (length z.dropped.now) z.departed.now c.requires

pub inner_stages-requires : goal.inner_stages-requires
inner_stages-requires c =
    let z = c.args in
    inner_asks z.tables.first.now z.tables.second.now z.tables.third.now z.tables.fourth.now z.stages z.delay.0 z.buffer.0 z.arrivals.now
    (length z.admitted.now) (length z.dropped.now) z.departed.now c.requires _ _ _ c.enter.ensures

pub returns : goal.returns
returns c =
    let z = c.args in
    path_filled z.tables.first.now z.tables.second.now z.tables.third.now z.tables.fourth.now z.stages z.delay.0 z.buffer.0 z.arrivals.now
    (length z.admitted.now) (length z.dropped.now) z.departed.now c.requires _ _ _ c.enter.ensures _
    c.inner_stages.ensures

pub overflow_sub-inner : goal.overflow_sub-inner
overflow_sub-inner c =
    let z = c.args in
    work_stages z.tables.first.now z.tables.second.now z.tables.third.now z.tables.fourth.now z.stages z.delay.0 z.buffer.0 z.arrivals.now
    (length z.admitted.now) (length z.dropped.now) z.departed.now c.requires

pub overflow_mul-last : goal.overflow_mul-last
overflow_mul-last c =
    let z = c.args in
    let small = last_small z.tables.first.now z.tables.second.now z.tables.third.now z.tables.fourth.now z.stages z.delay.0 z.buffer.0
    z.arrivals.now (length z.admitted.now) (length z.dropped.now) z.departed.now c.requires in
    search rules

pub offset_bounds-departed-last : goal.offset_bounds-departed-last
offset_bounds-departed-last c =
    let z = c.args in
    let small = last_small z.tables.first.now z.tables.second.now z.tables.third.now z.tables.fourth.now z.stages z.delay.0 z.buffer.0
    z.arrivals.now (length z.admitted.now) (length z.dropped.now) z.departed.now c.requires in
    search rules

pub slice_bounds-enter-count : goal.slice_bounds-enter-count
slice_bounds-enter-count c =
    let z = c.args in
    let ends = last_ends z.tables.first.now z.tables.second.now z.tables.third.now z.tables.fourth.now z.stages z.delay.0 z.buffer.0
    z.arrivals.now (length z.admitted.now) (length z.dropped.now) z.departed.now c.requires in
    search rules

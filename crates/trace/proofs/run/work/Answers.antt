-- `work` takes one turn a slot.
use Prim.Native.Nat.{ℕ}
use lib.ListN.{length, length-replicate}
use Rattle.calculus.proofs.Numbers.Lists.{all-zero}
use Rattle.refusals.specs.Limits.{delay_limit, buffer_limit}
use Rattle.trace.proofs.RunAnswer.{AcceptedTrace}
use Rattle.trace.proofs.RunLoop.{Turned, ran, turn-first, forecast_asks, turn_fits, turn-kept, turn_last}
use Rattle.trace.proofs.run.work.Goals as goal

pub loop-t-init : goal.loop-t-init
loop-t-init c =
    let z = c.args in
    let accepted : AcceptedTrace z.arrivals.now (length z.admitted.now) (length z.dropped.now) (length z.departed.now) = ran c.args.table.now c.args.delay c.args.buffer c.args.arrivals.now _ _ _ c.requires.0 in
    let z = c.args in
    turn-first z.table.now z.delay z.buffer z.arrivals.now _ _ _ c.requires.0 _ z.admitted.now z.dropped.now
    z.departed.now (length-replicate {A = ℕ} 4160 0) (λ k. all-zero 4160 k) accepted.long_ins accepted.long_drops accepted.long_outs

pub forecast-both-requires : goal.forecast-both-requires
forecast-both-requires c =
    let z = c.args in
    let l = c.loop-t in
    forecast_asks z.table.now z.delay z.buffer z.arrivals.now _ _ _ c.requires.0 l.t l.x l.y l.row l.admitted
    l.dropped l.departed l.invariant c.loop-t-test.true
    z.windows.now _ _ c.requires.1 c.last_window-last.ensures
    c.looked_ahead-ahead.ensures

pub admit-totals-requires : goal.admit-totals-requires
admit-totals-requires c =
    let z = c.args in
    let l = c.loop-t in
    turn_fits z.table.now z.delay z.buffer z.arrivals.now _ _ _ c.requires.0 l.t l.x l.y l.row l.admitted l.dropped
    l.departed l.invariant c.loop-t-test.true
    z.windows.now _ _ c.forecast-both.result.soon c.forecast-both.result.late c.requires.1
    c.last_window-last.ensures c.looked_ahead-ahead.ensures c.forecast-both.ensures

pub loop-t-preserved : goal.loop-t-preserved
loop-t-preserved c =
    let z = c.args in
    let l = c.loop-t in
    let turned : Turned z.table.now (delay_limit z.delay) (buffer_limit z.buffer) z.arrivals.now l.t l.x l.y l.row l.admitted
    l.dropped l.departed c.admit-totals.result = turn-kept z.table.now z.delay z.buffer z.arrivals.now _ _ _ c.requires.0 l.t l.x l.y l.row l.admitted l.dropped
    l.departed l.invariant c.loop-t-test.true
    z.windows.now _ _ c.forecast-both.result.soon c.forecast-both.result.late c.requires.1
    c.last_window-last.ensures c.looked_ahead-ahead.ensures c.forecast-both.ensures
    c.admit-totals.result c.admit-totals.ensures in
    turned.next

pub returns : goal.returns
returns c =
    let z = c.args in
    let l = c.loop-t in
    turn_last z.table.now z.delay z.buffer z.arrivals.now _ _ _ c.requires.0 l.t l.x l.y l.row l.admitted
    l.dropped l.departed l.invariant c.loop-t-test.false

pub overflow_sub-taken : goal.overflow_sub-taken
overflow_sub-taken c =
    let z = c.args in
    let l = c.loop-t in
    let turned : Turned z.table.now (delay_limit z.delay) (buffer_limit z.buffer) z.arrivals.now l.t l.x l.y l.row l.admitted
    l.dropped l.departed c.admit-totals.result = turn-kept z.table.now z.delay z.buffer z.arrivals.now _ _ _ c.requires.0 l.t l.x l.y l.row l.admitted l.dropped
    l.departed l.invariant c.loop-t-test.true
    z.windows.now _ _ c.forecast-both.result.soon c.forecast-both.result.late c.requires.1
    c.last_window-last.ensures c.looked_ahead-ahead.ensures c.forecast-both.ensures
    c.admit-totals.result c.admit-totals.ensures in
    turned.grows

pub overflow_sub-dropped : goal.overflow_sub-dropped
overflow_sub-dropped c =
    let z = c.args in
    let l = c.loop-t in
    let turned : Turned z.table.now (delay_limit z.delay) (buffer_limit z.buffer) z.arrivals.now l.t l.x l.y l.row l.admitted
    l.dropped l.departed c.admit-totals.result = turn-kept z.table.now z.delay z.buffer z.arrivals.now _ _ _ c.requires.0 l.t l.x l.y l.row l.admitted l.dropped
    l.departed l.invariant c.loop-t-test.true
    z.windows.now _ _ c.forecast-both.result.soon c.forecast-both.result.late c.requires.1
    c.last_window-last.ensures c.looked_ahead-ahead.ensures c.forecast-both.ensures
    c.admit-totals.result c.admit-totals.ensures in
    turned.taken

pub overflow_sub-departed : goal.overflow_sub-departed
overflow_sub-departed c =
    let z = c.args in
    let l = c.loop-t in
    let turned : Turned z.table.now (delay_limit z.delay) (buffer_limit z.buffer) z.arrivals.now l.t l.x l.y l.row l.admitted
    l.dropped l.departed c.admit-totals.result = turn-kept z.table.now z.delay z.buffer z.arrivals.now _ _ _ c.requires.0 l.t l.x l.y l.row l.admitted l.dropped
    l.departed l.invariant c.loop-t-test.true
    z.windows.now _ _ c.forecast-both.result.soon c.forecast-both.result.late c.requires.1
    c.last_window-last.ensures c.looked_ahead-ahead.ensures c.forecast-both.ensures
    c.admit-totals.result c.admit-totals.ensures in
    turned.leaves

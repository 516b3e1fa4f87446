-- X(t) and Y(t) as the recursion gives them: each call asks for an earlier slot, and each loop keeps the least of the sums so far.
use Rattle.std.proofs.Common.{◌+◌, ◌-◌, refl, arith, rules}
use Rattle.settings.proofs.LookedAhead.{looks-ahead}
use Rattle.pencil.proofs.Pencilled.{admitted_small, departed_small, window_fits, pencil_none, outs-first, outs_next}
use Rattle.pencil.proofs.Pencilled.{outs_done, lates-first, lates_next, admits}
use Rattle.pencil.proofs.totals.Work.+admitted_total_departed_total.Goals as goal

pub admitted_total-returns-then-t-eq0 : goal.admitted_total-returns-then-t-eq0
admitted_total-returns-then-t-eq0 m c =
    let z = c.args.self.now in
    pencil_none z.table.now z.near.now z.delay z.buffer z.arrivals.now c.args.t c.requires (search rules)

pub admitted_total-overflow_add-ahead : goal.admitted_total-overflow_add-ahead
admitted_total-overflow_add-ahead m c = search (rules, (looks-ahead c.looked_ahead-ahead.ensures).0)

pub admitted_total-with_window-late-requires : goal.admitted_total-with_window-late-requires
admitted_total-with_window-late-requires m c =
    let z = c.args.self.now in
    let small = departed_small z.table.now z.near.now z.delay z.buffer z.arrivals.now c.args.t c.requires (c.args.t - 1) (search rules) in
    window_fits z.table.now z.near.now z.delay z.buffer z.arrivals.now c.args.t c.requires c.departed_total-gone.result
    (1 + c.looked_ahead-ahead.result) (omega (arith, c.departed_total-gone.ensures, small)) (omega (arith, (looks-ahead c.looked_ahead-ahead.ensures).0))

pub admitted_total-loop-k-init : goal.admitted_total-loop-k-init
admitted_total-loop-k-init m c =
    let z = c.args.self.now in (
      search rules,
      search rules,
      lates-first z.table.now z.near.now z.delay z.buffer z.arrivals.now c.args.t c.requires
          c.looked_ahead-ahead.result c.departed_total-gone.result c.with_window-late.result
          c.departed_total-gone.ensures c.with_window-late.ensures,
    )

pub admitted_total-overflow_add-window-in-loop-k : goal.admitted_total-overflow_add-window-in-loop-k
admitted_total-overflow_add-window-in-loop-k m c = search (rules, (looks-ahead c.looked_ahead-ahead.ensures).0)

pub admitted_total-with_window-requires : goal.admitted_total-with_window-requires
admitted_total-with_window-requires m c =
    let z = c.args.self.now in
    let k = c.loop-k.k in
    let ahead = c.looked_ahead-ahead in
    let told = looks-ahead ahead.ensures in
    let small = departed_small z.table.now z.near.now z.delay z.buffer z.arrivals.now c.args.t c.requires (c.args.t - (k + 1)) (search rules) in
    window_fits z.table.now z.near.now z.delay z.buffer z.arrivals.now c.args.t c.requires c.departed_total-y.result
    (k + 1 + ahead.result) (omega (arith, c.departed_total-y.ensures, small)) (omega (arith, told.0, c.requires.short))

pub admitted_total-loop-k-preserved : goal.admitted_total-loop-k-preserved
admitted_total-loop-k-preserved m c =
    let z = c.args.self.now in
    let l = c.loop-k in (
      search rules,
      search rules,
      lates_next z.table.now z.near.now z.delay z.buffer z.arrivals.now c.args.t c.requires c.looked_ahead-ahead.result l.k l.late
          c.with_window.result c.departed_total-y.result c.min-late.result l.invariant.0 l.invariant.2
          c.departed_total-y.ensures c.with_window.ensures c.min-late.ensures,
    )

pub admitted_total-overflow_add-x : goal.admitted_total-overflow_add-x
admitted_total-overflow_add-x m c =
    let z = c.args.self.now in
    omega (
      arith,
      c.admitted_total-x.ensures,
      admitted_small z.table.now z.near.now z.delay z.buffer z.arrivals.now c.args.t c.requires (c.args.t - 1) (search rules),
      c.requires.few (c.args.t - 1),
    )

pub admitted_total-returns : goal.admitted_total-returns
admitted_total-returns m c =
    let z = c.args.self.now in
    let x = c.admitted_total-x in
    let gone = c.departed_total-gone in
    let ahead = c.looked_ahead-ahead in
    let told = looks-ahead ahead.ensures in
    let l = c.loop-k in
    admits z.table.now z.near.now z.delay z.buffer z.arrivals.now c.args.t c.requires ahead.result told.1 told.0 l.k
    l.late x.result gone.result _ c.within_limits.result (search rules) (search rules) l.invariant.2 x.ensures gone.ensures refl
    c.within_limits.ensures

pub departed_total-with_window-least-requires : goal.departed_total-with_window-least-requires
departed_total-with_window-least-requires m c =
    let z = c.args.self.now in
    let small = admitted_small z.table.now z.near.now z.delay z.buffer z.arrivals.now c.args.t c.requires 0 (search rules) in
    window_fits z.table.now z.near.now z.delay z.buffer z.arrivals.now c.args.t c.requires c.admitted_total-x.result c.args.t
    (omega (arith, c.admitted_total-x.ensures, small)) (omega (arith, c.requires.short))

pub departed_total-loop-s-init : goal.departed_total-loop-s-init
departed_total-loop-s-init m c =
    let z = c.args.self.now in (
      search rules,
      outs-first z.table.now z.near.now z.delay z.buffer z.arrivals.now c.args.t c.requires
          c.admitted_total-x.result c.with_window-least.result c.admitted_total-x.ensures c.with_window-least.ensures,
    )

pub departed_total-with_window-requires : goal.departed_total-with_window-requires
departed_total-with_window-requires m c =
    let z = c.args.self.now in
    let s = c.loop-s.s in
    let small = admitted_small z.table.now z.near.now z.delay z.buffer z.arrivals.now c.args.t c.requires (s + 1) (search rules) in
    window_fits z.table.now z.near.now z.delay z.buffer z.arrivals.now c.args.t c.requires c.admitted_total-x-in-loop-s.result
    (c.args.t - (s + 1)) (omega (arith, c.admitted_total-x-in-loop-s.ensures, small)) (omega (arith, c.requires.short))

pub departed_total-loop-s-preserved : goal.departed_total-loop-s-preserved
departed_total-loop-s-preserved m c =
    let z = c.args.self.now in
    let l = c.loop-s in (
      search rules,
      outs_next z.table.now z.near.now z.delay z.buffer z.arrivals.now c.args.t c.requires l.s l.least
          c.with_window.result c.admitted_total-x-in-loop-s.result c.min-least.result l.invariant.1
          c.admitted_total-x-in-loop-s.ensures c.with_window.ensures c.min-least.ensures,
    )

pub departed_total-returns : goal.departed_total-returns
departed_total-returns m c =
    let z = c.args.self.now in
    let l = c.loop-s in
    outs_done z.table.now z.near.now z.delay z.buffer z.arrivals.now c.args.t c.requires l.s l.least (search rules) l.invariant.1

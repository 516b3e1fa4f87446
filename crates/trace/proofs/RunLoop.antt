-- The run's loop: what holds before a turn, and that a turn keeps it.
use mathlib.Core.Path.{◌≡◌, refl, sym, ap, ap₂, ◌∙◌}
use mathlib.Core.List.{List}
use Prim.Native.Nat.{ℕ, zero, suc, ◌+◌, ◌-◌, ◌≤◌, ◌<◌, min}
use native.Mathlib.Decide.{dec_le}
use native.Mathlib.Omega.{arith}
use native.Mathlib.Numerals.{add-one}
use lib.ListN.{length, get_or, take, drop, set, length-set, length-drop}
use lib.Seq.{get_or-drop, get_or-set_same, get_or-set_other, take_all}
use Rattle.calculus.specs.Numbers.Limit.{Limit, none, at_most, map_limit, cut}
use Rattle.calculus.specs.Numbers.Lists.{list_of}
use Rattle.calculus.specs.Numbers.Least.{least}
use Rattle.calculus.specs.Envelopes.Envelope.{windows}
use Rattle.calculus.specs.Regulators.Trace.{arrivals, slot_counts}
use Rattle.calculus.specs.Regulators.BoundedPast.{forecast, next_admitted, next_departed}
use Rattle.calculus.specs.Regulators.Rows.{envelope_of, admitted_by, departed_by, lost_by, admitted_row, dropped_row, departed_row}
use Rattle.calculus.proofs.Numbers.Lists.{list_of_filled, list_of_full}
use Rattle.calculus.proofs.Regulators.BoundedPast.{admitted_next, departed_next}
use Rattle.refusals.specs.Table.{last_window}
use Rattle.numbers.proofs.LeastSum.{least_with-least}
use Rattle.refusals.proofs.TableJudged.{table_given}
use Rattle.settings.specs.LookedAhead.{looked_ahead}
use Rattle.settings.proofs.LookedAhead.{looks-ahead}
use Rattle.refusals.specs.Limits.{delay_limit, buffer_limit}
use Rattle.refusals.proofs.AcceptedSettings.{Accepted, settings-accepted}
use Rattle.trace.specs.RunWork.{forecast_from, run_admitted, run_totals, Workable, Windowed}
use Rattle.trace.specs.declared.run.Totals.{Totals}
use Rattle.trace.proofs.RunAnswer.{AcceptedTrace, trace-accepted}
use Rattle.trace.proofs.Totals.{limit_looks, total_small, total_rises, total_arrives, gone_small, gone_rises, total_first, gone-first, slot-lost}

-- before the turn of slot t+1: the totals and the row are those after t slots, and the lists hold t slots
pub record Turning (table : List ℕ) (d q : Limit) (trace : List ℕ) (t x y : ℕ) (row ins drops outs : List ℕ) : Type 0 where
  pub within : t ≤ length trace
  pub short : length trace ≤ 4096
  pub total : x ≡ admitted_by table d q trace t
  pub gone : y ≡ departed_by table d q trace t
  pub long : length row ≡ 4160
  pub past : (k : ℕ) → k < 64 → get_or row (4096 - t + k) 0 ≡ departed_by table d q trace (t - k)
  pub small : (k : ℕ) → get_or row k 0 ≤ 4096000000
  pub long_ins : length ins ≡ length trace
  pub long_drops : length drops ≡ length trace
  pub long_outs : length outs ≡ length trace
  pub admits : take t ins ≡ list_of (λ s. admitted_by table d q trace (suc s) - admitted_by table d q trace s) t
  pub dropping : take t drops ≡ list_of (λ s. lost_by table d q trace (suc s) - lost_by table d q trace s) t
  pub departs : take t outs ≡ list_of (λ s. departed_by table d q trace (suc s) - departed_by table d q trace s) t

-- what a turn gives: its differences do not fall below 0, and what holds before it holds after it
pub record Turned (table : List ℕ) (d q : Limit) (trace : List ℕ) (t x y : ℕ) (row ins drops outs : List ℕ) (totals : Totals) : Type 0 where
  pub grows : x ≤ totals.admitted
  pub taken : totals.admitted - x ≤ get_or trace t 0
  pub leaves : y ≤ totals.departed
  pub next : Turning table d q trace (t + 1) totals.admitted totals.departed (set row (4095 - t) totals.departed)
      (set ins t (totals.admitted - x)) (set drops t (get_or trace t 0 - (totals.admitted - x))) (set outs t (totals.departed - y))

module _ (table : List ℕ) (delay buffer : ℕ) (trace : List ℕ) (ins₀ drops₀ outs₀ : ℕ) (fine : Workable table delay buffer trace ins₀ drops₀ outs₀) where
  abbrev d : Limit
  d = delay_limit delay

  abbrev q : Limit
  q = buffer_limit buffer

  pub ran : AcceptedTrace trace ins₀ drops₀ outs₀
  ran = trace-accepted trace ins₀ drops₀ outs₀ fine.traced

  pub ok : Accepted table d q
  ok = settings-accepted table delay buffer fine.tabled fine.delayed fine.buffered

  short : length trace ≤ 4096
  short = ran.short

  few : (k : ℕ) → get_or trace k 0 ≤ 1000000
  few = ran.few

  abbrev L : ℕ
  L = last_window table

  abbrev F : ℕ → ℕ → ℕ
  F = windows (envelope_of table)

  abbrev X : ℕ → ℕ
  X = admitted_by table d q trace

  abbrev Y : ℕ → ℕ
  Y = departed_by table d q trace

  pub turn-first : (row ins drops outs : List ℕ) → length row ≡ 4160 → ((k : ℕ) → get_or row k 0 ≡ 0) → length ins ≡ length trace → length drops ≡ length trace → length outs ≡ length trace
      → Turning table d q trace 0 0 0 row ins drops outs
  unfolding list_of
  turn-first row ins drops outs long blank l1 l2 l3 =
      record {
        within = omega arith;
        short = short;
        total = sym (total_first table d q ok trace few);
        gone = sym (gone-first table d q ok trace few);
        long = long;
        past = λ k p. let e : 0 - k ≡ 0 = omega arith in blank _ ∙ sym (ap Y e ∙ gone-first table d q ok trace few);
        small = λ k. omega (arith, blank k);
        long_ins = l1;
        long_drops = l2;
        long_outs = l3;
        admits = refl;
        dropping = refl;
        departs = refl;
      }

  module _ (t x y : ℕ) (row ins drops outs : List ℕ) (turning : Turning table d q trace t x y row ins drops outs) (inside : t < length trace) where
    -- Rows of f serve as far as they are looked at.
    module _ (near : List ℕ) (fits : Windowed table delay near) where
      -- The forecast over the row is the one over the last L departed totals.
      turn-forecast : (h : ℕ) → h ≤ looked_ahead delay → forecast_from near (drop (4097 - t) row) L y h ≡ forecast L (envelope_of table) (λ k. Y (suc t - k)) h
      unfolding forecast_from forecast
      turn-forecast h p =
          let count : suc (L - 1) ≡ L = omega (arith, ok.tabled.last_from) in
          let first : Y t + envelope_of table (1 + h) ≡ Y (suc t - 1) + envelope_of table (1 + h) = ap (λ (s : ℕ). Y s + envelope_of table (1 + h)) (omega arith) in
          let window : h + 1 ≡ 1 + h = omega arith in
          least_with-least _ (drop (4097 - t) row) (drop (h + 2) near) (λ k. Y (suc t - k) + envelope_of table (k + h)) (L - 1)
          (ap₂ ◌+◌ turning.gone (ap (λ (k : ℕ). get_or near k 0) window ∙ fits.near (1 + h) (omega (arith, ok.tabled.last_from))) ∙ first)
          (λ i r.
          let place : 4097 - t + i ≡ 4096 - t + suc i = omega (arith, inside, short) in
          let slot : t - suc i ≡ suc t - (1 + suc i) = omega arith in
          let far : h + 2 + i ≡ 1 + suc i + h = omega arith in
          ap₂ ◌+◌ (get_or-drop (4097 - t) row i 0 ∙ ap (λ (k : ℕ). get_or row k 0) place ∙ turning.past (suc i) (omega (arith, ok.tabled.last_to)) ∙ ap Y slot)
          (get_or-drop (h + 2) near i 0 ∙ ap (λ (k : ℕ). get_or near k 0) far ∙ fits.near (1 + suc i + h) (omega arith)))
          ∙ ap (λ (n : ℕ). least 1 n (λ k. Y (suc t - k) + envelope_of table (k + h))) count

      late_limit : (l : Limit) (late ahead : ℕ) → ahead ≤ looked_ahead delay → ((m : ℕ) → l ≡ at_most m → ahead ≡ m) → late ≡ forecast_from near (drop (4097 - t) row) L y ahead
          → map_limit (λ _. late) l ≡ map_limit (forecast L (envelope_of table) (λ k. Y (suc t - k))) l
      unfolding map_limit
      late_limit none late ahead most looks e = refl
      late_limit (at_most m) late ahead most looks e =
          ap at_most (e ∙ turn-forecast ahead most ∙ ap (forecast L (envelope_of table) (λ k. Y (suc t - k))) (looks m refl))

      module _ (soon late ahead n : ℕ) (most : ahead ≤ looked_ahead delay) (looks : (m : ℕ) → d ≡ at_most m → ahead ≡ m)
          (e1 : soon ≡ forecast_from near (drop (4097 - t) row) L y 0) (e2 : late ≡ forecast_from near (drop (4097 - t) row) L y ahead) (arrives : n ≡ get_or trace t 0) where
        -- No sum of the turn leaves 32 bits.
        pub turn-arrived : x + n < 4294967296
        turn-arrived = omega (arith, turning.total, total_small table d q ok trace few t, arrives, few t, inside, short)

        turn-admits : run_admitted late y d q x n ≡ X (suc t)
        unfolding next_admitted admitted_by departed_by envelope_of arrivals
        turn-admits =
            let before : t ≡ suc t - 1 = omega arith in
            ap₂ (λ (l m : Limit). cut (cut (x + n) l) m) (late_limit d late ahead most looks e2) (ap (λ (z : ℕ). map_limit (λ b. z + b) q) (turning.gone ∙ ap Y before))
            ∙ ap₂ (λ (u v : ℕ). cut (cut (u + v) (map_limit (forecast L (envelope_of table) (λ k. Y (suc t - k))) d)) (map_limit (λ b. Y (suc t - 1) + b) q)) turning.total arrives
            ∙ sym (admitted_next L (λ k. get_or table k 0) (table_given table ok.tabled) d q (arrivals trace) t)

        turn-departs : min (run_admitted late y d q x n) soon ≡ Y (suc t)
        unfolding next_departed admitted_by departed_by envelope_of
        turn-departs =
            ap₂ min turn-admits (e1 ∙ turn-forecast 0 (omega arith))
            ∙ sym (departed_next L (λ k. get_or table k 0) (table_given table ok.tabled) d q (arrivals trace) t)

        module _ (totals : Totals) (made : totals ≡ run_totals soon late y d q x n) where
          pub turn_total : totals.admitted ≡ X (suc t)
          turn_total = ap (λ (z : Totals). z.admitted) made ∙ turn-admits

          pub turn-gone : totals.departed ≡ Y (suc t)
          turn-gone = ap (λ (z : Totals). z.departed) made ∙ turn-departs

          -- No difference of the turn falls below 0.
          pub turn_grows : x ≤ totals.admitted
          turn_grows = omega (arith, turn_total, turning.total, total_rises table d q ok trace few t)

          pub turn-taken : totals.admitted - x ≤ n
          turn-taken = omega (arith, turn_total, turning.total, total_arrives table d q ok trace few t, arrives)

          pub turn-leaves : y ≤ totals.departed
          turn-leaves = omega (arith, turn-gone, turning.gone, gone_rises table d q ok trace few t)

          next_past : (k : ℕ) → k < 64 → get_or (set row (4095 - t) totals.departed) (4096 - (t + 1) + k) 0 ≡ Y (t + 1 - k)
          next_past zero p =
              let place : 4096 - (t + 1) + 0 ≡ 4095 - t = omega arith in
              let slot : suc t ≡ t + 1 - 0 = omega arith in
              ap (λ (k : ℕ). get_or (set row (4095 - t) totals.departed) k 0) place ∙ get_or-set_same row (4095 - t) totals.departed 0 (omega (arith, turning.long)) ∙ turn-gone ∙ ap Y slot
          next_past (suc k) p =
              let place : 4096 - (t + 1) + suc k ≡ 4096 - t + k = omega (arith, inside, short) in
              let slot : t - k ≡ t + 1 - suc k = omega arith in
              ap (λ (i : ℕ). get_or (set row (4095 - t) totals.departed) i 0) place
              ∙ get_or-set_other row (4095 - t) (4096 - t + k) totals.departed 0 (omega (arith, inside, short)) ∙ turning.past k (omega arith) ∙ ap Y slot

          next_small : (k : ℕ) → get_or (set row (4095 - t) totals.departed) k 0 ≤ 4096000000
          next_small k =
              elim (dec_le (4095 - t) k) [
                | yes p ↦ elim (dec_le k (4095 - t)) [
                  | yes r ↦ let e : 4095 - t ≡ k = omega arith in
                      rw (← e) (omega (arith, get_or-set_same row (4095 - t) totals.departed 0 (omega (arith, turning.long)), turn-gone, gone_small table d q ok trace few (suc t), inside, short))
                  | no r ↦ omega (arith, get_or-set_other row (4095 - t) k totals.departed 0 (omega arith), turning.small k)
                ]
                | no p ↦ omega (arith, get_or-set_other row (4095 - t) k totals.departed 0 (omega arith), turning.small k)
              ]

          -- A turn keeps it.
          pub turn_next : Turning table d q trace (t + 1) totals.admitted totals.departed (set row (4095 - t) totals.departed) (set ins t (totals.admitted - x)) (set drops t (n - (totals.admitted - x))) (set outs t (totals.departed - y))
          turn_next =
              let more : suc t ≡ t + 1 = sym (add-one t) in
              let grew : totals.admitted - x ≡ X (suc t) - X t = ap₂ ◌-◌ turn_total turning.total in
              record {
                within = omega (arith, inside);
                short = short;
                total = turn_total ∙ ap X more;
                gone = turn-gone ∙ ap Y more;
                long = length-set row _ _ ∙ turning.long;
                past = next_past;
                small = next_small;
                long_ins = length-set ins t _ ∙ turning.long_ins;
                long_drops = length-set drops t _ ∙ turning.long_drops;
                long_outs = length-set outs t _ ∙ turning.long_outs;
                admits = list_of_filled (λ s. X (suc s) - X s) ins t _ (omega (arith, turning.long_ins)) turning.admits grew;
                dropping = list_of_filled (λ s. lost_by table d q trace (suc s) - lost_by table d q trace s) drops t _ (omega (arith, turning.long_drops)) turning.dropping
                    (ap₂ ◌-◌ arrives grew ∙ slot-lost table d q ok trace few t);
                departs = list_of_filled (λ s. Y (suc s) - Y s) outs t _ (omega (arith, turning.long_outs)) turning.departs (ap₂ ◌-◌ turn-gone turning.gone);
              }

    -- What the forecasts ask.
    pub forecast_asks : (near : List ℕ) (last ahead : ℕ) → Windowed table delay near → last ≡ L → ahead ≡ looked_ahead delay
        → (1 ≤ last) × (last ≤ 64) × (ahead ≤ 64) × (63 ≤ length (take (4160 - (4097 - t)) (drop (4097 - t) row))) × (length near ≡ 129) × (y ≤ 4096000000)
        × ((k : ℕ) → get_or (take (4160 - (4097 - t)) (drop (4097 - t) row)) k 0 ≤ 4096000000) × ((k : ℕ) → get_or near k 0 ≤ 128000000)
    forecast_asks near last ahead fits whole looked =
        let part : take (4160 - (4097 - t)) (drop (4097 - t) row) ≡ drop (4097 - t) row = take_all (4160 - (4097 - t)) (drop (4097 - t) row) (omega (arith, length-drop (4097 - t) row, turning.long)) in
        rw (part, whole) (
          ok.tabled.last_from,
          ok.tabled.last_to,
          (looks-ahead looked).0,
          omega (arith, length-drop (4097 - t) row, turning.long),
          fits.long,
          omega (arith, turning.gone, gone_small table d q ok trace few t, inside, short),
          λ k. omega (arith, get_or-drop (4097 - t) row k 0, turning.small (4097 - t + k)),
          fits.small,
        )

    -- What a turn works from, as its calls give it.
    module _ (near : List ℕ) (last ahead soon late : ℕ) (fits : Windowed table delay near) (whole : last ≡ L) (looked : ahead ≡ looked_ahead delay)
        (found : (soon ≡ forecast_from near (take (4160 - (4097 - t)) (drop (4097 - t) row)) last y 0) × (late ≡ forecast_from near (take (4160 - (4097 - t)) (drop (4097 - t) row)) last y ahead)) where
      part : take (4160 - (4097 - t)) (drop (4097 - t) row) ≡ drop (4097 - t) row
      part = take_all (4160 - (4097 - t)) (drop (4097 - t) row) (omega (arith, length-drop (4097 - t) row, turning.long))

      meant : (h v : ℕ) → v ≡ forecast_from near (take (4160 - (4097 - t)) (drop (4097 - t) row)) last y h → v ≡ forecast_from near (drop (4097 - t) row) L y h
      meant h v e = rw (part, whole) at e

      looks : (m : ℕ) → d ≡ at_most m → ahead ≡ m
      looks = limit_looks table delay buffer ok ahead (looks-ahead looked).1

      most : ahead ≤ looked_ahead delay
      most = omega (arith, looked)

      -- Its sum fits.
      pub turn_fits : x + get_or trace t 0 < 4294967296
      turn_fits = turn-arrived near fits soon late ahead _ most looks (meant 0 soon found.0) (meant ahead late found.1) refl

      -- It keeps what holds.
      pub turn-kept : (totals : Totals) → totals ≡ run_totals soon late y d q x (get_or trace t 0) → Turned table d q trace t x y row ins drops outs totals
      turn-kept totals made =
          let e1 = meant 0 soon found.0 in
          let e2 = meant ahead late found.1 in
          record {
            grows = turn_grows near fits soon late ahead _ most looks e1 e2 refl totals made;
            taken = turn-taken near fits soon late ahead _ most looks e1 e2 refl totals made;
            leaves = turn-leaves near fits soon late ahead _ most looks e1 e2 refl totals made;
            next = turn_next near fits soon late ahead _ most looks e1 e2 refl totals made;
          }

  -- After the last turn the lists are theorem 5.1's rows.
  pub turn_last : (t x y : ℕ) (row ins drops outs : List ℕ) → Turning table d q trace t x y row ins drops outs → length trace ≤ t
      → (ins ≡ admitted_row table d q trace) × (drops ≡ dropped_row table d q trace) × (outs ≡ departed_row table d q trace)
  unfolding admitted_row dropped_row departed_row slot_counts
  turn_last t x y row ins drops outs turning end = (
    list_of_full _ ins (length trace) t turning.within end turning.long_ins turning.admits,
    list_of_full _ drops (length trace) t turning.within end turning.long_drops turning.dropping,
    list_of_full _ outs (length trace) t turning.within end turning.long_outs turning.departs,
  )

-- Laws of the preview: it foretells the next slot, whoever previews what in between, and the next slot admits the smaller of what
-- arrives and the headroom.
use Rattle.std.proofs.Common.{Result, Err}
use Rattle.orders.specs.declared.refusal.Refusal.{Refusal}
use Rattle.orders.specs.Answered.{refusal_number}
use Rattle.orders.proofs.Given.{refusal_numbered}
use mathlib.Core.Path.{◌≡◌, refl, sym, ap, ◌∙◌}
use mathlib.Core.List.{List, [], ◌∷◌, ◌++◌}
use Prim.Native.Nat.{ℕ, zero, suc, ◌+◌, ◌-◌, ◌≤◌, min}
use native.Mathlib.Omega.{arith}
use lib.ListN.{get_or}
use Rattle.numbers.proofs.LeastSum.{min_assoc}
use Rattle.calculus.proofs.Numbers.Distinct.{zero_one}
use Rattle.calculus.specs.Numbers.Limit.{Limit, none, at_most, map_limit, cut}
use Rattle.numbers.specs.LeastSum.{top}
use Rattle.refusals.specs.Limits.{delay_limit, buffer_limit, slot_refusal}
use Rattle.live_step.specs.Step.{forecast_at, forecast_late, admitted_with, totals_with, step_admitted, step_departed}
use Rattle.regulator.specs.Regulator.{last_of, next_admitted_of, next_departed_of, record_of, slot_of}
use Rattle.live_step.specs.Record.{record_by}
use Rattle.live_step.specs.Answer.{answer_by, SlotAnswer}
use Rattle.calls.specs.Calls.{answers, after}
use Rattle.regulator.specs.LiveRun.{live_regulator}
use Rattle.preview.specs.Preview.{headroom_of, preview_by, preview_of, preview_given, foretold, Event, slot, ask, after_events, slots_in}
use Rattle.live_step.specs.declared.step.Totals.{Totals}
use Rattle.regulator.specs.declared.regulator.Regulator.{Regulator}
use Rattle.live_step.specs.declared.record.SlotRecord.{SlotRecord}
use Rattle.live_step.specs.Answer as answer
use Rattle.refusals.proofs.AcceptedSettings.{slot-accepted}
use Rattle.preview.specs.declared.next.Foreseen.{Foreseen}
use Rattle.preview.specs.Preview as preview

-- Whatever the regulator, a preview tells the next slot's answer.
pub preview_foretells : (r : Regulator) (n : ℕ) → foretold (preview_of r n) ≡ (slot_of r n).answer
unfolding preview_of slot_of
preview_foretells r n = by (slot_refusal n r.slots.0)
  where
    by : (k : ℕ) → foretold (preview_by k (record_of r n) (headroom_of r)) ≡ answer_by k (record_of r n)
    by zero = unfold foretold preview_by answer_by in refl
    by (suc k) = unfold foretold preview_by answer_by in refl

-- Previews leave the regulator where the slots alone lead it.
pub previews_leave : (events : List Event) (r : Regulator) → after_events r events ≡ after live_regulator r (slots_in events)
unfolding after_events slots_in after live_regulator
previews_leave [] r = refl
previews_leave (slot n ∷ events) r = previews_leave events (slot_of r n).regulator
previews_leave (ask n ∷ events) r = previews_leave events r

-- One call more is answered by what the regulator that the calls before it left answers.
answers_more : (calls : List ℕ) (r : Regulator) (n : ℕ)
    → answers live_regulator r (calls ++ (n ∷ [])) ≡ answers live_regulator r calls ++ ((slot_of (after live_regulator r calls) n).answer ∷ [])
unfolding answers after live_regulator
answers_more [] r n = refl
answers_more (m ∷ calls) r n = ap (λ (l : List SlotAnswer). (slot_of r m).answer ∷ l) (answers_more calls (slot_of r m).regulator n)

-- A preview before any call predicts exactly what that call then answers, whatever was previewed in between.
pub preview_predicts : (events : List Event) (r : Regulator) (n : ℕ)
    → answers live_regulator r (slots_in events ++ (n ∷ [])) ≡ answers live_regulator r (slots_in events) ++ (foretold (preview_of (after_events r events) n) ∷ [])
preview_predicts events r n =
    answers_more (slots_in events) r n
    ∙ ap (λ (a : SlotAnswer). answers live_regulator r (slots_in events) ++ (a ∷ []))
    (ap (λ (s : Regulator). (slot_of s n).answer) (sym (previews_leave events r)) ∙ sym (preview_foretells (after_events r events) n))

-- What is admitted is cut at a bound that does not depend on what arrives.
admitted-cut : (q : Limit) (late y x n : ℕ) → admitted_with late y q x n ≡ min (x + n) (cut (min top late) (map_limit (λ b. min (y + b) top) q))
unfolding cut map_limit
admitted-cut none late y x n = min_assoc (x + n) top late
admitted-cut (at_most b) late y x n = ap (λ (m : ℕ). min m (min (y + b) top)) (min_assoc (x + n) top late) ∙ min_assoc (x + n) (min top late) (min (y + b) top)

cut_fewer : (bound x n m : ℕ) → n ≤ m → min (x + n) bound - x ≡ min n (min (x + m) bound - x)
cut_fewer bound x n m p = omega arith

-- Out of fewer packets, as many are admitted as out of more, as far as they go.
admitted_fewer : (q : Limit) (late y x n m : ℕ) → n ≤ m → admitted_with late y q x n - x ≡ min n (admitted_with late y q x m - x)
admitted_fewer q late y x n m p = rw (admitted-cut q late y x n, admitted-cut q late y x m) (cut_fewer _ x n m p)

-- For every accepted n the next slot admits the smaller of n and the headroom, whatever the regulator.
pub headroom-admits : (r : Regulator) (n : ℕ) → n ≤ 1000000 → (record_of r n).admitted ≡ min n (headroom_of r)
unfolding headroom_of record_of next_admitted_of step_admitted
headroom-admits r n p = admitted_fewer (buffer_limit r.settings.buffer.0) _ _ r.admitted.0 n 1000000 p

-- The headroom is at most 1,000,000.
cut_most : (bound x n : ℕ) → min (x + n) bound - x ≤ n
cut_most bound x n = omega arith

pub headroom_most : (r : Regulator) → headroom_of r ≤ 1000000
unfolding headroom_of record_of next_admitted_of step_admitted
headroom_most r = rw (admitted-cut (buffer_limit r.settings.buffer.0) _ _ r.admitted.0 1000000) (cut_most _ r.admitted.0 1000000)

-- What a preview told and what the next slot answers: it admits the smaller of n and the headroom that was told, whatever was previewed.
told_headroom : (k : ℕ) (c : SlotRecord) (h : ℕ) (p : Foreseen) → preview_by k c h ≡ preview.Told p → p.headroom ≡ h
unfolding preview_by
told_headroom zero c h p e = cc
told_headroom (suc k) c h p e = absurd (zero_one cc)

answered_record : (k : ℕ) (c given : SlotRecord) → answer_by k c ≡ answer.Counted given → (k ≡ 0) × (given ≡ c)
unfolding answer_by
answered_record zero c given e = (refl, cc)
answered_record (suc k) c given e = absurd (zero_one cc)

pub headroom_told : (r : Regulator) (m n : ℕ) (p : Foreseen) (c : SlotRecord) → preview_of r m ≡ preview.Told p → (slot_of r n).answer ≡ answer.Counted c → c.admitted ≡ min n p.headroom
unfolding preview_of slot_of
headroom_told r m n p c told answered =
    let (fine, same) = answered_record (slot_refusal n r.slots.0) (record_of r n) c answered in
    rw (same, told_headroom (slot_refusal m r.slots.0) (record_of r m) (headroom_of r) p told) (headroom-admits r n (slot-accepted n r.slots.0 fine).0)

-- So nothing is dropped of what the headroom has room for.
dropped_rest : (r : Regulator) (n : ℕ) → (record_of r n).dropped ≡ n - (record_of r n).admitted
unfolding record_of
dropped_rest r n = refl

pub headroom_safe : (r : Regulator) (n : ℕ) → n ≤ 1000000 → n ≤ headroom_of r → (record_of r n).dropped ≡ 0
headroom_safe r n p fits = omega (arith, dropped_rest r n, headroom-admits r n p)

-- A refused preview tells its number.
pub preview_refused : (r : Regulator) (n k : ℕ) → (k ≡ 0 → ⊥) → k ≡ slot_refusal n r.slots.0 → preview.Refused k ≡ preview_of r n
unfolding preview_of preview_by
preview_refused r n zero p e = absurd (p refl)
preview_refused r n (suc k) p e = rw (← e)

pub preview_given-refused : (r : Regulator) (n : ℕ) (answered : Result Foreseen Refusal) (refusal : Refusal)
    → refusal_number refusal ≡ slot_refusal n r.slots.0 → answered ≡ Err refusal → preview_given answered ≡ preview_of r n
unfolding preview_given
preview_given-refused r n answered refusal numbered e =
    ap preview_given e ∙ preview_refused r n (refusal_number refusal) (refusal_numbered refusal) numbered

-- An accepted one tells what the slot's forecasts admit of n packets and of 1,000,000.
pub preview_told : (r : Regulator) (n soon late : ℕ) (totals most : Totals) (c : SlotRecord) (h : ℕ) → slot_refusal n r.slots.0 ≡ 0
    → soon ≡ forecast_at (last_of r) r.settings.near r.row 0 → late ≡ forecast_late (last_of r) (delay_limit r.settings.delay.0) r.settings.near r.row
    → totals ≡ totals_with soon late (get_or r.row 0 0) (buffer_limit r.settings.buffer.0) r.admitted.0 n
    → most ≡ totals_with soon late (get_or r.row 0 0) (buffer_limit r.settings.buffer.0) r.admitted.0 1000000
    → c ≡ record_by totals.admitted totals.departed r.admitted.0 (get_or r.row 0 0) n → h ≡ most.admitted - r.admitted.0
    → preview.Told (record { slot = c; headroom = h }) ≡ preview_of r n
unfolding preview_of preview_by headroom_of record_of next_admitted_of next_departed_of step_admitted step_departed
preview_told r n soon late totals most c h fine e1 e2 e3 e4 e5 e6 = rw (e6, e5, e4, e3, e2, e1, fine)

-- The bridge to the regulator with a table: where f(L) is at most 1,000,000 for an L of 1 to 64, the table f(0) to f(L) of a profile is
-- accepted, and gives the device's records on every trace of at most L slots, less d where there is a delay limit.
use mathlib.Core.Path.{◌≡◌, refl, sym, ap, ◌∙◌}
use mathlib.Core.List.{List, [], ◌∷◌}
use Prim.Native.Nat.{ℕ, zero, suc, ◌+◌, ◌-◌, ◌≤◌, ◌<◌}
use native.Mathlib.Omega.{arith}
use lib.ListN.{length, get_or, drop, length-drop}
use lib.Seq.{get_or-drop}
use borrow.Author.Tests.{le-ltb, eq-eqb}
use Rattle.calculus.specs.Numbers.Limit.{Limit, at_most}
use Rattle.calculus.specs.Envelopes.Envelope.{windows}
use Rattle.calculus.specs.Regulators.Clipper.{admitted}
use Rattle.calculus.specs.Regulators.Regulator.{departed, lost, held}
use Rattle.calculus.specs.Regulators.Trace.{arrivals}
use Rattle.calculus.specs.Regulators.Rows.{envelope_of, admitted_by, departed_by, lost_by, held_by}
use Rattle.calculus.proofs.Numbers.Lists.{length-list_of, list_of_at}
use Rattle.bucket_calculus.proofs.Buckets.{bucket-zero, bucket_rises}
use Rattle.bucket_calculus.proofs.ListedEnvelope.{bucket-listed_rows}
use Rattle.orders.specs.Refusal.{◌when◌, ◌or_else◌}
use Rattle.refusals.specs.Table.{last_window, last_refusal, zero_refusal, entries_refusal, table_refusal}
use Rattle.orders.proofs.Refusals.{or_else_none}
use Rattle.orders.specs.Verdict.{Accepted}
use Rattle.refusals.specs.Limits.{delay_limit, buffer_limit, set_up_refusal}
use Rattle.regulator.specs.Regulator.{set_up_of, SetUp}
use Rattle.regulator.specs.LiveRun.{live_regulator}
use Rattle.calls.specs.Calls.{answers, counted, trace_of}
use Rattle.calls.specs.CallsRun.{row_after, rows_after}
use Rattle.live_step.specs.declared.record.SlotRecord.{SlotRecord}
use Rattle.regulator.proofs.SlotAnswers.{set_up_fresh}
use Rattle.regulator.proofs.LiveLowestLoss.{live_run}
use Rattle.device.specs.Profile.{rate_of, burst_of, bucket_count, profile_envelope, profile_table, profile_refusal, device_refusal}
use Rattle.device.specs.Device.{device_made}
use Rattle.device.specs.DeviceCalls.{device_machine}
use Rattle.device.proofs.DeviceSetUp.{device_verdict}
use Rattle.device.proofs.DeviceLowestLoss.{device_run}

-- Numbers that rise from one before and stay at most 1,000,000 are nothing wrong in a table.
entries_none : (before : ℕ) (l : List ℕ) → ((k : ℕ) → k < length l → get_or l k 0 ≤ 1000000) → ((k : ℕ) → k < length l → before ≤ get_or l k 0)
    → ((k : ℕ) → suc k < length l → get_or l k 0 ≤ get_or l (suc k) 0) → entries_refusal before l ≡ 0
unfolding entries_refusal ◌when◌ ◌or_else◌
entries_none before [] small above rises = refl
entries_none before (x ∷ l) small above rises =
    rw (le-ltb 1000000 x (small 0 (omega arith)), le-ltb x before (above 0 (omega arith)))
    (entries_none x l (λ k p. small (suc k) (omega arith)) (later x l rises) (λ k p. rises (suc k) (omega arith)))
  where
    later : (x : ℕ) (l : List ℕ) → ((k : ℕ) → suc k < suc (length l) → get_or (x ∷ l) k 0 ≤ get_or (x ∷ l) (suc k) 0) → (k : ℕ) → k < length l → x ≤ get_or l k 0
    later x l rises zero p = rises 0 (omega arith)
    later x l rises (suc k) p = omega (arith, later x l rises k (omega arith), rises (suc k) (omega arith))

-- Envelopes that give the same totals give the same records.
rows_same : (F G : ℕ → ℕ → ℕ) (d q : Limit) (a : ℕ → ℕ) (T : ℕ)
    → ((t : ℕ) → t ≤ T → (admitted F d q a t ≡ admitted G d q a t) × (departed F d q a t ≡ departed G d q a t) × (lost F d q a t ≡ lost G d q a t) × (held F d q a t ≡ held G d q a t))
    → (n t : ℕ) → t + n ≤ T → rows_after F d q a t n ≡ rows_after G d q a t n
unfolding rows_after row_after
rows_same F G d q a T same zero t p = refl
rows_same F G d q a T same (suc n) t p =
    let (x, y, l, h) = same t (omega arith) in
    let (x', y', l', h') = same (suc t) (omega arith) in
    rw (x, y, l, h, x', y', l') (ap (λ (rows : List SlotRecord). row_after G d q a t ∷ rows) (rows_same F G d q a T same n (suc t) (omega arith)))

module _ (profile : List ℕ) where
  abbrev f : ℕ → ℕ
  f = profile_envelope profile

  profile-zero : f 0 ≡ 0
  unfolding profile_envelope
  profile-zero = bucket-zero (bucket_count profile - 1) (rate_of profile) (burst_of profile)

  profile_rises : (j k : ℕ) → j ≤ k → f j ≤ f k
  unfolding profile_envelope
  profile_rises = bucket_rises (bucket_count profile - 1) (rate_of profile) (burst_of profile)

  module _ (L : ℕ) (some : 1 ≤ L) (most : L ≤ 64) (small : f L ≤ 1000000) where
    abbrev table : List ℕ
    table = profile_table profile L

    table_long : length table ≡ suc L
    unfolding profile_table
    table_long = length-list_of f (suc L)

    table_at : (k : ℕ) → k ≤ L → get_or table k 0 ≡ f k
    unfolding profile_table
    table_at k p = list_of_at f (suc L) k (omega arith)

    later_at : (k : ℕ) → suc k ≤ L → get_or (drop 1 table) k 0 ≡ f (suc k)
    later_at k p = let e : 1 + k ≡ suc k = omega arith in get_or-drop 1 table k 0 ∙ ap (λ (i : ℕ). get_or table i 0) e ∙ table_at (suc k) p

    later_long : length (drop 1 table) ≡ L
    later_long = omega (arith, length-drop 1 table, table_long)

    -- The table is accepted.
    pub bridge-table : table_refusal table ≡ 0
    unfolding last_refusal zero_refusal ◌when◌ ◌or_else◌
    bridge-table =
        let last : last_window table ≡ L = omega (arith, table_long) in
        let first : get_or table 0 0 ≡ 0 = table_at 0 (omega arith) ∙ profile-zero in
        rw (last, le-ltb L 1 some, le-ltb 64 L most, eq-eqb (get_or table 0 0) 0 first)
        (entries_none 0 (drop 1 table) (λ k p. omega (arith, later_long, later_at k (omega (arith, later_long)), profile_rises (suc k) L (omega (arith, later_long))))
        (λ k p. omega arith)
        (λ k p. omega (arith, later_at k (omega (arith, later_long)), later_at (suc k) (omega (arith, later_long)), profile_rises (suc k) (suc (suc k)) (omega arith))))

    -- Theorem 5.1's records for the table are those for the profile, on every trace that the table reaches.
    pub bridge_rows : (d q : Limit) (trace : List ℕ) → length trace ≤ L → ((n : ℕ) → d ≡ at_most n → length trace + n ≤ L)
        → rows_after (windows (envelope_of table)) d q (arrivals trace) 0 (length trace) ≡ rows_after (windows f) d q (arrivals trace) 0 (length trace)
    unfolding profile_table profile_envelope admitted_by departed_by lost_by held_by
    bridge_rows d q trace fits reaches =
        rows_same (windows (envelope_of table)) (windows f) d q (arrivals trace) (length trace)
        (bucket-listed_rows (bucket_count profile - 1) (rate_of profile) (burst_of profile) L some d q trace fits reaches) (length trace) 0 (omega arith)

-- The set-up with the table is accepted where the device's is.
bridge-set_up : (profile : List ℕ) (L d q : ℕ) → 1 ≤ L → L ≤ 64 → profile_envelope profile L ≤ 1000000 → (device_made profile d q).verdict ≡ Accepted
    → (set_up_of (profile_table profile L) d q).verdict ≡ Accepted
unfolding set_up_refusal device_refusal ◌or_else◌
bridge-set_up profile L d q some most small accepted =
    let (none, fresh) = device_verdict profile d q accepted in
    let limits = (or_else_none (profile_refusal profile) _ none).1 in
    let whole : set_up_refusal (profile_table profile L) d q ≡ 0 = rw (bridge-table profile L some most small) limits in
    ap (λ (s : SetUp). s.verdict) (sym (set_up_fresh (profile_table profile L) d q whole))

-- The bridge: a live regulator with the profile's table f(0) to f(L) is accepted, and answers the device's records, whatever the calls, as
-- long as the trace has at most L slots, less d where there is a delay limit.
pub bridge : (profile : List ℕ) (L d q : ℕ) → 1 ≤ L → L ≤ 64 → profile_envelope profile L ≤ 1000000 → (device_made profile d q).verdict ≡ Accepted
    → (calls : List ℕ) → length (trace_of calls) ≤ L → ((n : ℕ) → delay_limit d ≡ at_most n → length (trace_of calls) + n ≤ L)
    → ((set_up_of (profile_table profile L) d q).verdict ≡ Accepted)
    × (counted (answers live_regulator (set_up_of (profile_table profile L) d q).regulator calls) ≡ counted (answers device_machine (device_made profile d q).device calls))
bridge profile L d q some most small accepted calls fits reaches =
    let tabled = bridge-set_up profile L d q some most small accepted in (
      tabled,
      (live_run (profile_table profile L) d q tabled calls).run.rows
          ∙ bridge_rows profile L some most small (delay_limit d) (buffer_limit q) (trace_of calls) fits reaches ∙ sym (device_run profile d q accepted calls).run.rows,
    )

-- Laws of set-up's and the slot's answers.
use Rattle.std.proofs.Common.{Result, Ok, Err, MatchResult}
use mathlib.Core.Path.{◌≡◌, refl, sym, ap, ap₂, ◌∙◌}
use mathlib.Core.List.{List}
use Prim.Native.Nat.{ℕ, zero, suc, ◌+◌, ◌<◌, min, max}
use native.Mathlib.Omega.{arith}
use Rattle.numbers.specs.declared.count.Slots.{Slots}
use Rattle.numbers.specs.declared.count.Packets.{Packets}
use lib.ListN.{get_or}
use Rattle.settings.specs.Taken.{envelope_from, taken, Taken}
use Rattle.envelope.specs.Envelope.{near_row}
use Rattle.settings.proofs.TakenTable.{taken-accepted}
use Rattle.orders.specs.Verdict.{Accepted, Refused}
use Rattle.orders.specs.Refusal.{◌or_else◌}
use Rattle.orders.proofs.Refusals.{or_else-first, or_else_second}
use Rattle.refusals.specs.Limits.{delay_limit, buffer_limit, set_up_refusal, arrivals_refusal, slots_refusal, slot_refusal}
use Rattle.live_step.specs.Fill.{form_fill, bench_fill}
use Rattle.live_step.specs.Step.{Stepped}
use Rattle.refusals.proofs.AcceptedSettings.{set_up-table}
use Rattle.regulator.specs.Regulator.{blank_row, settings_from, fresh_regulator, no_regulator, set_up_by, set_up_given, set_up_of, next_admitted_of, next_departed_of, record_of, advanced, slot_of, last_of, SlotOn, SetUp, Step}
use Rattle.live_step.specs.Record.{record_by}
use Rattle.live_step.specs.Answer.{answer_by, answer_given, SlotAnswer}
use Rattle.orders.specs.Answered.{refusal_number, number_given, unless_refused}
use Rattle.orders.specs.declared.refusal.Refusal.{Refusal}
use Rattle.orders.proofs.Given.{refusal_numbered, given_number}
use Rattle.live_step.specs.declared.step.Totals.{Totals}
use Rattle.regulator.specs.declared.regulator.Regulator.{Regulator}
use Rattle.regulator.specs.declared.regulator.Settings.{Settings}
use Rattle.live_step.specs.declared.record.SlotRecord.{SlotRecord}
use Rattle.live_step.specs.Answer as answer

-- What is kept, by the number.
pub kept-accepted : {A : Type 0} (k : ℕ) (a b : A) → k ≡ 0 → a ≡ unless_refused k a b
unfolding unless_refused
kept-accepted k a b e = rw e

pub kept_refused : {A : Type 0} (k : ℕ) (a b : A) → (k ≡ 0 → ⊥) → b ≡ unless_refused k a b
unfolding unless_refused
kept_refused zero a b p = absurd (p refl)
kept_refused (suc k) a b p = refl

-- Kept field by field.
pub kept-slots : (k : ℕ) (a b : Slots) → (unless_refused k a b).0 ≡ unless_refused k a.0 b.0
unfolding unless_refused
kept-slots zero a b = refl
kept-slots (suc k) a b = refl

pub kept-packets : (k : ℕ) (a b : Packets) → (unless_refused k a b).0 ≡ unless_refused k a.0 b.0
unfolding unless_refused
kept-packets zero a b = refl
kept-packets (suc k) a b = refl

-- A slot that is not refused is one more of fewer than 1,000,000.
pub kept_slots-more : (k slots v : ℕ) → (k ≡ 0 → slots < 1000000) → v ≡ min (slots + 1) 4294967295 → unless_refused k v slots ≡ unless_refused k (slots + 1) slots
unfolding unless_refused
kept_slots-more zero slots v few e = let room = few refl in omega arith
kept_slots-more (suc k) slots v few e = refl

pub kept_answer : (k : ℕ) (c : SlotRecord) → unless_refused k (answer.Counted c) (answer.Refused k) ≡ answer_by k c
unfolding unless_refused answer_by
kept_answer zero c = refl
kept_answer (suc k) c = refl

pub answer-accepted : (k : ℕ) (c : SlotRecord) → k ≡ 0 → answer.Counted c ≡ answer_by k c
unfolding answer_by
answer-accepted k c e = rw e

pub answer_refused : (k : ℕ) (c : SlotRecord) → (k ≡ 0 → ⊥) → answer.Refused k ≡ answer_by k c
unfolding answer_by
answer_refused zero c p = absurd (p refl)
answer_refused (suc k) c p = refl

-- 8 is given first, and 9 only where 8 is not.
pub slot_eight : (n slots k : ℕ) → (k ≡ 0 → ⊥) → k ≡ arrivals_refusal n → k ≡ slot_refusal n slots
unfolding slot_refusal
slot_eight n slots k some e = sym (ap (λ (a : ℕ). a or_else slots_refusal slots) (sym e) ∙ or_else-first k (slots_refusal slots) some)

pub slot_nine : (n slots eight k : ℕ) → eight ≡ 0 → eight ≡ arrivals_refusal n → k ≡ slots_refusal slots → k ≡ slot_refusal n slots
unfolding slot_refusal
slot_nine n slots eight k none e f = f ∙ sym (or_else_second (arrivals_refusal n) (slots_refusal slots) (sym e ∙ none))

-- A refused slot gives its number and the same regulator.
pub slot_refused : (r : Regulator) (n k : ℕ) → slot_refusal n r.slots.0 ≡ suc k
    → ◌≡◌ {A = Step} (slot_of r n) (record { answer = answer.Refused (suc k); regulator = r })
unfolding slot_of unless_refused answer_by
slot_refused r n k e = rw e

-- What is answered of a record that is kept only where nothing is refused.
pub answer_kept : (given : Result (Unit {0}) Refusal) (answered : Result SlotRecord Refusal) (c : SlotRecord)
    → MatchResult given (λ _. answered ≡ Ok c) (λ e. answered ≡ Err e) → answer_given answered ≡ answer_by (number_given given) c
unfolding answer_given number_given
answer_kept (Ok _) answered c e = ap answer_given e ∙ answer-accepted 0 c refl
answer_kept (Err refusal) answered c e = ap answer_given e ∙ answer_refused (refusal_number refusal) c (refusal_numbered refusal)

-- An accepted slot gives its record and the regulator advanced.
pub slot_counted : (r : Regulator) (n : ℕ) → slot_refusal n r.slots.0 ≡ 0
    → ◌≡◌ {A = Step} (slot_of r n) (record { answer = answer.Counted (record_of r n); regulator = advanced r n })
unfolding slot_of unless_refused answer_by
slot_counted r n e = rw e

-- the regulator with its changed fields, changed or not
advanced_by : (k : ℕ) (r : Regulator) (n : ℕ)
    → ◌≡◌ {A = Regulator}
    (record {
      settings = r.settings;
      slots = record { 0 = unless_refused k (r.slots.0 + 1) r.slots.0 };
      admitted = record { 0 = unless_refused k (next_admitted_of r n) r.admitted.0 };
      form_peak = record { 0 = unless_refused k (max r.form_peak.0 (form_fill (record_of r n))) r.form_peak.0 };
      bench_peak = record { 0 = unless_refused k (max r.bench_peak.0 (bench_fill (record_of r n))) r.bench_peak.0 };
      row = unless_refused k (advanced r n).row r.row;
    })
    (unless_refused k (advanced r n) r)
unfolding unless_refused advanced
advanced_by zero r n = refl
advanced_by (suc k) r n = refl

-- A record of the totals after the slot is the slot's.
record-made : (r : Regulator) (n : ℕ) (kept : SlotRecord) (x y : ℕ) → x ≡ next_admitted_of r n → y ≡ next_departed_of r n
    → kept ≡ record_by x y r.admitted.0 (get_or r.row 0 0) n → kept ≡ record_of r n
unfolding record_of
record-made r n kept x y e1 e2 e = e ∙ ap₂ (λ (x y : ℕ). record_by x y r.admitted.0 (get_or r.row 0 0) n) e1 e2

-- A slot that takes a step and records it, and keeps what it changes only where it is not refused, is the slot.
pub slot-made : (r : Regulator) (n : ℕ) (totals : Totals) (after : List ℕ)
    → Stepped (last_of r) (delay_limit r.settings.delay.0) (buffer_limit r.settings.buffer.0) r.settings.near r.row r.admitted.0 n totals after
    → (k slots total form bench : ℕ) (row : List ℕ) (kept : SlotRecord) (given : SlotAnswer) → k ≡ slot_refusal n r.slots.0
    → kept ≡ record_by totals.admitted totals.departed r.admitted.0 (get_or r.row 0 0) n
    → slots ≡ unless_refused k (r.slots.0 + 1) r.slots.0 → total ≡ unless_refused k totals.admitted r.admitted.0
    → form ≡ unless_refused k (max r.form_peak.0 (form_fill kept)) r.form_peak.0 → bench ≡ unless_refused k (max r.bench_peak.0 (bench_fill kept)) r.bench_peak.0
    → row ≡ unless_refused k after r.row → given ≡ answer_by k kept
    → ◌≡◌ {A = Step}
    (record {
      answer = given;
      regulator = record {
        settings = r.settings;
        slots = record { 0 = slots };
        admitted = record { 0 = total };
        form_peak = record { 0 = form };
        bench_peak = record { 0 = bench };
        row = row;
      };
    })
    (slot_of r n)
unfolding slot_of
slot-made r n totals after stepped k slots total form bench row kept given e0 e1 e2 e3 e4 e5 e6 e7 =
    let x : totals.admitted ≡ next_admitted_of r n = unfold next_admitted_of in stepped.admits in
    let y : totals.departed ≡ next_departed_of r n = unfold next_admitted_of next_departed_of in stepped.departs in
    let moved : after ≡ (advanced r n).row = unfold next_admitted_of next_departed_of advanced in stepped.moves in
    let same = record-made r n kept totals.admitted totals.departed x y e1 in
    rw (e7, e6, e5, e4, e3, e2, moved, same, x, e0)
    (ap (λ (g : Regulator). record { answer = answer_by (slot_refusal n r.slots.0) (record_of r n); regulator = g }) (advanced_by (slot_refusal n r.slots.0) r n))

-- A refused set-up gives its number and no regulator.
pub set_up_refused : (table : List ℕ) (d q k : ℕ) → (k ≡ 0 → ⊥) → k ≡ set_up_refusal table d q
    → ◌≡◌ {A = SetUp} (record { verdict = Refused k; regulator = no_regulator }) (set_up_of table d q)
unfolding set_up_of set_up_by
set_up_refused table d q zero p e = absurd (p refl)
set_up_refused table d q (suc k) p e = ap (λ (k : ℕ). set_up_by k table d q) e

-- An accepted set-up gives a fresh regulator.
pub set_up_fresh : (table : List ℕ) (d q : ℕ) → set_up_refusal table d q ≡ 0
    → ◌≡◌ {A = SetUp} (record { verdict = Accepted; regulator = fresh_regulator table d q }) (set_up_of table d q)
unfolding set_up_of set_up_by
set_up_fresh table d q e = ap (λ (k : ℕ). set_up_by k table d q) (sym e)

-- Its table is accepted, so it gives its envelope.
-- A call that refuses a set-up gives just that.
pub set_up_given-refused : {A : Type 0} (table : List ℕ) (d q : ℕ) (given : Result A Refusal) (answered : Result Regulator Refusal) (refusal : Refusal)
    → number_given given ≡ set_up_refusal table d q → given ≡ Err refusal → answered ≡ Err refusal → set_up_given answered ≡ set_up_of table d q
unfolding set_up_given
set_up_given-refused table d q given answered refusal numbered refused e =
    ap set_up_given e ∙ set_up_refused table d q (refusal_number refusal) (refusal_numbered refusal) (given_number given refusal _ numbered refused)

pub set_up-made : (table : List ℕ) (d q : ℕ) → set_up_refusal table d q ≡ 0 → (t : Taken) → t ≡ taken table → (windows row : List ℕ)
    → windows ≡ near_row t.envelope → row ≡ blank_row
    → ◌≡◌ {A = SetUp}
    (record {
      verdict = Accepted;
      regulator = record {
        settings = record { last = t.envelope.last; delay = record { 0 = d }; buffer = record { 0 = q }; near = windows };
        slots = record { 0 = 0 };
        admitted = record { 0 = 0 };
        form_peak = record { 0 = 0 };
        bench_peak = record { 0 = 0 };
        row = row;
      };
    })
    (set_up_of table d q)
unfolding fresh_regulator settings_from envelope_from
set_up-made table d q e t made windows row e1 e2 =
    let same : t ≡ record { verdict = Accepted; envelope = envelope_from table } = made ∙ sym (taken-accepted table (set_up-table table d q e)) in
    rw (e1, e2, same) (set_up_fresh table d q e)

-- The numbers of an advanced regulator.
advanced-fields : (r : Regulator) (n : ℕ) → (r.slots.0 + 1 ≡ (advanced r n).slots.0) × (next_admitted_of r n ≡ (advanced r n).admitted.0)
    × (max r.form_peak.0 (form_fill (record_of r n)) ≡ (advanced r n).form_peak.0) × (max r.bench_peak.0 (bench_fill (record_of r n)) ≡ (advanced r n).bench_peak.0)
unfolding advanced
advanced-fields r n = (refl, refl, refl, refl)

-- A slot on lent parts that is refused leaves them as they were.
pub slot_on_refused : (r : Regulator) (n k : ℕ) → (k ≡ 0 → ⊥) → k ≡ slot_refusal n r.slots.0
    → SlotOn r n (answer.Refused k) r.slots.0 r.admitted.0 r.form_peak.0 r.bench_peak.0 r.row
slot_on_refused r n zero p e = absurd (p refl)
slot_on_refused r n (suc k) p e =
    let whole = slot_refused r n k (sym e) in
    record { answers = rw whole; takes = rw whole; admits = rw whole; fills = rw whole; fills_bench = rw whole; moves = rw whole }

-- One that is accepted takes a step and records it.
pub slot_on_given : {A : Type 0} (r : Regulator) (n : ℕ) (given : Result A Refusal) (answered : Result SlotRecord Refusal) (refusal : Refusal)
    → number_given given ≡ slot_refusal n r.slots.0 → given ≡ Err refusal → answered ≡ Err refusal
    → SlotOn r n (answer_given answered) r.slots.0 r.admitted.0 r.form_peak.0 r.bench_peak.0 r.row
unfolding answer_given
slot_on_given r n given answered refusal numbered refused e =
    rw (ap answer_given e) (slot_on_refused r n (refusal_number refusal) (refusal_numbered refusal) (given_number given refusal _ numbered refused))

pub slot_on-counted : (r : Regulator) (n : ℕ) → slot_refusal n r.slots.0 ≡ 0 → (totals : Totals) (after : List ℕ)
    → Stepped (last_of r) (delay_limit r.settings.delay.0) (buffer_limit r.settings.buffer.0) r.settings.near r.row r.admitted.0 n totals after
    → (kept : SlotRecord) (form bench : ℕ) → kept ≡ record_by totals.admitted totals.departed r.admitted.0 (get_or r.row 0 0) n
    → form ≡ max r.form_peak.0 (form_fill kept) → bench ≡ max r.bench_peak.0 (bench_fill kept)
    → SlotOn r n (answer.Counted kept) (r.slots.0 + 1) totals.admitted form bench after
slot_on-counted r n fine totals after stepped kept form bench e e1 e2 =
    let whole = slot_counted r n fine in
    let x : totals.admitted ≡ next_admitted_of r n = unfold next_admitted_of in stepped.admits in
    let y : totals.departed ≡ next_departed_of r n = unfold next_admitted_of next_departed_of in stepped.departs in
    let moved : after ≡ (advanced r n).row = unfold next_admitted_of next_departed_of advanced in stepped.moves in
    let same = record-made r n kept totals.admitted totals.departed x y e in
    let (taken, total, forms, benches) = advanced-fields r n in
    record {
      answers = rw whole (ap answer.Counted same);
      takes = rw whole taken;
      admits = rw whole (x ∙ total);
      fills = rw whole (e1 ∙ ap (λ (c : SlotRecord). max r.form_peak.0 (form_fill c)) same ∙ forms);
      fills_bench = rw whole (e2 ∙ ap (λ (c : SlotRecord). max r.bench_peak.0 (bench_fill c)) same ∙ benches);
      moves = rw whole moved;
    }

-- No slot changes the settings.
settings-kept : (k : ℕ) (r : Regulator) (n : ℕ) → (unless_refused k (advanced r n) r).settings ≡ r.settings
unfolding unless_refused advanced
settings-kept zero r n = refl
settings-kept (suc k) r n = refl

slot_settings : (r : Regulator) (n : ℕ) → (slot_of r n).regulator.settings ≡ r.settings
unfolding slot_of
slot_settings r n = settings-kept (slot_refusal n r.slots.0) r n

-- a regulator from its settings and the parts that a slot may change
abbrev pub with_parts : Settings → ℕ → ℕ → ℕ → ℕ → List ℕ → Regulator
with_parts settings slots x form bench row =
    record { settings = settings; slots = record { 0 = slots }; admitted = record { 0 = x }; form_peak = record { 0 = form }; bench_peak = record { 0 = bench }; row = row }

-- A slot on the parts of a regulator is the slot on the regulator.
pub slot_whole : (r : Regulator) (n : ℕ) (a : SlotAnswer) (slots x form bench : ℕ) (row : List ℕ) → SlotOn r n a slots x form bench row
    → ◌≡◌ {A = Step} (record { answer = a; regulator = with_parts r.settings slots x form bench row }) (slot_of r n)
slot_whole r n a slots x form bench row on =
    let s : Regulator = (slot_of r n).regulator in
    rw (on.answers, on.takes, on.admits, on.fills, on.fills_bench, on.moves)
    (ap (λ (k : Settings). record { answer = (slot_of r n).answer; regulator = with_parts k s.slots.0 s.admitted.0 s.form_peak.0 s.bench_peak.0 s.row })
    (sym (slot_settings r n)))

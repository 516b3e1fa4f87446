-- What settings, arrivals and a table that get no number are known to have.
use mathlib.Core.Path.{◌≡◌, refl}
use mathlib.Core.Bool.{Bool, true, false}
use mathlib.Core.List.{List}
use Prim.Native.Nat.{ℕ, zero, suc, ◌*◌, ◌≤◌, ◌<◌}
use native.Mathlib.Decide.{dec_le}
use native.Mathlib.Nat.{suc-mul}
use native.Mathlib.Omega.{arith}
use lib.Dec.{leb, ltb, eqb}
use borrow.Author.Tests.{leb-true, leb-false, ltb-false, ne_eqb}
use Rattle.calculus.proofs.Numbers.Distinct.{zero_one}
use Rattle.calculus.specs.Numbers.Limit.{Limit, none, at_most, limit_unless}
use Rattle.calculus.specs.Envelopes.Envelope.{windows, ClosedEnvelope}
use Rattle.calculus.specs.Regulators.Clipper.{arrived}
use Rattle.calculus.specs.Regulators.Rows.{envelope_of}
use Rattle.calculus.proofs.Envelopes.Envelope.{closure_envelope}
use Rattle.orders.specs.Refusal.{pick}
use Rattle.refusals.specs.Table.{table_refusal}
use Rattle.orders.proofs.Refusals.{or_else_none, when_none}
use Rattle.refusals.proofs.TableJudged.{AcceptedTable, table-accepted, table_given}
use Rattle.refusals.specs.Limits.{delay_limit, buffer_limit, delay_refusal, buffer_refusal, both_refusal, limits_refusal, arrivals_refusal, slots_refusal, slot_refusal, set_up_refusal}

-- settings that a set-up accepts
pub record Accepted (table : List ℕ) (d q : Limit) : Type 0 where
  pub tabled : AcceptedTable table
  pub delayed : (n : ℕ) → d ≡ at_most n → n ≤ 64
  pub buffered : (n : ℕ) → q ≡ at_most n → n ≤ 1000000

-- A limit that is not refused and not none is at most the most.
limit_small : (most mark k : ℕ) (d n : ℕ) (small noted : Bool) → leb d most ≡ small → eqb d mark ≡ noted → pick small 0 (pick noted 0 (suc k)) ≡ 0
    → limit_unless noted d ≡ at_most n → n ≤ most
unfolding pick limit_unless
limit_small most mark k d n true true s e r l = absurd (zero_one cc)
limit_small most mark k d n true false s e r l = let same : d ≡ n = cc in omega (arith, leb-true d most s)
limit_small most mark k d n false true s e r l = absurd (zero_one cc)
limit_small most mark k d n false false s e r l = absurd (omega arith)

-- A limit's number is the one that was given.
pub limit-number : (b : Bool) (n m : ℕ) → limit_unless b n ≡ at_most m → n ≡ m
unfolding limit_unless
limit-number true n m e = absurd (zero_one cc)
limit-number false n m e = cc

pub delay_small : (d n : ℕ) → delay_refusal d ≡ 0 → delay_limit d ≡ at_most n → n ≤ 64
unfolding delay_refusal delay_limit
delay_small d n r l = limit_small 64 255 5 d n (leb d 64) (eqb d 255) refl refl r l

pub buffer_small : (q n : ℕ) → buffer_refusal q ≡ 0 → buffer_limit q ≡ at_most n → n ≤ 1000000
unfolding buffer_refusal buffer_limit
buffer_small q n r l = limit_small 1000000 4294967295 6 q n (leb q 1000000) (eqb q 4294967295) refl refl r l

-- A buffer limit that is accepted fits in 32 bits.
is_number : (q : ℕ) → (q ≡ 4294967295 → ⊥) → buffer_limit q ≡ at_most q
unfolding buffer_limit limit_unless
is_number q p = rw (ne_eqb q 4294967295 p)

pub buffer_fits : (q : ℕ) → buffer_refusal q ≡ 0 → q < 4294967296
buffer_fits q e =
    elim (dec_le q 4294967295) [
      | yes p ↦ omega arith
      | no p ↦ omega (arith, buffer_small q q e (is_number q (λ z. omega arith)))
    ]

-- A limit that is none is not refused by itself.
pub no-delay : (delay_refusal 255 ≡ 0) × (delay_limit 255 ≡ none)
unfolding delay_refusal delay_limit limit_unless pick
no-delay = (refl, refl)

pub no_buffer : (buffer_refusal 4294967295 ≡ 0) × (buffer_limit 4294967295 ≡ none)
unfolding buffer_refusal buffer_limit limit_unless pick
no_buffer = (refl, refl)

-- Limits that get no number are neither refused one by one nor both none.
pub limits_none : (d q : ℕ) → limits_refusal d q ≡ 0 → (delay_refusal d ≡ 0) × (buffer_refusal q ≡ 0) × (both_refusal d q ≡ 0)
unfolding limits_refusal
limits_none d q e =
    let (delayed, later) = or_else_none (delay_refusal d) _ e in
    let (buffered, both) = or_else_none (buffer_refusal q) _ later in
    (delayed, buffered, both)

-- A table and limits that get no number one by one are accepted, both limits none among them.
pub settings-accepted : (table : List ℕ) (d q : ℕ) → table_refusal table ≡ 0 → delay_refusal d ≡ 0 → buffer_refusal q ≡ 0
    → Accepted table (delay_limit d) (buffer_limit q)
settings-accepted table d q tabled delayed buffered =
    record {
      tabled = table-accepted table tabled;
      delayed = λ n l. delay_small d n delayed l;
      buffered = λ n l. buffer_small q n buffered l;
    }

-- The settings of a set-up that gets no number are accepted.
pub set_up-accepted : (table : List ℕ) (d q : ℕ) → set_up_refusal table d q ≡ 0 → Accepted table (delay_limit d) (buffer_limit q)
unfolding set_up_refusal
set_up-accepted table d q e =
    let (tabled, limits) = or_else_none (table_refusal table) _ e in
    let (delayed, buffered, _) = limits_none d q limits in
    settings-accepted table d q tabled delayed buffered

-- Its table is accepted, so it gives its envelope.
pub set_up-table : (table : List ℕ) (d q : ℕ) → set_up_refusal table d q ≡ 0 → table_refusal table ≡ 0
unfolding set_up_refusal
set_up-table table d q e = (or_else_none (table_refusal table) _ e).0

-- Its envelope is closed.
pub envelope_closed : (table : List ℕ) (d q : ℕ) → Accepted table (delay_limit d) (buffer_limit q) → ClosedEnvelope (windows (envelope_of table))
unfolding envelope_of
envelope_closed table d q ok = closure_envelope _ _ (table_given table ok.tabled)

pub arrivals-accepted : (n : ℕ) → arrivals_refusal n ≡ 0 → n ≤ 1000000
unfolding arrivals_refusal
arrivals-accepted n e = ltb-false 1000000 n (when_none 7 (ltb 1000000 n) e)

-- With at most 1,000,000 arrivals a slot, at most 1,000,000 a slot have arrived.
pub arrived-bound : (a : ℕ → ℕ) (t : ℕ) → ((k : ℕ) → k ≤ t → a k ≤ 1000000) → arrived a t ≤ t * 1000000
unfolding arrived
arrived-bound a zero few = omega arith
arrived-bound a (suc t) few = omega (arith, arrived-bound a t (λ k p. few k (omega arith)), few (suc t) (omega arith), suc-mul t 1000000)

-- Where 9 is not given, fewer than 1,000,000 slots were taken.
pub slots-accepted : (slots : ℕ) → slots_refusal slots ≡ 0 → slots < 1000000
unfolding slots_refusal
slots-accepted slots e = leb-false 1000000 slots (when_none 8 (leb 1000000 slots) e)

-- A slot that gets no number has at most 1,000,000 arrivals, and fewer than 1,000,000 slots were taken before it.
pub slot-accepted : (n slots : ℕ) → slot_refusal n slots ≡ 0 → (n ≤ 1000000) × (slots < 1000000)
unfolding slot_refusal
slot-accepted n slots e =
    let (few, free) = or_else_none (arrivals_refusal n) _ e in
    (arrivals-accepted n few, slots-accepted slots free)

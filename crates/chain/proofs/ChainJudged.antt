-- What is known where a chain gets no number.
use Rattle.std.proofs.Common.{◌≡◌, ℕ, zero, suc, ◌≤◌, ltb, List, length, get_or, refl, ltb-false, le-ltb, eq-eqb}
use Rattle.orders.specs.Refusal.{◌when◌, ◌or_else◌}
use Rattle.orders.proofs.Refusals.{or_else_none, when_none}
use Rattle.refusals.specs.Limits.{set_up_refusal}
use Rattle.refusals.specs.Lengths.{length_refusal, lists_refusal, counts_refusal}
use Rattle.refusals.proofs.Measured.{list_same}
use Rattle.refusals.specs.WholeTrace.{trace_refusal, run_refusal}
use Rattle.refusals.proofs.TraceCounts.{counts_few}
use Rattle.chain.specs.Refusals.{beyond_refusal, chain_lists_refusal, chain_refusal}

pub record AcceptedChain (table : List ℕ) (d q : ℕ) (trace : List ℕ) (t slots marks amounts : ℕ) : Type 0 where
  pub set_up : set_up_refusal table d q ≡ 0
  pub short : length trace ≤ 4096
  pub long_slots : slots ≡ suc (length trace)
  pub long_marks : marks ≡ suc (length trace)
  pub long_amounts : amounts ≡ suc (length trace)
  pub few : (k : ℕ) → get_or trace k 0 ≤ 1000000
  pub inside : t ≤ length trace
  -- the whole-trace run accepts it too
  pub runs : run_refusal table d q trace (length trace) (length trace) (length trace) ≡ 0

-- What the run's parts accept, the run accepts.
run_none : (table : List ℕ) (d q : ℕ) (trace : List ℕ) → set_up_refusal table d q ≡ 0 → length_refusal (length trace) ≡ 0 → counts_refusal trace ≡ 0
    → run_refusal table d q trace (length trace) (length trace) (length trace) ≡ 0
unfolding run_refusal trace_refusal lists_refusal ◌when◌ ◌or_else◌
run_none table d q trace set short counts = rw (set, short, eq-eqb (length trace) (length trace) refl) counts

pub chain-taken : (table : List ℕ) (d q : ℕ) (trace : List ℕ) (t slots marks amounts : ℕ) → chain_refusal table d q trace t slots marks amounts ≡ 0
    → AcceptedChain table d q trace t slots marks amounts
unfolding chain_refusal chain_lists_refusal length_refusal beyond_refusal
chain-taken table d q trace t slots marks amounts e =
    let (set, others) = or_else_none (set_up_refusal table d q) _ e in
    let (short, later) = or_else_none (10 when ltb 4096 (length trace)) _ others in
    let (lists, last) = or_else_none (lists_refusal (suc (length trace)) slots or_else lists_refusal (suc (length trace)) marks or_else lists_refusal (suc (length trace)) amounts) _ later in
    let (counts, beyond) = or_else_none (counts_refusal trace) _ last in
    let (first, rest) = or_else_none (lists_refusal (suc (length trace)) slots) _ lists in
    let (second, third) = or_else_none (lists_refusal (suc (length trace)) marks) _ rest in
    record {
      set_up = set;
      short = ltb-false 4096 (length trace) (when_none 9 (ltb 4096 (length trace)) short);
      long_slots = list_same (suc (length trace)) slots first;
      long_marks = list_same (suc (length trace)) marks second;
      long_amounts = list_same (suc (length trace)) amounts third;
      few = counts_few trace counts;
      inside = ltb-false (length trace) t (when_none 17 (ltb (length trace) t) beyond);
      runs = run_none table d q trace set short counts;
    }

-- The other way: a chain that has what is asked gets no number ..
pub chain-asked : (table : List ℕ) (d q : ℕ) (trace : List ℕ) (t slots marks amounts : ℕ) → set_up_refusal table d q ≡ 0 → length trace ≤ 4096
    → slots ≡ suc (length trace) → marks ≡ suc (length trace) → amounts ≡ suc (length trace) → counts_refusal trace ≡ 0 → t ≤ length trace
    → chain_refusal table d q trace t slots marks amounts ≡ 0
unfolding chain_refusal chain_lists_refusal length_refusal lists_refusal beyond_refusal ◌when◌ ◌or_else◌
chain-asked table d q trace t slots marks amounts set short ls lm lv few inside =
    rw (set, le-ltb 4096 (length trace) short, eq-eqb slots (suc (length trace)) ls, eq-eqb marks (suc (length trace)) lm, eq-eqb amounts (suc (length trace)) lv, few, le-ltb (length trace) t inside) refl

-- .. and one whose lists are right gets the whole-trace run's number, then 18.
pub chain-number : (table : List ℕ) (d q : ℕ) (trace : List ℕ) (t : ℕ)
    → chain_refusal table d q trace t (suc (length trace)) (suc (length trace)) (suc (length trace))
    ≡ run_refusal table d q trace (length trace) (length trace) (length trace) or_else 18 when ltb (length trace) t
unfolding chain_refusal chain_lists_refusal run_refusal trace_refusal lists_refusal beyond_refusal ◌when◌ ◌or_else◌
chain-number table d q trace t =
    rw (eq-eqb (suc (length trace)) (suc (length trace)) refl, eq-eqb (length trace) (length trace) refl)
    (by (set_up_refusal table d q) (length_refusal (length trace)))
  where
    by : (set long : ℕ) → (set or_else long or_else counts_refusal trace or_else 18 when ltb (length trace) t) ≡ ((set or_else long or_else counts_refusal trace) or_else 18 when ltb (length trace) t)
    by zero zero = refl
    by zero (suc k) = refl
    by (suc k) long = refl

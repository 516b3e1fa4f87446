-- The rows that are filled for a chain that gets no number are those of its table and trace.
use Rattle.std.proofs.Common.{◌≡◌, ℕ, zero, suc, ◌+◌, ◌*◌, ◌<◌, ◌≤◌, min, List, length, get_or, sym, refl, ap, ◌∙◌, mod-eq_of_lt, suc-mul, arith, eq-eqb, ne_eqb}
use native.Mathlib.Decide.{ℕ_discrete}
use Rattle.calculus.specs.Numbers.Limit.{at_most, limit_unless}
use Rattle.calculus.specs.Regulators.Trace.{sum_to}
use Rattle.calculus.specs.Regulators.Rows.{envelope_of}
use Rattle.chain_calculus.specs.ChainFound.{number_of}
use Rattle.calculus.proofs.Regulators.Trace.{arrived-sum}
use Rattle.refusals.specs.Table.{table_refusal}
use Rattle.refusals.specs.Limits.{delay_limit, buffer_limit}
use Rattle.refusals.proofs.TableJudged.{table-accepted}
use Rattle.refusals.proofs.AcceptedSettings as settled
use Rattle.refusals.proofs.AcceptedSettings.{set_up-accepted, set_up-table}
use Rattle.settings.specs.Taken.{taken, Taken}
use Rattle.settings.proofs.TakenTable.{taken-accepted}
use Rattle.envelope.specs.Envelope.{bound}
use Rattle.settings.proofs.Accepted.{bound-accepted}
use Rattle.trace.proofs.Totals.{buffer_fits}
use Rattle.chain.specs.Refusals.{chain_refusal}
use Rattle.chain.proofs.ChainJudged.{AcceptedChain, chain-taken}
use Rattle.chain.specs.Links.{at_window}
use Rattle.chain.specs.Prepared.{Checkable}
use Rattle.chain.specs.Rows.{total_at, Filled, summed_over}
use Rattle.chain.proofs.FilledRows.{over_summed}

-- f of a table that is taken and accepted is its own.
taken-windows : (table : List ℕ) → table_refusal table ≡ 0 → (w : ℕ) → bound (taken table).envelope w ≡ envelope_of table w
taken-windows table accepted w = ap (λ (z : Taken). bound z.envelope w) (sym (taken-accepted table accepted)) ∙ bound-accepted table (table-accepted table accepted) w

-- An accepted delay limit looks ahead 64 slots at most.
number_small : (d : ℕ) → ((n : ℕ) → delay_limit d ≡ at_most n → n ≤ 64) → number_of (delay_limit d) ≤ 64
unfolding delay_limit limit_unless number_of
number_small d small =
    elim (ℕ_discrete d 255) [
      | yes e ↦ rw (eq-eqb d 255 e) (omega arith)
      | no e ↦
          let number : delay_limit d ≡ at_most d = rw (ne_eqb d 255 e) refl in
          rw (ne_eqb d 255 e) (small d number)
    ]

-- Totals that fit 32 bits do not wrap.
total_exact : (counts : List ℕ) (n : ℕ) → ((k : ℕ) → k ≤ n → sum_to counts k < 4294967296) → total_at counts n ≡ sum_to counts n
unfolding total_at sum_to
total_exact counts zero fits = refl
total_exact counts (suc n) fits =
    rw (total_exact counts n (λ k p. fits k (omega arith)))
    (mod-eq_of_lt {n = sum_to counts n + get_or counts n 0} {m = 0x1_0000_0000} (omega (arith, fits (suc n) (omega arith))))

-- A row of totals of counts whose sums fit 32 bits holds their sums.
pub total-sums : (counts before totals : List ℕ) (T : ℕ) → length counts ≡ T → T ≤ 4096 → ((k : ℕ) → k ≤ T → sum_to counts k < 4294967296)
    → totals ≡ summed_over counts before → (k : ℕ) → k ≤ T → get_or totals k 0 ≡ sum_to counts k
total-sums counts before totals T long short fits done k p =
    ap (λ (l : List ℕ). get_or l k 0) done ∙ over_summed counts before k (omega arith) (omega arith) ∙ total_exact counts k (λ j r. fits j (omega arith))

-- Sums of counts of at most 1,000,000.
sum_small : (l : List ℕ) → ((k : ℕ) → get_or l k 0 ≤ 1000000) → (t : ℕ) → sum_to l t ≤ t * 1000000
unfolding sum_to
sum_small l few zero = omega arith
sum_small l few (suc t) = omega (arith, sum_small l few t, few t, suc-mul t 1000000)

module _ (table : List ℕ) (d q : ℕ) (trace : List ℕ) (t slots marks amounts : ℕ) (none₀ : chain_refusal table d q trace t slots marks amounts ≡ 0) where
  ok : AcceptedChain table d q trace t slots marks amounts
  ok = chain-taken table d q trace t slots marks amounts none₀

  settings : settled.Accepted table (delay_limit d) (buffer_limit q)
  settings = set_up-accepted table d q ok.set_up

  -- The buffer limit fits 32 bits.
  pub buffer_narrow : q < 4294967296
  buffer_narrow = buffer_fits table d q settings

  -- What arrived by a slot fits 32 bits.
  arrived_fits : (k : ℕ) → k ≤ length trace → sum_to trace k < 4294967296
  arrived_fits k p = omega (arith, sum_small trace ok.few k, ok.short)

  module _ (before row : List ℕ) (filled : Filled table before row (min (t + 64) 4160)) where
    windowed : (w : ℕ) → w ≤ t + number_of (delay_limit d) → at_window row w ≡ envelope_of table w
    windowed w p =
        let reach = number_small d settings.delayed in
        filled.filled w (omega (arith, ok.inside, ok.short)) ∙ taken-windows table (set_up-table table d q ok.set_up) w

    pub checkable : (totals totals' : List ℕ) → totals' ≡ summed_over trace totals → Checkable table d q trace t row totals'
    checkable totals totals' done =
        record {
          set_up = ok.set_up;
          short = omega (arith, ok.inside, ok.short);
          windowed = windowed;
          arrives = λ s p. total-sums trace totals totals' (length trace) refl ok.short arrived_fits done s (omega (arith, ok.inside)) ∙ sym (arrived-sum trace s);
        }

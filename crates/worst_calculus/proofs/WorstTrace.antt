-- As much as possible as early as possible loses most: it is the trace asked for, and the only one (request 2.13).
use mathlib.Core.Path.{◌≡◌, refl, sym, ap, ap₂, ◌∙◌}
use mathlib.Core.Logic.{inl, inr}
use mathlib.Core.List.{List}
use Prim.Native.Nat.{ℕ, zero, suc, ◌+◌, ◌-◌, ◌*◌, ◌≤◌, ◌<◌, min}
use native.Mathlib.Nat.{le_antisymm}
use native.Mathlib.Decide.{dec_le}
use native.Mathlib.Omega.{arith}
use lib.ListN.{length, get_or, get_or-eq_default}
use lib.Seq.{ext_get_or}
use Rattle.calculus.specs.Numbers.Limit.{Limit}
use Rattle.calculus.specs.Envelopes.Envelope.{windows}
use Rattle.calculus.specs.Regulators.Clipper.{arrived, clipped, clipper_window}
use Rattle.calculus.specs.Regulators.Regulator.{lost}
use Rattle.calculus.specs.Regulators.Trace.{arrivals, sum_to}
use Rattle.calculus.specs.Regulators.Rows.{envelope_of, lost_by}
use Rattle.worst_calculus.specs.WorstTrace.{WithinLimits, MostFirst, LosesMost, worst_trace, worst_loss}
use Rattle.calculus.proofs.Numbers.Course.{strongly}
use Rattle.calculus.proofs.Numbers.Lists.{length-list_of, list_of_at}
use Rattle.calculus.proofs.Regulators.Trace.{arrived-sum}
use Rattle.calculus.proofs.Regulators.Clipper.{arrived-zero, arrived-slot, arrived_rises, clipped-zero, clipped-loss_rises, clipped_attained}
use Rattle.calculus.proofs.Regulators.ClipperBounds.{clipped_within}
use Rattle.calculus.proofs.Regulators.Regulator.{admitted_by-windows}

-- Where no slot of a has more than p arrivals: whatever a has lost by slot t, b loses by some slot w up to t out of what a
-- brought by slot t, at most p in each slot up to w. Any clipper whose bound g depends on the window alone will do.
module _ (g : ℕ → Limit) (a b : ℕ → ℕ) (p n : ℕ) (each : (t : ℕ) → t < n → a (suc t) ≤ p) where
  abbrev G : ℕ → ℕ → Limit
  G s t = g (t - s)

  -- No more than p in each slot arrive.
  arrived-each : (s k : ℕ) → s + k ≤ n → arrived a (s + k) ≤ arrived a s + p * k
  arrived-each s zero fits = let e : s + 0 ≡ s = omega arith in rw e (omega arith)
  arrived-each s (suc k) fits =
      let e : s + suc k ≡ suc (s + k) = omega arith in
      rw e (omega (arith, arrived-each s k (omega arith), arrived-slot a (s + k), each (s + k) (omega arith)))

  abbrev Caught : ℕ → Type 0
  Caught t = t ≤ n → (w : ℕ) × (w ≤ t) × (arrived a t + clipped G b w ≤ min (arrived a t) (p * w) + clipped G a t)

  caught : (t : ℕ) → Caught t
  caught = strongly Caught step
    where
      step : (t : ℕ) → ((k : ℕ) → k < t → Caught k) → Caught t
      step zero ih fits = (0, omega arith, omega (arith, clipped-zero G b, arrived-zero a))
      step (suc t) ih fits =
          elim (clipped_attained G a t) [
            | inl e ↦ let (w, wt, c) = ih t (omega arith) (omega arith) in
                (w, omega arith, omega (arith, arrived-slot a t))
            | inr (s, m, st, l, e) ↦ let (w, ws, c) = ih s (omega arith) (omega arith) in
                let k : ℕ = suc t - s in
                let back : s + k ≡ suc t = omega arith in
                let same : w + k - w ≡ k = omega arith in (
                  w + k,
                  omega arith,
                  omega (
                    arith,
                    clipped_within G b w (w + k) (omega arith) m (ap g same ∙ l),
                    rw back at (arrived-each s k (omega arith)),
                    arrived_rises a s (suc t) (omega arith),
                  ),
                )
          ]

module _ (n p N : ℕ) where
  -- Nothing else is asked of a trace than n slots, at most p in each and at most N in all: it need not use N up.
  pub rules_within : (trace : List ℕ) → length trace ≡ n → ((k : ℕ) → k < n → get_or trace k 0 ≤ p) → sum_to trace n ≤ N → WithinLimits n p N trace
  rules_within trace long each all = record { long = long; each = each; all = all }

  pub within_rules : (trace : List ℕ) → WithinLimits n p N trace → (length trace ≡ n) × ((k : ℕ) → k < n → get_or trace k 0 ≤ p) × (sum_to trace n ≤ N)
  within_rules trace ok = (ok.long, ok.each, ok.all)

  -- What slot k+1 of it has.
  pub worst_at : (k : ℕ) → k < n → get_or (worst_trace n p N) k 0 ≡ min p (N - p * k)
  unfolding worst_trace
  worst_at k kn = list_of_at (λ k. min p (N - p * k)) n k kn

  pub length_worst : length (worst_trace n p N) ≡ n
  unfolding worst_trace
  length_worst = length-list_of _ n

  -- By slot t the worst trace has brought p in each slot, or all of N.
  pub worst-sum : (t : ℕ) → t ≤ n → sum_to (worst_trace n p N) t ≡ min (p * t) N
  unfolding sum_to
  worst-sum zero tn = omega arith
  worst-sum (suc t) tn = omega (arith, worst-sum t (omega arith), worst_at t tn)

  -- The worst trace is within the limits.
  pub worst_within : WithinLimits n p N (worst_trace n p N)
  worst_within = record { long = length_worst; each = λ k kn. omega (arith, worst_at k kn); all = omega (arith, worst-sum n (omega arith)) }

  module _ (trace : List ℕ) (limits : WithinLimits n p N trace) where
    -- No trace within the limits loses more by slot n.
    pub worst_most : (f : ℕ → ℕ) (d q : Limit) → lost (windows f) d q (arrivals trace) n ≤ lost (windows f) d q (arrivals (worst_trace n p N)) n
    unfolding lost arrivals
    worst_most f d q =
        let G : ℕ → ℕ → Limit = λ s t. clipper_window f d q (t - s) in
        let b : ℕ → ℕ = arrivals (worst_trace n p N) in
        let (w, wn, c) = caught (clipper_window f d q) (arrivals trace) b p n limits.each n (omega arith) in
        omega (
          arith,
          (within_rules trace limits).2,
          arrived-sum trace n,
          arrived-sum (worst_trace n p N) w,
          worst-sum w wn,
          clipped-loss_rises G b w n wn,
          admitted_by-windows f d q (arrivals trace) n,
          admitted_by-windows f d q b n,
        )

    sums_same : (k : ℕ) → ((j : ℕ) → j < k → get_or (worst_trace n p N) j 0 ≡ get_or trace j 0) → sum_to (worst_trace n p N) k ≡ sum_to trace k
    unfolding sum_to
    sums_same zero same = refl
    sums_same (suc k) same = ap₂ ◌+◌ (sums_same k (λ j jk. same j (omega arith))) (same k (omega arith))

    -- And none has more in the first slot in which they differ.
    pub worst-first : MostFirst (worst_trace n p N) trace
    unfolding MostFirst sum_to
    worst-first k same =
        elim (dec_le (suc k) n) [
          | yes kn ↦ omega (
            arith,
            limits.each k kn,
            (within_rules trace limits).2,
            arrived_rises (arrivals trace) (suc k) n kn,
            arrived-sum trace (suc k),
            arrived-sum trace n,
            sums_same k same,
            worst-sum k (omega arith),
            worst_at k kn,
          )
          | no kn ↦ omega (arith, limits.long, get_or-eq_default trace 0 {n = k} (omega (arith, limits.long)))
        ]

-- Two traces of which each has no less than the other in the first slot in which they differ do not differ.
first_both : (trace other : List ℕ) → MostFirst trace other → MostFirst other trace → (k : ℕ) → get_or trace k 0 ≡ get_or other k 0
unfolding MostFirst
first_both trace other ours theirs =
    strongly (λ k. get_or trace k 0 ≡ get_or other k 0)
    (λ k ih. le_antisymm (theirs k (λ j p. sym (ih j p))) (ours k ih))

module _ (table : List ℕ) (d q : Limit) (n p N : ℕ) where
  -- It is the trace asked for.
  pub worst-asked : LosesMost table d q n p N (worst_trace n p N)
  unfolding lost_by
  worst-asked =
      record {
        within = worst_within n p N;
        most = λ other limits. worst_most n p N other limits (envelope_of table) d q;
        first = λ other limits same. worst-first n p N other limits;
      }

  -- And no other is.
  pub worst_only : (trace : List ℕ) → LosesMost table d q n p N trace → trace ≡ worst_trace n p N
  worst_only trace asked =
      let ours : LosesMost table d q n p N (worst_trace n p N) = worst-asked in
      let same : lost_by table d q (worst_trace n p N) n ≡ lost_by table d q trace n =
      le_antisymm (asked.most (worst_trace n p N) ours.within) (ours.most trace asked.within) in
      ext_get_or 0 trace (worst_trace n p N) (omega (arith, asked.within.long, ours.within.long))
      (λ k _. first_both trace (worst_trace n p N) (asked.first (worst_trace n p N) ours.within same) (ours.first trace asked.within (sym same)) k)

  -- No trace within the limits loses more than is told, and the loss is no more than N.
  pub worst_told : (trace : List ℕ) → WithinLimits n p N trace → lost_by table d q trace n ≤ worst_loss table d q n p N
  unfolding worst_loss
  worst_told = worst-asked.most

  pub worst_small : worst_loss table d q n p N ≤ N
  unfolding worst_loss lost_by lost
  worst_small = omega (arith, (worst_within n p N).all, arrived-sum (worst_trace n p N) n)

-- Pairs other than ours are permitted, and those of one short trace are known one by one: no rule of a permitted pair asks for more.
use mathlib.Core.Path.{◌≡◌, refl}
use mathlib.Core.List.{[], ◌∷◌}
use Prim.Native.Nat.{ℕ, zero, suc, ◌+◌, ◌≤◌, ◌<◌}
use native.Mathlib.Decide.{dec_le}
use native.Mathlib.Omega.{arith}
use Rattle.calculus.specs.Numbers.Least.{least_of, least}
use Rattle.calculus.specs.Numbers.Course.{course_below, course}
use Rattle.calculus.specs.Numbers.Limit.{Limit, at_most}
use Rattle.calculus.specs.Envelopes.Closure.{closing, closure}
use Rattle.calculus.specs.Envelopes.Envelope.{windows}
use Rattle.calculus.specs.Regulators.Clipper.{arrived}
use Rattle.calculus.specs.Regulators.Trace.{arrivals, sum_to}
use Rattle.calculus.specs.Regulators.Rows.{envelope_of}
use Rattle.calculus.proofs.Regulators.Clipper.{arrived-slot}
use Rattle.calculus.specs.Losses.Permitted.{Permitted}
use Rattle.calculus.specs.Losses.AlsoPermitted.{PermittedOn, OtherPairs, EightPairs}

-- P at each slot below n
abbrev Below : ℕ → (ℕ → Type 0) → Type 0
Below zero P = Unit {0}
Below (suc n) P = Below n P × P n

below : (P : ℕ → Type 0) (n : ℕ) → Below n P → (t : ℕ) → t < n → P t
below P zero all t p = absurd (omega arith)
below P (suc n) all t p =
    elim (dec_le (suc t) n) [
      | yes r ↦ below P n all.0 t r
      | no r ↦ let e : t ≡ n = omega arith in rw e all.1
    ]

through : (P : ℕ → Type 0) (n : ℕ) → Below (suc n) P → (t : ℕ) → t ≤ n → P t
through P n all t p = below P (suc n) all t (omega arith)

through_pairs : (P : ℕ → ℕ → Type 0) (n : ℕ) → Below (suc n) (λ t. Below t (λ s. P s t)) → (s t : ℕ) → s < t → t ≤ n → P s t
through_pairs P n all s t st tn = below (λ s. P s t) t (through (λ t. Below t (λ s. P s t)) n all t tn) s st

due : (P : ℕ → Type 0) (n : ℕ) → Below n P → (t : ℕ) → t + 1 ≤ n → P t
due P n all t p = below P n all t (omega arith)

-- The eight pairs are permitted ..
pub eight_permitted : (u v : ℕ → ℕ) → EightPairs u v → PermittedOn (0 ∷ 2 ∷ 3 ∷ []) (at_most 1) (at_most 3) (5 ∷ 0 ∷ []) u v
unfolding least_of least course_below course closing closure windows arrived arrivals envelope_of PermittedOn
eight_permitted u v eight =
    record {
      admitted_starts = omega arith;
      departed_starts = omega arith;
      admitted_rises = below _ 2 (omega arith);
      departed_rises = below _ 2 (omega arith);
      admits_arrivals = below _ 2 (omega arith);
      departs-admitted = through _ 2 (omega arith);
      envelope = through_pairs _ 2 (omega arith);
      buffer = λ n e. let same : n ≡ 3 = cc in rw same (below _ 2 (omega arith));
      delay = λ n e t p. let same : n ≡ 1 = cc in rw same (below (λ t. u t ≤ v (t + 1)) 2 (omega arith) t (omega arith));
    }

-- .. and no others are.
pub permitted_eight : (u v : ℕ → ℕ) → PermittedOn (0 ∷ 2 ∷ 3 ∷ []) (at_most 1) (at_most 3) (5 ∷ 0 ∷ []) u v → EightPairs u v
unfolding least_of least course_below course closing closure windows arrived arrivals envelope_of PermittedOn
permitted_eight u v permitted =
    let second : u 2 ≡ u 1 = omega (arith, permitted.admitted_rises 1 (omega arith), permitted.admits_arrivals 1 (omega arith)) in
    record {
      starts = omega arith;
      admits_first = omega (arith, permitted.buffer 3 refl 0 (omega arith));
      departs_first = omega (arith, permitted.envelope 0 1 (omega arith) (omega arith));
      waits_first = omega (arith, permitted.departs-admitted 1 (omega arith), permitted.envelope 1 2 (omega arith) (omega arith), permitted.delay 1 refl 1 (omega arith));
      admits_second = second;
      departs_second = omega (arith, second, permitted.departs-admitted 2 (omega arith), permitted.delay 1 refl 1 (omega arith));
    }

-- Two pairs on document 01's row: one admits and departs less than we do, one departs later.
pub other_pairs : OtherPairs
unfolding least_of least course_below course closing closure windows arrived arrivals sum_to envelope_of PermittedOn
other_pairs =
    record {
      admits_less = record {
        admitted_starts = omega arith;
        departed_starts = omega arith;
        admitted_rises = below _ 4 (omega arith);
        departed_rises = below _ 4 (omega arith);
        admits_arrivals = below _ 4 (omega arith);
        departs-admitted = through _ 4 (omega arith);
        envelope = through_pairs _ 4 (omega arith);
        buffer = λ n e. let same : n ≡ 9 = cc in rw same (below _ 4 (omega arith));
        delay = λ n e. let same : n ≡ 1 = cc in rw same (due _ 4 (omega arith));
      };
      departs_later = record {
        admitted_starts = omega arith;
        departed_starts = omega arith;
        admitted_rises = below _ 4 (omega arith);
        departed_rises = below _ 4 (omega arith);
        admits_arrivals = below _ 4 (omega arith);
        departs-admitted = through _ 4 (omega arith);
        envelope = through_pairs _ 4 (omega arith);
        buffer = λ n e. let same : n ≡ 9 = cc in rw same (below _ 4 (omega arith));
        delay = λ n e. let same : n ≡ 1 = cc in rw same (due _ 4 (omega arith));
      };
    }

-- Whatever the envelope, the limits and the trace, the pair that admits nothing is permitted ..
pub nothing_permitted : (F : ℕ → ℕ → ℕ) (d q : Limit) (a : ℕ → ℕ) (T : ℕ) → Permitted F d q a T (λ t. 0) (λ t. 0)
nothing_permitted F d q a T =
    record {
      admitted_starts = refl;
      departed_starts = refl;
      admitted_rises = λ t p. omega arith;
      departed_rises = λ t p. omega arith;
      admits_arrivals = λ t p. omega arith;
      departs-admitted = λ t p. omega arith;
      envelope = λ s t st r. omega arith;
      buffer = λ n e t r. omega arith;
      delay = λ n e t r. omega arith;
    }

-- .. and document 01's rules, without differences, are all that is asked of a pair.
pub rules_permitted : (F : ℕ → ℕ → ℕ) (d q : Limit) (a : ℕ → ℕ) (T : ℕ) (u v : ℕ → ℕ) → (u 0 ≡ 0) × (v 0 ≡ 0)
    → ((t : ℕ) → t < T → (u t ≤ u (suc t)) × (v t ≤ v (suc t)) × (u (suc t) ≤ u t + a (suc t)))
    → ((t : ℕ) → t ≤ T → v t ≤ u t) → ((s t : ℕ) → s < t → t ≤ T → v t ≤ v s + F s t)
    → ((n : ℕ) → q ≡ at_most n → (t : ℕ) → t < T → u (suc t) ≤ v t + n) → ((n : ℕ) → d ≡ at_most n → (t : ℕ) → t + n ≤ T → u t ≤ v (t + n))
    → Permitted F d q a T u v
rules_permitted F d q a T u v starts slot under keeps buffered timely =
    record {
      admitted_starts = starts.0;
      departed_starts = starts.1;
      admitted_rises = λ t p. (slot t p).0;
      departed_rises = λ t p. (slot t p).1;
      admits_arrivals = λ t p. omega (arith, (slot t p).2, arrived-slot a t);
      departs-admitted = under;
      envelope = λ s t st r. omega (arith, keeps s t st r);
      buffer = λ n e t r. omega (arith, buffered n e t r);
      delay = timely;
    }

-- The other way: a permitted pair keeps them.
pub permitted_rules : (F : ℕ → ℕ → ℕ) (d q : Limit) (a : ℕ → ℕ) (T : ℕ) (u v : ℕ → ℕ) → Permitted F d q a T u v
    → ((u 0 ≡ 0) × (v 0 ≡ 0)) × ((t : ℕ) → t < T → (u t ≤ u (suc t)) × (v t ≤ v (suc t)) × (u (suc t) ≤ u t + a (suc t)))
    × ((t : ℕ) → t ≤ T → v t ≤ u t) × ((s t : ℕ) → s < t → t ≤ T → v t ≤ v s + F s t)
    × ((n : ℕ) → q ≡ at_most n → (t : ℕ) → t < T → u (suc t) ≤ v t + n) × ((n : ℕ) → d ≡ at_most n → (t : ℕ) → t + n ≤ T → u t ≤ v (t + n))
permitted_rules F d q a T u v ok = (
  (ok.admitted_starts, ok.departed_starts),
  λ t p. (ok.admitted_rises t p, ok.departed_rises t p, omega (arith, ok.admits_arrivals t p, arrived-slot a t)),
  ok.departs-admitted,
  λ s t st r. omega (arith, ok.envelope s t st r),
  λ n e t r. omega (arith, ok.buffer n e t r),
  ok.delay,
)

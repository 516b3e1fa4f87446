-- Demand 3's premise, read on lists: which traces count as ending in at least d slots without arrivals.
use mathlib.Core.Path.{◌≡◌, refl, sym, ap, ◌∙◌}
use mathlib.Core.List.{List, ◌++◌}
use Prim.Native.Nat.{ℕ, zero, suc, ◌+◌, ◌-◌, ◌≤◌, ◌<◌}
use native.Mathlib.Omega.{arith}
use lib.ListN.{length, get_or, take, drop, replicate, length-append, length-drop, length-replicate, take-append-drop}
use lib.Seq.{get_or-append-add, get_or-drop, ext_get_or}
use Rattle.calculus.proofs.Numbers.Distinct.{zero_one}
use Rattle.calculus.specs.Numbers.Limit.{none, at_most}
use Rattle.calculus.specs.Losses.Permitted.{Quiet}
use Rattle.calculus.specs.Regulators.Trace.{arrivals}

-- n slots without arrivals
abbrev pub silence : ℕ → List ℕ
silence n = replicate n 0

length-silence : (n : ℕ) → length (silence n) ≡ n
length-silence n = length-replicate n 0

-- No slot of them has arrivals, and none beyond them.
silence_at : (n k : ℕ) → get_or (silence n) k 0 ≡ 0
silence_at zero k = refl
silence_at (suc n) zero = refl
silence_at (suc n) (suc k) = silence_at n k

-- No slot after the front has arrivals.
arrivals-after : (front : List ℕ) (n t : ℕ) → length front < t → arrivals (front ++ silence n) t ≡ 0
unfolding arrivals
arrivals-after front n zero p = absurd (omega arith)
arrivals-after front n (suc t) p =
    let e : length front + (t - length front) ≡ t = omega arith in
    rw e at (get_or-append-add front (silence n) (t - length front) 0) ∙ silence_at n (t - length front)

-- Any slots at all, followed by d or more without arrivals, are a trace that is quiet for the delay limit d.
pub quiet-after : (front : List ℕ) (d n : ℕ) → d ≤ n → Quiet (at_most d) (arrivals (front ++ silence n)) (length (front ++ silence n))
unfolding Quiet
quiet-after front d n p m e =
    let same : d ≡ m = cc in
    let long : length (front ++ silence n) ≡ length front + n = length-append front _ ∙ ap (λ (k : ℕ). length front + k) (length-silence n) in
    (omega arith, λ t after within. arrivals-after front n t (omega arith))

-- Every trace is quiet where the delay limit is none ..
pub quiet_none : (a : ℕ → ℕ) (T : ℕ) → Quiet none a T
unfolding Quiet
quiet_none a T n e = absurd (zero_one cc)

-- .. and where it is 0.
pub quiet-zero : (a : ℕ → ℕ) (T : ℕ) → Quiet (at_most 0) a T
unfolding Quiet
quiet-zero a T n e =
    let same : 0 ≡ n = cc in
    (omega arith, λ t after within. absurd (omega arith))

-- A quiet trace is some slots, followed by d without arrivals.
pub quiet_ends : (trace : List ℕ) (d : ℕ) → Quiet (at_most d) (arrivals trace) (length trace) → (front : List ℕ) × (trace ≡ front ++ silence d)
unfolding Quiet arrivals
quiet_ends trace d quiet =
    let (fits, silent) = quiet d refl in
    let n : ℕ = length trace - d in
    let long : length (drop n trace) ≡ length (silence d) = omega (arith, length-drop n trace, length-silence d) in
    let silent-end : drop n trace ≡ silence d =
    ext_get_or 0 _ _ long (λ i p. get_or-drop n trace i 0 ∙ silent (suc (n + i)) (omega arith) (omega (arith, length-drop n trace)) ∙ sym (silence_at d i)) in
    (take n trace, sym (take-append-drop n trace) ∙ ap (λ (l : List ℕ). take n trace ++ l) silent-end)

-- Laws of the list of all short traces: each is a trace of T slots with 0 to 3 arrivals, they stand in the dictionary's order,
-- so each once, and none is missing.
use mathlib.Core.Path.{◌≡◌, refl, sym, ap, ◌∙◌, subst}
use mathlib.Core.List.{List, [], ◌∷◌, ◌++◌, append-nil}
use Prim.Native.Nat.{ℕ, zero, suc, ◌+◌, ◌*◌, ◌/◌, ◌%◌, ◌^◌, ◌≤◌, ◌<◌}
use native.Mathlib.Nat.{mul_comm, mul-le-mul_right, mod-lt, div-add-mod'}
use native.Mathlib.Decide.{dec_le}
use native.Mathlib.Omega.{arith}
use lib.ListN.{length, get_or, length-append, get_or-append}
use lib.Seq.{append_snoc, get_or-append-add, get_or_at, ext_get_or}
use Rattle.calculus.specs.Numbers.Lists.{list_of}
use Rattle.pencil_calculus.specs.Traces.{Short, none, more, Before, fewer, equal, listed_trace, EveryTrace, trace_at, traces_to, all_traces}
use Rattle.pencil_calculus.proofs.ShortTraces.{trace_at_long, trace_at_short}
use Rattle.calculus.proofs.Numbers.Lists.{length-list_of, list_of_at}
use Rattle.calculus.proofs.Numbers.Rising.{rising_own}

-- What comes before stays before, whatever follows.
before_longer : {xs ys : List ℕ} → Before xs ys → (us vs : List ℕ) → Before (xs ++ us) (ys ++ vs)
before_longer (fewer p) us vs = fewer p
before_longer (equal r) us vs = equal (before_longer r us vs)

before_end : (xs : List ℕ) (x y : ℕ) → x < y → Before (xs ++ (x ∷ [])) (xs ++ (y ∷ []))
before_end [] x y p = fewer p
before_end (z ∷ xs) x y p = equal (before_end xs x y p)

-- They stand in the dictionary's order.
pub trace_at-before : (T k m : ℕ) → k < m → m < 4 ^ T → Before (trace_at T k) (trace_at T m)
unfolding trace_at
trace_at-before zero k m p q = absurd (omega arith)
trace_at-before (suc T) k m p q =
    elim (dec_le (m / 4) (k / 4)) [
      | yes r ↦ let e : k / 4 ≡ m / 4 = omega arith in
          rw e (before_end (trace_at T (m / 4)) (k % 4) (m % 4) (omega arith))
      | no r ↦ before_longer (trace_at-before T (k / 4) (m / 4) (omega arith) (omega arith)) (k % 4 ∷ []) (m % 4 ∷ [])
    ]

-- No trace comes before itself, so each is listed once.
pub before_differs : {xs ys : List ℕ} → Before xs ys → xs ≡ ys → ⊥
before_differs (fewer {x = x} {y = y} p) e = let z : x ≡ y = cc in omega arith
before_differs (equal {xs = xs} {ys = ys} r) e = before_differs r (cc)

trace_at_next : (T n x : ℕ) → x ≤ 3 → trace_at (suc T) (4 * n + x) ≡ trace_at T n ++ (x ∷ [])
unfolding trace_at
trace_at_next T n x p =
    let before : (4 * n + x) / 4 ≡ n = omega arith in
    let last : (4 * n + x) % 4 ≡ x = omega arith in
    rw (before, last) refl

-- the number of a trace, n being that of the slots before it
number : ℕ → List ℕ → ℕ
number n [] = n
number n (x ∷ xs) = number (4 * n + x) xs

number_traced : {xs : List ℕ} → Short xs → (T n : ℕ) → trace_at (length xs + T) (number n xs) ≡ trace_at T n ++ xs
unfolding number
number_traced none T n = let e : 0 + T ≡ T = omega arith in rw e (sym (append-nil (trace_at T n)))
number_traced (more {x = x} {xs = xs} p rest) T n =
    let e : suc (length xs) + T ≡ length xs + suc T = omega arith in
    rw e (number_traced rest (suc T) (4 * n + x) ∙ ap (λ (l : List ℕ). l ++ xs) (trace_at_next T n x p) ∙ append_snoc (trace_at T n) x xs)

number_below : {xs : List ℕ} → Short xs → (n : ℕ) → number n xs < suc n * 4 ^ length xs
unfolding number
number_below none n = omega arith
number_below (more {x = x} {xs = xs} p rest) n =
    let e : 4 ^ suc (length xs) ≡ 4 * 4 ^ length xs = omega arith in
    rw e (omega (arith, number_below rest (4 * n + x), mul-le-mul_right (4 ^ length xs) p))

-- None is missing: a trace stands at its number.
module _ (T : ℕ) (xs : List ℕ) (long : length xs ≡ T) (short : Short xs) where
  number_inside : number 0 xs < 4 ^ T
  number_inside = omega (arith, number_below short 0, ap (λ (n : ℕ). 4 ^ n) long)

  trace_at-number : trace_at T (number 0 xs) ≡ xs
  trace_at-number =
      let e : length xs + 0 ≡ T = omega arith in
      ap (λ (n : ℕ). trace_at n (number 0 xs)) (sym e) ∙ (unfold trace_at in number_traced short 0 0)

  pub trace_at_all : (k : ℕ) × (k < 4 ^ T) × (trace_at T k ≡ xs)
  trace_at_all = (number 0 xs, number_inside, trace_at-number)

-- Numbers rise with the dictionary's order.
number_above : (xs : List ℕ) (n : ℕ) → n * 4 ^ length xs ≤ number n xs
unfolding number
number_above [] n = omega arith
number_above (x ∷ xs) n =
    let e : 4 ^ suc (length xs) ≡ 4 * 4 ^ length xs = omega arith in
    rw e (omega (arith, number_above xs (4 * n + x)))

number_rises : {xs ys : List ℕ} → Before xs ys → Short xs → length xs ≡ length ys → (n : ℕ) → number n xs < number n ys
unfolding number
number_rises (fewer {x = x} {y = y} {xs = xs} {ys = ys} p) (more _ rest) e n =
    let long : length xs ≡ length ys = omega (arith, e) in
    let most : suc (4 * n + x) * 4 ^ length xs ≤ (4 * n + y) * 4 ^ length xs = mul-le-mul_right (4 ^ length xs) (omega arith) in
    omega (arith, number_below rest (4 * n + x), most, ap (λ (l : ℕ). (4 * n + y) * 4 ^ l) long, number_above ys (4 * n + y))
number_rises (equal {x = x} r) (more _ rest) e n = number_rises r rest (omega (arith, e)) (4 * n + x)

-- The list's places: slot j+1 of trace k is at place k·T + j.
pub length-traces_to : (T n : ℕ) → length (traces_to T n) ≡ n * T
unfolding traces_to
length-traces_to T zero = omega arith
length-traces_to T (suc n) = omega (arith, length-append (traces_to T n) (trace_at T n), length-traces_to T n, trace_at_long T n)

pub traces_to_at : (T n k j : ℕ) → k < n → j < T → get_or (traces_to T n) (k * T + j) 0 ≡ get_or (trace_at T k) j 0
unfolding traces_to
traces_to_at T zero k j p q = absurd (omega arith)
traces_to_at T (suc n) k j p q =
    elim (dec_le (suc k) n) [
      | yes r ↦ get_or-append (traces_to T n) (trace_at T n) 0 (k * T + j) (omega (arith, length-traces_to T n, mul-le-mul_right T r)) ∙ traces_to_at T n k j r q
      | no r ↦ let e : k ≡ n = omega arith in
          let here : k * T + j ≡ length (traces_to T n) + j = omega (arith, length-traces_to T n, ap (λ (m : ℕ). m * T) e) in
          rw (here, e) (get_or-append-add (traces_to T n) (trace_at T n) j 0)
    ]

-- Trace k of the list is trace k.
pub listed_at : (T n k : ℕ) → k < n → listed_trace T (traces_to T n) k ≡ trace_at T k
unfolding listed_trace
listed_at T n k p =
    let long : length (list_of (λ j. get_or (traces_to T n) (k * T + j) 0) T) ≡ T = length-list_of _ T in
    ext_get_or 0 _ (trace_at T k) (omega (arith, trace_at_long T k))
    (λ j q. list_of_at (λ j. get_or (traces_to T n) (k * T + j) 0) T j (omega arith) ∙ traces_to_at T n k j p (omega arith))

-- So the list is the one asked for.
module _ (T : ℕ) where
  abbrev n : ℕ
  n = 4 ^ T

  once : (k m : ℕ) → k < n → m < n → trace_at T k ≡ trace_at T m → k ≡ m
  once k m p q e =
      elim (dec_le m k) [
        | yes r ↦ elim (dec_le k m) [
          | yes s ↦ omega arith
          | no s ↦ absurd (before_differs (trace_at-before T m k (omega arith) p) (sym e))
        ]
        | no r ↦ absurd (before_differs (trace_at-before T k m (omega arith) q) e)
      ]

  pub every-trace : EveryTrace T (all_traces T)
  unfolding all_traces
  every-trace =
      record {
        long = length-traces_to T n ∙ mul_comm n T;
        short = λ k p. subst Short (sym (listed_at T n k p)) (trace_at_short T k);
        every = λ trace long short. let (k, p, e) = trace_at_all T trace long short in (k, p, listed_at T n k p ∙ e);
        once = λ k m p q e. once k m p q (sym (listed_at T n k p) ∙ e ∙ listed_at T n m q);
        ordered = λ k m p q.
            subst (λ (xs : List ℕ). Before xs (listed_trace T (traces_to T n) m)) (sym (listed_at T n k (omega arith)))
            (subst (Before (trace_at T k)) (sym (listed_at T n m q)) (trace_at-before T k m p q));
      }

-- For code that works the counts one by one: the last slot has k % 4, the slots before it are those of trace k / 4.
pub trace_at-last : (T k : ℕ) → get_or (trace_at (suc T) k) T 0 ≡ k % 4
unfolding trace_at
trace_at-last T k = get_or_at (trace_at T (k / 4)) (k % 4) [] 0 T (trace_at_long T (k / 4))

pub trace_at_earlier : (T k j : ℕ) → j < T → get_or (trace_at (suc T) k) j 0 ≡ get_or (trace_at T (k / 4)) j 0
unfolding trace_at
trace_at_earlier T k j p = get_or-append (trace_at T (k / 4)) (k % 4 ∷ []) 0 j (omega (arith, trace_at_long T (k / 4)))

-- The list's places, all of them.
pub length-all_traces : (T : ℕ) → length (all_traces T) ≡ T * 4 ^ T
unfolding all_traces
length-all_traces T = length-traces_to T (4 ^ T) ∙ mul_comm (4 ^ T) T

pub all_traces_at : (T k j : ℕ) → j < T → k * T + j < T * 4 ^ T → get_or (all_traces T) (k * T + j) 0 ≡ get_or (trace_at T k) j 0
unfolding all_traces
all_traces_at T k j p q =
    elim (dec_le (4 ^ T) k) [
      | yes r ↦ absurd (omega (arith, mul-le-mul_right T r, mul_comm (4 ^ T) T))
      | no r ↦ traces_to_at T (4 ^ T) k j (omega arith) p
    ]

-- And no other list is: the words leave no freedom.
module _ (T : ℕ) (list : List ℕ) (asked : EveryTrace T list) where
  listed_long : (k : ℕ) → length (listed_trace T list k) ≡ T
  unfolding listed_trace
  listed_long k = length-list_of _ T

  listed_own : (k : ℕ) → k < 4 ^ T → listed_trace T list k ≡ trace_at T k
  listed_own k p =
      let same : number 0 (listed_trace T list k) ≡ k =
      rising_own (4 ^ T) (λ k. number 0 (listed_trace T list k))
      (λ k m km mn. number_rises (asked.ordered k m km mn) (asked.short k (omega arith)) (listed_long k ∙ sym (listed_long m)) 0)
      (λ k kn. number_inside T (listed_trace T list k) (listed_long k) (asked.short k kn)) k p in
      sym (trace_at-number T (listed_trace T list k) (listed_long k) (asked.short k p)) ∙ ap (trace_at T) same

  listed_place : (k j : ℕ) → k < 4 ^ T → j < T → get_or list (k * T + j) 0 ≡ get_or (all_traces T) (k * T + j) 0
  unfolding listed_trace all_traces
  listed_place k j p q =
      sym (list_of_at (λ j. get_or list (k * T + j) 0) T j q) ∙ ap (λ (l : List ℕ). get_or l j 0) (listed_own k p) ∙ sym (traces_to_at T (4 ^ T) k j p q)

  listed_at_place : (p : ℕ) → p < T * 4 ^ T → get_or list p 0 ≡ get_or (all_traces T) p 0
  listed_at_place p inside =
      elim (dec_le T 0) [
        | yes q ↦ absurd (let none : T ≡ 0 = omega arith in omega (arith, ap (λ (m : ℕ). m * 4 ^ T) none))
        | no q ↦ let split : p / T * T + p % T ≡ p = div-add-mod' p T in
            let before : p / T < 4 ^ T = fewer_traces in
            ap (λ (m : ℕ). get_or list m 0) (sym split) ∙ listed_place (p / T) (p % T) before (mod-lt p (omega arith)) ∙ ap (λ (m : ℕ). get_or (all_traces T) m 0) split
      ]
    where
      fewer_traces : p / T < 4 ^ T
      fewer_traces =
          elim (dec_le (4 ^ T) (p / T)) [
            | yes r ↦ absurd (omega (arith, mul-le-mul_right T r, mul_comm (4 ^ T) T, div-add-mod' p T))
            | no r ↦ omega arith
          ]

  pub every-trace_only : list ≡ all_traces T
  every-trace_only = ext_get_or 0 list (all_traces T) (asked.long ∙ sym (length-all_traces T)) (λ p q. listed_at_place p (omega (arith, asked.long)))

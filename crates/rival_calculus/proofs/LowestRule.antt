-- The rule named of a slot is the lowest that is broken there.
use mathlib.Core.Path.{◌≡◌, refl}
use mathlib.Core.Bool.{Bool, true, false, ◌&&◌}
use mathlib.Core.List.{List}
use Prim.Native.Nat.{ℕ, suc, ◌+◌, ◌-◌, ◌≤◌, ◌<◌}
use native.Mathlib.Decide.{dec_le}
use native.Mathlib.Omega.{arith}
use lib.Dec.{leb}
use borrow.Author.Tests.{ltb-true, ltb-false, leb-true, lt-ltb, le-leb}
use Rattle.calculus.proofs.Numbers.Distinct.{zero_one}
use Rattle.calculus.specs.Numbers.Limit.{Limit, none, at_most}
use Rattle.orders.specs.Refusal.{◌when◌, ◌or_else◌}
use Rattle.rival_calculus.specs.Broken.{is_over_arrivals, is_over_admitted, over_window, broken_window, is_over_envelope, is_over_buffer, is_over_delay, rule_at}
use Rattle.rival_calculus.specs.Breaks.{BreaksWindow, Breaks, over_arrivals, over_admitted, over_envelope, over_buffer, over_delay}
use Rattle.rival_calculus.proofs.FirstUpTo.{first_none, first_some}

-- The first number whose test holds has P, where each whose test holds has P.
when-holds : (P : ℕ → Type 0) (n : ℕ) (b : Bool) → (b ≡ true → P (suc n)) → (suc n when b ≡ 0 → ⊥) → P (suc n when b)
unfolding ◌when◌
when-holds P n true has some = has refl
when-holds P n false has some = absurd (some refl)

or_else-holds : (P : ℕ → Type 0) (n : ℕ) (b : Bool) (rest : ℕ) → (b ≡ true → P (suc n)) → ((rest ≡ 0 → ⊥) → P rest)
    → (suc n when b or_else rest ≡ 0 → ⊥) → P (suc n when b or_else rest)
unfolding ◌when◌ ◌or_else◌
or_else-holds P n true rest has later some = has refl
or_else-holds P n false rest has later some = later some

-- n is a number, and at most k
abbrev UpTo : ℕ → ℕ → Type 0
UpTo k n = (1 ≤ n) × (n ≤ k)

-- Where a number's test holds, some number is given, at most that one.
when_here : (n : ℕ) (b : Bool) → b ≡ true → UpTo (suc n) (suc n when b)
unfolding ◌when◌
when_here n b e = rw e (omega arith)

or_else_here : (n : ℕ) (b : Bool) (rest : ℕ) → b ≡ true → UpTo (suc n) (suc n when b or_else rest)
unfolding ◌when◌ ◌or_else◌
or_else_here n b rest e = rw e (omega arith)

or_else_later : (n : ℕ) (b : Bool) (rest k : ℕ) → suc n ≤ k → UpTo k rest → UpTo k (suc n when b or_else rest)
unfolding ◌when◌ ◌or_else◌
or_else_later n true rest k p later = omega arith
or_else_later n false rest k p later = later

-- The window named is the smallest that is broken.
module _ (table : List ℕ) (v : ℕ → ℕ) (t : ℕ) where
  pub window_broken : (broken_window table v t ≡ 0 → ⊥) → BreaksWindow table v t (broken_window table v t)
  unfolding broken_window over_window
  window_broken some =
      let (low, high, there, before) = first_some (over_window table v t) _ some in
      record { from = low; to = omega arith; back = omega arith; over = omega (arith, ltb-true) }

  pub window-smallest : (k : ℕ) → k < broken_window table v t → BreaksWindow table v t k → ⊥
  unfolding broken_window over_window
  window-smallest k p broken =
      let some : broken_window table v t ≡ 0 → ⊥ = λ z. omega arith in
      let (low, high, there, before) = first_some (over_window table v t) _ some in
      let kept = before k broken.from p in
      omega (arith, broken.over, ltb-false)

  pub window-kept : broken_window table v t ≡ 0 → (k : ℕ) → BreaksWindow table v t k → ⊥
  unfolding broken_window over_window
  window-kept whole k broken =
      let kept = first_none (over_window table v t) _ whole k broken.from (omega (arith, broken.to, broken.back)) in
      omega (arith, broken.over, ltb-false)

  envelope_broken : is_over_envelope table v t ≡ true → BreaksWindow table v t (broken_window table v t)
  unfolding is_over_envelope
  envelope_broken e = window_broken (λ z. omega (arith, ltb-true))

  broken_envelope : (k : ℕ) → BreaksWindow table v t k → is_over_envelope table v t ≡ true
  unfolding is_over_envelope
  broken_envelope k broken =
      elim (dec_le (broken_window table v t) 0) [
        | yes p ↦ absurd (window-kept (omega arith) k broken)
        | no p ↦ omega (arith, lt-ltb)
      ]

-- Each test holds exactly where its rule is broken.
module _ (a u v : ℕ → ℕ) (t : ℕ) where
  arrivals_broken : is_over_arrivals a u t ≡ true → u (t - 1) + a t < u t
  unfolding is_over_arrivals
  arrivals_broken e = omega (arith, ltb-true)

  broken-arrivals : u (t - 1) + a t < u t → is_over_arrivals a u t ≡ true
  unfolding is_over_arrivals
  broken-arrivals p = omega (arith, lt-ltb)

  admitted_broken : is_over_admitted u v t ≡ true → u t < v t
  unfolding is_over_admitted
  admitted_broken e = omega (arith, ltb-true)

  broken-admitted : u t < v t → is_over_admitted u v t ≡ true
  unfolding is_over_admitted
  broken-admitted p = omega (arith, lt-ltb)

  buffer_broken : (q : Limit) → is_over_buffer q u v t ≡ true → (n : ℕ) × (q ≡ at_most n) × (v (t - 1) + n < u t)
  unfolding is_over_buffer
  buffer_broken none e = absurd (zero_one cc)
  buffer_broken (at_most n) e = (n, refl, omega (arith, ltb-true))

  broken-buffer : (q : Limit) (n : ℕ) → q ≡ at_most n → v (t - 1) + n < u t → is_over_buffer q u v t ≡ true
  unfolding is_over_buffer
  broken-buffer q n e p = rw e (omega (arith, lt-ltb))

  both : (b c : Bool) → b && c ≡ true → (b ≡ true) × (c ≡ true)
  both true c e = (refl, e)
  both false c e = absurd (zero_one cc)

  delay_broken : (d : Limit) → is_over_delay d u v t ≡ true → (n : ℕ) × (d ≡ at_most n) × (n ≤ t) × (v t < u (t - n))
  unfolding is_over_delay
  delay_broken none e = absurd (zero_one cc)
  delay_broken (at_most n) e =
      let (due, late) = both (leb n t) _ e in
      (n, refl, omega (arith, leb-true), omega (arith, ltb-true))

  broken-delay : (d : Limit) (n : ℕ) → d ≡ at_most n → n ≤ t → v t < u (t - n) → is_over_delay d u v t ≡ true
  unfolding is_over_delay
  broken-delay d n e p late = rw (e, le-leb n t p) (omega (arith, lt-ltb))

module _ (table : List ℕ) (d q : Limit) (a u v : ℕ → ℕ) (t : ℕ) where
  abbrev P : ℕ → Type 0
  P = Breaks table d q a u v t

  abbrev rule : ℕ
  rule = rule_at table d q a u v t

  -- The rule named is broken ..
  pub rule_broken : (rule ≡ 0 → ⊥) → P rule
  unfolding rule_at
  rule_broken =
      or_else-holds P 0 _ _ (λ e. over_arrivals (arrivals_broken a u v t e))
      (or_else-holds P 1 _ _ (λ e. over_admitted (admitted_broken a u v t e))
      (or_else-holds P 2 _ _ (λ e. over_envelope _ (envelope_broken table v t e))
      (or_else-holds P 3 _ _ (λ e. let (n, l, p) = buffer_broken a u v t q e in over_buffer n l p)
      (when-holds P 4 _ (λ e. let (n, l, p, s) = delay_broken a u v t d e in over_delay n l p s)))))

  -- .. and no lower one is.
  pub rule-lowest : (r : ℕ) → P r → UpTo r rule
  unfolding rule_at
  rule-lowest r (over_arrivals p) = or_else_here 0 _ _ (broken-arrivals a u v t p)
  rule-lowest r (over_admitted p) = or_else_later 0 _ _ 2 (omega arith) (or_else_here 1 _ _ (broken-admitted a u v t p))
  rule-lowest r (over_envelope k p) =
      or_else_later 0 _ _ 3 (omega arith) (or_else_later 1 _ _ 3 (omega arith) (or_else_here 2 _ _ (broken_envelope table v t k p)))
  rule-lowest r (over_buffer n e p) =
      or_else_later 0 _ _ 4 (omega arith)
      (or_else_later 1 _ _ 4 (omega arith) (or_else_later 2 _ _ 4 (omega arith) (or_else_here 3 _ _ (broken-buffer a u v t q n e p))))
  rule-lowest r (over_delay n e p late) =
      or_else_later 0 _ _ 5 (omega arith)
      (or_else_later 1 _ _ 5 (omega arith)
      (or_else_later 2 _ _ 5 (omega arith)
      (or_else_later 3 _ _ 5 (omega arith) (when_here 4 _ (broken-delay a u v t d n e p late)))))

  -- Rule 3 has a window.
  broken-window : (r : ℕ) → P r → r ≡ 3 → (k : ℕ) × BreaksWindow table v t k
  broken-window r (over_arrivals p) e = absurd (omega arith)
  broken-window r (over_admitted p) e = absurd (omega arith)
  broken-window r (over_envelope k p) e = (k, p)
  broken-window r (over_buffer n l p) e = absurd (omega arith)
  broken-window r (over_delay n l p s) e = absurd (omega arith)

  pub rule-window : rule ≡ 3 → BreaksWindow table v t (broken_window table v t)
  rule-window e =
      let (k, over) = broken-window rule (rule_broken (λ z. omega arith)) e in
      window_broken table v t (λ z. window-kept table v t z k over)

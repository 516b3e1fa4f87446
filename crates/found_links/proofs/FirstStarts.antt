-- The earliest links of marks 2 and 3 to a slot, read off the rows of a permitted pair.
use mathlib.Core.Path.{◌≡◌}
use mathlib.Core.List.{List}
use Prim.Native.Nat.{ℕ, zero, suc, ◌+◌, ◌-◌, ◌≤◌, ◌<◌, min}
use native.Mathlib.Omega.{arith}
use lib.ListN.{get_or}
use Rattle.calculus.specs.Numbers.Limit.{Limit, delay_limit, buffer_limit}
use Rattle.found_links.proofs.AdmittedStarts.{delay-start, delay_none, buffer-start, buffer_none}
use Rattle.found_links.specs.FoundRows.{FoundRows, Earliest}
use Rattle.found_links.proofs.LimitNumbers.{delay_some, buffer_some, some-delay, some-buffer}

module _ (f a u v : ℕ → ℕ) (T : ℕ) (admitted lost departed starts : List ℕ) (t : ℕ) (inside : t ≤ T) where
  module _ (delay : ℕ) (q : Limit) (rows : FoundRows f (delay_limit delay) q a T u v admitted lost departed starts) where
    abbrev D : Limit
    D = delay_limit delay

    -- No limit, a deadline beyond the trace, or more departed by it than U(t): no delay link.
    pub delay_unlimited : delay ≡ 255 → Earliest f D q a T u 2 t t
    delay_unlimited e = delay_none f D q a T u v rows.permitted t (λ n limit. absurd ((delay_some delay n limit).1 e))

    pub delay_beyond : T < t + delay → Earliest f D q a T u 2 t t
    delay_beyond beyond = delay_none f D q a T u v rows.permitted t (λ n limit due same. omega (arith, (delay_some delay n limit).0))

    pub delay_other : t + delay ≤ T → (get_or departed (t + delay) 0 ≡ get_or admitted t 0 → ⊥) → Earliest f D q a T u 2 t t
    delay_other due other =
        delay_none f D q a T u v rows.permitted t
        (λ n limit _ same.
        let there : v (t + delay) ≡ u t = rw (delay_some delay n limit).0 at same in
        other (omega (arith, rows.departs (t + delay) due, rows.admits t inside)))

    -- Else the departed link to the deadline, where that starts before slot t.
    pub delay_here : (delay ≡ 255 → ⊥) → t + delay ≤ T → get_or departed (t + delay) 0 ≡ get_or admitted t 0 → Earliest f D q a T u 2 t (min (get_or starts (t + delay) 0) t)
    delay_here some due same =
        delay-start f D q a T u v rows.permitted t delay _ (some-delay delay some) due (omega (arith, rows.departs (t + delay) due, rows.admits t inside)) (rows.first (t + delay) due)

module _ (f a u v : ℕ → ℕ) (T : ℕ) (admitted lost departed starts : List ℕ) (buffer : ℕ) (d : Limit)
    (rows : FoundRows f d (buffer_limit buffer) a T u v admitted lost departed starts) where
  abbrev Q : Limit
  Q = buffer_limit buffer

  -- No limit, or a buffer that is not full: no buffer link.
  pub buffer_unlimited : (t : ℕ) → 1 ≤ t → t ≤ T → buffer ≡ 4294967295 → Earliest f d Q a T u 3 t t
  buffer_unlimited zero p inside e = absurd (omega arith)
  buffer_unlimited (suc t) p inside e = buffer_none f d Q a T u v rows.permitted t inside (λ n limit. absurd ((buffer_some buffer n limit).1 e))

  pub buffer_other : (t : ℕ) → 1 ≤ t → t ≤ T → (get_or departed (t - 1) 0 + buffer ≡ get_or admitted t 0 → ⊥) → Earliest f d Q a T u 3 t t
  buffer_other zero p inside other = absurd (omega arith)
  buffer_other (suc t) p inside other =
      let back : suc t - 1 ≡ t = omega arith in
      buffer_none f d Q a T u v rows.permitted t inside
      (λ n limit same. rw back at other (omega (arith, rows.departs t (omega arith), rows.admits (suc t) inside, (buffer_some buffer n limit).0)))

  -- Else the departed link to the slot before.
  pub buffer_here : (t : ℕ) → 1 ≤ t → t ≤ T → (buffer ≡ 4294967295 → ⊥) → get_or departed (t - 1) 0 + buffer ≡ get_or admitted t 0 → Earliest f d Q a T u 3 t (get_or starts (t - 1) 0)
  buffer_here zero p inside some same = absurd (omega arith)
  buffer_here (suc t) p inside some same =
      let back : suc t - 1 ≡ t = omega arith in
      let full = rw back at same in
      rw back
      (buffer-start f d Q a T u v rows.permitted t buffer _ inside (some-buffer buffer some) (omega (arith, rows.departs t (omega arith), rows.admits (suc t) inside)) (rows.first t (omega arith)))

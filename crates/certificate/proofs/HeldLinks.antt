-- Links that are tested on the rows of a claim hold as the certificate's tests say.
use mathlib.Core.Path.{◌≡◌, refl, sym, ap, ◌∙◌}
use mathlib.Core.Bool.{Bool, false, ◌&&◌, and-false}
use mathlib.Core.List.{List}
use Prim.Native.Nat.{ℕ, ◌+◌, ◌-◌, ◌≤◌, ◌<◌}
use native.Mathlib.Decide.{ℕ_discrete}
use native.Mathlib.Omega.{arith}
use lib.Dec.{eqb, ltb}
use lib.ListN.{get_or}
use borrow.Author.Tests.{lt-ltb, le-ltb, le-leb, lt-leb, ne_eqb}
use Rattle.calculus.specs.Numbers.Limit.{Limit, none, at_most, map_limit, limit_unless, delay_limit, buffer_limit}
use Rattle.calculus.specs.Regulators.Clipper.{delay_bound}
use Rattle.calculus.specs.Regulators.Trace.{arrivals}
use Rattle.calculus.specs.Regulators.Rows.{envelope_of}
use Rattle.chain_calculus.specs.Chain.{is_number, amount, link_sound}
use Rattle.certificate_calculus.specs.LinkTests.{due_delay, admitted_holds, departed_holds}
use Rattle.chain.specs.Links.{at_window, row_sound}
use Rattle.chain.proofs.Amounts.{same_tests, sound_in}
use Rattle.certificate.specs.CheckRows.{CheckRows}
use Rattle.found_links.proofs.LimitNumbers.{delay_some}

-- The delay limit that binds a slot is d where no deadline lies beyond the trace, and none where each does.
due_same : (d : Limit) (N t : ℕ) → ((n : ℕ) → d ≡ at_most n → t + n ≤ N) → due_delay d N t ≡ d
unfolding due_delay limit_unless
due_same none N t within = refl
due_same (at_most n) N t within = rw (le-ltb N (t + n) (within n refl)) refl

due_none : (d : Limit) (N t : ℕ) → ((n : ℕ) → d ≡ at_most n → N < t + n) → due_delay d N t ≡ none
unfolding due_delay limit_unless
due_none none N t beyond = refl
due_none (at_most n) N t beyond = rw (lt-ltb N (t + n) (beyond n refl)) refl

-- An amount is what makes the total after out of the total before exactly where it is what the total grows by.
number_grown : (l : Limit) (before after : ℕ) → before ≤ after → is_number (map_limit (λ n. before + n) l) after ≡ is_number l (after - before)
unfolding is_number map_limit
number_grown none before after p = refl
number_grown (at_most n) before after p = same_tests (before + n) after n (after - before) (λ e. omega arith) (λ e. omega arith)

-- Only mark 2 looks at the delay limit.
amount_due : (f : ℕ → ℕ) (d q : Limit) (a : ℕ → ℕ) (T mark s t : ℕ) → (mark ≡ 2 → (n : ℕ) → d ≡ at_most n → t + n ≤ T)
    → amount f (due_delay d T t) q a mark s t ≡ amount f d q a mark s t
unfolding amount
amount_due f d q a T mark s t due =
    elim (ℕ_discrete mark 2) [
      | yes e ↦ ap (λ (l : Limit). amount f l q a mark s t) (due_same d T t (due e))
      | no e ↦ rw (ne_eqb mark 2 e) refl
    ]

module _ (table : List ℕ) (d q : ℕ) (trace : List ℕ) (T : ℕ) (u : ℕ → ℕ) (t s mark : ℕ) where
  abbrev holds : Bool
  holds = admitted_holds (envelope_of table) (delay_limit d) (buffer_limit q) (arrivals trace) T u t s mark

  -- A link that does not start before its slot does not hold, nor does one of mark 2 whose deadline lies beyond the trace ..
  pub held-late : t ≤ s → false ≡ holds
  unfolding admitted_holds
  held-late p = rw (le-ltb s t p) refl

  pub held_beyond : mark ≡ 2 → T < t + d → false ≡ holds
  unfolding admitted_holds amount delay_bound map_limit is_number
  held_beyond e beyond =
      let nothing = due_none (delay_limit d) T t (λ n limit. omega (arith, (delay_some d n limit).0)) in
      rw (e, nothing) (sym (and-false (ltb s t)))

  -- .. and any other does where its amount is what the total grows by.
  pub held_sound : (v : ℕ → ℕ) (windows arrived admitted departed : List ℕ) → CheckRows table d q trace T u v windows arrived admitted departed → s < t → t ≤ T
      → (mark ≡ 2 → t + d ≤ T) → row_sound windows arrived d q s t mark (get_or admitted t 0 - get_or admitted s 0) ≡ holds
  unfolding admitted_holds link_sound
  held_sound v windows arrived admitted departed rows up within due =
      rw (rows.admits t within, rows.admits s (omega arith))
      (sound_in table d q trace T windows arrived rows.checkable s t within mark (u t - u s)
      ∙ ap (λ (b : Bool). ltb s t && b)
      (sym (number_grown (amount (envelope_of table) (due_delay (delay_limit d) T t) (buffer_limit q) (arrivals trace) mark s t) (u s) (u t) (rows.rises s t (omega arith) within)
      ∙ ap (λ (l : Limit). is_number l (u t - u s)) (amount_due _ (delay_limit d) _ _ T mark s t (λ e n limit. omega (arith, due e, (delay_some d n limit).0))))))

module _ (table : List ℕ) (u v : ℕ → ℕ) (t r : ℕ) where
  pub departed-late : t < r → false ≡ departed_holds (envelope_of table) u v t r
  unfolding departed_holds
  departed-late p = rw (lt-leb r t p) refl

  pub departed-sum : (d q : ℕ) (trace : List ℕ) (T : ℕ) (windows arrived admitted departed : List ℕ) → CheckRows table d q trace T u v windows arrived admitted departed
      → r ≤ t → t ≤ T → eqb (get_or admitted r 0 + get_or windows (4160 - (t - r)) 0) (get_or departed t 0) ≡ departed_holds (envelope_of table) u v t r
  unfolding departed_holds at_window
  departed-sum d q trace T windows arrived admitted departed rows low within =
      rw (le-leb r t low, rows.admits r (omega arith), rows.departs t within, rows.checkable.windowed (t - r) (omega arith)) refl

-- What is due before any slot is served as if nothing else were there, and what comes is sent or waits.
use mathlib.Core.Path.{◌≡◌, refl, ap}
use Prim.Native.Nat.{ℕ, zero, suc, ◌+◌, ◌-◌, ◌≤◌, ◌<◌, min}
use native.Mathlib.Decide.{dec_le}
use native.Mathlib.Omega.{arith}
use Rattle.calculus.specs.Regulators.Clipper.{arrived}
use Rattle.calculus.proofs.Regulators.Clipper.{arrived-zero, arrived-slot, arrived_rises}
use Rattle.port_calculus.specs.Port.{sum_below, due_before, ahead, sends, keeps, coming, offered, sent, waiting}
use Rattle.port_calculus.proofs.Sums.{sum_below-zero, sum_below-suc, sum_below_cong, sum_below_none, sum_below_add, sum_below_swap}
use Rattle.port_calculus.proofs.Waiting.{coming_there, coming_elsewhere}

module _ (n c : ℕ) (q : ℕ → ℕ → ℕ) where
  pub due_before-zero : due_before n q 0 ≡ 0
  unfolding due_before
  due_before-zero = sum_below-zero _

  pub due_before-suc : (u : ℕ) → due_before n q (suc u) ≡ due_before n q u + sum_below (q u) n
  unfolding due_before
  due_before-suc u = sum_below-suc _ u

  pub due_before_none : (v : ℕ) → ((u i : ℕ) → u < v → i < n → q u i ≡ 0) → due_before n q v ≡ 0
  unfolding due_before
  due_before_none v none = sum_below_none _ v (λ u p. sum_below_none (q u) n (λ i r. none u i p r))

  -- What is due before a slot, stream by stream.
  pub due_before_streams : (v : ℕ) → due_before n q v ≡ sum_below (λ i. sum_below (λ u. q u i) v) n
  unfolding due_before
  due_before_streams v = sum_below_swap q v n

module _ (n c : ℕ) (q : ℕ → ℕ → ℕ) where
  keeps-part : (u : ℕ) → due_before n (keeps n c q) u ≡ due_before n q u - c → (i : ℕ)
      → due_before n (keeps n c q) u + sum_below (keeps n c q u) i ≡ due_before n q u + sum_below (q u) i - c
  unfolding sum_below
  keeps-part u e zero = omega (arith, e)
  keeps-part u e (suc i) = omega (arith, keeps-part u e i, kept u i)
    where
      kept : (u i : ℕ) → keeps n c q u i ≡ q u i - (c - (due_before n q u + sum_below (q u) i))
      kept u i = unfold keeps sends ahead in omega arith

  -- Of what is due before a slot, c packets are taken.
  pub keeps_due : (u : ℕ) → due_before n (keeps n c q) u ≡ due_before n q u - c
  keeps_due zero = omega (arith, due_before-zero n c q, due_before-zero n c (keeps n c q))
  keeps_due (suc u) = omega (arith, due_before-suc n c q u, due_before-suc n c (keeps n c q) u, keeps-part u (keeps_due u) n)

  -- A place sends some of what it has and keeps the rest.
  pub sends-keeps : (u i : ℕ) → sends n c q u i + keeps n c q u i ≡ q u i
  unfolding keeps sends
  sends-keeps u i = omega arith

  -- Up to any due slot the port sends as much as it can.
  pub sends_due : (u : ℕ) → due_before n (sends n c q) u ≡ min (due_before n q u) c
  sends_due u =
      let both : due_before n (sends n c q) u + due_before n (keeps n c q) u ≡ due_before n q u = whole u in
      omega (arith, keeps_due u)
    where
      whole : (u : ℕ) → due_before n (sends n c q) u + due_before n (keeps n c q) u ≡ due_before n q u
      whole zero = omega (arith, due_before-zero n c q, due_before-zero n c (keeps n c q), due_before-zero n c (sends n c q))
      whole (suc u) =
          omega (
            arith,
            whole u,
            due_before-suc n c q u,
            due_before-suc n c (keeps n c q) u,
            due_before-suc n c (sends n c q) u,
            sum_below_add (sends n c q u) (keeps n c q u) n,
            sum_below_cong (λ i. sends n c q u i + keeps n c q u i) (q u) n (λ i p. sends-keeps u i),
          )

  -- Earliest due first: where packets due by slot u are sent, none that is due earlier is kept,
  pub sends-earliest : (u i : ℕ) → 1 ≤ sends n c q u i → due_before n (keeps n c q) u ≡ 0
  sends-earliest u i some = omega (arith, keeps_due u, bound u i)
    where
      bound : (u i : ℕ) → sends n c q u i ≤ c - due_before n q u
      bound u i = unfold sends ahead in omega arith

  -- the lower stream first among equals,
  pub sends_lower : (u i : ℕ) → 1 ≤ sends n c q u i → sum_below (keeps n c q u) i ≡ 0
  sends_lower u i some = omega (arith, keeps-part u (keeps_due u) i, bound u i)
    where
      bound : (u i : ℕ) → sends n c q u i ≤ c - (due_before n q u + sum_below (q u) i)
      bound u i = unfold sends ahead in omega arith

  -- and fewer than c only if nothing is then left waiting.
  pub sends_fewer : (v : ℕ) → due_before n (sends n c q) v < c → due_before n (keeps n c q) v ≡ 0
  sends_fewer v few = omega (arith, sends_due v, keeps_due v)

-- packets of stream i that came by slot t and are due before slot v
abbrev pub before : (ℕ → ℕ) → (ℕ → ℕ → ℕ) → ℕ → ℕ → ℕ → ℕ
before D a t v i = arrived (a i) (min t (v - suc (D i)))

-- packets of stream i that come in slot t+1 and are due before slot v
abbrev pub new : (ℕ → ℕ) → (ℕ → ℕ → ℕ) → ℕ → ℕ → ℕ → ℕ
new D a t v i = before D a (suc t) v i - before D a t v i

module _ (n : ℕ) (D : ℕ → ℕ) (a : ℕ → ℕ → ℕ) (c : ℕ) where
  pub before_soon : (t v i : ℕ) → suc t + D i < v → before D a (suc t) v i ≡ before D a t v i + a i (suc t)
  before_soon t v i p =
      let now : min (suc t) (v - suc (D i)) ≡ suc t = omega arith in
      let then : min t (v - suc (D i)) ≡ t = omega arith in
      omega (arith, ap (arrived (a i)) now, ap (arrived (a i)) then, arrived-slot (a i) t)

  pub before-late : (t v i : ℕ) → v ≤ suc t + D i → before D a (suc t) v i ≡ before D a t v i
  before-late t v i p =
      let e : min (suc t) (v - suc (D i)) ≡ min t (v - suc (D i)) = omega arith in
      ap (arrived (a i)) e

  pub new_next : (t v i : ℕ) → new D a t v i + coming D a (suc t) v i ≡ new D a t (suc v) i
  new_next t v i =
      elim (dec_le (suc v) (suc t + D i)) [
        | yes q ↦ omega (arith, before-late t v i (omega arith), coming_elsewhere n D a c (suc t) v i (λ e. omega arith), before-late t (suc v) i (omega arith))
        | no q ↦ elim (dec_le v (suc t + D i)) [
          | yes r ↦ omega (arith, before-late t v i r, coming_there n D a c (suc t) v i (omega arith), before_soon t (suc v) i (omega arith))
          | no r ↦ omega (arith, before_soon t v i (omega arith), coming_elsewhere n D a c (suc t) v i (λ e. omega arith), before_soon t (suc v) i (omega arith))
        ]
      ]

  -- What is offered of a stream: what waited, and what comes.
  offered_stream : (t i v : ℕ) → sum_below (λ u. offered n D a c (suc t) u i) v ≡ sum_below (λ u. waiting n D a c t u i) v + new D a t v i
  unfolding sum_below
  offered_stream t i zero = omega (arith, before-late t 0 i (omega arith))
  offered_stream t i (suc v) = omega (arith, offered_stream t i v, new_next t v i, parts t v i)
    where
      parts : (t u i : ℕ) → offered n D a c (suc t) u i ≡ waiting n D a c t u i + coming D a (suc t) u i
      parts t u i = unfold offered waiting in refl

  -- Lindley's equation, for the packets that are due before slot v.
  pub waiting_due : (t v : ℕ) → due_before n (waiting n D a c (suc t)) v ≡ due_before n (waiting n D a c t) v + sum_below (new D a t v) n - c
  waiting_due t v =
      omega (
        arith,
        kept t v,
        due_before_streams n c (offered n D a c (suc t)) v,
        sum_below_cong (λ i. sum_below (λ u. offered n D a c (suc t) u i) v) (λ i. sum_below (λ u. waiting n D a c t u i) v + new D a t v i) n (λ i p. offered_stream t i v),
        sum_below_add (λ i. sum_below (λ u. waiting n D a c t u i) v) (new D a t v) n,
        due_before_streams n c (waiting n D a c t) v,
      )
    where
      kept : (t v : ℕ) → due_before n (waiting n D a c (suc t)) v ≡ due_before n (offered n D a c (suc t)) v - c
      kept t v = unfold waiting in keeps_due n c (offered n D a c (suc t)) v

  pub waiting-first : (u i : ℕ) → waiting n D a c 0 u i ≡ 0
  waiting-first u i = omega (arith, unfolded u i)
    where
      unfolded : (u i : ℕ) → waiting n D a c 0 u i ≤ 0
      unfolded u i = unfold waiting keeps offered in omega arith

  -- Of stream i's packets due before slot v, those that came by slot t are sent by then or wait.
  pub sent_or-waiting : (i v t : ℕ) → sum_below (λ s. sum_below (λ u. sent n D a c (suc s) u i) v) t + sum_below (λ u. waiting n D a c t u i) v ≡ before D a t v i
  sent_or-waiting i v zero =
      let e : min 0 (v - suc (D i)) ≡ 0 = omega arith in
      omega (arith, sum_below-zero (λ s. sum_below (λ u. sent n D a c (suc s) u i) v), none v, ap (arrived (a i)) e, arrived-zero (a i))
    where
      none : (v : ℕ) → sum_below (λ u. waiting n D a c 0 u i) v ≡ 0
      none v = sum_below_none _ v (λ u p. waiting-first u i)
  sent_or-waiting i v (suc t) =
      omega (
        arith,
        sent_or-waiting i v t,
        sum_below-suc (λ s. sum_below (λ u. sent n D a c (suc s) u i) v) t,
        sum_below_add (λ u. sent n D a c (suc t) u i) (λ u. waiting n D a c (suc t) u i) v,
        sum_below_cong (λ u. sent n D a c (suc t) u i + waiting n D a c (suc t) u i) (λ u. offered n D a c (suc t) u i) v (λ u p. served t u),
        offered_stream t i v,
        arrived_rises (a i) (min t (v - suc (D i))) (min (suc t) (v - suc (D i))) (omega arith),
      )
    where
      served : (t u : ℕ) → sent n D a c (suc t) u i + waiting n D a c (suc t) u i ≡ offered n D a c (suc t) u i
      served t u = unfold sent waiting in sends-keeps n c (offered n D a c (suc t)) u i

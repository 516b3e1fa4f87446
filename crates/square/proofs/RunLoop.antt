-- A slot more of a run over a closed square.
use mathlib.Core.Path.{◌≡◌, refl, sym, ap, ap₂, ◌∙◌}
use mathlib.Core.List.{List}
use Prim.Native.Nat.{ℕ, zero, suc, ◌+◌, ◌-◌, ◌*◌, ◌≤◌, ◌<◌, min}
use native.Mathlib.Decide.{dec_le}
use native.Mathlib.Omega.{arith}
use native.Mathlib.Numerals.{add-one}
use lib.Dec.{eqb}
use lib.ListN.{length, get_or, take, set, length-set}
use lib.Seq.{get_or-set_same, get_or-set_other}
use borrow.Author.Tests.{ne_eqb}
use Rattle.refusals.proofs.AcceptedSettings.{limit-number}
use Rattle.calculus.specs.Numbers.Least.{least}
use Rattle.calculus.specs.Numbers.Limit.{Limit, at_most, map_limit, cut, limit_unless, delay_limit, buffer_limit}
use Rattle.calculus.specs.Regulators.Clipper.{arrived, admitted}
use Rattle.calculus.specs.Regulators.Regulator.{departed, lost}
use Rattle.calculus.specs.Regulators.Ahead.{ahead}
use Rattle.calculus.specs.Numbers.Lists.{list_of}
use Rattle.calculus.specs.Regulators.Trace.{arrivals, slot_counts}
use Rattle.square_calculus.specs.Square.{square_entry, square_envelope}
use Rattle.calculus.proofs.Numbers.Least.{least_cong}
use Rattle.calculus.proofs.Numbers.Limit.{map_limit_cong}
use Rattle.calculus.proofs.Numbers.Lists.{list_of_filled, list_of_full}
use Rattle.calculus.proofs.Regulators.Clipper.{arrived-slot, arrived-zero}
use Rattle.calculus.proofs.Regulators.Regulator.{admitted-zero, admitted-arrived, admitted-arrivals, admitted_rises, departed-zero, departed_under, departed_rises, lost-slot}
use Rattle.calculus.proofs.Regulators.Ahead.{admitted-ahead, departed-ahead}
use Rattle.square_calculus.proofs.SquareRows.{envelope_at_lem}
use Rattle.square.specs.SquareWork.{Running, RowsOf}

-- the totals worked by slot t, and the lists filled up to it
pub record Turn (bounds : List (List ℕ)) (d q : Limit) (trace : List ℕ) (t x y : ℕ) (totals ins drops outs : List ℕ) : Type 0 where
  pub within : t ≤ length trace
  pub total : x ≡ admitted (square_envelope bounds) d q (arrivals trace) t
  pub gone : y ≡ departed (square_envelope bounds) d q (arrivals trace) t
  pub long : length totals ≡ 33
  pub past : (k : ℕ) → k ≤ t → get_or totals k 0 ≡ admitted (square_envelope bounds) d q (arrivals trace) k
  pub blank : (k : ℕ) → t < k → get_or totals k 0 ≡ 0
  pub long_ins : length ins ≡ length trace
  pub long_drops : length drops ≡ length trace
  pub long_outs : length outs ≡ length trace
  pub admits : take t ins ≡ list_of (λ k. admitted (square_envelope bounds) d q (arrivals trace) (suc k) - admitted (square_envelope bounds) d q (arrivals trace) k) t
  pub dropping : take t drops ≡ list_of (λ k. lost (square_envelope bounds) d q (arrivals trace) (suc k) - lost (square_envelope bounds) d q (arrivals trace) k) t
  pub departs : take t outs ≡ list_of (λ k. departed (square_envelope bounds) d q (arrivals trace) (suc k) - departed (square_envelope bounds) d q (arrivals trace) k) t

module _ (bounds : List (List ℕ)) (delay buffer : ℕ) (trace : List ℕ) (i j k : ℕ) (ok : Running bounds delay buffer trace i j k) where
  abbrev F : ℕ → ℕ → ℕ
  F = square_envelope bounds

  abbrev d : Limit
  d = delay_limit delay

  abbrev q : Limit
  q = buffer_limit buffer

  abbrev a : ℕ → ℕ
  a = arrivals trace

  abbrev X : ℕ → ℕ
  X = admitted F d q a

  abbrev Y : ℕ → ℕ
  Y = departed F d q a

  arrivals_few : (s : ℕ) → a s ≤ 1000000
  unfolding arrivals
  arrivals_few zero = omega arith
  arrivals_few (suc s) = ok.few s

  arrived_few : (s : ℕ) → arrived a s ≤ s * 1000000
  arrived_few zero = omega (arith, arrived-zero a)
  arrived_few (suc s) = omega (arith, arrived_few s, arrived-slot a s, arrivals_few (suc s))

  total_small : (s : ℕ) → s ≤ length trace → X s ≤ 32000000
  total_small s p = omega (arith, admitted-arrived F ok.closed d q a s, arrived_few s, ok.reached.slots)

  gone_small : (s : ℕ) → s ≤ length trace → Y s ≤ 32000000
  gone_small s p = omega (arith, departed_under F ok.closed d q a s, total_small s p)

  -- What the delay limit looks ahead.
  delay-number : (m : ℕ) → d ≡ at_most m → delay ≡ m
  unfolding delay_limit
  delay-number m e = limit-number (eqb delay 255) delay m e

  delay-is : (delay ≡ 255 → ⊥) → d ≡ at_most delay
  unfolding delay_limit limit_unless
  delay-is p = rw (ne_eqb delay 255 p)

  module _ (look : ℕ) (near : delay ≤ 64 → look ≡ delay) (none : 64 < delay → look ≡ 0) where
    pub look_reaches : (t : ℕ) → t < length trace → t + 1 + look ≤ 32
    look_reaches t p =
        elim (dec_le delay 64) [
          | yes r ↦ omega (arith, near r, ok.reached.delayed delay (delay-is (λ e. omega arith)))
          | no r ↦ omega (arith, none (omega arith), ok.reached.slots)
        ]

    looks : (m : ℕ) → d ≡ at_most m → look ≡ m
    looks m e = omega (arith, delay-number m e, near (omega (arith, delay-number m e, ok.reached.delayed m e)))

    module _ (t x y : ℕ) (totals ins drops outs : List ℕ) (turn : Turn bounds d q trace t x y totals ins drops outs) (inside : t < length trace) where
      pub turn_low : (k : ℕ) → get_or totals k 0 ≤ 4000000000
      turn_low k =
          elim (dec_le k t) [
            | yes p ↦ omega (arith, turn.past k p, total_small k (omega arith))
            | no p ↦ omega (arith, turn.blank k (omega arith))
          ]

      -- The least over the totals so far is what may have departed.
      turn-ahead : (column v : ℕ) → column ≤ 32 → v ≡ least 0 t (λ k. get_or totals k 0 + square_entry bounds k column) → v ≡ ahead X F t column
      unfolding ahead
      turn-ahead column v p e =
          e ∙ least_cong 0 t _ _ (omega arith)
          (λ k k0 kt. ap₂ ◌+◌ (turn.past k kt) (sym (envelope_at_lem bounds k column (omega (arith, ok.reached.slots)) p)))

      pub turn-arrived : (n : ℕ) → n ≡ get_or trace t 0 → x + n < 4294967296
      turn-arrived n e = omega (arith, turn.total, total_small t (omega arith), ok.few t)

      module _ (n soon late total left : ℕ) (arrives : n ≡ get_or trace t 0) (e1 : soon ≡ least 0 t (λ k. get_or totals k 0 + square_entry bounds k (t + 1)))
          (e2 : late ≡ least 0 t (λ k. get_or totals k 0 + square_entry bounds k (t + 1 + look)))
          (made : total ≡ cut (cut (x + n) (map_limit (λ _. late) d)) (map_limit (λ b. y + b) q)) (leaves : left ≡ min total soon) where
        -- W(t,t+1+k)
        w : ℕ → ℕ
        w k = ahead X F t (suc t + k)

        arrives_now : n ≡ a (suc t)
        unfolding arrivals
        arrives_now = arrives

        pub turn_total : total ≡ X (suc t)
        unfolding w
        turn_total =
            made
            ∙ ap₂ (λ (l m : Limit). cut (cut (x + n) l) m)
            (map_limit_cong _ _ d
            (λ m e.
            let column : t + 1 + look ≡ suc t + m = omega (arith, looks m e) in
            turn-ahead (t + 1 + look) late (look_reaches t inside) e2 ∙ ap (ahead X F t) column))
            (map_limit_cong _ _ q (λ b e. ap (λ (z : ℕ). z + b) turn.gone))
            ∙ ap₂ (λ (m l : ℕ). cut (cut (m + l) (map_limit (λ k. ahead X F t (suc t + k)) d)) (map_limit (λ b. Y t + b) q)) turn.total arrives_now
            ∙ sym (admitted-ahead F ok.closed d q a t (λ k. ahead X F t (suc t + k)) (λ k. refl))

        pub turn_left : left ≡ Y (suc t)
        turn_left =
            let column : t + 1 ≡ suc t + 0 = omega arith in
            leaves ∙ ap₂ min turn_total (turn-ahead (t + 1) soon (omega (arith, ok.reached.slots)) e1 ∙ ap (ahead X F t) column)
            ∙ sym (departed-ahead F ok.closed d q a t (λ k. ahead X F t (suc t + k)) (λ k. refl))

        -- No count of the slot falls below 0.
        pub turn_takes : x ≤ total
        turn_takes = omega (arith, turn.total, turn_total, admitted_rises F ok.closed d q a t (suc t) (omega arith))

        pub turn-drops : total - x ≤ n
        turn-drops = omega (arith, turn.total, turn_total, admitted-arrivals F ok.closed d q a t, arrives_now)

        pub turn-leaves : y ≤ left
        turn-leaves = omega (arith, turn.gone, turn_left, departed_rises F ok.closed d q a t (suc t) (omega arith))

        -- The next turn.
        pub turn_next : Turn bounds d q trace (t + 1) total left (set totals (t + 1) total) (set ins t (total - x)) (set drops t (n - (total - x))) (set outs t (left - y))
        turn_next =
            record {
              within = omega arith;
              total = turn_total ∙ ap X (sym (add-one t));
              gone = turn_left ∙ ap Y (sym (add-one t));
              long = length-set totals (t + 1) total ∙ turn.long;
              past = past;
              blank = λ k p. get_or-set_other totals (t + 1) k total 0 (λ e. omega arith) ∙ turn.blank k (omega arith);
              long_ins = length-set ins t _ ∙ turn.long_ins;
              long_drops = length-set drops t _ ∙ turn.long_drops;
              long_outs = length-set outs t _ ∙ turn.long_outs;
              admits = list_of_filled _ ins t (total - x) (omega (arith, turn.long_ins)) turn.admits (ap₂ ◌-◌ turn_total turn.total);
              dropping = list_of_filled _ drops t (n - (total - x)) (omega (arith, turn.long_drops)) turn.dropping
                  (ap₂ ◌-◌ arrives_now (ap₂ ◌-◌ turn_total turn.total) ∙ lost-slot F ok.closed d q a t);
              departs = list_of_filled _ outs t (left - y) (omega (arith, turn.long_outs)) turn.departs (ap₂ ◌-◌ turn_left turn.gone);
            }
          where
            past : (k : ℕ) → k ≤ t + 1 → get_or (set totals (t + 1) total) k 0 ≡ X k
            past k p =
                elim (dec_le k t) [
                  | yes r ↦ get_or-set_other totals (t + 1) k total 0 (λ e. omega arith) ∙ turn.past k r
                  | no r ↦ let here : k ≡ t + 1 = omega arith in
                      rw here (get_or-set_same totals (t + 1) total 0 (omega (arith, turn.long, ok.reached.slots)) ∙ turn_total ∙ ap X (sym (add-one t)))
                ]

  -- The first turn, and the last.
  pub turn-first : (totals ins drops outs : List ℕ) → length totals ≡ 33 → ((k : ℕ) → get_or totals k 0 ≡ 0)
      → length ins ≡ length trace → length drops ≡ length trace → length outs ≡ length trace → Turn bounds d q trace 0 0 0 totals ins drops outs
  unfolding list_of
  turn-first totals ins drops outs long blank l1 l2 l3 =
      record {
        within = omega arith;
        total = sym (admitted-zero F ok.closed d q a);
        gone = sym (departed-zero F ok.closed d q a);
        long = long;
        past = λ k p. let e : k ≡ 0 = omega arith in blank k ∙ sym (ap X e ∙ admitted-zero F ok.closed d q a);
        blank = λ k p. blank k;
        long_ins = l1;
        long_drops = l2;
        long_outs = l3;
        admits = refl;
        dropping = refl;
        departs = refl;
      }

  pub turn_last : (t x y : ℕ) (totals ins drops outs : List ℕ) → Turn bounds d q trace t x y totals ins drops outs → length trace ≤ t → RowsOf bounds d q trace ins drops outs
  unfolding slot_counts
  turn_last t x y totals ins drops outs turn p =
      record {
        admits = list_of_full _ ins (length trace) t turn.within p turn.long_ins turn.admits;
        dropped = list_of_full _ drops (length trace) t turn.within p turn.long_drops turn.dropping;
        departs = list_of_full _ outs (length trace) t turn.within p turn.long_outs turn.departs;
      }

-- Slot by slot the running totals of counts are written down.
use mathlib.Core.Path.{◌≡◌, refl, sym, ap₂, ◌∙◌}
use mathlib.Core.List.{List}
use Prim.Native.Nat.{ℕ, ◌+◌, ◌*◌, ◌≤◌, ◌<◌}
use native.Mathlib.Decide.{dec_le}
use native.Mathlib.Omega.{arith}
use native.Mathlib.Numerals.{add-one}
use lib.ListN.{length, get_or, set, length-set}
use lib.Seq.{get_or-set_same, get_or-set_other}
use Rattle.calculus.specs.Regulators.Trace.{sum_to}
use Rattle.rivals.specs.Tallied.{Tallied}

-- the sum of slots 1 to t, within 64 bits, and the totals of those slots
pub record Tallying (counts totals : List ℕ) (t sum : ℕ) : Type 0 where
  pub within : t ≤ length counts
  pub room : length totals ≡ 4097
  pub small : sum ≤ t * 4294967295
  pub total : sum ≡ sum_to counts t
  pub sums : (s : ℕ) → s ≤ t → get_or totals s 0 ≡ sum_to counts s

module _ (counts totals : List ℕ) where
  pub tallying-first : length totals ≡ 4097 → get_or totals 0 0 ≡ 0 → Tallying counts totals 0 0
  unfolding sum_to
  tallying-first room blank =
      record {
        within = omega arith;
        room = room;
        small = omega arith;
        total = refl;
        sums = λ s p. let none : s ≡ 0 = omega arith in rw none blank;
      }

  sum_next : (t : ℕ) → sum_to counts (t + 1) ≡ sum_to counts t + get_or counts t 0
  unfolding sum_to
  sum_next t = rw add-one

  -- A slot more.
  pub tallying_next : (t sum n : ℕ) → Tallying counts totals t sum → t < length counts → length counts ≤ 4096 → n ≡ get_or counts t 0 → n < 4294967296
      → Tallying counts (set totals (t + 1) (sum + n)) (t + 1) (sum + n)
  tallying_next t sum n made inside short same few =
      let here : sum + n ≡ sum_to counts (t + 1) = ap₂ ◌+◌ made.total same ∙ sym (sum_next t) in
      record {
        within = omega arith;
        room = length-set totals (t + 1) (sum + n) ∙ made.room;
        small = omega (arith, made.small);
        total = here;
        sums = λ s p.
            elim (dec_le s t) [
              | yes q ↦ get_or-set_other totals (t + 1) s (sum + n) 0 (λ e. omega arith) ∙ made.sums s q
              | no q ↦ let e : s ≡ t + 1 = omega arith in
                  rw e (get_or-set_same totals (t + 1) (sum + n) 0 (omega (arith, made.room)) ∙ here)
            ];
      }

  -- After the last slot the totals are those of all slots.
  pub tallying-last : (t sum : ℕ) → Tallying counts totals t sum → length counts ≤ t → length counts ≤ 4096 → Tallied counts totals (length counts)
  tallying-last t sum made end short = record { long = omega (arith, made.room); sums = λ s p. made.sums s (omega arith) }

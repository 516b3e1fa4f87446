-- Laws of the port's lists before the first slot and after the last.
use mathlib.Core.Path.{◌≡◌, refl, sym, ap, ap₂, ◌∙◌}
use mathlib.Core.List.{List, [], ◌++◌}
use Prim.Native.Nat.{ℕ, zero, suc, ◌+◌, ◌*◌, ◌<◌}
use native.Mathlib.Nat.{suc-mul}
use native.Mathlib.Omega.{arith}
use lib.ListN.{length, get_or, take, drop, replicate, length-drop, length-replicate}
use lib.Seq.{ext_get_or, get_or-drop, get_or-take, length-take-le, take_all, take-add}
use Rattle.calculus.specs.Numbers.Lists.{list_of}
use Rattle.calculus.proofs.Numbers.Lists.{length-list_of, list_of_at, all-zero}
use Rattle.port_calculus.specs.Port.{sum_below, stream_arrivals, stream_rows, waiting, sent_of, late, port_rows, late_row, offered}
use Rattle.port.specs.Accepted.{Accepted}
use Rattle.port.specs.PortWork.{Standing}
use Rattle.port.proofs.SlotListed.{place_inside}
use Rattle.port.proofs.Queueing.{queue_blank}
use Rattle.port_calculus.proofs.Waiting.{late_due, waiting-offered}

-- Zeros, and a list filled with them.
pub zeros : (n : ℕ) → (length {A = ℕ} (replicate n 0) ≡ n) × ((k : ℕ) → get_or {A = ℕ} (replicate n 0) k 0 ≡ 0)
zeros n = (length-replicate {A = ℕ} n 0, all-zero n)

pub zeroed : (before after : List ℕ) → after ≡ replicate (length before) 0 → (length after ≡ length before) × ((k : ℕ) → get_or after k 0 ≡ 0)
zeroed before after e = rw e (zeros (length before))

-- A list that has a function's value at each place is the function's list.
list_of-each : (h : ℕ → ℕ) (l : List ℕ) (n : ℕ) → length l ≡ n → ((k : ℕ) → k < n → get_or l k 0 ≡ h k) → l ≡ list_of h n
list_of-each h l n long each =
    ext_get_or 0 l (list_of h n) (long ∙ sym (length-list_of h n)) (λ k p. each k (omega arith) ∙ sym (list_of_at h n k (omega arith)))

-- A list that has each stream's values in its places is the streams' rows.
stream_rows-each : (h : ℕ → ℕ → ℕ) (T n : ℕ) (l : List ℕ) → length l ≡ n * T → ((i s : ℕ) → i < n → s < T → get_or l (i * T + s) 0 ≡ h i (suc s)) → l ≡ stream_rows h T n
unfolding stream_rows
stream_rows-each h T zero l long each = ext_get_or 0 l [] (omega arith) (λ k p. absurd (omega arith))
stream_rows-each h T (suc n) l long each =
    let all : n * T + T ≡ length l = omega (arith, suc-mul n T) in
    sym (take_all (n * T + T) l (omega arith)) ∙ take-add (n * T) T l
    ∙ ap₂ ◌++◌
    (stream_rows-each h T n (take (n * T) l) (length-take-le (n * T) l (omega arith))
    (λ i s p q. get_or-take (n * T) l (i * T + s) 0 (place_inside T n i s q p) ∙ each i s (omega arith) q))
    (list_of-each (λ s. h n (suc s)) (take T (drop (n * T) l)) T (length-take-le T (drop (n * T) l) (omega (arith, length-drop (n * T) l)))
    (λ s p. get_or-take T (drop (n * T) l) s 0 p ∙ get_or-drop (n * T) l s 0 ∙ each n s (omega arith) p))

module _ (deadlines : List ℕ) (slots capacity : ℕ) (input : List ℕ) where
  abbrev n : ℕ
  n = length deadlines

  abbrev D : ℕ → ℕ
  D i = get_or deadlines i 0

  abbrev a : ℕ → ℕ → ℕ
  a = stream_arrivals slots input

  none-offered : (u i : ℕ) → offered n D a capacity 0 u i ≡ 0
  unfolding offered
  none-offered u i = refl

  pub standing-first : (row totals sent₀ late₀ late₁ : List ℕ) → Accepted deadlines slots input (length sent₀) (length late₀)
      → (length row ≡ 2568) × ((k : ℕ) → get_or row k 0 ≡ 0) → (length totals ≡ 321) × ((k : ℕ) → get_or totals k 0 ≡ 0)
      → (length late₁ ≡ length late₀) × ((k : ℕ) → get_or late₁ k 0 ≡ 0) → Standing deadlines slots capacity input 0 0 row totals sent₀ late₁
  unfolding sum_below
  standing-first row totals sent₀ late₀ late₁ ok (long, blank) none (same, cleared) =
      record {
        queue = queue_blank row totals (long, blank) none;
        long_sent = ok.long_sent;
        long_late = same ∙ ok.long_late;
        waits = λ u i p. omega (arith, blank (8 * u + i), waiting-offered n D a capacity 0 u i, none-offered u i);
        gone = λ u i p q. blank (8 * u + i);
        absent = λ u i p q. blank (8 * u + i);
        listed = λ i s p q. absurd (omega arith);
        overdue = λ i p. cleared i;
      }

  -- After the last slot the lists are the port's.
  pub standing-last : (t first : ℕ) (row totals sent₁ late₁ : List ℕ) → t ≡ slots → Standing deadlines slots capacity input t first row totals sent₁ late₁
      → (sent₁ ≡ port_rows deadlines slots capacity input) × (late₁ ≡ late_row deadlines slots capacity input)
  unfolding port_rows late_row
  standing-last t first row totals sent₁ late₁ end standing = (
    stream_rows-each (sent_of n D a capacity) slots n sent₁ standing.long_sent (λ i s p q. standing.listed i s p (omega arith)),
    list_of-each (late n D a capacity slots) late₁ n standing.long_late
        (λ i p. standing.overdue i p ∙ ap (sum_below (λ s. waiting n D a capacity (suc s) (suc s) i)) end ∙ sym (late_due n D a capacity slots i)),
  )

  -- Between slots the lists have their lengths.
  pub standing-accepted : (t first : ℕ) (row totals sent₁ late₁ : List ℕ) (sent₀ late₀ : ℕ) → Accepted deadlines slots input sent₀ late₀ → Standing deadlines slots capacity input t first row totals sent₁ late₁
      → Accepted deadlines slots input (length sent₁) (length late₁)
  standing-accepted t first row totals sent₁ late₁ sent₀ late₀ ok standing =
      record {
        some = ok.some;
        few = ok.few;
        short = ok.short;
        timely = ok.timely;
        long_input = ok.long_input;
        long_sent = standing.long_sent;
        long_late = standing.long_late;
        small = ok.small;
      }

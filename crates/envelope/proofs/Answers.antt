-- Laws of the envelope part's answers: rows told by their places, and rows that are turned round.
use mathlib.Core.Path.{◌≡◌, refl, sym, ap, ◌∙◌}
use mathlib.Core.List.{List, ◌++◌}
use Prim.Native.Nat.{ℕ, suc, ◌+◌, ◌-◌, ◌<◌, min}
use native.Mathlib.Decide.{dec_le}
use native.Mathlib.Omega.{arith}
use lib.Dec.{leb}
use lib.ListN.{length, get_or, get_or-append}
use lib.Seq.{ext_get_or}
use borrow.Author.Tests.{lt-ltb, le-ltb, le-leb, lt-leb}
use Rattle.calculus.specs.Numbers.Lists.{list_of, newest_first}
use Rattle.calculus.proofs.Numbers.Lists.{list_of_cong, length-list_of, list_of_at, length-newest_first, newest_first_at}
use Rattle.orders.specs.Refusal.{pick}
use Rattle.envelope.specs.ClosureRow.{turned_row}

-- A row with a function's values at its places is the list of them.
pub list_of-places : (h : ℕ → ℕ) (n : ℕ) (row : List ℕ) → length row ≡ n → ((i : ℕ) → i < n → get_or row i 0 ≡ h i) → row ≡ list_of h n
list_of-places h n row long places =
    ext_get_or 0 row (list_of h n) (long ∙ sym (length-list_of h n)) (λ i p. places i (omega (arith, long)) ∙ sym (list_of_at h n i (omega (arith, long))))

-- A row filled newest first and turned round has window 0 first ..
turned-at : (h : ℕ → ℕ) (rest : List ℕ) (count k : ℕ) → k < count → get_or (newest_first h count ++ rest) (count - suc k) 0 ≡ h k
turned-at h rest count k p =
    let back : count - suc (count - suc k) ≡ k = omega arith in
    get_or-append (newest_first h count) rest 0 (count - suc k) (omega (arith, length-newest_first h count))
    ∙ newest_first_at h count (count - suc k) (omega arith) ∙ ap h back

-- .. in its first places, and 0 after them.
pub turned-to : (h : ℕ → ℕ) (rest : List ℕ) (count last : ℕ) → count ≡ min last 128 + 1
    → turned_row (newest_first h count ++ rest) count ≡ list_of (λ k. pick (leb k last) (h k) 0) 129
unfolding turned_row pick
turned-to h rest count last reach =
    list_of_cong _ _ 129
    (λ k p. elim (dec_le k last) [
      | yes q ↦ rw (lt-ltb k count (omega arith), le-leb k last q) (turned-at h rest count k (omega arith))
      | no q ↦ rw (le-ltb k count (omega arith), lt-leb k last (omega arith)) refl
    ])

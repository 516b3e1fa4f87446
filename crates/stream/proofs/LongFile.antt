-- A file longer than any legal one, 33,048 bytes, is refused, and for the same number when it is cut to a length that is still too long.
use mathlib.Core.Path.{◌≡◌, refl, sym, ◌∙◌}
use mathlib.Core.List.{List}
use Prim.Native.Nat.{ℕ, zero, suc, ◌+◌, ◌*◌, ◌≤◌, ◌<◌}
use native.Mathlib.Omega.{arith}
use lib.ListN.{length, take}
use lib.Seq.{get_or-take, length-take-le}
use borrow.Author.Tests.{le-ltb, ne_eqb}
use Rattle.orders.specs.Refusal.{◌when◌, ◌or_else◌}
use Rattle.refusals.specs.Table.{last_refusal}
use Rattle.orders.proofs.Refusals.{or_else_none}
use Rattle.refusals.proofs.TableJudged.{last-accepted}
use Rattle.refusals.specs.Lengths.{length_refusal}
use Rattle.stream.specs.Format.{number_at, last, slots, bursts}
use Rattle.stream.specs.Refusals.{few_bytes_refusal, size_refusal, sizes_refusal, file_refusal}
use Rattle.stream.proofs.FileJudged.{short-length, sizes-accepted, file_sizes}
use Rattle.stream.proofs.FileNumbers.{number_alike}

-- A file longer than any legal one gets a number for its sizes.
long_refused : (file : List ℕ) → 33048 < length file → sizes_refusal file ≡ 0 → ⊥
long_refused file long none =
    let ok = sizes-accepted file none in
    omega (arith, ok.size, ok.last_to, ok.few_bursts)

-- A second number that may differ counts only where the first is none.
or_else_same : (first a b : ℕ) → (first ≡ 0 → a ≡ b) → first or_else a ≡ first or_else b
unfolding ◌or_else◌
or_else_same zero a b same = same refl
or_else_same (suc first) a b same = refl

-- With accepted L and m a file that is too long gets 13, whatever its length.
size_long : (size l m : ℕ) → 33048 < size → l ≤ 64 → m ≤ 4096 → size_refusal size l m ≡ 13
unfolding size_refusal ◌when◌
size_long size l m long p q = rw (ne_eqb size (20 + 4 * (l + 1) + 8 * m) (λ e. omega arith))

-- The number for the sizes of files that are too long does not depend on their length.
sizes_long : (size size' l s m : ℕ) → 33048 < size → 33048 < size'
    → few_bytes_refusal size or_else last_refusal l or_else (length_refusal s or_else length_refusal m) or_else size_refusal size l m
    ≡ few_bytes_refusal size' or_else last_refusal l or_else (length_refusal s or_else length_refusal m) or_else size_refusal size' l m
unfolding few_bytes_refusal ◌when◌
sizes_long size size' l s m p q =
    rw (le-ltb size 20 (omega arith), le-ltb size' 20 (omega arith))
    (or_else_same 0 _ _ (λ none. or_else_same (last_refusal l) _ _ (λ window. or_else_same (length_refusal s or_else length_refusal m) _ _ (λ lengths.
    let l-small = (last-accepted l window).1 in
    let m-small = short-length m (or_else_none (length_refusal s) _ lengths).1 in
    size_long size l m p l-small m-small ∙ sym (size_long size' l m q l-small m-small)))))

-- The first numbers of a file stand in its first bytes.
number_cut : (file : List ℕ) (n i : ℕ) → 4 * i + 3 < n → number_at (take n file) i ≡ number_at file i
number_cut file n i p = number_alike (take n file) file i i (λ j q. get_or-take n file (4 * i + j) 0 (omega arith))

module _ (file : List ℕ) (n : ℕ) (long : 33048 < n) (cut : n < length file) where
  sizes-cut : sizes_refusal (take n file) ≡ sizes_refusal file
  unfolding sizes_refusal
  sizes-cut =
      rw (length-take-le n file (omega arith), number_cut file n 0 (omega arith), number_cut file n 1 (omega arith), number_cut file n 2 (omega arith))
      (sizes_long n (length file) (last file) (slots file) (bursts file) long (omega arith))

  -- The cut file and the whole one get the same number, which is that of their sizes.
  pub long-cut : (file_refusal (take n file) ≡ file_refusal file) × (file_refusal file ≡ 0 → ⊥)
  long-cut =
      let refused = long_refused file (omega arith) in
      let whole = file_sizes file (sizes_refusal file) refused refl in
      let part = file_sizes (take n file) (sizes_refusal file) refused (sym sizes-cut) in
      (sym part ∙ whole, λ none. refused (whole ∙ none))

-- Numbers after a word, one by one; the lines of the printed table, which are such lines too; and a line's end.
use mathlib.Core.Path.{◌≡◌, refl, ap}
use mathlib.Core.List.{List, [], ◌∷◌, ◌++◌, append_assoc, append-nil}
use Prim.Native.Nat.{ℕ, ◌+◌, ◌≤◌, ◌<◌}
use native.Mathlib.Omega.{arith}
use native.Mathlib.Numerals.{add-one}
use lib.ListN.{length, get_or, take, length-take}
use lib.Seq.{take-suc}
use Rattle.text.specs.Digits.{digits}
use Rattle.text.specs.Lines.{numbers, line}
use Rattle.text.specs.Put.{Put}
use Rattle.text.proofs.Put.{put-length}
use Rattle.row_lines.specs.Lines.{spaced, labelled, Ended}

-- One number.
pub spaced_one : (n : ℕ) → spaced (n ∷ []) ≡ 32 ∷ digits n
unfolding spaced
spaced_one n = rw append-nil

spaced_then : (s t : List ℕ) → spaced (s ++ t) ≡ spaced s ++ spaced t
unfolding spaced
spaced_then [] t = refl
spaced_then (n ∷ s) t = rw (spaced_then s t, append_assoc)

-- One number more.
pub spaced_more : (list : List ℕ) (i : ℕ) → i < length list → spaced (take (i + 1) list) ≡ spaced (take i list) ++ (32 ∷ digits (get_or list i 0))
spaced_more list i p =
    rw (add-one, take-suc list i 0 p, spaced_then) (ap (λ (l : List ℕ). spaced (take i list) ++ l) (spaced_one (get_or list i 0)))

-- A line of the printed table is a word with its numbers and a line feed.
spaced-line : (later : List ℕ) → numbers later ≡ spaced later ++ (10 ∷ [])
unfolding numbers spaced
spaced-line [] = refl
spaced-line (n ∷ later) = rw (spaced-line later, append_assoc)

pub table-line : (first later : List ℕ) → line first later ≡ labelled first later ++ (10 ∷ [])
unfolding line labelled
table-line first later = rw (spaced-line later, append_assoc)

-- The size of a line that is ended is within the room.
pub line_ended : {before after : List ℕ} {at size : ℕ} → Put before at (10 ∷ []) after size → Ended before at after size
line_ended {before} {after} {at} {size} p =
    let inside : size ≤ length after = omega (arith, p.next, put-length p) in
    record { fed = p; inside = inside; counted = omega (arith, length-take size after) }

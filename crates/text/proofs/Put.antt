-- Laws of texts written into a list: one after the other is one text.
use mathlib.Core.Path.{◌≡◌, refl, sym, ap, ◌∙◌}
use mathlib.Core.List.{List, [], ◌∷◌, ◌++◌, append_assoc}
use Prim.Native.Nat.{ℕ, suc, ◌+◌, ◌-◌, ◌≤◌, ◌<◌, min}
use native.Mathlib.Decide.{dec_le}
use native.Mathlib.Omega.{arith}
use native.Mathlib.Nat.{add-zero}
use borrow.Rule.Slice.PartMut.{put_mid, Post-is}
use lib.ListN.{length, set, take, drop, length-append, length-set, take-append-drop, drop_of_length-le}
use Rattle.std.proofs.Common.{length-take-le}
use lib.Seq.{sets, sets-eq, set_out}
use Rattle.text.specs.Put.{stored, Put}
use Rattle.text.specs.Printed.{Printed}

stored-length : (l : List ℕ) (at : ℕ) (text : List ℕ) → length (stored l at text) ≡ length l
unfolding stored
stored-length l at [] = refl
stored-length l at (byte ∷ later) = stored-length (set l at byte) (suc at) later ∙ length-set l at byte

stored_sets : (l : List ℕ) (at : ℕ) (text : List ℕ) → stored l at text ≡ sets l at text
unfolding stored
stored_sets l at [] = refl
stored_sets l at (byte ∷ later) = stored_sets (set l at byte) (suc at) later

-- Storing a text and then another after it is storing both.
stored-append : (l : List ℕ) (at : ℕ) (s t : List ℕ) → stored (stored l at s) (at + length s) t ≡ stored l at (s ++ t)
unfolding stored
stored-append l at [] t = ap (λ (n : ℕ). stored l n t) (add-zero at)
stored-append l at (byte ∷ s) t =
    let e : at + suc (length s) ≡ suc at + length s = omega arith in
    ap (λ (n : ℕ). stored (stored (set l at byte) (suc at) s) n t) e ∙ stored-append (set l at byte) (suc at) s t

-- After the end of a list nothing is stored.
stored_past : (l : List ℕ) (at : ℕ) (text : List ℕ) → length l ≤ at → stored l at text ≡ l
unfolding stored
stored_past l at [] p = refl
stored_past l at (byte ∷ later) p = rw (set_out l at byte p) (stored_past l (suc at) later (omega arith))

-- The same where the first text ends at the list's end, or would go on after it.
stored_then : (l : List ℕ) (at : ℕ) (s t : List ℕ) → stored (stored l at s) (min (at + length s) (length l)) t ≡ stored l at (s ++ t)
stored_then l at s t =
    elim (dec_le (at + length s) (length l)) [
      | yes p ↦ let e : min (at + length s) (length l) ≡ at + length s = omega arith in rw e (stored-append l at s t)
      | no p ↦
          let past = stored_past (stored l at s) in
          past (min (at + length s) (length l)) t (omega (arith, stored-length l at s))
          ∙ sym (past (at + length s) t (omega (arith, stored-length l at s)))
          ∙ stored-append l at s t
    ]

pub put-length : {before text after : List ℕ} {at r : ℕ} → Put before at text after r → length after ≡ length before
put-length {before} {text} {after} {at} {r} p = ap length p.written ∙ stored-length before at text

-- As much of a word as fits, copied in from a place on, is the word put there.
pub put_copied : {before word copied : List ℕ} {at from to : ℕ} → from ≡ min at (length before) → to ≡ min (from + length word) (length before)
    → copied ≡ take (to - from) word → Put before at word (put_mid from (to - from) before copied) to
put_copied {before} {word} {copied} {at} {from} {to} f e p =
    let n : ℕ = to - from in
    let fits : length (take n word) ≡ n = length-take-le n word (omega arith) in
    let inside : from + length (take n word) ≡ to = omega arith in
    let part : stored before from (take n word) ≡ put_mid from n before copied =
    stored_sets before from (take n word) ∙ sets-eq (take n word) before from (omega arith)
    ∙ rw (inside, append_assoc, ← p, ← Post-is from to before (omega arith)) in
    let rest : stored (stored before from (take n word)) to (drop n word) ≡ stored before from (take n word) =
    elim (dec_le (length before) to) [
      | yes q ↦ stored_past (stored before from (take n word)) to (drop n word) (omega (arith, stored-length before from (take n word)))
      | no q ↦ rw (drop_of_length-le word {i = n} (omega arith)) (unfold stored in refl)
    ] in
    let whole : stored before from word ≡ stored before from (take n word) =
    ap (stored before from) (sym (take-append-drop n word)) ∙ sym (stored-append before from (take n word) (drop n word))
    ∙ ap (λ (k : ℕ). stored (stored before from (take n word)) k (drop n word)) inside ∙ rest in
    let start : stored before at word ≡ stored before from word =
    elim (dec_le at (length before)) [
      | yes q ↦ let same : at ≡ from = omega arith in rw same
      | no q ↦ stored_past before at word (omega arith) ∙ sym (stored_past before from word (omega arith))
    ] in
    record { next = omega arith; written = sym (start ∙ whole ∙ part) }

-- Nothing put changes nothing.
pub put_none : (before : List ℕ) (at : ℕ) → at ≤ length before → Put before at [] before at
unfolding stored
put_none before at p = record { next = omega arith; written = refl }

-- One byte, inside the list and after its end.
pub put_one : (before : List ℕ) (at byte : ℕ) → at < length before → Put before at (byte ∷ []) (set before at byte) (at + 1)
unfolding stored
put_one before at byte p = record { next = omega arith; written = refl }

pub put-past : (before : List ℕ) (at byte : ℕ) → length before ≤ at → Put before at (byte ∷ []) before (length before)
unfolding stored
put-past before at byte p = record { next = omega arith; written = sym (set_out before at byte p) }

-- A text put after another: both are put as one text.
pub put_then : {a s b t c : List ℕ} {i j k : ℕ} → Put a i s b j → Put b j t c k → Put a i (s ++ t) c k
put_then {a} {s} {b} {t} {c} {i} {j} {k} p q =
    record {
      next = omega (arith, p.next, q.next, put-length p, length-append s t);
      written = q.written ∙ rw (p.written, p.next) (stored_then a i s t);
    }

-- Nothing printed changes nothing.
pub nothing_printed : (before : List ℕ) → Printed before [] before 0
nothing_printed before = record { count = refl; inside = omega arith; bytes = refl }

-- A text put at the start of a list that is long enough is printed there.
pub put_printed : {before text after : List ℕ} {r : ℕ} → Put before 0 text after r → length text ≤ length before → Printed before text after r
put_printed {before} {text} {after} {r} p fits =
    let e : r ≡ length text = omega (arith, p.next) in
    let z : 0 + length text ≡ length text = omega arith in
    record { count = e; inside = omega arith; bytes = p.written ∙ stored_sets before 0 text ∙ rw (e, sets-eq text before 0 (omega arith), z) }

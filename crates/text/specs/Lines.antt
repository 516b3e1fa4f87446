-- The printed text, byte for byte (document 01, "The stream file").
use Rattle.std.specs.Prelude.{List, [], ◌∷◌, ◌++◌, ℕ, zero, suc, ◌-◌, length, get_or}
use Prim.Native.Char.{code}
use Prim.Native.String.{String, [] as none, ◌∷◌ as ◌then◌}
use Rattle.calculus.specs.Regulators.Trace.{sum_to}
use Rattle.text.specs.Digits.{digits}

-- the bytes of a text, which is in ASCII
unfoldable pub bytes : String → List ℕ
bytes none = []
bytes (◌then◌ c s) = code c ∷ bytes s

-- the numbers after a line's first field, a single space before each, closed by a line feed
unfoldable pub numbers : List ℕ → List ℕ
numbers [] = 10 ∷ []
numbers (n ∷ later) = 32 ∷ (digits n ++ numbers later)

-- a line: its first field, then numbers
unfoldable pub line : List ℕ → List ℕ → List ℕ
line first later = first ++ numbers later

unfoldable pub heading : List ℕ
heading = bytes "slot arrived admitted dropped departed held\n"

-- Held after slot t: what was admitted less what departed in slots 1 to t.
unfoldable pub held_after : List ℕ → List ℕ → ℕ → ℕ
held_after admitted departed t = sum_to admitted t - sum_to departed t

-- The six fields are the slot, then packets arrived, admitted, dropped, departed in it, and held after it. Slot t + 1 stands at place t.
unfoldable pub slot_line : List ℕ → List ℕ → List ℕ → List ℕ → ℕ → List ℕ
slot_line arrived admitted dropped departed t =
    line (digits (suc t)) (get_or arrived t 0 ∷ get_or admitted t 0 ∷ get_or dropped t 0 ∷ get_or departed t 0 ∷ held_after admitted departed (suc t) ∷ [])

-- one line for each of the slots 1 to t
unfoldable pub slot_lines : List ℕ → List ℕ → List ℕ → List ℕ → ℕ → List ℕ
slot_lines arrived admitted dropped departed zero = []
slot_lines arrived admitted dropped departed (suc t) =
    slot_lines arrived admitted dropped departed t ++ slot_line arrived admitted dropped departed t

-- The last line has the word total, the four sums and the final held.
unfoldable pub total_line : List ℕ → List ℕ → List ℕ → List ℕ → ℕ → List ℕ
total_line arrived admitted dropped departed t =
    line (bytes "total") (sum_to arrived t ∷ sum_to admitted t ∷ sum_to dropped t ∷ sum_to departed t ∷ held_after admitted departed t ∷ [])

-- a heading, one line for each slot, and a line of totals
unfoldable pub table_text : List ℕ → List ℕ → List ℕ → List ℕ → List ℕ
table_text arrived admitted dropped departed =
    heading ++ (slot_lines arrived admitted dropped departed (length arrived) ++ total_line arrived admitted dropped departed (length arrived))

-- A refused file prints only the word refused and the number.
unfoldable pub refused_text : ℕ → List ℕ
refused_text number = line (bytes "refused") (number ∷ [])

-- The numbers of a table's line after its first field (document 01, "The stream file").
use Rattle.std.specs.Prelude.{◌≡◌, List, [], ◌∷◌, ℕ, ◌+◌, ◌-◌, ◌^◌, ◌<◌, get_or}
use Rattle.text.specs.declared.line.Counts.{Counts}

-- in their order: packets arrived, admitted, dropped, departed, and held
abbrev pub fields : Counts → List ℕ
fields counts = counts.arrived ∷ counts.admitted ∷ counts.dropped ∷ counts.departed ∷ counts.held ∷ []

-- The counts at place t of the four lists, and what is held where x packets were admitted and y departed before. A count has 32 bits.
pub record CountsAt (arrived admitted dropped departed : List ℕ) (t x y : ℕ) (counts : Counts) : Type 0 where
  pub arrives : counts.arrived ≡ get_or arrived t 0
  pub admits : counts.admitted ≡ get_or admitted t 0
  pub drops : counts.dropped ≡ get_or dropped t 0
  pub departs : counts.departed ≡ get_or departed t 0
  pub holds : counts.held ≡ x + counts.admitted - (y + counts.departed)
  pub arrives_fits : counts.arrived < 2 ^ 32
  pub admits_fits : counts.admitted < 2 ^ 32
  pub drops_fits : counts.dropped < 2 ^ 32
  pub departs_fits : counts.departed < 2 ^ 32

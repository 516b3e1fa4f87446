-- The links that rows give.
use Rattle.std.specs.Prelude.{ℕ, Option, Some, None}
use Rattle.calculus.specs.Numbers.Limit.{delay_limit, buffer_limit}
use Rattle.certificate_calculus.specs.FoundLinks.{AdmittedFound}
use Rattle.chain.specs.Marks.{mark_number}
use Rattle.found_links.specs.FoundRows.{FoundRows, Earliest}
use Rattle.found_links.specs.declared.found.Link.{Link}
use Rattle.found_links.specs.declared.rows.Rows.{Rows}

-- the rows are read off totals u and v of arrivals a, with the rows' limits, up to the slot that they reach
abbrev pub Read : Rows → (ℕ → ℕ) → (ℕ → ℕ) → (ℕ → ℕ) → (ℕ → ℕ) → Type 0
Read r f a u v = FoundRows f (delay_limit r.delay) (buffer_limit r.buffer) a r.reach u v r.admitted r.lost r.departed r.starts

-- the earliest slot of a mark, and the first link of all, with the rows' limits
abbrev pub EarliestOf : Rows → (ℕ → ℕ) → (ℕ → ℕ) → (ℕ → ℕ) → ℕ → ℕ → ℕ → Type 0
EarliestOf r f a u = Earliest f (delay_limit r.delay) (buffer_limit r.buffer) a r.reach u

abbrev pub FoundOf : Rows → (ℕ → ℕ) → (ℕ → ℕ) → (ℕ → ℕ) → ℕ → ℕ → ℕ → Type 0
FoundOf r f a u = AdmittedFound f (delay_limit r.delay) (buffer_limit r.buffer) a r.reach u

-- a link's first slot and its mark's number, 0 and 0 where there is none
abbrev pub from_of : Option Link → ℕ
from_of None = 0
from_of (Some l) = l.from

abbrev pub by_of : Option Link → ℕ
by_of None = 0
by_of (Some l) = mark_number l.by

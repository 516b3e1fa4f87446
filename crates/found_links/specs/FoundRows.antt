-- The rows that the links of certificates and chains are found from.
use Rattle.std.specs.Prelude.{◌≡◌, cond, List, ℕ, zero, suc, ◌+◌, ◌-◌, ◌≤◌, ◌<◌, min, eqb, get_or}
use Rattle.calculus.specs.Numbers.Limit.{Limit}
use Rattle.calculus.specs.Envelopes.Envelope.{windows}
use Rattle.calculus.specs.Regulators.Clipper.{arrived}
use Rattle.calculus.specs.Regulators.Regulator.{convolution}
use Rattle.calculus.specs.Regulators.Rows.{envelope_of}
use Rattle.calculus.specs.Losses.Permitted.{Permitted}
use Rattle.certificate_calculus.specs.Certificate.{AdmittedLink}
use Rattle.certificate_calculus.specs.FoundLinks.{FirstDeparted}
use Rattle.refusals.specs.Table.{last_window}

-- Of a permitted pair: its totals admitted, lost and departed, and the first slots of its departed links, by the slots 0 to T.
pub record FoundRows (f : ℕ → ℕ) (d q : Limit) (a : ℕ → ℕ) (T : ℕ) (u v : ℕ → ℕ) (admitted lost departed starts : List ℕ) : Type 0 where
  pub permitted : Permitted (windows f) d q a T u v
  pub admits : (t : ℕ) → t ≤ T → get_or admitted t 0 ≡ u t
  pub loses : (t : ℕ) → t ≤ T → get_or lost t 0 ≡ arrived a t - u t
  pub departs : (t : ℕ) → t ≤ T → get_or departed t 0 ≡ v t
  pub first : (t : ℕ) → t ≤ T → FirstDeparted f u v t (get_or starts t 0)

-- The earliest slot from which a link of this mark to slot t holds; t where there is none.
pub record Earliest (f : ℕ → ℕ) (d q : Limit) (a : ℕ → ℕ) (T : ℕ) (u : ℕ → ℕ) (mark t s : ℕ) : Type 0 where
  pub within : s ≤ t
  pub link : s < t → AdmittedLink f d q a T u t s mark
  pub earliest : (r : ℕ) → AdmittedLink f d q a T u t r mark → s ≤ r

-- a row holds the first slots of the departed links to the slots 0 to n, whatever was admitted of which this departed
abbrev pub StartsTo : List ℕ → List ℕ → ℕ → List ℕ → ℕ → Type 0
StartsTo table departed T starts n =
    (u : ℕ → ℕ) → 1 ≤ last_window table → ((t : ℕ) → t ≤ T → get_or departed t 0 ≡ convolution u (windows (envelope_of table)) t)
    → (t : ℕ) → t ≤ n → FirstDeparted (envelope_of table) u (convolution u (windows (envelope_of table))) t (get_or starts t 0)

-- the slot that a departed link to slot t starts from by way of slot t-k: that of slot t-k where the table's entry at k departs in between, else t
unfoldable pub start_via : List ℕ → List ℕ → List ℕ → ℕ → ℕ → ℕ
start_via table departed starts t k = cond (eqb (get_or departed (t - k) 0 + get_or table k 0) (get_or departed t 0)) (get_or starts (t - k) 0) t

-- the least of a number and of h at 1 to n
unfoldable pub least_to : ℕ → (ℕ → ℕ) → ℕ → ℕ
least_to first h zero = first
least_to first h (suc n) = min (least_to first h n) (h (suc n))

-- the earliest of these over the windows 1 to n
abbrev pub start_within : List ℕ → List ℕ → List ℕ → ℕ → ℕ → ℕ
start_within table departed starts t = least_to t (start_via table departed starts t)

-- Totals admitted, lost and departed by the slots 0 to n of arrivals of which u is admitted; what departs is u through the regulator of the table.
pub record Totals (table : List ℕ) (a u : ℕ → ℕ) (n : ℕ) (admitted lost departed : List ℕ) : Type 0 where
  pub admits : (t : ℕ) → t ≤ n → get_or admitted t 0 ≡ u t
  pub loses : (t : ℕ) → t ≤ n → get_or lost t 0 ≡ arrived a t - u t
  pub departs : (t : ℕ) → t ≤ n → get_or departed t 0 ≡ convolution u (windows (envelope_of table)) t

-- nothing arrives and nothing is admitted after slot n
pub record Ended (a u : ℕ → ℕ) (n : ℕ) : Type 0 where
  pub arrives : (t : ℕ) → n ≤ t → arrived a t ≡ arrived a n
  pub admits : (t : ℕ) → n ≤ t → u t ≡ u n

-- what has departed by slot t of a total: no more than the table's entries at the windows 1 to n let depart in the last slots
abbrev pub departed_within : List ℕ → List ℕ → ℕ → ℕ → ℕ → ℕ
departed_within table departed total t = least_to total (λ k. get_or departed (t - k) 0 + get_or table k 0)

-- Certificates: links that say why nobody could have done better. Beside anyone's totals, admitted u and departed v, a certificate names
-- for each slot t a link that bounds what anyone can have admitted by t, and a slot from which f bounds what anyone can have departed by t.
use Rattle.std.specs.Prelude.{◌≡◌, List, ℕ, ◌+◌, ◌-◌, ◌≤◌, ◌<◌}
use Rattle.calculus.specs.Numbers.Limit.{Limit, at_most}
use Rattle.calculus.specs.Envelopes.Envelope.{windows}
use Rattle.calculus.specs.Regulators.Clipper.{arrived}
use Rattle.calculus.specs.Regulators.Trace.{arrivals}
use Rattle.calculus.specs.Losses.Permitted.{Permitted}

-- A certificate: for each slot t the first slot and the mark of its admitted link, and the first slot of its departed link.
pub record Links : Type 0 where
  pub admitted_from : ℕ → ℕ
  pub admitted_by : ℕ → ℕ
  pub departed_from : ℕ → ℕ

-- the number that a list has for slot t, slot 1 being first
abbrev pub at_slot : List ℕ → ℕ → ℕ
at_slot = arrivals

-- the links that three lists name
abbrev pub links_of : List ℕ → List ℕ → List ℕ → Links
links_of from by gone = record { admitted_from = at_slot from; admitted_by = at_slot by; departed_from = at_slot gone }

-- A departed link from slot r, at most t, to slot t: V(t) is U(r) + f(t-r).
pub record DepartedLink (f u v : ℕ → ℕ) (t r : ℕ) : Type 0 where
  pub by : r ≤ t
  pub makes : v t ≡ u r + f (t - r)

module _ (f : ℕ → ℕ) (d q : Limit) (a : ℕ → ℕ) (T : ℕ) where
  -- The usable amounts of a link from slot s to slot t, by its mark (request 2.8). A limit that is none marks no link.
  pub data Usable (s t packets : ℕ) : ℕ → Type 0 where
    -- 1, arrivals: A(t) - A(s)
    by_arrivals : packets ≡ arrived a t - arrived a s → Usable s t packets 1
    -- 2, delay: f(t-s+d), only where the deadline t+d lies in the trace
    by_delay : (n : ℕ) → d ≡ at_most n → t + n ≤ T → packets ≡ f (t - s + n) → Usable s t packets 2
    -- 3, buffer: f(t-s-1) + q
    by_buffer : (n : ℕ) → q ≡ at_most n → packets ≡ f (t - s - 1) + n → Usable s t packets 3

  -- An admitted link from slot s, below t, to slot t: U(t) is U(s) plus a usable amount.
  pub record AdmittedLink (u : ℕ → ℕ) (t s mark : ℕ) : Type 0 where
    pub earlier : s < t
    pub packets : ℕ
    pub amounts : Usable s t packets mark
    pub makes : u t ≡ u s + packets

  -- A certified pair: it is permitted, and both links hold in each slot of 1 to T.
  pub record Certified (u v : ℕ → ℕ) (links : Links) : Type 0 where
    pub permitted : Permitted (windows f) d q a T u v
    pub admitted_link : (t : ℕ) → 1 ≤ t → t ≤ T → AdmittedLink u t (links.admitted_from t) (links.admitted_by t)
    pub departed_link : (t : ℕ) → 1 ≤ t → t ≤ T → DepartedLink f u v t (links.departed_from t)

  -- A slot counts where its admitted links lead back to slot 0 through slots that all have one.
  pub data Counts (u : ℕ → ℕ) (links : Links) : ℕ → Type 0 where
    start : Counts u links 0
    linked : {t : ℕ} → AdmittedLink u t (links.admitted_from t) (links.admitted_by t) → Counts u links (links.admitted_from t) → Counts u links t

-- Certificates by hand.
use Rattle.std.specs.Prelude.{◌≡◌, List, [], ◌∷◌, ℕ, length}
use Rattle.calculus.specs.Numbers.Limit.{Limit, none, at_most}
use Rattle.calculus.specs.Envelopes.Envelope.{windows}
use Rattle.calculus.specs.Regulators.Clipper.{admitted}
use Rattle.calculus.specs.Regulators.Trace.{arrivals, sum_to, slot_totals}
use Rattle.calculus.specs.Regulators.Rows.{envelope_of}
use Rattle.calculus.specs.Losses.Permitted.{Permitted}
use Rattle.certificate_calculus.specs.Certificate.{links_of, AdmittedLink, Certified, Counts}
use Rattle.certificate_calculus.specs.FoundLinks.{found_from, found_mark, found_departed}
use Rattle.certificate_calculus.specs.LackingLinks.{lack_at, lacking_slot}

-- the lists of found links of counts admitted and departed, for a table, the limits and a trace
pub record FoundLists (table : List ℕ) (d q : Limit) (trace ins outs from by gone : List ℕ) : Type 0 where
  pub starts : slot_totals (found_from (envelope_of table) d q (arrivals trace) (length trace) (sum_to ins)) (length trace) ≡ from
  pub marked : slot_totals (found_mark (envelope_of table) d q (arrivals trace) (length trace) (sum_to ins)) (length trace) ≡ by
  pub left : slot_totals (found_departed (envelope_of table) (sum_to ins) (sum_to outs)) (length trace) ≡ gone

-- the first slot of the six-packet burst that lacks a link, with these links, and what a slot of it lacks
unfoldable pub burst_slot : List ℕ → List ℕ → List ℕ → ℕ
burst_slot from by gone =
    lacking_slot (envelope_of (0 ∷ 4 ∷ 8 ∷ 12 ∷ 16 ∷ 17 ∷ 18 ∷ [])) none (at_most 4) (arrivals (6 ∷ 6 ∷ 6 ∷ 6 ∷ [])) 4 (sum_to (4 ∷ 4 ∷ 4 ∷ 4 ∷ [])) (sum_to (4 ∷ 4 ∷ 4 ∷ 4 ∷ []))
    (links_of from by gone)

unfoldable pub burst_lack : List ℕ → List ℕ → List ℕ → ℕ → ℕ
burst_lack from by gone =
    lack_at (envelope_of (0 ∷ 4 ∷ 8 ∷ 12 ∷ 16 ∷ 17 ∷ 18 ∷ [])) none (at_most 4) (arrivals (6 ∷ 6 ∷ 6 ∷ 6 ∷ [])) 4 (sum_to (4 ∷ 4 ∷ 4 ∷ 4 ∷ [])) (sum_to (4 ∷ 4 ∷ 4 ∷ 4 ∷ []))
    (links_of from by gone)

pub record CertificateSample : Type 0 where
  -- The six-packet burst of document 01: of six packets in each slot four are admitted and leave, f(t-1) + 4 and f(t) from slot 0.
  pub burst :
      FoundLists (0 ∷ 4 ∷ 8 ∷ 12 ∷ 16 ∷ 17 ∷ 18 ∷ []) none (at_most 4) (6 ∷ 6 ∷ 6 ∷ 6 ∷ []) (4 ∷ 4 ∷ 4 ∷ 4 ∷ []) (4 ∷ 4 ∷ 4 ∷ 4 ∷ [])
      (0 ∷ 0 ∷ 0 ∷ 0 ∷ []) (3 ∷ 3 ∷ 3 ∷ 3 ∷ []) (0 ∷ 0 ∷ 0 ∷ 0 ∷ [])
  -- Its links hold in all four slots, and so do others from the slot before.
  pub burst_holds : burst_slot (0 ∷ 0 ∷ 0 ∷ 0 ∷ []) (3 ∷ 3 ∷ 3 ∷ 3 ∷ []) (0 ∷ 0 ∷ 0 ∷ 0 ∷ []) ≡ 5
  pub burst_others : burst_slot (0 ∷ 1 ∷ 2 ∷ 3 ∷ []) (3 ∷ 3 ∷ 3 ∷ 3 ∷ []) (0 ∷ 1 ∷ 2 ∷ 3 ∷ []) ≡ 5
  -- A link from slot 2 itself does not, nor one of another mark, nor a departed link from slot 3 to slot 2: the first such slot is named. A
  -- slot whose links both fail lacks 6, and one whose departed link alone does 7.
  pub burst_itself : burst_slot (0 ∷ 2 ∷ 0 ∷ 0 ∷ []) (3 ∷ 1 ∷ 2 ∷ 3 ∷ []) (0 ∷ 0 ∷ 0 ∷ 0 ∷ []) ≡ 2
  pub burst_marked : burst_slot (0 ∷ 0 ∷ 0 ∷ 0 ∷ []) (3 ∷ 3 ∷ 2 ∷ 3 ∷ []) (0 ∷ 0 ∷ 0 ∷ 0 ∷ []) ≡ 3
  pub burst_later : burst_slot (0 ∷ 0 ∷ 0 ∷ 0 ∷ []) (3 ∷ 3 ∷ 3 ∷ 3 ∷ []) (0 ∷ 3 ∷ 0 ∷ 0 ∷ []) ≡ 2
  pub burst_six : burst_lack (0 ∷ 2 ∷ 0 ∷ 0 ∷ []) (3 ∷ 1 ∷ 3 ∷ 3 ∷ []) (0 ∷ 3 ∷ 0 ∷ 0 ∷ []) 2 ≡ 6
  pub burst_seven : burst_lack (0 ∷ 0 ∷ 0 ∷ 0 ∷ []) (3 ∷ 3 ∷ 3 ∷ 3 ∷ []) (0 ∷ 3 ∷ 0 ∷ 0 ∷ []) 2 ≡ 7
  -- A departed link does not start later than it ends, although its sum is right: one packet that leaves in slot 1, and an empty slot.
  pub later_start :
      lack_at (envelope_of (0 ∷ 2 ∷ 3 ∷ [])) none (at_most 9) (arrivals (1 ∷ 0 ∷ [])) 2 (sum_to (1 ∷ 0 ∷ [])) (sum_to (1 ∷ 0 ∷ []))
      (links_of (0 ∷ 1 ∷ []) (1 ∷ 1 ∷ []) (2 ∷ 2 ∷ [])) 1
      ≡ 7
  -- Table 0,2,3, d 1, q 9, arrivals 5,0,4,0: f(2) to slot 1, nothing arrives in slot 2, f(4) to slot 3, and nothing arrives in slot 4.
  pub delayed :
      FoundLists (0 ∷ 2 ∷ 3 ∷ []) (at_most 1) (at_most 9) (5 ∷ 0 ∷ 4 ∷ 0 ∷ []) (3 ∷ 0 ∷ 3 ∷ 0 ∷ []) (2 ∷ 1 ∷ 2 ∷ 1 ∷ [])
      (0 ∷ 1 ∷ 0 ∷ 3 ∷ []) (2 ∷ 1 ∷ 2 ∷ 1 ∷ []) (0 ∷ 0 ∷ 0 ∷ 0 ∷ [])
  -- The lowest mark is taken: two packets arrive in slot 1, and f(1) lets two be in time.
  pub tie : FoundLists (0 ∷ 2 ∷ 3 ∷ []) (at_most 0) (at_most 9) (2 ∷ []) (2 ∷ []) (2 ∷ []) (0 ∷ []) (1 ∷ []) (0 ∷ [])
  -- The same of five packets, of which f(1) lets two be in time and the buffer holds two.
  pub limits_tie : FoundLists (0 ∷ 2 ∷ 3 ∷ []) (at_most 0) (at_most 2) (5 ∷ []) (2 ∷ []) (2 ∷ []) (0 ∷ []) (2 ∷ []) (0 ∷ [])
  -- Cut after slot 3 the rows of arrivals 5,0,4,0 have no link to it, and 0 stands for it: f(4) would make 6, but the deadline, slot 4, lies beyond the trace.
  pub undue :
      FoundLists (0 ∷ 2 ∷ 3 ∷ []) (at_most 1) (at_most 9) (5 ∷ 0 ∷ 4 ∷ []) (3 ∷ 0 ∷ 3 ∷ []) (2 ∷ 1 ∷ 2 ∷ [])
      (0 ∷ 1 ∷ 0 ∷ []) (2 ∷ 1 ∷ 0 ∷ []) (0 ∷ 0 ∷ 0 ∷ [])
  -- Without demand 3's premise a certified pair need not be ours: cut after slot 1, U 5 and V 2 are certified, and X(1) is 3.
  pub not_ours : Certified (envelope_of (0 ∷ 2 ∷ 3 ∷ [])) (at_most 1) (at_most 9) (arrivals (5 ∷ [])) 1 (sum_to (5 ∷ [])) (sum_to (2 ∷ [])) (links_of (0 ∷ []) (1 ∷ []) (0 ∷ []))
  pub ours : admitted (windows (envelope_of (0 ∷ 2 ∷ 3 ∷ []))) (at_most 1) (at_most 9) (arrivals (5 ∷ [])) 1 ≡ 3
  -- A link from a slot that does not count proves nothing. Table 0,1, d 2, no buffer limit, arrivals 4,0: we admit 3,0, slot 1 has no link,
  -- slot 2 has one from slot 1, and a pair that admits 4,0 is permitted.
  pub loose : FoundLists (0 ∷ 1 ∷ []) (at_most 2) none (4 ∷ 0 ∷ []) (3 ∷ 0 ∷ []) (1 ∷ 1 ∷ []) (0 ∷ 1 ∷ []) (0 ∷ 1 ∷ []) (0 ∷ 0 ∷ [])
  pub loose_link : AdmittedLink (envelope_of (0 ∷ 1 ∷ [])) (at_most 2) none (arrivals (4 ∷ 0 ∷ [])) 2 (sum_to (3 ∷ 0 ∷ [])) 2 1 1
  pub loose_better : Permitted (windows (envelope_of (0 ∷ 1 ∷ []))) (at_most 2) none (arrivals (4 ∷ 0 ∷ [])) 2 (sum_to (4 ∷ 0 ∷ [])) (sum_to (1 ∷ 1 ∷ []))
  pub loose_uncounted : Counts (envelope_of (0 ∷ 1 ∷ [])) (at_most 2) none (arrivals (4 ∷ 0 ∷ [])) 2 (sum_to (3 ∷ 0 ∷ [])) (links_of (0 ∷ 1 ∷ []) (0 ∷ 1 ∷ []) (0 ∷ 0 ∷ [])) 2 → ⊥

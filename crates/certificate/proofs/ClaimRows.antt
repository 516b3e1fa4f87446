-- What is known of a claim that gets no number, and the rows that its links are checked from.
use mathlib.Core.Path.{◌≡◌, refl}
use mathlib.Core.List.{List}
use Prim.Native.Nat.{ℕ, suc, ◌+◌, ◌≤◌, ◌<◌, min}
use native.Mathlib.Omega.{arith}
use lib.ListN.{length}
use Rattle.calculus.specs.Numbers.Limit.{Limit, delay_limit, buffer_limit}
use Rattle.calculus.specs.Envelopes.Envelope.{windows}
use Rattle.calculus.specs.Regulators.Trace.{arrivals, sum_to}
use Rattle.calculus.specs.Regulators.Rows.{envelope_of}
use Rattle.calculus.specs.Losses.Permitted.{Permitted}
use Rattle.calculus.proofs.Numbers.Rising.{rising}
use Rattle.certificate_calculus.specs.Certificate.{Links}
use Rattle.certificate_calculus.proofs.UsableLinks.{permitted-arrived}
use Rattle.orders.specs.Refusal.{◌or_else◌}
use Rattle.refusals.specs.Limits.{set_up_refusal}
use Rattle.refusals.specs.Lengths.{length_refusal, lists_refusal, counts_refusal}
use Rattle.orders.proofs.Refusals.{or_else_none}
use Rattle.refusals.proofs.Measured.{list_same, same_list, length_most, most-length}
use Rattle.refusals.proofs.TraceCounts.{counts_few}
use Rattle.refusals.proofs.AcceptedSettings.{arrived-bound}
use Rattle.chain.specs.Refusals.{chain_refusal}
use Rattle.chain.proofs.ChainJudged.{chain-asked}
use Rattle.chain.specs.Rows.{Filled, summed_over}
use Rattle.chain.proofs.PreparedRows.{total-sums, buffer_narrow, checkable}
use Rattle.rivals.specs.Judgement.{rival_refusal}
use Rattle.rivals.proofs.JudgedPermitted.{judged_permitted}
use Rattle.certificate.specs.Claim.{Claim, of_claim}
use Rattle.certificate.specs.CheckRows.{CheckRows}
use Rattle.certificate.specs.Checked.{five_lists_refusal, certificate_refusal, rows_judged}
use Rattle.found_links.proofs.OurRows.{arrivals_few}

-- A law of totals with their links, as a law of a claim's.
pub at_claim : {P : (f : ℕ → ℕ) (d q : Limit) (a : ℕ → ℕ) (T : ℕ) (u v : ℕ → ℕ) (links : Links) → Type 0}
    → ((f : ℕ → ℕ) (d q : Limit) (a : ℕ → ℕ) (T : ℕ) (u v : ℕ → ℕ) (links : Links) → P f d q a T u v links) → (c : Claim) → of_claim P c
at_claim law c = law _ _ _ _ _ _ _ _

pub record AcceptedClaim (c : Claim) : Type 0 where
  pub set_up : set_up_refusal c.table c.delay c.buffer ≡ 0
  pub short : length c.trace ≤ 4096
  pub long_admitted : length c.admitted ≡ length c.trace
  pub long_departed : length c.departed ≡ length c.trace
  pub long_from : length c.admitted_from ≡ length c.trace
  pub long_by : length c.admitted_by ≡ length c.trace
  pub long_gone : length c.departed_from ≡ length c.trace
  pub counted : counts_refusal c.trace ≡ 0

module _ (c : Claim) where
  abbrev N : ℕ
  N = length c.trace

  pub claim-accepted : certificate_refusal c ≡ 0 → AcceptedClaim c
  unfolding certificate_refusal five_lists_refusal
  claim-accepted e =
      let (set, later) = or_else_none (set_up_refusal c.table c.delay c.buffer) _ e in
      let (short, rest) = or_else_none (length_refusal N) _ later in
      let (lists, counts) = or_else_none (five_lists_refusal c) _ rest in
      let (first, others) = or_else_none (lists_refusal N (length c.admitted)) _ lists in
      let (second, links) = or_else_none (lists_refusal N (length c.departed)) _ others in
      let (third, left) = or_else_none (lists_refusal N (length c.admitted_from)) _ links in
      let (fourth, fifth) = or_else_none (lists_refusal N (length c.admitted_by)) _ left in
      record {
        set_up = set;
        short = length_most N short;
        long_admitted = list_same N _ first;
        long_departed = list_same N _ second;
        long_from = list_same N _ third;
        long_by = list_same N _ fourth;
        long_gone = list_same N _ fifth;
        counted = counts;
      }

  -- The other way: a claim that has all that gets no number.
  pub accepted_claim : AcceptedClaim c → certificate_refusal c ≡ 0
  unfolding certificate_refusal five_lists_refusal ◌or_else◌
  accepted_claim ok =
      rw (
        ok.set_up,
        most-length N ok.short,
        same_list N (length c.admitted) ok.long_admitted,
        same_list N (length c.departed) ok.long_departed,
        same_list N (length c.admitted_from) ok.long_from,
        same_list N (length c.admitted_by) ok.long_by,
        same_list N (length c.departed_from) ok.long_gone,
      )
      ok.counted

  module _ (ok : AcceptedClaim c) where
    -- Neither the judge of the rows nor a chain to the last slot gets one.
    pub claim_judged : rival_refusal c.table c.delay c.buffer c.trace (length c.admitted) (length c.departed) ≡ 0
    unfolding rival_refusal ◌or_else◌
    claim_judged =
        rw (ok.set_up, most-length N ok.short, same_list N (length c.admitted) ok.long_admitted, same_list N (length c.departed) ok.long_departed) ok.counted

    claim_chained : chain_refusal c.table c.delay c.buffer c.trace N (suc N) (suc N) (suc N) ≡ 0
    claim_chained = chain-asked c.table c.delay c.buffer c.trace N (suc N) (suc N) (suc N) ok.set_up ok.short refl refl refl ok.counted (omega arith)

    -- The buffer limit fits 32 bits.
    pub claim-buffer : c.buffer < 4294967296
    claim-buffer = buffer_narrow c.table c.delay c.buffer c.trace N (suc N) (suc N) (suc N) claim_chained

    module _ (kept : (rows_judged c).rule ≡ 0) where
      pub claim_permitted : Permitted (windows (envelope_of c.table)) (delay_limit c.delay) (buffer_limit c.buffer) (arrivals c.trace) N (sum_to c.admitted) (sum_to c.departed)
      claim_permitted = (judged_permitted c.table c.delay c.buffer c.trace c.admitted c.departed claim_judged).0 kept

      -- The totals of rows that are permitted fit 32 bits.
      admitted_fits : (k : ℕ) → k ≤ N → sum_to c.admitted k < 4294967296
      admitted_fits k p =
          omega (
            arith,
            permitted-arrived _ _ _ _ N _ _ claim_permitted k p,
            arrived-bound (arrivals c.trace) k (λ i _. arrivals_few c.trace (counts_few c.trace ok.counted) i),
            ok.short,
          )

      departed_fits : (k : ℕ) → k ≤ N → sum_to c.departed k < 4294967296
      departed_fits k p = omega (arith, claim_permitted.departs-admitted k p, admitted_fits k p)

      pub claim_rows : (blank row blank₁ came blank₂ ins blank₃ outs : List ℕ) → Filled c.table blank row (min (N + 64) 4160)
          → came ≡ summed_over c.trace blank₁ → ins ≡ summed_over c.admitted blank₂ → outs ≡ summed_over c.departed blank₃
          → CheckRows c.table c.delay c.buffer c.trace N (sum_to c.admitted) (sum_to c.departed) row came ins outs
      claim_rows blank row blank₁ came blank₂ ins blank₃ outs filled arriving admitting departing =
          record {
            checkable = checkable c.table c.delay c.buffer c.trace N (suc N) (suc N) (suc N) claim_chained blank row filled blank₁ came arriving;
            rises = rising (sum_to c.admitted) N claim_permitted.admitted_rises;
            admits = total-sums c.admitted blank₂ ins N ok.long_admitted ok.short admitted_fits admitting;
            departs = total-sums c.departed blank₃ outs N ok.long_departed ok.short departed_fits departing;
          }

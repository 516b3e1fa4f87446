-- The exported envelope answers f of an accepted table and its first piece at windows 0 to 4,160, else the first number that applies.
use mathlib.Core.Path.{◌≡◌, refl, sym, ap, ◌∙◌}
use mathlib.Core.List.{List}
use Prim.Native.Nat.{ℕ, ◌≤◌, ◌<◌}
use Rattle.calculus.specs.Envelopes.Piece.{table_piece}
use Rattle.calculus.specs.Regulators.Rows.{envelope_of}
use Rattle.refusals.specs.Table.{table_refusal}
use Rattle.settings.specs.Taken.{taken, Taken}
use Rattle.orders.specs.Verdict.{Accepted}
use Rattle.settings.proofs.TakenTable.{taken-accepted, taken_refused}
use Rattle.question.proofs.Asked.{asked-answers, asked_above}
use Rattle.c_answers.specs.Numbered.{bound_of, envelope_at}
use Rattle.exports.proofs.ByNumber.{accepted-asked, refused_numbered}

module _ (table : List ℕ) (window : ℕ) where
  -- A refused table gets its number.
  pub envelope_refused : (table_refusal table ≡ 0 → ⊥) → envelope_at table window ≡ record { number = table_refusal table; piece = 0; packets = 0 }
  envelope_refused p =
      sym (refused_numbered (taken table) table window (table_refusal table) refl (ap (λ (t : Taken). t.verdict) (sym (taken_refused table (table_refusal table) p refl))))

  module _ (accepted : table_refusal table ≡ 0) where
    taken_verdict : (taken table).verdict ≡ Accepted
    taken_verdict = ap (λ (t : Taken). t.verdict) (sym (taken-accepted table accepted))

    -- A window above 4,160 gets 5.
    pub envelope_above : 4160 < window → envelope_at table window ≡ record { number = 5; piece = 0; packets = 0 }
    unfolding bound_of
    envelope_above p = sym (accepted-asked (taken table) table window refl taken_verdict) ∙ ap bound_of (asked_above (taken table).envelope window p)

    -- Any other gets 0, f and its first piece.
    pub envelope-answers : window ≤ 4160 → envelope_at table window ≡ record { number = 0; piece = table_piece table window; packets = envelope_of table window }
    unfolding bound_of
    envelope-answers p = sym (accepted-asked (taken table) table window refl taken_verdict) ∙ ap bound_of (asked-answers table window accepted p)

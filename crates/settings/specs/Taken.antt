-- What becomes of a table that is taken (document 01, "The envelope").
use Rattle.std.specs.Prelude.{ℕ, zero, suc, List, get_or, replicate, Result, Ok, Err}
use Rattle.calculus.specs.Numbers.Lists.{list_of}
use Rattle.refusals.specs.Table.{last_window, table_refusal}
use Rattle.envelope.specs.declared.table.Envelope.{Envelope}
use Rattle.orders.specs.Verdict.{Verdict, Accepted, Refused}
use Rattle.orders.specs.Answered.{refusal_number}
use Rattle.orders.specs.declared.refusal.Refusal.{Refusal}

-- the table's entries at the windows 0 to 64, 0 after window L
unfoldable pub padded_table : List ℕ → List ℕ
padded_table table = list_of (λ k. get_or table k 0) 65

-- the envelope of a table, and the one of zeros that stands for none
unfoldable pub envelope_from : List ℕ → Envelope
envelope_from table = record { last = record { 0 = last_window table }; table = padded_table table }

unfoldable pub no_envelope : Envelope
no_envelope = record { last = record { 0 = 0 }; table = replicate 65 0 }

-- what comes of a table: the verdict, and the envelope
pub record Taken : Type 0 where
  pub verdict : Verdict
  pub envelope : Envelope

-- A table is judged; an accepted one becomes an envelope.
unfoldable pub taken_by : List ℕ → ℕ → Taken
taken_by table zero = record { verdict = Accepted; envelope = envelope_from table }
taken_by table (suc n) = record { verdict = Refused (suc n); envelope = no_envelope }

unfoldable pub taken : List ℕ → Taken
taken table = taken_by table (table_refusal table)

-- what a call that takes a table gives
unfoldable pub taken_given : Result Envelope Refusal → Taken
taken_given (Ok envelope) = record { verdict = Accepted; envelope = envelope }
taken_given (Err refusal) = record { verdict = Refused (refusal_number refusal); envelope = no_envelope }

-- What a refused file prints: the word refused, a space, the digits of the first number that applies on the page of orders, a line feed.
use mathlib.Core.Path.{◌≡◌, refl}
use mathlib.Core.List.{List, [], ◌∷◌, ◌++◌}
use Prim.Native.Nat.{ℕ, zero, suc, ◌<◌}
use native.Mathlib.Omega.{arith}
use lib.ListN.{length, replicate}
use Rattle.orders.specs.Order.{FirstThatApplies}
use Rattle.orders.specs.Places.{file_order}
use Rattle.refusals.proofs.OrderedRefusals.{judged}
use Rattle.orders.specs.Refusal.{pick, ◌when◌, ◌or_else◌}
use Rattle.refusals.specs.Table.{last_refusal}
use Rattle.text.specs.Digits.{last_digit, digits_within, digits}
use Rattle.text.specs.Lines.{bytes, numbers, line, refused_text}
use Rattle.stream.specs.Format as held
use Rattle.stream.specs.Format.{number_at}
use Rattle.stream.specs.Refusals.{few_bytes_refusal, sizes_refusal, file_refusal}
use Rattle.stream.proofs.Orders.{file_order_lem}
use Rattle.loss_table.specs.Text.{text_by, printed_text}
use Rattle.loss_table.specs.RefusedSample.{RefusedSample}

-- A number that is no 0 is printed so.
number_text : (file : List ℕ) (n : ℕ) → 0 < n → text_by n file ≡ bytes "refused" ++ (32 ∷ (digits n ++ (10 ∷ [])))
unfolding text_by refused_text line numbers
number_text file zero some = absurd (omega arith)
number_text file (suc n) some = refl

pub refused_says : (file : List ℕ) (n : ℕ)
    → FirstThatApplies (file_order (length file) (held.last file) (held.slots file) (held.bursts file) (held.table_of file) (held.delay file) (held.buffer file) (held.burst_slots file) (held.burst_counts file)) n
    → 0 < n → printed_text file ≡ bytes "refused" ++ (32 ∷ (digits n ++ (10 ∷ [])))
unfolding printed_text
refused_says file n first some =
    let same : n ≡ file_refusal file = (judged _ (file_refusal file) (file_order_lem file)).only n first in
    rw (← same) (number_text file n some)

nineteen : file_refusal (replicate 19 0) ≡ 12
unfolding ◌when◌ ◌or_else◌ few_bytes_refusal sizes_refusal file_refusal
nineteen = refl

twenty : file_refusal (replicate 20 0) ≡ 1
unfolding pick ◌when◌ ◌or_else◌ last_refusal number_at few_bytes_refusal sizes_refusal file_refusal
twenty = refl

pub refused_sample : RefusedSample
unfolding printed_text text_by refused_text line numbers digits digits_within last_digit bytes
refused_sample = record { few_bytes = rw nineteen; no_windows = rw twenty }

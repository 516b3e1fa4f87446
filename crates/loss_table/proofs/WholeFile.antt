-- A file that is cut after some bytes, as it is read and as its text is written.
use Rattle.std.proofs.Common.{◌≡◌, List, [], ◌++◌, take, length, ℕ, IfSome, OnOk, refl, ap, ◌∙◌}
use Rattle.std.specs.Prelude.{Option, None, Some, Result, Ok, Err, drop}
use Rattle.std.specs.Option.{option_map}
use Rattle.std.proofs.Math.Seq.{take-append_seam}
use Rattle.text.specs.Printed.{Printed, only_if}
use Rattle.loss_table.specs.Text.{printed_text, printed_in}
use Rattle.loss_table.proofs.LongFile.{long_file}

pub cut_read : (bytes : Option (List ℕ)) (most : ℕ) (before read : List ℕ)
    → before ≡ []
    → IfSome (option_map (take most) bytes) (λ given. read ≡ before ++ given)
    → IfSome bytes (λ file. read ≡ take most file)
cut_read None most before read e p = tt
cut_read (Some file) most before read e p = p ∙ ap (λ (l : List ℕ). l ++ take most file) e

room_for_all : (file : List ℕ) → printed_in 262272 file ≡ printed_text file
unfolding printed_in only_if
room_for_all file = refl

text_alone : (before text after : List ℕ) (r : ℕ) → Printed before text after r → take r after ≡ text
text_alone before text after r p = rw (p.bytes, p.count) (take-append_seam text (drop (length text) before))

pub text_sent : (room after file : List ℕ) (r : ℕ)
    → length room ≡ 262272
    → Printed room (printed_in (length room) file) after r
    → take r after ≡ printed_text file
text_sent room after file r e p = rw (← room_for_all file, ← e) (text_alone room (printed_in (length room) file) after r p)

pub whole_written : {E : Type 0} (written : Result Unit E) (bytes : Option (List ℕ)) (read sent : List ℕ) (Sent : List ℕ → Type 0)
    → IfSome bytes (λ file. read ≡ take 65536 file)
    → sent ≡ printed_text read
    → OnOk written (Sent sent)
    → OnOk written (IfSome bytes (λ file. Sent (printed_text file)))
whole_written (Ok done) None read sent Sent p e s = tt
whole_written (Ok done) (Some file) read sent Sent p e s = rw (← long_file file, ← p, ← e) s
whole_written (Err cause) bytes read sent Sent p e s = tt

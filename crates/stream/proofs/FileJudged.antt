-- What a file that gets no number is known to be, and how its judgment is put together.
use mathlib.Core.Path.{◌≡◌, sym, ap, ◌∙◌}
use mathlib.Core.Bool.{not}
use mathlib.Core.List.{List}
use Prim.Native.Nat.{ℕ, ◌+◌, ◌*◌, ◌≤◌}
use lib.ListN.{length}
use lib.Dec.{ltb, eqb}
use borrow.Author.Tests.{ltb-false, eqb-true, not-false}
use Rattle.calculus.specs.Numbers.Lists.{list_of}
use Rattle.calculus.proofs.Numbers.Lists.{length-list_of}
use Rattle.orders.specs.Refusal.{◌or_else◌}
use Rattle.refusals.specs.Table.{last_refusal, values_refusal}
use Rattle.orders.proofs.Refusals.{or_else-first, or_else_none, when_none}
use Rattle.refusals.proofs.TableJudged.{last-accepted}
use Rattle.refusals.specs.Limits.{delay_refusal, buffer_refusal}
use Rattle.refusals.specs.Lengths.{length_refusal, counts_refusal}
use Rattle.stream.specs.Format.{number_at, last, slots, bursts, delay, buffer, table_of, burst_slots, burst_counts, file_trace}
use Rattle.stream.specs.Refusals.{few_bytes_refusal, size_refusal, bursts_refusal, sizes_refusal, contents_refusal, file_refusal}

pub length-table : (file : List ℕ) → length (table_of file) ≡ last file + 1
unfolding table_of
length-table file = length-list_of _ (last file + 1)

pub length-trace : (file : List ℕ) → length (file_trace file) ≡ slots file
unfolding file_trace
length-trace file = length-list_of _ (slots file)

-- A list of the table's length that is filled from the sixth number on is the table.
pub table_filled : (file entries : List ℕ) (n : ℕ) → n ≡ last file + 1 → entries ≡ list_of (λ k. number_at file (5 + k)) n → entries ≡ table_of file
unfolding table_of
table_filled file entries n long e = e ∙ ap (list_of (λ k. number_at file (5 + k))) long

-- A number of slots or bursts that gets no number is at most 4,096.
pub short-length : (n : ℕ) → length_refusal n ≡ 0 → n ≤ 4096
unfolding length_refusal
short-length n e = ltb-false 4096 n (when_none 9 (ltb 4096 n) e)

exact_size : (size l m : ℕ) → size_refusal size l m ≡ 0 → size ≡ 20 + 4 * (l + 1) + 8 * m
unfolding size_refusal
exact_size size l m e =
    let wanted = 20 + 4 * (l + 1) + 8 * m in
    eqb-true size wanted (not-false (eqb size wanted) (when_none 12 (not (eqb size wanted)) e))

-- The sizes of a file that gets no number for them.
pub record AcceptedSizes (file : List ℕ) : Type 0 where
  pub last_from : 1 ≤ last file
  pub last_to : last file ≤ 64
  pub few_slots : slots file ≤ 4096
  pub few_bursts : bursts file ≤ 4096
  pub size : length file ≡ 20 + 4 * (last file + 1) + 8 * bursts file

pub sizes-accepted : (file : List ℕ) → sizes_refusal file ≡ 0 → AcceptedSizes file
unfolding sizes_refusal
sizes-accepted file e =
    let (short, others) = or_else_none (few_bytes_refusal (length file)) _ e in
    let (window, later) = or_else_none (last_refusal (last file)) _ others in
    let (lengths, size) = or_else_none (length_refusal (slots file) or_else length_refusal (bursts file)) _ later in
    let (few, fewer) = or_else_none (length_refusal (slots file)) _ lengths in
    record {
      last_from = (last-accepted (last file) window).0;
      last_to = (last-accepted (last file) window).1;
      few_slots = short-length (slots file) few;
      few_bursts = short-length (bursts file) fewer;
      size = exact_size (length file) (last file) (bursts file) size;
    }

-- A file whose sizes get a number gets that number.
pub file_sizes : (file : List ℕ) (number : ℕ) → (number ≡ 0 → ⊥) → number ≡ sizes_refusal file → number ≡ file_refusal file
unfolding file_refusal
file_sizes file number p e = e ∙ sym (or_else-first (sizes_refusal file) (contents_refusal file) (λ none. p (e ∙ none)))

-- What a file that gets no number is known to be.
pub record AcceptedFile (file : List ℕ) : Type 0 where
  pub sizes : AcceptedSizes file
  pub values : values_refusal (table_of file) ≡ 0
  pub delayed : delay_refusal (delay file) ≡ 0
  pub buffered : buffer_refusal (buffer file) ≡ 0
  pub ordered : bursts_refusal (slots file) 0 (burst_slots file) ≡ 0
  pub counted : counts_refusal (burst_counts file) ≡ 0

pub file-accepted : (file : List ℕ) → file_refusal file ≡ 0 → AcceptedFile file
unfolding file_refusal contents_refusal
file-accepted file e =
    let (sizes, contents) = or_else_none (sizes_refusal file) _ e in
    let (values, limits) = or_else_none (values_refusal (table_of file)) _ contents in
    let (delayed, later) = or_else_none (delay_refusal (delay file)) _ limits in
    let (buffered, rest) = or_else_none (buffer_refusal (buffer file)) _ later in
    let (ordered, counted) = or_else_none (bursts_refusal (slots file) 0 (burst_slots file)) _ rest in
    record { sizes = sizes-accepted file sizes; values = values; delayed = delayed; buffered = buffered; ordered = ordered; counted = counted }

-- The orders of documents 01 ("Refused, by place") and 02, place by place, in the documents' words and numbers: nothing that code cites is used
-- here. The crate that judges a place proves that it keeps its order.
use Rattle.std.specs.Prelude.{◌≡◌, ◌≢◌, ◌⊎◌, List, [], ◌∷◌, ℕ, suc, ◌+◌, ◌-◌, ◌*◌, ◌/◌, ◌%◌, ◌^◌, ◌≤◌, ◌<◌, length, get_or, drop}
use Rattle.orders.specs.Order.{Order, ◌if◌, ◌then◌, ◌unless◌from◌to◌, each, through}

-- 1: L is not 1 to 64
abbrev pub last_order : ℕ → Order
last_order last = 1 unless last from 1 to 64

-- at each entry 3, above 1,000,000, before 4, below the one before
unfoldable pub entries_order : ℕ → List ℕ → Order
entries_order before [] = []
entries_order before (entry ∷ later) = 3 if (1000000 < entry) ∷ 4 if (entry < before) ∷ entries_order entry later

-- 2: f(0) is not 0; then entries from window 1 on
abbrev pub values_order : List ℕ → Order
values_order table = 2 if (get_or table 0 0 ≢ 0) ∷ entries_order 0 (drop 1 table)

-- Table: 1, 2, then entries from window 1 on, at each 3 before 4.
abbrev pub table_order : List ℕ → Order
table_order table = last_order (length table - 1) then values_order table

-- Envelope question: 5, window above 4,160.
abbrev pub question_order : ℕ → Order
question_order window = 5 if (4160 < window) ∷ []

-- Many windows at once, 0 to one less than the row's places: 5, more places than the windows 0 to 4,160; 11, a list of pieces not as long as the row.
abbrev pub windows_order : ℕ → ℕ → Order
windows_order row pieces = 5 if (4161 < row) ∷ 11 if (pieces ≢ row) ∷ []

-- 6: delay is neither 0 to 64 nor 255; 7: buffer is neither 0 to 1,000,000 nor 4,294,967,295
abbrev pub marked_order : ℕ → ℕ → Order
marked_order d q = 6 if ((64 < d) × (d ≢ 255)) ∷ 7 if ((1000000 < q) × (q ≢ 4294967295)) ∷ []

-- Limits: 6, 7, then 23, both limits none.
abbrev pub limits_order : ℕ → ℕ → Order
limits_order d q = marked_order d q then 23 if ((d ≡ 255) × (q ≡ 4294967295)) ∷ []

-- Set-up: table, 6, 7, 23.
abbrev pub set_up_order : List ℕ → ℕ → ℕ → Order
set_up_order table d q = table_order table then limits_order d q

-- Slot: 8, more than 1,000,000 arrivals; 9, 1,000,000 slots already taken.
abbrev pub slot_order : ℕ → ℕ → Order
slot_order n taken = 8 if (1000000 < n) ∷ 9 if (1000000 ≤ taken) ∷ []

-- 8 over all counts
abbrev pub counts_order : List ℕ → Order
counts_order counts = each (λ n. 8 if (1000000 < n) ∷ []) counts

-- Whole trace: set-up; 10, the trace's length above 4,096; 11, a lent list not as long as the trace; 8.
abbrev pub run_order : List ℕ → ℕ → ℕ → List ℕ → ℕ → ℕ → ℕ → Order
run_order table d q trace ins drops outs =
    set_up_order table d q
    then 10 if (4096 < length trace) ∷ []
    then 11 if (ins ≢ length trace) ∷ 11 if (drops ≢ length trace) ∷ 11 if (outs ≢ length trace) ∷ []
    then counts_order trace

-- The regulator alone (request 2.12), which has no limits to be judged: table; 10; 11; 8.
abbrev pub alone_order : List ℕ → List ℕ → ℕ → ℕ → ℕ → Order
alone_order table trace ins drops outs =
    table_order table
    then 10 if (4096 < length trace) ∷ []
    then 11 if (ins ≢ length trace) ∷ 11 if (drops ≢ length trace) ∷ 11 if (outs ≢ length trace) ∷ []
    then counts_order trace

-- Chain: as for a whole trace, its lists one longer than the trace; then 18, a slot t above the trace's length.
abbrev pub chain_order : List ℕ → ℕ → ℕ → List ℕ → ℕ → ℕ → ℕ → ℕ → Order
chain_order table d q trace t slots marks amounts =
    set_up_order table d q
    then 10 if (4096 < length trace) ∷ []
    then 11 if (slots ≢ suc (length trace)) ∷ 11 if (marks ≢ suc (length trace)) ∷ 11 if (amounts ≢ suc (length trace)) ∷ []
    then counts_order trace
    then 18 if (length trace < t) ∷ []

-- Path: 17, the number of stages is not 1 to 4; the tables from the first; 6, 7, 23, 10; 11, also for a list of stages not stages × slots long; 8.
abbrev pub path_order : ℕ → List (List ℕ) → ℕ → ℕ → List ℕ → ℕ → ℕ → ℕ → Order
path_order stages tables d q trace ins drops outs =
    17 unless stages from 1 to 4
    then each table_order tables
    then limits_order d q
    then 10 if (4096 < length trace) ∷ []
    then 11 if (ins ≢ length trace) ∷ 11 if (drops ≢ length trace) ∷ 11 if (outs ≢ stages * length trace) ∷ []
    then counts_order trace

-- 14 over all bursts: a slot number 0, above T, or not above the one before; 0 stands before the first
unfoldable pub bursts_order : ℕ → ℕ → List ℕ → Order
bursts_order most before [] = []
bursts_order most before (slot ∷ later) = 14 if ((slot ≡ 0) ⊎ (most < slot) ⊎ (slot ≤ before)) ∷ bursts_order most slot later

-- File: 12, fewer than 20 bytes; 1; 10, T or m above 4,096; 13, length is not 20 + 4 × (L+1) + 8 × m bytes; 2, then the entries; 6, 7; 14; 8.
abbrev pub file_order : ℕ → ℕ → ℕ → ℕ → List ℕ → ℕ → ℕ → List ℕ → List ℕ → Order
file_order bytes last slots bursts table d q burst_slots burst_counts =
    12 if (bytes < 20) ∷ []
    then last_order last
    then 10 if (4096 < slots) ∷ 10 if (4096 < bursts) ∷ []
    then 13 if (bytes ≢ 20 + 4 * (last + 1) + 8 * bursts) ∷ []
    then values_order table
    then marked_order d q
    then bursts_order slots 0 burst_slots
    then counts_order burst_counts

-- Device: 15, the number of buckets is not 1 to 4, an odd length being no number of buckets; 16, a rate or burst above 1,000,000; 6, 7, 23.
abbrev pub device_order : List ℕ → ℕ → ℕ → Order
device_order profile d q =
    15 if (length profile % 2 ≢ 0) ∷ 15 unless length profile / 2 from 1 to 4
    then each (λ x. 16 if (1000000 < x) ∷ []) profile
    then limits_order d q

-- Square, F(s,t) for the slots 0 to 32: 19, a non-zero entry on or below the diagonal; along the rows 3 and 4; 6, 7, 23; 20, a trace longer than
-- 32 - d slots, 32 with no delay limit, so every trace if d is 33 to 64; 11; 8.
abbrev pub square_order : (ℕ → ℕ → ℕ) → Order
square_order F =
    through (λ s. through (λ t. 19 if (F s t ≢ 0) ∷ []) s) 32
    then through (λ s. through (λ t. 3 if (1000000 < F s (suc t)) ∷ 4 if (F s (suc t) < F s t) ∷ []) 31) 32

abbrev pub square_run_order : (ℕ → ℕ → ℕ) → ℕ → ℕ → List ℕ → ℕ → ℕ → ℕ → Order
square_run_order F d q trace ins drops outs =
    square_order F
    then limits_order d q
    then 20 if ((32 < length trace) ⊎ ((d ≢ 255) × (32 < length trace + d))) ∷ []
    then 11 if (ins ≢ length trace) ∷ 11 if (drops ≢ length trace) ∷ 11 if (outs ≢ length trace) ∷ []
    then counts_order trace

-- Port: 21, streams outside 1 to 8 or a run above 256; 22, a deadline above 64; 11, for a list of another length, input included; 8.
abbrev pub port_order : List ℕ → ℕ → List ℕ → ℕ → ℕ → Order
port_order deadlines slots input sent late =
    (21 unless length deadlines from 1 to 8 then 21 if (256 < slots) ∷ [])
    then each (λ deadline. 22 if (64 < deadline) ∷ []) deadlines
    then 11 if (length input ≢ length deadlines * slots) ∷ 11 if (sent ≢ length deadlines * slots) ∷ 11 if (late ≢ length deadlines) ∷ []
    then counts_order input

-- The trace that loses most: set-up; 10, n above 4,096; 11, the list's length; 8, p above 1,000,000.
abbrev pub worst_order : List ℕ → ℕ → ℕ → ℕ → ℕ → ℕ → Order
worst_order table d q n p places =
    set_up_order table d q
    then 10 if (4096 < n) ∷ 11 if (places ≢ n) ∷ 8 if (1000000 < p) ∷ []

-- Listing of short traces: 24, T above 5; 11, a list that is not T × 4-to-the-power-T long.
abbrev pub listing_order : ℕ → ℕ → Order
listing_order slots places = 24 if (5 < slots) ∷ 11 if (places ≢ slots * 4 ^ slots) ∷ []

-- Pencil: set-up; 24, a trace above 5; 11; 8.
abbrev pub pencil_order : List ℕ → ℕ → ℕ → List ℕ → ℕ → ℕ → ℕ → Order
pencil_order table d q trace ins drops outs =
    set_up_order table d q
    then 24 if (5 < length trace) ∷ []
    then 11 if (ins ≢ length trace) ∷ 11 if (drops ≢ length trace) ∷ 11 if (outs ≢ length trace) ∷ []
    then counts_order trace

-- Anyone's rows: as for a whole trace, with two lists.
abbrev pub rival_order : List ℕ → ℕ → ℕ → List ℕ → ℕ → ℕ → Order
rival_order table d q trace ins outs =
    set_up_order table d q
    then 10 if (4096 < length trace) ∷ []
    then 11 if (ins ≢ length trace) ∷ 11 if (outs ≢ length trace) ∷ []
    then counts_order trace

-- Anyone's rows with a certificate: as for a whole trace, with five lists.
abbrev pub certificate_order : List ℕ → ℕ → ℕ → List ℕ → ℕ → ℕ → ℕ → ℕ → ℕ → Order
certificate_order table d q trace ins outs starts marks gone =
    set_up_order table d q
    then 10 if (4096 < length trace) ∷ []
    then 11 if (ins ≢ length trace) ∷ 11 if (outs ≢ length trace) ∷ 11 if (starts ≢ length trace) ∷ 11 if (marks ≢ length trace) ∷ 11 if (gone ≢ length trace) ∷ []
    then counts_order trace

-- The smallest buffer limit: table; 6; 10; 8.
abbrev pub buffer_size_order : List ℕ → ℕ → List ℕ → Order
buffer_size_order table d trace =
    table_order table
    then 6 if ((64 < d) × (d ≢ 255)) ∷ []
    then 10 if (4096 < length trace) ∷ []
    then counts_order trace

-- The smallest delay limit: table; 7; 10; 8.
abbrev pub delay_size_order : List ℕ → ℕ → List ℕ → Order
delay_size_order table q trace =
    table_order table
    then 7 if ((1000000 < q) × (q ≢ 4294967295)) ∷ []
    then 10 if (4096 < length trace) ∷ []
    then counts_order trace

-- The shared port (document 02, request 2.11): it sends up to c packets a slot, the earliest due first, the lower stream first
-- among equals, and fewer than c only if nothing is then left waiting.
-- Streams are numbered from 0 and slots from 1. D(i) is stream i's deadline, and a(i,t) is what it brings in slot t.
-- A queue q has q(u,i) packets of stream i that are due by slot u.
use Rattle.std.specs.Prelude.{cond, List, [], ◌++◌, ℕ, zero, suc, ◌+◌, ◌-◌, ◌*◌, min, length, get_or, eqb}
use Rattle.calculus.specs.Numbers.Lists.{list_of}

-- h(0) + h(1) + .. + h(n-1)
unfoldable pub sum_below : (ℕ → ℕ) → ℕ → ℕ
sum_below h zero = 0
sum_below h (suc n) = sum_below h n + h n

-- packets of n streams in a queue that are due before slot u
unfoldable pub due_before : ℕ → (ℕ → ℕ → ℕ) → ℕ → ℕ
due_before n q u = sum_below (λ v. sum_below (q v) n) u

-- packets that go before those of stream i due by slot u: all that are due earlier, and among equals those of lower streams
unfoldable pub ahead : ℕ → (ℕ → ℕ → ℕ) → ℕ → ℕ → ℕ
ahead n q u i = due_before n q u + sum_below (q u) i

-- Of c packets, stream i's that are due by slot u get what those ahead of them leave; the rest is kept.
unfoldable pub sends : ℕ → ℕ → (ℕ → ℕ → ℕ) → ℕ → ℕ → ℕ
sends n c q u i = min (q u i) (c - ahead n q u i)

unfoldable pub keeps : ℕ → ℕ → (ℕ → ℕ → ℕ) → ℕ → ℕ → ℕ
keeps n c q u i = q u i - sends n c q u i

-- What slot t brings: stream i's packets are due by slot t + D(i).
unfoldable pub coming : (ℕ → ℕ) → (ℕ → ℕ → ℕ) → ℕ → ℕ → ℕ → ℕ
coming D a t u i = cond (eqb u (t + D i)) (a i t) 0

-- what stream i brings in slot t, the input being T counts a stream, stream after stream
unfoldable pub stream_arrivals : ℕ → List ℕ → ℕ → ℕ → ℕ
stream_arrivals T input i zero = 0
stream_arrivals T input i (suc t) = get_or input (i * T + t) 0

module _ (n : ℕ) (D : ℕ → ℕ) (a : ℕ → ℕ → ℕ) (c : ℕ) where
  -- what may be sent in slot t: what the slot before kept, and what comes
  unfoldable pub offered : ℕ → ℕ → ℕ → ℕ
  offered zero u i = 0
  offered (suc t) u i = keeps n c (offered t) u i + coming D a (suc t) u i

  -- packets of stream i, due by slot u, that are sent in slot t, and that wait after it
  unfoldable pub sent : ℕ → ℕ → ℕ → ℕ
  sent t = sends n c (offered t)

  unfoldable pub waiting : ℕ → ℕ → ℕ → ℕ
  waiting t = keeps n c (offered t)

  -- packets of stream i sent in slot t; no packet that came by then is due after slot t + 64
  unfoldable pub sent_of : ℕ → ℕ → ℕ
  sent_of i t = sum_below (λ u. sent t u i) (t + 65)

  -- stream i's late packets in slots 1 to T: sent after their due slot, or unsent at the end and due by a slot of the run
  unfoldable pub late : ℕ → ℕ → ℕ
  late T i = sum_below (λ t. sum_below (λ u. sent t u i) t) (suc T) + sum_below (λ u. waiting T u i) (suc T)

-- h(i,1) to h(i,T) for each stream below n, stream after stream
unfoldable pub stream_rows : (ℕ → ℕ → ℕ) → ℕ → ℕ → List ℕ
stream_rows h T zero = []
stream_rows h T (suc n) = stream_rows h T n ++ list_of (λ t. h n (suc t)) T

-- The port's lists, one deadline a stream: packets sent in slots 1 to T, stream after stream, and one late count a stream.
unfoldable pub port_rows : List ℕ → ℕ → ℕ → List ℕ → List ℕ
port_rows deadlines T c input =
    stream_rows (sent_of (length deadlines) (λ i. get_or deadlines i 0) (stream_arrivals T input) c) T (length deadlines)

unfoldable pub late_row : List ℕ → ℕ → ℕ → List ℕ → List ℕ
late_row deadlines T c input =
    list_of (late (length deadlines) (λ i. get_or deadlines i 0) (stream_arrivals T input) c T) (length deadlines)

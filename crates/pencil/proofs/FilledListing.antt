-- Filling the list of all short traces place by place.
use mathlib.Core.Path.{◌≡◌, refl, sym, ap, ◌∙◌}
use mathlib.Core.List.{List}
use Prim.Native.Nat.{ℕ, zero, suc, ◌+◌, ◌-◌, ◌*◌, ◌/◌, ◌%◌, ◌^◌, ◌≤◌, ◌<◌}
use native.Mathlib.Nat.{add-mul, mul-le-mul_right, mul_comm}
use Rattle.std.proofs.Math.Nat.{div-add-mod, mod-lt}
use Rattle.std.proofs.lemmas.Nat.{mul-add-lt}
use native.Mathlib.Decide.{dec_le}
use native.Mathlib.Omega.{arith}
use lib.ListN.{length, get_or, set, length-set}
use lib.Seq.{get_or-set_same, get_or-set_other, ext_get_or}
use Rattle.pencil_calculus.specs.Traces.{trace_at, all_traces}
use Rattle.pencil_calculus.proofs.Traces.{trace_at-last, trace_at_earlier, length-all_traces, all_traces_at}
use Rattle.orders.proofs.Refusals.{or_else_none}
use Rattle.refusals.specs.Lengths.{short_refusal}
use Rattle.refusals.proofs.Measured.{list_same, short_most}
use Rattle.pencil.specs.Listing.{listing_refusal}

-- Slot j+1 of a trace, looked for from the last slot back.
pub look_earlier : (j n rest v : ℕ) → j + 1 < n → v ≡ get_or (trace_at n rest) j 0 → v ≡ get_or (trace_at (n - 1) (rest / 4)) j 0
look_earlier j zero rest v p e = absurd (omega arith)
look_earlier j (suc last) rest v p e =
    let back : suc last - 1 ≡ last = omega arith in
    e ∙ trace_at_earlier last rest j (omega arith) ∙ ap (λ (T : ℕ). get_or (trace_at T (rest / 4)) j 0) (sym back)

pub look-last : (j n rest v : ℕ) → n ≡ suc j → v ≡ get_or (trace_at n rest) j 0 → rest % 4 ≡ v
look-last j n rest v same e = sym (e ∙ ap (λ (T : ℕ). get_or (trace_at T rest) j 0) same ∙ trace_at-last j rest)

-- The list filled up to a place.
pub record Filling (slots : ℕ) (list : List ℕ) (place : ℕ) : Type 0 where
  pub long : length list ≡ slots * 4 ^ slots
  pub done : (i : ℕ) → i < place → get_or list i 0 ≡ get_or (all_traces slots) i 0

module _ (slots : ℕ) where
  pub filling-first : (list : List ℕ) → length list ≡ slots * 4 ^ slots → Filling slots list 0
  filling-first list long = record { long = long; done = λ i p. absurd (omega arith) }

  pub filling-last : (list : List ℕ) (place : ℕ) → Filling slots list place → length list ≤ place → list ≡ all_traces slots
  filling-last list place filling p =
      ext_get_or 0 list (all_traces slots) (filling.long ∙ sym (length-all_traces slots)) (λ i q. filling.done i (omega arith))

  module _ (list : List ℕ) (place : ℕ) (filling : Filling slots list place) (p : place < length list) where
    -- There is a slot to fill: place k·T + j is slot j+1 of trace k.
    pub filling_some : 1 ≤ slots
    filling_some =
        elim (dec_le 1 slots) [
          | yes q ↦ q
          | no q ↦ let none : slots ≡ 0 = omega arith in
              let empty : slots * 4 ^ slots ≡ 0 = ap (λ (n : ℕ). n * 4 ^ slots) none ∙ omega arith in
              absurd (omega (arith, filling.long))
        ]

    pub filling_inside : place % slots < slots
    filling_inside = mod-lt place filling_some

    pub filling_next : (v : ℕ) → v ≡ get_or (trace_at slots (place / slots)) (place % slots) 0 → Filling slots (set list place v) (place + 1)
    filling_next v e =
        let at : place ≡ place / slots * slots + place % slots = sym (div-add-mod place slots) ∙ ap (λ (n : ℕ). n + place % slots) (mul_comm slots (place / slots)) in
        record {
          long = length-set list place v ∙ filling.long;
          done = λ i q.
              elim (dec_le (suc i) place) [
                | yes r ↦ get_or-set_other list place i v 0 (λ z. omega arith) ∙ filling.done i r
                | no r ↦ let here : i ≡ place = omega arith in
                    rw here (get_or-set_same list place v 0 p ∙ e
                    ∙ sym (ap (λ (n : ℕ). get_or (all_traces slots) n 0) at ∙ all_traces_at slots (place / slots) (place % slots) filling_inside (omega (arith, at, filling.long))))
              ];
        }

  -- The list with all traces before trace k, and of trace k the slots after slot j; what is left of its number gives those before.
  pub record FillingTrace (list : List ℕ) (k j rest : ℕ) : Type 0 where
    pub few : k < 4 ^ slots
    pub long : length list ≡ slots * 4 ^ slots
    pub before : (i : ℕ) → i < k * slots → get_or list i 0 ≡ get_or (all_traces slots) i 0
    pub after : (i : ℕ) → j ≤ i → i < slots → get_or list (k * slots + i) 0 ≡ get_or (trace_at slots k) i 0
    pub left : (i : ℕ) → i < j → get_or (trace_at slots k) i 0 ≡ get_or (trace_at j rest) i 0

  pub trace-first : (list : List ℕ) (k : ℕ) → Filling slots list (k * slots) → k < 4 ^ slots → FillingTrace list k slots k
  trace-first list k filling few = record { few = few; long = filling.long; before = filling.done; after = λ i p q. absurd (omega arith); left = λ i p. refl }

  pub trace_next : (list : List ℕ) (k j rest v : ℕ) → FillingTrace list k j rest → 0 < j → j ≤ slots → v ≡ rest % 4
      → FillingTrace (set list (k * slots + (j - 1)) v) k (j - 1) (rest / 4)
  trace_next list k j rest v filling some inside e =
      let place : ℕ = k * slots + (j - 1) in
      let there : place < length list = omega (arith, filling.long, mul-add-lt k slots (j - 1) (4 ^ slots) filling.few (omega arith)) in
      let worked : v ≡ get_or (trace_at slots k) (j - 1) 0 = e ∙ look-last (j - 1) j rest _ (omega arith) (filling.left (j - 1) (omega arith)) in
      record {
        few = filling.few;
        long = length-set list place v ∙ filling.long;
        before = λ i p. get_or-set_other list place i v 0 (λ z. omega arith) ∙ filling.before i p;
        after = λ i p q.
            elim (dec_le j i) [
              | yes r ↦ get_or-set_other list place (k * slots + i) v 0 (λ z. omega arith) ∙ filling.after i r q
              | no r ↦ let here : i ≡ j - 1 = omega arith in rw here (get_or-set_same list place v 0 there ∙ worked)
            ];
        left = λ i p. look_earlier i j rest _ (omega arith) (filling.left i (omega arith));
      }

  pub trace-last : (list : List ℕ) (k rest : ℕ) → FillingTrace list k 0 rest → Filling slots list ((k + 1) * slots)
  trace-last list k rest filling =
      record {
        long = filling.long;
        done = λ i p.
            elim (dec_le (suc i) (k * slots)) [
              | yes q ↦ filling.before i q
              | no q ↦
                  let at : k * slots + (i - k * slots) ≡ i = omega arith in
                  let inside : i - k * slots < slots = omega (arith, p, add-mul k 1 slots) in
                  let there = mul-add-lt k slots (i - k * slots) (4 ^ slots) filling.few inside in
                  ap (λ (n : ℕ). get_or list n 0) (sym at) ∙ filling.after (i - k * slots) (omega arith) inside
                  ∙ sym (all_traces_at slots k (i - k * slots) inside there) ∙ ap (λ (n : ℕ). get_or (all_traces slots) n 0) at
            ];
      }

-- Powers of 4, up to the fifth.
pub four_small : (t : ℕ) → t ≤ 5 → 4 ^ t ≤ 1024
four_small zero p = omega arith
four_small (suc zero) p = omega arith
four_small (suc (suc zero)) p = omega arith
four_small (suc (suc (suc zero))) p = omega arith
four_small (suc (suc (suc (suc zero)))) p = omega arith
four_small (suc (suc (suc (suc (suc zero))))) p = omega arith
four_small (suc (suc (suc (suc (suc (suc t)))))) p = absurd (omega arith)

-- A listing that gets no number has at most five slots and a list of T × 4-to-the-power-T places.
pub listing-accepted : (slots places : ℕ) → listing_refusal slots places ≡ 0 → (slots ≤ 5) × (places ≡ slots * 4 ^ slots)
unfolding listing_refusal
listing-accepted slots places e =
    let (short, long) = or_else_none (short_refusal slots) _ e in
    (short_most slots short, list_same (slots * 4 ^ slots) places long)

-- T × 4-to-the-power-T is at most 5,120.
pub places_small : (slots count : ℕ) → slots ≤ 5 → count ≤ 1024 → slots * count ≤ 5120
places_small slots count p q = omega (arith, mul-le-mul_right count p)

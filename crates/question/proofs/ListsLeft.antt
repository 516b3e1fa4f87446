-- What the envelope leaves alone where many windows are asked at once: a number other than 0 leaves both lent lists as they were.
use mathlib.Core.Path.{◌≡◌, refl, sym, ◌∙◌}
use mathlib.Core.List.{List}
use Prim.Native.Nat.{ℕ}
use lib.ListN.{length}
use Rattle.orders.specs.Verdict.{Verdict}
use Rattle.orders.proofs.Answered.{refused_list}
use Rattle.envelope.specs.declared.table.Envelope.{Envelope}
use Rattle.envelope.specs.Envelope.{row_refusal, RowAnswered}
use Rattle.question.specs.Windows.{windows_refusal, WindowsAnswered}

module _ (e : Envelope) (row pieces : List ℕ) (verdict : Verdict) (row' pieces' : List ℕ) where
  pub row_left : RowAnswered e row pieces verdict row' pieces' → (row_refusal (length row) ≡ 0 → ⊥) → (row' ≡ row) × (pieces' ≡ pieces)
  row_left answered some = (answered.bounds ∙ sym (refused_list _ _ some refl _ row), answered.first_pieces ∙ sym (refused_list _ _ some refl _ pieces))

  pub windows_left : WindowsAnswered e row pieces verdict row' pieces' → (windows_refusal (length row) (length pieces) ≡ 0 → ⊥) → (row' ≡ row) × (pieces' ≡ pieces)
  windows_left answered some = (answered.bounds ∙ sym (refused_list _ _ some refl _ row), answered.first_pieces ∙ sym (refused_list _ _ some refl _ pieces))

-- A path by hand (document 02, request 2.5), where closing the pointwise least matters: the tables 0,4,4 and 0,3,6 have f 0,4,4,8 and
-- 0,3,6,9, whose least, 0,3,4,8, is above its closure, 0,3,4,7, at window 3.
use Rattle.std.specs.Prelude.{◌≡◌, List, [], ◌∷◌, ℕ}
use Rattle.calculus.specs.Numbers.Limit.{none, at_most}
use Rattle.path_calculus.specs.Path.{least_envelope, path_envelope, path_admitted_row, path_dropped_row, path_stage_rows}

abbrev pub wide : List ℕ
wide = 0 ∷ 4 ∷ 4 ∷ []

abbrev pub steady : List ℕ
steady = 0 ∷ 3 ∷ 6 ∷ []

abbrev pub sample_path : List (List ℕ)
sample_path = wide ∷ steady ∷ []

abbrev pub burst : List ℕ
burst = 4 ∷ 4 ∷ 0 ∷ []

-- Delay limit 1 and no buffer limit: by slot 2 the closure allows 7, and the least would allow 8, of which one would be late.
pub record PathSample : Type 0 where
  pub least : least_envelope sample_path 3 ≡ 8
  pub closed : path_envelope sample_path 3 ≡ 7
  pub admitted : path_admitted_row sample_path (at_most 1) none burst ≡ 4 ∷ 3 ∷ 0 ∷ []
  pub dropped : path_dropped_row sample_path (at_most 1) none burst ≡ 0 ∷ 1 ∷ 0 ∷ []
  -- The stages in this order, and in the other: the last one's rows are the same.
  pub departed : path_stage_rows sample_path (at_most 1) none burst ≡ 4 ∷ 0 ∷ 3 ∷ 3 ∷ 1 ∷ 3 ∷ []
  pub turned : path_stage_rows (steady ∷ wide ∷ []) (at_most 1) none burst ≡ 3 ∷ 3 ∷ 1 ∷ 3 ∷ 1 ∷ 3 ∷ []
  -- A buffer of 4 counts what had not left the last stage by the slot before: 3 of the 4 had, and all 4 had left the first.
  pub buffered : path_admitted_row sample_path none (at_most 4) burst ≡ 4 ∷ 3 ∷ 0 ∷ []

-- The order of a number's bytes by hand (document 01, "The stream file"): "Unsigned 32-bit numbers, least significant byte first."
use Rattle.std.specs.Prelude.{◌≡◌, [], ◌∷◌}
use Rattle.stream.specs.Format.{number_at}

pub record NumberSample : Type 0 where
  -- the bytes 4, 3, 2, 1: 4 + 256 × (3 + 256 × (2 + 256))
  pub first : number_at (4 ∷ 3 ∷ 2 ∷ 1 ∷ []) 0 ≡ 16909060
  -- the next number starts at the fifth byte
  pub second : number_at (4 ∷ 3 ∷ 2 ∷ 1 ∷ 1 ∷ 2 ∷ 3 ∷ 4 ∷ []) 1 ≡ 67305985

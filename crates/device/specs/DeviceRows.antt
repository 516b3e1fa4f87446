-- The buckets of document 02's sample for request 2.6 as records of the device, by the count of request 2.9: (rate 4, burst 0) and
-- (rate 1, burst 12), together and each alone, no delay limit, q 4, four slots of 6. The device loses 8, the single ones 8 and 8.
use Rattle.std.specs.Prelude.{◌≡◌, List, [], ◌∷◌, map, ℕ}
use Rattle.calls.specs.Calls.{answers}
use Rattle.live_step.specs.Answer.{SlotAnswer, Counted}
use Rattle.device.specs.Profile.{profile_table, buckets_refusal, device_refusal}
use Rattle.device.specs.Device.{device_made}
use Rattle.device.specs.DeviceCalls.{device_machine}

-- what a device with the profile answers for the sample's slots
unfoldable pub sample_answers : List ℕ → List SlotAnswer
sample_answers profile = answers device_machine (device_made profile 255 4).device (6 ∷ 6 ∷ 6 ∷ 6 ∷ [])

-- an answered record: held before, admitted, dropped, departed
abbrev pub row : ℕ → ℕ → ℕ → ℕ → SlotAnswer
row before admitted dropped departed = Counted (record { held_before = before; admitted = admitted; dropped = dropped; departed = departed })

pub record DeviceRows : Type 0 where
  -- The profile's envelope at the windows 0 to 6 is document 01's table of the six-packet burst.
  pub table : profile_table (4 ∷ 0 ∷ 1 ∷ 12 ∷ []) 6 ≡ 0 ∷ 4 ∷ 8 ∷ 12 ∷ 16 ∷ 17 ∷ 18 ∷ []
  pub both : sample_answers (4 ∷ 0 ∷ 1 ∷ 12 ∷ []) ≡ row 0 4 2 4 ∷ row 0 4 2 4 ∷ row 0 4 2 4 ∷ row 0 4 2 4 ∷ []
  pub first : sample_answers (4 ∷ 0 ∷ []) ≡ row 0 4 2 4 ∷ row 0 4 2 4 ∷ row 0 4 2 4 ∷ row 0 4 2 4 ∷ []
  pub second : sample_answers (1 ∷ 12 ∷ []) ≡ row 0 4 2 4 ∷ row 0 4 2 4 ∷ row 0 4 2 4 ∷ row 0 4 2 4 ∷ []
  -- The same two buckets with a delay limit of 1 slot and q 8.
  pub delayed : answers device_machine (device_made (4 ∷ 0 ∷ 1 ∷ 12 ∷ []) 1 8).device (6 ∷ 6 ∷ 6 ∷ 6 ∷ []) ≡ row 0 6 0 4 ∷ row 2 6 0 4 ∷ row 4 4 2 4 ∷ row 4 1 5 4 ∷ []
  -- Lists of 2, 4, 6 and 8 numbers are one to four buckets, and no others are.
  pub counts : map buckets_refusal (0 ∷ 1 ∷ 2 ∷ 3 ∷ 4 ∷ 5 ∷ 6 ∷ 7 ∷ 8 ∷ 9 ∷ 10 ∷ []) ≡ 15 ∷ 15 ∷ 0 ∷ 15 ∷ 0 ∷ 15 ∷ 0 ∷ 15 ∷ 0 ∷ 15 ∷ 15 ∷ []
  -- 1,000,000 passes, 1,000,001 gets 16; 15 comes before 16, 16 before 6, 6 before 7; both limits none get 23.
  pub largest : device_refusal (1000000 ∷ 1000000 ∷ []) 64 1000000 ≡ 0
  pub too_large : device_refusal (0 ∷ 1000001 ∷ []) 65 1000001 ≡ 16
  pub no_buckets : device_refusal (1000001 ∷ []) 65 1000001 ≡ 15
  pub too_late : device_refusal (0 ∷ 0 ∷ []) 65 1000001 ≡ 6
  pub too_full : device_refusal (0 ∷ 0 ∷ []) 255 1000001 ≡ 7
  pub no_limits : device_refusal (0 ∷ 0 ∷ []) 255 4294967295 ≡ 23

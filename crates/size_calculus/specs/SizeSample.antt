-- Sizes by hand: table 0,2,3, arrivals 5,0,4,0.
use Rattle.std.specs.Prelude.{List, [], ◌∷◌, ◌≡◌, ℕ}
use Rattle.calculus.specs.Numbers.Limit.{none, at_most}
use Rattle.calculus.specs.Numbers.Sizes.{most_packets}
use Rattle.size_calculus.specs.PeakBuffer.{peak_alone}
use Rattle.size_calculus.specs.Smallest.{SmallestBuffer, SmallestDelay, NoneDoes, loss_with_buffer}

abbrev pub sample_table : List ℕ
sample_table = 0 ∷ 2 ∷ 3 ∷ []

abbrev pub sample_trace : List ℕ
sample_trace = 5 ∷ 0 ∷ 4 ∷ 0 ∷ []

pub record SizeSample : Type 0 where
  -- Delay limit 1: at most 9 lost takes no buffer, 8 and 7 take 1, 6 and 5 take 2, 4 and 3 take 3; 2 no buffer does.
  pub buffer_9 : SmallestBuffer sample_table (at_most 1) sample_trace 9 0
  pub buffer_8 : SmallestBuffer sample_table (at_most 1) sample_trace 8 1
  pub buffer_7 : SmallestBuffer sample_table (at_most 1) sample_trace 7 1
  pub buffer_6 : SmallestBuffer sample_table (at_most 1) sample_trace 6 2
  pub buffer_5 : SmallestBuffer sample_table (at_most 1) sample_trace 5 2
  pub buffer_4 : SmallestBuffer sample_table (at_most 1) sample_trace 4 3
  pub buffer_3 : SmallestBuffer sample_table (at_most 1) sample_trace 3 3
  pub buffer_2 : NoneDoes most_packets (loss_with_buffer sample_table (at_most 1) sample_trace) 2
  -- Buffer limit 9: at most 5 lost takes no delay, 4 and 3 take 1, 2 and 1 take 2, 0 takes 3.
  pub delay_5 : SmallestDelay sample_table (at_most 9) sample_trace 5 0
  pub delay_4 : SmallestDelay sample_table (at_most 9) sample_trace 4 1
  pub delay_3 : SmallestDelay sample_table (at_most 9) sample_trace 3 1
  pub delay_2 : SmallestDelay sample_table (at_most 9) sample_trace 2 2
  pub delay_1 : SmallestDelay sample_table (at_most 9) sample_trace 1 2
  pub delay_0 : SmallestDelay sample_table (at_most 9) sample_trace 0 3
  -- What is lost in the last slot counts: the same trace without its empty end.
  pub buffer_last : SmallestBuffer sample_table (at_most 1) (5 ∷ 0 ∷ 4 ∷ []) 3 3
  pub delay_last : SmallestDelay sample_table (at_most 9) (5 ∷ 0 ∷ 4 ∷ []) 3 1
  -- The greatest limits are looked at: one slot of 1,000,000 packets that never leave, and one of 65 that leave one by one.
  pub buffer_greatest : SmallestBuffer (0 ∷ 0 ∷ []) none (1000000 ∷ []) 0 1000000
  pub delay_greatest : SmallestDelay (0 ∷ 1 ∷ []) none (65 ∷ []) 0 64
  -- The bench's peak with delay limit 1 and no buffer limit: as large a buffer loses as few by every slot. It may be in the last slot.
  pub peak : peak_alone sample_table (at_most 1) sample_trace ≡ 3
  pub peak_last : peak_alone sample_table (at_most 1) (0 ∷ 5 ∷ []) ≡ 3

-- A link of any rows, test by test as the functions make them.
use Rattle.std.proofs.Common.{◌≡◌, ℕ, ◌+◌, ◌-◌, ◌<◌, ◌≤◌, false, eqb, List, get_or, refl, le-ltb, lt-ltb, ne_eqb, le-leb}
use borrow.Author.Tests.{lt-leb}
use Rattle.calculus.specs.Numbers.Limit.{limit_unless, map_limit}
use Rattle.calculus.specs.Regulators.Clipper.{delay_bound, buffer_bound}
use Rattle.chain_calculus.specs.Chain.{is_number}
use Rattle.refusals.specs.Limits.{buffer_limit}
use Rattle.chain.specs.Links.{at_window, reached_delay, delay_makes, buffer_makes, row_sound}

module _ (windows : List ℕ) (w v : ℕ) where
  -- f(w+d) is looked at where the rows reach it, and f(w-1) + q where there is a buffer limit.
  pub no-delay_makes : (d : ℕ) → 64 < d → delay_makes windows d w v ≡ false
  unfolding delay_makes reached_delay delay_bound limit_unless map_limit is_number
  no-delay_makes d p = rw (lt-ltb 64 d p) refl

  pub delay_some : (d : ℕ) → d ≤ 64 → delay_makes windows d w v ≡ eqb (at_window windows (w + d)) v
  unfolding delay_makes reached_delay delay_bound limit_unless map_limit is_number
  delay_some d p = rw (le-ltb 64 d p) refl

  pub no-buffer_makes : (q : ℕ) → q ≡ 4294967295 → buffer_makes windows q w v ≡ false
  unfolding buffer_makes buffer_limit buffer_bound limit_unless map_limit is_number
  no-buffer_makes q e = rw e refl

  pub buffer_some : (q : ℕ) → (q ≡ 4294967295 → ⊥) → buffer_makes windows q w v ≡ eqb (at_window windows (w - 1) + q) v
  unfolding buffer_makes buffer_limit buffer_bound limit_unless map_limit is_number
  buffer_some q p = rw (ne_eqb q 4294967295 p) refl

module _ (windows arrived : List ℕ) (d q s t mark v : ℕ) where
  -- A link whose slots do not rise, or that the rows do not reach, is unsound.
  pub sound_falls : t ≤ s → row_sound windows arrived d q s t mark v ≡ false
  unfolding row_sound
  sound_falls p = rw (le-ltb s t p) refl

  pub rows_end : s < t → 4096 < t → row_sound windows arrived d q s t mark v ≡ false
  unfolding row_sound
  rows_end p r = rw (lt-ltb s t p, lt-leb t 4096 r) refl

  -- Any other goes by its mark.
  module _ (up : s < t) (reached : t ≤ 4096) where
    pub sound-arrivals : mark ≡ 1 → row_sound windows arrived d q s t mark v ≡ eqb (v + get_or arrived s 0) (get_or arrived t 0)
    unfolding row_sound
    sound-arrivals e = rw (lt-ltb s t up, le-leb t 4096 reached, e) refl

    pub sound-delay : mark ≡ 2 → row_sound windows arrived d q s t mark v ≡ delay_makes windows d (t - s) v
    unfolding row_sound
    sound-delay e = rw (lt-ltb s t up, le-leb t 4096 reached, e) refl

    pub sound-buffer : mark ≡ 3 → row_sound windows arrived d q s t mark v ≡ buffer_makes windows q (t - s) v
    unfolding row_sound
    sound-buffer e = rw (lt-ltb s t up, le-leb t 4096 reached, e) refl

    pub sound_unmarked : (mark ≡ 1 → ⊥) → (mark ≡ 2 → ⊥) → (mark ≡ 3 → ⊥) → row_sound windows arrived d q s t mark v ≡ false
    unfolding row_sound
    sound_unmarked n1 n2 n3 = rw (lt-ltb s t up, le-leb t 4096 reached, ne_eqb mark 1 n1, ne_eqb mark 2 n2, ne_eqb mark 3 n3) refl

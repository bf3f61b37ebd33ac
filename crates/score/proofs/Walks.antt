-- One turn of the walk along the readings, and its end.
use Rattle.std.proofs.Common.{◌≡◌, ℕ, ◌+◌, ◌*◌, ◌<◌, ◌≤◌, true, List, length, get_or, drop, ℤ, pos, nat_abs, sym, refl, ◌∙◌, arith}
use Rattle.std.specs.List.{list_all}
use Rattle.std.proofs.lemmas.List.{at_drop_more, at_drop_all}
use Rattle.std.proofs.lemmas.Int.{ints}
use Rattle.std.proofs.lemmas.Bool.{leb-true}
use Rattle.score.specs.Ranges.{reading_fits}
use Rattle.score.specs.Signals.{distance, mileage_of, last_of}
use Rattle.score.specs.Tests.{every_at}

pub distance_bound : (x y : ℤ) → nat_abs x ≤ 10000 → nat_abs y ≤ 10000 → distance x y ≤ 20000
distance_bound x y p q = omega (arith, ints)

-- after i readings: what is walked, and where
pub record Walked (z : ℤ) (zs : List ℤ) (i m : ℕ) (before : ℤ) : Type 0 where
  pub mileage : m + mileage_of before (drop i zs) ≡ mileage_of z zs
  pub last : last_of before (drop i zs) ≡ last_of z zs
  pub bound : m ≤ 20000 * i
  pub near : nat_abs before ≤ 10000

module _ (z : ℤ) (zs : List ℤ) (i m : ℕ) (before r : ℤ) (d : ℕ) (taken : i < length zs) (here : r ≡ get_or zs i (pos 0)) (all : list_all reading_fits zs ≡ true) (step : d ≡ distance r before) (so_far : Walked z zs i m before) where
  near_r : nat_abs r ≤ 10000
  near_r = rw here (leb-true _ _ (every_at reading_fits zs i (pos 0) refl all))

  pub turn_bound : m + d ≤ 20000 * (i + 1)
  turn_bound = omega (arith, step, distance_bound r before near_r so_far.near, so_far.bound)

  pub turn : Walked z zs (i + 1) (m + d) r
  turn =
      let t : mileage_of before (drop i zs) ≡ distance (get_or zs i (pos 0)) before + mileage_of (get_or zs i (pos 0)) (drop (i + 1) zs) = at_drop_more (mileage_of before) zs i (pos 0) taken in
      let l : last_of before (drop i zs) ≡ last_of (get_or zs i (pos 0)) (drop (i + 1) zs) = at_drop_more (last_of before) zs i (pos 0) taken in
      let t' : mileage_of before (drop i zs) ≡ distance r before + mileage_of r (drop (i + 1) zs) = rw here t in
      let l' : last_of before (drop i zs) ≡ last_of r (drop (i + 1) zs) = rw here l in
      record { mileage = omega (arith, t', step, so_far.mileage); last = sym l' ∙ so_far.last; bound = turn_bound; near = near_r }

pub ended : (z : ℤ) (zs : List ℤ) (i m : ℕ) (before : ℤ) → length zs ≤ i → Walked z zs i m before → (m ≡ mileage_of z zs) × (before ≡ last_of z zs)
ended z zs i m before left w =
    let t : mileage_of before (drop i zs) ≡ 0 = at_drop_all (mileage_of before) zs i left in
    let l : last_of before (drop i zs) ≡ before = at_drop_all (last_of before) zs i left in
    (omega (arith, t, w.mileage), sym l ∙ w.last)

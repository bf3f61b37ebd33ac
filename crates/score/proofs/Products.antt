-- Products of a kW number and a reading, and how large an error is.
use Rattle.std.proofs.Common.{◌≡◌, ℕ, zero, suc, ◌+◌, ◌*◌, ◌^◌, ◌<◌, ◌≤◌, true, ℤ, pos, negsuc, ◌*ℤ◌, neg_ℤ, nat_abs, refl, arith, w32, w64, SFits}
use lib.Signed.{mag}
use Rattle.std.proofs.lemmas.Nat.{mul-le}
use Rattle.std.proofs.lemmas.Int.{ints}
use Rattle.std.proofs.lemmas.Bool.{le-leb, leb-true}
use Rattle.std.proofs.lemmas.Bool.Decides.{nat_tests}
use Rattle.score.specs.Ranges.{point_fits, reading_fits, assigned_fits, error_fits}
use Rattle.score.specs.Signals.{distance}
use Rattle.score.specs.Errors.{error_of}

abs_neg : (n : ℕ) → nat_abs (neg_ℤ (pos n)) ≡ n
abs_neg zero = refl
abs_neg (suc n) = refl

mag_neg : (r a : ℕ) → 0 < a → r ≤ a → mag (neg_ℤ (pos r)) < a
mag_neg zero a p h = omega arith
mag_neg (suc r) a p h = omega arith

-- a product of 32 bits by 32 bits fits 64 bits with its sign
pub fits_product : (a : ℕ) (z : ℤ) → a < 2 ^ 32 → SFits w32 z → SFits w64 (pos a *ℤ z)
fits_product a (pos b) h f =
    let g : b ≤ 2147483647 = let k = f.sfits in omega arith in
    let k : a * b ≤ 4294967295 * 2147483647 = mul-le a b 4294967295 2147483647 (omega arith) g in
    record { sfits = omega arith }
fits_product a (negsuc b) h f =
    let g : suc b ≤ 2147483648 = let k = f.sfits in omega arith in
    let k : a * suc b ≤ 4294967295 * 2147483648 = mul-le a (suc b) 4294967295 2147483648 (omega arith) g in
    record { sfits = mag_neg (a * suc b) (2 ^ 63) (omega arith) (omega arith) }

-- how large such a product is
pub abs_product : (a : ℕ) (z : ℤ) → nat_abs (pos a *ℤ z) ≡ a * nat_abs z
abs_product a (pos b) = refl
abs_product a (negsuc b) = abs_neg (a * suc b)

error_bound : (x y : ℤ) (m n : ℕ) → nat_abs x ≤ m → nat_abs y ≤ n → distance x y ≤ m + n
error_bound x y m n p q = omega (arith, ints)

-- an error of a point, an assignment and a reading in their ranges is in its own
pub error_small : (a : ℕ) (p r : ℤ) → assigned_fits a ≡ true → point_fits p ≡ true → reading_fits r ≡ true → error_fits (error_of a p r) ≡ true
error_small a p r ea ep er =
    let la : a ≤ 200000 = grind (arith, nat_tests) in
    let lp : nat_abs p ≤ 1000000 = leb-true _ _ ep in
    let lr : nat_abs r ≤ 10000 = leb-true _ _ er in
    let x : nat_abs (pos 10000 *ℤ p) ≤ 10000 * 1000000 = rw (abs_product 10000 p) (omega arith) in
    let y : nat_abs (pos a *ℤ r) ≤ 200000 * 10000 = rw (abs_product a r) (mul-le a (nat_abs r) 200000 10000 la lr) in
    le-leb _ _ (omega (arith, error_bound (pos 10000 *ℤ p) (pos a *ℤ r) (10000 * 1000000) (200000 * 10000) x y))

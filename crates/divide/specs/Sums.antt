-- Sums of the first elements of a list, and sums and counts by place.
use Rattle.std.specs.Prelude.{◌≡◌, ℕ, zero, suc, ◌+◌, ◌-◌, ◌*◌, ◌/◌, ◌<◌, ◌≤◌, List, ◌∷◌, map, length, take, sum, slice_index, slice_set}
use Rattle.std.proofs.Common.{sym, ap, ◌∙◌, ⊎_elim, div-mul-le_self, zero-add, mul-le-mul_left, add-one, arith}
use Rattle.std.proofs.Math.Nat.{div-zero}
use Rattle.std.specs.List.{range_with_len}
use Rattle.std.proofs.lemmas.Nat.{le-div}
use Rattle.std.proofs.lemmas.List.FromFn.{sum_by-map-range_with_len_more}
use Rattle.std.proofs.lemmas.List.Edits.{fill_by_more}
use Rattle.std.proofs.lemmas.List.{take_all}
use Rattle.std.proofs.lemmas.List.Sums.{sum_by_more, sum_by-cons, sum_by-take-le, get_or-le-sum_by}
use Rattle.std.proofs.lemmas.Bool.{cases_lt}

pub div_mono : (a b c : ℕ) → a ≤ b → a / c ≤ b / c
div_mono a b zero h = omega (arith, div-zero a, div-zero b)
div_mono a b (suc c) h = le-div (a / suc c) b (suc c) (omega arith) (omega (arith, div-mul-le_self a (suc c)))

pub sum-cons : (x : ℕ) (xs : List ℕ) → sum (x ∷ xs) ≡ x + sum xs
sum-cons x xs = sum_by-cons (λ y. y) x xs

pub prefix_more : (xs : List ℕ) (k : ℕ) → k < length xs → sum (take (k + 1) xs) ≡ sum (take k xs) + slice_index xs k
prefix_more xs k h = sum_by_more (λ x. x) xs k 0 h

-- the same as an induction has it
pub prefix_suc : (xs : List ℕ) (k : ℕ) → k < length xs → sum (take (suc k) xs) ≡ sum (take k xs) + slice_index xs k
prefix_suc xs k h = ap (λ n. sum (take n xs)) (sym (add-one k)) ∙ prefix_more xs k h

pub prefix_up : (xs : List ℕ) (k : ℕ) → sum (take k xs) ≤ sum (take (k + 1) xs)
prefix_up xs k =
    ⊎_elim (λ (h : k < length xs). omega (arith, prefix_more xs k h))
    (λ (h : length xs ≤ k). let h1 : length xs ≤ k + 1 = omega arith in omega (arith, ap sum (take_all k xs h), ap sum (take_all (k + 1) xs h1)))
    (cases_lt k (length xs))

pub prefix_all : (xs : List ℕ) → sum (take (length xs) xs) ≡ sum xs
prefix_all xs = ap sum (take_all (length xs) xs (omega arith))

-- one element more in a running sum
pub prefix_turn : (xs : List ℕ) (k x so_far all : ℕ) → k < length xs → all ≡ sum xs → so_far ≡ sum (take k xs) → x ≡ slice_index xs k → (so_far + x ≡ sum (take (k + 1) xs)) × (so_far + x ≤ all)
prefix_turn xs k x so_far all h whole e is =
    let more = prefix_more xs k h in
    (omega arith, omega (arith, sum_by-take-le (λ y. y) xs (k + 1)))

-- the sum of f at each place below n
pub sum_more : (f : ℕ → ℕ) (n : ℕ) → sum (map f (range_with_len 0 (suc n))) ≡ sum (map f (range_with_len 0 n)) + f n
sum_more f n =
    let e = sum_by-map-range_with_len_more (λ x. x) f 0 n n (zero-add n) in
    rw add-one at e

pub telescopes : (q : ℕ → ℕ) → ((k : ℕ) → q k ≤ q (k + 1)) → (n : ℕ) → sum (map (λ k. q (k + 1) - q k) (range_with_len 0 n)) + q 0 ≡ q n
telescopes q up zero = zero-add (q 0)
telescopes q up (suc n) =
    omega (arith, sum_more (λ k. q (k + 1) - q k) n, telescopes q up n, up n, ap q (add-one n))

-- the product of the weight w at one place is within the whole product
pub product_le : (t all w : ℕ) (ws : List ℕ) (k : ℕ) → k < length ws → all ≡ sum ws → w ≡ slice_index ws k → t * w ≤ t * all
product_le t all w ws k h whole e = mul-le-mul_left t (omega (arith, get_or-le-sum_by (λ x. x) ws k 0 h))

-- a loop's write of what f says at the next place
pub write_more : (f : ℕ → ℕ) (xs : List ℕ) (i y : ℕ) → i < length xs → ((k : ℕ) → k < i → slice_index xs k ≡ f k) → y ≡ f i → (k : ℕ) → k < i + 1 → slice_index (slice_set xs i y) k ≡ f k
write_more f xs i y h so_far e = rw e (fill_by_more f xs i 0 h so_far)

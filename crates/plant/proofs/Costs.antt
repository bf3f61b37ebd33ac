-- A curve's cost block by block, and how far a kW changes a cost or a margin.
use Rattle.std.proofs.Common.{◌≡◌, ℕ, zero, suc, ◌+◌, ◌-◌, ◌*◌, ◌<◌, ◌≤◌, min, max, true, List, [], ◌∷◌, length, drop, ℤ, pos, negsuc, ◌+ℤ◌, ◌-ℤ◌, ◌*ℤ◌, unsigned_abs, sym, refl, ap, ◌∙◌, inl, inr, arith, add-zero, add-suc}
use Rattle.std.specs.List.{list_all}
use lib.IntN.{suc_ℤ-*ℤ, zero-*ℤ}
use Rattle.std.proofs.lemmas.List.{at_drop_more, at_drop_all}
use Rattle.std.proofs.lemmas.Int.{ints, unsigned_abs-mul}
use Rattle.std.proofs.lemmas.Nat.{mul-le}
use Rattle.std.proofs.lemmas.Bool.Decides.{nat_tests}
use Rattle.std.proofs.lemmas.Bool.{cases_lt, le-leb, lt-leb}
use Rattle.std.specs.Int.{abs_diff}
use Rattle.plant.specs.Costs.{price_of_kw, curve_cost, margin, not_negative}
use Rattle.plant.specs.Ranges.{energy_price_fits}
use Rattle.plant.specs.Records.{block_at}
use Rattle.plant.specs.declared.record.Block.{Block}

-- where each of the n kW after the first f has the price p, they cost n times p
stretch : (bs : List Block) (p : ℤ) (f n : ℕ) → ((k : ℕ) → f < k → k ≤ f + n → price_of_kw bs k ≡ p) → curve_cost bs (f + n) ≡ curve_cost bs f +ℤ pos n *ℤ p
unfolding curve_cost
stretch bs p f zero all = rw add-zero (omega (arith, ints, zero-*ℤ p))
stretch bs p f (suc n) all =
    let one = all (suc (f + n)) (omega arith) (omega arith) in
    let more = stretch bs p f n (λ k low high. all k low (omega arith)) in
    rw add-suc (omega (arith, ints, suc_ℤ-*ℤ (pos n) p))

-- the blocks before place i have been summed up to the kW f of x: past f, none of them has a kW
pub record Summed (bs : List Block) (x i : ℕ) (cost : ℤ) (f : ℕ) : Type 0 where
  pub far : f ≤ x
  pub value : cost ≡ curve_cost bs f
  pub left : (k : ℕ) → f < k → k ≤ x → price_of_kw bs k ≡ price_of_kw (drop i bs) k

pub summed_none : (bs : List Block) (x : ℕ) → Summed bs x 0 (pos 0) 0
unfolding curve_cost
summed_none bs x = record { far = omega arith; value = refl; left = λ k low high. refl }

-- one block more is summed
pub summed_more : (bs : List Block) (x i : ℕ) (cost part : ℤ) (f g : ℕ) → i < length bs → Summed bs x i cost f → g ≡ max (min (block_at bs i).end x) f → part ≡ pos (g - f) *ℤ (block_at bs i).price → Summed bs x (i + 1) (cost +ℤ part) g
summed_more bs x i cost part f g h s is what =
    let b = block_at bs i in
    let low : f ≤ x = s.far in
    let here : (k : ℕ) → f < k → k ≤ x → price_of_kw bs k ≡ price_of_kw (b ∷ drop (i + 1) bs) k = λ k l m. s.left k l m ∙ at_drop_more (λ cs. price_of_kw cs k) bs i _ h in
    let all = stretch bs b.price f (g - f) (λ k l m. here k l (omega arith) ∙ rw (le-leb k b.end (omega arith))) in
    let whole : f + (g - f) ≡ g = omega arith in
    record {
      far = omega arith;
      value = rw (s.value, what) (sym all ∙ ap (curve_cost bs) whole);
      left = λ k l m. here k (omega arith) m ∙ rw (lt-leb k b.end (omega arith));
    }

-- all blocks are summed
pub summed_all : (bs : List Block) (x i : ℕ) (cost : ℤ) (f : ℕ) → length bs ≤ i → Summed bs x i cost f → cost ≡ curve_cost bs x
summed_all bs x i cost f h s =
    let all = stretch bs (pos 0) f (x - f) (λ k l m. s.left k l (omega (arith, s.far)) ∙ at_drop_all (λ cs. price_of_kw cs k) bs i h) in
    let whole : f + (x - f) ≡ x = omega (arith, s.far) in
    omega (arith, ints, rw whole at all)

-- n times a price
pub times_small : (n : ℕ) (p : ℤ) → unsigned_abs p ≤ 1000000 → unsigned_abs (pos n *ℤ p) ≤ 1000000 * n
times_small n p low = rw unsigned_abs-mul (omega (arith, mul-le n (unsigned_abs p) n 1000000))

not_above : (z : ℤ) (m : ℕ) → unsigned_abs z ≤ m → not_negative z ≤ m
not_above (pos n) m low = low
not_above (negsuc n) m low = omega arith

-- the price of any kW is in its range
kw_small : (bs : List Block) → list_all (λ b. energy_price_fits b.price) bs ≡ true → (k : ℕ) → unsigned_abs (price_of_kw bs k) ≤ 1000000
kw_small [] fit k = omega arith
kw_small (b ∷ bs) fit k =
    let rest = kw_small bs in
    grind (arith, nat_tests)

module _ (bs : List Block) (fit : list_all (λ b. energy_price_fits b.price) bs ≡ true) where
  pub cost_small : (x : ℕ) → unsigned_abs (curve_cost bs x) ≤ 1000000 * x
  unfolding curve_cost
  cost_small zero = omega arith
  cost_small (suc x) = omega (arith, ints, cost_small x, kw_small bs fit (suc x))

  module _ (lmp : ℤ) (low : unsigned_abs lmp ≤ 1000000) where
    -- n kW more change the margin by at most 2,000,000 each
    margin_more : (s n : ℕ) → unsigned_abs (margin bs lmp (s + n) -ℤ margin bs lmp s) ≤ 2000000 * n
    unfolding curve_cost
    margin_more s zero = rw add-zero (omega (arith, ints))
    margin_more s (suc n) =
        rw add-suc (omega (arith, ints, low, suc_ℤ-*ℤ (pos (s + n)) lmp, margin_more s n, kw_small bs fit (suc (s + n))))

    -- levels so many kW apart have margins at most 2,000,000 times as far apart
    pub margin_apart : (d s : ℕ) → unsigned_abs (margin bs lmp d -ℤ margin bs lmp s) ≤ 2000000 * abs_diff d s
    margin_apart d s =
        elim (cases_lt d s) [
          | inl l ↦ let at : d + (s - d) ≡ s = omega arith in let m = rw at at (margin_more d (s - d)) in omega (arith, ints)
          | inr l ↦ let at : s + (d - s) ≡ d = omega arith in let m = rw at at (margin_more s (d - s)) in omega (arith, ints)
        ]

    -- and so does what is lost
    pub lost_small : (d s : ℕ) → not_negative (margin bs lmp d -ℤ margin bs lmp s) ≤ 2000000 * abs_diff d s
    lost_small d s = let small = margin_apart d s in not_above (margin bs lmp d -ℤ margin bs lmp s) _ small

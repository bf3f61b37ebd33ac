-- What is known of a record that keeps every rule.
use Rattle.std.proofs.Common.{◌≡◌, ℕ, zero, suc, ◌+◌, ◌-◌, ◌<◌, ◌≤◌, Bool, true, eqb, List, [], ◌∷◌, length, reverse, ℤ, Some, None, Option, arith}
use lib.Signed.{le_z}
use Rattle.std.proofs.lemmas.Bool.{cond_both}
use Rattle.std.proofs.lemmas.Bool.Decides.{nat_tests}
use Rattle.std.proofs.lemmas.List.{get_or-reverse, length-reverse}
use Rattle.std.specs.List.{list_all, find, range_with_len}
use Rattle.std.specs.Option.{option_map, unwrap_or}
use Rattle.plant.specs.Levels.{desired, last_end, toward}
use Rattle.plant.specs.Plants.{Plant}
use Rattle.plant.specs.Ranges.{energy_price_fits}
use Rattle.plant.specs.Records.{block_at, before, start_after, level_holds, block_fault, blocks_fault, first_fault, curve_fault, range_fault, rule_fault, record_fault, lawful}
use Rattle.plant.specs.declared.record.Block.{Block}
use Rattle.plant.specs.declared.record.Kind.TheVariants.{Generator}

-- no place of those looked at has a fault
pub first_each : {E : Type 0} (f : ℕ → Option E) (a n : ℕ) → first_fault f (range_with_len a n) ≡ None → (k : ℕ) → a ≤ k → k < a + n → f k ≡ None
first_each f a zero e k low high = absurd (omega arith)
first_each f a (suc n) e k low high =
    let later = first_each f (a + 1) n in
    grind arith

faultless : (p : Plant) → lawful p ≡ true → (range_fault p ≡ None) × (rule_fault p ≡ None)
unfolding record_fault
faultless p fine = (grind (arith, nat_tests), grind (arith, nat_tests))

-- its limits
pub record Limited (p : Plant) : Type 0 where
  pub eco_low : p.limits.eco_min ≤ p.limits.reg_low
  pub band : p.limits.reg_low < p.limits.reg_high
  pub eco_high : p.limits.reg_high ≤ p.limits.eco_max
  pub top : p.limits.eco_max ≤ 1000000

module _ (p : Plant) (fine : lawful p ≡ true) where
  pub limited : Limited p
  limited =
      let none = (faultless p fine).1 in
      record { eco_low = grind (arith, nat_tests); band = grind (arith, nat_tests); eco_high = grind (arith, nat_tests); top = grind (arith, nat_tests) }

  -- the prices of its blocks are in their range
  pub prices_fit : list_all (λ b. energy_price_fits b.price) p.blocks ≡ true
  prices_fit =
      let none = (faultless p fine).0 in
      grind (arith, nat_tests)

  -- a generator's blocks each keep the rule of levels
  levels_hold : p.kind ≡ Generator → (k : ℕ) → k < length p.blocks → level_holds p.limits.eco_max (before p.blocks k) (block_at p.blocks k) (eqb (k + 1) (length p.blocks)) ≡ true
  unfolding blocks_fault
  levels_hold is k h =
      let top = p.limits.eco_max in
      let none = (faultless p fine).1 in
      let curve : curve_fault p.kind top p.blocks ≡ None = grind (arith, nat_tests) in
      let each : blocks_fault top p.blocks ≡ None = grind (arith, nat_tests) in
      let here = first_each (block_fault top p.blocks) 0 (length p.blocks) each k (omega arith) (omega arith) in
      grind (arith, nat_tests)

-- a block begins where the one before ends
start_next : (bs : List Block) (k : ℕ) → start_after (before bs (k + 1)) ≡ (block_at bs k).end
start_next bs k = grind (arith, nat_tests)

-- where each block keeps the rule of levels, none ends above the last, which is eco max
pub ends_low : (top : ℕ) (bs : List Block) → ((k : ℕ) → k < length bs → level_holds top (before bs k) (block_at bs k) (eqb (k + 1) (length bs)) ≡ true) → (n k : ℕ) → k + n + 1 ≡ length bs → (block_at bs k).end ≤ top
ends_low top bs all zero k e =
    let here = all k (omega arith) in
    grind (arith, nat_tests)
ends_low top bs all (suc n) k e =
    let next = all (k + 1) (omega arith) in
    let above = ends_low top bs all n (k + 1) (omega arith) in
    let start = start_next bs k in
    grind (arith, nat_tests)

-- no first block that passes a test ends above them all
found_low : (test : Block → Bool) (top level : ℕ) (bs : List Block) → level ≤ top → ((k : ℕ) → k < length bs → (block_at bs k).end ≤ top) → unwrap_or (option_map (λ b. b.end) (find test bs)) level ≤ top
found_low test top level [] low all = low
found_low test top level (b ∷ bs) low all =
    cond_both (test b) (Some b) (find test bs) (λ o. unwrap_or (option_map (λ b. b.end) o) level ≤ top) (λ _. all 0 (omega arith)) (λ _. found_low test top level bs low (λ k h. all (suc k) (omega arith)))

-- nor does the last block that is priced at most lmp
last_end_low : (top : ℕ) (lmp : ℤ) (bs : List Block) (level : ℕ) → level ≤ top → ((k : ℕ) → k < length bs → (block_at bs k).end ≤ top) → last_end lmp level bs ≤ top
last_end_low top lmp bs level low all =
    found_low (λ b. le_z b.price lmp) top level (reverse bs) low (λ n h.
    let within : n < length bs = omega (arith, length-reverse bs) in
    rw (get_or-reverse bs n _ within) (all (length bs - 1 - n) (omega arith)))

pub toward_within : (most level aim low high : ℕ) → low ≤ level → level ≤ high → low ≤ aim → aim ≤ high → (low ≤ toward most level aim) × (toward most level aim ≤ high)
toward_within most level aim low high a b c d = (omega arith, omega arith)

-- a generator's desired level is within its limits
pub desired_within : (p : Plant) → lawful p ≡ true → p.kind ≡ Generator → (lmp : ℤ) → (p.limits.eco_min ≤ desired p lmp) × (desired p lmp ≤ p.limits.eco_max)
desired_within p fine is lmp =
    let l = limited p fine in
    let bs = p.blocks in
    let top = p.limits.eco_max in
    let ends : (n : ℕ) → n < length (reverse bs) → (block_at (reverse bs) n).end ≤ top = λ n h.
    let within : n < length bs = omega (arith, length-reverse bs) in
    rw (get_or-reverse bs n _ within) (ends_low top bs (levels_hold p fine is) n (length bs - 1 - n) (omega arith)) in
    let low = found_low (λ b. le_z b.price lmp) top p.limits.eco_min (reverse bs) (omega (arith, l.eco_low, l.band, l.eco_high)) ends in
    (omega arith, omega (arith, low, l.eco_low, l.band, l.eco_high))

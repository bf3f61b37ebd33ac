-- When a total is not shared among weights, and the number of each such case.
use Rattle.std.specs.Prelude.{◌≡◌, ℕ, ◌*◌, cond, not, ◌&&◌, ◌||◌, List, length, sum, Option, Some, None, ◌==◌, nat_lt}
use Rattle.divide.specs.declared.refusal.DivideRefusal.{DivideRefusal}
use Rattle.divide.specs.declared.refusal.DivideRefusal.TheVariants.{ListLength, NoWeight, ProductTooLarge}

-- the number of each refusal
abbrev pub number : DivideRefusal → ℕ
number ListLength = 6
number NoWeight = 18
number ProductTooLarge = 19

-- the most weights that a total is shared among
abbrev pub most_weights : ℕ
most_weights = 32

-- the largest product of a total and the sum of its weights
abbrev pub largest_product : ℕ
largest_product = 4000000000000000000

-- the first refusal that applies where the total t is to be shared among the weights ws into a slice of so many
-- places
abbrev pub refusal : ℕ → List ℕ → ℕ → Option DivideRefusal
refusal t ws places =
    cond (nat_lt most_weights (length ws) || not (places == length ws)) (Some ListLength)
    (cond (sum ws == 0 && not (t == 0)) (Some NoWeight)
    (cond (nat_lt largest_product (t * sum ws)) (Some ProductTooLarge) None))

-- no refusal applies, given as many places as weights
abbrev pub Shareable : ℕ → List ℕ → Type 0
Shareable t ws = refusal t ws (length ws) ≡ None

-- The division by largest remainders.
use Rattle.std.specs.Prelude.{ℕ, zero, suc, ◌+◌, ◌-◌, ◌*◌, ◌/◌, ◌%◌, Bool, cond, ◌&&◌, ◌||◌, List, map, length, sum, ◌==◌, nat_lt, slice_index}
use Rattle.std.specs.List.{range_with_len}

-- each weight's part of the total, t × w / W, rounded down
abbrev pub floors : ℕ → List ℕ → List ℕ
floors t ws = map (λ w. t * w / sum ws) ws

-- the remainder of each of these divisions
abbrev pub rests : ℕ → List ℕ → List ℕ
rests t ws = map (λ w. t * w % sum ws) ws

-- the units that the rounded parts leave over
abbrev pub spare : ℕ → List ℕ → ℕ
spare t ws = t - sum (floors t ws)

-- place j with the remainder a comes before place k with the remainder b: its remainder is larger, or the two are
-- equal and its place is lower
abbrev pub precedes : ℕ → ℕ → ℕ → ℕ → Bool
precedes a j b k = nat_lt b a || (a == b && nat_lt j k)

-- the same where rs are the remainders by place
abbrev pub before : List ℕ → ℕ → ℕ → Bool
before rs j k = precedes (slice_index rs j) j (slice_index rs k) k

-- how many of the places below n pass a test
abbrev pub how_many : (ℕ → Bool) → ℕ → ℕ
how_many p zero = 0
how_many p (suc n) = how_many p n + cond (p n) 1 0

-- the rank of place k: how many places come before it
abbrev pub rank : List ℕ → ℕ → ℕ
rank rs k = how_many (λ j. before rs j k) (length rs)

-- one unit more at each of the first so many places by rank, the places having these remainders
abbrev pub topped : ℕ → List ℕ → List ℕ → List ℕ
topped units rs parts = map (λ k. slice_index parts k + cond (nat_lt (rank rs k) units) 1 0) (range_with_len 0 (length parts))

-- each weight's rounded part, and one unit more at as many places as there are units left over, the largest
-- remainders first, of equal ones the lower place
abbrev pub remainders : ℕ → List ℕ → List ℕ
remainders t ws = topped (spare t ws) (rests t ws) (floors t ws)

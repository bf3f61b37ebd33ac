-- What each scorer gives for the kW assigned, a, the errors es and the historic score h.
use Rattle.std.specs.Prelude.{ℕ, ◌+◌, ◌-◌, ◌*◌, ◌/◌, ◌%◌, ◌≤◌, min, Bool, cond, ◌&&◌, List, length, sum, count_by, ◌==◌, nat_le}
use Rattle.std.specs.List.{AllZip, list_all}
use Rattle.score.specs.Ranges.{assigned_fits, error_fits, historic_fits}

-- every value is in its range, and there are thirty errors
abbrev pub scorable : ℕ → List ℕ → ℕ → Bool
scorable a es h = assigned_fits a && (length es == 30 && (list_all error_fits es && historic_fits h))

-- what is not scorable scores 0
abbrev pub scored : ℕ → List ℕ → ℕ → ℕ → ℕ
scored a es h score = cond (scorable a es h) score 0

-- as many errors, and none of es is larger than the one of fs at its place
abbrev pub NoLarger : List ℕ → List ℕ → Type 0
NoLarger es fs = AllZip (λ e f. e ≤ f) es fs

-- a quotient rounded up: one more where there is a remainder
abbrev pub rounded_up : ℕ → ℕ → ℕ
rounded_up n d = n / d + min 1 (n % d)

-- 10,000 less the sum of the errors divided by 30 × a and rounded up, and 0 where that would be less
abbrev pub precision : ℕ → List ℕ → ℕ → ℕ
precision a es h = scored a es h (10000 - rounded_up (sum es) (30 * a))

-- 10,000 × k / 30 rounded down, where k errors are at most 1,000 × a
abbrev pub band : ℕ → List ℕ → ℕ → ℕ
band a es h = scored a es h (10000 * count_by (λ e. nat_le e (1000 * a)) es / 30)

-- the historic score
abbrev pub historic : ℕ → List ℕ → ℕ → ℕ
historic a es h = scored a es h h

-- p × x + (10,000 - p) × y, divided by 10,000 and rounded down; a weight p above 10,000 counts as 10,000
abbrev pub blended : ℕ → ℕ → ℕ → ℕ
blended p x y = (min p 10000 * x + (10000 - min p 10000) * y) / 10000

use Rattle.std.proofs.Common.{◌≡◌, ℕ, ◌+◌, max, get_or}
use Rattle.std.specs.List.{IsFirstMaxByKey}
use Rattle.scoresheet.proofs.sheet.largest_error.Given as goal

-- the first largest of the errors so far; of the first alone where there is none so far
abbrev pub invariant-loop-place : goal.invariant-loop-place
invariant-loop-place l =
    (k : ℕ) × (l.largest.point ≡ k + 1) × (l.largest.error ≡ get_or l.errors k 0) × IsFirstMaxByKey (λ e. e) l.errors (max 1 l.place) k

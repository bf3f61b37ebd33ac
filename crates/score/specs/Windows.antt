-- The points of a window.
use Rattle.std.specs.Prelude.{◌-◌, cond, List, [], ◌∷◌, ◌++◌, length, replicate, ℤ, pos, Some, None, Option, nat_le}
use Rattle.std.specs.Option.{option_or}
use Rattle.score.specs.Ranges.{point_fits}
use Rattle.score.specs.declared.refusal.WindowRefusal.{WindowRefusal}
use Rattle.score.specs.declared.refusal.WindowRefusal.TheVariants.{Full, PointRange}

-- the first refusal that applies to a point, where these points are gathered already
abbrev pub point_refusal : List ℤ → ℤ → Option WindowRefusal
point_refusal gathered point =
    cond (nat_le 30 (length gathered)) (Some Full) (cond (point_fits point) None (Some PointRange))

-- the refusal of the first point that is refused, where points are sent one after another to a window that has
-- gathered some already
abbrev pub first_refusal : List ℤ → List ℤ → Option WindowRefusal
first_refusal gathered [] = None
first_refusal gathered (point ∷ points) =
    option_or (point_refusal gathered point) (first_refusal (gathered ++ point ∷ []) points)

-- the points of a window once it is closed: those gathered, and 0 for each that was not sent
abbrev pub closed : List ℤ → List ℤ
closed gathered = gathered ++ replicate (30 - length gathered) (pos 0)

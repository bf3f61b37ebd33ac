-- A divider that is chosen at run time is exact.
use Rattle.std.specs.Prelude.{ℕ, List}
use Rattle.divide.specs.Refusals.{Shareable}
use Rattle.divide.specs.Exact.{Exact}
use Rattle.divide.specs.Any.{chosen}
use Rattle.divide.specs.Rests.{remainders_exact}
use Rattle.divide.specs.Runs.{running_exact}
use Rattle.divide.specs.declared.any.AnyDivider.{AnyDivider}
use Rattle.divide.specs.declared.any.AnyDivider.TheVariants as choice

pub chosen_exact : (d : AnyDivider) (t : ℕ) (ws : List ℕ) → Shareable t ws → Exact t ws (chosen d t ws)
chosen_exact choice.Remainders t ws fine = remainders_exact t ws fine
chosen_exact choice.Running t ws fine = running_exact t ws fine

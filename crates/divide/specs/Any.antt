-- What a divider that is chosen at run time means.
use Rattle.std.specs.Prelude.{ℕ, List}
use Rattle.divide.specs.Remainders.{remainders}
use Rattle.divide.specs.Running.{running}
use Rattle.divide.specs.declared.any.AnyDivider.{AnyDivider}
use Rattle.divide.specs.declared.any.AnyDivider.TheVariants as choice

abbrev pub chosen : AnyDivider → ℕ → List ℕ → List ℕ
chosen choice.Remainders t ws = remainders t ws
chosen choice.Running t ws = running t ws

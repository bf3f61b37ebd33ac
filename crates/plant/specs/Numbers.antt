-- The number of each refusal of a record, an assignment and prices, by the table of refusals.
use Rattle.std.specs.Prelude.{ℕ}
use Rattle.plant.specs.declared.fault.ResourceFault.{ResourceFault}
use Rattle.plant.specs.declared.fault.ResourceFault.TheVariants as fault
use Rattle.plant.specs.declared.refusal.AssignmentRefusal.{AssignmentRefusal}
use Rattle.plant.specs.declared.refusal.AssignmentRefusal.TheVariants as assignment
use Rattle.plant.specs.declared.refusal.PriceRefusal.{PriceRefusal}
use Rattle.plant.specs.declared.refusal.PriceRefusal.TheVariants as price

-- of a record: a value or a list's length outside its range, or a rule that is broken; the latter says limits, owners
-- or curve, and a curve's the block and what of it is at fault
abbrev pub fault_number : ResourceFault → ℕ
fault_number fault.OwnerCount = 6
fault_number fault.BlockCount = 6
fault_number fault.Ramp = 6
fault_number fault.Share = 6
fault_number fault.Price = 6
fault_number fault.Limits = 7
fault_number fault.Owners = 7
fault_number (fault.Curve e) = 7

-- of an assignment
abbrev pub assignment_number : AssignmentRefusal → ℕ
assignment_number assignment.Kw = 6
assignment_number assignment.Offer = 6
assignment_number assignment.Ramp = 8
assignment_number assignment.Band = 8

-- of prices
abbrev pub price_number : PriceRefusal → ℕ
price_number price.Rmccp = 6
price_number price.Rmmcp = 6
price_number price.Lmp = 6
price_number price.HistoricMileage = 6

-- The ranges of prices, offers and the values of a record, and what is refused for being outside them.
use Rattle.std.specs.Prelude.{ℕ, Bool, cond, ◌&&◌, ℤ, Some, None, Option, nat_le, unsigned_abs}
use Rattle.score.specs.Ranges.{assigned_fits}
use Rattle.plant.specs.declared.record.Schedule.{Schedule}
use Rattle.plant.specs.declared.record.Schedule.TheVariants.{Pool, Own}
use Rattle.plant.specs.declared.refusal.AssignmentRefusal.{AssignmentRefusal}
use Rattle.plant.specs.declared.refusal.AssignmentRefusal.TheVariants as assignment
use Rattle.plant.specs.declared.refusal.PriceRefusal.{PriceRefusal}
use Rattle.plant.specs.declared.refusal.PriceRefusal.TheVariants as price

-- a price of capability is from 0 to 1,000,000
abbrev pub rmccp_fits : ℕ → Bool
rmccp_fits p = nat_le p 1000000

-- a price of mileage is from 0 to 100,000
abbrev pub rmmcp_fits : ℕ → Bool
rmmcp_fits p = nat_le p 100000

-- a price of energy, of a block or of the interval, is from -1,000,000 to 1,000,000
abbrev pub energy_price_fits : ℤ → Bool
energy_price_fits p = nat_le (unsigned_abs p) 1000000

-- a historic mileage is from 10,000 to 3,000,000
abbrev pub historic_mileage_fits : ℕ → Bool
historic_mileage_fits m = nat_le 10000 m && nat_le m 3000000

-- the first refusal that applies to prices
abbrev pub price_refusal : ℕ → ℕ → ℤ → ℕ → Option PriceRefusal
price_refusal rmccp rmmcp lmp mileage =
    cond (rmccp_fits rmccp)
    (cond (rmmcp_fits rmmcp)
    (cond (energy_price_fits lmp)
    (cond (historic_mileage_fits mileage) None (Some price.HistoricMileage))
    (Some price.Lmp))
    (Some price.Rmmcp))
    (Some price.Rmccp)

-- the offer price of an assignment that the pool schedules; 0 where the resource schedules itself
abbrev pub offer_of : Schedule → ℕ
offer_of (Pool offer) = offer
offer_of Own = 0

-- an offer price is from 0 to 100,000
abbrev pub offer_fits : ℕ → Bool
offer_fits p = nat_le p 100000

-- the first refusal that applies to an assignment, whatever the resource
abbrev pub assignment_refusal : ℕ → Schedule → Option AssignmentRefusal
assignment_refusal kw schedule =
    cond (assigned_fits kw)
    (cond (offer_fits (offer_of schedule)) None (Some assignment.Offer))
    (Some assignment.Kw)

-- a ramp is from 1 to 500,000 kW in five minutes
abbrev pub ramp_fits : ℕ → Bool
ramp_fits r = nat_le 1 r && nat_le r 500000

-- an owner's share is from 1 to 10,000 ten-thousandths
abbrev pub share_fits : ℕ → Bool
share_fits s = nat_le 1 s && nat_le s 10000

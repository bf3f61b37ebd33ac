-- Which records are a resource's, and the first fault of one that is not.
use Rattle.std.specs.Prelude.{ℕ, ◌+◌, ◌-◌, Bool, true, cond, not, ◌&&◌, ◌||◌, List, [], ◌∷◌, length, pos, Some, None, sum_by, Option, ◌==◌, int_le, nat_le, nat_lt, slice_index_or}
use Rattle.std.specs.List.{list_all, list_any, range_with_len}
use Rattle.std.specs.Option.{is_none, option_map, option_or}
use Rattle.plant.specs.Ranges.{energy_price_fits, ramp_fits, share_fits}
use Rattle.plant.specs.Plants.{Plant}
use Rattle.plant.specs.declared.fault.Aspect.{Aspect}
use Rattle.plant.specs.declared.fault.Aspect.TheVariants as aspect
use Rattle.plant.specs.declared.fault.CurveFault.{CurveFault}
use Rattle.plant.specs.declared.fault.ResourceFault.{ResourceFault}
use Rattle.plant.specs.declared.fault.ResourceFault.TheVariants as fault
use Rattle.plant.specs.declared.record.Kind.{Kind}
use Rattle.plant.specs.declared.record.Kind.TheVariants.{Generator, Demand}
use Rattle.plant.specs.declared.record.Limits.{Limits}
use Rattle.plant.specs.declared.record.Owner.{Owner}
use Rattle.plant.specs.declared.record.Block.{Block}

-- 0 ≤ eco min ≤ reg low < reg high ≤ eco max ≤ 1,000,000 kW
abbrev pub limits_hold : Limits → Bool
limits_hold l =
    nat_le l.eco_min l.reg_low && (nat_lt l.reg_low l.reg_high && (nat_le l.reg_high l.eco_max && nat_le l.eco_max 1000000))

-- one of the owners is this account
abbrev pub owned_by : ℕ → List Owner → Bool
owned_by account os = list_any (λ o. o.account == account) os

-- no account is named twice
abbrev pub each_once : List Owner → Bool
each_once [] = true
each_once (o ∷ os) = not (owned_by o.account os) && each_once os

-- each owner is named once, and the shares add up to 10,000
abbrev pub owners_hold : List Owner → Bool
owners_hold os = each_once os && sum_by (λ o. o.share) os == 10000

-- the block at place k, which is block k + 1
abbrev pub block_at : List Block → ℕ → Block
block_at bs k = slice_index_or bs k (record { end = 0; price = pos 0 })

-- the block before place k, if there is one
abbrev pub before : List Block → ℕ → Option Block
before bs k = cond (k == 0) None (Some (block_at bs (k - 1)))

-- where a block begins: at the end of the one before, or 0
abbrev pub start_after : Option Block → ℕ
start_after None = 0
start_after (Some b) = b.end

-- its end is 1 or more and above the end before, and if it is the last, it is eco max
abbrev pub level_holds : ℕ → Option Block → Block → Bool → Bool
level_holds eco_max before b last = nat_lt (start_after before) b.end && (not last || b.end == eco_max)

-- its price is not below the one before
abbrev pub price_holds : Option Block → Block → Bool
price_holds None b = true
price_holds (Some before) b = int_le before.price b.price

-- what of a block is at fault: its level before its price
abbrev pub aspect_at_fault : ℕ → Option Block → Block → Bool → Option Aspect
aspect_at_fault eco_max before b last =
    cond (level_holds eco_max before b last)
    (cond (price_holds before b) None (Some aspect.Price))
    (Some aspect.Level)

-- the fault of the block at place k
abbrev pub block_fault : ℕ → List Block → ℕ → Option CurveFault
block_fault eco_max bs k =
    option_map (λ a. record { block = k + 1; aspect = a }) (aspect_at_fault eco_max (before bs k) (block_at bs k) (k + 1 == length bs))

-- the fault of the first place that has one
abbrev pub first_fault : {E : Type 0} → (ℕ → Option E) → List ℕ → Option E
first_fault f [] = None
first_fault f (k ∷ ks) = option_or (f k) (first_fault f ks)

-- the fault of the lowest block that has one
unfoldable pub blocks_fault : ℕ → List Block → Option CurveFault
blocks_fault eco_max bs = first_fault (block_fault eco_max bs) (range_with_len 0 (length bs))

-- there is a curve where none is due, or none where one is
abbrev pub undue : Option CurveFault
undue = Some (record { block = 0; aspect = aspect.Level })

-- the fault of a curve, by the kind of resource: a generator has one, a demand resource has none
abbrev pub curve_fault : Kind → ℕ → List Block → Option CurveFault
curve_fault Generator eco_max bs = cond (length bs == 0) undue (blocks_fault eco_max bs)
curve_fault Demand eco_max bs = cond (length bs == 0) None undue

-- the fault of what must be in its range: list lengths, ramp, shares, prices
abbrev pub range_fault : Plant → Option ResourceFault
range_fault p =
    cond (nat_le 1 (length p.owners) && nat_le (length p.owners) 4)
    (cond (nat_le (length p.blocks) 8)
    (cond (ramp_fits p.ramp)
    (cond (list_all (λ o. share_fits o.share) p.owners)
    (cond (list_all (λ b. energy_price_fits b.price) p.blocks) None
    (Some fault.Price))
    (Some fault.Share))
    (Some fault.Ramp))
    (Some fault.BlockCount))
    (Some fault.OwnerCount)

-- the fault of its rules: limits, owners, curve, whose fault is the record's
abbrev pub rule_fault : Plant → Option ResourceFault
rule_fault p =
    cond (limits_hold p.limits)
    (cond (owners_hold p.owners) (option_map fault.Curve (curve_fault p.kind p.limits.eco_max p.blocks))
    (Some fault.Owners))
    (Some fault.Limits)

-- the first fault of a record: its ranges before its rules
unfoldable pub record_fault : Plant → Option ResourceFault
record_fault p = option_or (range_fault p) (rule_fault p)

-- a record without fault is a resource's
abbrev pub lawful : Plant → Bool
lawful p = is_none (record_fault p)

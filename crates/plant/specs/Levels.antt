-- The level that a resource tracks, and the set point from which it regulates, in kW.
use Rattle.std.specs.Prelude.{ℕ, ◌+◌, ◌-◌, ◌*◌, min, max, cond, List, ℤ, Some, None, Option, int_le, nat_le, reverse}
use Rattle.std.specs.List.{find}
use Rattle.std.specs.Option.{option_map, unwrap_or}
use Rattle.plant.specs.Plants.{Plant}
use Rattle.plant.specs.declared.record.Kind.{Kind}
use Rattle.plant.specs.declared.record.Kind.TheVariants.{Generator, Demand}
use Rattle.plant.specs.declared.record.Limits.{Limits}
use Rattle.plant.specs.declared.record.Block.{Block}
use Rattle.plant.specs.declared.refusal.AssignmentRefusal.{AssignmentRefusal}
use Rattle.plant.specs.declared.refusal.AssignmentRefusal.TheVariants as assignment

-- the first refusal that applies to an assignment of a kW to a resource: they are at most its ramp, and twice they
-- are at most the width of its band
abbrev pub placing_refusal : Plant → ℕ → Option AssignmentRefusal
placing_refusal p a =
    cond (nat_le a p.ramp)
    (cond (nat_le (2 * a) (p.limits.reg_high - p.limits.reg_low)) None (Some assignment.Band))
    (Some assignment.Ramp)

-- the end of the last block priced at most lmp, or `level` where there is none
abbrev pub last_end : ℤ → ℕ → List Block → ℕ
last_end lmp level bs = unwrap_or (option_map (λ b. b.end) (find (λ b. int_le b.price lmp) (reverse bs))) level

-- the desired level: that end, but at least eco min; eco min where there is no such block
abbrev pub desired : Plant → ℤ → ℕ
desired p lmp = max p.limits.eco_min (last_end lmp p.limits.eco_min p.blocks)

-- from a level toward another by at most so much
abbrev pub toward : ℕ → ℕ → ℕ → ℕ
toward most level aim = level + min most (aim - level) - min most (level - aim)

-- the level after an interval: a generator moves toward its desired level by at most its ramp, less what is assigned,
-- if anything is; a demand resource keeps its level
abbrev pub moved_by : Kind → Plant → ℕ → ℤ → Option ℕ → ℕ
moved_by Generator p level lmp assigned = toward (p.ramp - unwrap_or assigned 0) level (desired p lmp)
moved_by Demand p level lmp assigned = level

abbrev pub moved : Plant → ℕ → ℤ → Option ℕ → ℕ
moved p level lmp assigned = moved_by p.kind p level lmp assigned

-- a number held between two
abbrev pub between : ℕ → ℕ → ℕ → ℕ
between low high x = max low (min high x)

-- the set point where a kW are assigned: the level held between reg low + a and reg high - a
abbrev pub set_point : Limits → ℕ → ℕ → ℕ
set_point l level a = between (l.reg_low + a) (l.reg_high - a) level

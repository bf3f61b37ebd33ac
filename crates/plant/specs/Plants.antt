-- A resource's record as plain values.
use Rattle.std.specs.Prelude.{ℕ, List, vec_items}
use Rattle.plant.specs.declared.record.Kind.{Kind}
use Rattle.plant.specs.declared.record.Limits.{Limits}
use Rattle.plant.specs.declared.record.Owner.{Owner}
use Rattle.plant.specs.declared.record.Block.{Block}
use Rattle.plant.specs.declared.record.Record.{Record}

-- what it is, its limits in kW, its ramp in kW in five minutes, its owners, and the blocks of its curve
pub record Plant : Type 0 where
  pub kind : Kind
  pub limits : Limits
  pub ramp : ℕ
  pub owners : List Owner
  pub blocks : List Block

-- what a record says
abbrev pub plant_of : Record → Plant
plant_of r = record {
  kind = r.kind;
  limits = r.limits;
  ramp = r.ramp.per_interval;
  owners = vec_items r.owners;
  blocks = vec_items r.blocks;
}

-- What a resource loses by running at its set point and not at the level that it tracks.
use Rattle.std.specs.Prelude.{ℕ, zero, suc, cond, List, [], ◌∷◌, ℤ, pos, negsuc, ◌+ℤ◌, ◌-ℤ◌, ◌*ℤ◌, nat_le}
use Rattle.plant.specs.declared.record.Kind.{Kind}
use Rattle.plant.specs.declared.record.Kind.TheVariants.{Generator, Demand}
use Rattle.plant.specs.declared.record.Block.{Block}

-- the price of kW number k, counted from 1: that of the first block whose end is not below k; 0 past the last block
abbrev pub price_of_kw : List Block → ℕ → ℤ
price_of_kw [] k = pos 0
price_of_kw (b ∷ bs) k = cond (nat_le k b.end) b.price (price_of_kw bs k)

-- the curve's cost from 0 to x: each kW at its block's price
unfoldable pub curve_cost : List Block → ℕ → ℤ
curve_cost bs zero = pos 0
curve_cost bs (suc x) = curve_cost bs x +ℤ price_of_kw bs (suc x)

-- what running at x kW earns at the price lmp, less what it costs
abbrev pub margin : List Block → ℤ → ℕ → ℤ
margin bs lmp x = pos x *ℤ lmp -ℤ curve_cost bs x

-- a number, or 0 where it is negative
abbrev pub not_negative : ℤ → ℕ
not_negative (pos n) = n
not_negative (negsuc n) = 0

-- the opportunity area of a generator that tracks the level d and runs at the set point s; a demand resource has none
abbrev pub area : Kind → List Block → ℤ → ℕ → ℕ → ℕ
area Generator bs lmp d s = not_negative (margin bs lmp d -ℤ margin bs lmp s)
area Demand bs lmp d s = 0

-- What definitions said formerly, and that they say the same, of every record, list and number.
use Rattle.std.proofs.Common.{◌∙◌, sym, refl, ap}
use Rattle.std.proofs.lemmas.Grind.{reverse_onto}
use Rattle.std.proofs.lemmas.List.Folds.{find-append}
use Rattle.std.specs.Prelude.{◌≡◌, ℕ, ◌+◌, ◌-◌, Bool, true, false, cond, not, ◌&&◌, ◌||◌, List, [], ◌∷◌, length, max, reverse, ℤ, is_some, Some, None, sum_by, Option, ◌==◌, int_le, nat_le, nat_lt}
use Rattle.std.specs.Int.{abs_diff}
use Rattle.std.specs.List.{list_all, find, range_with_len}
use Rattle.std.specs.Option.{option_map, option_or, unwrap_or}
use Rattle.plant.specs.Levels.{last_end, desired, toward, moved_by, moved}
use Rattle.plant.specs.Plants.{Plant}
use Rattle.plant.specs.Ranges.{energy_price_fits, ramp_fits, share_fits}
use Rattle.plant.specs.Records.{owned_by, each_once, owners_hold, block_at, before, start_after, level_holds, price_holds, block_fault, first_fault, blocks_fault, undue, curve_fault, limits_hold, range_fault, rule_fault, record_fault, lawful}
use Rattle.plant.specs.declared.fault.Aspect.TheVariants as aspect
use Rattle.plant.specs.declared.fault.CurveFault.{CurveFault}
use Rattle.plant.specs.declared.fault.ResourceFault.{ResourceFault}
use Rattle.plant.specs.declared.fault.ResourceFault.TheVariants as fault
use Rattle.plant.specs.declared.record.Block.{Block}
use Rattle.plant.specs.declared.record.Kind.{Kind}
use Rattle.plant.specs.declared.record.Kind.TheVariants.{Generator, Demand}
use Rattle.plant.specs.declared.record.Owner.{Owner}

-- one of the owners is this account
abbrev pub former_owned_by : ℕ → List Owner → Bool
former_owned_by account [] = false
former_owned_by account (o ∷ os) = o.account == account || former_owned_by account os

-- no account is named twice
abbrev pub former_each_once : List Owner → Bool
former_each_once [] = true
former_each_once (o ∷ os) = not (former_owned_by o.account os) && former_each_once os

-- each owner is named once, and the shares add up to 10,000
abbrev pub former_owners_hold : List Owner → Bool
former_owners_hold os = former_each_once os && sum_by (λ o. o.share) os == 10000

-- where the block at place k begins: at the end of the block before, or 0
abbrev pub former_start_at : List Block → ℕ → ℕ
former_start_at bs k = cond (k == 0) 0 (block_at bs (k - 1)).end

-- its end is 1 or more and above the end before, and if it is the last, it is eco max
abbrev pub former_level_holds : ℕ → List Block → ℕ → Bool
former_level_holds eco_max bs k = nat_lt (former_start_at bs k) (block_at bs k).end && (not (k + 1 == length bs) || (block_at bs k).end == eco_max)

-- its price is not below the one before
abbrev pub former_price_holds : List Block → ℕ → Bool
former_price_holds bs k = k == 0 || int_le (block_at bs (k - 1)).price (block_at bs k).price

-- the fault of the block at place k: its level before its price
abbrev pub former_block_fault : ℕ → List Block → ℕ → Option CurveFault
former_block_fault eco_max bs k =
    cond (former_level_holds eco_max bs k)
    (cond (former_price_holds bs k) None (Some (record { block = k + 1; aspect = aspect.Price })))
    (Some (record { block = k + 1; aspect = aspect.Level }))

-- a fault, or else another
abbrev pub former_or_else : {E : Type 0} → Option E → Option E → Option E
former_or_else None other = other
former_or_else (Some e) other = Some e

-- the fault of the first place that has one
abbrev pub former_first_fault : {E : Type 0} → (ℕ → Option E) → List ℕ → Option E
former_first_fault f [] = None
former_first_fault f (k ∷ ks) = former_or_else (f k) (former_first_fault f ks)

-- the fault of the lowest block that has one
abbrev pub former_blocks_fault : ℕ → List Block → Option CurveFault
former_blocks_fault eco_max bs = former_first_fault (former_block_fault eco_max bs) (range_with_len 0 (length bs))

-- the fault of a curve, by the kind of resource: a generator has one, a demand resource has none
abbrev pub former_curve_fault : Kind → ℕ → List Block → Option CurveFault
former_curve_fault Generator eco_max bs = cond (length bs == 0) undue (former_blocks_fault eco_max bs)
former_curve_fault Demand eco_max bs = cond (length bs == 0) None undue

-- the curve's fault as the record's
abbrev pub former_of_curve : Option CurveFault → Option ResourceFault
former_of_curve None = None
former_of_curve (Some e) = Some (fault.Curve e)

-- every element passes the test
abbrev pub former_every : {X : Type 0} → (X → Bool) → List X → Bool
former_every test [] = true
former_every test (x ∷ xs) = test x && former_every test xs

-- the fault of what must be in its range: list lengths, ramp, shares, prices
abbrev pub former_range_fault : Plant → Option ResourceFault
former_range_fault p =
    cond (nat_le 1 (length p.owners) && nat_le (length p.owners) 4)
    (cond (nat_le (length p.blocks) 8)
    (cond (ramp_fits p.ramp)
    (cond (former_every (λ o. share_fits o.share) p.owners)
    (cond (former_every (λ b. energy_price_fits b.price) p.blocks) None
    (Some fault.Price))
    (Some fault.Share))
    (Some fault.Ramp))
    (Some fault.BlockCount))
    (Some fault.OwnerCount)

-- the fault of its rules: limits, owners, curve
abbrev pub former_rule_fault : Plant → Option ResourceFault
former_rule_fault p =
    cond (limits_hold p.limits)
    (cond (former_owners_hold p.owners) (former_of_curve (former_curve_fault p.kind p.limits.eco_max p.blocks))
    (Some fault.Owners))
    (Some fault.Limits)

-- the first fault of a record: its ranges before its rules
abbrev pub former_record_fault : Plant → Option ResourceFault
former_record_fault p = former_or_else (former_range_fault p) (former_rule_fault p)

-- a record without fault is a resource's
abbrev pub former_lawful : Plant → Bool
former_lawful p = not (is_some (former_record_fault p))

-- the end of the last block priced at most lmp, or `level` where there is none
abbrev pub former_last_end : ℤ → ℕ → List Block → ℕ
former_last_end lmp level [] = level
former_last_end lmp level (b ∷ bs) = former_last_end lmp (cond (int_le b.price lmp) b.end level) bs

-- how far apart two numbers are: subtraction stops at 0, so at least one of the two differences is 0
abbrev pub former_apart : ℕ → ℕ → ℕ
former_apart a b = (a - b) + (b - a)

-- the desired level: that end, but at least eco min; eco min where there is no such block
abbrev pub former_desired : Plant → ℤ → ℕ
former_desired p lmp = max p.limits.eco_min (former_last_end lmp p.limits.eco_min p.blocks)

-- the kW by which an assignment lessens the ramp: none where nothing is assigned
abbrev pub former_held_back : Option ℕ → ℕ
former_held_back None = 0
former_held_back (Some a) = a

-- the level after an interval: a generator moves toward its desired level by at most its ramp, less what is assigned;
-- a demand resource keeps its level
abbrev pub former_moved_by : Kind → Plant → ℕ → ℤ → Option ℕ → ℕ
former_moved_by Generator p level lmp assigned = toward (p.ramp - former_held_back assigned) level (former_desired p lmp)
former_moved_by Demand p level lmp assigned = level

abbrev pub former_moved : Plant → ℕ → ℤ → Option ℕ → ℕ
former_moved p level lmp assigned = former_moved_by p.kind p level lmp assigned

-- an account is an owner where it formerly was
pub former_owned_by_same : (account : ℕ) (os : List Owner) → former_owned_by account os ≡ owned_by account os
former_owned_by_same account [] = refl
former_owned_by_same account (o ∷ os) = ap (λ b. o.account == account || b) (former_owned_by_same account os)

-- accounts are named once where they formerly were
pub former_each_once_same : (os : List Owner) → former_each_once os ≡ each_once os
former_each_once_same [] = refl
former_each_once_same (o ∷ os) = λ i. not (former_owned_by_same o.account os i) && former_each_once_same os i

-- owners keep their rule where they formerly did
pub former_owners_hold_same : (os : List Owner) → former_owners_hold os ≡ owners_hold os
former_owners_hold_same os = ap (λ b. b && sum_by (λ o. o.share) os == 10000) (former_each_once_same os)

-- a block that may be none, taken before or after it is asked where it ends
start_there : (first : Bool) (b : Block) → cond first 0 b.end ≡ start_after (cond first None (Some b))
start_there true b = refl
start_there false b = refl

-- a block begins where it formerly began
pub former_start_at_same : (bs : List Block) (k : ℕ) → former_start_at bs k ≡ start_after (before bs k)
former_start_at_same bs k = start_there (k == 0) (block_at bs (k - 1))

-- a block keeps the rule of levels where it formerly did
pub former_level_holds_same : (eco_max : ℕ) (bs : List Block) (k : ℕ) → former_level_holds eco_max bs k ≡ level_holds eco_max (before bs k) (block_at bs k) (k + 1 == length bs)
former_level_holds_same eco_max bs k = ap (λ s. nat_lt s (block_at bs k).end && (not (k + 1 == length bs) || (block_at bs k).end == eco_max)) (former_start_at_same bs k)

-- the first block has no price before it
price_there : (first : Bool) (a b : Block) → (first || int_le a.price b.price) ≡ price_holds (cond first None (Some a)) b
price_there true a b = refl
price_there false a b = refl

-- a block keeps the rule of prices where it formerly did
pub former_price_holds_same : (bs : List Block) (k : ℕ) → former_price_holds bs k ≡ price_holds (before bs k) (block_at bs k)
former_price_holds_same bs k = price_there (k == 0) (block_at bs (k - 1)) (block_at bs k)

-- the fault of the block at place k, by whether its level and its price hold
abbrev fault_by : ℕ → Bool → Bool → Option CurveFault
fault_by k level price =
    cond level
    (cond price None (Some (record { block = k + 1; aspect = aspect.Price })))
    (Some (record { block = k + 1; aspect = aspect.Level }))

-- it is what is at fault, with the place put in afterwards
placed : (k : ℕ) (level price : Bool) → fault_by k level price ≡ option_map (λ a. record { block = k + 1; aspect = a }) (cond level (cond price None (Some aspect.Price)) (Some aspect.Level))
placed k false price = refl
placed k true false = refl
placed k true true = refl

-- a block has the fault that it formerly had
pub former_block_fault_same : (eco_max : ℕ) (bs : List Block) (k : ℕ) → former_block_fault eco_max bs k ≡ block_fault eco_max bs k
former_block_fault_same eco_max bs k =
    (λ i. fault_by k (former_level_holds_same eco_max bs k i) (former_price_holds_same bs k i))
    ∙ placed k (level_holds eco_max (before bs k) (block_at bs k) (k + 1 == length bs)) (price_holds (before bs k) (block_at bs k))

-- a fault or else another is the library's
pub former_or_else_same : {E : Type 0} (a b : Option E) → former_or_else a b ≡ option_or a b
former_or_else_same None b = refl
former_or_else_same (Some e) b = refl

-- the first fault is the same where each place has the same
pub former_first_fault_same : {E : Type 0} (f g : ℕ → Option E) (ks : List ℕ) → ((k : ℕ) → f k ≡ g k) → former_first_fault f ks ≡ first_fault g ks
former_first_fault_same f g [] same = refl
former_first_fault_same f g (k ∷ ks) same =
    former_or_else_same (f k) (former_first_fault f ks) ∙ (λ i. option_or (same k i) (former_first_fault_same f g ks same i))

-- blocks have the fault that they formerly had
pub former_blocks_fault_same : (eco_max : ℕ) (bs : List Block) → former_blocks_fault eco_max bs ≡ blocks_fault eco_max bs
unfolding blocks_fault
former_blocks_fault_same eco_max bs = former_first_fault_same (former_block_fault eco_max bs) (block_fault eco_max bs) (range_with_len 0 (length bs)) (former_block_fault_same eco_max bs)

-- a curve has the fault that it formerly had
pub former_curve_fault_same : (kind : Kind) (eco_max : ℕ) (bs : List Block) → former_curve_fault kind eco_max bs ≡ curve_fault kind eco_max bs
former_curve_fault_same Generator eco_max bs = ap (cond (length bs == 0) undue) (former_blocks_fault_same eco_max bs)
former_curve_fault_same Demand eco_max bs = refl

-- the curve's fault becomes the record's as it formerly did
pub former_of_curve_same : (o : Option CurveFault) → former_of_curve o ≡ option_map fault.Curve o
former_of_curve_same None = refl
former_of_curve_same (Some e) = refl

-- every element passes where the library says so
pub former_every_same : {X : Type 0} (test : X → Bool) (xs : List X) → former_every test xs ≡ list_all test xs
former_every_same test [] = refl
former_every_same test (x ∷ xs) = ap (λ b. test x && b) (former_every_same test xs)

-- what must be in its range has the fault that it formerly had
pub former_range_fault_same : (p : Plant) → former_range_fault p ≡ range_fault p
former_range_fault_same p = λ i.
    cond (nat_le 1 (length p.owners) && nat_le (length p.owners) 4)
    (cond (nat_le (length p.blocks) 8)
    (cond (ramp_fits p.ramp)
    (cond (former_every_same (λ o. share_fits o.share) p.owners i)
    (cond (former_every_same (λ b. energy_price_fits b.price) p.blocks i) None
    (Some fault.Price))
    (Some fault.Share))
    (Some fault.Ramp))
    (Some fault.BlockCount))
    (Some fault.OwnerCount)

-- what must keep a rule has the fault that it formerly had
pub former_rule_fault_same : (p : Plant) → former_rule_fault p ≡ rule_fault p
former_rule_fault_same p =
    let curve : former_of_curve (former_curve_fault p.kind p.limits.eco_max p.blocks) ≡ option_map fault.Curve (curve_fault p.kind p.limits.eco_max p.blocks) = ap former_of_curve (former_curve_fault_same p.kind p.limits.eco_max p.blocks) ∙ former_of_curve_same (curve_fault p.kind p.limits.eco_max p.blocks) in
    (λ i. cond (limits_hold p.limits) (cond (former_owners_hold_same p.owners i) (curve i) (Some fault.Owners)) (Some fault.Limits))

-- a record has the fault that it formerly had
pub former_record_fault_same : (p : Plant) → former_record_fault p ≡ record_fault p
unfolding record_fault
former_record_fault_same p =
    former_or_else_same (former_range_fault p) (former_rule_fault p) ∙ (λ i. option_or (former_range_fault_same p i) (former_rule_fault_same p i))

-- a record is a resource's where it formerly was
pub former_lawful_same : (p : Plant) → former_lawful p ≡ lawful p
former_lawful_same p = ap (λ o. not (is_some o)) (former_record_fault_same p)

-- of two places where an end may be found, the first that has one
ends_in_turn : (a : Option Block) (test : Bool) (b : Block) (level : ℕ) → unwrap_or (option_map (λ c. c.end) a) (cond test b.end level) ≡ unwrap_or (option_map (λ c. c.end) (option_or a (cond test (Some b) None))) level
ends_in_turn None true b level = refl
ends_in_turn None false b level = refl
ends_in_turn (Some a) test b level = refl

-- the last block priced at most lmp is the one that it formerly was
pub former_last_end_same : (lmp : ℤ) (level : ℕ) (bs : List Block) → former_last_end lmp level bs ≡ last_end lmp level bs
former_last_end_same lmp level [] = refl
former_last_end_same lmp level (b ∷ bs) =
    let test : Block → Bool = λ c. int_le c.price lmp in
    former_last_end_same lmp (cond (test b) b.end level) bs
    ∙ ends_in_turn (find test (reverse bs)) (test b) b level
    ∙ ap (λ o. unwrap_or (option_map (λ c. c.end) o) level) (sym (find-append test (reverse bs) (b ∷ [])) ∙ ap (find test) (sym (reverse_onto bs b [])))

-- two numbers are as far apart as the library says
pub former_apart_same : (a b : ℕ) → former_apart a b ≡ abs_diff a b
former_apart_same a b = refl

-- the desired level is what it formerly was
pub former_desired_same : (p : Plant) (lmp : ℤ) → former_desired p lmp ≡ desired p lmp
former_desired_same p lmp = ap (max p.limits.eco_min) (former_last_end_same lmp p.limits.eco_min p.blocks)

-- an assignment lessens the ramp as it formerly did
pub former_held_back_same : (assigned : Option ℕ) → former_held_back assigned ≡ unwrap_or assigned 0
former_held_back_same None = refl
former_held_back_same (Some a) = refl

-- a resource of either kind moves as it formerly did
pub former_moved_by_same : (kind : Kind) (p : Plant) (level : ℕ) (lmp : ℤ) (assigned : Option ℕ) → former_moved_by kind p level lmp assigned ≡ moved_by kind p level lmp assigned
former_moved_by_same Generator p level lmp assigned = λ i. toward (p.ramp - former_held_back_same assigned i) level (former_desired_same p lmp i)
former_moved_by_same Demand p level lmp assigned = refl

-- the level after an interval is what it formerly was
pub former_moved_same : (p : Plant) (level : ℕ) (lmp : ℤ) (assigned : Option ℕ) → former_moved p level lmp assigned ≡ moved p level lmp assigned
former_moved_same p = former_moved_by_same p.kind p

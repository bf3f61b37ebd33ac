use Rattle.std.proofs.Common.{ℕ, ◌∙◌, ◌^◌, cond, List, get_or, arith, rules, tests}
use Rattle.std.specs.List.{enumerate_from}
use Rattle.std.proofs.lemmas.Iterator.{YieldsList-from_slice, YieldsList-from_map}
use Rattle.std.proofs.lemmas.Iterator.Consumers.{YieldsList-from_enumerate, sum_by_from_yields_List, fits_by_from_yields_list}
use Rattle.std.proofs.lemmas.List.FromFn.{length-enumerate_from}
use Rattle.std.proofs.lemmas.List.Sums.{count_by-le-length}
use Rattle.divide.specs.Remainders.{precedes}
use Rattle.divide.specs.Ranks.{how_many_counts}
use Rattle.divide.proofs.remainders.places_before.Goals as goal

-- 1 where the remainder e.1 at the place e.0 comes before that of place k, and else 0
abbrev ahead : List ℕ → ℕ → ℕ × ℕ → ℕ
ahead rs k e = cond (precedes e.1 e.0 (get_or rs k 0) k) 1 0

pub sum-requires-clause-fits : goal.sum-requires-clause-fits
sum-requires-clause-fits c =
    let few = count_by-le-length (λ (e : ℕ × ℕ). precedes e.1 e.0 (get_or c.args.left.now c.args.place 0) c.args.place) (enumerate_from 0 c.args.left.now) in
    fits_by_from_yields_list (ahead c.args.left.now c.args.place) (enumerate_from 0 c.args.left.now) c.map.result (2 ^ 64) (YieldsList-from_map _ (ahead c.args.left.now c.args.place) (YieldsList-from_enumerate (YieldsList-from_slice c.args.left.now cc) cc) c.map.ensures.closure (λ x r q h. search (rules, tests))) (omega (arith, few, length-enumerate_from 0 c.args.left.now, c.iter.ensures.bound, c.iter.ensures.len))

pub returns : goal.returns
returns c =
    sum_by_from_yields_List (ahead c.args.left.now c.args.place) (enumerate_from 0 c.args.left.now) c.map.result _ c.sum.ensures.ran (YieldsList-from_map _ (ahead c.args.left.now c.args.place) (YieldsList-from_enumerate (YieldsList-from_slice c.args.left.now cc) cc) c.map.ensures.closure (λ x r q h. search (rules, tests)))
    ∙ how_many_counts (λ r j. precedes r j (get_or c.args.left.now c.args.place 0) c.args.place) c.args.left.now

use Rattle.std.proofs.Common.{map, refl, subst, arith, rules}
use Rattle.lines.specs.Reads.{worded}
use Rattle.scorefile.specs.Request.{Asked}
use Rattle.scorefile.proofs.Requests.{numbers_at, one_at, blend_at}
use Rattle.scorefile.specs.declared.form.Heading.TheVariants as heading
use Rattle.scorefile.specs.declared.form.Expected.TheVariants as expected
use Rattle.scorefile.proofs.request.request_of.Goals as goal

pub numbers-requires : goal.numbers-requires
numbers-requires c =
    let signal = numbers_at (map worded c.args.lines.now) c.requires 3 heading.Signal (omega arith) (λ k. refl) in
    search rules

pub numbers-requires-2 : goal.numbers-requires-2
numbers-requires-2 c =
    let points = numbers_at (map worded c.args.lines.now) c.requires 4 heading.Points (omega arith) (λ k. refl) in
    search rules

pub returns : goal.returns
returns c =
    let lines = map worded c.args.lines.now in
    let assigned = one_at lines c.requires 0 heading.Assigned expected.Whole (omega arith) refl (λ k. refl) in
    let historic = one_at lines c.requires 1 heading.Historic expected.Whole (omega arith) refl (λ k. refl) in
    let previous = one_at lines c.requires 2 heading.Previous expected.Signed (omega arith) refl (λ k. refl) in
    record {
      formed = c.requires;
      assigned = search rules;
      historic = search rules;
      previous = search rules;
      readings = search rules;
      points = search rules;
      blend = blend_at lines c.requires _ (subst (λ ws. Asked ws c.blend_of.result) c.words_at-6.ensures c.blend_of.ensures);
    }

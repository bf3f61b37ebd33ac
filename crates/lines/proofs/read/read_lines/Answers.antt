use Rattle.std.proofs.Common.{◌+◌, map, vec_items, string_bytes, arith, true-eqb, false-eqb}
use Rattle.std.proofs.lemmas.List.{length-map, map_push}
use Rattle.lines.specs.Reads.{worded}
use Rattle.lines.proofs.Numbers.{passed_over, added, all_read}
use Rattle.lines.proofs.Unique.{numbered_same}
use Rattle.lines.proofs.read.read_lines.Goals as goal

pub loop-place-preserved-then-is_empty : goal.loop-place-preserved-then-is_empty
loop-place-preserved-then-is_empty c =
    passed_over c.args.text.now _ _ c.loop-place.yielded _ (cc, cc) c.loop-place.yielded_by c.loop-place.invariant _ _ _ (map string_bytes (vec_items c.in_ok-words.words)) c.in-Some.is c.next.ensures.steps c.in_ok-words.ensures
    (omega (arith, length-map (vec_items c.in_ok-words.words) string_bytes, true-eqb _ _ c.if-is_empty.ensures))

pub loop-place-preserved : goal.loop-place-preserved
loop-place-preserved c =
    rw (c.in_ok-push.ensures.items, map_push worded (vec_items c.loop-place.lines) (record { number = c.in-Some.place + 1; words = c.in_ok-words.words }))
    (added c.args.text.now _ _ c.loop-place.yielded _ (cc, cc) c.loop-place.yielded_by c.loop-place.invariant _ _ _ (map string_bytes (vec_items c.in_ok-words.words)) c.in-Some.is c.next.ensures.steps c.in_ok-words.ensures
    (omega (arith, length-map (vec_items c.in_ok-words.words) string_bytes, false-eqb _ _ c.if-is_empty.ensures)))

pub returns : goal.returns
returns c =
    let reads = all_read c.args.text.now _ _ c.loop-place.yielded _ (cc, cc) c.loop-place.yielded_by c.loop-place.invariant _ _ c.in-None.is c.next.ensures.steps in
    record { reads = reads; only = λ ws h. numbered_same 1 _ _ ws reads h }

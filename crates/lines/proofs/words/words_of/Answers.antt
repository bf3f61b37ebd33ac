use Rattle.std.proofs.Common.{vec_items, string_bytes}
use Rattle.std.specs.Str.Iter.{split_whitespace_rest}
use Rattle.lines.proofs.Seen.{seen_more, seen_all}
use Rattle.lines.proofs.words.words_of.Goals as goal

pub loop-word-preserved : goal.loop-word-preserved
loop-word-preserved c =
    let s = c.in-Some.ensures.steps in
    seen_more string_bytes c.args.text.now (split_whitespace_rest c.loop-word.word-iterator) (split_whitespace_rest c.next.new.self) c.in-Some.word.now (vec_items c.loop-word.words) (vec_items c.push.new.self) c.in_ok-from_str.field-0 c.loop-word.invariant
    (record { gap = s.0; cut = s.1; some = s.2; blank = s.3; solid = s.4; ends = s.5 })
    c.in_ok-push.ensures.items
    c.in_ok-from_str.ensures.ok

pub returns : goal.returns
returns c = seen_all _ _ _ c.loop-word.invariant c.in-None.ensures.steps.1

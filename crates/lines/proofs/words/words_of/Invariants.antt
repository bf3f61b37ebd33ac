use Rattle.std.proofs.Common.{map, vec_items, string_bytes}
use Rattle.std.specs.Str.Iter.{split_whitespace_rest}
use Rattle.lines.proofs.Seen.{Seen}
use Rattle.lines.proofs.words.words_of.Given as goal

abbrev pub invariant-loop-word : goal.invariant-loop-word
invariant-loop-word l = Seen l.text (map string_bytes (vec_items l.words)) (split_whitespace_rest l.word-iterator)

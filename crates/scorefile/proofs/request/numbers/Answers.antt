use Rattle.std.proofs.Common.{string_bytes, rules}
use Rattle.std.proofs.lemmas.Iterator.{YieldsList-from_slice, items_from_collect}
use Rattle.std.proofs.lemmas.Iterator.Adapters.{YieldsList-from_skip}
use Rattle.std.proofs.lemmas.List.{drop-map}
use Rattle.scorefile.specs.Form.{SignedNumber, signed_of}
use Rattle.scorefile.proofs.Requests.{reads_each}
use Rattle.scorefile.proofs.request.numbers.Goals as goal

pub returns : goal.returns
returns c =
    items_from_collect _ c.collect.ensures.ran
    (reads_each _ (λ w. w.now) string_bytes SignedNumber signed_of _ _ (λ x r q n k. search rules) _ _ (drop-map string_bytes 1 c.args.words.now) c.requires (cc)
    (YieldsList-from_skip 1 (YieldsList-from_slice c.args.words.now (cc)) (cc)))

-- A line more.
use Rattle.std.proofs.Common.{◌≡◌, ℕ, ◌+◌, ◌<◌, Some, None, Option, List, [], ◌∷◌, ◌++◌, length, take, Bor, sym, refl, ap, ◌∙◌, subst, append_assoc, append-nil, add-zero, arith}
use Rattle.std.specs.Iterator.{Yields}
use Rattle.std.specs.Iterator.Adapters.{enumerate_source, enumerate_count, enumerate_steps}
use Rattle.std.specs.List.{enumerate_from}
use Rattle.std.specs.Str.Iter.{lines_rest, lines_steps}
use Rattle.std.specs.Str.Lines.{lines}
use Rattle.std.specs.declared.iter.Enumerate.{Enumerate}
use Rattle.std.specs.declared.str.Lines.{Lines}
use Rattle.std.proofs.lemmas.Iterator.{YieldsList}
use Rattle.std.proofs.lemmas.Iterator.Consumers.{YieldsList-turn, YieldsList-end, YieldsList-from_enumerate}
use Rattle.std.proofs.lemmas.Iterator.Splits.{YieldsList-from_lines}
use Rattle.std.proofs.lemmas.List.{length-take-le, length_push, take_all, take_more}
use Rattle.std.proofs.lemmas.List.FromFn.{length-enumerate_from, get_or-enumerate_from}
use Rattle.lines.specs.Reads.{Worded, kept, Numbered, Reads}
use Rattle.lines.specs.Words.{Words, before_hash}

one_more : (number n : ℕ) (lines : List (List ℕ)) (ws : List Worded) (line : List ℕ) (words : List (List ℕ)) → number + length lines ≡ n → Numbered number lines ws → Words (before_hash line) words → Numbered number (lines ++ (line ∷ [])) (ws ++ kept n words)
one_more number n [] ws line words e h w =
    (words, [], w, refl, ap (λ l. l ++ kept n words) h ∙ ap (λ k. kept k words) (sym e ∙ add-zero number) ∙ sym (append-nil (kept number words)))
one_more number n (first ∷ lines) ws line words e h w =
    (h.0, h.1 ++ kept n words, h.2, one_more (number + 1) n lines h.1 line words (omega arith) h.3 w, ap (λ l. l ++ kept n words) h.4 ∙ append_assoc (kept number h.0) h.1 (kept n words))

kept_none : (number : ℕ) (words : List (List ℕ)) → length words ≡ 0 → kept number words ≡ []
kept_none number [] e = refl
kept_none number (word ∷ words) e = absurd (omega arith)

kept_some : (number : ℕ) (words : List (List ℕ)) → 0 < length words → kept number words ≡ record { number = number; words = words } ∷ []
kept_some number [] some = absurd (omega arith)
kept_some number (word ∷ words) some = refl

-- the lines that were seen give ws
abbrev pub SoFar : List ℕ → List (ℕ × Bor (List ℕ)) → List Worded → Type 0
SoFar text seen ws = Numbered 1 (take (length seen) (lines text)) ws

module _ (text : List ℕ) (s t : Enumerate Lines) (seen : List (ℕ × Bor (List ℕ))) (ws : List Worded) (start : (lines_rest (enumerate_source s) ≡ text) × (enumerate_count s ≡ 0)) (by : Yields (enumerate_steps lines_steps) s seen t) (so_far : SoFar text seen ws) where
  placed : YieldsList (enumerate_steps lines_steps) (λ p. (p.0, p.1.now)) s (enumerate_from 0 (lines text))
  placed = YieldsList-from_enumerate (YieldsList-from_lines text start.0) start.1

  module _ (u : Enumerate Lines) (r : Option (ℕ × Bor (List ℕ))) (p : ℕ × Bor (List ℕ)) (words : List (List ℕ)) (is : r ≡ Some p) (step : enumerate_steps lines_steps t r u) (here : Words (before_hash p.1.now) words) where
    line_more : SoFar text (seen ++ (p ∷ [])) (ws ++ kept (p.0 + 1) words)
    line_more =
        let k : ℕ = length seen in
        let at = YieldsList-turn placed seen t by r u p is step in
        let long : k < length (lines text) = omega (arith, at.0, length-enumerate_from 0 (lines text)) in
        let same = at.1 ∙ get_or-enumerate_from 0 (lines text) k (p.0, p.1.now) long in
        let more = one_more 1 (p.0 + 1) (take k (lines text)) ws p.1.now words (omega (arith, length-take-le k (lines text) (omega arith), ap (λ q. q.0) same)) so_far here in
        subst (λ ls. Numbered 1 ls (ws ++ kept (p.0 + 1) words))
        (ap (λ l. take k (lines text) ++ (l ∷ [])) (ap (λ q. q.1) same) ∙ sym (take_more (lines text) k p.1.now long) ∙ ap (λ n. take n (lines text)) (sym (length_push seen p))) more

    pub passed_over : length words ≡ 0 → SoFar text (seen ++ (p ∷ [])) ws
    passed_over e = subst (SoFar text (seen ++ (p ∷ []))) (ap (λ more. ws ++ more) (kept_none (p.0 + 1) words e) ∙ append-nil ws) line_more

    pub added : 0 < length words → SoFar text (seen ++ (p ∷ [])) (ws ++ (record { number = p.0 + 1; words = words } ∷ []))
    added some = subst (λ more. SoFar text (seen ++ (p ∷ [])) (ws ++ more)) (kept_some (p.0 + 1) words some) line_more

  pub all_read : (r : Option (ℕ × Bor (List ℕ))) (u : Enumerate Lines) → r ≡ None → enumerate_steps lines_steps t r u → Reads text ws
  all_read r u is step =
      let end = YieldsList-end placed seen t by r u is step in
      subst (λ ls. Numbered 1 ls ws) (take_all (length seen) (lines text) (omega (arith, end.1, length-enumerate_from 0 (lines text)))) so_far

-- A text has one list of words, so its lines give one list of numbered lines.
use Rattle.std.proofs.Common.{◌≡◌, ℕ, ◌+◌, List, [], ◌∷◌, ◌++◌, length, sym, refl, ap, ◌∙◌, subst, append-nil, arith, length-append}
use Rattle.std.specs.Char.{is_not_whitespace, is_whitespace}
use Rattle.lines.specs.Reads.{Worded, kept, Numbered}
use Rattle.lines.specs.Words.{First, Blank, Words, before_hash}
use Rattle.lines.proofs.Fronts.{opens_stops, front_same, word_stops}

first_same : (text word rest other more : List ℕ) → First text word rest → First text other more → (word ≡ other) × (rest ≡ more)
first_same text word rest other more h k =
    let after = (front_same is_not_whitespace h.gap k.gap (word ++ rest) (other ++ more) h.blank k.blank (word_stops word rest h.solid h.some) (word_stops other more k.solid k.some) (sym h.cut ∙ k.cut)).1 in
    front_same is_whitespace word other rest more h.solid k.solid (opens_stops is_whitespace rest h.ends.0 h.ends.1) (opens_stops is_whitespace more k.ends.0 k.ends.1) after

blank_none : (text word rest : List ℕ) → Blank text → First text word rest → ⊥
blank_none text word rest b h =
    let e = (front_same is_not_whitespace text h.gap [] (word ++ rest) b h.blank (λ none. absurd (omega arith)) (word_stops word rest h.solid h.some) (append-nil text ∙ h.cut)).1 in
    omega (arith, ap length e, length-append word rest, h.some)

words_same : (text : List ℕ) (ws vs : List (List ℕ)) → Words text ws → Words text vs → ws ≡ vs
words_same text [] [] h k = refl
words_same text [] (v ∷ vs) h k = absurd (blank_none text v k.0 h k.1)
words_same text (w ∷ ws) [] h k = absurd (blank_none text w h.0 k h.1)
words_same text (w ∷ ws) (v ∷ vs) h k =
    let one = first_same text w h.0 v k.0 h.1 k.1 in
    let others = words_same k.0 ws vs (subst (λ t. Words t ws) one.1 h.2) k.2 in
    (λ i. one.0 i ∷ others i)

pub numbered_same : (number : ℕ) (ls : List (List ℕ)) (ws vs : List Worded) → Numbered number ls ws → Numbered number ls vs → ws ≡ vs
numbered_same number [] ws vs h k = h ∙ sym k
numbered_same number (l ∷ ls) ws vs h k =
    let one = words_same (before_hash l) h.0 k.0 h.2 k.2 in
    let others = numbered_same (number + 1) ls h.1 k.1 h.3 k.3 in
    h.4 ∙ (λ i. kept number (one i) ++ others i) ∙ sym k.4

-- A word more.
use Rattle.std.proofs.Common.{◌≡◌, ℕ, List, [], ◌∷◌, ◌++◌, map, sym, ap, ◌∙◌, subst, append_assoc, append-nil}
use Rattle.std.proofs.lemmas.List.{map_push}
use Rattle.lines.specs.Words.{First, Blank, Words}

-- the words of the text are those seen, and then the words of the rest
abbrev pub Seen : List ℕ → List (List ℕ) → List ℕ → Type 0
Seen text seen rest = (words : List (List ℕ)) → Words rest words → Words text (seen ++ words)

pub seen_more : {X : Type 0} (f : X → List ℕ) (text rest next word : List ℕ) (xs ys : List X) (x : X) → Seen text (map f xs) rest → First rest word next → ys ≡ xs ++ (x ∷ []) → f x ≡ word → Seen text (map f ys) next
seen_more f text rest next word xs ys x seen first more is words h =
    subst (λ ws. Words text (ws ++ words)) (sym (ap (map f) more ∙ map_push f xs x ∙ ap (λ w. map f xs ++ (w ∷ [])) is))
    (subst (Words text) (sym (append_assoc (map f xs) (word ∷ []) words)) (seen (word ∷ words) (next, first, h)))

pub seen_all : (text rest : List ℕ) (seen : List (List ℕ)) → Seen text seen rest → Blank rest → Words text seen
seen_all text rest seen h blank = subst (Words text) (append-nil seen) (h [] blank)

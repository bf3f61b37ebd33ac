-- Where a text is cut at its first character of a kind, there is one such cut.
use Rattle.std.proofs.Common.{◌≡◌, ℕ, ◌<◌, Bool, true, false, not, List, [], ◌∷◌, ◌++◌, length, sym, refl, ap, ◌∙◌, subst, append_assoc, arith, length-append}
use lib.Utf8.{encode, encodes}
use Rattle.std.specs.Char.{is_whitespace, is_not_whitespace}
use Rattle.std.specs.Str.{NoCharPasses, EmptyOrStartsWithPassing, NonePass}
use Rattle.std.proofs.lemmas.Str.{encode_same, length-encode, len_utf8_bounds}

-- the text is empty or begins with a character that passes p
abbrev pub Stops : (ℕ → Bool) → List ℕ → Type 0
Stops p bs = 0 < length bs → (c : ℕ) × (rest : List ℕ) × (p c ≡ true) × (bs ≡ encode c ++ rest)

pub opens_stops : (p : ℕ → Bool) (bs rest : List ℕ) → EmptyOrStartsWithPassing p bs rest → Stops p bs
opens_stops p bs rest o h = let s = o h in (s.0, rest, s.1, s.2)

some : (d : ℕ) (ds : List ℕ) → 0 < length (encode d ++ ds)
some d ds = omega (arith, length-append (encode d) ds, length-encode d, (len_utf8_bounds d).0)

never : (p : ℕ → Bool) (d : ℕ) (ds rest : List ℕ) → Stops p rest → p d ≡ false → rest ≡ encode d ++ ds → ⊥
never p d ds rest o fail e =
    let h = o (subst (λ l. 0 < length l) (sym e) (some d ds)) in
    let same = encode_same h.0 d h.1 ds (sym h.3 ∙ e) in
    cc

chars_same : (p : ℕ → Bool) (cs ds rest more : List ℕ) → NonePass p cs → NonePass p ds → Stops p rest → Stops p more → encodes cs ++ rest ≡ encodes ds ++ more → (encodes cs ≡ encodes ds) × (rest ≡ more)
chars_same p [] [] rest more f g s t e = (refl, e)
chars_same p [] (d ∷ ds) rest more f g s t e = absurd (never p d (encodes ds ++ more) rest s g.0 (e ∙ append_assoc (encode d) (encodes ds) more))
chars_same p (c ∷ cs) [] rest more f g s t e = absurd (never p c (encodes cs ++ rest) more t f.0 (sym e ∙ append_assoc (encode c) (encodes cs) rest))
chars_same p (c ∷ cs) (d ∷ ds) rest more f g s t e =
    let one = encode_same c d (encodes cs ++ rest) (encodes ds ++ more) (sym (append_assoc (encode c) (encodes cs) rest) ∙ e ∙ append_assoc (encode d) (encodes ds) more) in
    let others = chars_same p cs ds rest more f.1 g.1 s t one.1 in
    ((λ i. encode (one.0 i) ++ others.0 i), others.1)

pub front_same : (p : ℕ → Bool) (xs ys rest more : List ℕ) → NoCharPasses p xs → NoCharPasses p ys → Stops p rest → Stops p more → xs ++ rest ≡ ys ++ more → (xs ≡ ys) × (rest ≡ more)
front_same p xs ys rest more h k s t e =
    let r = chars_same p h.0 k.0 rest more h.2 k.2 s t (ap (λ l. l ++ rest) h.1 ∙ e ∙ sym (ap (λ l. l ++ more) k.1)) in
    (sym h.1 ∙ r.0 ∙ k.1, r.1)

begins : (cs word rest : List ℕ) → encodes cs ≡ word → NonePass is_whitespace cs → 0 < length word → Stops is_not_whitespace (word ++ rest)
begins [] word rest e f h = absurd (omega (arith, ap length e))
begins (c ∷ cs) word rest e f h = λ _. (c, encodes cs ++ rest, ap not f.0, ap (λ l. l ++ rest) (sym e) ∙ append_assoc (encode c) (encodes cs) rest)

-- a word ends white space
pub word_stops : (word rest : List ℕ) → NoCharPasses is_whitespace word → 0 < length word → Stops is_not_whitespace (word ++ rest)
word_stops word rest h some = begins h.0 word rest h.1 h.2 some

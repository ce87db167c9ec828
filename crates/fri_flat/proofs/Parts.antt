-- Parts one after another.
use Rattle.std.proofs.Common.{◌≡◌, ℕ, List, [], ◌∷◌, ◌++◌, map, ap, ap₂, sym, ◌∙◌, append_assoc}
use Rattle.std.specs.List.{flat_map}
use Rattle.std.proofs.lemmas.List.{append-nil, flat_map_more}
use Rattle.std.proofs.lemmas.List.Folds.{flat_map-map}
use Rattle.fri_flat.specs.Flat.{word}

-- three parts that were added one by one
pub three_parts : (bytes first second third one two three : List ℕ) → one ≡ bytes ++ first
    → two ≡ one ++ second → three ≡ two ++ third
    → three ≡ bytes ++ (first ++ second ++ third)
three_parts bytes first second third one two three a b c =
    c ∙ ap (λ (x : List ℕ). x ++ third) b
    ∙ ap (λ (x : List ℕ). (x ++ second) ++ third) a
    ∙ ap (λ (x : List ℕ). x ++ third) (append_assoc bytes first second)
    ∙ append_assoc bytes (first ++ second) third

-- and four
pub four_parts : (bytes first second third fourth one two three four : List ℕ)
    → one ≡ bytes ++ first → two ≡ one ++ second → three ≡ two ++ third → four ≡ three ++ fourth
    → four ≡ bytes ++ (first ++ second ++ third ++ fourth)
four_parts bytes first second third fourth one two three four a b c d =
    d ∙ ap (λ (x : List ℕ). x ++ fourth)
    (three_parts bytes first second third one two three a b c)
    ∙ append_assoc bytes (first ++ second ++ third) fourth

-- three parts that were read one by one
pub three_read : (bytes first second third after_first after_second rest : List ℕ)
    → bytes ≡ first ++ after_first → after_first ≡ second ++ after_second
    → after_second ≡ third ++ rest → bytes ≡ first ++ second ++ third ++ rest
three_read bytes first second third after_first after_second rest a b c =
    a ∙ ap (λ (x : List ℕ). first ++ x) b
    ∙ sym (append_assoc first second after_second)
    ∙ ap (λ (x : List ℕ). (first ++ second) ++ x) c
    ∙ sym (append_assoc (first ++ second) third rest)

-- one part more
pub read_next : (bytes front part after rest : List ℕ) → bytes ≡ front ++ after
    → after ≡ part ++ rest → bytes ≡ front ++ part ++ rest
read_next bytes front part after rest a b =
    a ∙ ap (λ (x : List ℕ). front ++ x) b ∙ sym (append_assoc front part rest)

-- one entry more of a list that is read
pub entry_read : {A : Type 0} (form : A → List ℕ) (bytes front after rest : List ℕ) (xs news : List A) (x : A)
    → bytes ≡ front ++ flat_map form xs ++ after → after ≡ form x ++ rest → news ≡ xs ++ x ∷ []
    → bytes ≡ front ++ flat_map form news ++ rest
entry_read form bytes front after rest xs news x a b pushed =
    a ∙ ap (λ (t : List ℕ). front ++ flat_map form xs ++ t) b
    ∙ sym (append_assoc (front ++ flat_map form xs) (form x) rest)
    ∙ ap (λ (t : List ℕ). t ++ rest)
    (flat_map_more form front xs x ∙ ap (λ ys. front ++ flat_map form ys) (sym pushed))

-- all of it, by the images of what was read
pub list_read : {A B : Type 0} (form : B → List ℕ) (g : A → B) (bytes left : List ℕ) (count len : ℕ) (xs : List A)
    → bytes ≡ word count ++ flat_map (λ x. form (g x)) xs ++ left → left ≡ [] → count ≡ len
    → bytes ≡ word len ++ flat_map form (map g xs)
list_read form g bytes left count len xs a none same =
    a ∙ ap (λ (t : List ℕ). word count ++ flat_map (λ x. form (g x)) xs ++ t) none
    ∙ append-nil (word count ++ flat_map (λ x. form (g x)) xs)
    ∙ ap₂ (λ n (t : List ℕ). word n ++ t) same (sym (flat_map-map form g xs))

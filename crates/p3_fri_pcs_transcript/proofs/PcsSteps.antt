-- The steps and labels of a PCS transcript, pushed one after another.
use Rattle.std.proofs.Common.{◌≡◌, ℕ, ◌+◌, ◌<◌, List, [], ◌∷◌, ◌++◌, length, map, drop, get_or, codes, sym, ap, ◌∙◌, add-one, append_assoc}
use Rattle.std.proofs.Math.Seq.{drop-cons}
use Rattle.p3_challenger_fs.specs.declared.pattern.Hierarchy.TheVariants.{Begin, End}
use Rattle.p3_challenger_fs.specs.Pattern.{Step}
use Rattle.p3_challenger_fs.specs.Description.{Description}
use Rattle.p3_fri_pcs_transcript.specs.Steps.{PcsNumbers, widths, bracket_step, pcs_steps}
use Rattle.p3_fri_pow.specs.Steps.{pow_steps, challenge_step, message_step}

-- the step of one more count
pub claim_pushed : (f : ℕ → Step) (a b : List Step) (counts : List ℕ) (i : ℕ) → i < length counts → b ≡ a ++ f (get_or counts i 0) ∷ []
    → b ++ map f (drop (i + 1) counts) ≡ a ++ map f (drop i counts)
claim_pushed f a b counts i less is =
    let left = map f (drop (i + 1) counts) in
    ap (λ xs. xs ++ left) is ∙ append_assoc a (f (get_or counts i 0) ∷ []) left
    ∙ ap (λ xs. a ++ map f xs) (sym (drop-cons counts i 0 less ∙ ap (λ n. get_or counts i 0 ∷ drop n counts) (sym (add-one i))))

-- all of them: the claims, a proof of work, a challenge, and a bracket
pub pcs_pushed : (d : ℕ) (s : PcsNumbers) (none claims pow alpha begun all : List Step)
    → none ≡ [] → claims ≡ none ++ map (message_step d (codes "claimed_evaluations")) (widths s.counts)
    → pow ≡ claims ++ pow_steps (codes "batch_pow") s.batch_pow_bits
    → alpha ≡ pow ++ challenge_step d (codes "alpha") ∷ [] → begun ≡ alpha ++ bracket_step Begin ∷ [] → all ≡ begun ++ bracket_step End ∷ []
    → all ≡ pcs_steps d s
unfolding pcs_steps
pcs_pushed d s none claims pow alpha begun all at_first with_claims with_pow with_alpha with_begin with_end =
    let messages = map (message_step d (codes "claimed_evaluations")) (widths s.counts) in
    let ground = pow_steps (codes "batch_pow") s.batch_pow_bits in
    let drawn = challenge_step d (codes "alpha") in
    let till_pow : pow ≡ messages ++ ground = with_pow ∙ ap (λ xs. xs ++ ground) (with_claims ∙ ap (λ xs. xs ++ messages) at_first) in
    with_end ∙ ap (λ xs. xs ++ bracket_step End ∷ []) (with_begin ∙ ap (λ xs. xs ++ bracket_step Begin ∷ []) (with_alpha ∙ ap (λ xs. xs ++ drawn ∷ []) till_pow))
    ∙ append_assoc ((messages ++ ground) ++ drawn ∷ []) (bracket_step Begin ∷ []) (bracket_step End ∷ [])
    ∙ append_assoc (messages ++ ground) (drawn ∷ []) (bracket_step Begin ∷ bracket_step End ∷ [])
    ∙ append_assoc messages ground (drawn ∷ bracket_step Begin ∷ bracket_step End ∷ [])

-- a separator without labels, and then with these
pub grouped : (a e : Description) (version : ℕ) (name : List ℕ) (steps : List Step) (labels : List (List ℕ))
    → a ≡ record { version = version; name = name; steps = steps; labels = [] } → e ≡ record a { labels = a.labels ++ labels }
    → e ≡ record { version = version; name = name; steps = steps; labels = labels }
grouped a e version name steps labels first last = last ∙ ap (λ (t : Description). record t { labels = t.labels ++ labels }) first

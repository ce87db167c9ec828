-- Steps and labels of a low-degree test, pushed one after another.
use Rattle.std.proofs.Common.{◌≡◌, ℕ, ◌+◌, ◌-◌, ◌<◌, ◌≤◌, List, [], ◌∷◌, ◌++◌, length, map, codes}
use Rattle.std.proofs.Common.{sym, ap, ◌∙◌, arith, add-one, append_assoc, append-nil}
use Rattle.p3_challenger_fs.specs.declared.pattern.Hierarchy.TheVariants.{Atomic}
use Rattle.p3_challenger_fs.specs.declared.pattern.Kind.TheVariants.{Challenge}
use Rattle.p3_challenger_fs.specs.declared.pattern.TypeTag.TheVariants.{Bits}
use Rattle.p3_challenger_fs.specs.declared.pattern.Length.TheVariants.{Fixed}
use Rattle.p3_challenger_fs.specs.Pattern.{Step, number_bytes}
use Rattle.p3_challenger_fs.specs.Description.{Description}
use Rattle.p3_fri_transcript.specs.Steps.{FriNumbers, commitment_step, round_steps, rounds_steps}
use Rattle.p3_fri_transcript.specs.Steps.{fri_steps}
use Rattle.p3_fri_pow.specs.Steps.{challenge_step, message_step, pow_steps}

-- a round: a commitment, a proof of work, a challenge
pub round_pushed : (d bits : ℕ) (a b c e : List Step)
    → b ≡ a ++ commitment_step ∷ [] → c ≡ b ++ pow_steps (codes "commit_pow") bits → e ≡ c ++ challenge_step d (codes "fold_challenge") ∷ []
    → e ≡ a ++ round_steps d bits
round_pushed d bits a b c e first second third =
    let pow = pow_steps (codes "commit_pow") bits in
    let last = challenge_step d (codes "fold_challenge") ∷ [] in
    third ∙ ap (λ xs. xs ++ last) (second ∙ ap (λ xs. xs ++ pow) first)
    ∙ append_assoc (a ++ commitment_step ∷ []) pow last ∙ append_assoc a (commitment_step ∷ []) (pow ++ last)

-- one of the rounds that are left
pub rounds_pushed : (d bits : ℕ) (a b all : List Step) (n i : ℕ) → i < n
    → b ≡ a ++ round_steps d bits
    → a ++ rounds_steps d bits (n - i) ≡ all → b ++ rounds_steps d bits (n - (i + 1)) ≡ all
rounds_pushed d bits a b all n i less is before =
    let left = rounds_steps d bits (n - (i + 1)) in
    let one_more : n - i ≡ (n - (i + 1)) + 1 = omega arith in
    ap (λ xs. xs ++ left) is ∙ append_assoc a (round_steps d bits) left
    ∙ ap (λ k. a ++ rounds_steps d bits k) (sym (one_more ∙ add-one (n - (i + 1)))) ∙ before

-- none is left at the end
pub rounds_end : (d bits : ℕ) (a all : List Step) (n i : ℕ) → n ≤ i
    → a ++ rounds_steps d bits (n - i) ≡ all → a ≡ all
rounds_end d bits a all n i reached is =
    let none_left : n - i ≡ 0 = omega arith in
    sym (append-nil a) ∙ ap (λ k. a ++ rounds_steps d bits k) (sym none_left) ∙ is

-- a whole test: its rounds, the final polynomial, a proof of work, the queries' indices
pub fri_pushed : (d : ℕ) (s : FriNumbers) (n : ℕ) (none rounds message pow all : List Step) (poly indices : Step)
    → none ≡ [] → rounds ≡ none ++ rounds_steps d s.commit_pow_bits n → n ≡ length s.log_arities
    → message ≡ rounds ++ poly ∷ [] → pow ≡ message ++ pow_steps (codes "query_pow") s.query_pow_bits → all ≡ pow ++ indices ∷ []
    → poly ≡ message_step d (codes "final_poly") s.final_poly_len
    → indices ≡ record { hierarchy = Atomic; kind = Challenge; type_tag = Bits s.index_bits; label = codes "query_indices"; length = Fixed s.num_queries }
    → all ≡ fri_steps d s
unfolding fri_steps
fri_pushed d s n none rounds message pow all poly indices at_first played len with_poly with_pow with_indices poly_is indices_is =
    let ground = pow_steps (codes "query_pow") s.query_pow_bits in
    let first : rounds ≡ rounds_steps d s.commit_pow_bits (length s.log_arities) =
    played ∙ ap (λ xs. xs ++ rounds_steps d s.commit_pow_bits n) at_first ∙ ap (rounds_steps d s.commit_pow_bits) len in
    with_indices ∙ ap (λ xs. xs ++ indices ∷ []) (with_pow ∙ ap (λ xs. xs ++ ground) (with_poly ∙ ap (λ xs. xs ++ poly ∷ []) first))
    ∙ append_assoc (rounds_steps d s.commit_pow_bits (length s.log_arities) ++ poly ∷ []) ground (indices ∷ [])
    ∙ append_assoc (rounds_steps d s.commit_pow_bits (length s.log_arities)) (poly ∷ []) (ground ++ indices ∷ [])
    ∙ ap (λ t. rounds_steps d s.commit_pow_bits (length s.log_arities) ++ t ∷ (ground ++ indices ∷ [])) poly_is
    ∙ ap (λ t. rounds_steps d s.commit_pow_bits (length s.log_arities) ++ message_step d (codes "final_poly") s.final_poly_len ∷ (ground ++ t ∷ [])) indices_is

-- a separator with two labels and then others
pub labelled : (a b c e : Description) (version : ℕ) (name : List ℕ) (steps : List Step) (x y : ℕ) (zs : List ℕ)
    → a ≡ record { version = version; name = name; steps = steps; labels = [] }
    → b ≡ record a { labels = a.labels ++ number_bytes x ∷ [] } → c ≡ record b { labels = b.labels ++ number_bytes y ∷ [] }
    → e ≡ record c { labels = c.labels ++ map number_bytes zs }
    → e ≡ record { version = version; name = name; steps = steps; labels = map number_bytes (x ∷ y ∷ zs) }
labelled a b c e version name steps x y zs first second third last =
    let two : c ≡ record { version = version; name = name; steps = steps; labels = number_bytes x ∷ number_bytes y ∷ [] } =
    third ∙ ap (λ (t : Description). record t { labels = t.labels ++ number_bytes y ∷ [] }) (second ∙ ap (λ (t : Description). record t { labels = t.labels ++ number_bytes x ∷ [] }) first) in
    last ∙ ap (λ (t : Description). record t { labels = t.labels ++ map number_bytes zs }) two

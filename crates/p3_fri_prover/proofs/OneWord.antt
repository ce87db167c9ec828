-- One word is what a low-degree test can be made of.
use Rattle.std.proofs.Common.{◌≡◌, ℕ, ◌^◌, List, [], ◌∷◌, length, refl, sym, ap, subst, arith}
use Rattle.std.specs.declared.vec.Vec.{Vec}
use Rattle.algebra.specs.Nested.{lists}
use Rattle.p3_fri_prover.specs.Inputs.{AreInputs}

pub one_word : {E A : Type 0} (word : Vec E A) (words : List (Vec E A)) (h : ℕ)
    → words ≡ word ∷ [] → length word.items ≡ 2 ^ h → AreInputs h (lists words)
one_word word words h only size = subst (λ ws. AreInputs h ws) (sym (ap lists only)) (record {
  heights = h ∷ [];
  have = (size, tt);
  falling = λ k l. absurd (omega (arith, l));
  some = λ e. absurd cc;
  first = refl;
})

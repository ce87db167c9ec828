use Rattle.std.proofs.Common.{ℕ, List, sym, subst}
use Rattle.std.proofs.lemmas.Result.{IfOk-weaker}
use Rattle.rand_core.specs.Stream.{Stream}
use Rattle.p3_field_core.specs.declared.coset.TwoAdicMultiplicativeCoset.{TwoAdicMultiplicativeCoset}
use Rattle.p3_matrix.specs.declared.dense.RowMajorMatrix.{RowMajorMatrix}
use Rattle.p3_fri_masks.specs.QuotientLdes.{AreMaskedChunks}
use Rattle.p3_fri_hiding.proofs.univariate.HidingFriPcsUnivariateStarkPcs.get_quotient_ldes.Given.{Over}
use Rattle.p3_fri_hiding.proofs.univariate.HidingFriPcsUnivariateStarkPcs.get_quotient_ldes.Goals as goal

abbrev Domain : Over → Type 0
Domain g = TwoAdicMultiplicativeCoset g.row.F.Denot g.row.F-Prepared.Denot g.F.TwoAdicField
    g.F.Field g.F.PartialEq g.F.Add g.F.Sub g.F.Mul g.F.Neg

-- the matrices are the masked chunks, of the words of this stream
abbrev AreOf : (g : Over) → List (Domain g × RowMajorMatrix g.row.F.Denot) → (r b : ℕ) → Stream
    → List (RowMajorMatrix g.row.F.Denot) → Type 0
AreOf g chunks r b words ldes =
    AreMaskedChunks g.F.Field.ops (λ (d : Domain g). d.shift) (λ (d : Domain g). d.log_size)
    g.F.SampleField.from_word r chunks words g.F.TwoAdicField.root g.F.Field.GENERATOR b ldes

pub returns-clause-words : goal.returns-clause-words
returns-clause-words g c =
    let old = c.args.self.now in
    let new = c.get_quotient_ldes.new.self in
    let chunks = c.args.evaluations.items in
    let words = g.R.Rng.stream old.rng in
    IfOk-weaker c.get_quotient_ldes.result
    (λ ldes. AreOf g chunks old.num_random_codewords old.fri.log_blowup words ldes.items)
    (λ ldes. (w : Stream)
    × AreOf g chunks new.num_random_codewords new.fri.log_blowup w ldes.items)
    (λ ldes h. (
      words,
      subst (λ s. AreOf g chunks s.num_random_codewords s.fri.log_blowup words
          ldes.items) (sym c.get_quotient_ldes.ensures.kept) h,
    ))
    c.get_quotient_ldes.ensures.words

pub returns-clause-kept : goal.returns-clause-kept
returns-clause-kept g c = c.get_quotient_ldes.ensures.kept

use Rattle.p3_dft.proofs.ReversedColumns.{extensions_are_words}
use Rattle.p3_dft.proofs.laws.extensions_are_words_law.Goals as goal

pub returns : goal.returns
returns g c =
    let field = g.F.TwoAdicField in
    extensions_are_words g.F.Field.ops g.met.F.Field.laws field.TWO_ADICITY field.root
    g.met.F.TwoAdicField.roots_law

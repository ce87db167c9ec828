use Rattle.std.proofs.Common.{arith, ◌∙◌}
use Rattle.p3_dft.proofs.Parts.{first_of_four, second_of_four, third_of_four, fourth_of_four}
use Rattle.p3_dft.proofs.layers.two_layers.Goals as goal

pub returns-clause-first : goal.returns-clause-first
returns-clause-first g c m j d e l b =
    let new = c.two_layers_apart.new in
    first_of_four new.first new.second new.third new.fourth c.args.blocks c.args.quarter
    (omega arith) (omega arith) (omega arith) (omega arith) m j d l b
    ∙ c.two_layers_apart.ensures.first m j d e l b

pub returns-clause-second : goal.returns-clause-second
returns-clause-second g c m j d e l b =
    let new = c.two_layers_apart.new in
    second_of_four new.first new.second new.third new.fourth c.args.blocks c.args.quarter
    (omega arith) (omega arith) (omega arith) (omega arith) m j d l b
    ∙ c.two_layers_apart.ensures.second m j d e l b

pub returns-clause-third : goal.returns-clause-third
returns-clause-third g c m j d e l b =
    let new = c.two_layers_apart.new in
    third_of_four new.first new.second new.third new.fourth c.args.blocks c.args.quarter
    (omega arith) (omega arith) (omega arith) (omega arith) m j d l b
    ∙ c.two_layers_apart.ensures.third m j d e l b

pub returns-clause-fourth : goal.returns-clause-fourth
returns-clause-fourth g c m j d e l b =
    let new = c.two_layers_apart.new in
    fourth_of_four new.first new.second new.third new.fourth c.args.blocks c.args.quarter
    (omega arith) (omega arith) (omega arith) (omega arith) m j d l b
    ∙ c.two_layers_apart.ensures.fourth m j d e l b

-- The challenge that is drawn after a context.
use Rattle.std.specs.Prelude.{ℕ, List, [], ◌∷◌, codes}
use Rattle.p3_challenger_core.specs.Run.{drawn_element}
use Rattle.p3_challenger_fs.specs.declared.pattern.Hierarchy.TheVariants.{Atomic}
use Rattle.p3_challenger_fs.specs.declared.pattern.Kind.TheVariants.{Challenge}
use Rattle.p3_challenger_fs.specs.declared.pattern.TypeTag.TheVariants.{Algebra}
use Rattle.p3_challenger_fs.specs.declared.pattern.Length.TheVariants.{Scalar}
use Rattle.p3_challenger_fs.specs.Description.{Description, stream_of}
use Rattle.p3_challenger_fs.specs.Pattern.{Step, step}
use Rattle.p3_challenger_fs.specs.Turns.{bytes_observed}
use Rattle.p3_challenger_sha256.specs.Sha256.{start, element_observed, element_sampled}
use Rattle.fri_statement.specs.Numbers.{PrimeFields}

-- of an element of an extension of this degree
module _ (degree : ℕ) where
  abbrev pub context_steps : List Step
  context_steps = step Atomic Challenge (Algebra degree) (codes "challenge") Scalar ∷ []

  abbrev pub context_description : List ℕ → Description
  context_description context = record {
    version = 1;
    name = codes "p3-fri-context";
    steps = context_steps;
    labels = context ∷ [];
  }

  -- the stream that binds the context
  unfoldable pub context_stream : List ℕ → List ℕ
  context_stream context = stream_of (context_description context)

-- the element of the extension that is drawn once the fresh challenger has absorbed it
unfoldable pub challenge_of : {F E : Type 0} → PrimeFields F E → List ℕ → E
challenge_of f context =
    (drawn_element (element_sampled f.order f.base) f.of_coefficients f.degree (bytes_observed
    f.base (element_observed f.order f.canonical) start (context_stream f.degree context))).value

use Rattle.std.proofs.Common.{◌≡◌, ◌≤◌, ◌+◌, ◌<◌, subst, sym, refl, arith}
use Rattle.p3_uni_stark_verifier.specs.Chunks.{hiding_bits}
use Rattle.p3_uni_stark_system.proofs.Keys.{subgroup_size}
use Rattle.p3_uni_stark_system.proofs.preprocessing.commit_matrix.Goals as goal

pub with_hiding-requires : goal.with_hiding-requires
with_hiding-requires g c =
    let few = g.met.F.TwoAdicField.two_adicity_law in
    let room = c.requires.room in
    let small : c.args.log_height < 64 = omega (arith, room, few) in
    omega (arith, small)

pub subgroup-domain-requires : goal.subgroup-domain-requires
subgroup-domain-requires g c =
    let room = c.requires.room in
    let is : c.with_hiding.result ≡ c.args.log_height + hiding_bits g.P.UnivariateStarkPcs.ZK
    = subgroup_size g.P.UnivariateStarkPcs.ZK c.ZK-hides.result c.args.log_height
    c.with_hiding.result c.with_hiding.result refl c.with_hiding.ensures c.ZK-hides.ensures in
    record { within_two_adicity = omega (arith, room, is) }

pub commit_preprocessing-requires : goal.commit_preprocessing-requires
commit_preprocessing-requires g c =
    let room = c.requires.room in
    let within : c.args.log_height + (0 + hiding_bits g.P.UnivariateStarkPcs.ZK)
    ≤ g.F.TwoAdicField.TWO_ADICITY = omega (arith, room) in
    let fits = g.met.P.TwoAdicStarkPcs.room_law c.args.scheme.now c.args.log_height 0 within room in
    record {
      room = subst (λ es. (g.P.Pcs.rules c.args.scheme.now).CanCommit es)
          (sym c.in_ok-evaluations.ensures)
          (fits.trace c.subgroup-domain.result c.args.matrix
          (subgroup_size g.P.UnivariateStarkPcs.ZK c.ZK-hides.result c.args.log_height
          c.with_hiding.result c.subgroup-domain.result.log_size c.subgroup-domain.ensures.size
          c.with_hiding.ensures c.ZK-hides.ensures) c.requires.height);
    }

pub returns-in-Ok-clause-held : goal.returns-in-Ok-clause-held
returns-in-Ok-clause-held g c = (
  c.requires.width,
  refl,
  c.in-Ok.ensures.openable,
  record {
    columns = c.args.matrix;
    are_rows = refl;
    widths = refl;
    height = c.requires.height;
    committed = record {
      honest = c.in-Ok.ensures.honest;
      commitment = c.in-Ok.ensures.commitment;
    };
    domain = c.subgroup-domain.result;
    is_domain = (
      c.subgroup-domain.ensures.shift,
      subgroup_size g.P.UnivariateStarkPcs.ZK c.ZK-hides.result c.args.log_height
          c.with_hiding.result c.subgroup-domain.result.log_size c.subgroup-domain.ensures.size
          c.with_hiding.ensures c.ZK-hides.ensures,
    );
    extends = rw c.in_ok-evaluations.ensures at c.in-Ok.ensures.extends;
  },
)

pub returns-in-Err-clause-refused : goal.returns-in-Err-clause-refused
returns-in-Err-clause-refused g c = (
  c.subgroup-domain.result,
  (
    c.subgroup-domain.ensures.shift,
    subgroup_size g.P.UnivariateStarkPcs.ZK c.ZK-hides.result c.args.log_height
        c.with_hiding.result c.subgroup-domain.result.log_size c.subgroup-domain.ensures.size
        c.with_hiding.ensures c.ZK-hides.ensures,
  ),
  subst (λ es. (g.P.UnivariateStarkPcs.stark_rules c.args.scheme.now).PreprocessingRefuses es
      c.in-Err.error) c.in_ok-evaluations.ensures c.in-Err.ensures.refused,
)

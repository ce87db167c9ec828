use Rattle.std.proofs.Common.{◌+◌, ◌^◌, ap, sym, subst, rules, ◌∙◌, arith}
use Rattle.p3_uni_stark_verifier.specs.Chunks.{hiding_bits}
use Rattle.p3_uni_stark_prover_tests.proofs.proving.commit_columns.Goals as goal

pub commit_preprocessing-requires : goal.commit_preprocessing-requires
commit_preprocessing-requires g c =
    let room = g.met.P.TwoAdicStarkPcs.room_law c.args.scheme.now c.args.log_height 0
    (let r = c.requires.room in omega (arith, r)) c.requires.room in
    let size = c.subgroup-domain.ensures.size ∙ c.with_hiding.ensures
    ∙ ap (λ z. c.args.log_height + hiding_bits z) c.ZK.ensures in record {
      room = subst (g.P.Pcs.rules c.args.scheme.now).CanCommit (sym c.one-evaluations.ensures)
          (room.trace c.subgroup-domain.result c.args.columns size c.requires.height);
    }

pub returns-clause-held : goal.returns-clause-held
returns-clause-held g c = λ k width heights widths. record {
  committed = record { honest = search rules; commitment = search rules };
  openable = search rules;
  log_height = heights;
  columns = c.args.columns;
  width = widths;
  height = c.requires.height ∙ ap (λ z. 2 ^ z) heights;
  domain = c.subgroup-domain.result;
  is_domain = (
    c.subgroup-domain.ensures.shift,
    c.subgroup-domain.ensures.size
        ∙ c.with_hiding.ensures ∙ ap (λ z. c.args.log_height + hiding_bits z) c.ZK.ensures
        ∙ ap (λ z. z + hiding_bits g.P.UnivariateStarkPcs.ZK) heights,
  );
  extends = search rules;
}

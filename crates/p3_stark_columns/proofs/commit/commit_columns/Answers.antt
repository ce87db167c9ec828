use Rattle.std.proofs.Common.{List, map, sym, ap, subst, ◌∙◌, inl, inr}
use Rattle.std.proofs.lemmas.Result.{IfOk-from_err, err_from_is_err_and}
use Rattle.p3_pcs.specs.Requests.{Held}
use Rattle.p3_pcs.specs.Scheme.{kept_since}
use Rattle.p3_stark_columns.proofs.Batches.{batch_made, batch_kept, extends_kept}
use Rattle.p3_stark_columns.proofs.Batches.{quotient_fits, random_on, still_random, ok_of}
use Rattle.p3_stark_columns.proofs.Batches.{refused_for, refusal_of, random_refused}
use Rattle.p3_stark_columns.proofs.Zips.{zip_mapped, mapped_twice}
use Rattle.p3_stark_columns.proofs.commit.commit_columns.Goals as goal

pub get_quotient_ldes-requires : goal.get_quotient_ldes-requires
get_quotient_ldes-requires g c =
    let stark = g.met.P.UnivariateStarkPcs.keeps_stark_law in
    let rules = g.P.UnivariateStarkPcs.stark_rules c.commit.new.self in
    let chunks = c.args.columns.quotient.items in
    record {
      room = subst (λ n. rules.CanExtend chunks n) (sym (c.len-count.ensures ∙ c.args.columns.quotient.ok.0))
          ((stark _ _ c.commit.ensures.kept).extendable _ _
          ((stark _ _ c.commit_preprocessing.ensures.kept).extendable _ _ c.requires.quotient));
    }

pub commit_random-requires : goal.commit_random-requires
commit_random-requires g c =
    let stark = g.met.P.UnivariateStarkPcs.keeps_stark_law in
    let domains = c.in_ok-second.ensures.domains ∙ c.in_ok-trace_domains.ensures
    ∙ ap (λ es. map (λ e. e.0) es) c.deref-2.ensures.value in
    still_random _ _ _ _ (stark _ _ c.commit_preprocessing.ensures.kept)
    (stark _ _ c.commit.ensures.kept) (stark _ _ c.in-Ok.ensures.kept) _ _ _
    (c.as_slice.ensures.value ∙ domains) c.requires.random

pub returns-clause-kept : goal.returns-clause-kept
returns-clause-kept g c =
    let kept = g.met.P.Pcs.keeps_law in
    let last = kept_since _ _ _ (kept _ _ c.in-Ok.ensures.kept) c.in_ok-random.ensures.kept in
    let since = kept_since _ _ _ (kept _ _ c.commit.ensures.kept) last in
    kept_since _ _ _ (kept _ _ c.commit_preprocessing.ensures.kept) since

pub returns-in_err-random-clause-kept : goal.returns-in_err-random-clause-kept
returns-in_err-random-clause-kept g c =
    let kept = g.met.P.Pcs.keeps_law in
    let last = kept_since _ _ _ (kept _ _ c.in-Ok.ensures.kept) c.in_err-random.ensures.kept in
    let since = kept_since _ _ _ (kept _ _ c.commit.ensures.kept) last in
    kept_since _ _ _ (kept _ _ c.commit_preprocessing.ensures.kept) since

pub returns-in_err-second-clause-kept : goal.returns-in_err-second-clause-kept
returns-in_err-second-clause-kept g c =
    let kept = g.met.P.Pcs.keeps_law in
    kept_since _ _ _ (kept _ _ c.commit_preprocessing.ensures.kept)
    (kept _ _ c.commit.ensures.kept)

pub returns-in-Err-clause-kept : goal.returns-in-Err-clause-kept
returns-in-Err-clause-kept g c =
    let kept = g.met.P.Pcs.keeps_law in
    kept_since _ _ _ (kept _ _ c.commit_preprocessing.ensures.kept)
    (kept_since _ _ _ (kept _ _ c.commit.ensures.kept) (kept _ _ c.in-Err.ensures.kept))

pub returns-in_err-third-clause-kept : goal.returns-in_err-third-clause-kept
returns-in_err-third-clause-kept g c =
    let kept = g.met.P.Pcs.keeps_law in
    kept_since _ _ _ (kept _ _ c.commit_preprocessing.ensures.kept)
    (kept_since _ _ _ (kept _ _ c.commit.ensures.kept) (kept _ _ c.in-Ok.ensures.kept))

pub returns-clause-committed : goal.returns-clause-committed
returns-clause-committed g c =
    let lawful = g.met.P.Pcs.rules_law in
    let kept = g.met.P.Pcs.keeps_law in
    let stark = g.met.P.UnivariateStarkPcs.keeps_stark_law in
    let made_first = c.commit_preprocessing.ensures in
    let made_second = c.commit.ensures in
    let made_third = c.commit_ldes.ensures in
    let is_first = c.in_ok-first.ensures.committed in
    let is_second = c.in_ok-second.ensures.committed in
    let is_third = c.in_ok-third.ensures.committed in
    let first_domains = c.in_ok-first.ensures.domains ∙ c.in_ok-preprocessed_domains.ensures
    ∙ ap (λ es. map (λ e. e.0) es) c.deref.ensures.value in
    let second_domains = c.in_ok-second.ensures.domains ∙ c.in_ok-trace_domains.ensures
    ∙ ap (λ es. map (λ e. e.0) es) c.deref-2.ensures.value in
    let third = kept _ _ c.in-Ok.ensures.kept in
    let fourth = c.in_ok-random.ensures.kept in
    let last = kept_since _ _ _ third fourth in
    let since = kept_since _ _ _ (kept _ _ made_second.kept) last in
    let polynomials = ok_of _ _ _ is_third made_third.polynomials in
    record {
      ready = record {
        preprocessed_openable = c.in_ok-random.ensures.kept_stark.preprocessed _
            ((stark _ _ c.in-Ok.ensures.kept).preprocessed _
            ((stark _ _ made_second.kept).preprocessed _
            (ok_of _ _ _ is_first made_first.openable)));
        trace_openable = last.openable _ (ok_of _ _ _ is_second made_second.openable);
        quotient_openable = fourth.openable _
            (ok_of _ _ _ is_third (made_third.openable c.in-Ok.ensures.openable));
        random_openable = c.in_ok-random.ensures.openable;
        preprocessed_batch = batch_kept _ _ since _ _ (batch_made _ (lawful _) _ _ _
            (ok_of _ _ _ is_first made_first.honest) (ok_of _ _ _ is_first made_first.commitment)
            first_domains (ok_of _ _ _ is_first made_first.extends));
        trace_batch = batch_kept _ _ last _ _ (batch_made _ (lawful _) _ _ _
            (ok_of _ _ _ is_second made_second.honest)
            (ok_of _ _ _ is_second made_second.commitment)
            second_domains (ok_of _ _ _ is_second made_second.extends));
        quotient_batch = batch_kept _ _ fourth _ _ (record {
          honest = ok_of _ _ _ is_third (made_third.honest c.in-Ok.ensures.low_degree);
          commitment = sym (ok_of _ _ _ is_third made_third.commitment);
          domains = quotient_fits _ _ _ (kept_since _ _ _ (kept _ _ made_first.kept)
              (kept_since _ _ _ (kept _ _ made_second.kept) third)).sizes _ _ _ _
              c.in_ok-third.ensures.domains c.requires.quotient_domains
              (rw polynomials (zip_mapped _ _ _ _ c.in-Ok.ensures.sizes));
        });
        random_batch = c.in_ok-random.ensures.batch;
      };
      preprocessed_extends = extends_kept _ _ since _ _ (ok_of _ _ _ is_first made_first.extends);
      trace_extends = extends_kept _ _ last _ _ (ok_of _ _ _ is_second made_second.extends);
      random_polynomials = random_on _ _ _ _ _ _ (c.as_slice.ensures.value ∙ second_domains)
          c.in_ok-random.ensures.polynomials;
    }

pub returns-clause-recombined : goal.returns-clause-recombined
returns-clause-recombined g c z =
    let domains = map (λ e. e.0) c.args.columns.quotient.items in
    let polynomials = ok_of _ _ _ c.in_ok-third.ensures.committed c.commit_ldes.ensures.polynomials in
    ap (λ (held : List (Held _)). g.P.UnivariateStarkPcs.recombined domains
    (map (λ m. m.values_at z) held) z) (c.in_ok-random.ensures.kept.polynomials _)
    ∙ rw (polynomials, mapped_twice) (c.in-Ok.ensures.recombined z)

-- where nothing is answered nothing is said of the answer
pub returns-in_err-preprocessed_domains-clause-committed : goal.returns-in_err-preprocessed_domains-clause-committed
returns-in_err-preprocessed_domains-clause-committed g c =
    IfOk-from_err c.from_residual.result _ c.from_residual.ensures.0

pub returns-in_err-preprocessed_domains-clause-recombined : goal.returns-in_err-preprocessed_domains-clause-recombined
returns-in_err-preprocessed_domains-clause-recombined g c =
    IfOk-from_err c.from_residual.result _ c.from_residual.ensures.0

pub returns-in_err-trace_domains-clause-committed : goal.returns-in_err-trace_domains-clause-committed
returns-in_err-trace_domains-clause-committed g c =
    IfOk-from_err c.from_residual-in_err-trace_domains.result _ c.from_residual-in_err-trace_domains.ensures.0

pub returns-in_err-trace_domains-clause-recombined : goal.returns-in_err-trace_domains-clause-recombined
returns-in_err-trace_domains-clause-recombined g c =
    IfOk-from_err c.from_residual-in_err-trace_domains.result _ c.from_residual-in_err-trace_domains.ensures.0

pub returns-in_err-first-clause-committed : goal.returns-in_err-first-clause-committed
returns-in_err-first-clause-committed g c =
    IfOk-from_err c.from_residual-in_err-first.result _ c.from_residual-in_err-first.ensures.0

pub returns-in_err-first-clause-recombined : goal.returns-in_err-first-clause-recombined
returns-in_err-first-clause-recombined g c =
    IfOk-from_err c.from_residual-in_err-first.result _ c.from_residual-in_err-first.ensures.0

pub returns-in_err-second-clause-committed : goal.returns-in_err-second-clause-committed
returns-in_err-second-clause-committed g c =
    IfOk-from_err c.from_residual-in_err-second.result _ c.from_residual-in_err-second.ensures.0

pub returns-in_err-second-clause-recombined : goal.returns-in_err-second-clause-recombined
returns-in_err-second-clause-recombined g c =
    IfOk-from_err c.from_residual-in_err-second.result _ c.from_residual-in_err-second.ensures.0

pub returns-in_err-third-clause-committed : goal.returns-in_err-third-clause-committed
returns-in_err-third-clause-committed g c =
    IfOk-from_err c.from_residual-in_err-third.result _ c.from_residual-in_err-third.ensures.0

pub returns-in_err-third-clause-recombined : goal.returns-in_err-third-clause-recombined
returns-in_err-third-clause-recombined g c =
    IfOk-from_err c.from_residual-in_err-third.result _ c.from_residual-in_err-third.ensures.0

pub returns-in_err-random-clause-committed : goal.returns-in_err-random-clause-committed
returns-in_err-random-clause-committed g c =
    IfOk-from_err c.from_residual-in_err-random.result _ c.from_residual-in_err-random.ensures.0

pub returns-in_err-random-clause-recombined : goal.returns-in_err-random-clause-recombined
returns-in_err-random-clause-recombined g c =
    IfOk-from_err c.from_residual-in_err-random.result _ c.from_residual-in_err-random.ensures.0

-- each refusal is one of what was known at first
pub returns-in_err-first-clause-refused : goal.returns-in_err-first-clause-refused
returns-in_err-first-clause-refused g c =
    let p = err_from_is_err_and c.from_residual-in_err-first.result
    c.from_residual-in_err-first.ensures.1 in
    rw (p.1, p.2) (refusal_of _ _ _ c.commit_preprocessing.ensures.refused (λ e h. inl h) _
    c.in_err-first.ensures.refused)

pub returns-in_err-second-clause-refused : goal.returns-in_err-second-clause-refused
returns-in_err-second-clause-refused g c =
    let kept = g.met.P.Pcs.keeps_law _ _ c.commit_preprocessing.ensures.kept in
    let p = err_from_is_err_and c.from_residual-in_err-second.result
    c.from_residual-in_err-second.ensures.1 in
    rw (p.1, p.2) (refusal_of _ _ _ c.commit.ensures.refused
    (λ e h. inr (inl (kept.refusals _ e h))) _ c.in_err-second.ensures.refused)

pub returns-in-Err-clause-refused : goal.returns-in-Err-clause-refused
returns-in-Err-clause-refused g c =
    let stark = g.met.P.UnivariateStarkPcs.keeps_stark_law in
    let first = stark _ _ c.commit_preprocessing.ensures.kept in
    let second = stark _ _ c.commit.ensures.kept in
    inr (inr (inl (first.quotient_refusals _ _ (second.quotient_refusals _ _
    c.in-Err.ensures.refused))))

pub returns-in_err-third-clause-refused : goal.returns-in_err-third-clause-refused
returns-in_err-third-clause-refused g c =
    let stark = g.met.P.UnivariateStarkPcs.keeps_stark_law in
    let first = stark _ _ c.commit_preprocessing.ensures.kept in
    let second = stark _ _ c.commit.ensures.kept in
    let third = stark _ _ c.in-Ok.ensures.kept in
    let p = err_from_is_err_and c.from_residual-in_err-third.result
    c.from_residual-in_err-third.ensures.1 in
    rw (p.1, p.2) (refusal_of _ _ _ c.commit_ldes.ensures.refused
    (λ e h. inr (inr (inr (inl (
      _,
      first.lde_refusals _ e (second.lde_refusals _ e
          (third.lde_refusals _ e h)),
    ))))) _ c.in_err-third.ensures.refused)

pub returns-in_err-random-clause-refused : goal.returns-in_err-random-clause-refused
returns-in_err-random-clause-refused g c =
    let stark = g.met.P.UnivariateStarkPcs.keeps_stark_law in
    let domains = c.in_ok-second.ensures.domains ∙ c.in_ok-trace_domains.ensures
    ∙ ap (λ es. map (λ e. e.0) es) c.deref-2.ensures.value in
    let p = err_from_is_err_and c.from_residual-in_err-random.result
    c.from_residual-in_err-random.ensures.1 in
    rw (p.1, p.2) (refused_for _ _
    (random_refused (g.P.Pcs.rules c.args.scheme.now) _ _ _ _
    (stark _ _ c.commit_preprocessing.ensures.kept) (stark _ _ c.commit.ensures.kept)
    (stark _ _ c.in-Ok.ensures.kept) g.P.UnivariateStarkPcs.ZK
    c.args.columns.preprocessed.items c.args.columns.trace.items c.args.columns.quotient.items _
    (c.as_slice.ensures.value ∙ domains))
    _ c.in_err-random.ensures.refused)

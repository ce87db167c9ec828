use Rattle.std.proofs.Common.{◌≡◌, ◌<◌, ◌≤◌, ◌+◌, ℕ, [], ◌∷◌, ◌++◌, length, arith, sym, ap, subst, ◌∙◌, ◌^◌}
use Rattle.std.proofs.lemmas.List.{length_push}
use Rattle.p3_air.specs.Nodes.{node_meaning, degrees_in}
use Rattle.p3_air.proofs.Gains.{kept_when_ok}
use Rattle.p3_air.proofs.Meanings.{length_meanings, meaning_at, meanings_next, meanings_end}
use Rattle.p3_air.proofs.air.Air.degrees.Goals as goal

pub returns-in_default : goal.returns-in_default
returns-in_default g c =
    let nodes = c.args.self.now.nodes.items in
    let degree : ℕ = node_meaning degrees_in c.loop-i.degrees.items c.index.result.now in
    let there : c.loop-i.i < length nodes = omega arith in (
      c.loop-i.i,
      degree,
      omega (arith, there, length_meanings degrees_in nodes),
      meaning_at degrees_in nodes c.loop-i.i c.loop-i.degrees.items c.index.result.now degree there
          c.index.ensures c.loop-i.invariant.len c.loop-i.invariant.run,
      subst (λ ds. 2 ^ 64 ≤ node_meaning degrees_in ds c.index.result.now) c.as_slice.ensures.value
          c.in_default.ensures.large,
    )

pub loop-i-preserved : goal.loop-i-preserved
loop-i-preserved g c =
    let there : c.loop-i.i < length c.args.self.now.nodes.items = omega arith in
    let node = c.index.result.now in
    let degrees = c.loop-i.degrees.items in
    let grown : c.push.new.self.items ≡ degrees ++ c.in-Some.degree ∷ [] =
    kept_when_ok c.push.result c.push.new.self.items (degrees ++ c.in-Some.degree ∷ []) degrees
    c.if-is_err.ensures.value c.push.ensures.items in
    record {
      len = ap length grown ∙ length_push degrees c.in-Some.degree
          ∙ ap (λ n. n + 1) c.loop-i.invariant.len;
      run = meanings_next degrees_in c.args.self.now.nodes.items c.loop-i.i degrees
          c.push.new.self.items node c.in-Some.degree there c.index.ensures
          (c.in-Some.ensures.value ∙ ap (λ xs. node_meaning degrees_in xs node) c.as_slice.ensures.value)
          grown c.loop-i.invariant.run;
    }

pub returns : goal.returns
returns g c =
    let end : length c.args.self.now.nodes.items ≤ c.loop-i.i = omega arith in
    meanings_end degrees_in c.args.self.now.nodes.items c.loop-i.i c.loop-i.degrees.items end
    c.loop-i.invariant.run

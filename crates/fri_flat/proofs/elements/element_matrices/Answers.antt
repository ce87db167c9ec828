use Rattle.std.proofs.Common.{◌≡◌, [], All, length, arith, refl, sym, subst}
use Rattle.std.proofs.lemmas.Grind.{common_steps}
use Rattle.std.proofs.lemmas.List.{nil_from_length}
use Rattle.std.proofs.lemmas.List.Elements.{All-map, All-push}
use Rattle.fri_numbers.specs.Elements.{record_of}
use Rattle.fri_flat.specs.Flat.{word, matrix, IsMatrix}
use Rattle.fri_flat.proofs.Parts.{entry_read, list_read}
use Rattle.fri_flat.proofs.elements.element_matrices.Goals as goal

pub loop-preserved : goal.loop-preserved
loop-preserved g c =
    let listed = record_of g.F.PrimeField64.canonical in
    record {
      form = entry_read (λ m. matrix c.args.layout (listed m)) c.args.bytes.now (word c.in_ok-count.count)
          c.loop.reader.left.now c.read_matrix.new.reader.left.now c.loop.matrices.items c.push.new.self.items
          c.in_ok-read_matrix.field-0 c.loop.invariant.form c.in_ok-read_matrix.ensures.form
          c.in_ok-push.ensures.items;
      count = omega (arith, c.in_ok-push.ensures.len, c.loop.invariant.count);
      whole = subst (λ ms. All (λ m. IsMatrix c.args.layout (listed m)) ms) (sym c.in_ok-push.ensures.items)
          (All-push (λ m. IsMatrix c.args.layout (listed m)) c.loop.matrices.items c.in_ok-read_matrix.field-0
          c.loop.invariant.whole c.in_ok-read_matrix.ensures.whole);
    }

pub returns-clause-form : goal.returns-clause-form
returns-clause-form g c =
    let empty : length c.loop.reader.left.now ≡ 0 = grind (arith, common_steps) in
    let none : c.loop.reader.left.now ≡ [] = nil_from_length c.loop.reader.left.now empty in
    let same : c.in_ok-count.count ≡ c.loop.matrices.len =
    omega (arith, c.loop-test.false, c.loop.auto.counter-end, c.loop.invariant.count) in
    list_read (matrix c.args.layout) (record_of g.F.PrimeField64.canonical) c.args.bytes.now c.loop.reader.left.now
    c.in_ok-count.count c.loop.matrices.len c.loop.matrices.items c.loop.invariant.form none same

pub returns-clause-whole : goal.returns-clause-whole
returns-clause-whole g c = record {
  matrices = All-map (IsMatrix c.args.layout) (record_of g.F.PrimeField64.canonical) c.loop.matrices.items
      c.loop.invariant.whole;
  plain = refl;
}

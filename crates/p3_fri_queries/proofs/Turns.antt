-- A loop over a vector's elements, each with its number.
use Rattle.std.proofs.Common.{◌≡◌, ℕ, ◌<◌, List, length, get_or, Option, Some, None}
use Rattle.std.specs.declared.vec.IntoIter.{IntoIter}
use Rattle.std.specs.declared.iter.Enumerate.{Enumerate}
use Rattle.std.specs.Iterator.{Yields}
use Rattle.std.specs.Iterator.Adapters.{enumerate_source, enumerate_count, enumerate_steps}
use Rattle.std.specs.Vec.Iter.{into_iter_items, into_iter_len, into_iter_steps}
use Rattle.std.specs.List.{enumerate_from}
use Rattle.std.proofs.lemmas.List.FromFn.{length-enumerate_from}
use Rattle.std.proofs.lemmas.Iterator.{YieldsList}
use Rattle.std.proofs.lemmas.Iterator.Adapters.{YieldsList-from_vec}
use Rattle.std.proofs.lemmas.Iterator.Consumers.{YieldsList-from_enumerate, YieldsList-turn}
use Rattle.std.proofs.lemmas.Iterator.Consumers.{YieldsList-end}
use Rattle.std.proofs.Common.{ap, ◌∙◌}
use Rattle.p3_fri_queries.proofs.Queries.{counted}

pub record IsTurn {X Z : Type 0} (xs : List X) (s t u : Enumerate (IntoIter X Z))
    (yielded : List (ℕ × X)) (r : Option (ℕ × X)) : Type 0 where
  pub items : into_iter_items (enumerate_source s) ≡ xs
  pub len : into_iter_len (enumerate_source s) ≡ length xs
  pub count : enumerate_count s ≡ 0
  pub so_far : Yields (enumerate_steps (into_iter_steps {X = X} {Z = Z})) s yielded t
  pub step : enumerate_steps (into_iter_steps {X = X} {Z = Z}) t r u

module _ {X Z : Type 0} {xs : List X} {s t u : Enumerate (IntoIter X Z)} {yielded : List (ℕ × X)}
    {r : Option (ℕ × X)} where
  -- the loop is over the vector's own iterator, which counts from zero
  pub turn_from : {vector : IntoIter X Z} {numbered : Enumerate (IntoIter X Z)} {n : ℕ}
      → s ≡ numbered → enumerate_source numbered ≡ vector → enumerate_count numbered ≡ 0
      → into_iter_items vector ≡ xs → into_iter_len vector ≡ n → n ≡ length xs
      → Yields (enumerate_steps (into_iter_steps {X = X} {Z = Z})) s yielded t
      → enumerate_steps (into_iter_steps {X = X} {Z = Z}) t r u → IsTurn xs s t u yielded r
  turn_from same source count items len whole so_far step = record {
    items = ap (λ (i : Enumerate (IntoIter X Z)). into_iter_items (enumerate_source i)) same
        ∙ ap (λ (i : IntoIter X Z). into_iter_items i) source ∙ items;
    len = ap (λ (i : Enumerate (IntoIter X Z)). into_iter_len (enumerate_source i)) same
        ∙ ap (λ (i : IntoIter X Z). into_iter_len i) source ∙ len ∙ whole;
    count = ap (λ (i : Enumerate (IntoIter X Z)). enumerate_count i) same ∙ count;
    so_far = so_far;
    step = step;
  }

  road : IsTurn xs s t u yielded r → YieldsList (enumerate_steps (into_iter_steps {X = X} {Z = Z}))
      (λ p. (p.0, p.1)) s (enumerate_from 0 xs)
  road turn = YieldsList-from_enumerate (YieldsList-from_vec xs turn.items turn.len) turn.count

  -- the element of this turn
  pub read : {query : ℕ} {x : X} → IsTurn xs s t u yielded r → r ≡ Some (query, x)
      → (length yielded < length xs) × (query ≡ length yielded)
      × (x ≡ get_or xs (length yielded) x)
  read {query} {x} turn is = counted xs (length yielded) query x
      (YieldsList-turn (road turn) yielded t turn.so_far r u (query, x) is turn.step)

  -- at the end all were read
  pub read_all : IsTurn xs s t u yielded r → r ≡ None → length yielded ≡ length xs
  read_all turn is =
      (YieldsList-end (road turn) yielded t turn.so_far r u is turn.step).1
      ∙ length-enumerate_from 0 xs

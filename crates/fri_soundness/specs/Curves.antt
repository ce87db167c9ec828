-- A curve through words: at each challenge the sum of the words with the challenge's powers.
use Rattle.std.specs.Prelude.{◌≡◌, ℕ, ◌+◌, ◌*◌, ◌<◌, ◌≤◌, List, length, map, All}
use Rattle.algebra.specs.Field.{FieldOps, IsField}
use Rattle.algebra.specs.Polynomial.{val}
use Rattle.algebra.specs.Interpolation.{AreDistinct}
use Rattle.fri_soundness.specs.Counting.{AllBut, AtMost}

-- a point of the domain with the words' entries there, word by word
pub record Row (A : Type 0) : Type 0 where
  pub point : A
  pub entries : List A

-- a challenge, with a polynomial to which the curve's word at it is decoded
pub record Decoding (A : Type 0) : Type 0 where
  pub beta : A
  pub polynomial : List A

module _ {A : Type 0} (F : FieldOps A) where
  -- at this row the curve's value at `beta` is the value of the polynomial `c`
  abbrev pub Meets : (beta : A) (c : List A) → Row A → Type 0
  Meets beta c row = val F row.entries beta ≡ val F c row.point

  -- at this row the words' entries are the values of these polynomials
  abbrev pub HasValues : (ps : List (List A)) → Row A → Type 0
  HasValues ps row = row.entries ≡ map (λ p. val F p row.point) ps

  module _ (rows : List (Row A)) (k : ℕ) where
    -- within `e` rows the curve at `beta` is the polynomial `c` of `k` coefficients
    pub record IsClose (e : ℕ) (beta : A) (c : List A) : Type 0 where
      pub degree : length c ≡ k
      pub meets : AllBut (Meets beta c) e rows

    -- correlated agreement: `l + 1` polynomials of `k` coefficients are the words, one each, at
    -- every row where the curve at `beta` is `c`
    pub record IsCorrelated (l : ℕ) (beta : A) (c : List A) : Type 0 where
      pub polynomials : List (List A)
      pub count : length polynomials ≡ l + 1
      pub degrees : All (λ p. length p ≡ k) polynomials
      pub values : All (λ row. Meets beta c row → HasValues polynomials row) rows

    -- a challenge at which the curve is close to a polynomial without correlated agreement
    pub record IsBad (l e : ℕ) (beta : A) : Type 0 where
      pub polynomial : List A
      pub close : IsClose e beta polynomial
      pub uncorrelated : ¬ (IsCorrelated l beta polynomial)

  -- `l + 1` words over distinct points, which are as many as `l + 2` budgets of `e` and the degree
  -- bound `k` take
  pub record AreRows (rows : List (Row A)) (k l e : ℕ) : Type 0 where
    pub distinct : AreDistinct (map (λ row. row.point) rows)
    pub words : All (λ row. length row.entries ≡ l + 1) rows
    pub enough : (l + 2) * e + k ≤ length rows

-- Of more than `l * (e + 1)` decodings of a curve, at distinct challenges, all but `l * e` have
-- correlated agreement.
abbrev pub DecodingsAreCorrelated : Type 0 → Type 0
DecodingsAreCorrelated A = (F : FieldOps A) → IsField F → (rows : List (Row A)) (k l e : ℕ)
    → AreRows F rows k l e → (decodings : List (Decoding A))
    → AreDistinct (map (λ d. d.beta) decodings)
    → All (λ d. IsClose F rows k e d.beta d.polynomial) decodings
    → l * (e + 1) < length decodings
    → AllBut (λ d. IsCorrelated F rows k l d.beta d.polynomial) (l * e) decodings

-- So at most `l * (e + 1)` challenges are bad.
abbrev pub FewAreBad : Type 0 → Type 0
FewAreBad A = (F : FieldOps A) → IsField F → (rows : List (Row A)) (k l e : ℕ)
    → AreRows F rows k l e → AtMost (IsBad F rows k l e) (l * (e + 1))

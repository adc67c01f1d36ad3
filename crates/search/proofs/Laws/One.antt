-- One error from its first two sums: its value is the first, its place the second over the first.
-- Assumes nothing.
use mathlib.Core.Path.{◌≡◌, ap₂, ◌∙◌}
use mathlib.Core.List.{List, [], ◌∷◌}
use Prim.Native.Nat.{ℕ, ◌<◌}
use native.Mathlib.Omega.{arith}
use lib.ListN.{get_or}
use Rattle.gf256.specs.Field.{◌⊗◌, pow, over}
use Rattle.gf256.proofs.Laws.Product.{⊗-comm, pow-lt, over-unique}
use Rattle.search.specs.Search.{term, Explains}
use Rattle.search.proofs.Laws.Moment.{explained-one}

module _ (k y : ℕ) (s : List ℕ) (py : 0 < y) (hy : y < 256) (E : Explains 2 (term k y ∷ []) s) where
  pub value-one : get_or s 0 0 ≡ y
  value-one = explained-one 2 k y s hy E 0 (omega arith)

  pub place-one : over (get_or s 1 0) (get_or s 0 0) ≡ pow 2 k
  place-one =
      ap₂ over (explained-one 2 k y s hy E 1 (omega arith)) value-one
      ∙ over-unique (y ⊗ pow 2 k) y (pow 2 k) py hy (pow-lt 2 k) (⊗-comm (pow 2 k) y)

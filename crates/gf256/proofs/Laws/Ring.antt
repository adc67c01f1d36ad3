-- The laws of sum and product as one rule set: `simp ring` proves an identity of polynomials over the field.
-- Assumes nothing.
use Rattle.gf256.proofs.Laws.Sum.{⊕-assoc, ⊕-comm, ⊕-left-comm, ⊕-self, ⊕-cancel, ⊕-zero-l, ⊕-zero-r}
use Rattle.gf256.proofs.Laws.Product.{⊗-assoc, ⊗-comm, ⊗-left-comm, ⊗-⊕-l, ⊗-⊕-r, ⊗-zero-l, ⊗-zero-r}

pub ruleset ring = (⊗-⊕-l, ⊗-⊕-r, ⊗-assoc, ⊗-left-comm, ⊗-comm, ⊕-assoc, ⊕-left-comm, ⊕-comm, ⊕-self, ⊕-cancel, ⊕-zero-l, ⊕-zero-r, ⊗-zero-l, ⊗-zero-r)

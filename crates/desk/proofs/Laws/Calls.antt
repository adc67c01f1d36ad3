-- What a call that a desk makes answered.
-- Assumes nothing.
use mathlib.Core.Path.{◌≡◌, sym, ◌∙◌}
use mathlib.Core.List.{List}
use mathlib.Core.Option.{none}
use Prim.Native.Nat.{ℕ}
use lib.ListN.{length}
use Rattle.std.specs.Prelude.{Ok}
use Rattle.items.specs.Item.{item_refusal, place_refusal}
use Rattle.items.proofs.Laws.Item.{item-checks}
use Rattle.refusal.proofs.Laws.Chain.{next-passed}
use Rattle.steps.specs.Steps.{step_of, step_refusal, kept_of}

-- where bytes for an item are not refused there is such an item, so that its step is kept
pub step_kept : (item : ℕ) (bytes r : List ℕ) → item_refusal item bytes ≡ none → length r ≡ 248 → kept_of item r ≡ Ok (step_of item r)
unfolding kept_of step_refusal
step_kept item bytes r e n = rw (n, (next-passed (place_refusal item) _ (sym (item-checks item bytes) ∙ e)).0)

-- `rules::picture` meets its contract.
-- Assumes nothing.
use mathlib.Core.Path.{◌≡◌, refl, ◌∙◌}
use mathlib.Core.List.{[], ◌∷◌}
use Prim.Native.Nat.{◌%◌}
use lib.ListN.{get_or}
use native.Mathlib.Omega.{arith}
use Rattle.std.proofs.lemmas.Bool.Decides.{nat_tests}
use Rattle.rules.specs.Rules.{within, one_of, low_half, picture_rule}
use Rattle.rules.proofs.Laws.Rules.{list_any-one_of}
use Rattle.rules.proofs.picture.Goals as goal

pub returns : goal.returns
unfolding picture_rule low_half
returns c =
    let w = c.args.w in
    let rate : c.contains-rate.result ≡ one_of (0 ∷ 2 ∷ 3 ∷ 5 ∷ 6 ∷ 7 ∷ 9 ∷ 10 ∷ 11 ∷ []) (get_or w 1 0 % 16) =
    c.contains-rate.ensures.value ∙ list_any-one_of _ (get_or w 1 0 % 16) in
    let sampling : c.contains-sampling.result ≡ one_of (0 ∷ 1 ∷ 2 ∷ 3 ∷ 4 ∷ 5 ∷ 6 ∷ 8 ∷ 9 ∷ 10 ∷ []) (get_or w 2 0 % 16) =
    c.contains-sampling.ensures.value ∙ list_any-one_of _ (get_or w 2 0 % 16) in
    let used : c.contains.result ≡ within 0x81 0x85 (get_or w 0 0) = grind (arith, nat_tests) in
    rw (used, rate, sampling) refl

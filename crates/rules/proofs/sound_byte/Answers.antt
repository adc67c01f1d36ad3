-- `rules::sound_byte` meets its contract.
-- Assumes nothing.
use mathlib.Core.Path.{◌≡◌, refl, ◌∙◌}
use mathlib.Core.List.{[], ◌∷◌}
use Prim.Native.Nat.{◌/◌, ◌%◌}
use native.Mathlib.Omega.{arith}
use Rattle.std.proofs.lemmas.Bool.Decides.{nat_tests}
use Rattle.rules.specs.Rules.{within, one_of, sound_byte}
use Rattle.rules.proofs.Laws.Rules.{list_any-one_of}
use Rattle.rules.proofs.sound_byte.Goals as goal

pub returns : goal.returns
unfolding sound_byte
returns c =
    let mode = c.args.b % 32 in
    let several : c.contains-several.result ≡ one_of (0x11 ∷ 0x12 ∷ 0x15 ∷ 0x17 ∷ []) mode = c.contains-several.ensures.value ∙ list_any-one_of _ mode in
    let high : c.contains.result ≡ within 4 7 (c.args.b / 32) = grind (arith, nat_tests) in
    rw (high, several) refl

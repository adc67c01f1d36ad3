-- `search::marked::with_one` meets its contract.
-- Assumes nothing.
use borrow.Author.Rules.{rules}
use mathlib.Core.Path.{◌≡◌, ap, ◌∙◌}
use Prim.Native.Nat.{ℕ, ◌+◌}
use native.Mathlib.Numerals.{add-one}
use native.Mathlib.Omega.{arith}
use lib.ListN.{length, take, set}
use lib.Seq.{take-suc-set}
use Rattle.search.specs.Values.{exponents}
use Rattle.search.proofs.Laws.Values.{exponents-long, exponents-set}
use Rattle.search.proofs.marked.with_one.Goals as goal

pub returns : goal.returns
returns c =
    let f : ℕ = c.args.marks.count in
    let ps = c.args.marks.places in
    let k : ℕ = c.args.place.exponent in
    let n : length c.args.marks.places ≡ 6 = search rules in
    record {
      count = add-one f;
      at = ap (take (f + 1)) (exponents-set ps f c.args.place) ∙ ap (λ (m : ℕ). take m (set (exponents ps) f k)) (add-one f)
          ∙ take-suc-set (exponents ps) f k (omega (arith, exponents-long ps));
    }

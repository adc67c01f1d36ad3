-- The rule of the two tables, each by one computed test over all of its entries.
-- Assumes nothing.
use mathlib.Core.Path.{◌≡◌, sym, ◌∙◌}
use mathlib.Core.Bool.{Bool, ◌&&◌}
use mathlib.Core.List.{List}
use Prim.Native.Nat.{ℕ, zero, suc, ◌<◌}
use native.Mathlib.Omega.{arith}
use lib.Dec.{T, eqb, eqb→eq}
use lib.Seq.{ext_get_or}
use lib.ListN.{length, get_or}
use Rattle.gf256.specs.Tables.{PowerTable, LogTable}
use Rattle.basics.proofs.Laws.Test.{both_left, both_right, every}
use Rattle.gf256.proofs.Laws.Double.{doublings, doublings-at, length-doublings, log-right, log-at}
use Rattle.gf256.proofs.Laws.Product.{raise-pow, pow-inj}

-- 1 and its doubles are the powers of 2
pub powers-right : PowerTable (doublings 255 1)
powers-right = record { long = length-doublings 255 1; at = λ k h. doublings-at 255 1 k h ∙ raise-pow k }

-- the test of a table of logarithms
abbrev pub logs-test : List ℕ → Bool
logs-test t = eqb (length t) 256 && (eqb (get_or t 0 0) 0 && every log-right 0 t)

pub logs-right : (t : List ℕ) → T (logs-test t) → LogTable t
logs-right t r =
    let l : length t ≡ 256 = eqb→eq _ _ (both_left (eqb (length t) 256) _ r) in
    let s : T (eqb (get_or t 0 0) 0 && every log-right 0 t) = both_right (eqb (length t) 256) _ r in
    let e : T (every log-right 0 t) = both_right (eqb (get_or t 0 0) 0) _ s in
    record {
      long = l;
      none = eqb→eq _ _ (both_left (eqb (get_or t 0 0) 0) _ s);
      within = λ a p h. (log-at t l e a p h).0;
      at = λ a p h. sym (raise-pow (get_or t a 0)) ∙ (log-at t l e a p h).1;
    }

-- ---- each rule has one table

pub powers-unique : (t u : List ℕ) → PowerTable t → PowerTable u → t ≡ u
powers-unique t u P Q = ext_get_or 0 t u (P.long ∙ sym Q.long) (λ k h. P.at k (omega (arith, P.long)) ∙ sym (Q.at k (omega (arith, P.long))))

pub logs-unique : (t u : List ℕ) → LogTable t → LogTable u → t ≡ u
logs-unique t u L M = ext_get_or 0 t u (L.long ∙ sym M.long) same
  where
    same : (a : ℕ) → a < length t → get_or t a 0 ≡ get_or u a 0
    same zero h = L.none ∙ sym M.none
    same (suc a) h =
        let p : 0 < suc a = omega arith in
        let b : suc a < 256 = omega (arith, L.long) in
        pow-inj _ _ (L.within (suc a) p b) (M.within (suc a) p b) (L.at (suc a) p b ∙ sym (M.at (suc a) p b))

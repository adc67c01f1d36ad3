-- The check of a codeword: each of its three answers in its case and there only, also by what the division leaves; and two codewords that differ
-- in seven places, the fewest in which two can.
-- Assumes nothing.
use mathlib.Core.Path.{◌≡◌, refl, sym, ap, ◌∙◌}
use mathlib.Core.Bool.{Bool, true, false}
use mathlib.Core.List.{List, ◌++◌}
use Prim.Native.Nat.{ℕ}
use native.Mathlib.Omega.{arith}
use lib.Dec.{eqb}
use lib.ListN.{length, take, get_or}
use borrow.Author.Tests.{eq-eqb, ne_eqb}
use Rattle.std.specs.Prelude.{Ok, Err}
use Rattle.basics.specs.Below.{Bytes}
use Rattle.basics.specs.Each.{all, same}
use Rattle.basics.proofs.Laws.Test.{fails}
use Rattle.refusal.specs.Checked.{refusal_in}
use Rattle.refusal.specs.Number.{refusal_plain}
use Rattle.refusal.specs.declared.Reason.TheVariants.{Size}
use Rattle.refusal.proofs.Laws.Chain.{refusal-in-answer}
use Rattle.gf256.specs.Field.{◌⊕◌, ◌⊗◌, by_bits, double}
use Rattle.rs.specs.Polynomial.{◌⊞◌, scale, zeros}
use Rattle.rs.specs.Codeword.{divisor_bytes, G, next, remainder, parity_of, left_of, block_refusal, Codeword}
use Rattle.rs.specs.Decode.{changes, is_codeword}
use Rattle.rs.specs.Packed.{pack}
use Rattle.rs.specs.Check.{verdict_of}
use Rattle.rs.proofs.Laws.Codeword.{block-passes, passes-block, block_refused, left-six, zero-codeword, codeword-zero}
use Rattle.rs.proofs.Laws.Decode.{true-codeword, codeword-true}
use Rattle.rs.proofs.Laws.Packed.{pack-zeros, zero-packed}

-- ---- the answers

module _ (l : List ℕ) where
  pub refusal-said : refusal_in (verdict_of l) ≡ block_refusal l
  unfolding verdict_of
  refusal-said = refusal-in-answer (block_refusal l) (is_codeword l)

  -- each answer in its case

  pub answered : length l ≡ 254 → verdict_of l ≡ Ok (is_codeword l)
  unfolding verdict_of
  answered n = rw (block-passes l n) refl

  pub codeword-yes : Codeword l → verdict_of l ≡ Ok true
  codeword-yes C = answered C.long ∙ ap (λ (b : Bool). Ok b) (codeword-true l C)

  pub other-no : length l ≡ 254 → (Codeword l → ⊥) → verdict_of l ≡ Ok false
  other-no n c = answered n ∙ ap (λ (b : Bool). Ok b) ((fails (is_codeword l)).1 (λ t. c (true-codeword l t)))

  pub short-refused : (length l ≡ 254 → ⊥) → verdict_of l ≡ Err (refusal_plain Size)
  unfolding verdict_of
  short-refused n = rw (block_refused l n) refl

  -- and there only

  passed : (b : Bool) → verdict_of l ≡ Ok b → length l ≡ 254
  passed b e = passes-block l (sym refusal-said ∙ ap refusal_in e)

  pub yes-codeword : verdict_of l ≡ Ok true → Codeword l
  yes-codeword e = true-codeword l (let a = answered (passed true e) in cc)

  pub no_other : verdict_of l ≡ Ok false → (length l ≡ 254) × (Codeword l → ⊥)
  no_other e = (passed false e, λ C. let y = codeword-yes C in cc)

  pub refused-short : verdict_of l ≡ Err (refusal_plain Size) → length l ≡ 254 → ⊥
  refused-short e n = let a = answered n in cc

  -- ---- by what the division leaves, packed

  pub nothing-left : length l ≡ 254 → Bytes l → eqb (pack (left_of l)) 0 ≡ is_codeword l
  nothing-left n b = by-test (is_codeword l) refl
    where
      by-test : (t : Bool) → is_codeword l ≡ t → eqb (pack (left_of l)) 0 ≡ t
      by-test true e = eq-eqb _ _ (ap pack (codeword-zero l (true-codeword l e)) ∙ pack-zeros 6)
      by-test false e =
          ne_eqb _ _
          (λ z. let t = codeword-true l (zero-codeword l n b (zero-packed _ z ∙ ap (λ (k : ℕ). zeros k) (left-six l n))) in cc)

-- ---- two codewords that differ in seven places: 254 zeros, and the coefficients of G behind 247 zeros

-- both pass the test, as is computed
tested : (is_codeword (zeros 254) ≡ true) × (is_codeword (zeros 247 ++ G) ≡ true)
unfolding is_codeword all same parity_of remainder next divisor_bytes ◌⊞◌ scale ◌⊗◌ by_bits double ◌⊕◌
tested = (refl, refl)

pub zeros-codeword : Codeword (zeros 254)
zeros-codeword = true-codeword (zeros 254) tested.0

pub divisor-codeword : Codeword (zeros 247 ++ G)
divisor-codeword = true-codeword (zeros 247 ++ G) tested.1

pub seven-apart : changes (zeros 254) (zeros 247 ++ G) ≡ 7
unfolding changes divisor_bytes
seven-apart = refl

pub other-data : take 248 (zeros 254) ≡ take 248 (zeros 247 ++ G) → ⊥
unfolding divisor_bytes
other-data e = let z : ◌≡◌ {A = ℕ} 0 1 = ap (λ (l : List ℕ). get_or l 247 0) e in omega arith

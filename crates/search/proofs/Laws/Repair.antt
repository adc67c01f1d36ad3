-- Why repair is exact: errors that have the sums of a block lead to the codeword within three places of it, and where no three
-- errors have them there is no such codeword.
-- Assumes nothing.
use mathlib.Core.Path.{◌≡◌, refl, sym, ap, ap₂, ◌∙◌, subst}
use mathlib.Core.Bool.{Bool, true, false}
use mathlib.Core.List.{List, [], ◌∷◌}
use Prim.Native.Nat.{ℕ, zero, suc, ◌<◌, ◌≤◌}
use native.Mathlib.Nat.{zero-lt-suc}
use native.Mathlib.Omega.{arith}
use lib.ListN.{length, get_or}
use Rattle.gf256.specs.Field.{◌⊕◌, pow}
use Rattle.gf256.specs.PowerSum.{Term, power_sum}
use Rattle.gf256.proofs.Laws.Sum.{⊕-self, ⊕-zero-l}
use Rattle.rs.specs.Polynomial.{value_at, ◌⊞◌, zeros}
use Rattle.rs.specs.Codeword.{left_of, Codeword}
use Rattle.basics.specs.Below.{Bytes}
use Rattle.rs.specs.Decode.{changes}
use Rattle.rs.proofs.Laws.Polynomial.{⊞-bytes, length-⊞, value-⊞}
use Rattle.rs.proofs.Laws.Distance.{terms, length-terms, terms-sum, changes-weight, changes-zero, changes-self}
use Rattle.rs.proofs.Laws.Codeword.{codeword-vanishes, vanishing-codeword, left-value, zero-codeword, codeword-zero}
use Rattle.rs.proofs.Laws.Decode.{Answer, some-answer, none-answer, decode-complete, decode-none}
use Rattle.std.specs.Prelude.{Option, Some, None, IfSome}
use Rattle.search.specs.Search.{Explains, error_places, error_values, terms_of, FindsOne, FindsTwo, FindsThree, Falling, sums_of, patched_by, Mends, Damaged}
use Rattle.search.specs.declared.errors.Error.{Error}
use Rattle.search.proofs.Laws.Errors.{places-long, values-long, places-placed}
use Rattle.search.proofs.Laws.Held.{none-solved}
use Rattle.search.proofs.Laws.Patched.{patched-all-length, patched-all-value, all-changes}

-- ---- small parts

sums_at : (l : List ℕ) (j : ℕ) → j < 6 → get_or (sums_of l) j 0 ≡ value_at (pow 2 j) l
unfolding sums_of
sums_at l zero h = refl
sums_at l (suc zero) h = refl
sums_at l (suc (suc zero)) h = refl
sums_at l (suc (suc (suc zero))) h = refl
sums_at l (suc (suc (suc (suc zero)))) h = refl
sums_at l (suc (suc (suc (suc (suc zero))))) h = refl
sums_at l (suc (suc (suc (suc (suc (suc j)))))) h = absurd (omega arith)

-- the entries of a list as terms stand at falling exponents
falling : (n : ℕ) (l : List ℕ) → length l ≤ n → Bytes l → Falling n (terms l)
falling n [] h b = tt
falling n (zero ∷ l) h b = falling n l (omega arith) b.1
falling n (suc d ∷ l) h b = (length l, omega arith, refl, zero-lt-suc d, b.0, falling (length l) l (omega arith) b.1)

-- ---- nothing is left of a codeword, and of any other block something

module _ (l rest : List ℕ) (n : length l ≡ 254) (b : Bytes l) (e : rest ≡ left_of l) where
  pub nothing_left : rest ≡ zeros 6 → Codeword l
  nothing_left z = zero-codeword l n b (sym e ∙ z)

  pub something-left : (rest ≡ zeros 6 → ⊥) → Damaged l rest
  something-left z = record { long = n; divided = e; broken = λ C. z (e ∙ codeword-zero l C) }

-- ---- a damaged block and its sums

module _ (block rest s : List ℕ) (hb : Bytes block) (D : Damaged block rest) (es : s ≡ sums_of rest) where
  rest-value : (j : ℕ) → j < 6 → value_at (pow 2 j) rest ≡ value_at (pow 2 j) block
  rest-value j h = ap (value_at (pow 2 j)) D.divided ∙ left-value block D.long hb j h

  -- the sums are the values of the block
  pub sum-value : (j : ℕ) → j < 6 → get_or s j 0 ≡ value_at (pow 2 j) block
  sum-value j h = ap (λ (l : List ℕ). get_or l j 0) es ∙ sums_at rest j h ∙ rest-value j h

  -- ---- errors that have the sums lead to the codeword

  pub found-answer : (es : List Error) → length es ≤ 3 → Explains 6 (terms_of es) s → (after : List ℕ) → Bytes after → after ≡ patched_by es block → Answer block true after
  found-answer es few E after b t =
      let ks : List ℕ = error_places es in
      let v : List ℕ = error_values es in
      let n : length after ≡ 254 = ap length t ∙ patched-all-length ks v block ∙ D.long in
      some-answer block after
      (decode-complete block after
      (vanishing-codeword after n b
      (λ j h.
      ap (value_at (pow 2 j)) t ∙ patched-all-value ks v block j D.long (places-placed es) (values-long es ∙ sym (places-long es))
      ∙ ap₂ ◌⊕◌ (sym (sum-value j h)) (sym (E.at j h)) ∙ ⊕-self _)) (n ∙ sym D.long)
      (omega (arith, ap (λ (l : List ℕ). changes l block) t, all-changes ks v block block, changes-self block, places-long es)))

  -- as where they were mended by
  pub mended-answer : (n : ℕ) (o : Option (List Error)) (r : Bool) (after : List ℕ) → n ≤ 3 → Mends n s o block r after → r ≡ true → Bytes after → Answer block true after
  mended-answer n None r after h M t b = absurd (M.right t)
  mended-answer n (Some es) r after h M t b = let R = M.right t in found-answer es (omega (arith, R.0)) R.1 after b R.2

  -- what the block lacks to a codeword has them too
  pub lack-value : (c : List ℕ) → Codeword c → length c ≡ length block → (j : ℕ) → j < 6 → get_or s j 0 ≡ value_at (pow 2 j) (c ⊞ block)
  lack-value c C n j h =
      sum-value j h ∙ sym (ap (λ (v : ℕ). v ⊕ value_at (pow 2 j) block) (codeword-vanishes c C j h) ∙ ⊕-zero-l _) ∙ sym (value-⊞ (pow 2 j) c block n)

  -- ---- where none have them, there is no codeword near

  pub lost-answer : ((e : Term) (es : List Term) → length es ≤ 2 → Falling 254 (e ∷ es) → Explains 6 (e ∷ es) s → ⊥) → Answer block false block
  lost-answer none =
      none-answer block (decode-none block (λ c C n h. apart c C n h (terms (c ⊞ block)) refl))
    where
      apart : (c : List ℕ) → Codeword c → length c ≡ length block → changes c block ≤ 3 → (ts : List Term) → terms (c ⊞ block) ≡ ts → ⊥
      apart c C n h [] t = D.broken (subst Codeword (changes-zero c block n (changes-weight c block n ∙ sym (length-terms (c ⊞ block)) ∙ ap length t)) C)
      apart c C n h (d ∷ ts) t =
          none d ts (omega (arith, ap length t, length-terms (c ⊞ block), changes-weight c block n))
          (subst (Falling 254) t (falling 254 (c ⊞ block) (omega (arith, length-⊞ c block n, D.long)) (⊞-bytes c block C.bytes hb)))
          (record { at = λ j i. lack-value c C n j i ∙ sym (terms-sum (c ⊞ block) j) ∙ ap (λ (l : List Term). power_sum l j) t })

  -- ---- by one error, by two and by three, of which only the last is still to answer

  pub last-answer : (one two three : Option (List Error)) → FindsOne s one → FindsTwo 6 s two → FindsThree s three
      → IfSome one (λ es. Explains 6 (terms_of es) s → ⊥) → IfSome two (λ es. Explains 6 (terms_of es) s → ⊥)
      → (r : Bool) (after : List ℕ) → Mends 3 s three block r after → Bytes after → Answer block r after
  last-answer one two three F1 F2 F3 W1 W2 true after M b = mended-answer 3 three true after (omega arith) M refl b
  last-answer one two three F1 F2 F3 W1 W2 false after M b =
      subst (Answer block false) (sym (M.kept refl)) (lost-answer (none-solved s one two three F1 F2 F3 W1 W2 (M.wrong refl)))

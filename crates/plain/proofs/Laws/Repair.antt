-- Why plain repair is exact: errors that have the sums of a block lead to the codeword within three places of it, and where no errors at
-- three places or fewer have them there is no such codeword.
-- Assumes nothing.
use mathlib.Core.Path.{◌≡◌, refl, sym, ap, ap₂, ◌∙◌, subst}
use mathlib.Core.Bool.{true, false}
use mathlib.Core.List.{List, [], ◌∷◌, ◌++◌, map, append_assoc, append-nil}
use Prim.Native.Nat.{ℕ, zero, suc, ◌+◌, ◌-◌, ◌<◌, ◌≤◌}
use native.Mathlib.Omega.{arith}
use lib.ListN.{length, get_or, length-set}
use Rattle.basics.specs.Below.{Below, Bytes}
use Rattle.gf256.specs.Field.{◌⊕◌, ◌⊗◌, pow}
use Rattle.gf256.specs.PowerSum.{Term, power_sum}
use Rattle.gf256.proofs.Laws.Sum.{⊕-assoc, ⊕-self, ⊕-zero-l, ⊕-zero-r}
use Rattle.gf256.proofs.Laws.Product.{pow-swap}
use Rattle.rs.specs.Polynomial.{value_at, ◌⊞◌}
use Rattle.rs.specs.Decode.{changes}
use Rattle.rs.proofs.Laws.Polynomial.{length-⊞, ⊞-bytes, value-⊞, value_set}
use Rattle.rs.proofs.Laws.Distance.{weight, terms, terms-sum, changes-weight, changes-self, changes-set}
use Rattle.rs.proofs.Laws.Codeword.{codeword-vanishes, vanishing-codeword}
use Rattle.rs.proofs.Laws.Decode.{Answer, some-answer, none-answer, decode-complete, decode-none}
use Rattle.plain.specs.Plain.{Sums, element, terms_at, Unexplained, NoneFrom, places_of, values_of, Right, patched, mended}
use Rattle.plain.specs.declared.errors.Error.{Error}

-- ---- bytes that are changed

-- each value comes in at its place
abbrev patched_all : List ℕ → List ℕ → List ℕ → List ℕ
patched_all l [] ys = l
patched_all l (i ∷ is) [] = l
patched_all l (i ∷ is) (y ∷ ys) = patched_all (patched l i y) is ys

placed-long : (es : List Error) → length (places_of es) ≡ length es
placed-long [] = refl
placed-long (e ∷ es) = ap suc (placed-long es)

mended-all : (l : List ℕ) (es : List Error) → mended l es ≡ patched_all l (places_of es) (values_of es)
mended-all l [] = refl
mended-all l (e ∷ es) = mended-all (patched l e.place e.value) es

-- a value that comes in adds its part to each sum
patched-value : (l : List ℕ) (i y m : ℕ) → length l ≡ 254 → i < 254 → value_at (pow 2 m) (patched l i y) ≡ value_at (pow 2 m) l ⊕ y ⊗ pow (element i) m
patched-value l i y m n h =
    value_set (pow 2 m) l i (253 - i) y (omega arith) ∙ ap (λ (p : ℕ). value_at (pow 2 m) l ⊕ y ⊗ p) (pow-swap 2 m (253 - i))

all-value : (l is ys : List ℕ) (m : ℕ) → length l ≡ 254 → Below 254 is → value_at (pow 2 m) (patched_all l is ys) ≡ value_at (pow 2 m) l ⊕ power_sum (terms_at (map element is) ys) m
unfolding power_sum
all-value l [] ys m n h = sym (⊕-zero-r _)
all-value l (i ∷ is) [] m n h = sym (⊕-zero-r _)
all-value l (i ∷ is) (y ∷ ys) m n h =
    all-value (patched l i y) is ys m (length-set l i _ ∙ n) h.1
    ∙ ap (λ (v : ℕ). v ⊕ power_sum (terms_at (map element is) ys) m) (patched-value l i y m n h.0) ∙ ⊕-assoc _ _ _

all-long : (l is ys : List ℕ) → length (patched_all l is ys) ≡ length l
all-long l [] ys = refl
all-long l (i ∷ is) [] = refl
all-long l (i ∷ is) (y ∷ ys) = all-long (patched l i y) is ys ∙ length-set l i _

all-changes : (l is ys r : List ℕ) → changes (patched_all l is ys) r ≤ length is + changes l r
all-changes l [] ys r = omega arith
all-changes l (i ∷ is) [] r = omega arith
all-changes l (i ∷ is) (y ∷ ys) r = omega (arith, all-changes (patched l i y) is ys r, changes-set l r i (get_or l i 0 ⊕ y))

-- ---- the places in which two lists differ, and by what

-- the places of the entries past 0, the first entry standing at `low`
abbrev places : ℕ → List ℕ → List ℕ
places low [] = []
places low (zero ∷ l) = places (low + 1) l
places low (suc d ∷ l) = low ∷ places (low + 1) l

-- these entries
abbrev values : List ℕ → List ℕ
values [] = []
values (zero ∷ l) = values l
values (suc d ∷ l) = suc d ∷ values l

as_many : (low : ℕ) (l : List ℕ) → length (values l) ≡ length (places low l)
as_many low [] = refl
as_many low (zero ∷ l) = as_many (low + 1) l
as_many low (suc d ∷ l) = ap suc (as_many (low + 1) l)

values-bytes : (l : List ℕ) → Bytes l → Bytes (values l)
values-bytes [] b = tt
values-bytes (zero ∷ l) b = values-bytes l b.1
values-bytes (suc d ∷ l) b = (b.0, values-bytes l b.1)

-- the terms of a list are these entries at these places
terms-are : (low : ℕ) (l : List ℕ) → low + length l ≡ 254 → terms l ≡ terms_at (map element (places low l)) (values l)
terms-are low [] e = refl
terms-are low (zero ∷ l) e = terms-are (low + 1) l (omega arith)
terms-are low (suc d ∷ l) e =
    let n : length l ≡ 253 - low = omega arith in
    ap₂ (λ (k : ℕ) (es : List Term). record { X = pow 2 k; Y = suc d } ∷ es) n (terms-are (low + 1) l (omega arith))

-- from one place later on
later : (n low : ℕ) (is s : List ℕ) → NoneFrom n low is s → NoneFrom n (low + 1) is s
later zero low is s none = none
later (suc n) low is s none = λ i h. none i (omega arith)

-- at the places where a list is not 0
none-there : (low : ℕ) (l is s : List ℕ) → low + length l ≡ 254 → NoneFrom (weight l) low is s → Unexplained (is ++ places low l) s
none-there low [] is s e none = subst (λ (js : List ℕ). Unexplained js s) (sym (append-nil is)) none
none-there low (zero ∷ l) is s e none = none-there (low + 1) l is s (omega arith) (later (weight l) low is s none)
none-there low (suc d ∷ l) is s e none =
    subst (λ (js : List ℕ). Unexplained js s) (append_assoc is (low ∷ []) (places (low + 1) l))
    (none-there (low + 1) l (is ++ (low ∷ [])) s (omega arith) (none low (omega arith) (omega arith)))

-- ---- a block and its sums

module _ (block s : List ℕ) (long : length block ≡ 254) (bytes : Bytes block) (S : Sums block s) where
  -- errors that have the sums lead to the codeword
  pub found-answer : (es : List Error) (after : List ℕ) → length es ≤ 3 → Right s es → Bytes after → after ≡ mended block es → Answer block true after
  found-answer es after few R b t =
      let is : List ℕ = places_of es in
      let ys : List ℕ = values_of es in
      let e : after ≡ patched_all block is ys = t ∙ mended-all block es in
      let n : length after ≡ 254 = ap length e ∙ all-long block is ys ∙ long in
      some-answer block after
      (decode-complete block after
      (vanishing-codeword after n b
      (λ m h.
      ap (value_at (pow 2 m)) e ∙ all-value block is ys m long R.below
      ∙ ap₂ ◌⊕◌ (sym (S m h)) (sym (R.sums m h)) ∙ ⊕-self _)) (n ∙ sym long)
      (omega (arith, ap (λ (l : List ℕ). changes l block) e, all-changes block is ys block, changes-self block, placed-long es)))

  -- where none have them, no codeword is near
  pub lost-answer : ((n : ℕ) → n ≤ 3 → NoneFrom n 0 [] s) → Answer block false block
  lost-answer none =
      none-answer block (decode-none block (λ c C n h.
      let d : List ℕ = c ⊞ block in
      let k : 0 + length d ≡ 254 = omega (arith, length-⊞ c block n) in
      none-there 0 d [] s k (none (weight d) (omega (arith, changes-weight c block n))) (values d) (as_many 0 d)
      (values-bytes d (⊞-bytes c block C.bytes bytes))
      (λ m i.
      S m i ∙ sym (⊕-zero-l _) ∙ ap (λ (v : ℕ). v ⊕ value_at (pow 2 m) block) (sym (codeword-vanishes c C m i))
      ∙ sym (value-⊞ (pow 2 m) c block n) ∙ sym (terms-sum d m) ∙ ap (λ (ts : List Term). power_sum ts m) (terms-are 0 d k))))

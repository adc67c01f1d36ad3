-- The laws of polynomials as lists: lengths, bytes, the group of sums, and the value at x of a sum, a multiple, a product, a list joined of
-- two and a list with one coefficient changed.
-- Assumes nothing.
use mathlib.Core.Path.{◌≡◌, refl, sym, ap, ap₂, ◌∙◌}
use mathlib.Core.List.{List, [], ◌∷◌, ◌++◌, append-nil}
use Prim.Native.Nat.{ℕ, zero, suc, pred, ◌+◌, ◌<◌, ◌≤◌}
use native.Mathlib.Nat.{suc_inj, suc-add, zero-add, le_of_suc-le-suc, eq-or-lt_of_le}
use native.Mathlib.Numerals.{add-one}
use mathlib.Core.Logic.{⊎_elim}
use native.Mathlib.Omega.{arith}
use lib.Dec.{lit<}
use lib.ListN.{length, get_or, set, take, drop, length-append, length-replicate, length-set, drop_of_length-le}
use lib.Seq.{take-suc, take_all, get_or-set_same, get_or-set_other}
use Rattle.basics.proofs.Laws.Parts.{all-entries}
use Rattle.basics.proofs.Laws.Test.{below_more}
use Rattle.gf256.specs.Field.{◌⊕◌, ◌⊗◌, pow}
use Rattle.gf256.proofs.Laws.Sum.{⊕-assoc, ⊕-comm, ⊕-self, ⊕-zero-l, ⊕-zero-r, ⊕-four, ⊕-lt}
use Rattle.gf256.proofs.Laws.Product.{⊗-lt, ⊗-comm, ⊗-assoc, ⊗-⊕-l, ⊗-⊕-r, ⊗-zero-l, ⊗-zero-r, ⊗-one-r, pow-add}
use Rattle.gf256.proofs.Laws.Ring.{ring}
use Rattle.rs.specs.Polynomial.{value_at, ◌⊞◌, scale, zeros, ◌⊠◌}
use Rattle.basics.specs.Below.{Bytes}

-- ---- lengths and bytes

pub length-⊞ : (l m : List ℕ) → length l ≡ length m → length (l ⊞ m) ≡ length m
unfolding ◌⊞◌
length-⊞ [] m e = e
length-⊞ (a ∷ l) [] e = absurd (omega arith)
length-⊞ (a ∷ l) (b ∷ m) e = ap suc (length-⊞ l m (suc_inj e))

pub length-scale : (f : ℕ) (l : List ℕ) → length (scale f l) ≡ length l
unfolding scale
length-scale f [] = refl
length-scale f (a ∷ l) = ap suc (length-scale f l)

pub ⊞-bytes : (l m : List ℕ) → Bytes l → Bytes m → Bytes (l ⊞ m)
unfolding ◌⊞◌
⊞-bytes [] m x y = tt
⊞-bytes (a ∷ l) [] x y = tt
⊞-bytes (a ∷ l) (b ∷ m) x y = (⊕-lt a b x.0 y.0, ⊞-bytes l m x.1 y.1)

pub scale-bytes : (f : ℕ) (l : List ℕ) → Bytes (scale f l)
unfolding scale
scale-bytes f [] = tt
scale-bytes f (a ∷ l) = (⊗-lt f a, scale-bytes f l)

-- ---- the group of sums

pub ⊞-comm : (l m : List ℕ) → l ⊞ m ≡ m ⊞ l
unfolding ◌⊞◌
⊞-comm [] [] = refl
⊞-comm [] (b ∷ m) = refl
⊞-comm (a ∷ l) [] = refl
⊞-comm (a ∷ l) (b ∷ m) = ap₂ ◌∷◌ (⊕-comm a b) (⊞-comm l m)

pub ⊞-assoc : (l m n : List ℕ) → l ⊞ m ⊞ n ≡ l ⊞ (m ⊞ n)
unfolding ◌⊞◌
⊞-assoc [] m n = refl
⊞-assoc (a ∷ l) [] n = refl
⊞-assoc (a ∷ l) (b ∷ m) [] = refl
⊞-assoc (a ∷ l) (b ∷ m) (c ∷ n) = ap₂ ◌∷◌ (⊕-assoc a b c) (⊞-assoc l m n)

pub ⊞-self : (l : List ℕ) → l ⊞ l ≡ zeros (length l)
unfolding ◌⊞◌
⊞-self [] = refl
⊞-self (a ∷ l) = ap₂ ◌∷◌ (⊕-self a) (⊞-self l)

pub ⊞-zeros-l : (l : List ℕ) → zeros (length l) ⊞ l ≡ l
unfolding ◌⊞◌
⊞-zeros-l [] = refl
⊞-zeros-l (a ∷ l) = ap₂ ◌∷◌ (⊕-zero-l a) (⊞-zeros-l l)

pub ⊞-cancel : (l m : List ℕ) → length l ≡ length m → l ⊞ (l ⊞ m) ≡ m
⊞-cancel l m e =
    sym (⊞-assoc l l m) ∙ ap (λ (z : List ℕ). z ⊞ m) (⊞-self l ∙ ap (λ (n : ℕ). zeros n) e) ∙ ⊞-zeros-l m

-- two lists whose sum is 0 are one
pub ⊞-zero-eq : (l m : List ℕ) → length l ≡ length m → l ⊞ m ≡ zeros (length m) → l ≡ m
⊞-zero-eq l m e z =
    sym (⊞-cancel m l (sym e)) ∙ ap (◌⊞◌ m) (⊞-comm m l ∙ z) ∙ ⊞-comm m (zeros (length m)) ∙ ⊞-zeros-l m

-- a sum of joined lists, part by part
pub ⊞-append : (a b c d : List ℕ) → length a ≡ length c → (a ++ b) ⊞ (c ++ d) ≡ (a ⊞ c) ++ (b ⊞ d)
unfolding ◌⊞◌
⊞-append [] b [] d e = refl
⊞-append [] b (z ∷ c) d e = absurd (omega arith)
⊞-append (y ∷ a) b [] d e = absurd (omega arith)
⊞-append (y ∷ a) b (z ∷ c) d e = ap (◌∷◌ (y ⊕ z)) (⊞-append a b c d (suc_inj e))

-- ---- the value at x

pub value-lt : (x : ℕ) (l : List ℕ) → value_at x l < 256
unfolding value_at
value-lt x [] = lit< tt
value-lt x (d ∷ l) = ⊕-lt _ _ (⊗-lt _ _) (value-lt x l)

pub value-⊞ : (x : ℕ) (l m : List ℕ) → length l ≡ length m → value_at x (l ⊞ m) ≡ value_at x l ⊕ value_at x m
unfolding value_at ◌⊞◌
value-⊞ x [] [] e = sym (⊕-self 0)
value-⊞ x [] (b ∷ m) e = absurd (omega arith)
value-⊞ x (a ∷ l) [] e = absurd (omega arith)
value-⊞ x (a ∷ l) (b ∷ m) e =
    ap₂ (λ (n z : ℕ). (a ⊕ b) ⊗ pow x n ⊕ z) (length-⊞ l m (suc_inj e)) (value-⊞ x l m (suc_inj e))
    ∙ ap (λ (z : ℕ). z ⊕ (value_at x l ⊕ value_at x m)) (⊗-⊕-l a b (pow x (length m)))
    ∙ ⊕-four _ _ _ _
    ∙ ap (λ (n : ℕ). a ⊗ pow x n ⊕ value_at x l ⊕ (b ⊗ pow x (length m) ⊕ value_at x m)) (sym (suc_inj e))

pub value-scale : (x f : ℕ) (l : List ℕ) → value_at x (scale f l) ≡ f ⊗ value_at x l
unfolding value_at scale
value-scale x f [] = sym (⊗-zero-r f)
value-scale x f (a ∷ l) =
    ap₂ (λ (n z : ℕ). f ⊗ a ⊗ pow x n ⊕ z) (length-scale f l) (value-scale x f l)
    ∙ ap (λ (z : ℕ). z ⊕ f ⊗ value_at x l) (⊗-assoc f a _) ∙ sym (⊗-⊕-r f _ _)

append-ring : (d p q e f : ℕ) → d ⊗ (p ⊗ q) ⊕ (e ⊗ q ⊕ f) ≡ (d ⊗ p ⊕ e) ⊗ q ⊕ f
append-ring d p q e f = simp ring

pub value-append : (x : ℕ) (l m : List ℕ) → value_at x (l ++ m) ≡ value_at x l ⊗ pow x (length m) ⊕ value_at x m
unfolding value_at
value-append x [] m = sym (ap (λ (z : ℕ). z ⊕ value_at x m) (⊗-zero-l _) ∙ ⊕-zero-l _)
value-append x (d ∷ l) m =
    ap₂ (λ (p z : ℕ). d ⊗ p ⊕ z) (ap (pow x) (length-append l m) ∙ pow-add x (length l) (length m)) (value-append x l m)
    ∙ append-ring d (pow x (length l)) (pow x (length m)) (value_at x l) (value_at x m)

pub value-zeros : (x n : ℕ) → value_at x (zeros n) ≡ 0
unfolding value_at
value-zeros x zero = refl
value-zeros x (suc n) = ap₂ ◌⊕◌ (⊗-zero-l _) (value-zeros x n) ∙ ⊕-self 0

-- zeros at the high end
pub value-above : (x n : ℕ) (l : List ℕ) → value_at x (zeros n ++ l) ≡ value_at x l
value-above x n l =
    value-append x (zeros n) l
    ∙ ap (λ (z : ℕ). z ⊕ value_at x l) (ap (λ (z : ℕ). z ⊗ pow x (length l)) (value-zeros x n) ∙ ⊗-zero-l _) ∙ ⊕-zero-l _

-- zeros at the low end: moved up by n powers
pub value-moved : (x n : ℕ) (l : List ℕ) → value_at x (l ++ zeros n) ≡ value_at x l ⊗ pow x n
value-moved x n l =
    value-append x l (zeros n) ∙ ap₂ (λ (k z : ℕ). value_at x l ⊗ pow x k ⊕ z) (length-replicate n 0) (value-zeros x n) ∙ ⊕-zero-r _

-- one more coefficient at the low end: Horner's step
pub value-snoc : (x : ℕ) (l : List ℕ) (d : ℕ) → d < 256 → value_at x (l ++ (d ∷ [])) ≡ value_at x l ⊗ x ⊕ d
unfolding value_at pow
value-snoc x l d h =
    value-append x l (d ∷ [])
    ∙ ap₂ ◌⊕◌ (sym (⊗-assoc (value_at x l) x 1) ∙ ⊗-one-r _ (⊗-lt _ _)) (⊕-zero-r _ ∙ ⊗-one-r d h)

-- so the value at x is that of the first coefficients, one more at a time
pub value-none : (x : ℕ) (l : List ℕ) → 0 ≡ value_at x (take 0 l)
unfolding value_at
value-none x l = refl

pub value-more : (x : ℕ) (l : List ℕ) (v i : ℕ) → i < length l → get_or l i 0 < 256 → v ≡ value_at x (take i l) → v ⊗ x ⊕ get_or l i 0 ≡ value_at x (take (i + 1) l)
value-more x l v i h b e =
    ap (λ (q : ℕ). q ⊗ x ⊕ get_or l i 0) e ∙ sym (value-snoc x (take i l) (get_or l i 0) b)
    ∙ ap (value_at x) (sym (take-suc l i 0 h) ∙ ap (λ (n : ℕ). take n l) (sym (add-one i)))

head-ring : (d y p z : ℕ) → (d ⊕ y) ⊗ p ⊕ z ≡ d ⊗ p ⊕ z ⊕ y ⊗ p
head-ring d y p z = simp ring

-- y comes in at the coefficient of x^k
pub value_set : (x : ℕ) (l : List ℕ) (i k y : ℕ) → length l ≡ suc (i + k) → value_at x (set l i (get_or l i 0 ⊕ y)) ≡ value_at x l ⊕ y ⊗ pow x k
unfolding value_at
value_set x [] i k y e = absurd (omega arith)
value_set x (d ∷ l) zero k y e =
    head-ring d y (pow x (length l)) (value_at x l) ∙ ap (λ (n : ℕ). d ⊗ pow x (length l) ⊕ value_at x l ⊕ y ⊗ pow x n) (suc_inj e ∙ zero-add k)
value_set x (d ∷ l) (suc i) k y e =
    ap₂ (λ (n z : ℕ). d ⊗ pow x n ⊕ z) (length-set l i _) (value_set x l i k y (suc_inj e ∙ suc-add i k)) ∙ sym (⊕-assoc _ _ _)

-- ---- the product

product-lengths : (q : ℕ) (qs g r : List ℕ) → suc (length r) ≡ length qs + length g → length (scale q g ++ zeros (length qs)) ≡ suc (length r)
product-lengths q qs g r e = simp (length-append, length-scale, length-replicate) (omega arith)

pub length-⊠ : (q g : List ℕ) → 0 < length g → suc (length (q ⊠ g)) ≡ length q + length g
unfolding ◌⊠◌
length-⊠ [] g h = omega (arith, length-replicate {A = ℕ} (pred (length g)) 0)
length-⊠ (q ∷ qs) g h =
    ap suc (length-⊞ _ (0 ∷ qs ⊠ g) (product-lengths q qs g (qs ⊠ g) (length-⊠ qs g h)) ∙ length-⊠ qs g h) ∙ sym (suc-add _ _)

product-ring : (q p e v : ℕ) → q ⊗ v ⊗ p ⊕ e ⊗ v ≡ (q ⊗ p ⊕ e) ⊗ v
product-ring q p e v = simp ring

pub value-⊠ : (x : ℕ) (q g : List ℕ) → 0 < length g → value_at x (q ⊠ g) ≡ value_at x q ⊗ value_at x g
unfolding value_at ◌⊠◌
value-⊠ x [] g h = value-zeros x (pred (length g)) ∙ sym (⊗-zero-l _)
value-⊠ x (q ∷ qs) g h =
    value-⊞ x (scale q g ++ zeros (length qs)) (0 ∷ qs ⊠ g) (product-lengths q qs g (qs ⊠ g) (length-⊠ qs g h))
    ∙ ap₂ ◌⊕◌ (value-moved x (length qs) (scale q g) ∙ ap (λ (z : ℕ). z ⊗ pow x (length qs)) (value-scale x q g))
    (value-above x 1 (qs ⊠ g) ∙ value-⊠ x qs g h)
    ∙ product-ring q (pow x (length qs)) (value_at x qs) (value_at x g)

-- times x + r: itself a power higher, plus r times itself
pub times-root : (r : ℕ) (p : List ℕ) → Bytes p → p ⊠ (1 ∷ r ∷ []) ≡ (p ++ (0 ∷ [])) ⊞ (0 ∷ scale r p)
unfolding ◌⊠◌ ◌⊞◌ scale
times-root r [] x = ap (λ (a : ℕ). a ∷ []) (sym (⊕-self 0))
times-root r (q ∷ qs) x =
    let up : List ℕ = qs ++ (0 ∷ []) in
    let s : List ℕ = scale r qs in
    let n : ℕ = length qs in
    let one : List ℕ = q ⊗ r ∷ zeros n in
    let z : zeros n ⊞ s ≡ s = ap (λ (k : ℕ). zeros k ⊞ s) (sym (length-scale r qs)) ∙ ⊞-zeros-l s in
    ap₂ (λ (a : ℕ) (l : List ℕ). a ⊕ 0 ∷ l) (⊗-one-r q x.0)
    (ap (◌⊞◌ one) (times-root r qs x.1 ∙ ⊞-comm up (0 ∷ s)) ∙ sym (⊞-assoc one (0 ∷ s) up) ∙ ⊞-comm (one ⊞ (0 ∷ s)) up
    ∙ ap₂ (λ (a : ℕ) (l : List ℕ). up ⊞ (a ∷ l)) (⊕-zero-r (q ⊗ r) ∙ ⊗-comm q r) z)

horner-ring : (x d v : ℕ) → d ⊕ x ⊗ v ≡ v ⊗ x ⊕ d
horner-ring x d v = simp ring

horner : (x d v t : ℕ) (l : List ℕ) → d < 256 → v ≡ value_at x l → t ≡ d ⊕ x ⊗ v → t ≡ value_at x (l ++ (d ∷ []))
horner x d v t l h e f = f ∙ ap (λ (p : ℕ). d ⊕ x ⊗ p) e ∙ horner-ring x d (value_at x l) ∙ sym (value-snoc x l d h)

-- ---- a polynomial scaled in place, coefficient by coefficient

scaled_at : (f i : ℕ) (l : List ℕ) → i < length l
    → set (scale f (take i l) ++ drop i l) i (f ⊗ get_or (scale f (take i l) ++ drop i l) i 0) ≡ scale f (take (suc i) l) ++ drop (suc i) l
unfolding scale
scaled_at f i [] h = absurd (omega arith)
scaled_at f zero (a ∷ l) h = refl
scaled_at f (suc i) (a ∷ l) h = ap (λ (m : List ℕ). f ⊗ a ∷ m) (scaled_at f i l (le_of_suc-le-suc h))

pub scaled-none : (f : ℕ) (l : List ℕ) → l ≡ scale f (take 0 l) ++ drop 0 l
unfolding scale
scaled-none f l = refl

-- one coefficient more
pub scaled-more : (f i x : ℕ) (l m : List ℕ) → i < length l → m ≡ scale f (take i l) ++ drop i l → x ≡ f ⊗ get_or m i 0
    → set m i x ≡ scale f (take (i + 1) l) ++ drop (i + 1) l
scaled-more f i x l m h e q =
    ap₂ (λ (k : List ℕ) (y : ℕ). set k i y) e (q ∙ ap (λ (k : List ℕ). f ⊗ get_or k i 0) e) ∙ scaled_at f i l h
    ∙ ap (λ (n : ℕ). scale f (take n l) ++ drop n l) (sym (add-one i))

-- all of them
pub scaled-all : (f n : ℕ) (l : List ℕ) → length l ≤ n → scale f (take n l) ++ drop n l ≡ scale f l
scaled-all f n l h = ap₂ (λ (k m : List ℕ). scale f k ++ m) (take_all n l h) (drop_of_length-le l h) ∙ append-nil _

-- ---- a polynomial a power higher, added coefficient by coefficient to another: the six low coefficients of x p + s

abbrev pub raised_sum : List ℕ → List ℕ → List ℕ
raised_sum p s = drop 1 ((p ++ (0 ∷ [])) ⊞ (0 ∷ s))

-- the first k of them stand, and behind them those of s
pub record Raised (p s r : List ℕ) (k : ℕ) : Type 0 where
  pub long : length r ≡ 6
  pub done : (i : ℕ) → i < k → get_or r i 0 ≡ get_or s i 0 ⊕ get_or p (i + 1) 0
  pub rest : (i : ℕ) → k ≤ i → get_or r i 0 ≡ get_or s i 0

pub raised-none : (p s : List ℕ) → length s ≡ 6 → Raised p s s 0
raised-none p s n = record { long = n; done = λ i h. absurd (omega arith); rest = λ i h. refl }

pub raised-more : (p s r : List ℕ) (k x : ℕ) → k < 5 → Raised p s r k → x ≡ get_or r k 0 ⊕ get_or p (k + 1) 0 → Raised p s (set r k x) (k + 1)
raised-more p s r k x h R e = record {
  long = length-set r k x ∙ R.long;
  done = λ i l.
      ⊎_elim
      (λ (q : i ≡ k). rw q (get_or-set_same r k x 0 (omega (arith, R.long)) ∙ e ∙ ap (λ (y : ℕ). y ⊕ get_or p (k + 1) 0) (R.rest k (omega arith))))
      (λ (q : i < k). get_or-set_other r k i x 0 (λ z. omega arith) ∙ R.done i q) (eq-or-lt_of_le (omega arith));
  rest = λ i l. get_or-set_other r k i x 0 (λ z. omega arith) ∙ R.rest i (omega arith);
}

pub raised-all : (p s r : List ℕ) → length p ≡ 6 → length s ≡ 6 → (k : ℕ) → k ≡ 5 → Raised p s r k → r ≡ raised_sum p s
unfolding ◌⊞◌
raised-all p s r m n k e R =
    let at : (i : ℕ) → i < 5 → get_or r i 0 ≡ get_or p (i + 1) 0 ⊕ get_or s i 0 = λ i h. R.done i (omega arith) ∙ ⊕-comm _ _ in
    cc (
      ⊕-zero-l (get_or s 5 0),
      all-entries 6 r R.long,
      at 0 (omega arith),
      at 1 (omega arith),
      at 2 (omega arith),
      at 3 (omega arith),
      at 4 (omega arith),
      R.rest 5 (omega arith),
      ap₂ raised_sum (all-entries 6 p m) (all-entries 6 s n),
    )

-- ---- the six values at the powers 0 to 5 of 2, one more at a time

pub record Summed (l s : List ℕ) (m : ℕ) : Type 0 where
  pub long : length s ≡ 6
  pub at : (j : ℕ) → j < m → get_or s j 0 ≡ value_at (pow 2 j) l

pub summed-more : (l s : List ℕ) (m x v : ℕ) → Summed l s m → m < 6 → x ≡ pow 2 m → v ≡ value_at x l → Summed l (set s m v) (m + 1)
summed-more l s m x v S h e f = record {
  long = length-set s m v ∙ S.long;
  at = below_more (λ j. get_or (set s m v) j 0 ≡ value_at (pow 2 j) l) m (λ j b. get_or-set_other s m j v 0 (λ p. omega arith) ∙ S.at j b)
      (get_or-set_same s m v 0 (omega (arith, S.long)) ∙ f ∙ ap (λ (y : ℕ). value_at y l) e);
}

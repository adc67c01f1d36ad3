-- Values that come in at places: the values of the block change by the sums of their terms; and of the places without a mark, no more come to differ than
-- values are put there.
-- Assumes nothing.
use mathlib.Core.Path.{◌≡◌, refl, sym, ap, ap₂, ◌∙◌, subst}
use mathlib.Core.Bool.{Bool, true, false}
use mathlib.Core.List.{List, [], ◌∷◌, ◌++◌}
use Prim.Native.Nat.{ℕ, zero, suc, ◌+◌, ◌-◌, ◌≤◌, ◌<◌}
use native.Mathlib.Nat.{suc_inj}
use native.Mathlib.Numerals.{add-one}
use native.Mathlib.Omega.{arith}
use lib.ListN.{length, get_or, set, take, drop, length-set, length-append, take-append-drop, drop_of_length-le}
use lib.Seq.{length-take-le, set-get_or, get_or-drop, drop-cons}
use Rattle.gf256.specs.Field.{◌⊕◌, ◌⊗◌, pow}
use Rattle.gf256.specs.PowerSum.{power_sum}
use Rattle.gf256.proofs.Laws.Sum.{⊕-zero-r, ⊕-assoc}
use Rattle.basics.specs.Below.{Below}
use Rattle.basics.proofs.Laws.Test.{never}
use Rattle.rs.specs.Polynomial.{value_at}
use Rattle.rs.specs.Marked.{errors}
use Rattle.gf256.proofs.Laws.Product.{pow-swap}
use Rattle.rs.specs.Decode.{changes}
use Rattle.rs.proofs.Laws.Polynomial.{value_set}
use Rattle.rs.proofs.Laws.Distance.{differ, differ-le, changes-set}
use Rattle.rs.proofs.Laws.Errors.{errors-self}
use Rattle.search.specs.Search.{terms_at, patched, patched_all, patched_by}
use Rattle.search.specs.SearchMarked.{places_of}
use Rattle.search.specs.declared.errors.Error.{Error}
use Rattle.search.proofs.Laws.Split.{places-below}

-- ---- length and values

pub patched-value : (l : List ℕ) (k y j : ℕ) → length l ≡ 254 → k < 254 → value_at (pow 2 j) (patched l k y) ≡ value_at (pow 2 j) l ⊕ y ⊗ pow (pow 2 k) j
patched-value l k y j n h =
    value_set (pow 2 j) l (253 - k) k y (omega arith) ∙ ap (λ (p : ℕ). value_at (pow 2 j) l ⊕ y ⊗ p) (pow-swap 2 j k)

pub patched-all-length : (ks v l : List ℕ) → length (patched_all ks v l) ≡ length l
unfolding patched_all
patched-all-length [] v l = refl
patched-all-length (k ∷ ks) [] l = refl
patched-all-length (k ∷ ks) (y ∷ v) l = patched-all-length ks v (patched l k y) ∙ length-set l _ _

pub patched-all-value : (ks v l : List ℕ) (j : ℕ) → length l ≡ 254 → Below 254 ks → length v ≡ length ks
    → value_at (pow 2 j) (patched_all ks v l) ≡ value_at (pow 2 j) l ⊕ power_sum (terms_at ks v) j
unfolding patched_all power_sum
patched-all-value [] v l j n b e = sym (⊕-zero-r _)
patched-all-value (k ∷ ks) [] l j n b e = absurd (omega arith)
patched-all-value (k ∷ ks) (y ∷ v) l j n b e =
    patched-all-value ks v (patched l k y) j (length-set l _ _ ∙ n) b.1 (suc_inj e)
    ∙ ap (λ (z : ℕ). z ⊕ power_sum (terms_at ks v) j) (patched-value l k y j n b.0) ∙ ⊕-assoc _ _ _

-- ---- one run of places after another

patched-append : (a b u v l : List ℕ) → length u ≡ length a → patched_all (a ++ b) (u ++ v) l ≡ patched_all b v (patched_all a u l)
unfolding patched_all
patched-append [] b [] v l e = refl
patched-append [] b (y ∷ u) v l e = absurd (omega arith)
patched-append (k ∷ a) b [] v l e = absurd (omega arith)
patched-append (k ∷ a) b (y ∷ u) v l e = patched-append a b u v (patched l k y) (suc_inj e)

-- values of 0 change nothing
patched-zeros : (ks v l : List ℕ) → ((i : ℕ) → get_or v i 0 ≡ 0) → patched_all ks v l ≡ l
unfolding patched_all
patched-zeros [] v l z = refl
patched-zeros (k ∷ ks) [] l z = refl
patched-zeros (k ∷ ks) (y ∷ v) l z =
    patched-zeros ks v (patched l k y) (λ i. z (suc i))
    ∙ ap (set l (253 - k)) (ap (◌⊕◌ (get_or l (253 - k) 0)) (z 0) ∙ ⊕-zero-r _) ∙ set-get_or l (253 - k) 0

-- ---- the places without a mark

-- at most one more differs
errors-set : (marks : List Bool) (l m : List ℕ) (i v : ℕ) → errors marks (set l i v) m ≤ suc (errors marks l m)
unfolding errors
errors-set marks [] m i v = omega arith
errors-set marks (a ∷ l) [] zero v = omega arith
errors-set marks (a ∷ l) [] (suc i) v = omega arith
errors-set [] (a ∷ l) (b ∷ m) zero v = omega (arith, differ-le v b)
errors-set [] (a ∷ l) (b ∷ m) (suc i) v = omega (arith, errors-set [] l m i v)
errors-set (true ∷ marks) (a ∷ l) (b ∷ m) zero v = omega arith
errors-set (true ∷ marks) (a ∷ l) (b ∷ m) (suc i) v = errors-set marks l m i v
errors-set (false ∷ marks) (a ∷ l) (b ∷ m) zero v = omega (arith, differ-le v b)
errors-set (false ∷ marks) (a ∷ l) (b ∷ m) (suc i) v = omega (arith, errors-set marks l m i v)

-- is the place marked?
abbrev is_marked : List Bool → ℕ → Bool
is_marked [] i = false
is_marked (mark ∷ marks) zero = mark
is_marked (mark ∷ marks) (suc i) = is_marked marks i

-- there none more differs
errors-marked : (marks : List Bool) (l m : List ℕ) (i v : ℕ) → is_marked marks i ≡ true → errors marks (set l i v) m ≡ errors marks l m
unfolding errors
errors-marked marks [] m i v t = refl
errors-marked marks (a ∷ l) [] zero v t = refl
errors-marked marks (a ∷ l) [] (suc i) v t = refl
errors-marked [] (a ∷ l) (b ∷ m) i v t = never (sym t)
errors-marked (true ∷ marks) (a ∷ l) (b ∷ m) zero v t = refl
errors-marked (false ∷ marks) (a ∷ l) (b ∷ m) zero v t = never (sym t)
errors-marked (true ∷ marks) (a ∷ l) (b ∷ m) (suc i) v t = errors-marked marks l m i v t
errors-marked (false ∷ marks) (a ∷ l) (b ∷ m) (suc i) v t = ap (◌+◌ (differ a b)) (errors-marked marks l m i v t)

-- each of the exponents belongs to a marked place of n
abbrev AllMarked : List Bool → ℕ → List ℕ → Type 0
AllMarked marks n [] = Unit {0}
AllMarked marks n (k ∷ ks) = (is_marked marks (n - suc k) ≡ true) × AllMarked marks n ks

marked-behind : (mark : Bool) (marks : List Bool) (n : ℕ) (ks : List ℕ) → Below n ks → AllMarked marks n ks → AllMarked (mark ∷ marks) (suc n) ks
marked-behind mark marks n [] b a = tt
marked-behind mark marks n (k ∷ ks) b a =
    let h : k < n = b.0 in
    let e : suc n - suc k ≡ suc (n - suc k) = omega arith in
    (ap (is_marked (mark ∷ marks)) e ∙ a.0, marked-behind mark marks n ks b.1 a.1)

places-marked : (marks : List Bool) → AllMarked marks (length marks) (places_of marks)
unfolding places_of
places-marked [] = tt
places-marked (true ∷ marks) =
    let e : suc (length marks) - suc (length marks) ≡ 0 = omega arith in
    (ap (is_marked (true ∷ marks)) e, marked-behind true marks (length marks) (places_of marks) (places-below marks (length marks) (omega arith)) (places-marked marks))
places-marked (false ∷ marks) = marked-behind false marks (length marks) (places_of marks) (places-below marks (length marks) (omega arith)) (places-marked marks)

kept-errors : (marks : List Bool) (ks v l m : List ℕ) → AllMarked marks 254 ks → errors marks (patched_all ks v l) m ≡ errors marks l m
unfolding patched_all
kept-errors marks [] v l m a = refl
kept-errors marks (k ∷ ks) [] l m a = refl
kept-errors marks (k ∷ ks) (y ∷ v) l m a =
    let e : 253 - k ≡ 254 - suc k = omega arith in
    kept-errors marks ks v (patched l k y) m a.1 ∙ errors-marked marks l m (253 - k) _ (ap (is_marked marks) e ∙ a.0)

more-errors : (marks : List Bool) (ks v l m : List ℕ) → errors marks (patched_all ks v l) m ≤ errors marks l m + length ks
unfolding patched_all
more-errors marks [] v l m = omega arith
more-errors marks (k ∷ ks) [] l m = omega arith
more-errors marks (k ∷ ks) (y ∷ v) l m =
    omega (arith, more-errors marks ks v (patched l k y) m, errors-set marks l m (253 - k) (get_or l (253 - k) 0 ⊕ y))

-- a run of n places with values, zeros behind them
patched-run : (n : ℕ) (ks v l : List ℕ) → n ≤ length ks → length v ≡ length ks → ((i : ℕ) → n ≤ i → get_or v i 0 ≡ 0)
    → patched_all ks v l ≡ patched_all (take n ks) (take n v) l
patched-run n ks v l h e z =
    ap₂ (λ (a b : List ℕ). patched_all a b l) (sym (take-append-drop n ks)) (sym (take-append-drop n v))
    ∙ patched-append (take n ks) (drop n ks) (take n v) (drop n v) l (length-take-le n v (omega arith) ∙ sym (length-take-le n ks h))
    ∙ patched-zeros (drop n ks) (drop n v) _ (λ i. get_or-drop n v i 0 ∙ z (n + i) (omega arith))

-- values at the marked places and at some others: no more come to differ than the others are
pub few-errors : (marks : List Bool) (n : ℕ) (ks others v l : List ℕ) → length marks ≡ 254 → n ≤ length ks → length v ≡ length ks
    → ((i : ℕ) → n ≤ i → get_or v i 0 ≡ 0) → take n ks ≡ places_of marks ++ others → errors marks (patched_all ks v l) l ≤ length others
few-errors marks n ks others v l em h e z t =
    let f : ℕ = length (places_of marks) in
    let run : length (places_of marks ++ others) ≡ n = sym (ap length t) ∙ length-take-le n ks h in
    let room : f ≤ length (take n v) = omega (arith, length-append (places_of marks) others, length-take-le n v (omega arith)) in
    let w : List ℕ = take n v in
    let after : patched_all ks v l ≡ patched_all others (drop f w) (patched_all (places_of marks) (take f w) l) =
    patched-run n ks v l h e z ∙ ap₂ (λ (a b : List ℕ). patched_all a b l) t (sym (take-append-drop f w))
    ∙ patched-append (places_of marks) others (take f w) (drop f w) l (length-take-le f w room) in
    omega (
      arith,
      ap (λ (x : List ℕ). errors marks x l) after,
      more-errors marks others (drop f w) (patched_all (places_of marks) (take f w) l) l,
      kept-errors marks (places_of marks) (take f w) l l (subst (λ (k : ℕ). AllMarked marks k (places_of marks)) em (places-marked marks)),
      errors-self marks l,
    )

-- ---- an error at a time: what the errors to come make of the block stays the same

pub patched-more : (es : List Error) (l : List ℕ) (i r : ℕ) (e : Error) → i < length es → e ≡ get_or es i e
    → r ≡ get_or l (253 - e.place.exponent) 0 ⊕ e.value → patched_by (drop (i + 1) es) (set l (253 - e.place.exponent) r) ≡ patched_by (drop i es) l
unfolding patched_all
patched-more es l i r e h q er =
    ap₂ (λ (n v : ℕ). patched_by (drop n es) (set l (253 - e.place.exponent) v)) (add-one i) er
    ∙ ap (λ (ds : List Error). patched_by ds l) (sym (drop-cons es i e h ∙ ap (λ (d : Error). d ∷ drop (suc i) es) (sym q)))

pub patched-end : (es : List Error) (l : List ℕ) (i : ℕ) → length es ≤ i → patched_by (drop i es) l ≡ l
unfolding patched_all
patched-end es l i h = ap (λ (ds : List Error). patched_by ds l) (drop_of_length-le es {i = i} h)

-- ---- no more bytes come to differ than values come in

pub all-changes : (ks v l r : List ℕ) → changes (patched_all ks v l) r ≤ length ks + changes l r
unfolding patched_all
all-changes [] v l r = omega arith
all-changes (k ∷ ks) [] l r = omega arith
all-changes (k ∷ ks) (y ∷ v) l r = omega (arith, all-changes ks v (patched l k y) r, changes-set l r (253 - k) (get_or l (253 - k) 0 ⊕ y))

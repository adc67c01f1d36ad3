-- Lists in runs, one after the other: what stands in each run, runs that are joined, and runs that are written over.
-- Assumes nothing.
use mathlib.Core.Path.{◌≡◌, refl, sym, ap, ap₂, ◌∙◌}
use mathlib.Core.List.{List, [], ◌∷◌, ◌++◌, append-nil}
use Prim.Native.Nat.{ℕ, zero, suc, ◌+◌, ◌≤◌, ◌<◌}
use native.Mathlib.Nat.{not-suc-le-zero, le_of_suc-le-suc, min-le_left, add-zero, add-suc, suc-add}
use native.Mathlib.Numerals.{add-one}
use native.Mathlib.Omega.{arith}
use lib.ListN.{length, get_or, set, take, drop, drop_of_length-le, length-set, length-take, length-drop}
use lib.Seq.{length-take-le, drop-cons, take_all, take_at, drop_at, take-add, take-take, drop-drop, drop-append-add, get_or-take, get_or-drop}

-- ---- runs of a list

-- a run that lies within a list has its length
pub run_length : (l : List ℕ) (s n : ℕ) → s + n ≤ length l → length (take n (drop s l)) ≡ n
run_length l s n h = length-take-le n (drop s l) (simp length-drop (omega arith))

-- so many entries at the most
pub take-most : (n : ℕ) (l : List ℕ) → length (take n l) ≤ n
take-most n l = rw length-take (min-le_left n (length l))

-- a run and the one behind it
pub join : (l : List ℕ) (s n m : ℕ) (r : List ℕ) → r ≡ take m (drop (s + n) l) → take n (drop s l) ++ r ≡ take (n + m) (drop s l)
join l s n m r e = rw (e, ← drop-drop n s l) (sym (take-add n m (drop s l)))

-- what is behind the first run
pub skip : (x r : List ℕ) (n m : ℕ) → length x ≡ n → drop (n + m) (x ++ r) ≡ drop m r
skip x r n m h = rw (← h) (drop-append-add x r m)

-- a part of what was taken
part-take : (n m k : ℕ) (l : List ℕ) → n + m ≤ k → take m (drop n (take k l)) ≡ take m (drop n l)
part-take zero m k l h = take-take m k l (omega arith)
part-take (suc n) m zero l h = absurd (omega arith)
part-take (suc n) m (suc k) [] h = refl
part-take (suc n) m (suc k) (x ∷ l) h = part-take n m k l (omega arith)

-- an entry of a run
pub run_at : (s k : ℕ) (l : List ℕ) (i : ℕ) → i < k → get_or (take k (drop s l)) i 0 ≡ get_or l (s + i) 0
run_at s k l i h = get_or-take k (drop s l) i 0 h ∙ get_or-drop s l i 0

-- two lists with a run in common have each part of it in common
pub part_same : (x y : List ℕ) (s k n m : ℕ) → take k (drop s x) ≡ take k (drop s y) → n + m ≤ k
    → take m (drop (s + n) x) ≡ take m (drop (s + n) y)
part_same x y s k n m e h =
    rw (← drop-drop n s x, ← drop-drop n s y)
    (sym (part-take n m k (drop s x) h) ∙ ap (λ (l : List ℕ). take m (drop n l)) e ∙ part-take n m k (drop s y) h)

-- and each entry
pub entry-same : (x y : List ℕ) (s k i : ℕ) → take k (drop s x) ≡ take k (drop s y) → i < k → get_or x (s + i) 0 ≡ get_or y (s + i) 0
entry-same x y s k i e h = sym (run_at s k x i h) ∙ ap (λ (l : List ℕ). get_or l i 0) e ∙ run_at s k y i h

-- ---- the entries of a run, one by one

pub same-cons : {a b : ℕ} {l m : List ℕ} → a ≡ b → l ≡ m → a ∷ l ≡ b ∷ m
same-cons e f = λ i. e i ∷ f i

-- n entries from place i on
abbrev pub entries : ℕ → ℕ → List ℕ → List ℕ
entries zero i l = []
entries (suc n) i l = get_or l i 0 ∷ entries n (suc i) l

one_more : (n i : ℕ) (l r : List ℕ) → i < length l → take n (drop (suc i) l) ≡ r → take (suc n) (drop i l) ≡ get_or l i 0 ∷ r
one_more n i l r h e = rw (drop-cons l i 0 h) (ap (λ (m : List ℕ). get_or l i 0 ∷ m) e)

-- a run that lies within a list is its entries
pub part-entries : (n i : ℕ) (l : List ℕ) → i + n ≤ length l → take n (drop i l) ≡ entries n i l
part-entries zero i l h = refl
part-entries (suc n) i l h = one_more n i l (entries n (suc i) l) (omega arith) (part-entries n (suc i) l (omega arith))

-- each of them stands in the list
pub entries_at : (n i m : ℕ) (l : List ℕ) → m < n → get_or (entries n i l) m 0 ≡ get_or l (i + m) 0
entries_at zero i m l h = absurd (not-suc-le-zero h)
entries_at (suc n) i zero l h = ap (λ (k : ℕ). get_or l k 0) (sym (add-zero i))
entries_at (suc n) i (suc m) l h = entries_at n (suc i) m l (le_of_suc-le-suc h) ∙ ap (λ (k : ℕ). get_or l k 0) (suc-add i m ∙ sym (add-suc i m))

-- a list is all its entries
pub all-entries : (n : ℕ) (l : List ℕ) → length l ≡ n → entries n 0 l ≡ l
all-entries n l e = sym (part-entries n 0 l (omega arith)) ∙ take_all n l (omega arith)

-- behind all entries but one stands the last
pub last_one : (l : List ℕ) (i : ℕ) → length l ≡ suc i → drop i l ≡ get_or l i 0 ∷ []
last_one l i h = drop-cons l i 0 (omega arith) ∙ ap (λ (m : List ℕ). get_or l i 0 ∷ m) (drop_of_length-le l {i = suc i} (omega arith))

-- ---- a list that is filled place by place, and a run that is written over

-- new entries in the first i places, old ones in the others
abbrev pub filled : List ℕ → List ℕ → ℕ → List ℕ
filled new old i = take i new ++ drop i old

filled-suc : (new old : List ℕ) (i : ℕ) → i < length new → i < length old → set (filled new old i) i (get_or new i 0) ≡ filled new old (suc i)
filled-suc [] old i h k = absurd (not-suc-le-zero h)
filled-suc (x ∷ new) [] i h k = absurd (not-suc-le-zero k)
filled-suc (x ∷ new) (y ∷ old) zero h k = refl
filled-suc (x ∷ new) (y ∷ old) (suc i) h k = ap (λ (l : List ℕ). x ∷ l) (filled-suc new old i (le_of_suc-le-suc h) (le_of_suc-le-suc k))

-- one place more
pub filled_more : (new old now' : List ℕ) (i v : ℕ) → now' ≡ filled new old i → i < length new → i < length old → get_or new i 0 ≡ v
    → set now' i v ≡ filled new old (i + 1)
filled_more new old now' i v e h k g =
    ap₂ (λ (l : List ℕ) (x : ℕ). set l i x) e (sym g) ∙ filled-suc new old i h k ∙ ap (filled new old) (sym (add-one i))

-- all places
pub filled-all : (new old : List ℕ) (i : ℕ) → length new ≤ i → length old ≤ i → filled new old i ≡ new
filled-all new old i h k = ap₂ (λ (l m : List ℕ). l ++ m) (take_all i new h) (drop_of_length-le old k) ∙ append-nil new

-- a loop that fills a list place by place: i places hold new entries
pub record Filling (new old out : List ℕ) (i : ℕ) : Type 0 where
  pub within : i ≤ length old
  pub long : length out ≡ length old
  pub so_far : out ≡ filled new old i

module _ (new old : List ℕ) (e : length new ≡ length old) where
  -- none yet
  pub filling-none : Filling new old old 0
  filling-none = record { within = omega arith; long = refl; so_far = refl }

  -- one more
  pub filling-more : (out : List ℕ) (i v : ℕ) → Filling new old out i → i < length old → get_or new i 0 ≡ v → Filling new old (set out i v) (i + 1)
  filling-more out i v f h g = record {
    within = omega arith;
    long = length-set out i v ∙ f.long;
    so_far = filled_more new old out i v f.so_far (omega arith) h g;
  }

  -- all of them
  pub filling-all : (out : List ℕ) (i : ℕ) → Filling new old out i → length old ≤ i → out ≡ new
  filling-all out i f h = f.so_far ∙ filled-all new old i (omega arith) h

-- what stands behind the run p is written over by q
pub over : (p r q : List ℕ) (n k : ℕ) → length p ≡ n → take n (p ++ r) ++ (q ++ drop k (drop n (p ++ r))) ≡ p ++ (q ++ drop k r)
over p r q n k h = rw (take_at p r n h, drop_at p r n h)

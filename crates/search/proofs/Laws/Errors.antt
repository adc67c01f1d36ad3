-- What a solver answers where there are not so many errors; errors as lists of their places and their values; and errors that are refuted.
-- Assumes nothing.
use mathlib.Core.Path.{◌≡◌, refl, sym, ap, subst₂}
use mathlib.Core.List.{List, [], ◌∷◌}
use Prim.Native.Nat.{ℕ, zero, suc, ◌<◌}
use native.Mathlib.Nat.{le_of_suc-le-suc, not-suc-le-zero}
use lib.ListN.{length, get_or}
use Rattle.std.specs.Prelude.{Option, Some, None, IfSome, IsSomeAnd}
use Rattle.basics.specs.Below.{Below}
use Rattle.search.specs.Search.{term, Explains, error_places, error_values, terms_at, terms_of, Are, FindsOne, FindsTwo, FindsThree}
use Rattle.search.specs.declared.errors.Error.{Error}

pub not-one : (s : List ℕ) → ((k y : ℕ) → k < 254 → 0 < y → y < 256 → Explains 2 (term k y ∷ []) s → ⊥) → FindsOne s None
not-one s u = record { finds = λ k y hk py hy E. u k y hk py hy E }

pub not-two : (n : ℕ) (s : List ℕ)
    → ((k y m z : ℕ) → k < 254 → m < k → 0 < y → y < 256 → 0 < z → z < 256 → Explains n (term k y ∷ term m z ∷ []) s → ⊥) → FindsTwo n s None
not-two n s u = record { finds = λ k y m z hk hm py hy pz hz E. u k y m z hk hm py hy pz hz E }

pub not_three : (s : List ℕ)
    → ((k y m z i w : ℕ) → k < 254 → m < k → i < m → 0 < y → y < 256 → 0 < z → z < 256 → 0 < w → w < 256 → Explains 6 (term k y ∷ term m z ∷ term i w ∷ []) s → ⊥)
    → FindsThree s None
not_three s u = record { finds = λ k y m z i w hk hm hi py hy pz hz pw hw E. u k y m z i w hk hm hi py hy pz hz pw hw E }

-- ---- errors as lists of numbers

pub places-long : (es : List Error) → length (error_places es) ≡ length es
places-long [] = refl
places-long (e ∷ es) = ap suc (places-long es)

pub values-long : (es : List Error) → length (error_values es) ≡ length es
values-long [] = refl
values-long (e ∷ es) = ap suc (values-long es)

pub places-placed : (es : List Error) → Below 254 (error_places es)
places-placed [] = tt
places-placed (e ∷ es) = (e.place.within, places-placed es)

pub place-at : (es : List Error) (i : ℕ) (d : Error) → i < length es → (get_or es i d).place.exponent ≡ get_or (error_places es) i 0
place-at [] i d h = absurd (not-suc-le-zero h)
place-at (e ∷ es) zero d h = refl
place-at (e ∷ es) (suc i) d h = place-at es i d (le_of_suc-le-suc h)

pub value-at : (es : List Error) (i : ℕ) (d : Error) → i < length es → (get_or es i d).value ≡ get_or (error_values es) i 0
value-at [] i d h = absurd (not-suc-le-zero h)
value-at (e ∷ es) zero d h = refl
value-at (e ∷ es) (suc i) d h = value-at es i d (le_of_suc-le-suc h)

-- ---- errors that were found and do not have the sums: none at these places with these values have them

pub refuted : (s ks ys : List ℕ) (o : Option (List Error)) → IfSome o (λ es. Explains 6 (terms_of es) s → ⊥) → IsSomeAnd o (Are ks ys) → Explains 6 (terms_at ks ys) s → ⊥
refuted s ks ys None W A E = A
refuted s ks ys (Some es) W A E = W (subst₂ (λ (k y : List ℕ). Explains 6 (terms_at k y) s) (sym A.places) (sym A.values) E)

-- The reserved area: that it is not refused exactly where it is zero, that 15 is given at the first byte of it that is not, and what that makes of
-- the checks of 248 bytes.
-- Assumes nothing.
use mathlib.Core.Path.{◌≡◌, refl, sym, ap, ◌∙◌, subst}
use mathlib.Core.Bool.{Bool, true, false, not}
use mathlib.Core.List.{List, [], ◌∷◌, map}
use mathlib.Core.Logic.Iff
use mathlib.Core.Logic.{◌↔◌, ⊎_elim}
use mathlib.Core.Option.{Option, none, some}
use Prim.Native.Nat.{ℕ, zero, suc, ◌+◌, ◌-◌, ◌≤◌, ◌<◌}
use native.Mathlib.Omega.{arith}
use lib.Dec.{eqb}
use lib.ListN.{length, get_or, drop, replicate, get_or-replicate, get_or-eq_default}
use borrow.Author.Tests.{eqb-true, eq-eqb, ne_eqb, not-true}
use Rattle.std.proofs.lemmas.Bool.Decides.{nat_tests}
use Rattle.basics.specs.Each.{all}
use Rattle.basics.proofs.Laws.Test.{lt-or-le}
use Rattle.basics.proofs.Laws.Parts.{run_length, take-most, run_at, same-cons}
use Rattle.refusal.specs.Chain.{passed}
use Rattle.refusal.specs.Run.{first_from, FirstRefused}
use Rattle.refusal.specs.Number.{number_of, refusal_at, refusal_plain}
use Rattle.refusal.specs.declared.Reason.TheVariants.{ReservedArea, Size}
use Rattle.refusal.specs.declared.Refusal.{Refusal}
use Rattle.refusal.proofs.Laws.Chain.{require-passed, next-passed, require-behind, next-gives, other-number, Without, without-passed, without-require, without-next, never-gives}
use Rattle.refusal.proofs.Laws.Run.{first-exactly, first-without}
use Rattle.items.specs.Items.{items}
use Rattle.record.specs.Reserved.{reserved_area, used_at, reserved_refusal, Used, FirstUsed}
use Rattle.record.specs.Record.{broken, content_refusal, record_refusal}
use Rattle.record.proofs.Laws.Checks.{broken-without}

-- ---- not refused exactly where it is zero

zeros-unused : (n k : ℕ) → first_from used_at n (replicate k 0) ≡ none
unfolding first_from
zeros-unused n zero = refl
zeros-unused n (suc k) = zeros-unused (suc n) k

unused-zeros : (n : ℕ) (l : List ℕ) → first_from used_at n l ≡ none → l ≡ replicate (length l) 0
unfolding first_from
unused-zeros n [] e = refl
unused-zeros n (b ∷ l) e = same-cons (grind (arith, nat_tests)) (unused-zeros (suc n) l (grind (arith, nat_tests)))

-- what a byte is refused for
used-given : (n b : ℕ) (why : Refusal) → used_at n b ≡ some why → (refusal_at ReservedArea n ≡ why) × (b ≡ 0 → ⊥)
used-given n b why e = grind (arith, nat_tests)

-- ---- the bytes of the area by their numbers

pub area-at : (bytes : List ℕ) (i : ℕ) → i < 64 → get_or (reserved_area bytes) i 0 ≡ get_or bytes (43 + i) 0
unfolding reserved_area
area-at bytes i h = run_at _ _ bytes i h

area-most : (bytes : List ℕ) → length (reserved_area bytes) ≤ 64
unfolding reserved_area
area-most bytes = take-most 64 (drop 43 bytes)

-- an entry that is not zero is there
there : (l : List ℕ) (i : ℕ) → (get_or l i 0 ≡ 0 → ⊥) → i < length l
there l i f = ⊎_elim (λ h. h) (λ h. absurd (f (get_or-eq_default l 0 h))) (lt-or-le i (length l))

module _ (bytes : List ℕ) where
  -- entry i is byte 44 + i
  used-entry : (i : ℕ) → i < 64 → (get_or (reserved_area bytes) i 0 ≡ 0 → ⊥) → Used bytes (44 + i)
  used-entry i h f = record { from = omega arith; to = omega arith; other = λ e. f (grind (arith, area-at)) }

  entry-used : (n : ℕ) → Used bytes n → get_or (reserved_area bytes) (n - 44) 0 ≡ 0 → ⊥
  entry-used n u e = u.other (grind (arith, area-at, u.from, u.to))

  -- ---- 15 is given at the first byte that is not zero

  -- a byte that is not used is zero
  zero-at : (i : ℕ) → i < 64 → (Used bytes (44 + i) → ⊥) → used_at (44 + i) (get_or (reserved_area bytes) i 0) ≡ passed
  zero-at i h f = grind (arith, nat_tests, used-entry)

  pub reserved-first : (place : ℕ) → (reserved_refusal bytes ≡ some (refusal_at ReservedArea place)) ↔ FirstUsed bytes place
  unfolding reserved_refusal
  reserved-first place = Iff.trans (first-exactly used_at 44 (reserved_area bytes) (refusal_at ReservedArea place)) (to, from)
    where
      to : FirstRefused used_at 44 (reserved_area bytes) (refusal_at ReservedArea place) → FirstUsed bytes place
      to F =
          let g = used-given _ _ _ F.here in
          let n : 44 + F.before ≡ place = ap (λ (r : Refusal). r.place) g.0 in
          record {
            here = subst (Used bytes) n (used-entry F.before (omega (arith, F.within, area-most bytes)) g.1);
            first = λ k h u. entry-used k u (eqb-true _ 0 (require-passed _ _ passed (F.earlier (k - 44) (omega (arith, u.from)))).0);
          }

      from : FirstUsed bytes place → FirstRefused used_at 44 (reserved_area bytes) (refusal_at ReservedArea place)
      from F =
          let u = F.here in
          let n : 44 + (place - 44) ≡ place = omega (arith, u.from) in
          record {
            before = place - 44;
            within = there (reserved_area bytes) (place - 44) (entry-used place u);
            here = rw (n, ne_eqb _ 0 (entry-used place u));
            earlier = λ i h. zero-at i (omega (arith, u.to)) (λ v. F.first (44 + i) (omega (arith, u.from)) v);
          }

-- where a byte is not zero, there is a first
pub used-first : (bytes : List ℕ) (n : ℕ) → Used bytes n → (place : ℕ) × FirstUsed bytes place
unfolding reserved_refusal
used-first bytes n u = by (first_from used_at 44 (reserved_area bytes)) refl
  where
    by : (o : Option Refusal) → first_from used_at 44 (reserved_area bytes) ≡ o → (place : ℕ) × FirstUsed bytes place
    by none e =
        let l = there (reserved_area bytes) (n - 44) (entry-used bytes n u) in
        absurd (entry-used bytes n u (ap (λ (a : List ℕ). get_or a (n - 44) 0) (unused-zeros 44 (reserved_area bytes) e) ∙ get_or-replicate (length (reserved_area bytes)) (n - 44) 0 0 l))
    by (some why) e =
        let F = (first-exactly used_at 44 (reserved_area bytes) why).0 e in
        let g = used-given (44 + F.before) (get_or (reserved_area bytes) F.before 0) why F.here in
        (44 + F.before, (reserved-first bytes (44 + F.before)).0 (e ∙ ap some (sym g.0)))

-- ---- the checks of 248 bytes

-- with 248 of them, what is in them decides
pub content-decides : (bytes : List ℕ) → length bytes ≡ 248 → record_refusal bytes ≡ content_refusal bytes
unfolding record_refusal
content-decides bytes n = grind (arith, nat_tests)

-- with the area zero, the rules of the items
pub zero-content : (bytes : List ℕ) → reserved_area bytes ≡ replicate 64 0 → content_refusal bytes ≡ broken items bytes
unfolding content_refusal reserved_refusal
zero-content bytes e = rw (e, zeros-unused 44 64)

-- where nothing is refused the area is zero
pub content-zero : (bytes : List ℕ) → length bytes ≡ 248 → content_refusal bytes ≡ none → reserved_area bytes ≡ replicate 64 0
unfolding content_refusal reserved_refusal
content-zero bytes n e =
    let l : length (reserved_area bytes) ≡ 64 = unfold reserved_area in run_length bytes 43 64 (omega arith) in
    unused-zeros 44 (reserved_area bytes) (next-passed _ _ e).0 ∙ ap (λ (k : ℕ). replicate k 0) l

-- and no rule is broken
pub content-rules : (bytes : List ℕ) → content_refusal bytes ≡ none → broken items bytes ≡ none
unfolding content_refusal
content-rules bytes e = grind arith

-- ---- when they give 15

-- a number that they do not refuse with: it fails a test that 15 and all the rows' numbers pass
pub content-without : (n : ℕ) (f : ℕ → Bool) → ((m : ℕ) → f m ≡ true → eqb m n ≡ false)
    → (bytes : List ℕ) → f 15 ≡ true → all f (map (λ i. number_of i.reason) items) ≡ true → Without n (content_refusal bytes)
unfolding content_refusal reserved_refusal number_of
content-without n f apart bytes t a =
    without-next _ (first-without used_at (λ m b. without-require (eqb b 0) _ (apart 15 t) without-passed) 44 (reserved_area bytes))
    (broken-without n f apart items bytes a)

-- the rules of the items do not give it
not-fifteen : (bytes : List ℕ) (place : ℕ) → broken items bytes ≡ some (refusal_at ReservedArea place) → ⊥
unfolding items all number_of
not-fifteen bytes place = never-gives (refusal_at ReservedArea place) (broken-without 15 (λ m. not (eqb m 15)) (λ m t. not-true (eqb m 15) t) items bytes refl)

pub content-first : (bytes : List ℕ) (place : ℕ) → (content_refusal bytes ≡ some (refusal_at ReservedArea place)) ↔ FirstUsed bytes place
unfolding content_refusal
content-first bytes place = Iff.trans (next-gives (reserved_refusal bytes) _ _ (not-fifteen bytes place)) (reserved-first bytes place)

-- of any number of bytes
pub refusal-first : (bytes : List ℕ) (place : ℕ) → (record_refusal bytes ≡ some (refusal_at ReservedArea place)) ↔ ((length bytes ≡ 248) × FirstUsed bytes place)
unfolding record_refusal number_of
refusal-first bytes place =
    Iff.trans (require-behind (eqb (length bytes) 248) _ _ (content_refusal bytes) (other-number (refusal_plain Size) (refusal_at ReservedArea place) refl))
    (Iff.and (eqb-true (length bytes) 248, eq-eqb (length bytes) 248) (content-first bytes place))

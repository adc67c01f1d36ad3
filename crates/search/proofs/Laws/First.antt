-- Why repair by marks is exact: values that have the sums of a block lead to the codeword with 2e + f at most 6, and where none have them there is no
-- such codeword. And what both rules say and leave, by what each of them did.
-- Assumes nothing.
use mathlib.Core.Path.{◌≡◌, refl, sym, ap, ◌∙◌, subst}
use mathlib.Core.Bool.{Bool, true}
use mathlib.Core.List.{List, ◌++◌}
use mathlib.Core.Option.{Option, none, some, get_or}
use Prim.Native.Nat.{ℕ, zero, suc, ◌≤◌, ◌<◌}
use native.Mathlib.Omega.{arith}
use lib.ListN.{length, take}
use Rattle.gf256.specs.Field.{◌⊕◌, pow}
use Rattle.gf256.specs.PowerSum.{power_sum}
use Rattle.gf256.proofs.Laws.Sum.{⊕-self}
use Rattle.basics.specs.Below.{Bytes}
use Rattle.rs.specs.Polynomial.{value_at, ◌⊞◌}
use Rattle.rs.specs.Decode.{given, decode, repairable, repaired}
use Rattle.rs.specs.Marked.{marks_in, errors, decode_marked, decode_both, repairable_marked, repaired_marked}
use Rattle.rs.proofs.Laws.Codeword.{vanishing-codeword}
use Rattle.rs.proofs.Laws.Marked.{marked-sound, marked-complete, both-complete, both-second, both-unmarked}
use Rattle.search.specs.Search.{Explains, error_places, error_values, terms_of, patched_by, sums_of, Damaged}
use Rattle.search.specs.SearchMarked.{MarksOf, Fits, SolvedMarked}
use Rattle.search.specs.declared.errors.Error.{Error}
use Rattle.search.specs.declared.errors.Marks.{Marks}
use Rattle.search.proofs.Laws.Errors.{places-long, values-long, places-placed}
use Rattle.search.proofs.Laws.Repair.{sum-value, lack-value}
use Rattle.search.proofs.Laws.Split.{values_in, other_places, other_values, lack-fits}
use Rattle.search.proofs.Laws.Patched.{patched-all-length, patched-all-value, few-errors}

-- ---- the first rule

module _ (block rest s : List ℕ) (hb : Bytes block) (D : Damaged block rest) (es : s ≡ sums_of rest) (m : Marks) (few : m.count ≤ 6) (long : length m.places ≡ 6)
    (fs : List Error) (S : SolvedMarked s m fs) (n : length fs ≡ 6) (marks : List Bool) (em : length marks ≡ 254) (M : MarksOf marks m) where
  -- what was found leads to the codeword
  pub found-marked : Explains 6 (terms_of fs) s → (after : List ℕ) → Bytes after → after ≡ patched_by fs block → decode_marked marks block ≡ some after
  found-marked E after b e =
      let W = S.widened in
      let ks : List ℕ = error_places fs in
      let v : List ℕ = error_values fs in
      let alike : length v ≡ length ks = values-long fs ∙ sym (places-long fs) in
      let six : length ks ≡ 6 = places-long fs ∙ n in
      let whole : length after ≡ 254 = ap length e ∙ patched-all-length ks v block ∙ D.long in
      marked-complete marks block after
      (record {
        word = vanishing-codeword after whole b (λ j h.
            ap (value_at (pow 2 j)) e
            ∙ patched-all-value ks v block j D.long (places-placed fs) alike
            ∙ ap (λ (x : ℕ). x ⊕ power_sum (terms_of fs) j) (sym (sum-value block rest s hb D es j h) ∙ E.at j h) ∙ ⊕-self _);
        long = whole ∙ sym D.long;
        near =
            omega (
              arith,
              W.few,
              M.count,
              ap (λ (x : List ℕ). errors marks x block) e,
              few-errors marks S.all.count ks W.others v block em
                  (omega (arith, W.count, W.few, few, six)) alike S.behind (ap (take S.all.count) S.places ∙ W.at ∙ ap (λ (l : List ℕ). l ++ W.others) (M.at few)),
            );
      })

  -- where they do not have the sums, there is none
  pub lost-marked : (Explains 6 (terms_of fs) s → ⊥) → decode_marked marks block ≡ none
  lost-marked q = go (decode_marked marks block) refl
    where
      go : (a : Option (List ℕ)) → decode_marked marks block ≡ a → decode_marked marks block ≡ none
      go none e = e
      go (some c) e =
          let W = marked-sound marks block c e in
          let d : List ℕ = c ⊞ block in
          absurd (q (S.finds (values_in marks d) (other_places marks d) (other_values marks d)
          (subst (λ (ps : List ℕ). Fits ps s (values_in marks d) (other_places marks d) (other_values marks d)) (sym (M.at few))
          (lack-fits marks c block s em W.word.long D.long W.word.bytes hb (lack-value block rest s hb D es c W.word W.long) W.near))))

-- ---- both rules

-- what is said of a block and left of it
pub record AnswerBoth (marks : List Bool) (before : List ℕ) (r : Bool) (after : List ℕ) : Type 0 where
  pub said : r ≡ repairable_marked marks before
  pub left : after ≡ repaired_marked marks before

-- a codeword is given
pub given-answer : (marks : List Bool) (l c : List ℕ) → decode_both marks l ≡ some c → AnswerBoth marks l true c
unfolding repairable_marked repaired_marked
given-answer marks l c e = record { said = sym (ap given e); left = sym (ap (λ (o : Option (List ℕ)). get_or o l) e) }

-- by the first rule
pub first-answer : (marks : List Bool) (l c : List ℕ) → decode_marked marks l ≡ some c → AnswerBoth marks l true c
first-answer marks l c e = given-answer marks l c (both-complete marks l c (marked-sound marks l c e))

-- where both rules are one, it is the answer of the second
pub second-answer : (marks : List Bool) (l : List ℕ) → decode_both marks l ≡ decode l → (r : Bool) (after : List ℕ) → r ≡ repairable l → after ≡ repaired l
    → AnswerBoth marks l r after
unfolding repairable_marked repaired_marked repairable repaired
second-answer marks l e r after p q = record { said = p ∙ sym (ap given e); left = q ∙ sym (ap (λ (o : Option (List ℕ)). get_or o l) e) }

-- of more than six marks the first rule gives none
pub many-marks : (marks : List Bool) (l : List ℕ) → 6 < marks_in marks → decode_both marks l ≡ decode l
many-marks marks l h = both-second marks l (λ c W. omega (arith, W.near))

-- and where none are marked, or more than six, the bytes alone decide
pub no-few : (marks : List Bool) (l : List ℕ) → (0 < marks_in marks → 6 < marks_in marks) → decode_both marks l ≡ decode l
no-few marks l h = go (marks_in marks) refl
  where
    go : (n : ℕ) → marks_in marks ≡ n → decode_both marks l ≡ decode l
    go zero e = both-unmarked marks l e
    go (suc n) e = many-marks marks l (h (omega (arith, e)))

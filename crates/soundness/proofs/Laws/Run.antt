-- A run of words: that none is refused exactly where each is sound, and which word is the first that is not.
-- Assumes nothing.
use mathlib.Core.Path.{◌≡◌, refl, sym, ap, ◌∙◌}
use mathlib.Core.Bool.{Bool, true, false, ◌&&◌, false≢true}
use mathlib.Core.List.{List, [], ◌∷◌}
use mathlib.Core.Logic.Iff
use mathlib.Core.Logic.{◌↔◌}
use mathlib.Core.Option.{none, some, some-ne-none}
use Prim.Native.Nat.{ℕ, suc, ◌≤◌}
use borrow.Author.Tests.{le-leb, leb-true}
use lib.Dec.{leb, eqb}
use lib.ListN.{length}
use Rattle.basics.specs.Each.{all}
use Rattle.basics.proofs.Laws.Test.{both_true}
use Rattle.refusal.specs.Chain.{next}
use Rattle.refusal.specs.Run.{first_from, FirstRefused}
use Rattle.refusal.specs.Number.{number_of, refusal_at, refusal_plain}
use Rattle.refusal.specs.declared.Wrong.{Wrong}
use Rattle.refusal.specs.declared.Reason.TheVariants.{Wide, Parity}
use Rattle.refusal.specs.declared.Refusal.{Refusal}
use Rattle.refusal.proofs.Laws.Chain.{next-passed, passed-other, other-number, Without, without-passed, without-refused}
use Rattle.refusal.proofs.Laws.Run.{first-exactly as first-refused, first-without}
use Rattle.std.specs.Prelude.{Ok, Err, Some, None}
use Rattle.anc.specs.Word.{is_sound}
use Rattle.anc.specs.Words.{narrow}
use Rattle.soundness.specs.Check.{Soundness, soundness_of, word_refusal, unsound_at, unsound_from, words_refusal, FirstUnsound}
use Rattle.soundness.proofs.Laws.Check.{sound-checked, checked-sound, narrow-unrefused, refused-wide}

-- ---- which words are refused

-- only a sound word is not refused
refused_none : (n : ℕ) (s : Soundness) → word_refusal n s ≡ none → s ≡ Ok None
refused_none n (Ok None) e = refl
refused_none n (Ok (Some wrong)) e = absurd (some-ne-none _ e)
refused_none n (Err why) e = absurd (some-ne-none why e)

-- nothing is refused exactly where each word is sound
pub sound-passed : (n : ℕ) (words : List ℕ) → all is_sound words ≡ true → unsound_from n words ≡ none
unfolding all unsound_from first_from
sound-passed n [] s = refl
sound-passed n (w ∷ words) s =
    let both = both_true (is_sound w) (all is_sound words) s in
    rw (sound-checked w both.0) (sound-passed (suc n) words both.1)

pub passed-sound : (n : ℕ) (words : List ℕ) → unsound_from n words ≡ none → all is_sound words ≡ true
unfolding all unsound_from first_from
passed-sound n [] e = refl
passed-sound n (w ∷ words) e =
    let both = next-passed (unsound_at n w) (unsound_from (suc n) words) e in
    rw (checked-sound w (refused_none n (soundness_of w) both.0)) (passed-sound (suc n) words both.1)

-- a run is refused with 7 or with 2
module _ (m : ℕ) (seven : eqb 7 m ≡ false) (two : eqb 2 m ≡ false) where
  refused-without : (n w : ℕ) (s : Soundness) → soundness_of w ≡ s → Without m (word_refusal n s)
  unfolding number_of
  refused-without n w (Ok None) e = without-passed
  refused-without n w (Ok (Some wrong)) e = without-refused _ seven
  refused-without n w (Err why) e = without-refused why (rw (refused-wide w why e) two)

  pub unsound-without : (n : ℕ) (words : List ℕ) → Without m (unsound_from n words)
  unfolding unsound_from
  unsound-without = first-without _ (λ n w. refused-without n w (soundness_of w) refl)

-- ---- the first word that is not sound

-- 7 is given of a word that is not sound, at its number, and says what is wrong with it
word-given : (n w : ℕ) (s : Soundness) (wrong : Wrong) (place : ℕ) → soundness_of w ≡ s → word_refusal n s ≡ some (refusal_at (Parity wrong) place)
    → (s ≡ Ok (Some wrong)) × (place ≡ n)
unfolding number_of
word-given n w (Ok None) wrong place d e = absurd (passed-other _ e)
word-given n w (Ok (Some other)) wrong place d e =
    let whole : refusal_at (Parity other) n ≡ refusal_at (Parity wrong) place = cc in
    let reason : Parity other ≡ Parity wrong = ap (λ (r : Refusal). r.reason) whole in
    let same : other ≡ wrong = cc in
    (ap (λ (w : Wrong). Ok (Some w)) same, sym (ap (λ (r : Refusal). r.place) whole))
word-given n w (Err no') wrong place d e =
    let same : no' ≡ refusal_at (Parity wrong) place = cc in
    absurd (other-number (refusal_at (Parity wrong) place) (refusal_plain Wide) refl (sym same ∙ refused-wide w no' d))

pub first-exactly : (n : ℕ) (words : List ℕ) (wrong : Wrong) (place : ℕ) → (unsound_from n words ≡ some (refusal_at (Parity wrong) place)) ↔ FirstUnsound n words wrong place
unfolding unsound_from
first-exactly n words wrong place = Iff.trans (first-refused _ n words (refusal_at (Parity wrong) place)) (to, from)
  where
    to : FirstRefused unsound_at n words (refusal_at (Parity wrong) place) → FirstUnsound n words wrong place
    to F =
        let g = word-given _ _ _ wrong place refl F.here in
        record {
          before = F.before;
          number = g.1;
          within = F.within;
          here = g.0;
          earlier = λ i h. checked-sound _ (refused_none _ _ (F.earlier i h));
        }

    from : FirstUnsound n words wrong place → FirstRefused unsound_at n words (refusal_at (Parity wrong) place)
    from F = record {
      before = F.before;
      within = F.within;
      here = rw (F.here, F.number);
      earlier = λ i h. rw (sound-checked _ (F.earlier i h));
    }

-- of words of ten bits that are not all sound there is a first
pub unsound-found : (n : ℕ) (words : List ℕ) → narrow words ≡ true → all is_sound words ≡ false
    → (wrong : Wrong) × (place : ℕ) × (unsound_from n words ≡ some (refusal_at (Parity wrong) place))
unfolding narrow all unsound_from first_from
unsound-found n [] t f = absurd (false≢true (sym f))
unsound-found n (w ∷ words) t f =
    let ten = both_true (leb w 1023) (narrow words) t in
    by (soundness_of w) refl (leb-true w 1023 ten.0) (unsound-found (suc n) words ten.1)
  where
    by : (s : Soundness) → soundness_of w ≡ s → w ≤ 1023
        → (all is_sound words ≡ false → (wrong : Wrong) × (place : ℕ) × (unsound_from (suc n) words ≡ some (refusal_at (Parity wrong) place)))
        → (wrong : Wrong) × (place : ℕ) × (next (word_refusal n s) (unsound_from (suc n) words) ≡ some (refusal_at (Parity wrong) place))
    by (Ok None) d h later = later (sym (ap (λ (b : Bool). b && all is_sound words) (checked-sound w d)) ∙ f)
    by (Ok (Some wrong)) d h later = (wrong, n, refl)
    by (Err why) d h later = absurd (narrow-unrefused w why h d)

-- ---- up to 255 of them

pub words-few : (words : List ℕ) → length words ≤ 255 → words_refusal words ≡ unsound_from 1 words
unfolding words_refusal
words-few words h = rw (le-leb (length words) 255 h)

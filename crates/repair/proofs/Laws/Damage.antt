-- 2e + f of words against those that were sent: f of them confess, since they are not sound, and of the others e carry another byte. Three words
-- changed in any way make it at most 6.
-- Assumes nothing.
use mathlib.Core.Path.{◌≡◌, refl, sym, ap, ◌∙◌}
use mathlib.Core.Bool.{Bool, true, false, not, cond}
use mathlib.Core.List.{List, [], ◌∷◌, ◌++◌}
use Prim.Native.Nat.{ℕ, ◌+◌, ◌%◌, ◌≤◌}
use native.Mathlib.Nat.{suc_inj, le_of_suc-le-suc}
use native.Mathlib.Omega.{arith}
use lib.ListN.{length, drop}
use Rattle.basics.specs.Below.{Bytes}
use Rattle.basics.specs.Each.{all}
use Rattle.basics.proofs.Laws.Test.{both_true, never}
use Rattle.anc.specs.Word.{is_sound}
use Rattle.anc.specs.Words.{low_bytes, sound_words}
use Rattle.anc.proofs.Laws.Word.{word_sound, word_low}
use Rattle.anc.proofs.Laws.Words.{low_bytes-length, low-words}
use Rattle.rs.specs.Codeword.{Codeword}
use Rattle.rs.specs.Decode.{changes}
use Rattle.rs.specs.Marked.{marks_in, errors, cost, WithinMarked}
use Rattle.rs.proofs.Laws.Errors.{errors-self}
use Rattle.rs.proofs.Laws.Distance.{differ, place, differ-le, differ_same}
use Rattle.search.specs.Marked.{confessed}
use Rattle.repair.specs.Reach.{damage}

-- sound words do not confess
pub none-confess : (words : List ℕ) → all is_sound words ≡ true → marks_in (confessed words) ≡ 0
unfolding all confessed marks_in
none-confess [] s = refl
none-confess (w ∷ words) s =
    let both = both_true (is_sound w) (all is_sound words) s in
    rw both.0 (omega (arith, none-confess words both.1))

-- words that are alike carry bytes that are alike
low-differ : (s w : ℕ) → differ (s % 256) (w % 256) ≤ differ w s
low-differ s w =
    place (λ x. differ (s % 256) (w % 256) ≤ x) w s (λ e. omega (arith, differ_same (s % 256) (w % 256) (ap (λ (v : ℕ). v % 256) (sym e))))
    (λ n. differ-le (s % 256) (w % 256))

-- a word that is not sound differs from a sound one
unsound-differs : (w s : ℕ) → is_sound w ≡ false → is_sound s ≡ true → differ w s ≡ 1
unsound-differs w s f t = place (λ x. x ≡ 1) w s (λ e. never (sym t ∙ ap is_sound (sym e) ∙ f)) (λ n. refl)

-- each word that confesses and each that carries another byte was changed
pub damage-changes : (words sent : List ℕ) → length words ≡ length sent → all is_sound sent ≡ true
    → errors (confessed words) (low_bytes sent) (low_bytes words) + marks_in (confessed words) ≤ changes words sent
unfolding all confessed low_bytes errors marks_in changes
damage-changes [] [] n s = omega arith
damage-changes [] (x ∷ sent) n s = absurd (omega arith)
damage-changes (w ∷ words) [] n s = absurd (omega arith)
damage-changes (w ∷ words) (x ∷ sent) n s =
    let both = both_true (is_sound x) (all is_sound sent) s in
    go (is_sound w) refl both.0 (damage-changes words sent (suc_inj n) both.1)
  where
    go : (t : Bool) → is_sound w ≡ t → is_sound x ≡ true → errors (confessed words) (low_bytes sent) (low_bytes words) + marks_in (confessed words) ≤ changes words sent
        → errors (not t ∷ confessed words) (low_bytes (x ∷ sent)) (low_bytes (w ∷ words)) + marks_in (not t ∷ confessed words) ≤ changes (w ∷ words) (x ∷ sent)
    go true e h k = omega (arith, low-differ x w)
    go false e h k = omega (arith, unsound-differs w x e h)

-- at most three words changed in any way
pub few-damage : (words sent : List ℕ) → length words ≡ length sent → all is_sound sent ≡ true → changes words sent ≤ 3 → damage words sent ≤ 6
few-damage words sent n s h = omega (arith, damage-changes words sent n s)

-- ---- other words in front of words as they were sent

-- what they can cost at the most: one each for those that confess, two for the others
abbrev pub worth : List ℕ → ℕ
worth [] = 0
worth (u ∷ us) = cond (is_sound u) 2 1 + worth us

pub length-worth : (us : List ℕ) → length us ≤ worth us
length-worth [] = omega arith
length-worth (u ∷ us) = go (is_sound u) (length-worth us)
  where
    go : (t : Bool) → length us ≤ worth us → length (u ∷ us) ≤ cond t 2 1 + worth us
    go true h = omega arith
    go false h = omega arith

pub front-damage : (us sent : List ℕ) → length us ≤ length sent → all is_sound sent ≡ true → damage (us ++ drop (length us) sent) sent ≤ worth us
unfolding all confessed low_bytes errors marks_in
front-damage [] sent n s = omega (arith, errors-self (confessed sent) (low_bytes sent), none-confess sent s)
front-damage (u ∷ us) [] n s = absurd (omega arith)
front-damage (u ∷ us) (x ∷ sent) n s = go (is_sound u) (front-damage us sent (le_of_suc-le-suc n) (both_true (is_sound x) (all is_sound sent) s).1)
  where
    go : (t : Bool) → damage (us ++ drop (length us) sent) sent ≤ worth us
        → cost (not t ∷ confessed (us ++ drop (length us) sent)) (low_bytes (x ∷ sent)) (low_bytes (u ∷ us ++ drop (length us) sent)) ≤ cond t 2 1 + worth us
    go true h = omega (arith, differ-le (x % 256) (u % 256))
    go false h = omega arith

-- ---- words that confess, behind words as they were sent

-- they cost one each, whatever was sent in their place
all-confess : (us sent : List ℕ) → all (λ u. not (is_sound u)) us ≡ true → cost (confessed us) sent (low_bytes us) ≡ length us
unfolding all confessed low_bytes errors marks_in
all-confess [] [] u = refl
all-confess [] (x ∷ sent) u = refl
all-confess (v ∷ us) [] u =
    let (a, b) = both_true (not (is_sound v)) (all (λ w. not (is_sound w)) us) u in rw a (omega (arith, all-confess us [] b))
all-confess (v ∷ us) (x ∷ sent) u =
    let (a, b) = both_true (not (is_sound v)) (all (λ w. not (is_sound w)) us) u in rw a (omega (arith, all-confess us sent b))

pub behind-cost : (bytes us sent : List ℕ) → Bytes bytes → all (λ u. not (is_sound u)) us ≡ true
    → cost (confessed (sound_words bytes ++ us)) (bytes ++ sent) (low_bytes (sound_words bytes ++ us)) ≡ length us
unfolding sound_words confessed low_bytes errors marks_in
behind-cost [] us sent b u = all-confess us sent u
behind-cost (d ∷ bytes) us sent b u =
    rw (word_sound d b.0, word_low d b.0) (omega (arith, behind-cost bytes us sent b.1 u, differ_same d d refl))

-- of the words of a codeword
pub damage-within : (c words : List ℕ) → Codeword c → length words ≡ length c → damage words (sound_words c) ≤ 6 → WithinMarked (confessed words) (low_bytes words) c
damage-within c words C n h = record { word = C; long = sym n ∙ sym (low_bytes-length words); near = rw (low-words c C.bytes) at h }

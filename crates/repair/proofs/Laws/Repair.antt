-- The law of repair: what was sent is recovered where 2e + f is at most 6, and every word that differs is counted. And the lengths, bounds and
-- soundness of what repair writes.
-- Assumes nothing.
use mathlib.Core.Path.{◌≡◌, refl, sym, ap, ◌∙◌}
use mathlib.Core.Bool.{true}
use mathlib.Core.List.{List}
use mathlib.Core.Logic.{◌⊎◌, ⊎_elim}
use mathlib.Core.Option
use mathlib.Core.Option.{Option, none, some}
use Prim.Native.Nat.{ℕ, ◌≤◌, ◌<◌}
use native.Mathlib.Omega.{arith}
use borrow.Author.Tests.{eq-eqb}
use lib.Dec.{eqb}
use lib.ListN.{length, get_or}
use Rattle.anc.specs.Word.{is_sound}
use Rattle.basics.specs.Below.{Bytes}
use Rattle.basics.specs.Each.{all}
use Rattle.basics.proofs.Laws.Test.{never}
use Rattle.rs.specs.Codeword.{Codeword}
use Rattle.rs.specs.Decode.{changes, Within, decode, given, repairable as repairable_bytes, repaired as repaired_bytes}
use Rattle.rs.specs.Marked.{WithinMarked, decode_both, repairable_marked, repaired_marked}
use Rattle.rs.proofs.Laws.Distance.{changes-le-length}
use Rattle.rs.proofs.Laws.Marked.{both-sound, both-complete, both-unmarked}
use Rattle.search.specs.Marked.{confessed, marked_refusal}
use Rattle.search.proofs.Laws.Marked.{marked-decides}
use Rattle.refusal.specs.Chain.{require, passed, left_by}
use Rattle.std.specs.Prelude.{Ok}
use Rattle.refusal.specs.Checked.{Checked, answer_of, checked_of, refusal_in}
use Rattle.refusal.proofs.Laws.Chain.{require-passed, refusal-in-answer}
use Rattle.refusal.specs.Number.{refusal_plain}
use Rattle.refusal.specs.declared.Reason.TheVariants.{BeyondRepair}
use Rattle.refusal.specs.declared.Refusal.{Refusal}
use Rattle.repair.specs.Protected.{repairable, repaired, rewritten, fixed_of, count_refusal, repair_refusal}
use Rattle.anc.specs.Words.{low_bytes, sound_words, narrow}
use Rattle.repair.proofs.Laws.Damage.{none-confess}
use Rattle.repair.specs.Repair.{fixed_in, repaired_of, counted_of, repair_leaves}
use Rattle.anc.proofs.Laws.Words.{low_bytes-length, sound_words-length, low-bytes, sound-at}

-- ---- repaired bytes

-- they have each property that what was delivered has and a codeword of that length has
repaired-has : (P : List ℕ → Type 0) (words : List ℕ) → P (low_bytes words) → ((c : List ℕ) → Codeword c → length c ≡ length (low_bytes words) → P c) → P (repaired words)
unfolding repaired repaired_marked
repaired-has P words p q = go (decode_both (confessed words) (low_bytes words)) refl
  where
    go : (o : Option (List ℕ)) → decode_both (confessed words) (low_bytes words) ≡ o → P (Option.get_or o (low_bytes words))
    go none e = p
    go (some c) e = ⊎_elim (λ W. q c W.word W.long) (λ W. q c W.word W.long) (both-sound (confessed words) (low_bytes words) c e)

pub repaired-length : (words : List ℕ) → length (repaired words) ≡ length words
repaired-length words = repaired-has (λ m. length m ≡ length (low_bytes words)) words refl (λ c C n. n) ∙ low_bytes-length words

pub repaired-bytes : (words : List ℕ) → Bytes (repaired words)
repaired-bytes words = repaired-has Bytes words (low-bytes words) (λ c C n. C.bytes)

-- where words can be repaired they are a codeword that one of the rules allows
pub repaired-allowed : (words : List ℕ) → repairable words ≡ true → WithinMarked (confessed words) (low_bytes words) (repaired words) ⊎ Within (low_bytes words) (repaired words)
unfolding repairable repairable_marked repaired repaired_marked
repaired-allowed words = go (decode_both (confessed words) (low_bytes words)) (both-sound (confessed words) (low_bytes words))
  where
    go : (o : Option (List ℕ)) → ((c : List ℕ) → o ≡ some c → WithinMarked (confessed words) (low_bytes words) c ⊎ Within (low_bytes words) c) → given o ≡ true
        → WithinMarked (confessed words) (low_bytes words) (Option.get_or o (low_bytes words)) ⊎ Within (low_bytes words) (Option.get_or o (low_bytes words))
    go none f y = never (sym y)
    go (some c) f y = f c refl

pub repaired-codeword : (words : List ℕ) → repairable words ≡ true → Codeword (repaired words)
repaired-codeword words y = ⊎_elim (λ W. W.word) (λ W. W.word) (repaired-allowed words y)

-- where every word is sound both rules are one, that of the low bytes alone
module _ (words : List ℕ) (sound : all is_sound words ≡ true) where
  no-marks : decode_both (confessed words) (low_bytes words) ≡ decode (low_bytes words)
  no-marks = both-unmarked (confessed words) (low_bytes words) (none-confess words sound)

  pub unmarked-repairable : repairable words ≡ repairable_bytes (low_bytes words)
  unfolding repairable repairable_marked repairable_bytes
  unmarked-repairable = ap given no-marks

  pub unmarked-repaired : repaired words ≡ repaired_bytes (low_bytes words)
  unfolding repaired repaired_marked repaired_bytes
  unmarked-repaired = ap (λ (o : Option (List ℕ)). Option.get_or o (low_bytes words)) no-marks

-- ---- rewritten words

pub rewritten-length : (words : List ℕ) → length (rewritten words) ≡ length words
unfolding rewritten
rewritten-length words = sound_words-length _ ∙ repaired-length words

-- each is sound
pub rewritten-sound : (words : List ℕ) (i : ℕ) → i < length words → is_sound (get_or (rewritten words) i 0) ≡ true
unfolding rewritten
rewritten-sound words i h = sound-at (repaired words) (repaired-bytes words) i (omega (arith, repaired-length words))

-- of 254 words at most 254 are fixed
pub fixed-le : (words : List ℕ) → length words ≡ 254 → fixed_of words ≤ 254
unfolding fixed_of
fixed-le words n = omega (arith, changes-le-length words (rewritten words))

-- ---- the law of repair

-- what was sent is read from the words, and the words that changed on the way are counted
pub record Recovered (words sent : List ℕ) : Type 0 where
  pub readable : repairable words ≡ true
  pub recovered : rewritten words ≡ sent
  pub counted : fixed_of words ≡ changes words sent

-- 2e + f at most 6 against the codeword that was sent
pub repair-recovers : (c words : List ℕ) → WithinMarked (confessed words) (low_bytes words) c → Recovered words (sound_words c)
unfolding repairable repairable_marked repaired repaired_marked rewritten fixed_of
repair-recovers c words W =
    let e : decode_both (confessed words) (low_bytes words) ≡ some c = both-complete (confessed words) (low_bytes words) c W in
    let sent : rewritten words ≡ sound_words c = ap (λ (o : Option (List ℕ)). sound_words (Option.get_or o (low_bytes words))) e in
    record { readable = ap given e; recovered = sent; counted = ap (changes words) sent }

-- ---- the answer of repair

-- what the search for a codeword says is whether the words can be repaired
pub near-said : (words : List ℕ) {near : Checked} → length words ≡ 254 → near ≡ checked_of (marked_refusal words (low_bytes words))
    → near ≡ checked_of (require (repairable words) (refusal_plain BeyondRepair) passed)
unfolding repairable
near-said words n e = e ∙ ap checked_of (marked-decides words (low_bytes words) n (low_bytes-length words ∙ n))

-- words of ten bits that can be repaired, into room for them, are refused for nothing
pub all_right : (words : List ℕ) (room : ℕ) → length words ≡ 254 → narrow words ≡ true → repairable words ≡ true → room ≡ 254 → repair_refusal words room ≡ none
unfolding repair_refusal
all_right words room n w r m = simp (eq-eqb (length words) 254 n, w, r, eq-eqb room 254 m)

-- the refusal that an answer tells is the one that the rules give
pub refusal-said : (words : List ℕ) (room : ℕ) → refusal_in (repaired_of words room) ≡ repair_refusal words room
unfolding repaired_of
refusal-said words room = refusal-in-answer (repair_refusal words room) (fixed_of words)

pub count-said : (words bytes : List ℕ) → refusal_in (counted_of words bytes) ≡ count_refusal words bytes
unfolding counted_of
count-said words bytes = refusal-in-answer (count_refusal words bytes) (changes words (sound_words bytes))

-- where they give none it tells how many words were fixed
pub fixed-said : (words : List ℕ) (room : ℕ) → repair_refusal words room ≡ none → fixed_in (repaired_of words room) ≡ some (fixed_of words)
unfolding repaired_of
fixed-said words room e = ap (λ (o : Option Refusal). fixed_in (answer_of o (fixed_of words))) e

-- words of ten bits with 2e + f at most 6 against what was sent, into room for them: the answer is how many words differ, and what was sent is left
pub repair-answers : (c words old : List ℕ) → WithinMarked (confessed words) (low_bytes words) c → narrow words ≡ true → length old ≡ 254
    → (repaired_of words (length old) ≡ Ok (changes words (sound_words c))) × (repair_leaves words old ≡ sound_words c)
unfolding repaired_of repair_leaves
repair-answers c words old W w m =
    let R = repair-recovers c words W in
    let o = all_right words (length old) (sym (low_bytes-length words) ∙ sym W.long ∙ W.word.long) w R.readable m in
    rw o (ap Ok R.counted, R.recovered)

-- where nothing is refused, what is left are the words of a codeword that one of the rules allows
pub passed-allowed : (words old : List ℕ) → repair_refusal words (length old) ≡ none
    → (c : List ℕ) × (WithinMarked (confessed words) (low_bytes words) c ⊎ Within (low_bytes words) c) × (repair_leaves words old ≡ sound_words c)
unfolding repair_refusal repair_leaves rewritten
passed-allowed words old e =
    let wide = (require-passed (eqb (length words) 254) _ _ e).1 in
    let beyond = (require-passed (narrow words) _ _ wide).1 in
    let room : repairable words ≡ true = (require-passed (repairable words) _ _ beyond).0 in
    (repaired words, repaired-allowed words room, ap (λ (o : Option Refusal). left_by o (sound_words (repaired words)) old) e)

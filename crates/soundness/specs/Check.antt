-- The word check: which of the two upper bits of a word are not what b0 to b7 call for; and the first word of a run that is not sound.
-- Assumes nothing.
use Rattle.std.specs.Prelude.{◌≡◌, Bool, true, false, cond, List, ℕ, ◌+◌, ◌-◌, ◌<◌, leb, eqb, length, get_or}
use Rattle.std.specs.Prelude.{Result, Ok, Err, Some, None}
use Rattle.std.specs.Prelude.{Option as Given}
use Rattle.std.proofs.Math.Option.{Option, none, some}
use Rattle.refusal.specs.Chain.{require, passed}
use Rattle.refusal.specs.Run.{first_from}
use Rattle.refusal.specs.Number.{refusal_at, refusal_plain}
use Rattle.refusal.specs.declared.Wrong.{Wrong}
use Rattle.refusal.specs.declared.Wrong.TheVariants.{B8, B9, Both}
use Rattle.refusal.specs.declared.Reason.TheVariants.{Wide, Parity, Size}
use Rattle.refusal.specs.declared.Refusal.{Refusal}
use Rattle.anc.specs.Word.{bit, parity_of, is_sound}

-- ---- one word

-- is b8 the even parity of b0 to b7?
unfoldable pub b8_right : ℕ → Bool
b8_right w = eqb (bit 8 w) (parity_of w)

-- is b9 the inverse of that parity, whatever b8 is?
unfoldable pub b9_right : ℕ → Bool
b9_right w = eqb (bit 9 w) (1 - parity_of w)

-- what the word check answers: what is wrong with the word, if anything, or a refusal
abbrev pub Soundness : Type 0
Soundness = Result (Given Wrong) Refusal

-- what is wrong with a word of ten bits, by whether b8 is right and whether b9 is
abbrev pub wrong_by : Bool → Bool → Given Wrong
wrong_by true true = None
wrong_by false true = Some B8
wrong_by true false = Some B9
wrong_by false false = Some Both

-- what the word check answers; a number over 1,023 is refused with 2
unfoldable pub soundness_of : ℕ → Soundness
soundness_of w = cond (leb w 1023) (Ok (wrong_by (b8_right w) (b9_right w))) (Err (refusal_plain Wide))

-- ---- what an answer says, for every case of it; its refusal is `refusal_in`

-- what is wrong with the word
abbrev pub wrong_in : Soundness → Option Wrong
wrong_in (Ok None) = none
wrong_in (Ok (Some wrong)) = some wrong
wrong_in (Err why) = none

-- ---- a run of words

-- what it is refused for at number n, by what the word check answers of it: 7 at its number, which says what is wrong with it; or 2
abbrev pub word_refusal : ℕ → Soundness → Option Refusal
word_refusal n (Ok None) = passed
word_refusal n (Ok (Some wrong)) = some (refusal_at (Parity wrong) n)
word_refusal n (Err why) = some why

-- what word number n is refused for
abbrev pub unsound_at : ℕ → ℕ → Option Refusal
unsound_at n w = word_refusal n (soundness_of w)

-- words that are numbered on from n: the first that is not sound is the refusal
unfoldable pub unsound_from : ℕ → List ℕ → Option Refusal
unsound_from = first_from unsound_at

-- words that are numbered from 1: 21 for more of them than there are places, then that
unfoldable pub words_refusal : List ℕ → Option Refusal
words_refusal words = require (leb (length words) 255) (refusal_plain Size) (unsound_from 1 words)

-- the first word that is not sound, of words that are numbered on from n, is the one at this place, and this is wrong with it
pub record FirstUnsound (n : ℕ) (words : List ℕ) (wrong : Wrong) (place : ℕ) : Type 0 where
  -- how many words stand before it
  pub before : ℕ
  pub number : place ≡ n + before
  pub within : before < length words
  pub here : soundness_of (get_or words before 0) ≡ Ok (Some wrong)
  pub earlier : (i : ℕ) → i < before → is_sound (get_or words i 0) ≡ true

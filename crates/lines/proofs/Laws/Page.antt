-- Text that is written on a page part by part.
-- Assumes nothing.
use mathlib.Core.Path.{◌≡◌, refl, ◌∙◌}
use mathlib.Core.List.{List, [], ◌∷◌, ◌++◌}
use mathlib.Core.Logic.{⊎_elim}
use Prim.Native.Nat.{ℕ, ◌+◌, ◌-◌, ◌/◌, ◌%◌, ◌≤◌, ◌<◌}
use native.Mathlib.Numerals.{add-one}
use native.Mathlib.Omega.{arith}
use borrow.Author.Tests.{lt-ltb, le-ltb}
use lib.ListN.{length, get_or, take, drop, length-drop, length-set, drop_of_length-le}
use lib.Seq.{drop-cons, take_all}
use Rattle.basics.proofs.Laws.Test.{lt-or-le}
use Rattle.lines.specs.Text.{digit, leading, decimal, hex_byte, hex_bytes, places, blank, pushed, written}
use Rattle.lines.specs.declared.page.Page.{Page}

-- one text behind another
pub written-append : (p : Page) (a b : List ℕ) → written p (a ++ b) ≡ written (written p a) b
unfolding written
written-append p [] b = refl
written-append p (c ∷ a) b = written-append (pushed p c) a b

-- what writes a line in parts
pub ruleset parts_written = (written-append)

-- the character at i, and then the rest
pub write_step : (p : Page) (text : List ℕ) (i : ℕ) → i < length text → written p (drop i text) ≡ written (pushed p (get_or text i 0)) (drop (i + 1) text)
unfolding written
write_step p text i h = rw (add-one, drop-cons text i 0 h)

pub write-end : (p : Page) (text : List ℕ) (i : ℕ) → length text ≤ i → written p (drop i text) ≡ p
unfolding written
write-end p text i h = rw (drop_of_length-le text h)

-- a loop over text
pub ruleset text_written = (write_step, write-end)

-- the byte at i, and then the rest
pub hex-step : (p : Page) (l : List ℕ) (i : ℕ) → i < length l
    → written p (hex_bytes (drop i l)) ≡ written (written p (hex_byte (get_or l i 0))) (hex_bytes (drop (i + 1) l))
unfolding hex_bytes
hex-step p l i h = rw (add-one, drop-cons l i 0 h) (written-append p (hex_byte (get_or l i 0)) _)

pub hex-end : (p : Page) (l : List ℕ) (i : ℕ) → length l ≤ i → written p (hex_bytes (drop i l)) ≡ p
unfolding written hex_bytes
hex-end p l i h = rw (drop_of_length-le l h)

-- a loop over bytes
pub ruleset bytes_written = (hex-step, hex-end)

-- five digits, from the first that counts on
pub decimal-part : (n k a b c d e : ℕ) → k ≡ leading n → a ≡ digit (n / 10000 % 10) → b ≡ digit (n / 1000 % 10) → c ≡ digit (n / 100 % 10) → d ≡ digit (n / 10 % 10)
    → e ≡ digit (n % 10) → k ≤ 4 → take (5 - k) (drop k (a ∷ b ∷ c ∷ d ∷ e ∷ [])) ≡ decimal n
unfolding decimal
decimal-part n k a b c d e ek ea eb ec ed ee h =
    let l : List ℕ = a ∷ b ∷ c ∷ d ∷ e ∷ [] in
    take_all (5 - k) (drop k l) (omega (arith, length-drop k l))
    ∙ (λ i. drop (ek i) (ea i ∷ eb i ∷ ec i ∷ ed i ∷ ee i ∷ []))

-- a number by its digits
pub ruleset digits_written = (decimal-part)

-- ---- what is written lies within the places

pub record Sized (p : Page) : Type 0 where
  pub long : length p.bytes ≡ places
  pub within : p.length ≤ places

pub blank-sized : Sized blank
unfolding blank
blank-sized = record { long = refl; within = omega arith }

pub push-sized : (p : Page) (c : ℕ) → Sized p → Sized (pushed p c)
unfolding pushed
push-sized p c s =
    ⊎_elim (λ h. rw (lt-ltb p.length places h) (record { long = length-set p.bytes p.length c ∙ s.long; within = omega arith }))
    (λ h. rw (le-ltb p.length places h) s) (lt-or-le p.length places)

pub written-sized : (p : Page) (text : List ℕ) → Sized p → Sized (written p text)
unfolding written
written-sized p [] s = s
written-sized p (c ∷ text) s = written-sized (pushed p c) text (push-sized p c s)

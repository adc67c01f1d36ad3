-- Text as it is printed: the codes of its characters, a number in decimal, a byte in hexadecimal, and a page that text is written on.
-- Assumes nothing.
use Rattle.std.specs.Prelude.{cond, List, [], ◌∷◌, ◌++◌, ℕ, ◌+◌, ◌/◌, ◌%◌, ltb, drop, set, replicate}
use Rattle.lines.specs.declared.page.Page.{Page}

-- the code of a digit below 16: 0 to 9, then A to F
unfoldable pub digit : ℕ → ℕ
digit d = cond (ltb d 10) (48 + d) (55 + d)

-- how many of five digits stand in front of the first that counts
unfoldable pub leading : ℕ → ℕ
leading n = cond (ltb n 10) 4 (cond (ltb n 100) 3 (cond (ltb n 1000) 2 (cond (ltb n 10000) 1 0)))

-- a number below 100,000
unfoldable pub decimal : ℕ → List ℕ
decimal n = drop (leading n) (digit (n / 10000 % 10) ∷ digit (n / 1000 % 10) ∷ digit (n / 100 % 10) ∷ digit (n / 10 % 10) ∷ digit (n % 10) ∷ [])

-- a byte, with a space in front
unfoldable pub hex_byte : ℕ → List ℕ
hex_byte b = 32 ∷ digit (b / 16 % 16) ∷ digit (b % 16) ∷ []

unfoldable pub hex_bytes : List ℕ → List ℕ
hex_bytes [] = []
hex_bytes (b ∷ bytes) = hex_byte b ++ hex_bytes bytes

-- ---- the page: 704 places, of which the first `length` are written; the lines of a field take 679 at the most

abbrev pub places : ℕ
places = 704

unfoldable pub blank : Page
blank = record { bytes = replicate places 0; length = 0 }

-- one character more, where there is a place for it
unfoldable pub pushed : Page → ℕ → Page
pushed p c = cond (ltb p.length places) (record { bytes = set p.bytes p.length c; length = p.length + 1 }) p

-- text more
unfoldable pub written : Page → List ℕ → Page
written p [] = p
written p (c ∷ text) = written (pushed p c) text

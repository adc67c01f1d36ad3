-- The items of the record as one table, and whose byte each of the 248 is.
-- Assumes nothing.
use Rattle.std.specs.Prelude.{Bool, true, cond, ◌&&◌, List, [], ◌∷◌, ℕ, ◌+◌, ◌-◌, leb, ltb, take, drop}
use Rattle.refusal.specs.declared.Reason.{Reason}
use Rattle.refusal.specs.declared.Reason.TheVariants.{Station, Time, Picture, Sound, Item}
use Rattle.rules.specs.Rules.{station_rule, time_rule, picture_rule, picture_clean, sound_rule}

-- an item: its number, its first byte (counted from 1) and its length; the rule that its bytes keep, what they are refused for, and the
-- bytes with every place that isn't read set to zero
pub record Row : Type 0 where
  pub number : ℕ
  pub first : ℕ
  pub long : ℕ
  pub rule : List ℕ → Bool
  pub reason : Reason
  pub clean : List ℕ → List ℕ

-- an item that has a rule
abbrev pub ruled : ℕ → ℕ → ℕ → Reason → (List ℕ → Bool) → (List ℕ → List ℕ) → Row
ruled n f l why r c = record { number = n; first = f; long = l; rule = r; reason = why; clean = c }

-- an item that may hold anything, all of which is read (so that its reason is never given)
abbrev pub free : ℕ → ℕ → ℕ → Row
free n f l = ruled n f l Item (λ bytes. true) (λ bytes. bytes)

-- the items, in the order of their bytes
unfoldable pub items : List Row
items =
    ruled 1 1 8 Station station_rule (λ bytes. bytes)
    ∷ ruled 2 9 9 Time time_rule (λ bytes. bytes)
    ∷ ruled 3 18 4 Picture picture_rule picture_clean
    ∷ ruled 4 22 4 Picture picture_rule picture_clean
    ∷ free 5 26 1
    ∷ ruled 6 27 1 Sound sound_rule (λ bytes. bytes)
    ∷ ruled 7 28 1 Sound sound_rule (λ bytes. bytes)
    ∷ free 8 29 1
    ∷ free 9 30 4
    ∷ free 10 34 4
    ∷ free 11 38 4
    ∷ free 12 42 2
    ∷ free 13 108 141
    ∷ []

-- the bytes of an item
unfoldable pub part : Row → List ℕ → List ℕ
part i bytes = take i.long (drop (i.first - 1) bytes)

-- ---- whose byte it is

-- is byte number n one of the item's?
abbrev pub has_byte : ℕ → Row → Bool
has_byte n i = leb i.first n && ltb n (i.first + i.long)

-- how many of these items have it
unfoldable pub holders : ℕ → List Row → ℕ
holders n [] = 0
holders n (i ∷ is) = cond (has_byte n i) 1 0 + holders n is

-- is it one of the reserved area, 44 to 107?
abbrev pub reserved_byte : ℕ → Bool
reserved_byte n = leb 44 n && leb n 107

-- The fixed list of refusal numbers, the number of each reason, and what a refusal holds.
-- Assumes nothing.
use Rattle.std.specs.Prelude.{List, [], ◌∷◌, ℕ}
use Rattle.refusal.specs.declared.Wrong.{Wrong}
use Rattle.refusal.specs.declared.Wrong.TheVariants.{B8, B9, Both}
use Rattle.refusal.specs.declared.Reason.{Reason}
use Rattle.refusal.specs.declared.Reason.TheVariants.{Length, Wide, Flag, Kind, Count, Header, Parity, Fill, BeyondRepair, Checksum, Station, Time, Picture, Sound, ReservedArea, Item, Size, NothingToUndo, Room, FieldLength, FieldHead, Index, OffRetired}
use Rattle.refusal.specs.declared.Refusal.{Refusal}

-- the numbers that may be given, in order
unfoldable pub fixed_list : List ℕ
fixed_list = 1 ∷ 2 ∷ 3 ∷ 4 ∷ 5 ∷ 6 ∷ 7 ∷ 8 ∷ 9 ∷ 10 ∷ 11 ∷ 12 ∷ 13 ∷ 14 ∷ 15 ∷ 20 ∷ 21 ∷ 22 ∷ 23 ∷ 25 ∷ 26 ∷ 27 ∷ 41 ∷ []

-- the numbers that were given once and may never be given again: 24 was for sending bytes that break a rule, which no opened desk holds
unfoldable pub retired : List ℕ
retired = 24 ∷ []

-- the number of each reason
unfoldable pub number_of : Reason → ℕ
number_of Length = 1
number_of Wide = 2
number_of Flag = 3
number_of Kind = 4
number_of Count = 5
number_of Header = 6
number_of (Parity wrong) = 7
number_of Fill = 8
number_of BeyondRepair = 9
number_of Checksum = 10
number_of Station = 11
number_of Time = 12
number_of Picture = 13
number_of Sound = 14
number_of ReservedArea = 15
number_of Item = 20
number_of Size = 21
number_of NothingToUndo = 22
number_of Room = 23
number_of FieldLength = 25
number_of FieldHead = 26
number_of Index = 27
number_of OffRetired = 41

-- what is wrong with a word that is not sound, as a number
unfoldable pub bits_of : Wrong → ℕ
bits_of B8 = 1
bits_of B9 = 2
bits_of Both = 3

-- the bits that a reason carries: 0 for every one but PARITY
unfoldable pub bits_in : Reason → ℕ
bits_in Length = 0
bits_in Wide = 0
bits_in Flag = 0
bits_in Kind = 0
bits_in Count = 0
bits_in Header = 0
bits_in (Parity wrong) = bits_of wrong
bits_in Fill = 0
bits_in BeyondRepair = 0
bits_in Checksum = 0
bits_in Station = 0
bits_in Time = 0
bits_in Picture = 0
bits_in Sound = 0
bits_in ReservedArea = 0
bits_in Item = 0
bits_in Size = 0
bits_in NothingToUndo = 0
bits_in Room = 0
bits_in FieldLength = 0
bits_in FieldHead = 0
bits_in Index = 0
bits_in OffRetired = 0

-- a refusal for a reason, at a place
abbrev pub refusal_at : Reason → ℕ → Refusal
refusal_at why spot = record { reason = why; place = spot }

-- a refusal for which the list names no place: its place is 0
abbrev pub refusal_plain : Reason → Refusal
refusal_plain why = refusal_at why 0

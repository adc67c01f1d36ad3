-- A value on both sides of a line: the first bytes of a field.
-- Assumes nothing.
use mathlib.Core.Path.{◌≡◌, refl}
use mathlib.Core.Bool.{false}
use mathlib.Core.List.{List, [], ◌∷◌}
use Prim.Native.Nat.{ℕ}
use lib.ListN.{take}
use Rattle.anc.specs.Word.{word_of, with_b9, bit, ones, parity_of}
use Rattle.writing.specs.Layout.{packet_words, summed_words, kind, header_word}
use Rattle.anc.specs.Words.{flag}
use Rattle.b40.specs.Field.{bits, bits_each, number_of, numbers, field_bits, field_of}

-- correction off and CI 0, Y/C 0, line 9, offset 0: these bytes do not yet hold any of the record, so they are the same for each, the one that a
-- desk opens with among them
pub begins : (record' : List ℕ) → take 8 (field_of false 9 0 (packet_words false 0 record')) ≡ 0x00 ∷ 0x02 ∷ 0x40 ∷ 0x02 ∷ 0x5F ∷ 0x7F ∷ 0xAF ∷ 0xF8 ∷ []
unfolding field_of field_bits bits bits_each number_of numbers bit packet_words summed_words kind flag header_word word_of with_b9 ones parity_of
begins record' = refl

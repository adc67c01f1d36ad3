-- The layout of a packet: 262 words of which 255 are user words, and its checksum.
-- Assumes nothing.
use Rattle.std.specs.Prelude.{Bool, cond, List, [], ◌∷◌, ◌++◌, ℕ, ◌+◌, replicate}
use Rattle.anc.specs.Word.{word_of, checksum_of}
use Rattle.rs.specs.Codeword.{parity_of}
use Rattle.anc.specs.Words.{flag, sound_words}

-- DID, SDID and the count of 255 user words
unfoldable pub kind : List ℕ
kind = 0x25F ∷ 0x1FE ∷ 0x2FF ∷ []

-- the header: b7 correction on, b6 to b4 zero, b3 to b0 the index CI
unfoldable pub header_word : Bool → ℕ → ℕ
header_word correction ci = word_of (cond correction 0x80 0 + ci)

-- the protected words: 248 data bytes, then their parity P5 to P0, or six words 0x200 with correction off
unfoldable pub protected_words : Bool → List ℕ → List ℕ
protected_words correction bytes = sound_words bytes ++ cond correction (sound_words (parity_of bytes)) (replicate 6 0x200)

-- what the checksum is taken over: from DID to the last user word
unfoldable pub summed_words : Bool → ℕ → List ℕ → List ℕ
summed_words correction ci bytes = kind ++ header_word correction ci ∷ protected_words correction bytes

-- the 262 words of a record
unfoldable pub packet_words : Bool → ℕ → List ℕ → List ℕ
packet_words correction ci bytes = flag ++ summed_words correction ci bytes ++ checksum_of (summed_words correction ci bytes) ∷ []

-- the same packet with other words in the protected places
abbrev pub carrying : Bool → ℕ → List ℕ → List ℕ → List ℕ
carrying correction ci bytes guarded =
    0x000 ∷ 0x3FF ∷ 0x3FF ∷ 0x25F ∷ 0x1FE ∷ 0x2FF ∷ header_word correction ci ∷ (guarded ++ checksum_of (summed_words correction ci bytes) ∷ [])

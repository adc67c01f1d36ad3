-- A packet that comes over the line is read as the record that was sent in it.
-- Assumes nothing.
use mathlib.Core.Path.{◌≡◌, ap, ◌∙◌, subst}
use mathlib.Core.Bool.{true}
use mathlib.Core.List.{List, ◌∷◌, ◌++◌}
use mathlib.Core.Option.{none}
use Prim.Native.Nat.{ℕ, ◌≤◌}
use lib.ListN.{length, take, drop}
use lib.Seq.{take_at, drop_at}
use Rattle.basics.specs.Below.{Bytes}
use Rattle.basics.specs.Each.{all}
use Rattle.record.proofs.Laws.Stored.{CleanRecord}
use Rattle.anc.specs.Word.{is_sound}
use Rattle.anc.specs.Words.{narrow}
use Rattle.writing.specs.Layout.{header_word, protected_words, packet_words, carrying}
use Rattle.repair.specs.Reach.{damage}
use Rattle.reading.specs.Reading.{protected_of, index_of, read_refusal, read_record}
use Rattle.writing.proofs.Laws.Layout.{packet-carries, length-protected, protected-narrow}
use Rattle.reading.proofs.Laws.RoundTrip.{damaged-reads, protected-sound}
use Rattle.promises.specs.Line.{Delivers}

-- it is accepted, with its index and its record
pub record Arrives (arrived : List ℕ) (ci : ℕ) (r : List ℕ) : Type 0 where
  pub accepted : read_refusal arrived ≡ none
  pub index : index_of arrived ≡ ci
  pub bytes : read_record arrived ≡ r

module _ (ci : ℕ) (r : List ℕ) (hc : ci ≤ 15) (c : CleanRecord r) (b : Bytes r) where
  abbrev sent : List ℕ
  sent = packet_words true ci r

  abbrev guarded : List ℕ
  guarded = protected_words true r

  guarded-length : length guarded ≡ 254
  guarded-length = length-protected true r c.long

  pub sent-protected : protected_of sent ≡ guarded
  unfolding protected_of
  sent-protected = ap protected_of (packet-carries true ci r) ∙ take_at guarded _ 254 guarded-length

  -- with other words in the protected places
  sent-carries : (q : List ℕ) → take 7 sent ++ q ++ drop 261 sent ≡ carrying true ci r q
  sent-carries q =
      ap (λ (l : List ℕ). take 7 l ++ q ++ drop 261 l) (packet-carries true ci r)
      ∙ ap (λ (l : List ℕ). 0x000 ∷ 0x3FF ∷ 0x3FF ∷ 0x25F ∷ 0x1FE ∷ 0x2FF ∷ header_word true ci ∷ (q ++ l)) (drop_at guarded _ 254 guarded-length)

  -- the protected words are 254, of ten bits each, and sound
  pub sent-long : length (protected_of sent) ≡ 254
  sent-long = ap length sent-protected ∙ guarded-length

  pub sent-narrow : narrow (protected_of sent) ≡ true
  sent-narrow = ap narrow sent-protected ∙ protected-narrow true r b

  pub sent-sound : all is_sound (protected_of sent) ≡ true
  sent-sound = ap (all is_sound) sent-protected ∙ protected-sound r c.long b

  pub arrives : (arrived : List ℕ) → Delivers sent arrived → Arrives arrived ci r
  arrives arrived D =
      let q : List ℕ = D.protected in
      let few : damage q guarded ≤ 6 = subst (λ (l : List ℕ). damage q l ≤ 6) sent-protected D.few in
      let R = damaged-reads ci r q hc c.long b D.long D.ten_bits few c.rules in
      let e : arrived ≡ carrying true ci r q = D.rest ∙ sent-carries q in
      record {
        accepted = ap read_refusal e ∙ R.accepted;
        index = ap index_of e ∙ R.index;
        bytes = ap read_record e ∙ R.rec ∙ c.own;
      }

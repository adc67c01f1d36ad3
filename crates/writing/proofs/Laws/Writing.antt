-- How a packet is written: words stored one by one, parts laid over a buffer, the checksum stored last; and what the calls answer by what their
-- checks said.
-- Assumes nothing.
use mathlib.Core.Path.{◌≡◌, refl, sym, ap, ap₂, ◌∙◌}
use mathlib.Core.Bool.{Bool, cond}
use mathlib.Core.List.{List, [], ◌∷◌, ◌++◌, append_assoc}
use mathlib.Core.Logic.Iff
use mathlib.Core.Logic.{◌↔◌}
use mathlib.Core.Option.{Option, none, some}
use Prim.Native.Nat.{ℕ, ◌≤◌}
use native.Mathlib.Omega.{arith}
use borrow.Author.Tests.{eq-eqb, eqb-true, le-leb, leb-true}
use borrow.Rule.Slice.PartMut.{put_mid}
use lib.Dec.{eqb, leb}
use lib.ListN.{length, get_or, set, take, drop, replicate, length-append}
use lib.Seq.{set_at, take_at, drop_at, drop-drop}
use Rattle.anc.specs.Word.{checksum_of}
use Rattle.refusal.specs.Number.{number_of, refusal_at}
use Rattle.refusal.specs.declared.Reason.TheVariants.{ReservedArea}
use Rattle.refusal.specs.declared.Refusal.{Refusal}
use Rattle.rs.specs.Codeword.{parity_of}
use Rattle.std.specs.Prelude.{Ok}
use Rattle.refusal.specs.Checked.{refusal_in}
use Rattle.record.specs.Reserved.{FirstUsed}
use Rattle.record.specs.Record.{content_refusal, record_of}
use Rattle.record.specs.Written.{written}
use Rattle.record.proofs.Laws.Reserved.{content-first}
use Rattle.record.proofs.Laws.Record.{record-length, record-fits}
use Rattle.refusal.proofs.Laws.Chain.{require-passed, next-passed, next-gives, next-behind, without, never-gives, refusal-in}
use Rattle.basics.proofs.Laws.Parts.{over, last_one}
use Rattle.anc.specs.Words.{sound_words, flag}
use Rattle.writing.specs.Layout.{kind, header_word, protected_words, summed_words, packet_words}
use Rattle.refusal.specs.Chain.{left_by}
use Rattle.writing.specs.Writing.{given_refusal, room_refusal, write_refusal, layout_refusal, written_words}
use Rattle.writing.specs.Written.{written_of, write_leaves, layout_of, layout_leaves}
use Rattle.anc.proofs.Laws.Words.{sound_words-length}
use Rattle.writing.proofs.Laws.Layout.{length-protected}

-- ---- parts laid over a buffer

-- three parts, one behind the other
abbrev pub laid : List ℕ → List ℕ → List ℕ → List ℕ → List ℕ
laid old h d t = put_mid 255 6 (put_mid 7 248 (h ++ drop 7 old) d) t

module _ (old a b d t : List ℕ) (n : length old ≡ 262) (la : length a ≡ 3) (lb : length b ≡ 4) (ld : length d ≡ 248) (lq : length (d ++ t) ≡ 254) where
  abbrev z : ℕ
  z = get_or old 261 0

  lh : length (a ++ b) ≡ 7
  lh = length-append a b ∙ omega arith

  lhd : length ((a ++ b) ++ d) ≡ 255
  lhd = length-append (a ++ b) d ∙ omega (arith, lh)

  laid_runs : laid old (a ++ b) d t ≡ (a ++ b) ++ ((d ++ t) ++ z ∷ [])
  laid_runs =
      let one : put_mid 7 248 ((a ++ b) ++ drop 7 old) d ≡ ((a ++ b) ++ d) ++ drop 255 old =
      over (a ++ b) (drop 7 old) d 7 248 lh ∙ rw (drop-drop 248 7 old) (sym (append_assoc (a ++ b) d _)) in
      let rest : drop 6 (drop 255 old) ≡ z ∷ [] = drop-drop 6 255 old ∙ last_one old 261 n in
      rw one (over ((a ++ b) ++ d) (drop 255 old) t 255 6 lhd ∙ rw rest (append_assoc (a ++ b) d _ ∙ ap (λ (r : List ℕ). (a ++ b) ++ r) (sym (append_assoc d t _))))

  -- the words that the checksum is taken over
  pub laid-summed : take 258 (drop 3 (laid old (a ++ b) d t)) ≡ b ++ (d ++ t)
  laid-summed =
      let l : length (b ++ (d ++ t)) ≡ 258 = length-append b (d ++ t) ∙ omega (arith, lq) in
      ap (λ (r : List ℕ). take 258 (drop 3 r)) (laid_runs ∙ append_assoc a b _)
      ∙ ap (take 258) (drop_at a _ 3 la ∙ sym (append_assoc b (d ++ t) _))
      ∙ take_at (b ++ (d ++ t)) _ 258 l

  -- the last word stored
  pub laid-stored : (v : ℕ) → set (laid old (a ++ b) d t) 261 v ≡ (a ++ b) ++ ((d ++ t) ++ v ∷ [])
  laid-stored v =
      let l : length ((a ++ b) ++ (d ++ t)) ≡ 261 = length-append (a ++ b) (d ++ t) ∙ omega (arith, lh, lq) in
      ap (λ (r : List ℕ). set r 261 v) (laid_runs ∙ sym (append_assoc (a ++ b) (d ++ t) _))
      ∙ set_at ((a ++ b) ++ (d ++ t)) z [] v 261 l ∙ append_assoc (a ++ b) (d ++ t) _

-- the packet of 248 bytes
pub packet-filled : (on : Bool) (ci : ℕ) (r old h d t : List ℕ) (sum : ℕ) → length r ≡ 248 → length old ≡ 262
    → h ≡ flag ++ kind ++ header_word on ci ∷ [] → d ≡ sound_words r → t ≡ cond on (sound_words (parity_of r)) (replicate 6 0x200)
    → sum ≡ checksum_of (take 258 (drop 3 (laid old h d t))) → set (laid old h d t) 261 sum ≡ packet_words on ci r
unfolding packet_words summed_words protected_words flag kind
packet-filled on ci r old h d t sum nr n eh ed et es =
    let b : List ℕ = kind ++ header_word on ci ∷ [] in
    let h' : h ≡ flag ++ b = eh in
    let ld : length d ≡ 248 = ap length ed ∙ sound_words-length r ∙ nr in
    let q : d ++ t ≡ protected_words on r = ap₂ (λ (x y : List ℕ). x ++ y) ed et in
    let lq : length (d ++ t) ≡ 254 = ap length q ∙ length-protected on r nr in
    let s : sum ≡ checksum_of (b ++ protected_words on r) =
    es ∙ ap (λ (x : List ℕ). checksum_of (take 258 (drop 3 (laid old x d t)))) h' ∙ ap checksum_of (laid-summed old flag b d t n refl refl ld lq ∙ ap (λ (x : List ℕ). b ++ x) q) in
    ap (λ (x : List ℕ). set (laid old x d t) 261 sum) h'
    ∙ laid-stored old flag b d t n refl refl ld lq sum
    ∙ ap₂ (λ (x : List ℕ) (v : ℕ). (flag ++ b) ++ (x ++ v ∷ [])) q s

-- ---- what is given

-- nothing of it is refused exactly where there are 248 bytes and the index is up to 15
pub given-passed : (ci : ℕ) (bytes : List ℕ) → given_refusal ci bytes ≡ none → (length bytes ≡ 248) × (ci ≤ 15)
unfolding given_refusal
given-passed ci bytes e =
    let a = require-passed (eqb (length bytes) 248) _ _ e in
    let b = require-passed (leb ci 15) _ _ a.1 in
    (eqb-true (length bytes) 248 a.0, leb-true ci 15 b.0)

pub given-passes : (ci : ℕ) (bytes : List ℕ) → length bytes ≡ 248 → ci ≤ 15 → given_refusal ci bytes ≡ none
unfolding given_refusal
given-passes ci bytes n i = simp (eq-eqb (length bytes) 248 n, le-leb ci 15 i)

-- ---- the bytes as they stand

-- where nothing that is given is refused, only the room decides
pub layout-by-room : (ci : ℕ) (bytes : List ℕ) → length bytes ≡ 248 → ci ≤ 15 → (room : ℕ)
    → layout_refusal ci bytes room ≡ room_refusal room
unfolding layout_refusal
layout-by-room ci bytes n i room = rw (given-passes ci bytes n i)

-- what is not refused: 248 bytes, an index up to 15 and room for a packet
pub record Laid (ci : ℕ) (bytes : List ℕ) (room : ℕ) : Type 0 where
  pub long : length bytes ≡ 248
  pub index : ci ≤ 15
  pub roomy : room ≡ 262

pub layout-passed : (ci : ℕ) (bytes : List ℕ) (room : ℕ) → layout_refusal ci bytes room ≡ none → Laid ci bytes room
unfolding layout_refusal
layout-passed ci bytes room e =
    let a = next-passed (given_refusal ci bytes) _ e in
    let g = given-passed ci bytes a.0 in
    record { long = g.0; index = g.1; roomy = eqb-true room 262 (require-passed (eqb room 262) _ _ a.1).0 }

-- ---- their record

-- where nothing is refused in them, their packet is that of their record as it stands
pub write-layout : (ci : ℕ) (bytes : List ℕ) → length bytes ≡ 248 → ci ≤ 15 → content_refusal bytes ≡ none → (room : ℕ)
    → write_refusal ci bytes room ≡ layout_refusal ci (record_of bytes) room
unfolding write_refusal
write-layout ci bytes n i k room = rw (given-passes ci bytes n i, k) (sym (layout-by-room ci (record_of bytes) (record-length bytes n) i room))

-- so that the answer and what is left are those of the packet of what was written into 248 places
pub written-as-layout : (on : Bool) (ci : ℕ) (bytes old : List ℕ) → length bytes ≡ 248 → ci ≤ 15 → content_refusal bytes ≡ none → (place rec : List ℕ) → length place ≡ 248
    → rec ≡ written bytes place → (layout_of ci rec (length old) ≡ written_of ci bytes (length old)) × (layout_leaves on ci rec old ≡ write_leaves on ci bytes old)
unfolding written_words written layout_of layout_leaves written_of write_leaves
written-as-layout on ci bytes old n i k place rec p w =
    let r : rec ≡ record_of bytes = w ∙ rw (record-fits bytes place n p) in
    rw r (rw (write-layout ci bytes n i k (length old)) (refl, refl))

-- the refusal that an answer gives is the one that the rules give
pub refusal-said : (ci : ℕ) (bytes : List ℕ) (room : ℕ) → refusal_in (written_of ci bytes room) ≡ write_refusal ci bytes room
unfolding written_of
refusal-said ci bytes room = refusal-in (write_refusal ci bytes room)

pub layout-said : (ci : ℕ) (bytes : List ℕ) (room : ℕ) → refusal_in (layout_of ci bytes room) ≡ layout_refusal ci bytes room
unfolding layout_of
layout-said ci bytes room = refusal-in (layout_refusal ci bytes room)

-- ---- what a caller learns

-- what is not refused: 248 bytes with nothing in them that is, an index up to 15 and room for a packet; their words are left
pub record Wrote (on : Bool) (ci : ℕ) (bytes old : List ℕ) : Type 0 where
  pub long : length bytes ≡ 248
  pub index : ci ≤ 15
  pub rules : content_refusal bytes ≡ none
  pub room : length old ≡ 262
  pub left : write_leaves on ci bytes old ≡ written_words on ci bytes

pub done-wrote : (on : Bool) (ci : ℕ) (bytes old : List ℕ) → written_of ci bytes (length old) ≡ Ok tt → Wrote on ci bytes old
unfolding write_refusal write_leaves
done-wrote on ci bytes old e =
    let passed : write_refusal ci bytes (length old) ≡ none = sym (refusal-said ci bytes (length old)) ∙ ap refusal_in e in
    let a = next-passed (given_refusal ci bytes) _ passed in
    let g = given-passed ci bytes a.0 in
    let c = next-passed (content_refusal bytes) _ a.1 in
    record {
      long = g.0;
      index = g.1;
      rules = c.0;
      room = eqb-true _ _ (require-passed (eqb (length old) 262) _ _ c.1).0;
      left = ap (λ (o : Option Refusal). left_by o (written_words on ci bytes) old) passed;
    }

-- and such bytes are not refused
pub wrote-done : (ci : ℕ) (bytes : List ℕ) → length bytes ≡ 248 → ci ≤ 15 → content_refusal bytes ≡ none → written_of ci bytes 262 ≡ Ok tt
unfolding written_of
wrote-done ci bytes n i b = rw (write-layout ci bytes n i b 262, layout-by-room ci (record_of bytes) (record-length bytes n) i 262)

-- 15 is given exactly where the number of bytes and the index are right and a byte of the reserved area is not zero, at the first such byte
pub write-used : (ci : ℕ) (bytes : List ℕ) (room place : ℕ)
    → (write_refusal ci bytes room ≡ some (refusal_at ReservedArea place)) ↔ (((length bytes ≡ 248) × (ci ≤ 15)) × FirstUsed bytes place)
unfolding write_refusal given_refusal number_of
write-used ci bytes room place =
    let fifteen : Refusal = refusal_at ReservedArea place in
    Iff.trans (next-behind (given_refusal ci bytes) _ fifteen (never-gives fifteen (search without)))
    (Iff.and (given-passed ci bytes, λ (n, i). given-passes ci bytes n i)
    (Iff.trans (next-gives (content_refusal bytes) _ fifteen (never-gives fifteen (search without))) (content-first bytes place)))

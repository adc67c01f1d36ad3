-- Every refusal that the definitions give has its right place: how a chain of checks keeps that, the rules of the items, and what each call is
-- refused for.
-- Assumes nothing.
use mathlib.Core.Path.{◌≡◌, refl, sym, ap, ◌∙◌}
use mathlib.Core.Bool.{Bool, true, false, not, cond, ◌||◌, false≢true}
use mathlib.Core.List.{List, [], ◌∷◌, Memᴰ}
use mathlib.Core.Logic.{◌⊎◌, inl, inr, ⊎_elim}
use mathlib.Core.Option.{Option, none, some, some-ne-none}
use Prim.Native.Nat.{ℕ, suc, ◌+◌, ◌≤◌}
use native.Mathlib.Omega.{arith}
use borrow.Author.Tests.{eqb-true, leb-true, not-true}
use lib.Dec.{leb, eqb}
use lib.ListN.{length, take, drop}
use Rattle.basics.proofs.Laws.Parts.{take-most}
use Rattle.refusal.specs.Chain.{require, passed, next}
use Rattle.std.specs.Prelude.{Ok, Err, Some, None}
use Rattle.refusal.specs.Checked.{refusal_in}
use Rattle.refusal.specs.Run.{first_from}
use Rattle.refusal.specs.Number.{number_of, refusal_at, refusal_plain}
use Rattle.refusal.specs.declared.Reason.{Reason}
use Rattle.refusal.specs.declared.Reason.TheVariants.{Wide, Parity, ReservedArea, Size}
use Rattle.refusal.specs.declared.Refusal.{Refusal}
use Rattle.refusal.proofs.Laws.Chain.{passed-other}
use Rattle.anc.specs.Words.{fill_refusal}
use Rattle.soundness.specs.Check.{Soundness, soundness_of, word_refusal, unsound_from, words_refusal}
use Rattle.soundness.proofs.Laws.Check.{refused-wide}
use Rattle.rs.specs.Codeword.{block_refusal}
use Rattle.rs.specs.Decode.{decode_refusal}
use Rattle.search.specs.Marked.{marked_refusal}
use Rattle.items.specs.Items.{Row, items, part}
use Rattle.items.specs.Item.{row_of, refused_in, item_refusal, place_refused_in, place_refusal}
use Rattle.record.specs.Reserved.{reserved_area, used_at, reserved_refusal}
use Rattle.record.specs.Record.{broken, content_refusal, record_refusal}
use Rattle.record.specs.Written.{written_refusal}
use Rattle.record.specs.Stored.{put_refused_in, put_refusal, store_refusal}
use Rattle.repair.specs.Protected.{count_refusal, repair_refusal}
use Rattle.writing.specs.Writing.{given_refusal, write_refusal, layout_refusal}
use Rattle.reading.specs.Reading.{data_words, head_refusal, protected_refusal, body_refusal, read_refusal, read_into_refusal}
use Rattle.steps.specs.declared.Step.{Step}
use Rattle.steps.specs.Steps.{step_refusal, old_of, back_refusal}
use Rattle.desk.specs.declared.Desk.{Desk}
use Rattle.desk.specs.Desk.{open_refusal, undo_refusal, send_refusal}
use Rattle.follower.specs.Follower.{shown_refusal}
use Rattle.b40.specs.Packing.{pack_refusal}
use Rattle.b40.specs.Unpacking.{unpack_refusal}
use Rattle.promises.specs.Places.{is_rule, is_word, is_reserved, RightPlace, RightIn}

-- ---- chains of checks

passed-right : {last : ℕ} → RightIn last passed
passed-right = record { right = λ why e. absurd (passed-other why e) }

refused-right : {last : ℕ} (why : Refusal) → RightPlace last (number_of why.reason) why.place → RightIn last (some why)
refused-right why p = record { right = λ w e. let same : w ≡ why = cc in rw same p }

-- a check whose refusal, where it is given, has its right place
require-right : {last : ℕ} {rest : Option Refusal} (t : Bool) (why : Refusal) → (t ≡ false → RightPlace last (number_of why.reason) why.place)
    → RightIn last rest → RightIn last (require t why rest)
require-right true why p q = q
require-right false why p q = refused-right why (p refl)

-- two chains, one behind the other
next-right : {last : ℕ} {rest : Option Refusal} (first : Option Refusal) → RightIn last first → RightIn last rest → RightIn last (next first rest)
next-right none p q = q
next-right (some why) p q = p

-- place 0 is right for a reason that is no item's rule, no data word's and not that of the reserved area
abbrev is_plain : Reason → Bool
is_plain why = not (is_rule (number_of why) || (is_word (number_of why) || is_reserved (number_of why)))

-- of two tests neither passes
neither : (a b : Bool) → not (a || b) ≡ true → (a ≡ false) × (not b ≡ true)
neither true b e = absurd (false≢true e)
neither false b e = (refl, e)

plain-right : {last : ℕ} (why : Reason) → is_plain why ≡ true → RightPlace last (number_of why) 0
plain-right why e =
    let rule = neither (is_rule (number_of why)) _ e in
    let word = neither (is_word (number_of why)) (is_reserved (number_of why)) rule.1 in
    record {
      of_item = λ t. absurd (false≢true (sym rule.0 ∙ t));
      of_word = λ t. absurd (false≢true (sym word.0 ∙ t));
      of_area = λ t. absurd (false≢true (sym (not-true (is_reserved (number_of why)) word.1) ∙ t));
      else_zero = λ f. refl;
    }

refused-plain : {last : ℕ} (why : Reason) → is_plain why ≡ true → RightIn last (some (refusal_plain why))
refused-plain why e = refused-right (refusal_plain why) (plain-right why e)

require-plain : {last : ℕ} {rest : Option Refusal} (t : Bool) (why : Reason) → is_plain why ≡ true → RightIn last rest
    → RightIn last (require t (refusal_plain why) rest)
require-plain t why e q = require-right t (refusal_plain why) (λ f. plain-right why e) q

-- a chain is worked through by these, check by check
ruleset checks = (passed-right, refused-plain, require-plain, next-right)

-- ---- the rules of the items

-- an item is refused with 11 to 14, or may hold anything
abbrev Ruled : Row → Type 0
Ruled i = (is_rule (number_of i.reason) ≡ true) ⊎ ((bytes : List ℕ) → i.rule bytes ≡ true)

-- so is each of a list
abbrev AllRuled : List Row → Type 0
AllRuled [] = Unit {0}
AllRuled (i ∷ is) = Ruled i × AllRuled is

-- so is each of the table
items-ruled : AllRuled items
unfolding items number_of
items-ruled = search (inl, inr) depth 30

ruled-at : {i : Row} {is : List Row} → Memᴰ i is → AllRuled is → Ruled i
ruled-at (Memᴰ.head e) (r, more) = rw e r
ruled-at (Memᴰ.tail m) (r, more) = ruled-at m more

-- which is no other number: not 7, not 15
rule-other : (n m : ℕ) → is_rule m ≡ false → is_rule n ≡ true → eqb n m ≡ true → ⊥
rule-other n m f e w = false≢true (sym f ∙ ap is_rule (sym (eqb-true n m w)) ∙ e)

-- where an item's rule is broken, the place is the item's first byte
rule-right : {last : ℕ} (i : Row) → Memᴰ i items → (bytes : List ℕ) → i.rule bytes ≡ false → RightPlace last (number_of i.reason) i.first
rule-right i m bytes f =
    ⊎_elim
    (λ e. record {
      of_item = λ t. record { row = i; listed = m; reason = refl; first = refl };
      of_word = λ w. absurd (rule-other (number_of i.reason) 7 refl e w);
      of_area = λ w. absurd (rule-other (number_of i.reason) 15 refl e w);
      else_zero = λ n. absurd (false≢true (sym n ∙ ap (λ (b : Bool). b || (is_word (number_of i.reason) || is_reserved (number_of i.reason))) e));
    })
    (λ e. absurd (false≢true (sym f ∙ e bytes)))
    (ruled-at m items-ruled)

-- the first rule that is broken, of some rows of the table
rows_right : {last : ℕ} (is : List Row) (bytes : List ℕ) → ((i : Row) → Memᴰ i is → Memᴰ i items) → RightIn last (broken is bytes)
unfolding broken
rows_right [] bytes m = passed-right
rows_right {last = last} (i ∷ is) bytes m =
    let broken-here = rule-right {last = last} i (m i (Memᴰ.head refl)) (part i bytes) in
    let later = rows_right {last = last} is bytes (λ j l. m j (Memᴰ.tail l)) in
    search (require-right, broken-here, later)

broken-right : {last : ℕ} (bytes : List ℕ) → RightIn last (broken items bytes)
broken-right bytes = rows_right items bytes (λ i m. m)

-- the row that has a number is a row of the table
row_listed : (n : ℕ) (is : List Row) (i : Row) → row_of n is ≡ some i → Memᴰ i is
unfolding row_of
row_listed n [] i e = absurd (some-ne-none i (sym e))
row_listed n (j ∷ is) i e = by (eqb n j.number) (row_listed n is i) e
  where
    by : (t : Bool) → (row_of n is ≡ some i → Memᴰ i is) → cond t (some j) (row_of n is) ≡ some i → Memᴰ i (j ∷ is)
    by true later e = let same : i ≡ j = cc in Memᴰ.head same
    by false later e = Memᴰ.tail (later e)

-- the checks of an item's bytes, by its row
row-right : {last : ℕ} (bytes : List ℕ) (o : Option Row) → ((i : Row) → o ≡ some i → Memᴰ i items) → RightIn last (refused_in bytes o)
unfolding refused_in number_of
row-right bytes none m = search checks
row-right {last = last} bytes (some i) m = search (checks, require-right, rule-right {last = last} i (m i refl) bytes)

pub item-right : {last : ℕ} (n : ℕ) (bytes : List ℕ) → RightIn last (item_refusal n bytes)
unfolding item_refusal
item-right n bytes = row-right bytes (row_of n items) (row_listed n items)

-- ---- a run of entries

-- each of those with a number from `from` to `to` has its right place
first-right : {last : ℕ} (from to : ℕ) (refuses : ℕ → ℕ → Option Refusal) → ((n x : ℕ) → from ≤ n → n ≤ to → RightIn last (refuses n x))
    → (n : ℕ) (l : List ℕ) → from ≤ n → n + length l ≤ suc to → RightIn last (first_from refuses n l)
unfolding first_from
first-right from to refuses right n [] h k = passed-right
first-right from to refuses right n (x ∷ l) h k =
    next-right _ (right n x h (omega arith)) (first-right from to refuses right (suc n) l (omega arith) (omega arith))

-- ---- the reserved area, and what is in 248 bytes

used-right : {last : ℕ} (n b : ℕ) → 44 ≤ n → n ≤ 107 → RightIn last (used_at n b)
unfolding number_of
used-right n b h k =
    require-right (eqb b 0) (refusal_at ReservedArea n)
    (λ f. record {
      of_item = λ t. absurd (false≢true t);
      of_word = λ t. absurd (false≢true t);
      of_area = λ t. (h, k);
      else_zero = λ z. absurd (false≢true (sym z));
    }) passed-right

content-right : {last : ℕ} (bytes : List ℕ) → RightIn last (content_refusal bytes)
unfolding content_refusal reserved_refusal reserved_area
content-right bytes =
    next-right _ (first-right 44 107 used_at used-right 44 (take 64 (drop 43 bytes)) (omega arith) (omega (arith, take-most 64 (drop 43 bytes)))) (broken-right bytes)

-- ---- a run of words

-- numbered on from n, up to the last
module _ (last : ℕ) where
  word-right : (n w : ℕ) (a : Soundness) → soundness_of w ≡ a → 1 ≤ n → n ≤ last → RightIn last (word_refusal n a)
  unfolding number_of
  word-right n w (Ok None) e h k = passed-right
  word-right n w (Ok (Some wrong)) e h k =
      refused-right (refusal_at (Parity wrong) n)
      (record {
        of_item = λ t. absurd (false≢true t);
        of_word = λ t. (h, k);
        of_area = λ t. absurd (false≢true t);
        else_zero = λ f. absurd (false≢true (sym f));
      })
  word-right n w (Err why) e h k = rw (refused-wide w why e) (refused-plain Wide refl)

  unsound-right : (n : ℕ) (words : List ℕ) → 1 ≤ n → n + length words ≤ suc last → RightIn last (unsound_from n words)
  unfolding unsound_from
  unsound-right n words h k = first-right 1 last _ (λ m w a b. word-right m w (soundness_of w) refl a b) n words h k

pub check-right : (w : ℕ) → RightIn 0 (refusal_in (soundness_of w))
check-right w = by (soundness_of w) refl
  where
    by : (a : Soundness) → soundness_of w ≡ a → RightIn 0 (refusal_in a)
    by (Ok wrong) e = passed-right
    by (Err why) e = rw (refused-wide w why e) (unfold number_of in refused-plain Wide refl)

pub words_right : (words : List ℕ) → RightIn 255 (words_refusal words)
unfolding words_refusal number_of
words_right words = by (leb (length words) 255) refl
  where
    by : (t : Bool) → leb (length words) 255 ≡ t → RightIn 255 (require t (refusal_plain Size) (unsound_from 1 words))
    by true e = unsound-right 255 1 words (omega arith) (omega (arith, leb-true (length words) 255 e))
    by false e = refused-plain Size refl

-- ---- what each call is refused for

pub fill-right : (new : List ℕ) (room : ℕ) → RightIn 0 (fill_refusal new room)
unfolding fill_refusal number_of
fill-right new room = search checks

pub block-right : (block : List ℕ) → RightIn 0 (block_refusal block)
unfolding block_refusal number_of
block-right block = search checks

pub decode-right : (block : List ℕ) → RightIn 0 (decode_refusal block)
unfolding decode_refusal number_of
decode-right block = search (checks, block-right)

pub marked-right : (words block : List ℕ) → RightIn 0 (marked_refusal words block)
unfolding marked_refusal number_of
marked-right words block = search (checks, block-right)

pub place-right : (n : ℕ) → RightIn 0 (place_refusal n)
unfolding place_refusal place_refused_in number_of
place-right n = by (row_of n items)
  where
    by : (o : Option Row) → RightIn 0 (place_refused_in o)
    by none = search checks
    by (some i) = search checks

pub record-right : (bytes : List ℕ) → RightIn 0 (record_refusal bytes)
unfolding record_refusal number_of
record-right bytes = search (checks, content-right)

pub written-right : (bytes : List ℕ) (room : ℕ) → RightIn 0 (written_refusal bytes room)
unfolding written_refusal number_of
written-right bytes room = search checks

pub put_right : (n : ℕ) (bytes : List ℕ) (room : ℕ) → RightIn 0 (put_refusal n bytes room)
unfolding put_refusal put_refused_in number_of
put_right n bytes room = by (row_of n items)
  where
    by : (o : Option Row) → RightIn 0 (put_refused_in bytes room o)
    by none = search checks
    by (some i) = search checks

pub store-right : (n : ℕ) (bytes : List ℕ) (room : ℕ) → RightIn 0 (store_refusal n bytes room)
unfolding store_refusal number_of
store-right n bytes room = search (checks, item-right)

pub repair-right : (words : List ℕ) (room : ℕ) → RightIn 0 (repair_refusal words room)
unfolding repair_refusal number_of
repair-right words room = search checks depth 8

pub count-right : (words bytes : List ℕ) → RightIn 0 (count_refusal words bytes)
unfolding count_refusal number_of
count-right words bytes = search checks

pub write-right : (ci : ℕ) (bytes : List ℕ) (room : ℕ) → RightIn 0 (write_refusal ci bytes room)
unfolding given_refusal write_refusal number_of
write-right ci bytes room = search (checks, content-right) depth 8

pub layout-right : (ci : ℕ) (bytes : List ℕ) (room : ℕ) → RightIn 0 (layout_refusal ci bytes room)
unfolding given_refusal layout_refusal number_of
layout-right ci bytes room = search checks

head-right : {last : ℕ} (words : List ℕ) → RightIn last (head_refusal words)
unfolding head_refusal number_of
head-right words = search checks depth 8

protected-right : (on : Bool) (guarded : List ℕ) → RightIn 248 (protected_refusal on guarded)
unfolding protected_refusal number_of
protected-right true guarded = search checks
protected-right false guarded =
    next-right _ (unsound-right 248 1 (data_words guarded) (omega arith) (omega (arith, take-most 248 guarded))) (search checks)

body-right : (words : List ℕ) → RightIn 248 (body_refusal words)
unfolding body_refusal number_of
body-right words = search (checks, protected-right, content-right)

pub read_right : (words : List ℕ) → RightIn 248 (read_refusal words)
unfolding read_refusal
read_right words = search (checks, head-right, body-right)

pub into-right : (words : List ℕ) (room : ℕ) → RightIn 248 (read_into_refusal words room)
unfolding read_into_refusal number_of
into-right words room = search (checks, read_right)

pub step_right : (item : ℕ) (bytes : List ℕ) → RightIn 0 (step_refusal item bytes)
unfolding step_refusal number_of
step_right item bytes = search (checks, place-right)

pub back-right : (s : Step) (room : ℕ) → RightIn 0 (back_refusal s room)
unfolding back_refusal
back-right s room = put_right s.item (old_of s) room

pub open-right : (on : Bool) → RightIn 0 (open_refusal on)
unfolding open_refusal number_of
open-right on = search checks

pub undo-right : (d : Desk) → RightIn 0 (undo_refusal d)
unfolding undo_refusal number_of
undo-right d = search checks

pub send-right : (room : ℕ) → RightIn 0 (send_refusal room)
unfolding send_refusal number_of
send-right room = search checks

pub shown-right : (room : ℕ) → RightIn 0 (shown_refusal room)
unfolding shown_refusal number_of
shown-right room = search checks

pub pack-right : (line offset : ℕ) (words : List ℕ) (room : ℕ) → RightIn 0 (pack_refusal line offset words room)
unfolding pack_refusal number_of
pack-right line offset words room = search checks depth 8

pub unpack-right : (field : List ℕ) (room : ℕ) → RightIn 0 (unpack_refusal field room)
unfolding unpack_refusal number_of
unpack-right field room = search checks

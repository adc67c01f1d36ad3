-- The lines, written part by part.
-- Assumes nothing.
use mathlib.Core.Path.{◌≡◌, refl, sym, ◌∙◌}
use mathlib.Core.List.{List, [], ◌∷◌, ◌++◌}
use mathlib.Core.Option.{Option, none, some}
use Prim.Native.Nat.{ℕ, suc, ◌+◌, ◌-◌, ◌≤◌, ◌<◌}
use native.Mathlib.Omega.{arith}
use Rattle.std.specs.Prelude.{Ok, Err}
use Rattle.refusal.specs.Checked.{answer_of}
use Rattle.refusal.specs.Number.{number_of, refusal_at}
use Rattle.refusal.specs.declared.Wrong.{Wrong}
use Rattle.refusal.specs.declared.Reason.TheVariants.{Parity}
use Rattle.refusal.specs.declared.Refusal.{Refusal}
use Rattle.reading.specs.declared.Packet.{Packet}
use Rattle.reading.specs.Reading.{read_refusal}
use Rattle.reading.specs.Answer.{reading_into_of, read_leaves}
use Rattle.reading.proofs.Laws.Answer.{accepted-is, refused-is}
use Rattle.b40.specs.declared.Head.{Head}
use Rattle.b40.specs.Field.{words_of}
use Rattle.b40.specs.Unpacking.{unpack_refusal, head_of, unpacked_of, unpack_leaves}
use lib.Dec.{T, eqb, eqb→eq}
use lib.ListN.{length, get_or, drop, replicate, drop_of_length-le}
use lib.Seq.{drop-cons}
use Rattle.basics.proofs.Laws.Test.{below, below_at}
use Rattle.items.specs.Items.{items}
use Rattle.lines.specs.Text.{decimal, places, blank, written}
use Rattle.lines.specs.Shown.{space, newline, refused_word, refused_line, field_line, packet_line, item_line, item_lines, numbers, accepted_lines, field_refusal, field_lines, accepted_of, shown}
use Rattle.lines.specs.declared.page.Page.{Page}
use Rattle.lines.proofs.Laws.Page.{written-append, Sized, blank-sized, written-sized}

-- 7 is printed with its place alone, whatever is wrong with the word
pub seven-line : (wrong : Wrong) (place : ℕ)
    → refused_line (refusal_at (Parity wrong) place) ≡ refused_word ++ decimal 7 ++ (space ∷ []) ++ decimal place ++ (newline ∷ [])
unfolding refused_line number_of
seven-line wrong place = refl

-- the items are numbered from 1 on
all-numbered : T (below (λ (k : ℕ). eqb (get_or numbers k 0) (suc k)) 13)
unfolding numbers items
all-numbered = tt

thirteen : length numbers ≡ 13
unfolding numbers items
thirteen = refl

-- the item at n stands before the rest of the table
number_at : (n : ℕ) → 1 ≤ n → n ≤ 13 → drop (n - 1) numbers ≡ n ∷ drop (n + 1 - 1) numbers
number_at n p h =
    let k : suc (n - 1) ≡ n = omega arith in
    let m : n + 1 - 1 ≡ n = omega arith in
    let e : get_or numbers (n - 1) 0 ≡ suc (n - 1) = eqb→eq _ _ (below_at (λ (k : ℕ). eqb (get_or numbers k 0) (suc k)) 13 all-numbered (n - 1) (omega arith)) in
    drop-cons numbers (n - 1) 0 (omega (arith, thirteen)) ∙ rw (e, k, m)

-- the item at n is written, and then the rest of them
next-item : (p : Page) (rec : List ℕ) (n : ℕ) (ns : List ℕ) → written p (item_lines (n ∷ ns) rec) ≡ written (written p (item_line rec n)) (item_lines ns rec)
unfolding item_lines
next-item p rec n ns = written-append p (item_line rec n) _

pub items-step : (p : Page) (rec : List ℕ) (n : ℕ) → 1 ≤ n → n ≤ 13
    → written p (item_lines (drop (n - 1) numbers) rec) ≡ written (written p (item_line rec n)) (item_lines (drop (n + 1 - 1) numbers) rec)
items-step p rec n h k = rw (number_at n h k) (next-item p rec n (drop (n + 1 - 1) numbers))

pub items-end : (p : Page) (rec : List ℕ) (n : ℕ) → 13 < n → written p (item_lines (drop (n - 1) numbers) rec) ≡ p
unfolding item_lines written
items-end p rec n h = rw (drop_of_length-le numbers {i = n - 1} (omega (arith, thirteen)))

-- a loop over the items
pub ruleset items_written = (items-step, items-end)

-- ---- a field, by what unpacking and reading answered and left

answered : {A : Type 0} (o : Option Refusal) (x y : A) → Ok x ≡ answer_of o y → (o ≡ none) × (x ≡ y)
answered none x y e = (refl, cc)
answered (some why) x y e = cc

refused-for : {A : Type 0} (o : Option Refusal) (why : Refusal) (y : A) → Err why ≡ answer_of o y → o ≡ some why
refused-for none why y e = cc
refused-for (some other) why y e = cc

module _ (field : List ℕ) where
  pub unpack-refused : (why : Refusal) → Err why ≡ unpacked_of field 262 → Err why ≡ accepted_of field
  unfolding unpacked_of accepted_of
  unpack-refused why e = rw (refused-for (unpack_refusal field 262) why (head_of field) e)

  module _ (h : Head) (words : List ℕ) (eh : Ok h ≡ unpacked_of field 262) (ew : words ≡ unpack_leaves field (replicate 262 0)) where
    unpacked : (unpack_refusal field 262 ≡ none) × (h ≡ head_of field)
    unfolding unpacked_of
    unpacked = answered (unpack_refusal field 262) h (head_of field) eh

    left : words ≡ words_of field
    unfolding unpack_leaves
    left = ew ∙ rw unpacked.0

    -- the page, whatever reading is refused for
    unpack-passed : accepted_of field ≡ answer_of (read_refusal words) (written blank (accepted_lines h words))
    unfolding accepted_of
    unpack-passed = rw (unpacked.0, left, unpacked.1)

    pub read-refused : (why : Refusal) → Err why ≡ reading_into_of words 248 → Err why ≡ accepted_of field
    read-refused why e = sym (unpack-passed ∙ rw (refused-is words (replicate 248 0) (Err why) refl e why refl))

    pub read-accepted : (p : Packet) (rec : List ℕ) (p1 p2 p3 : Page) → Ok p ≡ reading_into_of words 248 → rec ≡ read_leaves words (replicate 248 0)
        → p1 ≡ written blank (field_line h.yc h.line h.offset) → p2 ≡ written p1 (packet_line p) → p3 ≡ written p2 (item_lines numbers rec) → Ok p3 ≡ accepted_of field
    read-accepted p rec p1 p2 p3 e er e1 e2 e3 =
        let A = accepted-is words (replicate 248 0) (Ok p) refl e p refl in
        sym (unpack-passed ∙ rw (A.0, e3, e2, e1, er ∙ A.2, A.1) (simp written-append))

-- what is printed, by whether the field is refused
pub accepted-shown : (field : List ℕ) (p : Page) → Ok p ≡ accepted_of field → p ≡ shown field
unfolding accepted_of shown field_lines
accepted-shown field p e = let A = answered (field_refusal field) p _ e in rw A.0 A.1

pub refused-shown : (field : List ℕ) (why : Refusal) (p : Page) → Err why ≡ accepted_of field → p ≡ written blank (refused_line why) → p ≡ shown field
unfolding accepted_of shown field_lines
refused-shown field why p e ep = rw (refused-for (field_refusal field) why _ e) ep

pub shown-sized : (field : List ℕ) (p : Page) → p ≡ shown field → (p ≡ shown field) × (length p.bytes ≡ places) × (p.length ≤ places)
unfolding shown
shown-sized field p e = let s : Sized p = rw e (written-sized blank (field_lines field) blank-sized) in (e, s.long, s.within)

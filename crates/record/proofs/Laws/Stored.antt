-- The bytes of one item in a record: what stands in its place and in the others once bytes are put there, that the old bytes put back
-- give the old record, and that a record which keeps the rules and has nothing left to set to zero is one again once an item is stored.
-- Assumes nothing.
use mathlib.Core.Path.{◌≡◌, refl, sym, ap, ap₂, ◌∙◌, subst}
use mathlib.Core.Bool.{Bool, true, false, cond, ◌&&◌, ◌||◌, false≢true}
use mathlib.Core.Logic.{◌⊎◌}
use mathlib.Core.List.{List, [], ◌∷◌, ◌++◌, append_assoc}
use mathlib.Core.Option.{Option, none, some, some-ne-none, some-injective}
use Prim.Native.Nat.{ℕ, ◌+◌, ◌-◌, ◌≤◌}
use native.Mathlib.Omega.{arith}
use lib.Dec.{T, eqb, leb, leb→le, lit<}
use lib.ListN.{length, take, drop, replicate, length-drop, take-append-drop}
use lib.Seq.{length-take-le, drop-drop}
use borrow.Author.Tests.{eqb-true, eq-eqb}
use borrow.Rule.Slice.PartMut.{put_mid}
use Rattle.std.proofs.lemmas.Bool.Decides.{nat_tests}
use Rattle.std.proofs.lemmas.List.{nil_from_length}
use Rattle.refusal.specs.Chain.{require, next, passed, left_by}
use Rattle.refusal.specs.Number.{refusal_plain}
use Rattle.refusal.specs.declared.Reason.{Reason}
use Rattle.refusal.specs.declared.Reason.TheVariants.{Picture, Size, Room}
use Rattle.refusal.specs.declared.Refusal.{Refusal}
use Rattle.basics.specs.Below.{Bytes}
use Rattle.basics.proofs.Laws.Below.{entry-below, append-below, take_below, drop-below}
use Rattle.basics.proofs.Laws.Test.{both_left, both_right}
use Rattle.rules.specs.Rules.{picture_rule, picture_clean}
use Rattle.record.specs.Reserved.{reserved_area}
use Rattle.record.specs.Record.{record_of, broken, content_refusal, bytes_on, private_part, private_start}
use Rattle.items.specs.Items.{Row, free, items, part}
use Rattle.items.specs.declared.ItemPlace.{ItemPlace}
use Rattle.items.specs.Item.{row_of, refused_in, item_refusal, place_refused_in, place_refusal, place_in, place_of, put, clean_in, clean_of, part_in, item_part, put_in, put_item}
use Rattle.record.specs.Stored.{item_lent, item_start, put_refused_in, put_refusal, put_leaves, store_refusal, store_leaves}
use Rattle.refusal.specs.Checked.{Checked, checked_of}
use Rattle.record.proofs.Laws.Reserved.{zero-content, content-rules}
use Rattle.record.proofs.Laws.Put.{put-length, put-before, put-there, put-behind, put_back, before, behind}
use Rattle.rules.proofs.Laws.Clean.{clean-length, clean-bytes, clean-again, clean-rule}
use Rattle.record.proofs.Laws.Record.{runs, record-runs, private_run, private-rest, record-length, record-idem, record-content, record-current, record-next, record-reserved}

-- ---- what is so of each row of a table

abbrev pub Each : (Row → Type 0) → List Row → Type 0
Each P [] = Unit {0}
Each P (i ∷ is) = P i × Each P is

-- of a row, and of those behind it
infixr 5 ◌&◌
◌&◌ : {A B : Type 0} → A → B → A × B
p & q = (p, q)

-- the row that has a number is the first one or stands in the rest
pub found : (P : Row → Type 0) (is : List Row) (n : ℕ) (i : Row) → Each P is → row_of n is ≡ some i → P i
unfolding row_of
found P [] n i p e = absurd (some-ne-none i (sym e))
found P (j ∷ is) n i p e = grind (arith, nat_tests, p.0, found P is n i p.1)

-- ---- the rows stand in the record, and what they set to zero is settled

-- where an item begins, counted from 0, and where the byte behind it stands
abbrev pub start : Row → ℕ
start i = i.first - 1

abbrev pub end : Row → ℕ
end i = start i + i.long

-- is it a picture mode?
abbrev pub is_mode : ℕ → Bool
is_mode n = eqb n 3 || eqb n 4

-- do two items share no byte?
abbrev apart : Row → Row → Bool
apart i j = leb (end i) (start j) || leb (end j) (start i)

-- the reserved area, as a row of no table
abbrev reserved : Row
reserved = free 0 44 64

pub record Sits (i : Row) : Type 0 where
  pub counted : 1 ≤ i.first
  pub inside : end i ≤ 248
  pub clear : T (apart i reserved)
  pub long : (b : List ℕ) → length b ≡ i.long → length (i.clean b) ≡ i.long
  pub again : (b : List ℕ) → i.clean (i.clean b) ≡ i.clean b
  pub rule : (b : List ℕ) → i.rule (i.clean b) ≡ i.rule b
  pub mode : is_mode i.number ≡ true → (i.long ≡ 4) × ((b : List ℕ) → i.clean b ≡ picture_clean b)
  pub plain : is_mode i.number ≡ false → (b : List ℕ) → i.clean b ≡ b

module _ (n f : ℕ) (c : T (leb 1 f)) where
  as-it-is : (l : ℕ) (why : Reason) (r : List ℕ → Bool) → T (leb (f - 1 + l) 248) → T (apart (free n f l) reserved) → is_mode n ≡ false
      → Sits (record { number = n; first = f; long = l; rule = r; reason = why; clean = λ bytes. bytes })
  as-it-is l why r h a m =
      record {
        counted = leb→le 1 f c;
        inside = leb→le (f - 1 + l) 248 h;
        clear = a;
        long = λ b e. e;
        again = λ b. refl;
        rule = λ b. refl;
        mode = λ z. absurd (false≢true (sym m ∙ z));
        plain = λ z b. refl;
      }

  a-mode : T (leb (f - 1 + 4) 248) → T (apart (free n f 4) reserved) → is_mode n ≡ true
      → Sits (record { number = n; first = f; long = 4; rule = picture_rule; reason = Picture; clean = picture_clean })
  a-mode h a m =
      record {
        counted = leb→le 1 f c;
        inside = leb→le (f - 1 + 4) 248 h;
        clear = a;
        long = λ b e. clean-length b;
        again = clean-again;
        rule = clean-rule;
        mode = λ z. (refl, λ b. refl);
        plain = λ z b. absurd (false≢true (sym z ∙ m));
      }

all-sit : Each Sits items
unfolding items
all-sit =
    as-it-is 1 1 tt 8 _ _ tt tt refl
    & as-it-is 2 9 tt 9 _ _ tt tt refl
    & a-mode 3 18 tt tt tt refl
    & a-mode 4 22 tt tt tt refl
    & as-it-is 5 26 tt 1 _ _ tt tt refl
    & as-it-is 6 27 tt 1 _ _ tt tt refl
    & as-it-is 7 28 tt 1 _ _ tt tt refl
    & as-it-is 8 29 tt 1 _ _ tt tt refl
    & as-it-is 9 30 tt 4 _ _ tt tt refl
    & as-it-is 10 34 tt 4 _ _ tt tt refl
    & as-it-is 11 38 tt 4 _ _ tt tt refl
    & as-it-is 12 42 tt 2 _ _ tt tt refl
    & as-it-is 13 108 tt 141 _ _ tt tt refl
    & tt

number-found : (is : List Row) (n : ℕ) (i : Row) → row_of n is ≡ some i → n ≡ i.number
unfolding row_of
number-found [] n i e = grind arith
number-found (j ∷ is) n i e = grind (arith, nat_tests, number-found is n i)

pub sits : (n : ℕ) (i : Row) → row_of n items ≡ some i → Sits i
sits n i e = found Sits items n i all-sit e

-- ---- an item's place, and those apart from it

-- does an item share no byte with any of these, and do none of these share one?
abbrev all_apart : Row → List Row → Bool
all_apart i [] = true
all_apart i (j ∷ js) = apart i j && all_apart i js

abbrev none_share : List Row → Bool
none_share [] = true
none_share (i ∷ is) = all_apart i is && none_share is

items-apart : T (none_share items)
unfolding items
items-apart = tt

module _ (r new : List ℕ) (i : Row) (l : length new ≡ i.long) (fits : end i ≤ length r) where
  there : start i + length new ≤ length r
  there = omega arith

  -- the item's bytes are those put there
  pub part-put : part i (put r (start i) new) ≡ new
  unfolding part
  part-put = rw (← l) (put-there r new (start i) there)

  -- and those of an item apart from it stay
  part-behind : (j : Row) → end i ≤ start j → part j (put r (start i) new) ≡ part j r
  unfolding part
  part-behind j h = behind (put r (start i) new) r (start i + length new) (start j) j.long (put-behind r new (start i) there) (omega arith)

  part-before : (j : Row) → end j ≤ start i → part j (put r (start i) new) ≡ part j r
  unfolding part
  part-before j h = before (put r (start i) new) r (start i) (start j) j.long (put-before r new (start i) there) h

  part_apart : (j : Row) → T (apart i j) → part j (put r (start i) new) ≡ part j r
  part_apart j t = grind (arith, nat_tests, part-behind, part-before)

  part-apart' : (j : Row) → T (apart j i) → part j (put r (start i) new) ≡ part j r
  part-apart' j t = grind (arith, nat_tests, part-behind, part-before)

-- an item that shares no byte with these shares none with the one that has the number
apart-found : (j i : Row) (js : List Row) (n : ℕ) → T (all_apart j js) → row_of n js ≡ some i → T (apart j i)
apart-found j i js n t e = found (λ k. T (apart j k)) js n i (each js t) e
  where
    each : (ks : List Row) → T (all_apart j ks) → Each (λ k. T (apart j k)) ks
    each [] t = tt
    each (k ∷ ks) t = (both_left (apart j k) (all_apart j ks) t, each ks (both_right (apart j k) (all_apart j ks) t))

-- ---- each item keeps its rule and has nothing left to set to zero

pub record Kept (r : List ℕ) (i : Row) : Type 0 where
  pub rule : i.rule (part i r) ≡ true
  pub clean : i.clean (part i r) ≡ part i r

same_kept : (r r' : List ℕ) (j : Row) → part j r' ≡ part j r → Kept r j → Kept r' j
same_kept r r' j e k = record { rule = rw e k.rule; clean = rw e k.clean }

kept-apart : (r new : List ℕ) (i : Row) → length new ≡ i.long → end i ≤ length r
    → (js : List Row) → T (all_apart i js) → Each (Kept r) js → Each (Kept (put r (start i) new)) js
kept-apart r new i l fits [] t k = tt
kept-apart r new i l fits (j ∷ js) t k = (
  same_kept r (put r (start i) new) j (part_apart r new i l fits j (both_left (apart i j) (all_apart i js) t)) k.0,
  kept-apart r new i l fits js (both_right (apart i j) (all_apart i js) t) k.1,
)

module _ (r new : List ℕ) (n : ℕ) (i : Row) (l : length new ≡ i.long) (fits : end i ≤ length r) (good : i.rule new ≡ true) (settled : i.clean new ≡ new) where
  abbrev r' : List ℕ
  r' = put r (start i) new

  new-kept : Kept r' i
  new-kept =
      let p : part i r' ≡ new = part-put r new i l fits in
      record { rule = rw p good; clean = rw p settled }

  kept_by : (j : Row) (js : List Row) (t : Bool) → T (all_apart j js) → Kept r j → Each (Kept r) js → (row_of n js ≡ some i → Each (Kept r') js)
      → cond t (some j) (row_of n js) ≡ some i → Kept r' j × Each (Kept r') js
  kept_by j js true a k ks go e =
      let same : i ≡ j = sym (some-injective j i e) in
      (subst (λ (x : Row). Kept r' x) same new-kept, kept-apart r new i l fits js (subst (λ (x : Row). T (all_apart x js)) (sym same) a) ks)
  kept_by j js false a k ks go e = (same_kept r r' j (part-apart' r new i l fits j (apart-found j i js n a e)) k, go e)

  kept_put : (is : List Row) → T (none_share is) → row_of n is ≡ some i → Each (Kept r) is → Each (Kept r') is
  unfolding row_of
  kept_put [] t e k = tt
  kept_put (j ∷ js) t e k =
      kept_by j js (eqb n j.number) (both_left (all_apart j js) (none_share js) t) k.0 k.1
      (λ f. kept_put js (both_right (all_apart j js) (none_share js) t) f k.1) e

-- the rules of a table are kept where each of them is
rules-kept : (r : List ℕ) (is : List Row) → Each (Kept r) is → broken is r ≡ none
unfolding broken
rules-kept r [] k = refl
rules-kept r (i ∷ is) k = grind (arith, k.0.rule, rules-kept r is k.1)

each-kept : (r : List ℕ) (is : List Row) → broken is r ≡ none → Each (λ i. i.clean (part i r) ≡ part i r) is → Each (Kept r) is
unfolding broken
each-kept r [] b c = tt
each-kept r (i ∷ is) b c = (record { rule = grind arith; clean = c.0 }, each-kept r is (grind arith) c.1)

-- ---- a clean record: nothing in it is refused, and it is its own record

pub record CleanRecord (r : List ℕ) : Type 0 where
  pub long : length r ≡ 248
  pub rules : content_refusal r ≡ none
  pub own : record_of r ≡ r

-- the record of bytes that are not refused
pub record-clean : (bytes : List ℕ) → length bytes ≡ 248 → content_refusal bytes ≡ none → CleanRecord (record_of bytes)
record-clean bytes n b = record { long = record-length bytes n; rules = record-content bytes n ∙ content-rules bytes b; own = record-idem bytes n }

seam : (l : List ℕ) (s n : ℕ) → take n (drop s l) ++ drop (s + n) l ≡ drop s l
seam l s n = rw (← drop-drop n s l) (take-append-drop n (drop s l))

rejoin : (r p q z d : List ℕ) → p ≡ take 4 (drop 17 r) → q ≡ take 4 (drop 21 r) → z ≡ take 64 (drop 43 r) → d ≡ drop 107 r
    → runs (take 17 r) p q (take 18 (drop 25 r)) z d ≡ r
rejoin r p q z d ep eq ez ed = rw (ep, eq, ez, ed, seam r 43 64, seam r 25 18, seam r 21 4, seam r 17 4) (take-append-drop 17 r)

module _ (r : List ℕ) (h : length r ≡ 248) where
  -- of its own record, each item has nothing left to set to zero, and the reserved area is zero
  own-items : record_of r ≡ r → Each (λ i. i.clean (part i r) ≡ part i r) items
  unfolding items part
  own-items e =
      let current : take 4 (drop 17 r) ≡ picture_clean (take 4 (drop 17 r)) = ap (λ (l : List ℕ). take 4 (drop 17 l)) (sym e) ∙ record-current r h in
      let next : take 4 (drop 21 r) ≡ picture_clean (take 4 (drop 21 r)) = ap (λ (l : List ℕ). take 4 (drop 21 l)) (sym e) ∙ record-next r h in
      refl & refl & sym current & sym next & refl & refl & refl & refl & refl & refl & refl & refl & refl & tt

  own-reserved : record_of r ≡ r → reserved_area r ≡ replicate 64 0
  own-reserved e = ap reserved_area (sym e) ∙ record-reserved r h

  -- and so it is its own record
  own-by : Each (Kept r) items → reserved_area r ≡ replicate 64 0 → record_of r ≡ r
  unfolding items part reserved_area
  own-by k z = record-runs r ∙ rejoin r _ _ _ _ k.1.1.0.clean k.1.1.1.0.clean (sym z) (private-rest r h)

-- bytes put into the place of an item leave the reserved area as it is
put-reserved : (r new : List ℕ) (i : Row) → Sits i → length new ≡ i.long → end i ≤ length r → reserved_area (put r (start i) new) ≡ reserved_area r
unfolding reserved_area part
put-reserved r new i s l fits = part_apart r new i l fits reserved s.clear

-- bytes that keep an item's rule, with nothing left to set to zero, put into its place in a clean record
clean-put : (r new : List ℕ) (n : ℕ) (i : Row) → row_of n items ≡ some i → Sits i → length new ≡ i.long → i.rule new ≡ true → i.clean new ≡ new
    → CleanRecord r → CleanRecord (put r (start i) new)
clean-put r new n i e s l good settled c =
    let fits : end i ≤ length r = omega (arith, s.inside, c.long) in
    let at : start i + length new ≤ length r = omega arith in
    let long : length (put r (start i) new) ≡ 248 = put-length r new (start i) at ∙ c.long in
    let k = kept_put r new n i l fits good settled items items-apart e (each-kept r items (content-rules r c.rules) (own-items r c.long c.own)) in
    let z = put-reserved r new i s l fits ∙ own-reserved r c.long c.own in
    record {
      long = long;
      rules = zero-content (put r (start i) new) z ∙ rules-kept (put r (start i) new) items k;
      own = own-by (put r (start i) new) long k z;
    }

-- ---- the same by an item's number

-- what is so where there is no such item, and of a row of the table, is so at each number
pub by_row : (n : ℕ) (P : Option Row → Type 0) → P none → ((i : Row) → row_of n items ≡ some i → Sits i → P (some i)) → P (row_of n items)
by_row n P p f = go (row_of n items) refl
  where
    go : (o : Option Row) → row_of n items ≡ o → P o
    go none e = p
    go (some i) e = f i e (sits n i e)

-- the place is that of a row of the table
record Placed (p : ItemPlace) (o : Option Row) : Type 0 where
  row : Row
  is : o ≡ some row
  first : p.first ≡ row.first
  length : p.length ≡ row.long

a-place : (n : ℕ) (p : ItemPlace) → p ≡ place_of n → place_refusal n ≡ none → Placed p (row_of n items)
unfolding place_refusal place_refused_in place_of place_in
a-place n p e =
    rw e
    (by_row n (λ o. place_refused_in o ≡ none → Placed (place_in o) o) (λ z. absurd (some-ne-none _ z))
    (λ i f s z. record { row = i; is = refl; first = refl; length = refl }))

-- the bytes of an item, and what they are stored as, are as many as it has
pub part-long : (n : ℕ) (r : List ℕ) → length r ≡ 248 → length (item_part n r) ≡ (place_of n).length
unfolding place_of place_in item_part part_in part
part-long n r h =
    by_row n (λ o. length (part_in r o) ≡ (place_in o).length) refl
    (λ i e s. length-take-le i.long (drop (start i) r) (simp length-drop (omega (arith, s.inside))))

accepted-row : (bytes : List ℕ) (i : Row) → refused_in bytes (some i) ≡ none → (length bytes ≡ i.long) × (i.rule bytes ≡ true)
unfolding refused_in
accepted-row bytes i a = grind (arith, nat_tests)

pub clean-long : (n : ℕ) (bytes : List ℕ) → item_refusal n bytes ≡ none → length (clean_of n bytes) ≡ (place_of n).length
unfolding item_refusal refused_in place_of place_in clean_of clean_in
clean-long n bytes =
    by_row n (λ o. refused_in bytes o ≡ none → length (clean_in bytes o) ≡ (place_in o).length) (λ a. absurd (some-ne-none _ a))
    (λ i e s a. s.long bytes (accepted-row bytes i a).0)

module _ (n : ℕ) (r : List ℕ) (h : length r ≡ 248) where
  pub put-item-length : (new : List ℕ) → length new ≡ (place_of n).length → length (put_item n new r) ≡ 248
  unfolding place_of place_in put_item put_in
  put-item-length new =
      by_row n (λ o. length new ≡ (place_in o).length → length (put_in new r o) ≡ 248) (λ l. h)
      (λ i e s l. put-length r new (start i) (omega (arith, s.inside)) ∙ h)

  -- what was put there is the item's part
  pub put-item-part : (new : List ℕ) → length new ≡ (place_of n).length → item_part n (put_item n new r) ≡ new
  unfolding place_of place_in put_item put_in item_part part_in
  put-item-part new =
      by_row n (λ o. length new ≡ (place_in o).length → part_in (put_in new r o) o ≡ new) (λ l. sym (nil_from_length new l))
      (λ i e s l. part-put r new i l (omega (arith, s.inside)))

  -- the old part put back gives the old record
  pub put-item-back : (new : List ℕ) → length new ≡ (place_of n).length → put_item n (item_part n r) (put_item n new r) ≡ r
  unfolding place_of place_in put_item put_in item_part part_in part
  put-item-back new =
      by_row n (λ o. length new ≡ (place_in o).length → put_in (part_in r o) (put_in new r o) o ≡ r) (λ l. refl)
      (λ i e s l. put_back r new (take i.long (drop (start i) r)) (start i) (omega (arith, s.inside)) (ap (λ (k : ℕ). take k (drop (start i) r)) (sym l)))

-- accepted bytes, stored in a clean record, give a clean record
pub store-clean : (n : ℕ) (bytes r : List ℕ) → item_refusal n bytes ≡ none → CleanRecord r → CleanRecord (put_item n (clean_of n bytes) r)
unfolding item_refusal refused_in put_item put_in clean_of clean_in
store-clean n bytes r =
    by_row n (λ o. refused_in bytes o ≡ none → CleanRecord r → CleanRecord (put_in (clean_in bytes o) r o)) (λ a c. absurd (some-ne-none _ a))
    (λ i e s a c. let p = accepted-row bytes i a in clean-put r (i.clean bytes) n i e s (s.long bytes p.0) (s.rule bytes ∙ p.1) (s.again bytes) c)

-- ---- what the calls on one item answer

-- the item's part from its place on
lent_by : (n f l : ℕ) (i : Row) (bytes : List ℕ) → row_of n items ≡ some i → f ≡ i.first → l ≡ i.long → length bytes ≡ 248
    → take (f - 1 + l - (f - 1)) (drop (f - 1) bytes) ≡ item_lent n bytes
unfolding item_lent item_part part_in part
lent_by n f l i bytes e ef el h = grind arith

pub lent-part : (n : ℕ) (p : ItemPlace) (bytes : List ℕ) → p ≡ place_of n → length bytes ≡ 248 → place_refusal n ≡ none
    → take (p.first - 1 + p.length - (p.first - 1)) (drop (p.first - 1) bytes) ≡ item_lent n bytes
lent-part n p bytes e h c = let a = a-place n p e c in lent_by n p.first p.length a.row bytes a.is a.first a.length h

-- and where it begins
pub lent-start : (n : ℕ) (p : ItemPlace) (bytes : List ℕ) (at : ℕ × ℕ) → p ≡ place_of n → length bytes ≡ 248
    → bytes_on (p.first - 1) at ≡ bytes_on (item_start n bytes) at
unfolding item_start
lent-start n p bytes at e h = rw (e, eq-eqb (length bytes) 248 h)

-- where there is no such item, or another number of bytes, the part is empty, at the beginning
pub lent-none : (n : ℕ) (bytes : List ℕ) (at : ℕ × ℕ) → (row_of n items ≡ none) ⊎ (length bytes ≡ 248 → ⊥)
    → ([] ≡ item_lent n bytes) × (at ≡ bytes_on (item_start n bytes) at)
unfolding item_lent item_start item_part part_in place_of place_in
lent-none n bytes at h = (grind (arith, nat_tests), grind (arith, nat_tests))

-- the private area is the part of item 13, and begins where that does
pub private-item : (bytes : List ℕ) → item_lent 13 bytes ≡ private_part bytes
unfolding item_lent item_part part_in row_of items part private_part
private-item bytes = by (eqb (length bytes) 248) refl
  where
    by : (t : Bool) → eqb (length bytes) 248 ≡ t → cond t (private_run bytes) [] ≡ cond t (drop 107 bytes) []
    by true e = private-rest bytes (eqb-true (length bytes) 248 e)
    by false e = refl

pub private-begins : (bytes : List ℕ) → item_start 13 bytes ≡ private_start bytes
unfolding item_start place_of place_in row_of items private_start
private-begins bytes = refl

-- bytes laid over the item's place
laid_by : (n f l : ℕ) (i : Row) (bytes old new : List ℕ) → row_of n items ≡ some i → f ≡ i.first → l ≡ length bytes → new ≡ bytes
    → put_mid (f - 1) (f - 1 + l - (f - 1)) old new ≡ put_item n bytes old
unfolding put_item put_in put
laid_by n f l i bytes old new e ef el s =
    let k : f - 1 + l - (f - 1) ≡ length bytes = omega arith in
    rw (k, ef, s, e, append_assoc, drop-drop (length bytes) (start i) old)

-- what putting bytes into a place asks
pub put-checks : (n : ℕ) (bytes : List ℕ) (room : ℕ)
    → put_refusal n bytes room ≡ next (place_refusal n) (require (eqb (length bytes) (place_of n).length) (refusal_plain Size) (require (eqb room 248) (refusal_plain Room) passed))
unfolding put_refusal put_refused_in place_refusal place_refused_in place_of place_in
put-checks n bytes room = grind arith

pub ruleset putting = put-checks

-- and what it leaves where they pass
pub put-laid : (n : ℕ) (p : ItemPlace) (bytes old new : List ℕ) → p ≡ place_of n → place_refusal n ≡ none → length bytes ≡ p.length → length old ≡ 248 → new ≡ bytes
    → put_mid (p.first - 1) (p.first - 1 + p.length - (p.first - 1)) old new ≡ put_leaves n bytes old
unfolding put_leaves
put-laid n p bytes old new e k l h s =
    let a = a-place n p e k in
    let t : put_refusal n bytes (length old) ≡ none = put-checks n bytes (length old) ∙ rw (k, eq-eqb (length bytes) (place_of n).length (l ∙ ap (λ (q : ItemPlace). q.length) e), h) in
    laid_by n p.first p.length a.row bytes old new a.is a.first (sym l) s ∙ rw t

-- what is stored of a picture mode, and of another item
pub mode-stored : (n : ℕ) (bytes : List ℕ) → item_refusal n bytes ≡ none → is_mode n ≡ true → (length bytes ≡ 4) × (picture_clean bytes ≡ clean_of n bytes)
unfolding item_refusal refused_in clean_of clean_in
mode-stored n bytes =
    by_row n (λ o. refused_in bytes o ≡ none → is_mode n ≡ true → (length bytes ≡ 4) × (picture_clean bytes ≡ clean_in bytes o)) (λ a m. absurd (some-ne-none _ a))
    (λ i e s a m.
    let q = s.mode (ap is_mode (sym (number-found items n i e)) ∙ m) in
    ((accepted-row bytes i a).0 ∙ q.0, sym (q.1 bytes)))

pub plain-stored : (n : ℕ) (bytes : List ℕ) → is_mode n ≡ false → bytes ≡ clean_of n bytes
unfolding clean_of clean_in
plain-stored n bytes m =
    by_row n (λ o. bytes ≡ clean_in bytes o) refl
    (λ i e s. sym (s.plain (ap is_mode (sym (number-found items n i e)) ∙ m) bytes))

-- accepted bytes are put wherever there is room
clean-put-refusal : (n : ℕ) (bytes : List ℕ) (room : ℕ) → item_refusal n bytes ≡ none → put_refusal n (clean_of n bytes) room ≡ require (eqb room 248) (refusal_plain Room) none
unfolding item_refusal refused_in put_refusal put_refused_in clean_of clean_in
clean-put-refusal n bytes room =
    by_row n (λ o. refused_in bytes o ≡ none → put_refused_in (clean_in bytes o) room o ≡ require (eqb room 248) (refusal_plain Room) none) (λ a. absurd (some-ne-none _ a))
    (λ i e s a. rw (eq-eqb (length (i.clean bytes)) i.long (s.long bytes (accepted-row bytes i a).0)))

-- as many bytes as the item has are put into its place
pub leaves-put : (n : ℕ) (new old : List ℕ) → length new ≡ (place_of n).length → length old ≡ 248 → put_leaves n new old ≡ put_item n new old
unfolding place_of place_in put_leaves put_refusal put_refused_in put_item put_in
leaves-put n new old l h =
    by_row n (λ o. length new ≡ (place_in o).length → left_by (put_refused_in new (length old) o) (put_in new old o) old ≡ put_in new old o) (λ z. refl)
    (λ i e s z. simp (eq-eqb (length new) i.long z, h)) l

-- bytes stored among bytes
mode-bytes : (i : Row) (t : Bool) → Sits i → is_mode i.number ≡ t → (b : List ℕ) → Bytes b → Bytes (i.clean b)
mode-bytes i true s m b f = rw ((s.mode m).1 b) (clean-bytes b (entry-below 256 b (lit< tt) f 0))
mode-bytes i false s m b f = rw (s.plain m b) f

put-bytes : (old new : List ℕ) (at : ℕ) → Bytes old → Bytes new → Bytes (put old at new)
unfolding put
put-bytes old new at f g =
    append-below 256 (take at old ++ new) (drop (at + length new) old) (append-below 256 (take at old) new (take_below 256 at old f) g)
    (drop-below 256 (at + length new) old f)

pub store_bytes : (n : ℕ) (bytes r : List ℕ) → Bytes bytes → Bytes r → Bytes (put_item n (clean_of n bytes) r)
unfolding put_item put_in clean_of clean_in
store_bytes n bytes r f g =
    by_row n (λ o. Bytes (put_in (clean_in bytes o) r o)) g
    (λ i e s. put-bytes r (i.clean bytes) (start i) g (mode-bytes i (is_mode i.number) s refl bytes f))

-- checked bytes: what is put answers for the room
pub store-put : (n : ℕ) (bytes old new left : List ℕ) (put-said : Checked) → item_refusal n bytes ≡ none → new ≡ clean_of n bytes
    → put-said ≡ checked_of (put_refusal n new (length old)) → left ≡ put_leaves n new old
    → (put-said ≡ checked_of (store_refusal n bytes (length old))) × (left ≡ store_leaves n bytes old)
unfolding store_refusal store_leaves put_leaves
store-put n bytes old new left put-said accepted c p l =
    let q : put_refusal n new (length old) ≡ store_refusal n bytes (length old) =
    ap (λ (b : List ℕ). put_refusal n b (length old)) c ∙ clean-put-refusal n bytes (length old) accepted ∙ sym (rw accepted) in
    (p ∙ ap checked_of q, l ∙ ap₂ (λ (o : Option Refusal) (b : List ℕ). left_by o (put_item n b old) old) q c)

-- The numbers of the reasons are those of the fixed list, and no two reasons share one; a retired number is not among them; 7, and no other, comes
-- with bits.
-- Assumes nothing.
use mathlib.Core.Path.{◌≡◌, refl, sym, ◌∙◌}
use mathlib.Core.Bool.{Bool, true, false, cond, ◌||◌}
use mathlib.Core.List.{List, [], ◌∷◌, map, Memᴰ}
use Prim.Native.Nat.{ℕ, ◌≤◌}
use lib.Dec.{T, eqb, leb, leb→le}
use borrow.Author.Tests.{eqb-true, eq-eqb}
use Rattle.refusal.specs.Number.{number_of, bits_of, bits_in, fixed_list, retired}
use Rattle.refusal.specs.declared.Wrong.{Wrong}
use Rattle.refusal.specs.declared.Wrong.TheVariants.{B8, B9, Both}
use Rattle.refusal.specs.declared.Reason.{Reason}
use Rattle.refusal.specs.declared.Reason.TheVariants.{Length, Wide, Flag, Kind, Count, Header, Parity, Fill, BeyondRepair, Checksum, Station, Time, Picture, Sound, ReservedArea, Item, Size, NothingToUndo, Room, FieldLength, FieldHead, Index, OffRetired}

-- the reasons, in the order of the fixed list, where this is wrong with the word of 7
unfoldable pub reasons : Wrong → List Reason
reasons wrong = Length ∷ Wide ∷ Flag ∷ Kind ∷ Count ∷ Header ∷ Parity wrong ∷ Fill ∷ BeyondRepair ∷ Checksum ∷ Station ∷ Time ∷ Picture ∷ Sound ∷ ReservedArea ∷ Item ∷ Size ∷ NothingToUndo ∷ Room ∷ FieldLength ∷ FieldHead ∷ Index ∷ OffRetired ∷ []

-- the fixed list is the numbers of the reasons, in order, and holds nothing else
pub list-of-reasons : (wrong : Wrong) → fixed_list ≡ map number_of (reasons wrong)
unfolding fixed_list number_of reasons
list-of-reasons wrong = refl

-- whether a number is on a list, as a test to compute
is_on : ℕ → List ℕ → Bool
is_on n [] = false
is_on n (m ∷ ms) = eqb n m || is_on n ms

on_list : (n : ℕ) (ms : List ℕ) → T (is_on n ms) → Memᴰ n ms
unfolding is_on
on_list n [] t = absurd t
on_list n (m ∷ ms) t = here (eqb n m) refl (on_list n ms) t
  where
    here : (b : Bool) → eqb n m ≡ b → (T (is_on n ms) → Memᴰ n ms) → T (b || is_on n ms) → Memᴰ n (m ∷ ms)
    here true e later t = Memᴰ.head (eqb-true n m e)
    here false e later t = Memᴰ.tail (later t)

test_on : {n : ℕ} {ms : List ℕ} → Memᴰ n ms → T (is_on n ms)
unfolding is_on
test_on {n = n} (Memᴰ.head {x} {xs} e) = rw (eq-eqb n x e) tt
test_on {n = n} (Memᴰ.tail {x} {xs} l) = or_right (eqb n x) (is_on n xs) (test_on l)
  where
    or_right : (a b : Bool) → T b → T (a || b)
    or_right true b t = tt
    or_right false b t = t

-- the first of some reasons whose number is `n`; where there is none, any will do
named : ℕ → List Reason → Reason
named n [] = Length
named n (why ∷ more) = cond (eqb n (number_of why)) why (named n more)

-- what the bits stand for; where they stand for nothing, any will do
wrong_of : ℕ → Wrong
wrong_of n = cond (eqb n 1) B8 (cond (eqb n 2) B9 Both)

-- what antt computes at each reason: its number is on the list, it finds the reason again by its bits, and it has bits, 1 to 3, exactly where it
-- is 7
abbrev Known : Reason → Type 0
Known why =
    T (is_on (number_of why) fixed_list) × (named (number_of why) (reasons (wrong_of (bits_in why))) ≡ why) × (leb 1 (bits_in why) ≡ eqb (number_of why) 7)
    × T (leb (bits_in why) 3)

at_each : (why : Reason) → Known why
unfolding is_on named wrong_of fixed_list number_of bits_of bits_in reasons
at_each =
    elim [
      | Length ↦ (tt, refl, refl, tt)
      | Wide ↦ (tt, refl, refl, tt)
      | Flag ↦ (tt, refl, refl, tt)
      | Kind ↦ (tt, refl, refl, tt)
      | Count ↦ (tt, refl, refl, tt)
      | Header ↦ (tt, refl, refl, tt)
      | Parity B8 ↦ (tt, refl, refl, tt)
      | Parity B9 ↦ (tt, refl, refl, tt)
      | Parity Both ↦ (tt, refl, refl, tt)
      | Fill ↦ (tt, refl, refl, tt)
      | BeyondRepair ↦ (tt, refl, refl, tt)
      | Checksum ↦ (tt, refl, refl, tt)
      | Station ↦ (tt, refl, refl, tt)
      | Time ↦ (tt, refl, refl, tt)
      | Picture ↦ (tt, refl, refl, tt)
      | Sound ↦ (tt, refl, refl, tt)
      | ReservedArea ↦ (tt, refl, refl, tt)
      | Item ↦ (tt, refl, refl, tt)
      | Size ↦ (tt, refl, refl, tt)
      | NothingToUndo ↦ (tt, refl, refl, tt)
      | Room ↦ (tt, refl, refl, tt)
      | FieldLength ↦ (tt, refl, refl, tt)
      | FieldHead ↦ (tt, refl, refl, tt)
      | Index ↦ (tt, refl, refl, tt)
      | OffRetired ↦ (tt, refl, refl, tt)
    ]

-- the number of every reason is on the fixed list
pub number-on-list : (why : Reason) → Memᴰ (number_of why) fixed_list
number-on-list why = on_list (number_of why) fixed_list (at_each why).0

-- ---- no number is given again

-- whether none of some numbers is on a list, as a test to compute
none_on : List ℕ → List ℕ → Bool
none_on [] ms = true
none_on (n ∷ ns) ms = cond (is_on n ms) false (none_on ns ms)

none-on : {n : ℕ} {ns ms : List ℕ} → T (none_on ns ms) → Memᴰ n ns → Memᴰ n ms → ⊥
unfolding none_on
none-on {n = n} {ms = ms} t (Memᴰ.head {x} {xs} e) l = here (is_on x ms) (test_on (rw (← e) l)) t
  where
    here : (b : Bool) → T b → T (cond b false (none_on xs ms)) → ⊥
    here true p t = t
    here false p t = p
none-on {ms = ms} t (Memᴰ.tail {x} {xs} k) l = none-on (later (is_on x ms) t) k l
  where
    later : (b : Bool) → T (cond b false (none_on xs ms)) → T (none_on xs ms)
    later true t = absurd t
    later false t = t

-- no retired number is on the fixed list
pub retired-off : (n : ℕ) → Memᴰ n retired → Memᴰ n fixed_list → ⊥
unfolding none_on is_on retired fixed_list
retired-off n = none-on tt

-- so that no reason has one
pub not-retired : (why : Reason) → Memᴰ (number_of why) retired → ⊥
not-retired why r = retired-off (number_of why) r (number-on-list why)

-- ---- a reason is known by its number and its bits

-- two reasons with the same number and the same bits are the same reason
pub number-inj : (a b : Reason) → number_of a ≡ number_of b → bits_in a ≡ bits_in b → a ≡ b
number-inj a b same bits = sym (at_each a).1 ∙ (λ i. named (same i) (reasons (wrong_of (bits i)))) ∙ (at_each b).1

-- a reason carries bits exactly where its number is 7
pub bits-seven : (why : Reason) → leb 1 (bits_in why) ≡ eqb (number_of why) 7
bits-seven why = (at_each why).2

pub bits-le : (why : Reason) → bits_in why ≤ 3
bits-le why = leb→le _ 3 (at_each why).3

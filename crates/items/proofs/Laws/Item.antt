-- One item by its number: which numbers have a row, whose byte each is, and the checks of an item's bytes.
-- Assumes nothing.
use mathlib.Core.Path.{◌≡◌}
use mathlib.Core.Bool.{Bool, cond}
use mathlib.Core.List.{List}
use mathlib.Core.Logic.{◌↔◌, ◌⊎◌}
use mathlib.Core.Option.{none}
use Prim.Native.Nat.{ℕ, zero, suc, ◌<◌, ◌≤◌}
use native.Mathlib.Omega.{arith}
use lib.Dec.{T, eqb, eqb→eq}
use lib.ListN.{length, get_or}
use Rattle.std.proofs.lemmas.Bool.Decides.{nat_tests}
use Rattle.refusal.specs.Chain.{require, next, passed}
use Rattle.refusal.specs.Number.{refusal_at, refusal_plain}
use Rattle.refusal.specs.Checked.{answer_of}
use Rattle.refusal.specs.declared.Refusal.{Refusal}
use Rattle.refusal.specs.declared.Reason.TheVariants.{Size}
use Rattle.std.specs.Prelude.{Ok, Err}
use Rattle.items.specs.declared.ItemPlace.{ItemPlace}
use Rattle.items.specs.Items.{items, holders, reserved_byte}
use Rattle.items.specs.Item.{row_of, refused_in, item_refusal, place_refused_in, place_refusal, place_in, place_of, rule_in, rule_of, reason_in, reason_of}
use Rattle.rules.specs.Rules.{sound_byte}
use Rattle.rules.proofs.Laws.Rules.{sound-one}
use Rattle.basics.proofs.Laws.Test.{below, below_at}

-- ---- the numbers that have a row

pub row-none : (n : ℕ) → 13 < n → row_of n items ≡ none
unfolding row_of items
row-none n h = grind (arith, nat_tests)

-- there is no such item exactly for 0 and from 14 on
pub no_row : (n : ℕ) → (row_of n items ≡ none) ↔ ((n ≡ 0) ⊎ (13 < n))
unfolding row_of items
no_row n = (λ e. grind (arith, nat_tests), λ h. grind (arith, nat_tests))

-- ---- each byte is one item's, but those of the reserved area, which are none's

whose : ℕ → Bool
whose k = eqb (holders (suc k) items) (cond (reserved_byte (suc k)) 0 1)

-- as the test of all 248 says it of each
by-test : T (below whose 248) → (n : ℕ) → 1 ≤ n → n ≤ 248 → holders n items ≡ cond (reserved_byte n) 0 1
unfolding whose
by-test t zero p h = absurd (omega arith)
by-test t (suc k) p h = eqb→eq _ _ (below_at whose 248 t k (omega arith))

pub one-holder : (n : ℕ) → 1 ≤ n → n ≤ 248 → holders n items ≡ cond (reserved_byte n) 0 1
unfolding whose holders items
one-holder = by-test tt

-- ---- where the items stand

pub place-lt : (n : ℕ) → (place_of n).first < 256
unfolding place_of place_in row_of items
place-lt n = grind (arith, nat_tests)

-- the place that is given is that of the item, and where none is given there is no such item
pub place-given : (n : ℕ) (p : ItemPlace) → Ok p ≡ answer_of (place_refusal n) (place_of n) → (place_refusal n ≡ none) × (p ≡ place_of n)
place-given n p e = (grind arith, grind arith)

pub place-missing : (n : ℕ) (why : Refusal) → Err why ≡ answer_of (place_refusal n) (place_of n) → row_of n items ≡ none
unfolding place_refusal place_refused_in
place-missing n why e = grind arith

-- a sound mode is one byte
pub sound_at : (n : ℕ) (bytes : List ℕ) → (n ≡ 6) ⊎ (n ≡ 7) → length bytes ≡ (place_of n).length → sound_byte (get_or bytes 0 0) ≡ rule_of n bytes
unfolding rule_of rule_in row_of items place_of place_in
sound_at n bytes e h = grind (arith, nat_tests, sound-one bytes)

-- ---- the checks of an item's bytes

-- those of its place, its length and its rule
pub item-checks : (n : ℕ) (bytes : List ℕ)
    → item_refusal n bytes ≡ next (place_refusal n) (require (eqb (length bytes) (place_of n).length) (refusal_plain Size) (require (rule_of n bytes) (refusal_at (reason_of n) (place_of n).first) passed))
unfolding item_refusal refused_in place_refusal place_refused_in place_of place_in rule_of rule_in reason_of reason_in
item-checks n bytes = grind arith

pub ruleset checks = (item-checks, place-lt)

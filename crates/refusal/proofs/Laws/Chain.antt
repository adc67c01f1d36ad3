-- Chains of checks: one that refuses nothing has passed each of them, which check gives a refusal, and one that goes on by `then` is the
-- chain of the definitions.
-- Assumes nothing.
use mathlib.Core.Path.{◌≡◌, refl, sym, ap, ◌∙◌}
use mathlib.Core.Bool.{Bool, true, false, not, false≢true}
use mathlib.Core.Option.{Option, none, some, some-ne-none, some-injective}
use mathlib.Core.Logic.{◌↔◌}
use Prim.Native.Nat.{ℕ}
use lib.Dec.{eqb}
use borrow.Author.Tests.{not-true, not-false, eq-eqb}
use Rattle.refusal.specs.Chain.{require, passed, next, left_by}
use Rattle.std.specs.Prelude.{Result, Ok, Err}
use Rattle.std.specs.Result.{IsErrAnd}
use Rattle.std.proofs.lemmas.Result.{err_from_is_err_and}
use Rattle.refusal.specs.Checked.{Checked, answer_of, checked_of, refusal_in}
use Rattle.refusal.specs.declared.Refusal.{Refusal}
use Rattle.refusal.specs.Number.{number_of}

-- ---- a chain that refuses nothing

pub require-passed : (t : Bool) (why : Refusal) (rest : Option Refusal) → require t why rest ≡ none → (t ≡ true) × (rest ≡ none)
require-passed true why rest e = (refl, e)
require-passed false why rest e = absurd (some-ne-none why e)

pub next-passed : (first rest : Option Refusal) → next first rest ≡ none → (first ≡ none) × (rest ≡ none)
next-passed none rest e = (refl, e)
next-passed (some why) rest e = absurd (some-ne-none why e)

-- ---- which check gives a refusal

pub passed-other : (why : Refusal) → passed ≡ some why → ⊥
passed-other why e = some-ne-none why (sym e)

-- where what stands behind it does not, a check gives its refusal exactly when its test fails
pub require-gives : (t : Bool) (why : Refusal) (rest : Option Refusal) → (rest ≡ some why → ⊥) → (require t why rest ≡ some why) ↔ (t ≡ false)
require-gives true why rest n = (λ e. absurd (n e), λ e. absurd (false≢true (sym e)))
require-gives false why rest n = (λ e. refl, λ e. refl)

pub next-gives : (first rest : Option Refusal) (why : Refusal) → (rest ≡ some why → ⊥) → (next first rest ≡ some why) ↔ (first ≡ some why)
next-gives none rest why n = (λ e. absurd (n e), λ e. absurd (passed-other why e))
next-gives (some no') rest why n = (λ e. e, λ e. e)

-- where the first checks do not, those behind them give it exactly when the first pass
pub next-behind : (first rest : Option Refusal) (why : Refusal) → (first ≡ some why → ⊥) → (next first rest ≡ some why) ↔ ((first ≡ none) × (rest ≡ some why))
next-behind none rest why n = (λ e. (refl, e), λ (p, e). e)
next-behind (some no') rest why n = (λ e. absurd (n e), λ (p, e). absurd (some-ne-none no' p))

pub require-behind : (t : Bool) (w why : Refusal) (rest : Option Refusal) → (w ≡ why → ⊥) → (require t w rest ≡ some why) ↔ ((t ≡ true) × (rest ≡ some why))
require-behind true w why rest n = (λ e. (refl, e), λ (p, e). e)
require-behind false w why rest n = (λ e. absurd (n cc), λ (p, e). absurd (false≢true p))

-- a check that fails does so whatever follows it
pub require-refused : (t : Bool) (w why : Refusal) (rest : Option Refusal) → require t w passed ≡ some why → require t w rest ≡ some why
require-refused true w why rest e = absurd (some-ne-none why (sym e))
require-refused false w why rest e = e

-- ---- a number that a chain does not refuse with

pub record Without (n : ℕ) (o : Option Refusal) : Type 0 where
  pub other : (why : Refusal) → o ≡ some why → eqb (number_of why.reason) n ≡ false

pub without-passed : {n : ℕ} → Without n passed
without-passed = record { other = λ why e. absurd (passed-other why e) }

-- each of its refusals has another number
pub without-refused : {n : ℕ} (why : Refusal) → eqb (number_of why.reason) n ≡ false → Without n (some why)
without-refused why d = record { other = λ w e. let same : w ≡ why = cc in rw same d }

pub without-require : {n : ℕ} {rest : Option Refusal} (t : Bool) (why : Refusal) → eqb (number_of why.reason) n ≡ false → Without n rest → Without n (require t why rest)
without-require true why d q = q
without-require false why d q = without-refused why d

pub without-next : {n : ℕ} {rest : Option Refusal} (first : Option Refusal) → Without n first → Without n rest → Without n (next first rest)
without-next none p q = q
without-next (some why) p q = p

-- a chain is worked through by these, check by check
pub ruleset without = (without-passed, without-refused, without-require, without-next)

-- two refusals with different numbers are not the same
pub other-number : (w why : Refusal) → eqb (number_of w.reason) (number_of why.reason) ≡ false → w ≡ why → ⊥
other-number w why d e = false≢true (sym d ∙ eq-eqb _ _ (ap (λ (r : Refusal). number_of r.reason) e))

-- a refusal with that number is not what it gives
pub never-gives : {o : Option Refusal} (why : Refusal) → Without (number_of why.reason) o → o ≡ some why → ⊥
never-gives why q e = false≢true (sym (q.other why e) ∙ eq-eqb (number_of why.reason) (number_of why.reason) refl)

-- ---- an answer tells its refusal

pub refusal-in : (o : Option Refusal) → refusal_in (checked_of o) ≡ o
refusal-in none = refl
refusal-in (some why) = refl

pub refusal-in-answer : {A : Type 0} (o : Option Refusal) (x : A) → refusal_in (answer_of o x) ≡ o
refusal-in-answer none x = refl
refusal-in-answer (some why) x = refl

-- and is known by it
pub checked-in : (a : Checked) → checked_of (refusal_in a) ≡ a
checked-in (Ok done) = refl
checked-in (Err why) = refl

-- the refusal of an answer that turned out to be b
pub told : (o : Option Refusal) (a b : Checked) → a ≡ checked_of o → a ≡ b → o ≡ refusal_in b
told o a b e d = sym (refusal-in o) ∙ ap refusal_in (sym e ∙ d)

-- an answer is not both
pub passed-refused : {A : Type 0} (x : A) (why : Refusal) → Ok x ≡ Err why → ⊥
passed-refused x why e = passed-other why (ap refusal_in e)

-- an answer that is a refusal, or none, is so by what the call is refused for
pub refused-is : (o : Option Refusal) (w : Refusal) → Err w ≡ checked_of o → o ≡ some w
refused-is o w e = sym (refusal-in o) ∙ ap refusal_in (sym e)

pub done-is : (o : Option Refusal) → Ok tt ≡ checked_of o → o ≡ none
done-is o e = sym (refusal-in o) ∙ ap refusal_in (sym e)

-- and what the checks said tells the answer
pub err-by : {A : Type 0} (o : Option Refusal) (x : A) (w : Refusal) → Err w ≡ checked_of o → Err w ≡ answer_of o x
err-by o x w e = rw (refused-is o w e) refl

pub ok-by : {A : Type 0} (o : Option Refusal) (x : A) → Ok tt ≡ checked_of o → Ok x ≡ answer_of o x
ok-by o x e = rw (done-is o e) refl

-- and what is left
module _ {X : Type 0} (o : Option Refusal) (new old : X) where
  pub kept-by : (w : Refusal) → Err w ≡ checked_of o → old ≡ left_by o new old
  kept-by w e = rw (refused-is o w e) refl

  pub left-by : Ok tt ≡ checked_of o → new ≡ left_by o new old
  left-by e = rw (done-is o e) refl

-- two values that are one answer
pub same-ok : {A : Type 0} {x y : A} → ◌≡◌ {A = Result A Refusal} (Ok x) (Ok y) → x ≡ y
same-ok e = cc

-- ---- a test that a call answered

pub passes : {r s : Bool} → r ≡ s → not r ≡ false → s ≡ true
passes {r} e h = sym e ∙ not-false r h

pub fails : {r s : Bool} → r ≡ s → not r ≡ true → s ≡ false
fails {r} e h = sym e ∙ not-true r h

-- ---- a chain that goes on by `then`

-- the checks up to an answer are this chain: what is asked behind the answer is asked behind them
pub record Chained (answer : Checked) (chain : Option Refusal → Option Refusal) : Type 0 where
  pub behind : (rest : Option Refusal) → next (refusal_in answer) rest ≡ chain rest

-- no check yet
pub chained-none : Chained (Ok tt) (λ rest. rest)
chained-none = record { behind = λ rest. refl }

-- the checks of a call, by its answer
pub chained-from : {answer : Checked} (first : Option Refusal) → answer ≡ checked_of first → Chained answer (next first)
chained-from first e = record { behind = λ rest. ap (λ (o : Option Refusal). next o rest) (ap refusal_in e ∙ refusal-in first) }

-- three chains, one behind the other
pub next-next : (a b c : Option Refusal) → next (next a b) c ≡ next a (next b c)
next-next none b c = refl
next-next (some why) b c = refl

next-require : (first : Option Refusal) (ok : Bool) (why : Refusal) (rest : Option Refusal)
    → next (next first (require ok why passed)) rest ≡ next first (require ok why rest)
next-require none true why rest = refl
next-require none false why rest = refl
next-require (some first) ok why rest = refl

-- one check more, whose test is what a call said
pub chained_more : {earlier answer : Checked} {ok test : Bool} {chain : Option Refusal → Option Refusal} (why : Refusal)
    → Chained earlier chain → answer ≡ checked_of (next (refusal_in earlier) (require ok why passed)) → ok ≡ test
    → Chained answer (λ rest. chain (require test why rest))
chained_more {earlier} {answer} {ok} {test} {chain} why c e p = record {
  behind = λ rest.
      ap (λ (o : Option Refusal). next o rest) (ap refusal_in e ∙ refusal-in (next (refusal_in earlier) (require ok why passed)))
      ∙ next-require (refusal_in earlier) ok why rest ∙ c.behind (require ok why rest) ∙ ap (λ (b : Bool). chain (require b why rest)) p;
}

-- an answer is that of the checks in it
pub answer-all : (answer : Checked) → answer ≡ checked_of (next (refusal_in answer) passed)
answer-all (Ok done) = refl
answer-all (Err why) = refl

-- all of them: the answer is that of the chain
pub chained-all : {answer : Checked} {chain : Option Refusal → Option Refusal} → Chained answer chain → answer ≡ checked_of (chain passed)
chained-all {answer} c = answer-all answer ∙ ap checked_of (c.behind passed)

-- ---- a chain that goes on by `?`

-- a check that passed, and one that failed
pub check-passed : (t : Bool) (why : Refusal) → Ok tt ≡ checked_of (require t why passed) → t ≡ true
check-passed true why e = refl
check-passed false why e = absurd (passed-refused tt why e)

pub check-failed : (t : Bool) (why w : Refusal) → Err w ≡ checked_of (require t why passed) → (t ≡ false) × (w ≡ why)
check-failed true why w e = absurd (passed-refused tt w (sym e))
check-failed false why w e = (refl, some-injective w why (ap refusal_in e))

-- what a `?` hands on
pub handed-on : {A : Type 0} {w : Refusal} (r : Result A Refusal) → IsErrAnd r (λ (y : Refusal). y ≡ w) → r ≡ Err w
handed-on r h = let p = err_from_is_err_and r h in p.1 ∙ ap Err p.2

-- the checks so far and one more passed
pub went-on : {a : Checked} {chain : Option Refusal → Option Refusal} {ok test : Bool} {given why : Refusal} → Chained (Ok tt) chain
    → a ≡ checked_of (require ok given passed) → ok ≡ test → given ≡ why → a ≡ Ok tt → Chained (Ok tt) (λ rest. chain (require test why rest))
went-on {why} c e p g h = chained_more why c (sym h ∙ rw (← g) e) p

-- the checks so far passed, and the next one failed: that is the answer, whatever follows
pub stopped : {a : Checked} {chain : Option Refusal → Option Refusal} {ok test : Bool} {given why w : Refusal} (rest : Option Refusal) → Chained (Ok tt) chain
    → a ≡ checked_of (require ok given passed) → ok ≡ test → given ≡ why → a ≡ Err w → Err w ≡ checked_of (chain (require test why rest))
stopped {why} {w} rest c e p g h =
    let more : Chained (Err w) (λ r. _) = chained_more why c (sym h ∙ rw (← g) e) p in ap checked_of (more.behind rest)

-- the checks so far passed, and the last call decides
pub decided : {a : Checked} {chain : Option Refusal → Option Refusal} (o : Option Refusal) → Chained (Ok tt) chain → a ≡ checked_of o → a ≡ checked_of (chain o)
decided o c e = e ∙ ap checked_of (c.behind o)

-- and so with the checks of a further call, that passed or that did not: they are those of its answer
pub went-past : {a : Checked} {chain : Option Refusal → Option Refusal} (o : Option Refusal) → Chained (Ok tt) chain → a ≡ checked_of o → a ≡ Ok tt
    → Chained (Ok tt) (λ rest. chain (next o rest))
went-past {chain} o c e h = let call = chained-from o (sym h ∙ e) in record { behind = λ rest. c.behind rest ∙ ap chain (call.behind rest) }

pub stopped-at : {a : Checked} {chain : Option Refusal → Option Refusal} {w : Refusal} (o rest : Option Refusal) → Chained (Ok tt) chain → a ≡ checked_of o → a ≡ Err w
    → Err w ≡ checked_of (chain (next o rest))
stopped-at {chain} {w} o rest c e h = let call = chained-from o (sym h ∙ e) in ap checked_of (c.behind (some w) ∙ ap chain (call.behind rest))

-- the checks so far passed, and one more decides
pub last-check : {a : Checked} {chain : Option Refusal → Option Refusal} {ok test : Bool} {given why : Refusal} → Chained (Ok tt) chain → a ≡ checked_of (require ok given passed)
    → ok ≡ test → given ≡ why → a ≡ checked_of (chain (require test why passed))
last-check {why} c e p g = chained-all (chained_more why c (rw (← g) e) p)

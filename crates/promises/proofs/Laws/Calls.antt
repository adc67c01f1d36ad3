-- What the contracts say of the calls, as equations.
-- Assumes nothing.
use mathlib.Core.Path.{◌≡◌, sym, ap, ap₂, ◌∙◌}
use mathlib.Core.Bool.{Bool}
use mathlib.Core.List.{List}
use Prim.Native.Nat.{ℕ}
use lib.ListN.{length}
use Rattle.refusal.specs.Checked.{Checked, checked_of}
use Rattle.desk.specs.declared.Desk.{Desk}
use Rattle.desk.specs.declared.Turn.{Turn}
use Rattle.desk.specs.Desk.{opened, edited, undone, sent, send_leaves}
use Rattle.follower.specs.declared.Follower.{Follower}
use Rattle.follower.specs.declared.Followed.{Followed}
use Rattle.follower.specs.Follower.{followed, opened as begun, shown_by, shown_refusal, shown_leaves}
use Rattle.lines.specs.declared.page.Page.{Page}
use Rattle.lines.specs.Shown.{shown}
use Rattle.promises.specs.Calls.{Opens, Edits, Undoes, Sends, Begins, Follows, Looks, LooksInto, Shows}

pub opens-is : (on : Bool) (t : Turn) → Opens on t → t ≡ opened on
opens-is on t O = O.allowed ∙ ap opened O.correction

pub edits-is : (d : Desk) (item : ℕ) (bytes : List ℕ) (t : Turn) → Edits d item bytes t → t ≡ edited d item bytes
edits-is d item bytes t E = E.allowed ∙ (λ i. edited (E.own i) (E.number i) (E.lent i))

pub undoes-is : (d : Desk) (t : Turn) → Undoes d t → t ≡ undone d
undoes-is d t U = U.allowed ∙ ap undone U.own

pub sends-is : (d : Desk) (old : List ℕ) (t : Turn) (left : List ℕ) → Sends d old t left → t ≡ sent d (length old)
sends-is d old t left S = S.allowed.0 ∙ (λ i. sent (S.own i) (length (S.lent i)))

pub sends-leaves : (d : Desk) (old : List ℕ) (t : Turn) (left : List ℕ) → Sends d old t left → left ≡ send_leaves d old
sends-leaves d old t left S = sym S.leaves ∙ S.allowed.1 ∙ (λ i. send_leaves (S.own i) (S.lent i))

pub begins-is : (f : Follower) → Begins f → f ≡ begun
begins-is f B = B.allowed

pub follows_is : (f : Follower) (ws : List ℕ) (a : Followed) → Follows f ws a → a ≡ followed f ws
follows_is f ws a F = F.allowed ∙ ap₂ followed F.own F.lent

pub looks-is : (f : Follower) (rec : List ℕ) → Looks f rec → rec ≡ shown_by f
looks-is f rec S = S.allowed ∙ ap shown_by S.own

pub looks-into-is : (f : Follower) (old : List ℕ) (a : Checked) (left : List ℕ) → LooksInto f old a left → a ≡ checked_of (shown_refusal (length old))
looks-into-is f old a left S = S.allowed.0 ∙ ap (λ (l : List ℕ). checked_of (shown_refusal (length l))) S.lent

pub looks-into-leaves : (f : Follower) (old : List ℕ) (a : Checked) (left : List ℕ) → LooksInto f old a left → left ≡ shown_leaves f old
looks-into-leaves f old a left S = sym S.leaves ∙ S.allowed.1 ∙ (λ i. shown_leaves (S.own i) (S.lent i))

pub shows-is : (field : List ℕ) (page : Page) → Shows field page → page ≡ shown field
shows-is field page S = S.allowed.0 ∙ ap shown S.lent

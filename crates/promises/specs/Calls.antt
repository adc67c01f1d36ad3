-- The calls of desk and follower, and the one that prints a field, through their contracts: which answers, and which words left in a lent
-- buffer, a contract allows.
-- Assumes nothing.
use Rattle.std.specs.Prelude.{◌≡◌, Bool, List, ℕ}
use borrow.Fn.Kinds.{Dens, ended_of}
use contract.Lifetimes.{Lfts}
use denote.Triple.Clauses.{AtExit}
use Rattle.refusal.specs.Checked.{Checked}
use Rattle.basics.specs.Below.{Bytes}
use Rattle.desk.specs.declared.Desk.{Desk}
use Rattle.desk.specs.declared.Turn.{Turn}
use Rattle.desk.proofs.Desk.open.Kinds as open-types
use Rattle.desk.proofs.Desk.open.Reads as open-contract
use Rattle.desk.proofs.Desk.edit.Kinds as edit-types
use Rattle.desk.proofs.Desk.edit.Reads as edit-contract
use Rattle.desk.proofs.Desk.undo.Kinds as undo-types
use Rattle.desk.proofs.Desk.undo.Reads as undo-contract
use Rattle.desk.proofs.Desk.send.Kinds as send-types
use Rattle.desk.proofs.Desk.send.Reads as send-contract
use Rattle.follower.specs.declared.Follower.{Follower}
use Rattle.follower.specs.declared.Followed.{Followed}
use Rattle.follower.proofs.Follower.open.Kinds as begin-types
use Rattle.follower.proofs.Follower.open.Reads as begin-contract
use Rattle.follower.proofs.Follower.follow.Kinds as follow-types
use Rattle.follower.proofs.Follower.follow.Reads as follow-contract
use Rattle.follower.proofs.Follower.shown.Kinds as shown-types
use Rattle.follower.proofs.Follower.shown.Reads as shown-contract
use Rattle.follower.proofs.Follower.shown_into.Kinds as shown-into-types
use Rattle.follower.proofs.Follower.shown_into.Reads as shown-into-contract
use Rattle.lines.specs.declared.page.Page.{Page}
use Rattle.lines.proofs.show.Kinds as show-types
use Rattle.lines.proofs.show.Reads as show-contract

-- In each of these, `input` is what the call was given and `exit` what its parameters are once it has returned; `allowed` is the contract.

-- a desk is asked for, with correction on or off
pub record Opens (on : Bool) (answer : Turn) : Type 0 where
  pub κs : Lfts 0
  pub input : Dens κs open-types.ps
  pub exit : AtExit (ended_of 0 open-types.ps open-types.r) κs
  pub correction : input.0 ≡ on
  pub allowed : open-contract.Learnt κs input answer exit

-- the desk is asked to store bytes as an item
pub record Edits (d : Desk) (item : ℕ) (bytes : List ℕ) (answer : Turn) : Type 0 where
  pub κs : Lfts 1
  pub input : Dens κs edit-types.ps
  pub exit : AtExit (ended_of 1 edit-types.ps edit-types.r) κs
  pub own : input.0 ≡ d
  pub number : input.1.0 ≡ item
  pub lent : input.1.1.0.now ≡ bytes
  pub are_bytes : Bytes bytes
  pub allowed : edit-contract.Learnt κs input answer exit

-- the desk is asked to take its latest step back
pub record Undoes (d : Desk) (answer : Turn) : Type 0 where
  pub κs : Lfts 0
  pub input : Dens κs undo-types.ps
  pub exit : AtExit (ended_of 0 undo-types.ps undo-types.r) κs
  pub own : input.0 ≡ d
  pub allowed : undo-contract.Learnt κs input answer exit

-- the desk is asked to send into a buffer that holds `old`, in which `left` is then left
pub record Sends (d : Desk) (old : List ℕ) (answer : Turn) (left : List ℕ) : Type 0 where
  pub κs : Lfts 1
  pub input : Dens κs send-types.ps
  pub exit : AtExit (ended_of 1 send-types.ps send-types.r) κs
  pub own : input.0 ≡ d
  pub lent : input.1.0.now ≡ old
  pub leaves : exit.1.0.now ≡ left
  pub allowed : send-contract.Learnt κs input answer exit

-- a follower is opened
pub record Begins (f : Follower) : Type 0 where
  pub κs : Lfts 0
  pub input : Dens κs begin-types.ps
  pub exit : AtExit (ended_of 0 begin-types.ps begin-types.r) κs
  pub allowed : begin-contract.Learnt κs input f exit

-- the follower takes in the words
pub record Follows (f : Follower) (words : List ℕ) (answer : Followed) : Type 0 where
  pub κs : Lfts 1
  pub input : Dens κs follow-types.ps
  pub exit : AtExit (ended_of 1 follow-types.ps follow-types.r) κs
  pub own : input.0 ≡ f
  pub lent : input.1.0.now ≡ words
  pub allowed : follow-contract.Learnt κs input answer exit

-- the follower is asked for the record shown
pub record Looks (f : Follower) (answer : List ℕ) : Type 0 where
  pub κs : Lfts 0
  pub input : Dens κs shown-types.ps
  pub exit : AtExit (ended_of 0 shown-types.ps shown-types.r) κs
  pub own : input.0 ≡ f
  pub allowed : shown-contract.Learnt κs input answer exit

-- and to leave it in a buffer that holds `old`, in which `left` is then left
pub record LooksInto (f : Follower) (old : List ℕ) (answer : Checked) (left : List ℕ) : Type 0 where
  pub κs : Lfts 1
  pub input : Dens κs shown-into-types.ps
  pub exit : AtExit (ended_of 1 shown-into-types.ps shown-into-types.r) κs
  pub own : input.0 ≡ f
  pub lent : input.1.0.now ≡ old
  pub leaves : exit.1.0.now ≡ left
  pub allowed : shown-into-contract.Learnt κs input answer exit

-- the lines of a field are written on a page
pub record Shows (field : List ℕ) (page : Page) : Type 0 where
  pub κs : Lfts 1
  pub input : Dens κs show-types.ps
  pub exit : AtExit (ended_of 1 show-types.ps show-types.r) κs
  pub lent : input.0.now ≡ field
  pub allowed : show-contract.Learnt κs input page exit

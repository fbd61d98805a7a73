-- A promise settles what it speaks of: two outcomes that satisfy it are equal. And it asks nothing:
-- whatever the arguments are, a caller has nothing to show. `Settles`, with `SettlesLent` and
-- `SettlesBoth` for lent buffers, and `AsksNothing` speak of a function's own contract: of what its
-- `ensures` says (`Post`) at any lifetimes, arguments and parameters at exit, and of what its
-- `requires` say (`Pre`). One law answers the first for each public function whose promise is an
-- equation; the second holds by itself where there is no `requires`. `PassesOn` speaks of the
-- contracts of two functions. Assumes nothing.
use Rattle.std.proofs.Common.{◌≡◌, ℕ, List, sym, ap, ◌∙◌}
use Rattle.std.specs.Prelude.{Result, Ok, Err}
use Rattle.codes.specs.declared.Phy.{Phy}
use Rattle.codes.specs.declared.Refusal.{Refusal}
use contract.Lifetimes.{Lfts}
use denote.Triple.Clauses.{AtExit}
use borrow.Fn.Kinds.{ParamKind, ResultKind, In, Out, Dens, res_t, ended_of}
use Rattle.codes.proofs.phy_of.Kinds as phy_of_kinds
use Rattle.codes.proofs.phy_of.Reads as phy_of_promise
use Rattle.codes.proofs.gather.Kinds as gather_kinds
use Rattle.codes.proofs.gather.Reads as gather_promise
use Rattle.codes.proofs.PhyTryFromU32.try_from.Kinds as try_from_kinds
use Rattle.codes.proofs.PhyTryFromU32.try_from.Reads as try_from_promise
use Rattle.codes.proofs.U32FromRefusal.from.Kinds as from_kinds
use Rattle.codes.proofs.U32FromRefusal.from.Reads as from_promise
use Rattle.codes.specs.Radio.{known}
use Rattle.codes.specs.Phy.{IsRowOf}
use Rattle.codes.proofs.Tests.{not_both}

pub settled : {A : Type 0} {x : A} (p q : A) → p ≡ x → q ≡ x → p ≡ q
settled p q e f = e ∙ sym f

-- two results that satisfy the promise are equal
abbrev pub Settles : (n : ℕ) (ps : List (ParamKind n)) (r : ResultKind n) → Out n ps r → Type 0
Settles n ps r Post = (κs : Lfts n) (a : Dens κs ps) (p q : (res_t r κs).Denot) (s t : AtExit (ended_of n ps r) κs) → Post κs a p s → Post κs a q t → p ≡ q

-- a lent buffer at exit is the same; and the result, too
abbrev pub SettlesLent : (n : ℕ) (ps : List (ParamKind n)) (r : ResultKind n) → Out n ps r → ((κs : Lfts n) → AtExit (ended_of n ps r) κs → List ℕ) → Type 0
SettlesLent n ps r Post lent =
    (κs : Lfts n) (a : Dens κs ps) (p q : (res_t r κs).Denot) (s t : AtExit (ended_of n ps r) κs) → Post κs a p s → Post κs a q t → lent κs s ≡ lent κs t

abbrev pub SettlesBoth : (n : ℕ) (ps : List (ParamKind n)) (r : ResultKind n) → Out n ps r → ((κs : Lfts n) → AtExit (ended_of n ps r) κs → List ℕ) → Type 0
SettlesBoth n ps r Post lent =
    (κs : Lfts n) (a : Dens κs ps) (p q : (res_t r κs).Denot) (s t : AtExit (ended_of n ps r) κs) → Post κs a p s → Post κs a q t
    → (p ≡ q) × (lent κs s ≡ lent κs t)

-- the contract asks nothing of the arguments
abbrev pub AsksNothing : (n : ℕ) (ps : List (ParamKind n)) → In n ps → Type 0
AsksNothing n ps Pre = (κs : Lfts n) (a : Dens κs ps) → Pre κs a

-- all that another function promises one does, of the same arguments, result and exit
abbrev pub PassesOn : (n : ℕ) (ps : List (ParamKind n)) (r : ResultKind n) → Out n ps r → Out n ps r → Type 0
PassesOn n ps r Post Below = (κs : Lfts n) (a : Dens κs ps) (p : (res_t r κs).Denot) (s : AtExit (ended_of n ps r) κs) → Post κs a p s → Below κs a p s

pub phy_of_settled : Settles 0 phy_of_kinds.ps phy_of_kinds.r phy_of_promise.Post
phy_of_settled κs a p q s t = settled p q

pub gather_settled : Settles 1 gather_kinds.ps gather_kinds.r gather_promise.Post
gather_settled κs a p q s t = settled p q

pub phy_of_asks_nothing : AsksNothing 0 phy_of_kinds.ps phy_of_promise.Pre
phy_of_asks_nothing κs a = tt

pub gather_asks_nothing : AsksNothing 1 gather_kinds.ps gather_promise.Pre
gather_asks_nothing κs a = tt

-- two outcomes of one mode: both its row, or both its refusal
row_settled : (mode : ℕ) (p q : Result Phy Refusal) → IsRowOf mode p → IsRowOf mode q → p ≡ q
row_settled mode (Ok p) (Ok q) e f = ap Ok (settled p q e.1 f.1)
row_settled mode (Ok p) (Err q) e f = not_both (known mode) e.0 f.0
row_settled mode (Err p) (Ok q) e f = not_both (known mode) f.0 e.0
row_settled mode (Err p) (Err q) e f = ap Err (settled p q e.1 f.1)

pub try_from_settled : Settles 0 try_from_kinds.ps try_from_kinds.r try_from_promise.Post
try_from_settled κs a p q s t = row_settled a.0 p q

pub from_settled : Settles 0 from_kinds.ps from_kinds.r from_promise.Post
from_settled κs a p q s t = settled p q

pub try_from_asks_nothing : AsksNothing 0 try_from_kinds.ps try_from_promise.Pre
try_from_asks_nothing κs a = tt

pub from_asks_nothing : AsksNothing 0 from_kinds.ps from_promise.Pre
from_asks_nothing κs a = tt

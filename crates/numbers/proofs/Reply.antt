-- One reply: any two replies that a function's own promise permits are equal, so that no promise says less than the function does.
use mathlib.Core.Path.{◌≡◌}
use contract.Lifetimes.{Lfts}
use denote.Triple.Entry.{Args, Res}
use denote.Triple.Clauses.{Ended, Lasts, AtExit, at_exit}

-- what Rattle makes of a function's `ensures`, and names `Post`: a fact of the arguments, the result, and the arguments at the exit
abbrev pub Promise : Ended → Type 1
Promise f = (κs : Lfts f.signature.lifetimes) → Args f.signature κs → Res f.signature κs → AtExit f κs → Type 0

module _ (f : Ended) (κs : Lfts f.signature.lifetimes) (given : Args f.signature κs) where
  -- what a caller gets: the result, and what stands in the lent memory at the exit
  pub record Reply : Type 0 where
    pub result : Res f.signature κs
    pub lent : Lasts f κs given

  abbrev pub Permits : Promise f → Reply → Type 0
  Permits promise r = promise κs given r.result (at_exit f κs given r.lent)

-- for any arguments, and any two replies to them
abbrev pub OneReply : (f : Ended) → Promise f → Type 0
OneReply f promise =
    (κs : Lfts f.signature.lifetimes) (given : Args f.signature κs) (r s : Reply f κs given)
    → Permits f κs given promise r
    → Permits f κs given promise s
    → r ≡ s

-- the law: replies whose two parts are equal are equal
module _ {f : Ended} {κs : Lfts f.signature.lifetimes} {given : Args f.signature κs} {r s : Reply f κs given} where
  pub same : r.result ≡ s.result → r.lent ≡ s.lent → r ≡ s
  same p q = rw (p, q)

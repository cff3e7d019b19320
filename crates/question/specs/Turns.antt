-- What the parts of a search do, by the step list.
use Rattle.std.specs.Prelude.{◌≡◌, ℕ, suc, ◌≤◌, List, [], ◌∷◌, Some, None, Option}
use Rattle.std.specs.declared.ops.ControlFlow.{ControlFlow}
use Rattle.std.specs.declared.ops.ControlFlow.TheVariants.{Continue, Break}
use Rattle.steps.specs.Clauses.{Clause}
use Rattle.steps.specs.Steps.{Trail, Spot, looking, backing, codes_of, entry, Step, Steps, Ends, Next}
use Rattle.steps.specs.declared.Entry.{Entry}
use Rattle.steps.specs.declared.Mark.{Mark}
use Rattle.steps.specs.declared.Verdict.{Verdict}
use Rattle.steps.specs.declared.Verdict.TheVariants.{NoneExist}
use Rattle.theory.specs.Meaning.{Meaning, NoWorld, HasWorld}

-- a literal was set
pub record Added (m : Meaning) (trail : Trail) (code : ℕ) (mark : Mark) (trail' : Trail) : Type 0 where
  pub has_world : HasWorld m (code ∷ codes_of trail)
  pub grown : trail' ≡ entry mark code ∷ trail

-- a literal clashed
pub record Rejected (m : Meaning) (trail : Trail) (code : ℕ) (trail' : Trail) : Type 0 where
  pub no_world : NoWorld m (code ∷ codes_of trail)
  pub unchanged : trail' ≡ trail

-- the newest entry came off, if there is one
abbrev pub Popped : Trail → Option Entry → Trail → Type 0
Popped trail None trail' = (trail ≡ []) × (trail' ≡ [])
Popped trail (Some e) trail' = trail ≡ e ∷ trail'

-- an entry came off, and its other side is on the trail, or is not to be tried or clashed
pub record OtherSide (m : Meaning) (e : Entry) (trail trail' : Trail) : Type 0 where
  pub step : (clauses : List Clause) (grant count : ℕ) → Step m clauses grant (backing (e ∷ trail) count) (looking trail' count)

pub record Dropped (m : Meaning) (e : Entry) (trail trail' : Trail) : Type 0 where
  pub step : (clauses : List Clause) (grant count : ℕ) → Step m clauses grant (backing (e ∷ trail) count) (backing trail count)
  pub unchanged : trail' ≡ trail

-- backing up led to the other side of a decision, or to the end
pub record BackedUp (m : Meaning) (trail trail' : Trail) : Type 0 where
  pub steps : (clauses : List Clause) (grant count : ℕ) → Steps m clauses grant (backing trail count) (looking trail' count)

pub record Exhausted (m : Meaning) (trail trail' : Trail) : Type 0 where
  pub steps : (clauses : List Clause) (grant count : ℕ) → Steps m clauses grant (backing trail count) (backing [] count)
  pub empty : trail' ≡ []

-- a turn of the search: at least one step
pub record Moved (m : Meaning) (clauses : List Clause) (grant : ℕ) (trail : Trail) (count : ℕ) (trail' : Trail) (count' : ℕ) : Type 0 where
  pub second : Spot
  pub first_step : Step m clauses grant (looking trail count) second
  pub more : Steps m clauses grant second (looking trail' count')

-- the last turn
pub record Stopped (m : Meaning) (clauses : List Clause) (grant : ℕ) (trail : Trail) (count : ℕ) (verdict : Verdict) (trail' : Trail) : Type 0 where
  pub last : Spot
  pub steps : Steps m clauses grant (looking trail count) last
  pub ends : Ends m clauses grant last verdict count trail'

abbrev pub TurnBy : Meaning → List Clause → ℕ → Trail → ℕ → ControlFlow Verdict ℕ → Trail → Type 0
TurnBy m clauses grant trail count (Continue count') trail' = Moved m clauses grant trail count trail' count'
TurnBy m clauses grant trail count (Break verdict) trail' = Stopped m clauses grant trail count verdict trail'

-- backing up, as a turn that began with a rule's step to it
abbrev pub TurnBackBy : Meaning → Trail → ℕ → ControlFlow Verdict ℕ → Trail → Type 0
TurnBackBy m trail count (Continue count') trail' = (count' ≡ count) × BackedUp m trail trail'
TurnBackBy m trail count (Break verdict) trail' = (verdict ≡ NoneExist) × Exhausted m trail trail'

-- rule 5's step
pub record DecidedBy (m : Meaning) (trail : Trail) (atom : ℕ) (trail' : Trail) : Type 0 where
  pub step : (clauses : List Clause) (grant count : ℕ) → Next m clauses grant trail count atom → Step m clauses grant (looking trail count) (looking trail' (suc count))

abbrev pub CountWithin : ℕ → ControlFlow Verdict ℕ → Type 0
CountWithin grant (Continue count) = count ≤ grant
CountWithin grant (Break verdict) = Unit {0}

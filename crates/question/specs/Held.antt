-- What a question keeps true of the clauses, the set literals and its stage.
use Rattle.std.specs.Prelude.{◌≡◌, ℕ, true, List, []}
use Rattle.std.specs.Coded.{Coded-set, coded_list, Unit-prop}
use Rattle.std.specs.List.{AllByRecursion, AllByRecursion-prop}
use mathlib.Core.Bool.{Bool-set}
use Rattle.steps.specs.Calls.{are_atoms_below}
use Rattle.steps.specs.Clauses.{Clause}
use Rattle.steps.specs.Steps.{Trail}
use Rattle.steps.specs.contracts.Entry as entry
use Rattle.question.specs.declared.Stage.{Stage}
use Rattle.question.specs.declared.Stage.TheVariants.{Open, Paused, Found, Closed}

-- the clauses are over the atoms that there are
abbrev pub AtomsThere : ℕ → List Clause → Type 0
AtomsThere atoms clauses = AllByRecursion (λ clause. are_atoms_below atoms clause ≡ true) clauses

pub AtomsThere-prop : (atoms : ℕ) (clauses : List Clause) → IsProp (AtomsThere atoms clauses)
AtomsThere-prop atoms clauses = AllByRecursion-prop _ (λ clause. Bool-set _ _) clauses

-- without a search under way nothing is set
abbrev pub Resting : Stage → Trail → Type 0
Resting Open trail = trail ≡ []
Resting Paused trail = Unit {0}
Resting Found trail = Unit {0}
Resting Closed trail = trail ≡ []

pub Resting-prop : (stage : Stage) (trail : Trail) → IsProp (Resting stage trail)
Resting-prop Open trail = Coded-set (coded_list entry.the_row.coded) trail []
Resting-prop Paused trail = Unit-prop
Resting-prop Found trail = Unit-prop
Resting-prop Closed trail = Coded-set (coded_list entry.the_row.coded) trail []

-- What holds of every list of calls to a question, in terms of the calls and their answers alone.
use Rattle.std.specs.Prelude.{◌≡◌, ℕ, suc, ◌+◌, ◌^◌, ◌<◌, ◌≤◌, List, [], ◌∷◌, ◌++◌, ℤ, ◌≢◌}
use Rattle.theory.specs.Meaning.{Meaning}
use Rattle.steps.specs.Calls.{Event, History, State, Refused, Posted, Searched, Resumed, Read, Ended, Closed}
use Rattle.steps.specs.Clauses.{Clause, Satisfies, Unsatisfiable}
use Rattle.steps.specs.Steps.{Trail, Runs, decisions}
use Rattle.steps.specs.declared.Verdict.{Verdict}
use Rattle.steps.specs.declared.Verdict.TheVariants.{Found, NoneExist, Paused}

-- the clauses posted so far, in order; events are newest first
abbrev pub posted_so_far : List Event → List Clause
posted_so_far [] = []
posted_so_far (Refused call why ∷ earlier) = posted_so_far earlier
posted_so_far (Posted clause ∷ earlier) = posted_so_far earlier ++ (clause ∷ [])
posted_so_far (Searched grant verdict count ∷ earlier) = posted_so_far earlier
posted_so_far (Resumed grant verdict count ∷ earlier) = posted_so_far earlier
posted_so_far (Read places world ∷ earlier) = posted_so_far earlier
posted_so_far (Ended ∷ earlier) = posted_so_far earlier
posted_so_far (Closed ∷ earlier) = posted_so_far earlier

-- the decisions counted by the last accepted search and its resumes
abbrev pub spent : List Event → ℕ
spent [] = 0
spent (Refused call why ∷ earlier) = spent earlier
spent (Posted clause ∷ earlier) = spent earlier
spent (Searched grant verdict count ∷ earlier) = count
spent (Resumed grant verdict count ∷ earlier) = spent earlier + count
spent (Read places world ∷ earlier) = spent earlier
spent (Ended ∷ earlier) = spent earlier
spent (Closed ∷ earlier) = spent earlier

pub record Satisfiable (m : Meaning) (clauses : List Clause) : Type 0 where
  pub world : List ℤ
  pub satisfies : Satisfies m clauses world

-- what a verdict, with its count, says of the clauses posted so far
pub record VerdictRight (m : Meaning) (clauses : List Clause) (grant : ℕ) (verdict : Verdict) (count : ℕ) : Type 0 where
  -- found: there are such numbers
  pub found_satisfiable : verdict ≡ Found → Satisfiable m clauses
  -- a verdict that is not paused is none exactly when there are no such numbers
  pub none_exactly : (verdict ≢ Paused) → (verdict ≡ NoneExist → Unsatisfiable m clauses) × (Unsatisfiable m clauses → verdict ≡ NoneExist)
  -- paused: as many decisions as were granted, and with 2^n - 1 granted it cannot be
  pub paused_spent : verdict ≡ Paused → count ≡ grant
  pub enough_granted : 2 ^ m.atoms ≤ suc grant → verdict ≢ Paused

-- what an answer says, after earlier calls
abbrev pub AnswerRight : Meaning → List Clause → Event → Type 0
AnswerRight m clauses (Refused call why) = Unit {0}
AnswerRight m clauses (Posted clause) = Unit {0}
AnswerRight m clauses (Searched grant verdict count) = VerdictRight m clauses grant verdict count
AnswerRight m clauses (Resumed grant verdict count) = VerdictRight m clauses grant verdict count
AnswerRight m clauses (Read places world) = Satisfies m clauses world
AnswerRight m clauses Ended = Unit {0}
AnswerRight m clauses Closed = Unit {0}

-- every answer of the list is right, and a search with its resumes never counts more than 2^n - 1 decisions
abbrev pub AllRight : Meaning → List Event → Type 0
AllRight m [] = Unit {0}
AllRight m (e ∷ earlier) = AnswerRight m (posted_so_far earlier) e × (spent (e ∷ earlier) < 2 ^ m.atoms) × AllRight m earlier

-- a search from a trail has one outcome
pub record SameOutcome (v v' : Verdict) (count count' : ℕ) (t t' : Trail) : Type 0 where
  pub verdicts : v ≡ v'
  pub counts : count ≡ count'
  pub trails : t ≡ t'

pub record Promises (m : Meaning) : Type 0 where
  -- every list of calls, refused ones among them, from the opening on
  pub every_list : (events : List Event) (state : State) → History m events state → AllRight m events
  -- the step list leaves no choice
  pub one_outcome : (clauses : List Clause) (grant : ℕ) (before : Trail) (v v' : Verdict) (count count' : ℕ) (t t' : Trail)
      → Runs m clauses grant before v count t → Runs m clauses grant before v' count' t' → SameOutcome v v' count count' t t'
  -- a count is the number of decisions
  pub counts_decisions : (clauses : List Clause) (grant : ℕ) (before : Trail) (v : Verdict) (count : ℕ) (t : Trail)
      → (run : Runs m clauses grant before v count t) → count ≡ decisions run.steps

-- What each call does, by the stage in which it comes.
use Rattle.std.proofs.Common.{◌≡◌, ℕ, true, List, Some, None, Ok, Option, Result, sym, refl, ap, ◌∙◌, subst, arith}
use Rattle.std.proofs.ByRecursion.{All-push}
use Rattle.std.proofs.lemmas.Grind.{common_steps}
use Rattle.refusals.specs.declared.Refusal.{Refusal}
use Rattle.clauses.specs.Placed.{posted_to}
use Rattle.steps.specs.Calls.{are_atoms_below, post_ground, refused, posted, searched, resumed, read, ended_paused, ended_found, closing}
use Rattle.steps.specs.Clauses.{Clause}
use Rattle.steps.specs.Steps.{Trail, codes_of}
use Rattle.steps.proofs.Every.{posted_below}
use Rattle.theory.specs.Calls.{ground_answer}
use Rattle.theory.specs.Meaning.{Meaning, WorldOf}
use Rattle.theory.specs.declared.Theory.{Ghosts}
use Rattle.question.specs.Answers.{PostBy}
use Rattle.question.specs.Asked.{trail_of, meaning_of}
use Rattle.question.specs.Held.{AtomsThere}
use Rattle.question.specs.Stages.{state_in, stage_after}
use Rattle.question.specs.declared.Ask.TheVariants as ask
use Rattle.question.specs.declared.Stage.{Stage}
use Rattle.question.specs.declared.asked.Question.{Question}
use Rattle.question.proofs.Sets.{world_is}

-- the clauses are over the atoms that there are: still, where the meaning stays, and after a post
pub still_there : {m m' : Meaning} (clauses : List Clause) → m' ≡ m → AtomsThere m.atoms clauses → AtomsThere m'.atoms clauses
still_there clauses same h = subst (λ (n : Meaning). AtomsThere n.atoms clauses) (sym same) h

pub there_after : {n atoms : ℕ} (clauses : List Clause) (clause : Clause) {clauses' : List Clause} → n ≡ atoms → clauses' ≡ posted_to clauses clause (post_ground n clauses clause)
    → AtomsThere atoms clauses → AtomsThere atoms clauses'
there_after {atoms = atoms} clauses clause {clauses'} e to h =
    after (post_ground atoms clauses clause) refl (to ∙ ap (λ k. posted_to clauses clause (post_ground k clauses clause)) e)
  where
    after : (reason : Option Refusal) → post_ground atoms clauses clause ≡ reason → clauses' ≡ posted_to clauses clause reason → AtomsThere atoms clauses'
    after (Some why) is to = subst (AtomsThere atoms) (sym to) h
    after None is to = subst (AtomsThere atoms) (sym to) (All-push (λ c. are_atoms_below atoms c ≡ true) clauses clause h (posted_below atoms clauses clause is))

-- the world that the theory gives is one of the trail
pub given_world_is_world : {T : Type 0} {theory : Ghosts T} (q : Question T theory) → WorldOf (meaning_of q) (theory.stack q.solver.theory) (theory.given_world q.solver.theory)
    → WorldOf (meaning_of q) (codes_of (trail_of q)) (theory.given_world q.solver.theory)
given_world_is_world q is = world_is _ refl q.solver.same_stack is

-- a post does as the ground for refusing it says
pub posts : (m : Meaning) (clauses : List Clause) (trail : Trail) (s : Stage) (clause : Clause) (clauses' : List Clause) (r : Result (Unit {0}) Refusal) {n : ℕ} {next : Stage}
    → Ok next ≡ stage_after s ask.Post → n ≡ m.atoms → r ≡ ground_answer (post_ground n clauses clause) → clauses' ≡ posted_to clauses clause (post_ground n clauses clause)
    → PostBy m (state_in s clauses trail) clause r (state_in s clauses' trail)
posts m clauses trail s clause clauses' r e atoms answer to = grind (arith, common_steps, posted, refused)

-- what a call may do
pub ruleset moves = (common_steps, still_there, there_after, refused, posted, searched, resumed, read, ended_paused, ended_found, closing)

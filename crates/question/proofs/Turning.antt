-- Steps one after another, and what they weigh.
use Rattle.std.proofs.Common.{◌≡◌, ℕ, ◌+◌, ◌<◌, ◌≤◌, List, [], sym, subst, arith}
use Rattle.std.specs.declared.ops.ControlFlow.{ControlFlow}
use Rattle.std.specs.declared.ops.ControlFlow.TheVariants.{Continue, Break}
use Rattle.steps.specs.Clauses.{Clause}
use Rattle.steps.specs.Steps.{Trail, Spot, looking, backing, Due, Next, Step, fail, force, force_clash, Steps, start_here, then, Ends, found, paused, none, Runs}
use Rattle.steps.proofs.Judged.{first_due_facts}
use Rattle.steps.proofs.Weight.{weight, step_lowers}
use Rattle.theory.specs.Meaning.{Meaning}
use Rattle.steps.specs.declared.Mark.TheVariants.{Forced}
use Rattle.steps.specs.declared.Verdict.{Verdict}
use Rattle.steps.specs.declared.Verdict.TheVariants.{NoneExist}
use Rattle.question.proofs.Rules.{fresh_can_set, can_set_opposite, flipped_by, backing_start, backing_on, backed_up, exhausted, decided_plain, decided_other}
use Rattle.question.specs.Held.{AtomsThere}
use Rattle.question.specs.Turns.{Added, Rejected, Moved, Stopped, TurnBackBy, TurnBy, DecidedBy, CountWithin}

module _ {m : Meaning} {clauses : List Clause} {grant : ℕ} where
  pub steps_append : {s s' s'' : Spot} → Steps m clauses grant s s' → Steps m clauses grant s' s'' → Steps m clauses grant s s''
  steps_append steps start_here = steps
  steps_append steps (then more step) = then (steps_append steps more) step

  pub one_step : {s s' : Spot} → Step m clauses grant s s' → Steps m clauses grant s s'
  one_step step = then start_here step

module _ (m : Meaning) (clauses : List Clause) (below : AtomsThere m.atoms clauses) where
  steps_lower : {grant : ℕ} {s s' : Spot} → Steps m clauses grant s s' → weight m.atoms s' ≤ weight m.atoms s
  steps_lower start_here = omega arith
  steps_lower (then steps step) = omega (arith, steps_lower steps, step_lowers m clauses below step)

  pub moved_lowers : {m₁ : Meaning} {grant : ℕ} {t t' : Trail} {k k' : ℕ} → m₁ ≡ m → Moved m₁ clauses grant t k t' k' → weight m.atoms (looking t' k') < weight m.atoms (looking t k)
  moved_lowers {grant = grant} {t} {t'} {k} {k'} same v₁ =
      let v = subst (λ (n : Meaning). Moved n clauses grant t k t' k') same v₁ in omega (arith, step_lowers m clauses below v.first_step, steps_lower v.more)

module _ (m : Meaning) (grant : ℕ) (trail : Trail) (count : ℕ) where
  pub count_within : count ≤ grant → (r : ControlFlow Verdict ℕ) (trail' : Trail) → TurnBackBy m trail count r trail' → CountWithin grant r
  count_within h (Continue count') trail' b = omega (arith, h, b.0)
  count_within h (Break verdict) trail' b = tt

module _ (m : Meaning) (clauses : List Clause) (grant : ℕ) (trail : Trail) (count : ℕ) where
  -- a rule led to backing up
  pub turned_back : Step m clauses grant (looking trail count) (backing trail count) → (r : ControlFlow Verdict ℕ) (trail' : Trail) → TurnBackBy m trail count r trail'
      → TurnBy m clauses grant trail count r trail'
  turned_back step (Continue count') trail' b =
      record {
        second = backing trail count;
        first_step = step;
        more = subst (λ k. Steps m clauses grant (backing trail count) (looking trail' k)) (sym b.0) (b.1.steps clauses grant count);
      }
  turned_back step (Break verdict) trail' b =
      record {
        last = backing [] count;
        steps = steps_append (one_step step) (b.1.steps clauses grant count);
        ends =
            subst (λ v. Ends m clauses grant (backing [] count) v count trail') (sym b.0)
            (subst (λ t. Ends m clauses grant (backing [] count) NoneExist count t) (sym b.1.empty) none);
      }

  one_move : {trail' : Trail} {count' : ℕ} → Step m clauses grant (looking trail count) (looking trail' count') → Moved m clauses grant trail count trail' count'
  one_move {trail'} {count'} step = record { second = looking trail' count'; first_step = step; more = start_here }

  -- the due literal was set
  pub forced : {literal : ℕ} {trail' : Trail} → Due m clauses trail literal → Added m trail literal Forced trail' → Moved m clauses grant trail count trail' count
  forced due a = one_move (subst (λ t. Step m clauses grant (looking trail count) (looking t count)) (sym a.grown) (force due a.has_world))

  -- the due literal clashed
  pub clashed : {literal : ℕ} {m₁ : Meaning} {trail₁ : Trail} → Due m clauses trail literal → Rejected m trail literal trail₁ → m₁ ≡ m → (r : ControlFlow Verdict ℕ) (trail' : Trail)
      → TurnBackBy m₁ trail₁ count r trail' → TurnBy m clauses grant trail count r trail'
  clashed {trail₁ = trail₁} due x same r trail' b =
      turned_back (force_clash due x.no_world) r trail'
      (subst (λ t. TurnBackBy m t count r trail') x.unchanged (subst (λ (n : Meaning). TurnBackBy n trail₁ count r trail') same b))

  -- an atom was decided
  pub decided : {atom : ℕ} {trail' : Trail} → Next m clauses grant trail count atom → DecidedBy m trail atom trail' → Moved m clauses grant trail count trail' (count + 1)
  decided {trail' = trail'} next d = one_move (subst (λ k. Step m clauses grant (looking trail count) (looking trail' k)) (omega arith) (d.step clauses grant count next))

  -- no step is left
  pub stopped : {v : Verdict} → Ends m clauses grant (looking trail count) v count trail → Stopped m clauses grant trail count v trail
  stopped ends = record { last = looking trail count; steps = start_here; ends = ends }

-- turns one after another, under one meaning
module _ (m m₁ : Meaning) (same : m₁ ≡ m) (clauses : List Clause) (grant : ℕ) (start : Trail) where
  pub turn_more : {t t' : Trail} {k k' : ℕ} → Steps m clauses grant (looking start 0) (looking t k) → Moved m₁ clauses grant t k t' k'
      → Steps m clauses grant (looking start 0) (looking t' k')
  turn_more {t} {t'} {k} {k'} steps v₁ =
      let v = subst (λ (n : Meaning). Moved n clauses grant t k t' k') same v₁ in steps_append steps (steps_append (one_step v.first_step) v.more)

  pub runs_over : {t t' : Trail} {k : ℕ} {v : Verdict} → Steps m clauses grant (looking start 0) (looking t k) → Stopped m₁ clauses grant t k v t'
      → Runs m clauses grant start v k t'
  runs_over {t} {t'} {k} {v} steps s₁ =
      let s = subst (λ (n : Meaning). Stopped n clauses grant t k v t') same s₁ in record { last = s.last; steps = steps_append steps s.steps; ends = s.ends }

-- what the parts of a search may come to
pub ruleset turns = (can_set_opposite, flipped_by, backing_start, backing_on, backed_up, exhausted, decided_plain, decided_other, turned_back, count_within, forced, clashed, decided, stopped, fail, found, paused, fresh_can_set, first_due_facts, start_here, turn_more, runs_over, moved_lowers)

-- What holds of every list of calls, from what every spot of a search keeps.
use Rattle.std.proofs.Common.{◌≡◌, ℕ, ◌+◌, ◌≤◌, true, not, List, [], ◌∷◌, ◌++◌, replicate, ℤ, pos, Some, None, sym, refl, ap, ◌∙◌, subst, inl, ⊎_elim, arith}
use Rattle.std.proofs.ByRecursion.{All-push}
use Rattle.std.proofs.lemmas.List.{length-replicate}
use Rattle.std.proofs.lemmas.Bool.{cases_Bool, cond-true, not_from_false}
use Rattle.std.specs.List.{AllByRecursion}
use Rattle.refusals.specs.declared.Refusal.TheVariants.{NoSuchAtom}
use Rattle.theory.specs.Meaning.{Meaning, Lawful, WorldOf}
use Rattle.steps.specs.Calls.{Event, State, open_with, paused_at, found_at, closed, are_atoms_below, post_ground, state_after, Does, refused, posted, searched, resumed, read, ended_paused, ended_found, closing, History, opening, next}
use Rattle.steps.specs.Clauses.{Clause, AllSet, Satisfies}
use Rattle.steps.specs.Promises.{posted_so_far, spent, VerdictRight, AnswerRight, AllRight, Promises}
use Rattle.steps.specs.Steps.{Trail, Spot, looking, codes_of, Quiet, Ends, found, paused, none, Runs}
use Rattle.steps.specs.declared.Verdict.{Verdict}
use Rattle.steps.specs.declared.Verdict.TheVariants.{Found, NoneExist, Paused}
use Rattle.steps.proofs.Bound.{count_of, left_to_decide, one_left, steps_bound}
use Rattle.steps.proofs.Judged.{all_alive_hold, none≢some}
use Rattle.steps.proofs.Once.{one_outcome, counts_decisions}
use Rattle.steps.proofs.Sound.{Sound, steps_sound}
use Rattle.steps.proofs.Unset.{unset_all, full, full_power}

abbrev rank : Verdict → ℕ
rank Found = 0
rank NoneExist = 1
rank Paused = 2

other : {A : Type 0} {v v' : Verdict} → (rank v ≡ rank v' → ⊥) → v ≡ v' → A
other ne e = absurd (ne (ap rank e))

-- a clause that may be posted is over the atoms that there are
pub posted_below : (atoms : ℕ) (clauses : List Clause) (clause : Clause) → post_ground atoms clauses clause ≡ None → are_atoms_below atoms clause ≡ true
posted_below atoms clauses clause e =
    ⊎_elim (λ t. t) (λ f. absurd (none≢some (sym e ∙ cond-true (not (are_atoms_below atoms clause)) (Some NoSuchAtom) _ (not_from_false (are_atoms_below atoms clause) f))))
    (cases_Bool (are_atoms_below atoms clause))

module _ (m : Meaning) (lawful : Lawful m) where
  abbrev Below : List Clause → Type 0
  Below clauses = AllByRecursion (λ clause. are_atoms_below m.atoms clause ≡ true) clauses

  -- a search that starts over has every number before it
  start_sound : (clauses : List Clause) (below : Below clauses) → Sound m lawful clauses below (looking [] 0)
  start_sound clauses below =
      record {
        has_world = record { world = replicate m.variables (pos 0); is_world = record { whole = length-replicate m.variables (pos 0); all_hold = tt } };
        apart = refl;
        met = λ w sat. inl tt;
      }

  module _ (clauses : List Clause) (below : Below clauses) where
    found_satisfies : (t : Trail) → Quiet m clauses t → AllSet m.atoms (codes_of t) → (w : List ℤ) → WorldOf m (codes_of t) w → Satisfies m clauses w
    found_satisfies t q all w is = record { whole = is.whole; all_hold = all_alive_hold m (codes_of t) w is.all_hold all clauses below q.none_dead }

    -- what a verdict leaves
    abbrev After : ℕ → Verdict → Trail → Type 0
    After spent Found t = (w : List ℤ) → WorldOf m (codes_of t) w → Satisfies m clauses w
    After spent NoneExist t = Unit {0}
    After spent Paused t = Sound m lawful clauses below (looking t 0) × (spent + left_to_decide m.atoms (looking t 0) ≤ full m.atoms)

    record Outcome (grant before : ℕ) (v : Verdict) (k : ℕ) (t : Trail) : Type 0 where
      right : VerdictRight m clauses grant v k
      bound : before + k ≤ full m.atoms
      after : After (before + k) v t

    outcome : (grant before : ℕ) {s : Spot} {v : Verdict} {k : ℕ} {t : Trail} → Ends m clauses grant s v k t → Sound m lawful clauses below s
        → before + (count_of s + left_to_decide m.atoms s) ≤ full m.atoms → Outcome grant before v k t
    outcome grant before (found {t} {k} q all) o b =
        let sat = found_satisfies t q all o.has_world.world o.has_world.is_world in
        record {
          right =
              record {
                found_satisfiable = λ _. record { world = o.has_world.world; satisfies = sat };
                none_exactly = λ _. (other (λ e. omega (arith, e)), λ un. absurd (un o.has_world.world sat));
                paused_spent = other (λ e. omega (arith, e));
                enough_granted = λ _. other (λ e. omega (arith, e));
              };
          bound = omega (arith, b);
          after = found_satisfies t q all;
        }
    outcome grant before (paused {t} {k} {a} q low e) o b =
        let some = one_left m.atoms (codes_of t) a low in
        record {
          right =
              record {
                found_satisfiable = other (λ e. omega (arith, e));
                none_exactly = λ not-paused. absurd (not-paused refl);
                paused_spent = λ _. e;
                enough_granted = λ g _. omega (arith, g, b, e, some, full_power m.atoms);
              };
          bound = omega (arith, b);
          after = (record { has_world = o.has_world; apart = o.apart; met = o.met }, omega (arith, b));
        }
    outcome grant before (none {k}) o b =
        record {
          right =
              record {
                found_satisfiable = other (λ e. omega (arith, e));
                none_exactly = λ _. (λ _ w sat. o.met w sat, λ _. refl);
                paused_spent = other (λ e. omega (arith, e));
                enough_granted = λ _. other (λ e. omega (arith, e));
              };
          bound = omega (arith, b);
          after = tt;
        }

    run_outcome : (grant before : ℕ) (t : Trail) {v : Verdict} {k : ℕ} {t' : Trail} → Runs m clauses grant t v k t' → Sound m lawful clauses below (looking t 0)
        → before + left_to_decide m.atoms (looking t 0) ≤ full m.atoms → Outcome grant before v k t'
    run_outcome grant before t run o b =
        outcome grant before run.ends (steps_sound m lawful clauses below run.steps o)
        (omega (arith, b, steps_bound m lawful clauses below run.steps o))

  -- what a state keeps: the clauses posted so far, and the decisions spent
  record Open (so_far : List Clause) (spent : ℕ) (clauses : List Clause) : Type 0 where
    same : clauses ≡ so_far
    below : Below clauses
    few : spent ≤ full m.atoms

  record Waiting (so_far : List Clause) (spent : ℕ) (clauses : List Clause) (v : Verdict) (t : Trail) : Type 0 where
    opened : Open so_far spent clauses
    after : After clauses opened.below spent v t

  abbrev Kept : List Clause → ℕ → State → Type 0
  Kept so_far spent (open_with clauses) = Open so_far spent clauses
  Kept so_far spent (paused_at clauses t) = Waiting so_far spent clauses Paused t
  Kept so_far spent (found_at clauses t) = Waiting so_far spent clauses Found t
  Kept so_far spent closed = spent ≤ full m.atoms

  kept_few : (so_far : List Clause) (spent : ℕ) (s : State) → Kept so_far spent s → spent ≤ full m.atoms
  kept_few so_far spent (open_with clauses) k = k.few
  kept_few so_far spent (paused_at clauses t) k = k.opened.few
  kept_few so_far spent (found_at clauses t) k = k.opened.few
  kept_few so_far spent closed k = k

  kept_after : (so_far : List Clause) (before : ℕ) (clauses : List Clause) → clauses ≡ so_far → (below : Below clauses) (grant k : ℕ) (v : Verdict) (t : Trail)
      → Outcome clauses below grant before v k t → Kept so_far (before + k) (state_after v clauses t)
  kept_after so_far before clauses same below grant k Found t o = record { opened = record { same = same; below = below; few = o.bound }; after = o.after }
  kept_after so_far before clauses same below grant k NoneExist t o = record { same = same; below = below; few = o.bound }
  kept_after so_far before clauses same below grant k Paused t o = record { opened = record { same = same; below = below; few = o.bound }; after = o.after }

  record Step (events : List Event) (e : Event) (s' : State) : Type 0 where
    kept : Kept (posted_so_far (e ∷ events)) (spent (e ∷ events)) s'
    right : AnswerRight m (posted_so_far events) e

  does : (events : List Event) (e : Event) (s s' : State) → Kept (posted_so_far events) (spent events) s → Does m s e s' → Step events e s'
  does events e s s' k (refused why) = record { kept = k; right = tt }
  does events e s s' k (posted {ks} {k = c} reason) =
      record {
        kept =
            record {
              same = ap (λ cs. cs ++ (c ∷ [])) k.same;
              below = All-push (λ clause. are_atoms_below m.atoms clause ≡ true) ks c k.below (posted_below m.atoms ks c reason);
              few = k.few;
            };
        right = tt;
      }
  does events e s s' k (searched {ks} {grant} {count} {v} {t} run) =
      let o = run_outcome ks k.below grant 0 [] run (start_sound ks k.below) (omega (arith, ap full (unset_all m.atoms))) in
      record {
        kept =
            subst (λ n. Kept (posted_so_far events) n (state_after v ks t)) (omega arith)
            (kept_after (posted_so_far events) 0 ks k.same k.below grant count v t o);
        right = subst (λ cs. VerdictRight m cs grant v count) k.same o.right;
      }
  does events e s s' k (resumed {ks} {grant} {count} {v} {t} {t'} run) =
      let o = run_outcome ks k.opened.below grant (spent events) t run k.after.0 k.after.1 in
      record {
        kept = kept_after (posted_so_far events) (spent events) ks k.opened.same k.opened.below grant count v t' o;
        right = subst (λ cs. VerdictRight m cs grant v count) k.opened.same o.right;
      }
  does events e s s' k (read {ks} {t} {places} {world = w} room is) =
      record { kept = k; right = subst (λ cs. Satisfies m cs w) k.opened.same (k.after w is) }
  does events e s s' k ended_paused = record { kept = k.opened; right = tt }
  does events e s s' k ended_found = record { kept = k.opened; right = tt }
  does events e s s' k closing = record { kept = k.few; right = tt }

  every : (events : List Event) (s : State) → History m events s → Kept (posted_so_far events) (spent events) s × AllRight m events
  every events s opening = (record { same = refl; below = tt; few = omega arith }, tt)
  every events s (next {events = before} {e = e} {s = s₀} h d) =
      let i = every before s₀ h in
      let o = does before e s₀ s i.0 d in
      (o.kept, (o.right, omega (arith, kept_few (posted_so_far (e ∷ before)) (spent (e ∷ before)) s o.kept, full_power m.atoms), i.1))

  pub promises : Promises m
  promises =
      record {
        every_list = λ events s h. (every events s h).1;
        one_outcome = λ clauses grant before v v' k k' t t'. one_outcome m clauses grant before v v' k k' t t';
        counts_decisions = λ clauses grant before v k t. counts_decisions m clauses grant before v k t;
      }

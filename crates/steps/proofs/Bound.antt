-- A search with its resumes counts at most 2^n - 1 decisions: what is left to decide falls with each.
use Rattle.std.proofs.Common.{◌≡◌, ℕ, suc, ◌+◌, ◌*◌, ◌≤◌, true, List, [], ◌∷◌, ap, arith}
use Rattle.std.specs.List.{AllByRecursion}
use Rattle.theory.specs.Meaning.{Meaning, Lawful}
use Rattle.steps.specs.Calls.{are_atoms_below}
use Rattle.steps.specs.Clauses.{Clause, opposite, LowestUnset}
use Rattle.steps.specs.Steps.{Trail, Spot, looking, backing, codes_of, Step, fail, force, force_clash, decide, decide_clash, drop_flipped, drop_forced, flip, flip_clash, Steps, start_here, then}
use Rattle.steps.specs.declared.Mark.{Mark}
use Rattle.steps.specs.declared.Mark.TheVariants.{Decided, Flipped, Forced}
use Rattle.steps.proofs.Judged.{first_due_facts}
use Rattle.steps.proofs.Opposites.{atom_opposite}
use Rattle.steps.proofs.Sound.{Sound, steps_sound, fresh_lowest}
use Rattle.steps.proofs.Unset.{unset, unset_push, unset_same, full}

abbrev pub count_of : Spot → ℕ
count_of (looking t k) = k
count_of (backing t k) = k

-- of each decided entry the other side is left
abbrev pub aside_of : Mark → ℕ → ℕ
aside_of Decided k = k
aside_of Flipped k = 0
aside_of Forced k = 0

abbrev pub left_aside : ℕ → Trail → ℕ
left_aside n [] = 0
left_aside n (e ∷ t) = aside_of e.mark (full (unset n (codes_of (e ∷ t)))) + left_aside n t

-- how many decisions can still come
abbrev pub left_to_decide : ℕ → Spot → ℕ
left_to_decide n (looking t k) = full (unset n (codes_of t)) + left_aside n t
left_to_decide n (backing t k) = left_aside n t

full_less : (j k : ℕ) → j ≡ suc k → full j ≡ full k + full k + 1
full_less j k e = ap full e

-- some atom is unset, so at least one decision can still come
pub one_left : (n : ℕ) (set : List ℕ) (a : ℕ) → LowestUnset n set a → 1 ≤ full (unset n set)
one_left n set a low =
    let fresh = (fresh_lowest n set a low).0 in
    omega (arith, full_less (unset n set) (unset n (2 * a ∷ set)) (unset_push n (2 * a) set fresh.0 fresh.1))

module _ (m : Meaning) (lawful : Lawful m) (clauses : List Clause) (below : AllByRecursion (λ clause. are_atoms_below m.atoms clause ≡ true) clauses) where
  pub step_bound : {grant : ℕ} {s s' : Spot} → Step m clauses grant s s' → Sound m lawful clauses below s
      → count_of s' + left_to_decide m.atoms s' ≤ count_of s + left_to_decide m.atoms s
  step_bound (fail dead) o = omega arith
  step_bound (force {t} {k} {l} d has) o =
      let fresh = first_due_facts m.atoms (codes_of t) clauses l below d.first_is_due in
      omega (arith, full_less (unset m.atoms (codes_of t)) (unset m.atoms (l ∷ codes_of t)) (unset_push m.atoms l (codes_of t) fresh.0 fresh.1))
  step_bound (force_clash d clash) o = omega arith
  step_bound (decide {t} {k} {a} n has) o =
      let fresh = (fresh_lowest m.atoms (codes_of t) a n.lowest).0 in
      omega (arith, full_less (unset m.atoms (codes_of t)) (unset m.atoms (2 * a ∷ codes_of t)) (unset_push m.atoms (2 * a) (codes_of t) fresh.0 fresh.1))
  step_bound (decide_clash {t} {k} {a} n clash) o =
      let fresh = (fresh_lowest m.atoms (codes_of t) a n.lowest).1 in
      omega (arith, full_less (unset m.atoms (codes_of t)) (unset m.atoms ((2 * a + 1) ∷ codes_of t)) (unset_push m.atoms (2 * a + 1) (codes_of t) fresh.0 fresh.1))
  step_bound drop_flipped o = omega arith
  step_bound drop_forced o = omega arith
  step_bound (flip {t} {k} {l} has) o =
      omega (arith, ap full (unset_same m.atoms (opposite l) l (codes_of t) (atom_opposite l)))
  step_bound (flip_clash clash) o = omega arith

  pub steps_bound : {grant : ℕ} {s s' : Spot} → Steps m clauses grant s s' → Sound m lawful clauses below s
      → count_of s' + left_to_decide m.atoms s' ≤ count_of s + left_to_decide m.atoms s
  steps_bound start_here o = omega arith
  steps_bound (then steps step) o = omega (arith, steps_bound steps o, step_bound step (steps_sound m lawful clauses below steps o))

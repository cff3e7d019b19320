-- Every search ends: each step lowers a weight of the spot.
use Rattle.std.proofs.Common.{◌≡◌, ℕ, zero, suc, ◌+◌, ◌*◌, ◌<◌, ◌≤◌, true, List, [], ◌∷◌, ap, arith}
use Rattle.std.specs.List.{AllByRecursion}
use Rattle.theory.specs.Meaning.{Meaning}
use Rattle.steps.specs.Calls.{are_atoms_below}
use Rattle.steps.specs.Clauses.{Clause, opposite}
use Rattle.steps.specs.Steps.{Trail, Spot, looking, backing, codes_of, Step, fail, force, force_clash, decide, decide_clash, drop_flipped, drop_forced, flip, flip_clash}
use Rattle.steps.specs.declared.Mark.{Mark}
use Rattle.steps.specs.declared.Mark.TheVariants.{Decided, Flipped, Forced}
use Rattle.steps.proofs.Judged.{first_due_facts}
use Rattle.steps.proofs.Opposites.{atom_opposite}
use Rattle.steps.proofs.Sound.{fresh_lowest}
use Rattle.steps.proofs.Unset.{unset, unset_push, unset_same}

-- 4 · 2^k - 3
abbrev pub heft : ℕ → ℕ
heft zero = 1
heft (suc k) = heft k + heft k + 3

abbrev pub heft_of : Mark → ℕ → ℕ
heft_of Decided k = heft k + 2
heft_of Flipped k = 1
heft_of Forced k = 1

abbrev pub trail_weight : ℕ → Trail → ℕ
trail_weight n [] = 0
trail_weight n (e ∷ t) = heft_of e.mark (unset n (codes_of (e ∷ t))) + trail_weight n t

abbrev pub weight : ℕ → Spot → ℕ
weight n (looking t k) = heft (unset n (codes_of t)) + trail_weight n t
weight n (backing t k) = trail_weight n t

heft_some : (k : ℕ) → 1 ≤ heft k
heft_some zero = omega arith
heft_some (suc k) = omega arith

heft_less : (j k : ℕ) → j ≡ suc k → heft j ≡ heft k + heft k + 3
heft_less j k e = ap heft e

module _ (m : Meaning) (clauses : List Clause) (below : AllByRecursion (λ clause. are_atoms_below m.atoms clause ≡ true) clauses) where
  pub step_lowers : {grant : ℕ} {s s' : Spot} → Step m clauses grant s s' → weight m.atoms s' < weight m.atoms s
  step_lowers (fail {t} dead) = omega (arith, heft_some (unset m.atoms (codes_of t)))
  step_lowers (force {t} {k} {l} d has) =
      let fresh = first_due_facts m.atoms (codes_of t) clauses l below d.first_is_due in
      omega (arith, heft_less (unset m.atoms (codes_of t)) (unset m.atoms (l ∷ codes_of t)) (unset_push m.atoms l (codes_of t) fresh.0 fresh.1))
  step_lowers (force_clash {t} d clash) = omega (arith, heft_some (unset m.atoms (codes_of t)))
  step_lowers (decide {t} {k} {a} n has) =
      let fresh = (fresh_lowest m.atoms (codes_of t) a n.lowest).0 in
      omega (arith, heft_less (unset m.atoms (codes_of t)) (unset m.atoms (2 * a ∷ codes_of t)) (unset_push m.atoms (2 * a) (codes_of t) fresh.0 fresh.1))
  step_lowers (decide_clash {t} {k} {a} n clash) =
      let fresh = (fresh_lowest m.atoms (codes_of t) a n.lowest).1 in
      omega (arith, heft_less (unset m.atoms (codes_of t)) (unset m.atoms ((2 * a + 1) ∷ codes_of t)) (unset_push m.atoms (2 * a + 1) (codes_of t) fresh.0 fresh.1))
  step_lowers drop_flipped = omega arith
  step_lowers drop_forced = omega arith
  step_lowers (flip {t} {k} {l} has) = omega (arith, ap heft (unset_same m.atoms (opposite l) l (codes_of t) (atom_opposite l)))
  step_lowers (flip_clash clash) = omega arith

-- A literal and its opposite. The law of the interface is used here, and nowhere else.
use Rattle.std.proofs.Common.{◌≡◌, ℕ, ◌+◌, ◌-◌, ◌*◌, ◌/◌, ◌%◌, ◌<◌, Bool, true, false, not, eqb, List, length, ℤ, sym, refl, ap, ◌∙◌, subst, arith}
use Rattle.std.proofs.lemmas.Bool.{cond_both, eqb-true, eqb-false}
use Rattle.theory.specs.Meaning.{Meaning, Lawful, atom_of}
use Rattle.steps.specs.Clauses.{opposite}

pub atom_opposite : (l : ℕ) → atom_of (opposite l) ≡ atom_of l
atom_opposite l =
    cond_both (eqb (l % 2) 0) (l + 1) (l - 1) (λ c. c / 2 ≡ l / 2)
    (λ e. omega (arith, eqb-true (l % 2) 0 e)) (λ e. omega (arith, eqb-false (l % 2) 0 e))

pub opposite_plain : (a : ℕ) → opposite (2 * a) ≡ 2 * a + 1
opposite_plain a =
    cond_both (eqb ((2 * a) % 2) 0) (2 * a + 1) (2 * a - 1) (λ c. c ≡ 2 * a + 1)
    (λ e. refl) (λ e. omega (arith, eqb-false ((2 * a) % 2) 0 e))

pub opposite_other : (a : ℕ) → opposite (2 * a + 1) ≡ 2 * a
opposite_other a =
    cond_both (eqb ((2 * a + 1) % 2) 0) (2 * a + 1 + 1) (2 * a + 1 - 1) (λ c. c ≡ 2 * a)
    (λ e. omega (arith, eqb-true ((2 * a + 1) % 2) 0 e)) (λ e. omega arith)

not_not : (b : Bool) → b ≡ not (not b)
not_not true = refl
not_not false = refl

-- in every world exactly one of a literal and its opposite holds
pub opposite_holds : (m : Meaning) → Lawful m → (l : ℕ) → atom_of l < m.atoms → (w : List ℤ) → length w ≡ m.variables
    → m.holds (opposite l) w ≡ not (m.holds l w)
opposite_holds m lawful l h w whole =
    let law = lawful.one_of_two (atom_of l) h w whole in
    cond_both (eqb (l % 2) 0) (l + 1) (l - 1) (λ c. m.holds c w ≡ not (m.holds l w))
    (λ e.
    let even : 2 * (l / 2) ≡ l = omega (arith, eqb-true (l % 2) 0 e) in
    subst (λ x. m.holds (x + 1) w ≡ not (m.holds x w)) even law)
    (λ e.
    let odd : 2 * (l / 2) + 1 ≡ l = omega (arith, eqb-false (l % 2) 0 e) in
    let plain : 2 * (l / 2) ≡ l - 1 = omega (arith, eqb-false (l % 2) 0 e) in
    subst (λ x. m.holds x w ≡ not (m.holds l w)) plain
    (subst (λ x. m.holds (2 * (l / 2)) w ≡ not (m.holds x w)) odd (not_not (m.holds (2 * (l / 2)) w) ∙ ap not (sym law))))

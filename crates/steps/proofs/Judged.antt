-- What dead clauses and due literals say of the worlds in which the set literals hold.
use Rattle.std.proofs.Common.{◌≡◌, ℕ, ◌+◌, ◌-◌, ◌/◌, ◌%◌, ◌<◌, true, false, cond, not, ◌||◌, eqb, ltb, ◌⊎◌, List, [], ◌∷◌, length, ℤ, Some, None, Option, sym, refl, ap, ◌∙◌, subst, inl, inr, ⊎_elim, arith}
use Rattle.std.proofs.lemmas.Bool.{and_parts, or_parts, cond_both, eqb-true, eqb-false, ne_eqb, ltb-true, or_from, or_cases, or_left, or_right, and_cases, false≢true, not-true, not-false, both_ways, cases_Bool, cond-true, cond-false}
use Rattle.std.proofs.lemmas.Bool.Decides.{nat_tests}
use Rattle.std.specs.List.{AllByRecursion}
use Rattle.theory.specs.Meaning.{Meaning, Lawful, AllHold, atom_of, has, names}
use Rattle.steps.specs.Calls.{are_atoms_below}
use Rattle.steps.specs.Clauses.{Clause, opposite, is_true, is_false, dead, due, some_dead, or_else, first_due, holds_in, AllSet}
use Rattle.steps.proofs.Opposites.{opposite_holds}

-- a set literal names its atom
pub has_names : (set : List ℕ) (l : ℕ) → has set l ≡ true → names set (atom_of l) ≡ true
has_names [] l h = h
has_names (x ∷ set) l h = let i : has set l ≡ true → names set (atom_of l) ≡ true = has_names set l in grind (arith, nat_tests)

-- two codes of one atom are a literal and its opposite
same_atom : (x l : ℕ) → (x ≡ l → ⊥) → (x ≡ opposite l → ⊥) → x / 2 ≡ l / 2 → ⊥
same_atom x l e o h =
    cond_both (eqb (l % 2) 0) (l + 1) (l - 1) (λ c. (x ≡ c → ⊥) → ⊥)
    (λ even other. omega (arith, eqb-true (l % 2) 0 even, other, e, h))
    (λ odd other. omega (arith, eqb-false (l % 2) 0 odd, other, e, h))
    o

-- a named atom has the literal or its opposite set
pub names_has : (set : List ℕ) (l : ℕ) → has set l ≡ false → has set (opposite l) ≡ false → names set (atom_of l) ≡ false
names_has [] l h o = refl
names_has (x ∷ set) l h o =
    let p = or_parts (eqb x l) (has set l) h in
    let q = or_parts (eqb x (opposite l)) (has set (opposite l)) o in
    let i = names_has set l p.1 q.1 in
    or_from (eqb (atom_of x) (atom_of l)) (names set (atom_of l))
    (ne_eqb (atom_of x) (atom_of l) (same_atom x l (eqb-false x l p.0) (eqb-false x (opposite l) q.0))) i

pub none≢some : {A : Type 0} {x : A} → ◌≡◌ {A = Option A} None (Some x) → ⊥
none≢some {A} e = let z : ◌≡◌ {A = ℕ} 0 1 = ap (λ o. count o) e in omega (arith, z)
  where
    count : Option A → ℕ
    count None = 0
    count (Some x) = 1

pub some_inj : {x l : ℕ} → ◌≡◌ {A = Option ℕ} (Some x) (Some l) → x ≡ l
some_inj e = cc

pub or_else_cases : (o later : Option ℕ) (l : ℕ) → or_else o later ≡ Some l → (o ≡ Some l) ⊎ (later ≡ Some l)
or_else_cases None later l e = inr e
or_else_cases (Some x) later l e = inl e

-- `due` of a clause whose first literal is not false
abbrev unset_due : List ℕ → ℕ → Clause → Option ℕ
unset_due set x clause = cond (is_true set x || not (dead set clause)) None (Some x)

due_unset : (set : List ℕ) (x : ℕ) (clause : Clause) (l : ℕ) → unset_due set x clause ≡ Some l → (x ≡ l) × (is_true set x ≡ false) × (dead set clause ≡ true)
due_unset set x clause l d =
    ⊎_elim (λ t. absurd (none≢some (sym (cond-true (is_true set x || not (dead set clause)) None (Some x) t) ∙ d)))
    (λ u.
    let p = or_parts (is_true set x) (not (dead set clause)) u in
    (some_inj (sym (cond-false (is_true set x || not (dead set clause)) None (Some x) u) ∙ d), p.0, not-false (dead set clause) p.1))
    (cases_Bool (is_true set x || not (dead set clause)))

module _ (m : Meaning) (w : List ℤ) where
  pub has_holds : (set : List ℕ) (l : ℕ) → AllHold m set w → has set l ≡ true → m.holds l w ≡ true
  has_holds [] l h s = absurd (false≢true s)
  has_holds (x ∷ set) l h s =
      ⊎_elim (λ e. subst (λ c. m.holds c w ≡ true) (eqb-true x l e) h.0) (λ later. has_holds set l h.1 later)
      (or_cases (eqb x l) (has set l) s)

  module _ (lawful : Lawful m) (whole : length w ≡ m.variables) (set : List ℕ) (hold : AllHold m set w) where
    -- a false literal does not hold
    pub false_fails : (l : ℕ) → atom_of l < m.atoms → is_false set l ≡ true → m.holds l w ≡ false
    false_fails l below f =
        not-true (m.holds l w) (sym (opposite_holds m lawful l below w whole) ∙ has_holds set (opposite l) hold f)

    pub dead_fails : (clause : Clause) → are_atoms_below m.atoms clause ≡ true → dead set clause ≡ true → holds_in m w clause ≡ false
    dead_fails [] below d = refl
    dead_fails (l ∷ clause) below d =
        let p = and_parts (ltb (atom_of l) m.atoms) (are_atoms_below m.atoms clause) below in
        let q = and_parts (is_false set l) (dead set clause) d in
        or_from (m.holds l w) (holds_in m w clause) (false_fails l (ltb-true (atom_of l) m.atoms p.0) q.0) (dead_fails clause p.1 q.1)

    -- a due literal holds where its clause does
    pub due_holds : (clause : Clause) (l : ℕ) → are_atoms_below m.atoms clause ≡ true → due set clause ≡ Some l → holds_in m w clause ≡ true → m.holds l w ≡ true
    due_holds [] l below d h = absurd (false≢true h)
    due_holds (x ∷ clause) l below d h =
        let p = and_parts (ltb (atom_of x) m.atoms) (are_atoms_below m.atoms clause) below in
        ⊎_elim
        (λ f. due_holds clause l p.1 (sym (cond-true (is_false set x) (due set clause) (unset_due set x clause) f) ∙ d)
        (⊎_elim (λ t. absurd (both_ways (m.holds x w) (false_fails x (ltb-true (atom_of x) m.atoms p.0) f) t)) (λ later. later) (or_cases (m.holds x w) (holds_in m w clause) h)))
        (λ f.
        let u = due_unset set x clause l (sym (cond-false (is_false set x) (due set clause) (unset_due set x clause) f) ∙ d) in
        subst (λ c. m.holds c w ≡ true) u.0
        (⊎_elim (λ t. t) (λ later. absurd (both_ways (holds_in m w clause) (dead_fails clause p.1 u.2) later)) (or_cases (m.holds x w) (holds_in m w clause) h)))
        (cases_Bool (is_false set x))

    -- where all clauses hold, none is dead, and the first due literal holds
    pub none_dead_where_all_hold : (clauses : List Clause) → AllByRecursion (λ clause. are_atoms_below m.atoms clause ≡ true) clauses
        → AllByRecursion (λ clause. holds_in m w clause ≡ true) clauses → some_dead set clauses ≡ false
    none_dead_where_all_hold [] below h = refl
    none_dead_where_all_hold (clause ∷ clauses) below h =
        or_from (dead set clause) (some_dead set clauses)
        (⊎_elim (λ d. absurd (both_ways (holds_in m w clause) (dead_fails clause below.0 d) h.0)) (λ alive. alive) (cases_Bool (dead set clause)))
        (none_dead_where_all_hold clauses below.1 h.1)

    pub first_due_holds : (clauses : List Clause) (l : ℕ) → AllByRecursion (λ clause. are_atoms_below m.atoms clause ≡ true) clauses
        → AllByRecursion (λ clause. holds_in m w clause ≡ true) clauses → first_due set clauses ≡ Some l → m.holds l w ≡ true
    first_due_holds [] l below h d = absurd (none≢some d)
    first_due_holds (clause ∷ clauses) l below h d =
        ⊎_elim (λ here. due_holds clause l below.0 here h.0) (λ later. first_due_holds clauses l below.1 h.1 later)
        (or_else_cases (due set clause) (first_due set clauses) l d)

-- what a due literal is: not set, nor its opposite, and of an atom that there is
pub due_facts : (atoms : ℕ) (set : List ℕ) (clause : Clause) (l : ℕ) → are_atoms_below atoms clause ≡ true → due set clause ≡ Some l
    → (atom_of l < atoms) × (names set (atom_of l) ≡ false)
due_facts atoms set [] l below d = absurd (none≢some d)
due_facts atoms set (x ∷ clause) l below d =
    let p = and_parts (ltb (atom_of x) atoms) (are_atoms_below atoms clause) below in
    ⊎_elim
    (λ f. due_facts atoms set clause l p.1 (sym (cond-true (is_false set x) (due set clause) (unset_due set x clause) f) ∙ d))
    (λ f.
    let u = due_unset set x clause l (sym (cond-false (is_false set x) (due set clause) (unset_due set x clause) f) ∙ d) in
    (subst (λ c. atom_of c < atoms) u.0 (ltb-true (atom_of x) atoms p.0), subst (λ c. names set (atom_of c) ≡ false) u.0 (names_has set x u.1 f)))
    (cases_Bool (is_false set x))

pub first_due_facts : (atoms : ℕ) (set : List ℕ) (clauses : List Clause) (l : ℕ) → AllByRecursion (λ clause. are_atoms_below atoms clause ≡ true) clauses
    → first_due set clauses ≡ Some l → (atom_of l < atoms) × (names set (atom_of l) ≡ false)
first_due_facts atoms set [] l below d = absurd (none≢some d)
first_due_facts atoms set (clause ∷ clauses) l below d =
    ⊎_elim (λ here. due_facts atoms set clause l below.0 here) (λ later. first_due_facts atoms set clauses l below.1 later)
    (or_else_cases (due set clause) (first_due set clauses) l d)

-- where every atom is set, a clause that is not dead has a literal that is set
pub alive_holds : (m : Meaning) (set : List ℕ) (w : List ℤ) → AllHold m set w → AllSet m.atoms set → (clause : Clause) → are_atoms_below m.atoms clause ≡ true
    → dead set clause ≡ false → holds_in m w clause ≡ true
alive_holds m set w hold all [] below alive = absurd (false≢true (sym alive))
alive_holds m set w hold all (l ∷ clause) below alive =
    let p = and_parts (ltb (atom_of l) m.atoms) (are_atoms_below m.atoms clause) below in
    let i = alive_holds m set w hold all clause p.1 in
    ⊎_elim (λ t. or_left (m.holds l w) (holds_in m w clause) (has_holds m w set l hold t))
    (λ u.
    ⊎_elim (λ f. or_right (m.holds l w) (holds_in m w clause) (i (⊎_elim (λ not-false. absurd (both_ways (is_false set l) not-false f)) (λ rest. rest) (and_cases (is_false set l) (dead set clause) alive))))
    (λ f. absurd (both_ways (names set (atom_of l)) (names_has set l u f) (all (atom_of l) (ltb-true (atom_of l) m.atoms p.0))))
    (cases_Bool (is_false set l)))
    (cases_Bool (is_true set l))

pub all_alive_hold : (m : Meaning) (set : List ℕ) (w : List ℤ) → AllHold m set w → AllSet m.atoms set → (clauses : List Clause)
    → AllByRecursion (λ clause. are_atoms_below m.atoms clause ≡ true) clauses → some_dead set clauses ≡ false → AllByRecursion (λ clause. holds_in m w clause ≡ true) clauses
all_alive_hold m set w hold all [] below alive = tt
all_alive_hold m set w hold all (clause ∷ clauses) below alive =
    let p = or_parts (dead set clause) (some_dead set clauses) alive in
    (alive_holds m set w hold all clause below.0 p.0, all_alive_hold m set w hold all clauses below.1 p.1)

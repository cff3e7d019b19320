-- Literals of different atoms: one more at the end, fewer, and that there are no more of them than atoms.
use Rattle.std.proofs.Common.{◌≡◌, ℕ, zero, suc, ◌<◌, ◌≤◌, true, false, cond, not, ◌&&◌, ◌||◌, eqb, ltb, List, [], ◌∷◌, ◌++◌, length, take, sym, refl, ap, ◌∙◌, subst, arith}
use Rattle.std.proofs.lemmas.Bool.{and_parts, and_from, or_parts, or_from, not-true, not_from_false, ltb-true, lt-ltb, eqb-true, eqb-false, cond_both}
use Rattle.std.proofs.lemmas.List.{length_push}
use Rattle.std.proofs.lemmas.Bool.Decides.{nat_tests}
use Rattle.std.specs.List.{AllByRecursion}
use Rattle.theory.specs.Meaning.{atom_of, names, different}

names_push : (codes : List ℕ) (code atom : ℕ) → names (codes ++ (code ∷ [])) atom ≡ (names codes atom || eqb (atom_of code) atom)
names_push [] code atom = grind arith
names_push (x ∷ codes) code atom = let h = names_push codes code atom in grind arith

-- the literals are of different atoms, however the number of atoms is written
pub different_at : (codes : List ℕ) {n m : ℕ} → different n codes ≡ true → n ≡ m → different m codes ≡ true
different_at codes d e = subst (λ k. different k codes ≡ true) e d

pub different_push : (atoms : ℕ) (codes : List ℕ) (code : ℕ) → different atoms codes ≡ true → names codes (atom_of code) ≡ false
    → atom_of code < atoms → different atoms (codes ++ (code ∷ [])) ≡ true
different_push atoms [] code d n l = grind (arith, nat_tests)
different_push atoms (x ∷ codes) code d n l =
    let p = and_parts (ltb (atom_of x) atoms) (not (names codes (atom_of x)) && different atoms codes) d in
    let q = and_parts (not (names codes (atom_of x))) (different atoms codes) p.1 in
    let r = or_parts (eqb (atom_of x) (atom_of code)) (names codes (atom_of code)) n in
    let other : eqb (atom_of code) (atom_of x) ≡ false = grind (arith, nat_tests) in
    let unnamed = names_push codes code (atom_of x) ∙ or_from (names codes (atom_of x)) (eqb (atom_of code) (atom_of x)) (not-true (names codes (atom_of x)) q.0) other in
    and_from (ltb (atom_of x) atoms) (not (names (codes ++ (code ∷ [])) (atom_of x)) && different atoms (codes ++ (code ∷ []))) p.0
    (and_from (not (names (codes ++ (code ∷ [])) (atom_of x))) (different atoms (codes ++ (code ∷ []))) (not_from_false (names (codes ++ (code ∷ [])) (atom_of x)) unnamed)
    (different_push atoms codes code q.1 r.1 l))

names_take : (k : ℕ) (codes : List ℕ) (atom : ℕ) → names codes atom ≡ false → names (take k codes) atom ≡ false
names_take zero codes atom h = refl
names_take (suc k) [] atom h = refl
names_take (suc k) (x ∷ codes) atom h =
    let p = or_parts (eqb (atom_of x) atom) (names codes atom) h in
    or_from (eqb (atom_of x) atom) (names (take k codes) atom) p.0 (names_take k codes atom p.1)

pub different_take : (atoms k : ℕ) (codes : List ℕ) → different atoms codes ≡ true → different atoms (take k codes) ≡ true
different_take atoms zero codes d = refl
different_take atoms (suc k) [] d = refl
different_take atoms (suc k) (x ∷ codes) d =
    let p = and_parts (ltb (atom_of x) atoms) (not (names codes (atom_of x)) && different atoms codes) d in
    let q = and_parts (not (names codes (atom_of x))) (different atoms codes) p.1 in
    let unnamed = names_take k codes (atom_of x) (not-true (names codes (atom_of x)) q.0) in
    and_from (ltb (atom_of x) atoms) (not (names (take k codes) (atom_of x)) && different atoms (take k codes)) p.0
    (and_from (not (names (take k codes) (atom_of x))) (different atoms (take k codes)) (not_from_false (names (take k codes) (atom_of x)) unnamed)
    (different_take atoms k codes q.1))

-- the codes that are not of an atom
abbrev without : ℕ → List ℕ → List ℕ
without atom [] = []
without atom (x ∷ codes) = cond (eqb (atom_of x) atom) (without atom codes) (x ∷ without atom codes)

without_absent : (atom : ℕ) (codes : List ℕ) → names codes atom ≡ false → without atom codes ≡ codes
without_absent atom [] h = refl
without_absent atom (x ∷ codes) h =
    let p = or_parts (eqb (atom_of x) atom) (names codes atom) h in
    ap (λ t. cond t (without atom codes) (x ∷ without atom codes)) p.0 ∙ ap (λ ys. x ∷ ys) (without_absent atom codes p.1)

names_without : (other atom : ℕ) (codes : List ℕ) → names codes atom ≡ false → names (without other codes) atom ≡ false
names_without other atom [] h = refl
names_without other atom (x ∷ codes) h =
    let p = or_parts (eqb (atom_of x) atom) (names codes atom) h in
    let i = names_without other atom codes p.1 in
    cond_both (eqb (atom_of x) other) (without other codes) (x ∷ without other codes) (λ ys. names ys atom ≡ false)
    (λ _. i) (λ _. or_from (eqb (atom_of x) atom) (names (without other codes) atom) p.0 i)

module _ (atoms : ℕ) where
  without_last : (codes : List ℕ) → different (suc atoms) codes ≡ true → different atoms (without atoms codes) ≡ true
  without_last [] d = refl
  without_last (x ∷ codes) d =
      let p = and_parts (ltb (atom_of x) (suc atoms)) (not (names codes (atom_of x)) && different (suc atoms) codes) d in
      let q = and_parts (not (names codes (atom_of x))) (different (suc atoms) codes) p.1 in
      let i = without_last codes q.1 in
      let unnamed = names_without atoms (atom_of x) codes (not-true (names codes (atom_of x)) q.0) in
      cond_both (eqb (atom_of x) atoms) (without atoms codes) (x ∷ without atoms codes) (λ ys. different atoms ys ≡ true)
      (λ _. i)
      (λ e.
      let below : atom_of x < atoms = omega (arith, ltb-true (atom_of x) (suc atoms) p.0, eqb-false (atom_of x) atoms e) in
      and_from (ltb (atom_of x) atoms) (not (names (without atoms codes) (atom_of x)) && different atoms (without atoms codes)) (lt-ltb (atom_of x) atoms below)
      (and_from (not (names (without atoms codes) (atom_of x))) (different atoms (without atoms codes)) (not_from_false (names (without atoms codes) (atom_of x)) unnamed) i))

  without_length : (codes : List ℕ) → different (suc atoms) codes ≡ true → length codes ≤ suc (length (without atoms codes))
  without_length [] d = omega arith
  without_length (x ∷ codes) d =
      let p = and_parts (ltb (atom_of x) (suc atoms)) (not (names codes (atom_of x)) && different (suc atoms) codes) d in
      let q = and_parts (not (names codes (atom_of x))) (different (suc atoms) codes) p.1 in
      let i = without_length codes q.1 in
      cond_both (eqb (atom_of x) atoms) (without atoms codes) (x ∷ without atoms codes) (λ ys. suc (length codes) ≤ suc (length ys))
      (λ e.
      let unnamed : names codes atoms ≡ false = ap (names codes) (sym (eqb-true (atom_of x) atoms e)) ∙ not-true (names codes (atom_of x)) q.0 in
      omega (arith, ap length (without_absent atoms codes unnamed)))
      (λ _. omega arith)

-- there are no more literals of different atoms than atoms
pub different_few : (atoms : ℕ) (codes : List ℕ) → different atoms codes ≡ true → length codes ≤ atoms
different_few zero [] d = omega arith
different_few zero (x ∷ codes) d =
    absurd (omega (arith, ltb-true (atom_of x) 0 (and_parts (ltb (atom_of x) 0) (not (names codes (atom_of x)) && different 0 codes) d).0))
different_few (suc atoms) codes d =
    omega (arith, without_length atoms codes d, different_few atoms (without atoms codes) (without_last atoms codes d))

pub different_room : (atoms : ℕ) (codes : List ℕ) (code : ℕ) → different atoms codes ≡ true → names codes (atom_of code) ≡ false
    → atom_of code < atoms → length codes < atoms
different_room atoms codes code d n l =
    let h = different_few atoms (codes ++ (code ∷ [])) (different_push atoms codes code d n l) in omega (arith, length_push codes code)

-- the codes are of atoms that there are
pub different_below : (atoms : ℕ) (codes : List ℕ) → different atoms codes ≡ true → AllByRecursion (λ code. atom_of code < atoms) codes
different_below atoms [] d = tt
different_below atoms (code ∷ codes) d =
    let p = and_parts (ltb (atom_of code) atoms) (not (names codes (atom_of code)) && different atoms codes) d in
    let q = and_parts (not (names codes (atom_of code))) (different atoms codes) p.1 in
    (ltb-true (atom_of code) atoms p.0, different_below atoms codes q.1)

-- What the check before a `set` says of the literal where it passes.
use Rattle.std.proofs.Common.{◌≡◌, ℕ, ◌<◌, ◌≤◌, true, false, List, [], ◌∷◌, ◌++◌, length, Some, None, Ok, Option, refl, arith}
use Rattle.std.proofs.lemmas.Bool.Decides.{nat_tests}
use Rattle.refusals.specs.declared.Refusal.{Refusal}
use Rattle.theory.proofs.Apart.{different_push, different_room}
use Rattle.theory.specs.Calls.{set_ground, ground_answer}
use Rattle.theory.specs.Meaning.{atom_of, names, different}

none_from_ok : (o : Option Refusal) → ground_answer o ≡ Ok tt → o ≡ None
none_from_ok None e = refl
none_from_ok (Some x) e = cc

module _ (atoms : ℕ) (stack : List ℕ) (code places : ℕ) where
  -- where the check passes, the atom is there and not set, and the list has a place for each atom
  pub set_accepted : ground_answer (set_ground atoms stack code places) ≡ Ok tt
      → (set_ground atoms stack code places ≡ None) × (atom_of code < atoms) × (names stack (atom_of code) ≡ false) × (atoms ≤ places)
  set_accepted e =
      let n = none_from_ok (set_ground atoms stack code places) e in
      (n, grind (arith, nat_tests), grind (arith, nat_tests), grind (arith, nat_tests))

  -- so there are fewer literals than atoms, and the literal joins them
  module _ (d : different atoms stack ≡ true) (e : ground_answer (set_ground atoms stack code places) ≡ Ok tt) where
    pub set_room : length stack < atoms
    set_room = let p = set_accepted e in different_room atoms stack code d p.2 p.1

    pub set_apart : different atoms (stack ++ (code ∷ [])) ≡ true
    set_apart = let p = set_accepted e in different_push atoms stack code d p.2 p.1
